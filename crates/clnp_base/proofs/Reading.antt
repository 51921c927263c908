-- Lines and words, cut where the reader cuts them.
use Rattle.std.proofs.Common.{◌≡◌, ◌≢◌, ℕ, ◌+◌, ◌<◌, ◌≤◌, ◌==◌, inl, inr, List, [], ◌∷◌, ◌++◌, length, arith, take, drop, sym, ap, ◌∙◌, refl, true, false, add-one, zero, suc}
use Rattle.std.proofs.lemmas.Bool.{cases_Bool}
use Rattle.std.proofs.lemmas.Grind.{common_steps}
use Rattle.clnp_base.specs.Text.{lines_of, words_of, onto_first, begins_with}
use Rattle.clnp_base.specs.Cuts.{index_of, without_return}
use Rattle.std.specs.List.{AllByRecursion}
use Rattle.memchr.specs.Find.{Nowhere, Passes, is_byte}

index_of-here : (w c : ℕ) (cs : List ℕ) → (c == w) ≡ true → index_of w (c ∷ cs) ≡ 0
index_of-here w c cs t = rw t refl

index_of-next : (w c : ℕ) (cs : List ℕ) → (c == w) ≡ false → index_of w (c ∷ cs) ≡ index_of w cs + 1
index_of-next w c cs f = rw f refl

take-next : (c : ℕ) (cs : List ℕ) (n : ℕ) → take (n + 1) (c ∷ cs) ≡ c ∷ take n cs
take-next c cs n = rw add-one refl

drop-next : (c : ℕ) (cs : List ℕ) (n : ℕ) → drop (n + 1) (c ∷ cs) ≡ drop n cs
drop-next c cs n = rw add-one refl

-- an octet before a line that isn't empty
without_return-next : (c d : ℕ) (ds : List ℕ) (n : ℕ) → 0 < n → without_return (c ∷ take n (d ∷ ds)) ≡ c ∷ without_return (take n (d ∷ ds))
without_return-next c d ds zero h = absurd (omega arith)
without_return-next c d ds (suc n) h = refl

lines_of-here : (c : ℕ) (cs : List ℕ) (n : ℕ) → (c == 10) ≡ true → n ≡ 0 → lines_of (c ∷ cs) ≡ without_return (take n (c ∷ cs)) ∷ lines_of (drop (n + 1) (c ∷ cs))
lines_of-here c cs n t z = rw (z, t) refl

lines_of-before : (c d : ℕ) (ds : List ℕ) (n : ℕ) → (c == 10) ≡ false → (d == 10) ≡ true → n ≡ 1 → lines_of (c ∷ (d ∷ ds)) ≡ without_return (take n (c ∷ (d ∷ ds))) ∷ lines_of (drop (n + 1) (c ∷ (d ∷ ds)))
lines_of-before c d ds n f t z = rw z (elim (cases_Bool (c == 13)) [ inl a ↦ simp (f, t, a) | inr b ↦ simp (f, t, b) ])

lines_of-next : (c d : ℕ) (ds : List ℕ) → (c == 10) ≡ false → (d == 10) ≡ false → lines_of (c ∷ (d ∷ ds)) ≡ onto_first c (lines_of (d ∷ ds))
lines_of-next c d ds f g = elim (cases_Bool (c == 13)) [ inl a ↦ rw (f, a, g) refl | inr b ↦ rw (f, b) refl ]

lines_of-inside : (c d : ℕ) (ds : List ℕ) (n m : ℕ) → (c == 10) ≡ false → (d == 10) ≡ false → 0 < m → n ≡ m + 1
    → lines_of (d ∷ ds) ≡ without_return (take m (d ∷ ds)) ∷ lines_of (drop (m + 1) (d ∷ ds))
    → lines_of (c ∷ (d ∷ ds)) ≡ without_return (take n (c ∷ (d ∷ ds))) ∷ lines_of (drop (n + 1) (c ∷ (d ∷ ds)))
lines_of-inside c d ds n m f g p e ih =
    lines_of-next c d ds f g ∙ (ap (λ (l : List (List ℕ)). onto_first c l) ih
    ∙ rw (e, take-next c (d ∷ ds) m, without_return-next c d ds m p, drop-next c (d ∷ ds) (m + 1)) refl)

pub lines_of-at : (xs : List ℕ) (n : ℕ) → index_of 10 xs ≡ n → n < length xs → lines_of xs ≡ without_return (take n xs) ∷ lines_of (drop (n + 1) xs)
lines_of-at [] n e h = absurd (omega arith)
lines_of-at (c ∷ []) n e h =
    elim (cases_Bool (c == 10)) [
      | inl t ↦ lines_of-here c [] n t (sym e ∙ index_of-here 10 c [] t)
      | inr f ↦ let z = index_of-next 10 c [] f in absurd (omega (arith, e, z, h))
    ]
lines_of-at (c ∷ (d ∷ ds)) n e h =
    elim (cases_Bool (c == 10)) [
      | inl t ↦ lines_of-here c (d ∷ ds) n t (sym e ∙ index_of-here 10 c (d ∷ ds) t)
      | inr f ↦ elim (cases_Bool (d == 10)) [
        | inl t ↦ lines_of-before c d ds n f t (sym e ∙ (index_of-next 10 c (d ∷ ds) f ∙ ap (λ (i : ℕ). i + 1) (index_of-here 10 d ds t)))
        | inr g ↦
            lines_of-inside c d ds n (index_of 10 (d ∷ ds)) f g (omega (arith, index_of-next 10 d ds g))
            (sym e ∙ index_of-next 10 c (d ∷ ds) f)
            (lines_of-at (d ∷ ds) (index_of 10 (d ∷ ds)) refl (omega (arith, e, h, index_of-next 10 c (d ∷ ds) f)))
      ]
    ]

-- a character that ends no line
abbrev pub IsWithinLine : ℕ → Type 0
IsWithinLine c = ((c == 10) ≡ false) × ((c == 13) ≡ false)

pub lines_of-line : (text more : List ℕ) → AllByRecursion IsWithinLine text → lines_of (text ++ (10 ∷ more)) ≡ text ∷ lines_of more
lines_of-line [] more h = refl
lines_of-line (c ∷ cs) more h = rw (h.0.0, h.0.1) (ap (λ lines. onto_first c lines) (lines_of-line cs more h.1))

pub lines_of-last : (c : ℕ) (cs : List ℕ) → index_of 10 (c ∷ cs) ≡ length (c ∷ cs) → lines_of (c ∷ cs) ≡ (c ∷ cs) ∷ []
lines_of-last c [] h = grind (arith, common_steps)
lines_of-last c (d ∷ ds) h = grind (arith, common_steps, lines_of-last d ds)

pub without_return-at : (xs : List ℕ) (c : ℕ) → c ≡ 13 → without_return (xs ++ c ∷ []) ≡ xs
without_return-at [] c e = rw e refl
without_return-at (x ∷ []) c e = rw e refl
without_return-at (x ∷ (y ∷ ys)) c e = ap (λ (l : List ℕ). x ∷ l) (without_return-at (y ∷ ys) c e)

pub without_return-other : (xs : List ℕ) (c : ℕ) → c ≢ 13 → without_return (xs ++ c ∷ []) ≡ xs ++ c ∷ []
without_return-other [] c n = grind (arith, common_steps)
without_return-other (x ∷ []) c n = grind (arith, common_steps)
without_return-other (x ∷ (y ∷ ys)) c n = ap (λ (l : List ℕ). x ∷ l) (without_return-other (y ∷ ys) c n)

words_of-end : (c d : ℕ) (ds : List ℕ) (n : ℕ) → (c == 32) ≡ false → (d == 32) ≡ true → n ≡ 1 → words_of (c ∷ (d ∷ ds)) ≡ take n (c ∷ (d ∷ ds)) ∷ words_of (drop n (c ∷ (d ∷ ds)))
words_of-end c d ds n f t z = rw z (simp (f, t))

pub words_of-next : (c d : ℕ) (ds : List ℕ) → (c == 32) ≡ false → (d == 32) ≡ false → words_of (c ∷ (d ∷ ds)) ≡ onto_first c (words_of (d ∷ ds))
words_of-next c d ds f g = rw (f, g) refl

words_of-inside : (c d : ℕ) (ds : List ℕ) (n m : ℕ) → (c == 32) ≡ false → (d == 32) ≡ false → n ≡ m + 1
    → words_of (d ∷ ds) ≡ take m (d ∷ ds) ∷ words_of (drop m (d ∷ ds))
    → words_of (c ∷ (d ∷ ds)) ≡ take n (c ∷ (d ∷ ds)) ∷ words_of (drop n (c ∷ (d ∷ ds)))
words_of-inside c d ds n m f g e ih =
    words_of-next c d ds f g ∙ (ap (λ (l : List (List ℕ)). onto_first c l) ih
    ∙ rw (e, take-next c (d ∷ ds) m, drop-next c (d ∷ ds) m) refl)

pub words_of-at : (c : ℕ) (cs : List ℕ) (n : ℕ) → (c == 32) ≡ false → index_of 32 (c ∷ cs) ≡ n → words_of (c ∷ cs) ≡ take n (c ∷ cs) ∷ words_of (drop n (c ∷ cs))
words_of-at c [] n f e = let z : n ≡ 1 = sym e ∙ index_of-next 32 c [] f in rw z (rw f refl)
words_of-at c (d ∷ ds) n f e =
    elim (cases_Bool (d == 32)) [
      | inl t ↦ words_of-end c d ds n f t (sym e ∙ (index_of-next 32 c (d ∷ ds) f ∙ ap (λ (i : ℕ). i + 1) (index_of-here 32 d ds t)))
      | inr g ↦
          words_of-inside c d ds n (index_of 32 (d ∷ ds)) f g (sym e ∙ index_of-next 32 c (d ∷ ds) f)
          (words_of-at d ds (index_of 32 (d ∷ ds)) g refl)
    ]

-- a text that isn't empty and has no `\n` is one line
pub lines_of-one : (xs : List ℕ) → 0 < length xs → index_of 10 xs ≡ length xs → lines_of xs ≡ xs ∷ []
lines_of-one [] h e = absurd (omega arith)
lines_of-one (c ∷ cs) h e = lines_of-last c cs e

pub words_of-none : (xs : List ℕ) → length xs ≡ 0 → words_of xs ≡ []
words_of-none [] e = refl
words_of-none (c ∷ cs) e = absurd (omega arith)

-- a line that begins with no space begins with a word
pub words_of-one : (xs : List ℕ) (n : ℕ) → 0 < length xs → begins_with 32 xs ≡ false → index_of 32 xs ≡ n → words_of xs ≡ take n xs ∷ words_of (drop n xs)
words_of-one [] n h f e = absurd (omega arith)
words_of-one (c ∷ cs) n h f e = words_of-at c cs n f e

pub index_of-positive : (xs : List ℕ) → 0 < length xs → begins_with 32 xs ≡ false → 0 < index_of 32 xs
index_of-positive [] h f = absurd (omega arith)
index_of-positive (c ∷ cs) h f = omega (arith, index_of-next 32 c cs f)

pub onto_first-few : (c n : ℕ) (lines : List (List ℕ)) → length lines ≤ n → length (onto_first c lines) ≤ n + 1
onto_first-few c n [] h = omega arith
onto_first-few c n (first ∷ others) h = omega arith

pub lines_of-few : (xs : List ℕ) → length (lines_of xs) ≤ length xs
lines_of-few [] = omega arith
lines_of-few (c ∷ cs) = grind (arith, common_steps, lines_of-few cs, onto_first-few c (length cs) (lines_of cs) (lines_of-few cs))

pub words_of-few : (xs : List ℕ) → length (words_of xs) ≤ length xs
words_of-few [] = omega arith
words_of-few (c ∷ cs) = grind (arith, common_steps, words_of-few cs, onto_first-few c (length cs) (words_of cs) (words_of-few cs))

-- what stands in the front of a text stands there in the text
pub index_of-front : (w : ℕ) (xs : List ℕ) (n : ℕ) → index_of w (take n xs) < length (take n xs) → index_of w xs ≡ index_of w (take n xs)
index_of-front w [] zero h = absurd (omega (arith, h))
index_of-front w [] (suc n) h = absurd (omega (arith, h))
index_of-front w (c ∷ cs) zero h = absurd (omega (arith, h))
index_of-front w (c ∷ cs) (suc n) h =
    elim (cases_Bool (c == w)) [
      | inl t ↦ index_of-here w c cs t ∙ sym (index_of-here w c (take n cs) t)
      | inr f ↦
          index_of-next w c cs f
          ∙ (ap (λ (i : ℕ). i + 1) (index_of-front w cs n (omega (arith, h, index_of-next w c (take n cs) f)))
          ∙ sym (index_of-next w c (take n cs) f))
    ]

-- nowhere in a list before a place, and nowhere in the rest of it
behind : (w c : ℕ) (cs : List ℕ) (n : ℕ) → Nowhere (Passes (is_byte w) (c ∷ cs)) 0 (suc n) → Nowhere (Passes (is_byte w) cs) 0 n
behind w c cs n none = λ k low high passes. none (suc k) (omega arith) (omega (arith, high)) passes

-- the first octet isn't the one that is nowhere
front : (w c : ℕ) (cs : List ℕ) (n : ℕ) → Nowhere (Passes (is_byte w) (c ∷ cs)) 0 (suc n) → (c == w) ≡ false
front w c cs n none = elim (cases_Bool (c == w)) [ inl t ↦ absurd (none 0 (omega arith) (omega arith) t) | inr f ↦ f ]

-- an octet that a search finds first stands at its index
pub index_of_found : (w : ℕ) (xs : List ℕ) (k : ℕ) → k < length xs → Nowhere (Passes (is_byte w) xs) 0 k → Passes (is_byte w) xs k → index_of w xs ≡ k
index_of_found w [] k within none passes = absurd (omega arith)
index_of_found w (c ∷ cs) zero within none passes = index_of-here w c cs passes
index_of_found w (c ∷ cs) (suc k) within none passes =
    index_of-next w c cs (front w c cs k none)
    ∙ (ap (λ (i : ℕ). i + 1) (index_of_found w cs k (omega (arith, within)) (behind w c cs k none) passes) ∙ omega arith)

-- the index of an octet that a search doesn't find is the length
pub index_of_none : (w : ℕ) (xs : List ℕ) → Nowhere (Passes (is_byte w) xs) 0 (length xs) → index_of w xs ≡ length xs
index_of_none w [] none = refl
index_of_none w (c ∷ cs) none =
    index_of-next w c cs (front w c cs (length cs) none)
    ∙ (ap (λ (i : ℕ). i + 1) (index_of_none w cs (behind w c cs (length cs) none)) ∙ omega arith)
