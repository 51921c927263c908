-- Titles one after another.
use Rattle.std.proofs.Common.{◌≡◌, ◌∙◌, sym, ap, refl, ℕ, zero, suc, ◌+◌, ◌-◌, ◌≤◌, ◌<◌, ◌⊎◌, inl, inr, true, false, List, [], ◌∷◌, ◌++◌, length, take, drop, get_or, arith, length-append, append_assoc}
use Rattle.std.specs.Prelude.{All}
use Rattle.std.proofs.lemmas.Bool.{le-leb, lt-leb, and_left, and_right, cases_lt, false≢true}
use Rattle.std.proofs.lemmas.List.{take_all, length-take, length-take-le, length-drop, take-append-drop}
use Rattle.std.proofs.lemmas.List.Elements.{All-nil, All-cons, All-head, All-tail}
use Rattle.std.proofs.Math.Seq.{drop-append_seam, take-append-add}
use Rattle.pdus.specs.ClnpOptions.Grammar.{IsTitle, joined}
use Rattle.pdus.specs.ClnpOptions.Rules.{are_titles_after, are_titles}

pub are_titles_after-drop : (skipped : ℕ) (xs : List ℕ) → skipped ≤ length xs → are_titles_after skipped xs ≡ are_titles (drop skipped xs)
unfolding are_titles_after
are_titles_after-drop zero xs h = refl
are_titles_after-drop (suc k) [] h = absurd (omega arith)
are_titles_after-drop (suc k) (x ∷ xs) h = are_titles_after-drop k xs (omega arith)

pub are_titles_after-short : (skipped : ℕ) (xs : List ℕ) → length xs < skipped → are_titles_after skipped xs ≡ false
unfolding are_titles_after
are_titles_after-short zero xs h = absurd (omega arith)
are_titles_after-short (suc k) [] h = refl
are_titles_after-short (suc k) (x ∷ xs) h = are_titles_after-short k xs (omega arith)

pub are_titles-nil : are_titles [] ≡ true
unfolding are_titles_after
are_titles-nil = refl

pub are_titles-cons : (size : ℕ) (rest : List ℕ) → 1 ≤ size → size ≤ 20 → size ≤ length rest → are_titles (size ∷ rest) ≡ are_titles (drop size rest)
unfolding are_titles_after
are_titles-cons size rest low high fits = rw (le-leb 1 size low, le-leb size 20 high) (are_titles_after-drop size rest fits)

pub are_titles-size : (size : ℕ) (rest : List ℕ) → (size < 1) ⊎ (20 < size) → are_titles (size ∷ rest) ≡ false
unfolding are_titles_after
are_titles-size size rest (inl h) = rw (lt-leb 1 size h) refl
are_titles-size size rest (inr h) = and_left _ _ (and_right _ _ (lt-leb size 20 h))

pub are_titles-cut_off : (size : ℕ) (rest : List ℕ) → length rest < size → are_titles (size ∷ rest) ≡ false
unfolding are_titles_after
are_titles-cut_off size rest h = and_right _ _ (are_titles_after-short size rest h)

-- what the first octet tells, by its place
pub are_titles-bad : (xs : List ℕ) → 1 ≤ length xs → ((get_or xs 0 0 < 1) ⊎ (20 < get_or xs 0 0)) ⊎ (length xs < get_or xs 0 0 + 1) → are_titles xs ≡ false
are_titles-bad [] h bad = absurd (omega arith)
are_titles-bad (x ∷ xs) h (inl bad) = are_titles-size x xs bad
are_titles-bad (x ∷ xs) h (inr bad) = are_titles-cut_off x xs (omega arith)

pub are_titles-step : (xs : List ℕ) (m n : ℕ) → 1 ≤ length xs → 1 ≤ get_or xs 0 0 → get_or xs 0 0 ≤ 20 → get_or xs 0 0 + 1 ≤ length xs → m ≡ length xs - 1 → n ≡ length (take m (drop 1 xs)) - get_or xs 0 0 → are_titles (take n (drop (get_or xs 0 0) (take m (drop 1 xs)))) ≡ are_titles xs
are_titles-step [] m n h low high fits e f = absurd (omega arith)
are_titles-step (x ∷ xs) m n h low high fits e f =
    let within : x ≤ length xs = omega arith in
    let all : take m xs ≡ xs = take_all m xs (omega arith) in
    let left : take n (drop x xs) ≡ drop x xs = take_all n (drop x xs) (omega (arith, length-drop x xs, ap length all)) in
    rw (all, left) (sym (are_titles-cons x xs low high within))

pub are_titles-empty : (xs : List ℕ) → length xs < 1 → are_titles xs ≡ true
are_titles-empty [] h = are_titles-nil
are_titles-empty (x ∷ xs) h = absurd (omega arith)

pub joined-nil : joined [] ≡ []
unfolding joined
joined-nil = refl

pub joined-cons : (title : List ℕ) (others : List (List ℕ)) → joined (title ∷ others) ≡ length title ∷ (title ++ joined others)
unfolding joined
joined-cons title others = refl

pub joined-append : (ts us : List (List ℕ)) → joined (ts ++ us) ≡ joined ts ++ joined us
unfolding joined
joined-append [] us = refl
joined-append (t ∷ ts) us = ap (λ s. (length t ∷ t) ++ s) (joined-append ts us) ∙ sym (append_assoc (length t ∷ t) (joined ts) (joined us))

-- titles that are joined fill the octets
pub are_titles-joined : (ts : List (List ℕ)) → All IsTitle ts → are_titles (joined ts) ≡ true
unfolding joined
are_titles-joined [] h = are_titles-nil
are_titles-joined (t ∷ ts) h =
    let it : IsTitle t = All-head IsTitle t ts h in
    let fits : length t ≤ length (t ++ joined ts) = omega (arith, length-append t (joined ts)) in
    are_titles-cons (length t) (t ++ joined ts) it.0 it.1 fits
    ∙ rw (drop-append_seam t (joined ts)) (are_titles-joined ts (All-tail IsTitle t ts h))

pub record AreJoined (octets : List ℕ) : Type 0 where
  pub titles : List (List ℕ)
  pub each : All IsTitle titles
  pub filled : octets ≡ joined titles

-- the length of the first title passes its test
size_of_first : (size : ℕ) (rest : List ℕ) → are_titles (size ∷ rest) ≡ true → (1 ≤ size) × (size ≤ 20) × (size ≤ length rest)
size_of_first size rest h = (
  elim (cases_lt size 1) [ inl k ↦ absurd (false≢true (sym (are_titles-size size rest (inl k)) ∙ h)) | inr k ↦ k ],
  elim (cases_lt 20 size) [ inl k ↦ absurd (false≢true (sym (are_titles-size size rest (inr k)) ∙ h)) | inr k ↦ k ],
  elim (cases_lt (length rest) size) [ inl k ↦ absurd (false≢true (sym (are_titles-cut_off size rest k) ∙ h)) | inr k ↦ k ],
)

joined_after : (skipped : ℕ) (xs : List ℕ) → are_titles (drop skipped xs) ≡ true → AreJoined (drop skipped xs)
unfolding joined
joined_after zero [] h = record { titles = []; each = All-nil IsTitle; filled = refl }
joined_after (suc k) [] h = record { titles = []; each = All-nil IsTitle; filled = refl }
joined_after zero (size ∷ rest) h =
    let s = size_of_first size rest h in
    let j = joined_after size rest (sym (are_titles-cons size rest s.0 s.1 s.2) ∙ h) in
    let l : length (take size rest) ≡ size = length-take-le size rest s.2 in
    record {
      titles = take size rest ∷ j.titles;
      each = All-cons IsTitle (take size rest) j.titles (rw l s.0, rw l s.1) j.each;
      filled = rw (l, ← j.filled, take-append-drop size rest) refl;
    }
joined_after (suc k) (x ∷ xs) h = joined_after k xs h

pub joined_of : (xs : List ℕ) → are_titles xs ≡ true → AreJoined xs
joined_of xs h = joined_after 0 xs h

-- whole titles that are a front of titles are some of the first ones
pub front_of_titles : (ts : List (List ℕ)) (k : ℕ) → All IsTitle ts → k < length (joined ts) → are_titles (take k (joined ts)) ≡ true → (n : ℕ) × (n < length ts) × (k ≡ length (joined (take n ts)))
unfolding joined
front_of_titles [] k h below f = absurd (omega arith)
front_of_titles (t ∷ ts) zero h below f = (0, omega arith, refl)
front_of_titles (t ∷ ts) (suc k) h below f =
    let s = size_of_first (length t) (take k (t ++ joined ts)) f in
    let within : length t ≤ k = omega (arith, s.2, length-take k (t ++ joined ts)) in
    let e : take k (t ++ joined ts) ≡ t ++ take (k - length t) (joined ts) =
    ap (λ m. take m (t ++ joined ts)) (omega arith) ∙ take-append-add t (joined ts) (k - length t) in
    let g : are_titles (take (k - length t) (joined ts)) ≡ true =
    ap are_titles (sym (drop-append_seam t (take (k - length t) (joined ts))) ∙ ap (drop (length t)) (sym e)) ∙ sym (are_titles-cons (length t) (take k (t ++ joined ts)) s.0 s.1 s.2) ∙ f in
    let r = front_of_titles ts (k - length t) (All-tail IsTitle t ts h) (omega (arith, length-append t (joined ts))) g in
    (suc r.0, omega (arith, r.1), omega (arith, r.2, length-append t (joined (take r.0 ts))))

pub joined-take : (n : ℕ) (ts : List (List ℕ)) → joined ts ≡ joined (take n ts) ++ joined (drop n ts)
joined-take n ts = ap joined (sym (take-append-drop n ts)) ∙ joined-append (take n ts) (drop n ts)
