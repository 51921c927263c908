-- What is told of a class is what is told where no other frames come.
use Rattle.std.proofs.Common.{◌≡◌, ℕ, Bool, true, false, List, [], ◌∷◌, ◌++◌, Option, None, Some, refl, sym, ap, ◌∙◌, subst, inl, inr, append-nil, append_assoc}
use Rattle.std.specs.Prelude.{filter}
use Rattle.std.proofs.lemmas.Bool.{cases_Bool}
use Rattle.std.proofs.lemmas.List.Elements.{filter-append}
use Rattle.pdus.proofs.ClnpBase.Choices.{is_equal}
use Rattle.pdus.proofs.ClnpBase.Filters.{filter-filter}
use Rattle.system_tables.specs.declared.fair_reassembly.came.Came.{Came}
use Rattle.system_tables.specs.FairReassembly.Classes.{Account, Shares, account_behind, accounts, accounts_of, buffers_behind, class_of, comes, each_behind, frames_of, is_class, is_of, limits_at, told_in}

pub one_passes : {X : Type 0} (p : X → Bool) (x : X) → p x ≡ true → filter p (x ∷ []) ≡ x ∷ []
one_passes p x t = rw t refl

pub one_fails : {X : Type 0} (p : X → Bool) (x : X) → p x ≡ false → filter p (x ∷ []) ≡ []
one_fails p x e = rw e refl

-- more elements give more, behind all others
pub each_behind-append : {A B : Type 0} (f : List A → A → B) (before xs ys : List A)
    → each_behind f before (xs ++ ys) ≡ each_behind f before xs ++ each_behind f (before ++ xs) ys
each_behind-append f before [] ys = ap (λ l. each_behind f l ys) (sym (append-nil before))
each_behind-append f before (x ∷ xs) ys =
    ap (λ l. f before x ∷ l)
    (each_behind-append f (before ++ x ∷ []) xs ys
    ∙ ap (λ l. each_behind f (before ++ x ∷ []) xs ++ each_behind f l ys) (append_assoc before (x ∷ []) xs))

-- a list made of what each element gives behind those before it, where what an element gives that passes a test depends on
-- those before it alone that pass it too
module _ {A B : Type 0} (f : List A → A → B) (p : A → Bool) (q : B → Bool) (same : (before : List A) (x : A) → q (f before x) ≡ p x)
    (own : (before : List A) (x : A) → p x ≡ true → f before x ≡ f (filter p before) x) where
  pub filtered : (before later : List A) → filter q (each_behind f before later) ≡ each_behind f (filter p before) (filter p later)
  filtered before [] = refl
  filtered before (x ∷ later) =
      let rest = filtered (before ++ x ∷ []) later in
      let front = filter-append p before (x ∷ []) in
      elim (cases_Bool (p x)) [
        | inl t ↦
            (let behind = front ∙ ap (λ (l : List A). filter p before ++ l) (one_passes p x t) in
            rw (same before x, t)
            (ap (λ (y : B). y ∷ filter q (each_behind f (before ++ x ∷ []) later)) (own before x t)
            ∙ ap (λ (l : List B). f (filter p before) x ∷ l)
            (rest ∙ ap (λ (l : List A). each_behind f l (filter p later)) behind)))
        | inr e ↦
            (let behind = front ∙ ap (λ (l : List A). filter p before ++ l) (one_fails p x e) ∙ append-nil (filter p before) in
            rw (same before x, e) (rest ∙ ap (λ (l : List A). each_behind f l (filter p later)) behind))
      ]

module _ (s : Shares) (place : ℕ) where
  told_alone : (class : Option ℕ) → is_class place class ≡ true → (before : List Came) (came : Came)
      → told_in s class before came ≡ told_in s class (frames_of s place before) came
  told_alone None e before came = absurd (cc)
  told_alone (Some other) e before came =
      let here : other ≡ place = is_equal other place e in
      ap (λ (frames : List Came). (comes (limits_at s other) came (buffers_behind (limits_at s other) frames)).told)
      (sym (filter-filter (is_of s other) (is_of s place) (λ x t. subst (λ (n : ℕ). is_of s n x ≡ true) here t) before))

  pub alone : (frames : List Came) → accounts_of s place frames ≡ accounts s (frames_of s place frames)
  alone frames =
      filtered (account_behind s) (is_of s place) (λ (account : Account). is_of s place account.came) (λ before came. refl)
      (λ before came t. ap (λ told. let account : Account = record { came = came; told = told } in account) (told_alone (class_of s came) t before came))
      [] frames

  pub same : (frames others : List Came) → frames_of s place frames ≡ frames_of s place others
      → accounts_of s place frames ≡ accounts_of s place others
  same frames others e = alone frames ∙ ap (accounts s) e ∙ sym (alone others)
