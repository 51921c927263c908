-- Tests, choices and options.
use Rattle.std.proofs.Common.{◌≡◌, ◌≢◌, ℕ, ◌<◌, ◌≤◌, ◌==◌, ◌||◌, nat_lt, Bool, true, false, Option, None, Some, is_some, if◌then◌else◌, refl, sym, arith, ⊎_elim}
use Rattle.std.specs.Option.{option_or}
use Rattle.std.specs.Prelude.{◌↔◌, is_none, option_map}
use Rattle.std.proofs.lemmas.Bool.{cond_both, le-ltb, lt-ltb, cases_lt}
use Rattle.std.proofs.lemmas.Bool.Decides.{nat_tests}

pub same_true : (b c : Bool) → (b ≡ true → c ≡ true) → (c ≡ true → b ≡ true) → b ≡ c
same_true true c f g = sym (f refl)
same_true false true f g = g refl
same_true false false f g = refl

pub is_equal : (a b : ℕ) → (a == b) ≡ true → a ≡ b
is_equal a b e = grind (arith, nat_tests)

pub not_equal : (a b : ℕ) → (a == b) ≡ false → a ≢ b
not_equal a b e = grind (arith, nat_tests)

pub equal_is : (a b : ℕ) → a ≡ b → (a == b) ≡ true
equal_is a b e = grind (arith, nat_tests)

pub not_below : (a b : ℕ) → nat_lt a b ≡ false → b ≤ a
not_below a b e = grind (arith, nat_tests)

pub below_not : (a b : ℕ) → b ≤ a → nat_lt a b ≡ false
below_not a b le = grind (arith, nat_tests)

pub or_false : (b : Bool) → (b || false) ≡ b
or_false true = refl
or_false false = refl

module _ {A : Type 0} where
  -- what holds either way
  pub one_of : (P : A → Type 0) (b : Bool) (x y : A) → P x → P y → P (if b then x else y)
  one_of P b x y p q = cond_both b x y P (λ t. p) (λ f. q)

  pub not_picked : (b : Bool) (x : A) → (if b then Some x else None) ≡ None → b ≡ false
  not_picked true x e = cc
  not_picked false x e = refl

  pub none_is : (option : Option A) → is_none option ≡ true → option ≡ None
  none_is None t = refl
  none_is (Some x) t = cc

  pub no_value : (option : Option A) → is_some option ≡ false → option ≡ None
  no_value None f = refl
  no_value (Some x) f = absurd (cc)

  pub none_mapped : {Y : Type 0} (f : A → Y) (option : Option A) → option_map f option ≡ None → option ≡ None
  none_mapped f None e = refl
  none_mapped f (Some x) e = absurd (cc)

  -- a choice that gives nothing
  pub if_none : (b : Bool) (answer : A) (rest : Option A) → (if b then Some answer else rest) ≡ None → (b ≡ false) × (rest ≡ None)
  if_none true answer rest e = absurd (cc)
  if_none false answer rest e = (refl, e)

  pub none_if : (b : Bool) (answer : A) (rest : Option A) → b ≡ false → rest ≡ None → (if b then Some answer else rest) ≡ None
  none_if b answer rest e h = rw e h

  -- an option that isn't some value is none
  pub none_since : (option : Option A) → ((x : A) → option ≡ Some x → ⊥) → option ≡ None
  none_since None not = refl
  none_since (Some x) not = absurd (not x refl)

  pub option_or-some : (a b : Option A) (x : A) → a ≡ Some x → option_or a b ≡ Some x
  option_or-some a b x e = rw e refl

  pub option_or-none : (a b o : Option A) → a ≡ None → b ≡ o → option_or a b ≡ o
  option_or-none a b o e h = rw e h

  pub option_or-parts : (a b : Option A) → option_or a b ≡ None → (a ≡ None) × (b ≡ None)
  option_or-parts None b h = (refl, h)
  option_or-parts (Some x) b h = absurd (cc)

  pub option_or-nothing : (a : Option A) → option_or a None ≡ a
  option_or-nothing None = refl
  option_or-nothing (Some x) = refl

  pub option_or-assoc : (a b c : Option A) → option_or (option_or a b) c ≡ option_or a (option_or b c)
  option_or-assoc None b c = refl
  option_or-assoc (Some x) b c = refl

  pub is_some-option_or : (a b c d : Option A) → is_some a ≡ is_some b → is_some c ≡ is_some d → is_some (option_or a c) ≡ is_some (option_or b d)
  is_some-option_or None None c d h k = k
  is_some-option_or (Some x) (Some y) c d h k = refl
  is_some-option_or (Some x) None c d h k = cc
  is_some-option_or None (Some y) c d h k = cc

-- a flag that is clear exactly where two numbers are equal says whether the first is below
pub flag_is : (more : Bool) (a b : ℕ) → a ≤ b → (more ≡ false) ↔ (a ≡ b) → more ≡ nat_lt a b
flag_is false a b h iff = let e = iff.0 refl in sym (le-ltb a b (omega arith))
flag_is true a b h iff =
    ⊎_elim (λ (k : a < b). sym (lt-ltb a b k)) (λ (k : b ≤ a). let e : true ≡ false = iff.1 (omega arith) in cc) (cases_lt a b)
