-- What holds of each value that a reading gives, step by step.
use Rattle.std.proofs.Common.{◌≡◌, ℕ, ◌<◌, ◌&&◌, Bool, true, false, nat_le, List, [], ◌∷◌, length, Option, None, Some, Result, Ok, Err, IfOk, if◌then◌else◌, refl, ◌≤◌}
use Rattle.std.specs.List.{AllByRecursion, position}
use Rattle.std.specs.Str.{bytes_eq}
use Rattle.std.proofs.lemmas.Bool.{leb-true, and_parts}
use Rattle.std.proofs.lemmas.List.Quantifiers.{position-Some}
use Rattle.clnp_plan.specs.ClnpBase.Text.{decimal_of}
use Rattle.clnp_plan.specs.Configuration.{IsWithin}
use Rattle.scenario.specs.Words.{◌>>=◌, wanted, found, is_name, declared_word, number_within, number_word, after_prefix, number_behind}
use Rattle.scenario.specs.Grammar.{BadLine, at_line}
use Rattle.scenario.specs.declared.code.Code.{Code}
use Rattle.scenario.specs.declared.code.Code.TheVariants as bad
use Rattle.clnp_plan.proofs.ClnpBase.Choices.{one_of}
use Rattle.scenario.specs.Events.{wish_word, wish_words, options_in, life_in}
use Rattle.scenario.specs.declared.wish.Wish.{Wish}
use Rattle.scenario.specs.declared.wish.Wish.TheVariants.{Lasting, NoReport, Whole, Options}

pub behind_result : {A B E : Type 0} (r : Result A E) (f : A → Result B E) (P : B → Type 0)
    → ((x : A) → r ≡ Ok x → IfOk (f x) P) → IfOk (r >>= f) P
behind_result (Ok x) f P h = h x refl
behind_result (Err e) f P h = tt

pub behind_line : {A B : Type 0} (n : ℕ) (r : Result A Code) (f : A → Result B BadLine) (P : B → Type 0)
    → ((x : A) → r ≡ Ok x → IfOk (f x) P) → IfOk (at_line n r >>= f) P
behind_line n (Ok x) f P h = h x refl
behind_line n (Err e) f P h = tt

pub behind_found : {A B : Type 0} (o : Option A) (code : Code) (f : A → Result B Code) (P : B → Type 0)
    → ((x : A) → o ≡ Some x → IfOk (f x) P) → IfOk (found o code >>= f) P
behind_found (Some x) code f P h = h x refl
behind_found None code f P h = tt

pub behind_wanted : {B : Type 0} (b : Bool) (code : Code) (f : Unit {0} → Result B Code) (P : B → Type 0)
    → (b ≡ true → IfOk (f tt) P) → IfOk (wanted b code >>= f) P
behind_wanted true code f P h = h refl
behind_wanted false code f P h = tt

pub either_way : {A E : Type 0} (b : Bool) (r s : Result A E) (P : A → Type 0) → IfOk r P → IfOk s P → IfOk (if b then r else s) P
either_way b r s P h k = one_of (λ result. IfOk result P) b r s h k

pub if_found : {A : Type 0} (o : Option A) (code : Code) (P : A → Type 0) → ((x : A) → o ≡ Some x → P x) → IfOk (found o code) P
if_found (Some x) code P h = h x refl
if_found None code P h = tt

pub is_within : (low high n : ℕ) → low ≤ n → n ≤ high → IsWithin low high n
is_within low high n l m = record { least = l; most = m }

pub within_of : (low high n : ℕ) → (nat_le low n && nat_le n high) ≡ true → IsWithin low high n
within_of low high n h =
    let p = and_parts (nat_le low n) (nat_le n high) h in
    is_within low high n (leb-true low n p.0) (leb-true n high p.1)

within_if : (low high n : ℕ) (code : Code) (b : Bool) → (nat_le low n && nat_le n high) ≡ b
    → IfOk (found (if b then Some n else None) code) (IsWithin low high)
within_if low high n code true h = within_of low high n h
within_if low high n code false h = tt

-- a number that is found within bounds is within them
pub found_is_within : (low high : ℕ) (o : Option ℕ) (code : Code) → IfOk (found (number_within low high o) code) (IsWithin low high)
found_is_within low high None code = tt
found_is_within low high (Some n) code = within_if low high n code (nat_le low n && nat_le n high) refl

pub number_is_within : (low high : ℕ) (word : List ℕ) → IfOk (number_word low high word) (IsWithin low high)
number_is_within low high word = found_is_within low high (decimal_of word) bad.Number

pub number_behind_is_within : (prefix : List ℕ) (low high : ℕ) (word : List ℕ) → IfOk (number_behind prefix low high word) (IsWithin low high)
number_behind_is_within prefix low high word =
    behind_result (after_prefix prefix word) (number_word low high) (IsWithin low high) (λ digits _. number_is_within low high digits)

-- a step that gives a value with a property
pub behind_such : {A B E : Type 0} (r : Result A E) (f : A → Result B E) (Q : A → Type 0) (P : B → Type 0)
    → IfOk r Q → ((x : A) → Q x → IfOk (f x) P) → IfOk (r >>= f) P
behind_such (Ok x) f Q P q h = h x q
behind_such (Err e) f Q P q h = tt

pub behind_line_such : {A B : Type 0} (n : ℕ) (r : Result A Code) (f : A → Result B BadLine) (Q : A → Type 0) (P : B → Type 0)
    → IfOk r Q → ((x : A) → Q x → IfOk (f x) P) → IfOk (at_line n r >>= f) P
behind_line_such n (Ok x) f Q P q h = h x q
behind_line_such n (Err e) f Q P q h = tt

-- what is so where something holds that is wanted
pub if_wanted : (b : Bool) (code : Code) (P : Type 0) → (b ≡ true → P) → IfOk (wanted b code) (λ _. P)
if_wanted true code P h = h refl
if_wanted false code P h = tt

-- the place of a declared name is one of the list
pub declared_is_within : (names : List (List ℕ)) (word : List ℕ) → IfOk (declared_word names word) (λ place. place < length names)
declared_is_within names word =
    behind_wanted (is_name word) bad.Syntax (λ _. found (position (λ name. bytes_eq name word) names) bad.UnknownName) (λ place. place < length names)
    (λ _. if_found (position (λ name. bytes_eq name word) names) bad.UnknownName (λ place. place < length names)
    (λ place e. (position-Some (λ name. bytes_eq name word) names place [] e).0))

-- what holds of each wish of a line, of its options, and of its lifetime

pub wishes_such : (P : Wish → Type 0) → ((word : List ℕ) → IfOk (wish_word word) P) → (words : List (List ℕ)) → IfOk (wish_words words) (AllByRecursion P)
wishes_such P such [] = tt
wishes_such P such (word ∷ words) =
    behind_such (wish_word word) _ P (AllByRecursion P) (such word) (λ wish here.
    behind_such (wish_words words) _ (AllByRecursion P) (AllByRecursion P) (wishes_such P such words) (λ wishes rest. (here, rest)))

pub options_such : (P : Wish → Type 0) (Q : List ℕ → Type 0) → Q [] → ((octets : List ℕ) → P (Options octets) → Q octets)
    → (wishes : List Wish) → AllByRecursion P wishes → Q (options_in wishes)
options_such P Q none its [] h = none
options_such P Q none its (Options octets ∷ wishes) h = its octets h.0
options_such P Q none its (Lasting life ∷ wishes) h = options_such P Q none its wishes h.1
options_such P Q none its (NoReport ∷ wishes) h = options_such P Q none its wishes h.1
options_such P Q none its (Whole ∷ wishes) h = options_such P Q none its wishes h.1

pub life_such : (P : Wish → Type 0) (Q : ℕ → Type 0) → ((life : ℕ) → P (Lasting life) → Q life)
    → (own : ℕ) (wishes : List Wish) → Q own → AllByRecursion P wishes → Q (life_in own wishes)
life_such P Q its own [] here h = here
life_such P Q its own (Lasting life ∷ wishes) here h = its life h.0
life_such P Q its own (Options octets ∷ wishes) here h = life_such P Q its own wishes here h.1
life_such P Q its own (NoReport ∷ wishes) here h = life_such P Q its own wishes here h.1
life_such P Q its own (Whole ∷ wishes) here h = life_such P Q its own wishes here h.1
