-- What a line of a file of vectors is, by its digits and its arrow.
use Rattle.std.proofs.Common.{arith, ◌≡◌, ◌≢◌, ◌↔◌, ℕ, ◌*◌, ◌<◌, ◌≤◌, ◌==◌, Bool, true, false, if◌then◌else◌, List, [], ◌∷◌, length, take, drop, get_or, Some, None, Result, Ok, Err, refl, sym, ap, ◌∙◌, suc, zero}
use Rattle.std.proofs.lemmas.Grind.{common_steps}
use Rattle.std.proofs.lemmas.Bool.{ne_eqb}
use Rattle.std.specs.Prelude.{nat_lt}
use Rattle.hex.specs.Hex.{decode_of, decode_pairs}
use Rattle.hex.specs.declared.error.FromHexError.{FromHexError}
use Rattle.hex.proofs.HexLemmas.{decode_of-ok}
use Rattle.captures.specs.declared.capture.LineRefusal.{LineRefusal}
use Rattle.captures.specs.declared.capture.LineRefusal.TheVariants.{Syntax, Count}
use Rattle.captures.specs.Captures as capture
use Rattle.captures.specs.Captures.{most_octets, Capture, is_skipped, spelled_capture, capture_of}
use Rattle.captures.specs.Vectors.{Vector, Skipped, Malformed, TooLong, Expects, before_space, from_space, behind_arrow, spelled_vector, vector_of}

-- a line is cut at a place before which no space stands, and at which one stands, if any does
pub cut : (line : List ℕ) (place : ℕ) → place ≤ length line → ((k : ℕ) → k < place → get_or line k 0 ≡ 32 → ⊥)
    → (place < length line → get_or line place 0 ≡ 32) → (take place line ≡ before_space line) × (drop place line ≡ from_space line)
cut [] place within before at = (grind (arith, common_steps), grind (arith, common_steps))
cut (c ∷ cs) zero within before at = let e : c ≡ 32 = at (omega arith) in (rw e refl, rw e refl)
cut (c ∷ cs) (suc place) within before at =
    let e : (c == 32) ≡ false = ne_eqb c 32 (before 0 (omega arith)) in
    let others = cut cs place (omega arith) (λ k h. before (suc k) (omega arith)) (λ h. at (omega arith)) in
    (rw e (ap (λ t. c ∷ t) others.0), rw e others.1)

pub skipped : (line : List ℕ) → is_skipped line ≡ true → vector_of line ≡ Skipped
unfolding vector_of
skipped line front = rw front refl

unskipped : (line : List ℕ) → is_skipped line ≡ false
    → vector_of line ≡ spelled_vector (decode_of (before_space line)) (behind_arrow (from_space line))
unfolding vector_of
unskipped line front = rw front refl

without_arrow : (spelled : Result (List ℕ) FromHexError) → spelled_vector spelled None ≡ Malformed
without_arrow (Ok octets) = refl
without_arrow (Err e) = refl

pub no_arrow : (line : List ℕ) → is_skipped line ≡ false → behind_arrow (from_space line) ≡ None → vector_of line ≡ Malformed
no_arrow line front none = unskipped line front ∙ rw none (without_arrow (decode_of (before_space line)))

-- what a vector is whose digits are a capture
abbrev pub vector_by : Capture → List ℕ → Vector
vector_by capture.Skipped expected = Malformed
vector_by capture.Malformed expected = Malformed
vector_by capture.TooLong expected = TooLong
vector_by (capture.Frame octets) expected = Expects octets expected

by_count : (many : Bool) (octets expected : List ℕ)
    → (if many then TooLong else Expects octets expected) ≡ vector_by (if many then capture.TooLong else capture.Frame octets) expected
by_count true octets expected = refl
by_count false octets expected = refl

by_spelling : (c : ℕ) (digits expected : List ℕ) (spelled : Result (List ℕ) FromHexError) → decode_of (c ∷ digits) ≡ spelled
    → spelled_vector spelled (Some expected) ≡ vector_by (spelled_capture spelled) expected
by_spelling c digits expected (Err e) is = refl
by_spelling c digits expected (Ok []) is =
    let sized : length (c ∷ digits) ≡ 2 * length {A = ℕ} [] = (decode_of-ok (c ∷ digits) [] is).2 in absurd (omega arith)
by_spelling c digits expected (Ok (octet ∷ octets)) is = by_count (nat_lt most_octets (length (octet ∷ octets))) (octet ∷ octets) expected

by_digits : (digits expected : List ℕ) → (is_skipped digits ≡ true → digits ≡ [])
    → spelled_vector (decode_of digits) (Some expected) ≡ vector_by (capture_of digits) expected
unfolding capture_of decode_pairs
by_digits [] expected front = refl
by_digits (c ∷ digits) expected front = elim (c == 35) as (λ (b : Bool). b ≡ (c == 35) → spelled_vector (decode_of (c ∷ digits)) (Some expected) ≡ vector_by (if b then capture.Skipped else spelled_capture (decode_of (c ∷ digits))) expected) [ true ↦ λ e. cc (front (sym e)) | false ↦ λ e. by_spelling c digits expected (decode_of (c ∷ digits)) refl ] refl

-- the digits of a line that isn't skipped are none, where they look like a line to skip
none_skipped : (line : List ℕ) → is_skipped line ≡ false → is_skipped (before_space line) ≡ true → before_space line ≡ []
none_skipped [] front is = cc
none_skipped (c ∷ cs) front is = elim (c == 32) as (λ (b : Bool). is_skipped (if b then [] else c ∷ before_space cs) ≡ true → (if b then [] else c ∷ before_space cs) ≡ []) [ true ↦ λ h. refl | false ↦ λ h. cc ] is

pub at_arrow : (line expected : List ℕ) → is_skipped line ≡ false → behind_arrow (from_space line) ≡ Some expected
    → vector_of line ≡ vector_by (capture_of (before_space line)) expected
at_arrow line expected front some =
    unskipped line front ∙ rw some (by_digits (before_space line) expected (none_skipped line front))

-- a refused capture is a refused vector
pub refused_syntax : {A : Type 0} (r : Result Bool LineRefusal) (answer : Result A LineRefusal) (found : Capture) (refusal : LineRefusal) (expected : List ℕ) → r ≡ Err refusal → answer ≡ Err refusal
    → (r ≡ Ok false) ↔ (found ≡ capture.Skipped) → (r ≡ Err Syntax) ↔ (found ≡ capture.Malformed)
    → (answer ≡ Err Syntax) ↔ (vector_by found expected ≡ Malformed)
refused_syntax r answer capture.Skipped refusal expected is same skip syntax = let e : r ≡ Ok false = skip.1 refl in cc
refused_syntax r answer capture.Malformed refusal expected is same skip syntax = let e : r ≡ Err Syntax = syntax.1 refl in (λ h. refl, λ h. cc)
refused_syntax r answer capture.TooLong refusal expected is same skip syntax = (λ h. let e = syntax.0 (cc) in cc, λ h. cc)
refused_syntax r answer (capture.Frame octets) refusal expected is same skip syntax = (λ h. let e = syntax.0 (cc) in cc, λ h. cc)

pub refused_count : {A : Type 0} (r : Result Bool LineRefusal) (answer : Result A LineRefusal) (found : Capture) (refusal : LineRefusal) (expected : List ℕ) → r ≡ Err refusal → answer ≡ Err refusal
    → (r ≡ Err Count) ↔ (found ≡ capture.TooLong)
    → (answer ≡ Err Count) ↔ (vector_by found expected ≡ TooLong)
refused_count r answer capture.Skipped refusal expected is same count = (λ h. let e = count.0 (cc) in cc, λ h. cc)
refused_count r answer capture.Malformed refusal expected is same count = (λ h. let e = count.0 (cc) in cc, λ h. cc)
refused_count r answer capture.TooLong refusal expected is same count = let e : r ≡ Err Count = count.1 refl in (λ h. refl, λ h. cc)
refused_count r answer (capture.Frame octets) refusal expected is same count = (λ h. let e = count.0 (cc) in cc, λ h. cc)

pub never_skipped : (found : Capture) (expected : List ℕ) → vector_by found expected ≢ Skipped
never_skipped capture.Skipped expected = λ h. cc
never_skipped capture.Malformed expected = λ h. cc
never_skipped capture.TooLong expected = λ h. cc
never_skipped (capture.Frame octets) expected = λ h. cc

-- a line that isn't skipped, by its digits and by what follows the arrow
pub at_digits : (line digits expected : List ℕ) → is_skipped line ≡ false → digits ≡ before_space line
    → behind_arrow (from_space line) ≡ Some expected → vector_of line ≡ vector_by (capture_of digits) expected
at_digits line digits expected front is some = rw is (at_arrow line expected front some)

pub at_frame : (line digits expected octets : List ℕ) → is_skipped line ≡ false → digits ≡ before_space line
    → behind_arrow (from_space line) ≡ Some expected → capture_of digits ≡ capture.Frame octets → vector_of line ≡ Expects octets expected
at_frame line digits expected octets front is some found =
    at_digits line digits expected front is some ∙ ap (λ (t : Capture). vector_by t expected) found

pub at_no_frame : (line digits expected : List ℕ) → is_skipped line ≡ false → digits ≡ before_space line
    → behind_arrow (from_space line) ≡ Some expected → capture_of digits ≡ capture.Skipped → vector_of line ≡ Malformed
at_no_frame line digits expected front is some found =
    at_digits line digits expected front is some ∙ ap (λ (t : Capture). vector_by t expected) found

pub at_any : (line digits expected : List ℕ) → is_skipped line ≡ false → digits ≡ before_space line
    → behind_arrow (from_space line) ≡ Some expected → vector_of line ≢ Skipped
at_any line digits expected front is some =
    rw (at_digits line digits expected front is some) (never_skipped (capture_of digits) expected)

-- what an answer tells of a malformed line
pub malformed_skipped : (found : Vector) → found ≡ Malformed → found ≢ Skipped
malformed_skipped found e = λ h. cc

pub malformed_syntax : {A : Type 0} (answer : Result A LineRefusal) (found : Vector) → answer ≡ Err Syntax → found ≡ Malformed
    → (answer ≡ Err Syntax) ↔ (found ≡ Malformed)
malformed_syntax answer found is e = (λ h. e, λ h. is)

pub malformed_count : {A : Type 0} (answer : Result A LineRefusal) (found : Vector) → answer ≡ Err Syntax → found ≡ Malformed
    → (answer ≡ Err Count) ↔ (found ≡ TooLong)
malformed_count answer found is e = (λ h. cc, λ h. cc)

-- what an answer tells of a vector
pub read_syntax : {A : Type 0} (answer : Result A LineRefusal) (read : A) (found : Vector) (octets expected : List ℕ) → answer ≡ Ok read
    → found ≡ Expects octets expected → (answer ≡ Err Syntax) ↔ (found ≡ Malformed)
read_syntax answer read found octets expected is e = (λ h. cc, λ h. cc)

pub read_count : {A : Type 0} (answer : Result A LineRefusal) (read : A) (found : Vector) (octets expected : List ℕ) → answer ≡ Ok read
    → found ≡ Expects octets expected → (answer ≡ Err Count) ↔ (found ≡ TooLong)
read_count answer read found octets expected is e = (λ h. cc, λ h. cc)

pub skipped_syntax : {A : Type 0} (answer : Result A LineRefusal) (read : A) (found : Vector) → answer ≡ Ok read → found ≡ Skipped
    → (answer ≡ Err Syntax) ↔ (found ≡ Malformed)
skipped_syntax answer read found is e = (λ h. cc, λ h. cc)

pub skipped_count : {A : Type 0} (answer : Result A LineRefusal) (read : A) (found : Vector) → answer ≡ Ok read → found ≡ Skipped
    → (answer ≡ Err Count) ↔ (found ≡ TooLong)
skipped_count answer read found is e = (λ h. cc, λ h. cc)

pub line_syntax : {A : Type 0} (r : Result Bool LineRefusal) (answer : Result A LineRefusal) (found : Capture) (whole : Vector)
    (refusal : LineRefusal) (expected : List ℕ) → whole ≡ vector_by found expected → r ≡ Err refusal → answer ≡ Err refusal
    → (r ≡ Ok false) ↔ (found ≡ capture.Skipped) → (r ≡ Err Syntax) ↔ (found ≡ capture.Malformed)
    → (answer ≡ Err Syntax) ↔ (whole ≡ Malformed)
line_syntax r answer found whole refusal expected e is same skip syntax =
    rw e (refused_syntax r answer found refusal expected is same skip syntax)

pub line_count : {A : Type 0} (r : Result Bool LineRefusal) (answer : Result A LineRefusal) (found : Capture) (whole : Vector)
    (refusal : LineRefusal) (expected : List ℕ) → whole ≡ vector_by found expected → r ≡ Err refusal → answer ≡ Err refusal
    → (r ≡ Err Count) ↔ (found ≡ capture.TooLong) → (answer ≡ Err Count) ↔ (whole ≡ TooLong)
line_count r answer found whole refusal expected e is same count = rw e (refused_count r answer found refusal expected is same count)
