-- What 24 octets are, by the numbers that are read of them.
use Rattle.std.proofs.Common.{◌≡◌, ◌≢◌, ℕ, ◌^◌, ◌%◌, inl, inr, Bool, true, false, Option, Some, None, List, [], ◌++◌, length, drop, refl, sym, ap, ◌∙◌, subst, arith}
use Rattle.std.specs.Prelude.{◌==◌, ◌&&◌, if◌then◌else◌}
use Rattle.std.proofs.lemmas.Bool.{and_parts, cases_eq}
use Rattle.std.proofs.lemmas.Bool.Decides.{nat_tests}
use Rattle.std.proofs.lemmas.List.{append-nil, drop_all}
use Rattle.hex.specs.Hex.{IsBytes}
use Rattle.pdus.proofs.ClnpBase.Choices.{is_equal}
use Rattle.pdus.proofs.ClnpBase.ListSteps.{bytes_of_drop}
use Rattle.frame_links.specs.declared.pcap_frames.order.Order.{Order}
use Rattle.frame_links.specs.declared.pcap_frames.order.Order.TheVariants.{HighFirst, LowFirst}
use Rattle.frame_links.specs.PcapFrames.Faults.{HasNoMagic, HasOtherVersion, HasOtherLink}
use Rattle.frame_links.specs.PcapFrames.File.{Header, FitsHeader, IsHeaderOf, header_octets, magic}
use Rattle.frame_links.specs.PcapFrames.Magic.{is_magic, order_told}
use Rattle.frame_links.specs.PcapFrames.Numbers.{number, value}
use Rattle.frame_links.proofs.PcapFrames.HeaderFacts.{magic_fits, versioned}
use Rattle.frame_links.proofs.PcapFrames.NumberFacts.{four_behind, two_behind, value-fits, value-number}

-- ---- magic numbers

magic_one : (x : ℕ) → is_magic x ≡ true → (nanoseconds : Bool) × (x ≡ magic nanoseconds)
magic_one x is = elim (cases_eq x (magic false)) [
  | inl microseconds ↦ (false, microseconds)
  | inr other ↦ (true, the_other x is other)
]
  where
    the_other : (y : ℕ) → is_magic y ≡ true → (y ≡ magic false → ⊥) → y ≡ magic true
    the_other y h k = grind (arith, nat_tests)

not_microseconds : (x : ℕ) → is_magic x ≡ false → x ≢ magic false
not_microseconds x none e = grind (arith, nat_tests)

not_nanoseconds : (x : ℕ) → is_magic x ≡ false → x ≢ magic true
not_nanoseconds x none e = grind (arith, nat_tests)

magic_none : (x : ℕ) → is_magic x ≡ false → (nanoseconds : Bool) → x ≢ magic nanoseconds
magic_none x none true = not_nanoseconds x none
magic_none x none false = not_microseconds x none

-- the test in one order
abbrev in_order : Order → (high low : Bool) → Bool
in_order HighFirst high low = high
in_order LowFirst high low = low

-- what the two tests tell
record Asked (high low : Bool) (told : Option Order) : Type 0 where
  pub one : (order : Order) → told ≡ Some order → in_order order high low ≡ true
  pub none : told ≡ None → (order : Order) → in_order order high low ≡ false

asked : (high low : Bool) → Asked high low (if high then Some HighFirst else if low then Some LowFirst else None)
asked true low = record { one = λ order e. first_is order low e; none = λ e. absurd (cc) }
  where
    first_is : (order : Order) (b : Bool) → Some HighFirst ≡ Some order → in_order order true b ≡ true
    first_is HighFirst b e = refl
    first_is LowFirst b e = absurd (cc)
asked false true = record { one = λ order e. second_is order e; none = λ e. absurd (cc) }
  where
    second_is : (order : Order) → Some LowFirst ≡ Some order → in_order order false true ≡ true
    second_is HighFirst e = absurd (cc)
    second_is LowFirst e = refl
asked false false = record { one = λ order e. absurd (cc); none = λ e order. neither order }
  where
    neither : (order : Order) → in_order order false false ≡ false
    neither HighFirst = refl
    neither LowFirst = refl

in_each : (order : Order) (octets : List ℕ)
    → in_order order (is_magic (value HighFirst 4 octets)) (is_magic (value LowFirst 4 octets)) ≡ is_magic (value order 4 octets)
in_each HighFirst octets = refl
in_each LowFirst octets = refl

pub magic_told : (octets : List ℕ) (order : Order) → order_told octets ≡ Some order
    → (nanoseconds : Bool) × (value order 4 octets ≡ magic nanoseconds)
magic_told octets order e =
    magic_one (value order 4 octets)
    (sym (in_each order octets) ∙ (asked (is_magic (value HighFirst 4 octets)) (is_magic (value LowFirst 4 octets))).one order e)

pub none_told : (octets : List ℕ) → order_told octets ≡ None → (order : Order) (nanoseconds : Bool) → value order 4 octets ≢ magic nanoseconds
none_told octets e order =
    magic_none (value order 4 octets)
    (sym (in_each order octets) ∙ (asked (is_magic (value HighFirst 4 octets)) (is_magic (value LowFirst 4 octets))).none e order)

-- ---- headers

-- 24 octets, the first four of which are a magic number
pub record HasMagic (order : Order) (octets : List ℕ) : Type 0 where
  pub bytes : IsBytes octets
  pub whole : length octets ≡ 24
  pub nanoseconds : Bool
  pub tells : value order 4 octets ≡ magic nanoseconds

pub no_magic : (octets : List ℕ) → ((order : Order) (nanoseconds : Bool) → value order 4 octets ≢ magic nanoseconds) → HasNoMagic octets
no_magic octets none order nanoseconds rest e =
    none order nanoseconds (ap (value order 4) e ∙ value-number order 4 (magic nanoseconds) rest (magic_fits nanoseconds))

-- magic number and version
version_read : (order : Order) (octets : List ℕ) (m : HasMagic order octets)
    → octets ≡ versioned order m.nanoseconds (value order 2 (drop 4 octets)) (value order 2 (drop 6 octets)) (drop 8 octets)
version_read order octets m =
    let whole = m.whole in
    let one = four_behind order octets 0 m.bytes (omega arith) in
    let two = two_behind order octets 4 m.bytes (omega arith) in
    let three = two_behind order octets 6 m.bytes (omega arith) in
    one
    ∙ ap (λ (x : ℕ). number order 4 x ++ drop 4 octets) m.tells
    ∙ ap (λ (rest : List ℕ). number order 4 (magic m.nanoseconds) ++ rest)
    (two ∙ ap (λ (rest : List ℕ). number order 2 (value order 2 (drop 4 octets)) ++ rest) three)

pub other_version : (order : Order) (octets : List ℕ) → HasMagic order octets
    → ¬ ((value order 2 (drop 4 octets) ≡ 2) × (value order 2 (drop 6 octets) ≡ 4))
    → HasOtherVersion octets (value order 2 (drop 4 octets)) (value order 2 (drop 6 octets))
other_version order octets m other =
    let major = value-fits order 2 (drop 4 octets) (bytes_of_drop octets 4 m.bytes) in
    let minor = value-fits order 2 (drop 6 octets) (bytes_of_drop octets 6 m.bytes) in
    record {
      order = order;
      nanoseconds = m.nanoseconds;
      rest = drop 8 octets;
      spelled = version_read order octets m;
      major_fits = omega arith;
      minor_fits = omega arith;
      other = other;
    }

-- the header that the numbers tell
abbrev pub header_read : Order → Bool → List ℕ → Header
header_read order nanoseconds octets =
    record {
      nanoseconds = nanoseconds;
      zone = value order 4 (drop 8 octets);
      accuracy = value order 4 (drop 12 octets);
      snap = value order 4 (drop 16 octets);
      link = value order 4 (drop 20 octets);
    }

header_fits : (order : Order) (nanoseconds : Bool) (octets : List ℕ) → IsBytes octets → FitsHeader (header_read order nanoseconds octets)
header_fits order nanoseconds octets bytes =
    let zone = value-fits order 4 (drop 8 octets) (bytes_of_drop octets 8 bytes) in
    let accuracy = value-fits order 4 (drop 12 octets) (bytes_of_drop octets 12 bytes) in
    let snap = value-fits order 4 (drop 16 octets) (bytes_of_drop octets 16 bytes) in
    let link = value-fits order 4 (drop 20 octets) (bytes_of_drop octets 20 bytes) in
    record { zone = omega arith; accuracy = omega arith; snap = omega arith; link = omega arith }

-- a header of version 2.4, of whatever link
pub header_spelled : (order : Order) (octets : List ℕ) (m : HasMagic order octets)
    → value order 2 (drop 4 octets) ≡ 2 → value order 2 (drop 6 octets) ≡ 4
    → octets ≡ header_octets order (header_read order m.nanoseconds octets)
header_spelled order octets m major minor =
    let whole = m.whole in
    let four = four_behind order octets 8 m.bytes (omega arith) in
    let five = four_behind order octets 12 m.bytes (omega arith) in
    let six = four_behind order octets 16 m.bytes (omega arith) in
    let seven = four_behind order octets 20 m.bytes (omega arith) in
    let none : drop 24 octets ≡ [] = drop_all 24 octets (omega arith) in
    let z = number order 4 (value order 4 (drop 8 octets)) in
    let a = number order 4 (value order 4 (drop 12 octets)) in
    let s = number order 4 (value order 4 (drop 16 octets)) in
    let l = number order 4 (value order 4 (drop 20 octets)) in
    version_read order octets m
    ∙ ap (λ (x : ℕ). versioned order m.nanoseconds x (value order 2 (drop 6 octets)) (drop 8 octets)) major
    ∙ ap (λ (x : ℕ). versioned order m.nanoseconds 2 x (drop 8 octets)) minor
    ∙ ap (λ (rest : List ℕ). versioned order m.nanoseconds 2 4 rest)
    (four
    ∙ ap (λ (rest : List ℕ). z ++ rest)
    (five
    ∙ ap (λ (rest : List ℕ). a ++ rest)
    (six
    ∙ ap (λ (rest : List ℕ). s ++ rest) (seven ∙ ap (λ (rest : List ℕ). l ++ rest) none ∙ append-nil l))))

pub other_link : (order : Order) (octets : List ℕ) → HasMagic order octets
    → value order 2 (drop 4 octets) ≡ 2 → value order 2 (drop 6 octets) ≡ 4 → value order 4 (drop 20 octets) % 2 ^ 16 ≢ 1
    → HasOtherLink octets (value order 4 (drop 20 octets))
other_link order octets m major minor other =
    record {
      order = order;
      header = header_read order m.nanoseconds octets;
      fits = header_fits order m.nanoseconds octets m.bytes;
      spelled = header_spelled order octets m major minor;
      told = refl;
      other = other;
    }

pub right_header : (order : Order) (octets : List ℕ) → HasMagic order octets
    → value order 2 (drop 4 octets) ≡ 2 → value order 2 (drop 6 octets) ≡ 4 → value order 4 (drop 20 octets) % 2 ^ 16 ≡ 1
    → IsHeaderOf order octets
right_header order octets m major minor ethernet =
    record {
      header = header_read order m.nanoseconds octets;
      right = record { fits = header_fits order m.nanoseconds octets m.bytes; ethernet = ethernet };
      spelled = header_spelled order octets m major minor;
    }

-- ---- a header judged by the numbers that were read

-- 24 octets, and the order that their magic number tells
pub record IsToldHeader (order : Order) (octets : List ℕ) (major minor : ℕ) : Type 0 where
  pub bytes : IsBytes octets
  pub whole : length octets ≡ 24
  pub told : order_told octets ≡ Some order
  pub major_is : major ≡ value order 2 (drop 4 octets)
  pub minor_is : minor ≡ value order 2 (drop 6 octets)

pub told_header : (order : Order) (octets : List ℕ) (major minor : ℕ) → IsBytes octets → length octets ≡ 24 → order_told octets ≡ Some order
    → major ≡ value order 2 (drop 4 octets) → minor ≡ value order 2 (drop 6 octets) → IsToldHeader order octets major minor
told_header order octets major minor bytes whole told major_is minor_is =
    record { bytes = bytes; whole = whole; told = told; major_is = major_is; minor_is = minor_is }

has_magic : (order : Order) (octets : List ℕ) (major minor : ℕ) → IsToldHeader order octets major minor → HasMagic order octets
has_magic order octets major minor t =
    let m = magic_told octets order t.told in
    record { bytes = t.bytes; whole = t.whole; nanoseconds = m.0; tells = m.1 }

pub judged_version : (order : Order) (octets : List ℕ) (major minor : ℕ) → IsToldHeader order octets major minor
    → ¬ ((major ≡ 2) × (minor ≡ 4)) → HasOtherVersion octets major minor
judged_version order octets major minor t other =
    subst (λ (x : ℕ). HasOtherVersion octets x minor) (sym t.major_is)
    (subst (λ (x : ℕ). HasOtherVersion octets (value order 2 (drop 4 octets)) x) (sym t.minor_is)
    (other_version order octets (has_magic order octets major minor t) (λ both. other (t.major_is ∙ both.0, t.minor_is ∙ both.1))))

pub judged_link : (order : Order) (octets : List ℕ) (major minor link : ℕ) → IsToldHeader order octets major minor → major ≡ 2 → minor ≡ 4
    → link ≡ value order 4 (drop 20 octets) → link % 2 ^ 16 ≢ 1 → HasOtherLink octets link
judged_link order octets major minor link t two four is other =
    subst (λ (x : ℕ). HasOtherLink octets x) (sym is)
    (other_link order octets (has_magic order octets major minor t) (sym t.major_is ∙ two) (sym t.minor_is ∙ four)
    (λ e. other (ap (λ (n : ℕ). n % 2 ^ 16) is ∙ e)))

pub judged_right : (order : Order) (octets : List ℕ) (major minor link : ℕ) → IsToldHeader order octets major minor → major ≡ 2 → minor ≡ 4
    → link ≡ value order 4 (drop 20 octets) → link % 2 ^ 16 ≡ 1 → IsHeaderOf order octets
judged_right order octets major minor link t two four is ethernet =
    right_header order octets (has_magic order octets major minor t) (sym t.major_is ∙ two) (sym t.minor_is ∙ four)
    (ap (λ (n : ℕ). n % 2 ^ 16) (sym is) ∙ ethernet)

-- what the two tests tell
pub right_version : (major minor : ℕ) → true ≡ ((major == 2) && (minor == 4)) → (major ≡ 2) × (minor ≡ 4)
right_version major minor e =
    let both = and_parts (major == 2) (minor == 4) (sym e) in
    (is_equal major 2 both.0, is_equal minor 4 both.1)

pub wrong_version : (major minor : ℕ) → false ≡ ((major == 2) && (minor == 4)) → ¬ ((major ≡ 2) × (minor ≡ 4))
wrong_version major minor e both =
    let two = both.0 in
    let four = both.1 in
    grind (arith, nat_tests)
