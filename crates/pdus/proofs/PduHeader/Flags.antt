-- The octet of flags and type, written and read.
use Rattle.std.proofs.Common.{◌≡◌, ℕ, ◌+◌, ◌/◌, ◌%◌, ◌<◌, ◌==◌, Bool, true, false, if◌then◌else◌, Some, is_some, unwrap_or, refl, sym, arith}
use Rattle.std.specs.Prelude.{nat_le}
use Rattle.std.proofs.lemmas.Bool.Decides.{nat_tests}
use Rattle.pdus.specs.declared.pdu_header.kind.Kind.{Kind}
use Rattle.pdus.specs.declared.pdu_header.kind.Kind.TheVariants.{Dt, Er, Erq, Erp}
use Rattle.pdus.specs.PduHeader.Layout.{type_code}
use Rattle.pdus.specs.PduHeader.Grammar.{is_report}
use Rattle.pdus.specs.PduHeader.Rules.{kind_of}
use Rattle.clnp_base.proofs.Choices.{is_equal}

abbrev pub kind_read : ℕ → Kind
kind_read type = unwrap_or (kind_of type) Dt

-- the type of a kind is read as that kind
pub kind_of_code : (kind : Kind) → kind_of (type_code kind) ≡ Some kind
kind_of_code Er = refl
kind_of_code Dt = refl
kind_of_code Erq = refl
kind_of_code Erp = refl

pub code_is_small : (kind : Kind) → type_code kind < 32
code_is_small Er = omega arith
code_is_small Dt = omega arith
code_is_small Erq = omega arith
code_is_small Erp = omega arith

-- a type that is known is that of the kind that it says
pub code_of_kind : (type : ℕ) → is_some (kind_of type) ≡ true → type_code (kind_read type) ≡ type
code_of_kind type h = by_tests (type == 1) (type == 28) (type == 30) (type == 31) refl refl refl refl
  where
    by_tests : (a b c d : Bool) → (type == 1) ≡ a → (type == 28) ≡ b → (type == 30) ≡ c → (type == 31) ≡ d → type_code (kind_read type) ≡ type
    by_tests true b c d at_1 at_28 at_30 at_31 = rw at_1 (sym (is_equal _ _ at_1))
    by_tests false true c d at_1 at_28 at_30 at_31 = rw (at_1, at_28) (sym (is_equal _ _ at_28))
    by_tests false false true d at_1 at_28 at_30 at_31 = rw (at_1, at_28, at_30) (sym (is_equal _ _ at_30))
    by_tests false false false true at_1 at_28 at_30 at_31 = rw (at_1, at_28, at_30, at_31) (sym (is_equal _ _ at_31))
    by_tests false false false false at_1 at_28 at_30 at_31 = let wrong = rw (at_1, at_28, at_30, at_31) at h in cc

-- the report's kind is that of type 1
pub report_of_kind : (type : ℕ) → is_report (kind_read type) ≡ (type == 1)
report_of_kind type = by_tests (type == 1) (type == 28) (type == 30) (type == 31) refl refl refl refl
  where
    by_tests : (a b c d : Bool) → (type == 1) ≡ a → (type == 28) ≡ b → (type == 30) ≡ c → (type == 31) ≡ d → is_report (kind_read type) ≡ (type == 1)
    by_tests true b c d at_1 at_28 at_30 at_31 = rw at_1 refl
    by_tests false true c d at_1 at_28 at_30 at_31 = rw (at_1, at_28) refl
    by_tests false false true d at_1 at_28 at_30 at_31 = rw (at_1, at_28, at_30) refl
    by_tests false false false true at_1 at_28 at_30 at_31 = rw (at_1, at_28, at_30, at_31) refl
    by_tests false false false false at_1 at_28 at_30 at_31 = rw (at_1, at_28, at_30, at_31) refl

pub report_of_code : (kind : Kind) → (type_code kind == 1) ≡ is_report kind
report_of_code Er = refl
report_of_code Dt = refl
report_of_code Erq = refl
report_of_code Erp = refl

abbrev pub flags_octet : Bool → Bool → Bool → ℕ → ℕ
flags_octet segmented more report type =
    (if segmented then 128 else 0) + (if more then 64 else 0) + (if report then 32 else 0) + type

-- what the flags of an octet say, put together again, is the octet
pub flags_again : (octet : ℕ) → octet < 256
    → flags_octet (nat_le 128 octet) ((octet / 64) % 2 == 1) ((octet / 32) % 2 == 1) (octet % 32) ≡ octet
flags_again octet bytes = by_tests (nat_le 128 octet) ((octet / 64) % 2 == 1) ((octet / 32) % 2 == 1) refl refl refl
  where
    by_tests : (s m r : Bool) → nat_le 128 octet ≡ s → ((octet / 64) % 2 == 1) ≡ m → ((octet / 32) % 2 == 1) ≡ r
        → flags_octet (nat_le 128 octet) ((octet / 64) % 2 == 1) ((octet / 32) % 2 == 1) (octet % 32) ≡ octet
    by_tests s m r at_s at_m at_r = grind (arith, nat_tests)

-- the flags are read as they were put together
pub record AreFlags (octet : ℕ) (segmented more report : Bool) (type : ℕ) : Type 0 where
  pub segmented_is : nat_le 128 octet ≡ segmented
  pub more_is : ((octet / 64) % 2 == 1) ≡ more
  pub report_is : ((octet / 32) % 2 == 1) ≡ report
  pub type_is : octet % 32 ≡ type
  pub small : octet < 256

pub flags_read : (s m r : Bool) (type : ℕ) → type < 32 → AreFlags (flags_octet s m r type) s m r type
flags_read true true true type h = record { segmented_is = grind (arith, nat_tests); more_is = grind (arith, nat_tests); report_is = grind (arith, nat_tests); type_is = omega arith; small = omega arith }
flags_read true true false type h = record { segmented_is = grind (arith, nat_tests); more_is = grind (arith, nat_tests); report_is = grind (arith, nat_tests); type_is = omega arith; small = omega arith }
flags_read true false true type h = record { segmented_is = grind (arith, nat_tests); more_is = grind (arith, nat_tests); report_is = grind (arith, nat_tests); type_is = omega arith; small = omega arith }
flags_read true false false type h = record { segmented_is = grind (arith, nat_tests); more_is = grind (arith, nat_tests); report_is = grind (arith, nat_tests); type_is = omega arith; small = omega arith }
flags_read false true true type h = record { segmented_is = grind (arith, nat_tests); more_is = grind (arith, nat_tests); report_is = grind (arith, nat_tests); type_is = omega arith; small = omega arith }
flags_read false true false type h = record { segmented_is = grind (arith, nat_tests); more_is = grind (arith, nat_tests); report_is = grind (arith, nat_tests); type_is = omega arith; small = omega arith }
flags_read false false true type h = record { segmented_is = grind (arith, nat_tests); more_is = grind (arith, nat_tests); report_is = grind (arith, nat_tests); type_is = omega arith; small = omega arith }
flags_read false false false type h = record { segmented_is = grind (arith, nat_tests); more_is = grind (arith, nat_tests); report_is = grind (arith, nat_tests); type_is = omega arith; small = omega arith }
