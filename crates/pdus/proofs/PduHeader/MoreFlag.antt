-- The flag MS in the octet of flags and type.
use Rattle.std.proofs.Common.{◌≡◌, refl, ◌+◌, Bool, true, false}
use Rattle.std.specs.Prelude.{if◌then◌else◌, bit_and, bit_or}
use Rattle.pdus.specs.declared.pdu_header.kind.Kind.{Kind}
use Rattle.pdus.specs.declared.pdu_header.kind.Kind.TheVariants.{Dt, Er, Erq, Erp}
use Rattle.pdus.specs.PduHeader.Layout.{type_code}

pub flags_set : (more report : Bool) (kind : Kind) → bit_or (128 + (if more then 64 else 0) + (if report then 32 else 0) + type_code kind) 64 ≡ 128 + 64 + (if report then 32 else 0) + type_code kind
flags_set true true Dt = refl
flags_set true true Er = refl
flags_set true true Erq = refl
flags_set true true Erp = refl
flags_set true false Dt = refl
flags_set true false Er = refl
flags_set true false Erq = refl
flags_set true false Erp = refl
flags_set false true Dt = refl
flags_set false true Er = refl
flags_set false true Erq = refl
flags_set false true Erp = refl
flags_set false false Dt = refl
flags_set false false Er = refl
flags_set false false Erq = refl
flags_set false false Erp = refl

pub flags_cleared : (more report : Bool) (kind : Kind) → bit_and (128 + (if more then 64 else 0) + (if report then 32 else 0) + type_code kind) 191 ≡ 128 + 0 + (if report then 32 else 0) + type_code kind
flags_cleared true true Dt = refl
flags_cleared true true Er = refl
flags_cleared true true Erq = refl
flags_cleared true true Erp = refl
flags_cleared true false Dt = refl
flags_cleared true false Er = refl
flags_cleared true false Erq = refl
flags_cleared true false Erp = refl
flags_cleared false true Dt = refl
flags_cleared false true Er = refl
flags_cleared false true Erq = refl
flags_cleared false true Erp = refl
flags_cleared false false Dt = refl
flags_cleared false false Er = refl
flags_cleared false false Erq = refl
flags_cleared false false Erp = refl

pub flags_changed : (more old report : Bool) (kind : Kind)
    → (if more then bit_or (128 + (if old then 64 else 0) + (if report then 32 else 0) + type_code kind) 64 else bit_and (128 + (if old then 64 else 0) + (if report then 32 else 0) + type_code kind) 191)
    ≡ 128 + (if more then 64 else 0) + (if report then 32 else 0) + type_code kind
flags_changed true old report kind = flags_set old report kind
flags_changed false old report kind = flags_cleared old report kind
