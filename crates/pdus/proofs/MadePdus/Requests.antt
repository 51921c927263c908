-- Octets that are an echo request.
use Rattle.std.proofs.Common.{◌≡◌, ◌↔◌, inl, inr, ⊎_elim, ℕ, ◌==◌, ◌&&◌, Bool, true, false, IsTrue, if◌then◌else◌, length, List, [], ◌∷◌, ◌++◌, Some, None, is_none, unwrap_or, refl, sym, ap, subst, ◌∙◌, append-nil, arith}
use Rattle.std.specs.Bool.{Decides}
use Rattle.std.specs.Str.{bytes_eq}
use Rattle.std.proofs.lemmas.Bool.{eq-eqb, eqb-true, or_cases, or_left, or_right}
use Rattle.std.proofs.lemmas.Slice.Eq.{bytes_eq-Decides}
use Rattle.hex.specs.Hex.{IsBytes}
use Rattle.pdus.specs.declared.pdu_header.kind.Kind.TheVariants.{Dt, Er, Erp, Erq}
use Rattle.pdus.specs.PduHeader.Grammar.{BeginsWith, Spells}
use Rattle.pdus.specs.PduHeader.Reading.{body_of, rest_of, value_of}
use Rattle.pdus.specs.PduHeader.Rules.{header_of, kind_of, octet, refusal, type_of}
use Rattle.pdus.specs.PduHeader.Value.{PduValue}
use Rattle.pdus.proofs.PduHeader.Frames.{front, is_front}
use Rattle.pdus.specs.MadePdus.Match.{AreRequest, Echoes, are_request, echoes}
use Rattle.clnp_base.proofs.Choices.{none_is}

-- the law that a frame is one PDU
abbrev pub OneValue : Type 0
OneValue = (frame : List ℕ) (v w : PduValue) (rest others : List ℕ) → BeginsWith frame v rest → BeginsWith frame w others → (v ≡ w) × (rest ≡ others)

-- what stands at the front of octets that are a request
pub begins : (octets data_are : List ℕ) (v : PduValue) → Spells v octets → BeginsWith octets v []
begins octets data_are v spells = record { octets = octets; spells = spells; split = sym (append-nil octets) }

pub is_request : (octets request_data : List ℕ) (v : PduValue) (rest : List ℕ) → BeginsWith octets v rest
    → v.kind ≡ Erq → v.body ≡ request_data → rest ≡ [] → AreRequest request_data octets
is_request octets request_data v rest found kind body none =
    let whole : found.octets ≡ octets = sym (append-nil found.octets) ∙ (ap (λ r. found.octets ++ r) (sym none) ∙ sym found.split) in
    record { value = v; spells = subst (λ o. Spells v o) whole found.spells; kind = kind; data_are = body }

-- the value of octets that are a request
pub its_value : OneValue → (octets request_data : List ℕ) (v : PduValue) (rest : List ℕ) → BeginsWith octets v rest → AreRequest request_data octets
    → (v.kind ≡ Erq) × (v.body ≡ request_data) × (rest ≡ [])
its_value one octets request_data v rest found request =
    let (same, none) = one octets v request.value rest [] found (begins octets request_data request.value request.spells) in
    (ap (λ w. w.kind) same ∙ request.kind, ap (λ w. w.body) same ∙ request.data_are, none)

-- no octets are left
pub nothing : (xs : List ℕ) (empty : Bool) → empty ≡ (length xs == 0) → Decides empty (xs ≡ [])
nothing [] empty e = (λ t. refl, λ n. e)
nothing (x ∷ xs) empty e = (λ t. absurd (omega (arith, eqb-true _ _ (sym e ∙ t))), λ n. cc)

-- ---- the test

five : (a b c d e : Bool) → (a && (b && (c && (d && e)))) ≡ true → (a ≡ true) × (b ≡ true) × (c ≡ true) × (d ≡ true) × (e ≡ true)
five true true true true true all = (refl, refl, refl, refl, refl)
five false b c d e all = cc
five true false c d e all = cc
five true true false d e all = cc
five true true true false e all = cc
five true true true true false all = cc

third : (er dt erq erp : Bool) → unwrap_or (if er then Some Er else (if dt then Some Dt else (if erq then Some Erq else (if erp then Some Erp else None)))) Dt ≡ Erq → erq ≡ true
third true dt erq erp e = cc
third false true erq erp e = cc
third false false true erp e = refl
third false false false true e = cc
third false false false false e = cc

says : (request_data octets : List ℕ) → IsBytes octets → are_request request_data octets ≡ true → AreRequest request_data octets
says request_data octets bytes t =
    let (at_protocol, at_rules, at_type, at_body, at_rest) = five (octet octets 1 == 0x81) (is_none (refusal octets)) (type_of (header_of octets) == 30)
    (bytes_eq (body_of octets) request_data) (bytes_eq (rest_of octets) []) t in
    is_request octets request_data (value_of (header_of octets) (body_of octets)) (rest_of octets)
    (front octets bytes (eqb-true _ _ at_protocol) (none_is _ at_rules))
    (ap (λ n. unwrap_or (kind_of n) Dt) (eqb-true (type_of (header_of octets)) 30 at_type))
    ((bytes_eq-Decides (body_of octets) request_data).0 at_body)
    ((bytes_eq-Decides (rest_of octets) []).0 at_rest)

said : (request_data octets : List ℕ) → AreRequest request_data octets → are_request request_data octets ≡ true
said request_data octets r =
    let f = is_front octets r.value [] (begins octets request_data r.value r.spells) in
    let head = header_of octets in
    let at_protocol : (octet octets 1 == 0x81) ≡ true = eq-eqb _ _ f.protocol in
    let at_rules : is_none (refusal octets) ≡ true = ap is_none f.unbroken in
    let at_type : (type_of head == 30) ≡ true = third (type_of head == 1) (type_of head == 28) (type_of head == 30) (type_of head == 31) (sym (ap (λ v. v.kind) f.value) ∙ r.kind) in
    let at_body : bytes_eq (body_of octets) request_data ≡ true = (bytes_eq-Decides (body_of octets) request_data).1 (sym (ap (λ v. v.body) f.value) ∙ r.data_are) in
    let at_rest : bytes_eq (rest_of octets) [] ≡ true = (bytes_eq-Decides (rest_of octets) []).1 (sym f.rest_is) in
    rw (at_protocol, at_rules, at_type, at_body, at_rest) refl

pub test_of_request : (request_data octets : List ℕ) → IsBytes octets → (IsTrue (are_request request_data octets) ↔ AreRequest request_data octets)
test_of_request request_data octets bytes = (says request_data octets bytes, said request_data octets)

pub test_of_reply : (request_data reply_data : List ℕ) → IsBytes reply_data → (IsTrue (echoes request_data reply_data) ↔ Echoes request_data reply_data)
test_of_reply request_data reply_data bytes = (
  λ t. ⊎_elim (λ same. inl ((bytes_eq-Decides reply_data request_data).0 same)) (λ r. inr (says request_data reply_data bytes r)) (or_cases _ _ t),
  λ p. ⊎_elim (λ same. or_left _ _ ((bytes_eq-Decides reply_data request_data).1 same)) (λ r. or_right _ _ (said request_data reply_data r)) p,
)

-- two tests of one fact are one test
pub one_test : (a b : Bool) (P : Type 0) → (IsTrue a ↔ P) → (IsTrue b ↔ P) → a ≡ b
one_test true b P p q = sym (q.1 (p.0 refl))
one_test false true P p q = p.1 (q.0 refl)
one_test false false P p q = refl
