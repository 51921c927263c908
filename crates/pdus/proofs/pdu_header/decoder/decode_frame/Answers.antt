use Rattle.std.proofs.Common.{[], ap, length, rules, subst, sym, ◌++◌, ◌∙◌, ◌≡◌, ℕ, List}
use Rattle.std.proofs.lemmas.List.{nil_from_length}
use Rattle.std.specs.Prelude.{OnErr}
use Rattle.pdus.specs.PduHeader.Grammar.{BeginsWith}
use Rattle.pdus.specs.PduHeader.Value.{PduValue}
use Rattle.pdus.proofs.pdu_header.decoder.decode_frame.Goals as goal

pub returns-then-is_empty-clause-none : goal.returns-then-is_empty-clause-none
returns-then-is_empty-clause-none c =
    let none : length c.parts.result.0.now ≡ 0 = search rules in
    let empty : c.parts.result.0.now ≡ [] = nil_from_length c.parts.result.0.now none in
    subst (λ octets. OnErr c.decode.result ((value : PduValue) (rest : List ℕ) → BeginsWith octets value rest → ⊥))
    (ap (λ front. front ++ c.parts.result.1.now) (sym empty) ∙ c.parts.ensures.octets) c.decode.ensures.none

pub returns-clause-none : goal.returns-clause-none
returns-clause-none c =
    subst (λ octets. OnErr c.decode_behind.result ((value : PduValue) (rest : List ℕ) → BeginsWith octets value rest → ⊥))
    c.parts.ensures.octets c.decode_behind.ensures.none

pub returns-clause-judged : goal.returns-clause-judged
returns-clause-judged c = rw (sym c.parts.ensures.octets) c.decode_behind.ensures.judged

pub returns-clause-accepted : goal.returns-clause-accepted
returns-clause-accepted c = rw (sym c.parts.ensures.octets) c.decode_behind.ensures.accepted

pub returns-clause-found : goal.returns-clause-found
returns-clause-found c = rw (sym c.parts.ensures.octets) c.decode_behind.ensures.found

pub returns-clause-head : goal.returns-clause-head
returns-clause-head c = rw (sym c.parts.ensures.octets) c.decode_behind.ensures.head
