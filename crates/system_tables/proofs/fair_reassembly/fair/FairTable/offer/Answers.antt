-- By what the frame begins with.
use Rattle.std.proofs.Common.{◌≡◌, ◌≤◌, ℕ, List, Some, refl, sym, ap, ◌∙◌, subst, arith}
use Rattle.std.specs.Prelude.{option_map}
use Rattle.pdus.specs.PduHeader.Grammar.{BeginsWith}
use Rattle.pdus.specs.PduHeader.Value.{PduValue}
use Rattle.pdus.specs.PduHeader.View.{part_value, pdu_value}
use Rattle.system_tables.specs.Reassembly.Offered.{MayCome}
use Rattle.system_tables.specs.Reassembly.State.{IsReady}
use Rattle.system_tables.specs.declared.fair_reassembly.outline.Outline.{Outline}
use Rattle.system_tables.specs.FairReassembly.Coming.{outlined, part_of, segment_by, segment_in, value_in}
use Rattle.system_tables.specs.FairReassembly.Tables.{At, place_of}
use Rattle.system_tables.proofs.FairReassembly.Coming.{may_come, offered, part_is, segment_is, value_is}
use Rattle.system_tables.proofs.fair_reassembly.fair.FairTable.offer.Goals as goal
use Rattle.system_tables.proofs.fair_reassembly.fair.FairTable.offer.Goals.{After-segment, In-Ok}

-- the octets that were decoded are those of the frame
begins : (c : In-Ok) → BeginsWith c.args.frame.frame (pdu_value c.in-Ok.pdu) c.in-Ok.pdu.rest.now
begins c = subst (λ (frame : List ℕ). BeginsWith frame (pdu_value c.in-Ok.pdu) c.in-Ok.pdu.rest.now) c.frame-2.ensures c.in-Ok.ensures.found

value : (c : In-Ok) → pdu_value c.in-Ok.pdu ≡ value_in c.args.frame.frame
value c = value_is c.args.frame.frame (pdu_value c.in-Ok.pdu) c.in-Ok.pdu.rest.now (begins c)

pub returns-then-pdu-eq0 : goal.returns-then-pdu-eq0
returns-then-pdu-eq0 c =
    let at = goal.at.returns-then-pdu-eq0 c in
    (ap (λ (v : PduValue). v.lifetime) (sym (value at.In-Ok)) ∙ c.if-pdu-eq0.true, refl)

pub returns-in_default-of_unit : goal.returns-in_default-of_unit
returns-in_default-of_unit c =
    let at = goal.at.returns-in_default-of_unit c in
    let v = value at.In-Ok in
    let pdu = c.in-Ok.pdu in
    let alive : 1 ≤ pdu.life = omega (arith, c.if-pdu-eq0.false) in (
      subst (λ (w : PduValue). 1 ≤ w.lifetime) v alive,
      ap part_of (sym v) ∙ part_is pdu.seg pdu.more ∙ ap (option_map part_value) (sym c.of_unit.ensures ∙ c.in_default-of_unit.is),
      refl,
    )

-- the segment that is offered
segment_in_frame : (c : After-segment) → In-Ok → c.segment.result ≡ segment_in c.args.frame.frame (pdu_value c.in-Ok.pdu) (part_value c.in-Some.part)
segment_in_frame c at =
    c.segment.ensures
    ∙ ap (λ (o : Outline). segment_by o c.args.frame) c.of-outline.ensures
    ∙ ap (segment_by (outlined c.in-Ok.pdu c.in-Some.part)) c.requires.whole
    ∙ segment_is c.args.frame.frame c.in-Ok.pdu c.in-Some.part c.in-Ok.ensures.size

is_part : (c : After-segment) → part_of (pdu_value c.in-Ok.pdu) ≡ Some (part_value c.in-Some.part)
is_part c = part_is c.in-Ok.pdu.seg c.in-Ok.pdu.more ∙ ap (option_map part_value) (sym c.in-Some.ensures)

pub accept-accept-requires-clause-offered : goal.accept-accept-requires-clause-offered
accept-accept-requires-clause-offered c =
    let at = goal.at.accept-accept-requires-clause-offered c in
    let alive : 1 ≤ c.in-Ok.pdu.life = omega (arith, c.if-pdu-eq0.false) in
    subst MayCome (sym (segment_in_frame c at.In-Ok))
    (may_come c.args.frame.frame (pdu_value c.in-Ok.pdu) c.in-Ok.pdu.rest.now (part_value c.in-Some.part) (begins at.In-Ok) (is_part c) c.requires.few alive)

pub accept-accept-requires-clause-none_whole : goal.accept-accept-requires-clause-none_whole
accept-accept-requires-clause-none_whole c =
    let at = goal.at.accept-accept-requires-clause-none_whole c in
    let v = value at.In-Ok in
    let place = c.place-table.ensures.place ∙ ap (λ (w : PduValue). place_of c.args.self.now.sources w.source) v in
    let ready = subst (λ (n : ℕ). At c.args.self.now n (IsReady c.args.now)) (sym place) c.requires.ready in
    λ table there.
    let at_it = ready table there in
    record { buffers = at_it.buffers; stands = at_it.stands; none_whole = at_it.ready.none_whole }

pub returns : goal.returns
returns c =
    let at = goal.at.returns c in
    let v = value at.In-Ok in
    let frame = c.args.frame.frame in
    let part = part_value c.in-Some.part in
    let alive : 1 ≤ c.in-Ok.pdu.life = omega (arith, c.if-pdu-eq0.false) in
    offered c.args.now frame (value_in frame) c.args.self.now c.accept-accept.new.self c.place-table.result c.accept-accept.result c.segment.result part
    (subst (λ (w : PduValue). 1 ≤ w.lifetime) v alive)
    (ap part_of (sym v) ∙ is_part at.After-segment)
    (c.place-table.ensures.place ∙ ap (λ (w : PduValue). place_of c.args.self.now.sources w.source) v)
    (segment_in_frame at.After-segment at.In-Ok ∙ ap (λ (w : PduValue). segment_in frame w part) v)
    c.accept-accept.ensures

pub accept-accept-requires-clause-place : goal.accept-accept-requires-clause-place
accept-accept-requires-clause-place c = c.place-table.ensures.within

pub accept-accept-requires-clause-moment : goal.accept-accept-requires-clause-moment
accept-accept-requires-clause-moment c = c.requires.moment
