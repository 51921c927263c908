-- A PDU that comes: its value, whether it is all of its unit, and the segment that it is.
use Rattle.std.proofs.Common.{◌≡◌, ℕ, zero, suc, ◌+◌, ◌-◌, ◌<◌, ◌≤◌, Bool, true, false, not, ◌&&◌, cond, List, length, Option, Some, None, refl, ap, subst, inl, inr, arith}
use Rattle.std.specs.Prelude.{◌==◌, nat_lt, option_map}
use Rattle.std.proofs.lemmas.Bool.{cases_Bool, ltb-false, ltb-true}
use Rattle.pdus.specs.ClnpViews.Extent.{part, whole}
use Rattle.pdus.specs.declared.pdu_header.pdu.Pdu.{Pdu}
use Rattle.pdus.specs.declared.pdu_header.pdu.SegPart.{SegPart}
use Rattle.pdus.specs.PduHeader.Grammar.{BeginsWith, FitsUnit, IsSegment}
use Rattle.pdus.specs.PduHeader.Spelling.{header_length, type_code}
use Rattle.pdus.specs.PduHeader.Value.{PduValue, SegmentationPart}
use Rattle.pdus.specs.PduHeader.View.{part_value, pdu_value}
use Rattle.pdus.proofs.PduHeader.Frames.{is_front}
use Rattle.system_tables.specs.declared.reassembly.segment.Segment.{Segment}
use Rattle.system_tables.specs.declared.reassembly.table.Accept.{Accept}
use Rattle.system_tables.specs.Reassembly.Offered.{MayCome}
use Rattle.system_tables.specs.FairReassembly.Calls.{Accepts, IsOffered}
use Rattle.system_tables.specs.FairReassembly.Coming.{of_unit, outlined, part_in, part_of, segment_by, segment_in, value_in}
use Rattle.system_tables.specs.FairReassembly.Tables.{ChangesTable, FairState, place_of}

-- the value at the front of a frame is read off
pub value_is : (frame : List ℕ) (v : PduValue) (rest : List ℕ) → BeginsWith frame v rest → v ≡ value_in frame
unfolding value_in
value_is frame v rest begins = (is_front frame v rest begins).value

-- ---- whether it is all of its unit

mapped_choice : (b : Bool) (found : SegPart) → cond b None (Some (part_value found)) ≡ option_map part_value (cond b None (Some found))
mapped_choice true found = refl
mapped_choice false found = refl

pub part_is : (found : Option SegPart) (more : Bool) → part_in (option_map part_value found) more ≡ option_map part_value (of_unit found more)
part_is None more = refl
part_is (Some found) more = mapped_choice ((found.offset == 0) && not more) found

picked : (b : Bool) (here found : SegmentationPart) → cond b None (Some here) ≡ Some found → (here ≡ found) × (b ≡ false)
picked true here found e = absurd (cc)
picked false here found e = (cc, refl)

there_is : (stood : Option SegmentationPart) (more : Bool) (found : SegmentationPart) → part_in stood more ≡ Some found
    → (stood ≡ Some found) × (((found.offset == 0) && not more) ≡ false)
there_is None more found e = absurd (cc)
there_is (Some here) more found e =
    let there = picked ((here.offset == 0) && not more) here found e in
    (ap (λ (x : SegmentationPart). Some x) there.0, subst (λ (x : SegmentationPart). ((x.offset == 0) && not more) ≡ false) there.0 there.1)

-- ---- the segment that it is

pub segment_is : (frame : List ℕ) (pdu : Pdu) (found : SegPart) → length pdu.head.now ≡ header_length (pdu_value pdu)
    → segment_by (outlined pdu found) (whole frame) ≡ segment_in frame (pdu_value pdu) (part_value found)
segment_is frame pdu found size =
    let make : ℕ → Segment = λ n. record {
      key = record { from = pdu.from; to = pdu.to; id = found.id };
      shape = record { total = found.total; head_len = n; kind = type_code pdu.kind };
      offset = found.offset;
      life = pdu.life;
      pdu = part 0 (n + length pdu.body.now) (whole frame);
    } in ap make size

not_all : (offset : ℕ) (more : Bool) → ((offset == 0) && not more) ≡ false → offset ≡ 0 → more ≡ false → ⊥
not_all zero true e none last = cc
not_all zero false e none last = cc
not_all (suc offset) more e none last = absurd (omega arith)

-- data that reach the end of their unit and aren't all of it begin behind its beginning
less : (offset len room : ℕ) → offset + len ≤ room → (offset ≡ 0 → offset + len ≡ room → ⊥) → len < room
less offset len room within other =
    elim (cases_Bool (nat_lt len room)) [
      | inl t ↦ ltb-true len room t
      | inr f ↦ (let l = ltb-false len room f in absurd (other (omega arith) (omega arith)))
    ]

-- it may be offered
pub may_come : (frame : List ℕ) (v : PduValue) (rest : List ℕ) (found : SegmentationPart) → BeginsWith frame v rest → part_of v ≡ Some found
    → length frame ≤ 70000 → 1 ≤ v.lifetime → MayCome (segment_in frame v found)
may_come frame v rest found begins some few alive =
    let there = there_is v.segmentation v.more found some in
    let fits : FitsUnit v found = subst (λ (x : Option SegmentationPart). IsSegment v x) there.0 begins.spells.pdu.segmentation in
    let within = fits.range.within in
    let holds = fits.range.holds_header in
    let part_only = less found.offset (length v.body) (found.total - header_length v) within
    (λ start whole. not_all found.offset v.more there.1 start (fits.range.ends.1 whole)) in
    record {
      has_header = omega arith;
      few = few;
      holds_header = holds;
      within = omega arith;
      is_part = omega arith;
      alive = alive;
    }

-- it was offered
pub offered : (now : ℕ) (frame : List ℕ) (v : PduValue) (before after : FairState) (place : ℕ) (told : Accept) (segment : Segment) (found : SegmentationPart)
    → 1 ≤ v.lifetime → part_of v ≡ Some found → place ≡ place_of before.sources v.source → segment ≡ segment_in frame v found
    → ChangesTable place before after (Accepts now segment told) → IsOffered now frame v before after place told
offered now frame v before after place told segment found alive some place_is same changes = record {
  alive = alive;
  found = found;
  stands_in = (there_is v.segmentation v.more found some).0;
  is_part = some;
  place_is = place_is;
  offered = subst (λ (x : Segment). ChangesTable place before after (Accepts now x told)) same changes;
}
