use Rattle.std.proofs.Common.{◌≡◌, ◌∙◌, ap, ℕ, ◌+◌, List, length, get_or, replicate, arith}
use Rattle.std.specs.Prelude.{if◌then◌else◌, bit_and, bit_or}
use Rattle.std.proofs.lemmas.List.{length-replicate}
use Rattle.pdus.specs.PduHeader.Value.{PduValue}
use Rattle.pdus.specs.PduHeader.Headers.{SpellsHeader, with_segment, at_offset}
use Rattle.pdus.proofs.PduHeader.Changed.{segment_set, segment_room, segment_holds}
use Rattle.pdus.proofs.pdu_header.header.Header.set_segment.Goals as goal

pub overflow_add-total : goal.overflow_add-total
overflow_add-total c =
    let v : PduValue = c.requires.0 in
    let h : SpellsHeader v c.self.inside.cells = rw c.self.view_is c.requires.1 in
    omega (arith, ap length c.as_bytes-octets.ensures.octets, segment_room v c.self.inside.cells c.args.offset c.args.len c.args.more h c.requires.2)

pub put_pair-requires-2-clause-last : goal.put_pair-requires-2-clause-last
put_pair-requires-2-clause-last c =
    let v : PduValue = c.requires.0 in
    let h : SpellsHeader v c.self.inside.cells = rw c.self.view_is c.requires.1 in
    let read : SpellsHeader v c.as_bytes-octets.result.now = rw c.as_bytes-octets.ensures.octets h in
    let place : c.part_index-part.result + 3 ≡ 14 + length v.destination + length v.source = omega (arith, c.part_index-part.ensures.place v read) in
    omega (arith, c.put_pair.ensures.len, c.adjust.ensures.len, segment_holds v c.self.inside.cells c.args.offset c.args.len c.args.more h c.requires.2)

pub put_pair-requires-2-clause-few : goal.put_pair-requires-2-clause-few
put_pair-requires-2-clause-few c =
    let v : PduValue = c.requires.0 in
    let h : SpellsHeader v c.self.inside.cells = rw c.self.view_is c.requires.1 in
    let read : SpellsHeader v c.as_bytes-octets.result.now = rw c.as_bytes-octets.ensures.octets h in
    let place : c.part_index-part.result + 3 ≡ 14 + length v.destination + length v.source = omega (arith, c.part_index-part.ensures.place v read) in
    let few = c.as_bytes-octets.ensures.few in
    omega (arith, few, ap length c.as_bytes-octets.ensures.octets, segment_holds v c.self.inside.cells c.args.offset c.args.len c.args.more h c.requires.2)

pub invariant_of-self : goal.invariant_of-self
invariant_of-self c =
    let v : PduValue = c.requires.0 in
    let h : SpellsHeader v c.self.inside.cells = rw c.self.view_is c.requires.1 in
    let read : SpellsHeader v c.as_bytes-octets.result.now = rw c.as_bytes-octets.ensures.octets h in
    let place : c.part_index-part.result + 3 ≡ 14 + length v.destination + length v.source = omega (arith, c.part_index-part.ensures.place v read) in
    let body : List ℕ = replicate c.args.len 0 in (
      with_segment (at_offset c.args.offset c.requires.2.part) c.args.more body v,
      segment_set v c.args.offset c.args.len _ _ _ c.args.more body c.self.inside.cells _ _ _ c.requires.2 h (omega arith) (length-replicate c.args.len 0)
          (c.flags_with_more-flags.ensures ∙ ap (λ o. if c.args.more then bit_or (get_or o 4 0) 64 else bit_and (get_or o 4 0) 191) c.as_bytes-octets.ensures.octets)
          (ap (λ o. length o + c.args.len) c.as_bytes-octets.ensures.octets)
          place c.adjust.ensures.changed c.put_pair.ensures.changed c.put_pair-2.ensures.changed,
    )

pub returns-clause-spells : goal.returns-clause-spells
returns-clause-spells c w carries spelt body e =
    let v : PduValue = w in
    let h : SpellsHeader v c.self.inside.cells = rw c.self.view_is spelt in
    let read : SpellsHeader v c.as_bytes-octets.result.now = rw c.as_bytes-octets.ensures.octets h in
    let place : c.part_index-part.result + 3 ≡ 14 + length v.destination + length v.source = omega (arith, c.part_index-part.ensures.place v read) in
    segment_set v c.args.offset c.args.len _ _ _ c.args.more body c.self.inside.cells _ _ _ carries h (omega arith) e
    (c.flags_with_more-flags.ensures ∙ ap (λ o. if c.args.more then bit_or (get_or o 4 0) 64 else bit_and (get_or o 4 0) 191) c.as_bytes-octets.ensures.octets)
    (ap (λ o. length o + c.args.len) c.as_bytes-octets.ensures.octets)
    place c.adjust.ensures.changed c.put_pair.ensures.changed c.put_pair-2.ensures.changed
