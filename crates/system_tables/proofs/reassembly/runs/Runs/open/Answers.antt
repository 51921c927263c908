-- The page stands behind the others.
use Rattle.std.proofs.Common.{ap, arith}
use Rattle.system_tables.specs.Reassembly.Runs.{unfilled}
use Rattle.system_tables.proofs.ReassemblyFacts.Groups.{counted_as, few, pages_opened, pushed}
use Rattle.system_tables.proofs.reassembly.runs.Runs.open.Goals as goal

pub open-requires : goal.open-requires
open-requires c =
    let t = c.self.inside in
    let n = c.self.invariant.0 in
    omega (
      arith,
      few t.counts.items t.pages.items _ (ap (λ v. v.groups) c.self.view_is) n.number n.dense,
      counted_as t.counts.items t.pages.items _ (ap (λ v. v.groups) c.self.view_is) n.number,
      n.enough,
      c.requires.slots,
      c.requires.room,
      ap (λ v. v.slots) c.self.view_is,
      ap (λ v. v.room) c.self.view_is,
    )

pub push-requires-clause-room : goal.push-requires-clause-room
push-requires-clause-room c =
    let t = c.self.inside in
    omega (
      arith,
      counted_as t.counts.items t.pages.items _ (ap (λ v. v.groups) c.self.view_is) c.self.invariant.0.number,
      c.requires.slots,
      ap (λ v. v.slots) c.self.view_is,
      c.self.invariant.1,
    )

pub invariant_of-self : goal.invariant_of-self
invariant_of-self c =
    let t = c.self.inside in
    let n = c.self.invariant.0 in
    let units = counted_as t.counts.items t.pages.items _ (ap (λ v. v.groups) c.self.view_is) n.number in
    let wide = few t.counts.items t.pages.items _ (ap (λ v. v.groups) c.self.view_is) n.number n.dense in
    let slots = ap (λ v. v.slots) c.self.view_is in
    let room = ap (λ v. v.room) c.self.view_is in (
      pages_opened t.counts.items t.pages.items _ _ _ n (unfilled c.args.places) _ _ _ (omega (arith, units, c.requires.slots, slots))
          (omega (arith, wide, units, n.enough, c.requires.slots, c.requires.room, slots, room)) c.open.ensures.items c.push.ensures.items c.open.ensures.most,
      omega (arith, c.self.invariant.1, c.push.ensures.room),
    )

pub returns-clause-groups : goal.returns-clause-groups
returns-clause-groups c =
    let t = c.self.inside in
    pushed t.counts.items t.pages.items _ (ap (λ v. v.groups) c.self.view_is) c.self.invariant.0.number (unfilled c.args.places) _ _ c.open.ensures.items c.push.ensures.items
