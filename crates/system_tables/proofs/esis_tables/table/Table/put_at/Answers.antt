-- The bounds hold of the entry too.
use Rattle.std.proofs.Common.{ℕ, ◌<◌, ◌≤◌, List, ◌∷◌, length, drop, ap, arith, sym, subst}
use Rattle.std.specs.List.{AllByRecursion}
use Rattle.system_tables.specs.declared.esis_tables.table.Entry.{Entry}
use Rattle.system_tables.specs.EsisTables.State.{AreBounded, AreWalked, TableState}
use Rattle.system_tables.proofs.EsisTables.Keeping.{bounded_put}
use Rattle.system_tables.proofs.EsisTables.Walking.{walked_front, walked_less}
use Rattle.system_tables.proofs.esis_tables.table.Table.put_at.Goals as goal

pub invariant_of-self : goal.invariant_of-self
invariant_of-self c =
    let t = c.self.inside in
    let above = subst (λ (v : TableState). AllByRecursion (λ (other : Entry). other.number < c.args.entry.number) v.entries) (sym c.self.view_is) c.requires.above in
    let bounded = bounded_put t.soonest t.last c.min-self-inside.result t.slots.entries c.args.at c.args.entry c.min-self-inside.ensures c.self.invariant.0 above in
    let less : c.up_to-self-inside.result.entries ≤ c.args.at = omega (arith, c.up_to-self-inside.ensures.entries) in
    let walked = subst (λ (m : ℕ). AreWalked c.up_to-self-inside.result.entries m t.slots.entries) (sym c.up_to-self-inside.ensures.soonest)
    (walked_less t.walk.soonest t.walk.entries c.up_to-self-inside.result.entries t.slots.entries (omega (arith, c.up_to-self-inside.ensures.entries)) c.self.invariant.1) in
    let within : c.args.at ≤ length t.slots.entries = omega (arith, c.requires.place, ap (λ (v : TableState). length v.entries) c.self.view_is) in (
      subst (λ (l : List Entry). AreBounded c.min-self-inside.result c.args.entry.number l) (sym c.put-slot.ensures.entries) bounded,
      subst (λ (l : List Entry). AreWalked c.up_to-self-inside.result.entries c.up_to-self-inside.result.soonest l) (sym c.put-slot.ensures.entries)
          (walked_front c.up_to-self-inside.result.soonest c.up_to-self-inside.result.entries t.slots.entries (c.args.entry ∷ drop c.args.at t.slots.entries) c.args.at within less walked),
    )
