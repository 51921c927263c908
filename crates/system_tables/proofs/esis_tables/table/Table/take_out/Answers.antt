-- The bounds hold of the others.
use Rattle.std.proofs.Common.{ℕ, suc, ◌≤◌, List, length, drop, ap, arith, sym, subst}
use Rattle.system_tables.specs.declared.esis_tables.table.Entry.{Entry}
use Rattle.system_tables.specs.EsisTables.State.{AreBounded, AreWalked, TableState}
use Rattle.system_tables.proofs.EsisTables.Keeping.{bounded_taken}
use Rattle.system_tables.proofs.EsisTables.Walking.{walked_front, walked_less}
use Rattle.system_tables.proofs.esis_tables.table.Table.take_out.Goals as goal

pub invariant_of-self : goal.invariant_of-self
invariant_of-self c =
    let t = c.self.inside in
    let less : c.up_to-self-inside.result.entries ≤ c.args.at = omega (arith, c.up_to-self-inside.ensures.entries) in
    let within : c.args.at ≤ length t.slots.entries = omega (arith, c.requires, ap (λ (v : TableState). length v.entries) c.self.view_is) in
    let walked = subst (λ (m : ℕ). AreWalked c.up_to-self-inside.result.entries m t.slots.entries) (sym c.up_to-self-inside.ensures.soonest)
    (walked_less t.walk.soonest t.walk.entries c.up_to-self-inside.result.entries t.slots.entries (omega (arith, c.up_to-self-inside.ensures.entries)) c.self.invariant.1) in (
      subst (λ (l : List Entry). AreBounded t.soonest t.last l) (sym c.take_out.ensures.entries)
          (bounded_taken t.soonest t.last t.slots.entries c.args.at c.self.invariant.0),
      subst (λ (l : List Entry). AreWalked c.up_to-self-inside.result.entries c.up_to-self-inside.result.soonest l) (sym c.take_out.ensures.entries)
          (walked_front c.up_to-self-inside.result.soonest c.up_to-self-inside.result.entries t.slots.entries (drop (suc c.args.at) t.slots.entries) c.args.at within less walked),
    )
