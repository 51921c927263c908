-- The bounds hold of the entries numbered anew, which keep what they kept.
use Rattle.std.proofs.Common.{sym, subst}
use Rattle.system_tables.specs.EsisTables.Keeps.{Keeps}
use Rattle.system_tables.specs.EsisTables.State.{TableState}
use Rattle.system_tables.proofs.EsisTables.Keeping.{bounded_anew}
use Rattle.system_tables.proofs.esis_tables.table.Table.next_number.Goals as goal

pub invariant_of-self : goal.invariant_of-self
invariant_of-self c =
    let t = c.self.inside in (
      bounded_anew t.soonest c.number_anew-number.result c.number_anew-number.new.slots.entries
          (c.number_anew-number.ensures.same.ends t.soonest c.self.invariant.0.end) c.number_anew-number.ensures.above,
      rw c.none-self-inside.ensures tt,
    )

pub returns-clause-keeps : goal.returns-clause-keeps
returns-clause-keeps c kept keeps =
    let t = c.self.inside in
    let before : Keeps t.slots kept = subst (λ (v : TableState). Keeps v kept) (sym c.self.view_is) keeps in
    let after = c.number_anew-number.ensures.same.keeps t.slots.limit kept before in
    record { number = after.number; entries = after.entries; numbered = after.numbered; distinct = after.distinct }
