use Rattle.std.proofs.Common.{sym, subst}
use Rattle.system_tables.specs.EsisTables.Keeps.{Keeps}
use Rattle.system_tables.specs.EsisTables.State.{TableState}
use Rattle.system_tables.proofs.EsisTables.Flushing.{flushed_first, flushed_held, flushed_keeps, none_ended, within_found}
use Rattle.system_tables.proofs.esis_tables.table.Table.flush_ended.Goals as goal

pub returns-in_default-clause-flushed : goal.returns-in_default-clause-flushed
returns-in_default-clause-flushed c kept keeps =
    none_ended c.args.now c.self.inside.slots kept (subst (λ (t : TableState). Keeps t kept) (sym c.self.view_is) keeps) (sym c.in_default.ensures.first)

pub take_out-requires : goal.take_out-requires
take_out-requires c = within_found c.args.now c.self.inside.slots.entries c.in-Some.at (sym c.in-Some.ensures.first)

pub returns-clause-flushed : goal.returns-clause-flushed
returns-clause-flushed c kept keeps =
    flushed_first c.args.now c.self.inside.slots c.take_out.new.self kept (subst (λ (t : TableState). Keeps t kept) (sym c.self.view_is) keeps)
    c.in-Some.at c.take_out.result (sym c.in-Some.ensures.first) c.take_out.ensures.entry c.take_out.ensures.entries

pub returns-clause-keeps : goal.returns-clause-keeps
returns-clause-keeps c kept keeps =
    flushed_keeps c.args.now c.self.inside.slots c.take_out.new.self kept (subst (λ (t : TableState). Keeps t kept) (sym c.self.view_is) keeps)
    c.in-Some.at c.take_out.result (sym c.in-Some.ensures.first) c.take_out.ensures.entry c.take_out.ensures.entries

pub returns-clause-held : goal.returns-clause-held
returns-clause-held c kept keeps =
    flushed_held c.args.now c.self.inside.slots kept (subst (λ (t : TableState). Keeps t kept) (sym c.self.view_is) keeps)
    c.in-Some.at c.take_out.result (sym c.in-Some.ensures.first) c.take_out.ensures.entry
