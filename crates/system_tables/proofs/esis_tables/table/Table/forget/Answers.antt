use Rattle.system_tables.proofs.EsisTables.Hearing.{at_within, is_its_own, unknown_kept}
use Rattle.system_tables.proofs.EsisTables.Keeping.{new_at, rising_of, taken_kept}
use Rattle.system_tables.proofs.esis_tables.table.Table.forget.Goals as goal

pub returns-in_default-clause-keeps : goal.returns-in_default-clause-keeps
returns-in_default-clause-keeps c kept keeps =
    let table = c.args.self.now in
    unknown_kept table c.args.key.now kept keeps
    (new_at table kept keeps c.args.key.now c.in_default.field-0 (c.in_default.ensures.absent (rising_of table kept keeps)))

pub take_out-requires : goal.take_out-requires
take_out-requires c = at_within c.args.self.now.entries c.args.key.now c.in-Ok.at c.in-Ok.ensures.found

pub returns-in-Ok-clause-keeps : goal.returns-in-Ok-clause-keeps
returns-in-Ok-clause-keeps c kept keeps =
    let table = c.args.self.now in
    taken_kept table kept keeps c.take_out.new.self c.args.key.now c.in-Ok.at c.take_out.result c.take_out.ensures.entry
    (is_its_own table.entries c.args.key.now c.in-Ok.at c.take_out.result c.in-Ok.ensures.found c.take_out.ensures.entry) c.take_out.ensures.entries
