use Rattle.system_tables.proofs.esis_tables.table.Table.new.Goals as goal

pub invariant_of-result : goal.invariant_of-result
invariant_of-result c = rw c.in_ok-slots.ensures.empty (record { end = tt; heard = tt }, rw c.none.ensures tt)
