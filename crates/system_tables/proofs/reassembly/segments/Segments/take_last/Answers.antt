use Rattle.std.proofs.Common.{◌∙◌, ap, sym}
use Rattle.system_tables.specs.Reassembly.Entries.{present}
use Rattle.system_tables.specs.Reassembly.State.{segments_of}
use Rattle.system_tables.proofs.ReassemblyFacts.Endings.{without_last-none}
use Rattle.system_tables.proofs.reassembly.segments.Segments.take_last.Goals as goal

pub returns-in_default-clause-present : goal.returns-in_default-clause-present
returns-in_default-clause-present c =
    without_last-none c.args.key.now (present c.args.self.now.entries)
    (ap (λ v. segments_of c.args.key.now (present v.entries)) (sym c.self.view_is)
    ∙ ap (λ l. segments_of c.args.key.now (present l)) (sym c.deref.ensures.value) ∙ c.in_default.ensures.none)
