use Rattle.std.proofs.Common.{◌∙◌, ap}
use Rattle.system_tables.proofs.reassembly.segments.Segments.entries.Goals as goal

pub returns : goal.returns
returns c = c.deref.ensures.value ∙ ap (λ v. v.entries) c.self.view_is
