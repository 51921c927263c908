use Rattle.std.proofs.Common.{◌∙◌, ap, length}
use Rattle.system_tables.specs.Reassembly.Entries.{present}
use Rattle.system_tables.proofs.reassembly.segments.Segments.len.Goals as goal

pub returns : goal.returns
returns c = c.self.invariant.0 ∙ ap (λ v. length (present v.entries)) c.self.view_is
