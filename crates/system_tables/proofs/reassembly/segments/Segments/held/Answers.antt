use Rattle.std.proofs.Common.{◌∙◌, ap}
use Rattle.system_tables.specs.Reassembly.Entries.{present}
use Rattle.system_tables.specs.Reassembly.Offered.{total_size}
use Rattle.system_tables.proofs.reassembly.segments.Segments.held.Goals as goal

pub returns : goal.returns
returns c = c.self.invariant.1 ∙ ap (λ v. total_size (present v.entries)) c.self.view_is
