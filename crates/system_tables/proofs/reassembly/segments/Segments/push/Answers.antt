use Rattle.std.proofs.Common.{◌∷◌, [], ◌∙◌, Some, ap, length, arith}
use Rattle.std.proofs.lemmas.List.{length_push}
use Rattle.system_tables.specs.Reassembly.Entries.{present}
use Rattle.system_tables.specs.Reassembly.Offered.{total_size}
use Rattle.system_tables.proofs.ReassemblyFacts.Entries.{length-present, present-append}
use Rattle.system_tables.proofs.ReassemblyFacts.Opened.{total_size-more}
use Rattle.system_tables.proofs.reassembly.segments.Segments.push.Goals as goal

pub invariant_of-self : goal.invariant_of-self
invariant_of-self c =
    let t = c.self.inside in
    let entries = t.entries.items in
    let pushed = ap present c.in-Ok.ensures.items ∙ present-append entries (Some c.args.segment ∷ []) in (
      omega (arith, ap length pushed, length_push (present entries) c.args.segment, c.self.invariant.0),
      omega (arith, ap total_size pushed, total_size-more (present entries) c.args.segment, c.self.invariant.1, c.frame_len.ensures.len),
      omega (arith, c.self.invariant.2, c.in-Ok.ensures.capacity),
    )

pub overflow_add-self : goal.overflow_add-self
overflow_add-self c =
    let t = c.self.inside in
    omega (arith, c.self.invariant.0, length-present t.entries.items, ap (λ v. length v.entries) c.self.view_is, c.requires.few)
