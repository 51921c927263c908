-- The entries that are left have the segments.
use Rattle.std.proofs.Common.{rules, tests, ◌∙◌, Option, ap, length, arith}
use Rattle.std.specs.Prelude.{is_some}
use Rattle.std.proofs.lemmas.Fn.{filter_same}
use Rattle.system_tables.specs.declared.reassembly.segment.Segment.{Segment}
use Rattle.system_tables.specs.Reassembly.Entries.{full, present}
use Rattle.system_tables.specs.Reassembly.Offered.{total_size}
use Rattle.system_tables.proofs.ReassemblyFacts.Entries.{filter-full, present-full}
use Rattle.system_tables.proofs.reassembly.segments.Segments.close_up.Goals as goal

pub returns-clause-entries : goal.returns-clause-entries
returns-clause-entries c =
    filter_same _ (λ (entry : Option Segment). is_some entry) _ (λ x b f k. search (rules, tests)) _ _ c.retain.ensures.filtered
    ∙ filter-full c.self.inside.entries.items ∙ ap (λ v. full (present v.entries)) c.self.view_is

pub invariant_of-self : goal.invariant_of-self
invariant_of-self c =
    let t = c.self.inside in
    let items = filter_same _ (λ (entry : Option Segment). is_some entry) _ (λ x b f k. search (rules, tests)) _ _ c.retain.ensures.filtered
    ∙ filter-full t.entries.items in
    let same = ap present items ∙ present-full (present t.entries.items) in (
      omega (arith, c.self.invariant.0, ap length same),
      omega (arith, c.self.invariant.1, ap total_size same),
      omega (arith, c.self.invariant.2, c.retain.ensures.capacity),
    )
