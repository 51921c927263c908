-- Each page is renamed.
use Rattle.std.proofs.Common.{ap}
use Rattle.system_tables.specs.Reassembly.Runs.{renamed}
use Rattle.system_tables.proofs.ReassemblyFacts.Groups.{mapped, pages_mapped}
use Rattle.system_tables.proofs.reassembly.runs.Runs.rename.Goals as goal

pub invariant_of-self : goal.invariant_of-self
invariant_of-self c =
    let t = c.self.inside in (
      pages_mapped t.counts.items t.pages.items _ _ _ c.self.invariant.0 (renamed c.args.names.now) _ _ c.rename_pages.ensures.items c.rename_pages.ensures.most,
      c.self.invariant.1,
    )

pub returns-clause-groups : goal.returns-clause-groups
returns-clause-groups c =
    let t = c.self.inside in
    mapped t.counts.items t.pages.items _ (ap (λ v. v.groups) c.self.view_is) c.self.invariant.0.number (renamed c.args.names.now) _ c.rename_pages.ensures.items
