use Rattle.std.proofs.Common.{◌<◌, ◌∙◌, ℕ, length-set, subst, sym}
use Rattle.std.proofs.lemmas.Option.{slice_get_within}
use Rattle.system_tables.specs.Reassembly.State.{IsWholeSlot, TableState}
use Rattle.system_tables.specs.FairReassembly.Calls.{Releases}
use Rattle.system_tables.proofs.FairReassembly.Changed.{changed, is_so, within_tables}
use Rattle.system_tables.proofs.fair_reassembly.fair.FairTable.release.Goals as goal

pub returns : goal.returns
returns c =
    let told = c.release.ensures in
    changed c.args.table c.self.inside.sources.items c.self.inside.tables.items c.args.self.now c.index_mut-one.result.now c.release.new.self
    (Releases c.args.slot.0) c.self.view_is (slice_get_within c.args.self.now.tables c.args.table c.requires.table c.requires.stands_at) c.index_mut-one.ensures.value
    (record { stands = told.stands; none_whole = told.none_whole; limits = told.limits })

pub index_mut-one-requires : goal.index_mut-one-requires
index_mut-one-requires c =
    subst (λ (n : ℕ). c.args.table < n) (sym c.self.inside.tables.ok.0)
    (within_tables c.args.table c.self.inside.sources.items c.self.inside.tables.items c.args.self.now c.self.view_is
    (slice_get_within c.args.self.now.tables c.args.table c.requires.table c.requires.stands_at))

pub release-requires : goal.release-requires
release-requires c =
    is_so c.args.table c.self.inside.sources.items c.self.inside.tables.items c.args.self.now c.self.view_is c.index_mut-one.result.now
    (λ (one : TableState). IsWholeSlot one c.args.slot.0) c.requires c.index_mut-one.ensures.value

pub invariant_of-self : goal.invariant_of-self
invariant_of-self c = length-set c.self.inside.tables.items c.args.table c.release.new.self ∙ c.self.invariant
