use Rattle.std.proofs.Common.{◌<◌, ◌∙◌, ℕ, length-set, subst, sym}
use Rattle.std.specs.Prelude.{slice_set}
use Rattle.system_tables.specs.FairReassembly.Calls.{Expires}
use Rattle.system_tables.specs.FairReassembly.Tables.{ChangesTable}
use Rattle.system_tables.proofs.FairReassembly.Changed.{changed, within_tables}
use Rattle.system_tables.proofs.fair_reassembly.fair.FairTable.expire.Goals as goal

pub index_mut-table-requires : goal.index_mut-table-requires
index_mut-table-requires c =
    subst (λ (n : ℕ). c.place-place.result < n) (sym c.self.inside.tables.ok.0)
    (within_tables c.place-place.result c.self.inside.sources.items c.self.inside.tables.items c.args.self.now c.self.view_is
    c.place-place.ensures.within)

pub invariant_of-self : goal.invariant_of-self
invariant_of-self c = length-set c.self.inside.tables.items c.place-place.result c.expire.new.self ∙ c.self.invariant

pub returns : goal.returns
returns c =
    let told = c.expire.ensures in
    let place = c.place-place.result in
    subst
    (λ (n : ℕ). ChangesTable n c.args.self.now (record { sources = c.self.inside.sources.items; tables = slice_set c.self.inside.tables.items place c.expire.new.self })
    (Expires c.args.now c.expire.result)) c.place-place.ensures.place
    (changed place c.self.inside.sources.items c.self.inside.tables.items c.args.self.now c.index_mut-table.result.now c.expire.new.self
    (Expires c.args.now c.expire.result) c.self.view_is c.place-place.ensures.within c.index_mut-table.ensures.value
    (record { ended = told.ended; stands = told.stands; none_whole = told.none_whole; ready = told.ready; limits = told.limits }))
