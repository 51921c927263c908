use Rattle.std.proofs.Common.{◌<◌, ◌∙◌, ℕ, length-set, subst, sym}
use Rattle.system_tables.specs.FairReassembly.Calls.{Accepts}
use Rattle.system_tables.proofs.FairReassembly.Changed.{changed, stood_at, within_tables}
use Rattle.system_tables.proofs.fair_reassembly.fair.FairTable.accept.Goals as goal

pub returns : goal.returns
returns c =
    let told = c.accept.ensures in
    changed c.args.place c.self.inside.sources.items c.self.inside.tables.items c.args.self.now c.index_mut-table.result.now c.accept.new.self
    (Accepts c.args.now c.args.segment c.accept.result) c.self.view_is c.requires.place c.index_mut-table.ensures.value
    (record {
      answered = told.answered;
      stands = told.stands;
      slot = told.slot;
      whole = told.whole;
      completed = told.completed;
      none_whole = told.none_whole;
      same = told.same;
      limits = told.limits;
    })

pub index_mut-table-requires : goal.index_mut-table-requires
index_mut-table-requires c =
    subst (λ (n : ℕ). c.args.place < n) (sym c.self.inside.tables.ok.0)
    (within_tables c.args.place c.self.inside.sources.items c.self.inside.tables.items c.args.self.now c.self.view_is
    c.requires.place)

pub accept-requires-clause-none_whole : goal.accept-requires-clause-none_whole
accept-requires-clause-none_whole c =
    c.requires.none_whole c.index_mut-table.result.now
    (stood_at c.args.place c.self.inside.sources.items c.self.inside.tables.items c.args.self.now c.self.view_is c.index_mut-table.result.now
    c.requires.place c.index_mut-table.ensures.value)

pub invariant_of-self : goal.invariant_of-self
invariant_of-self c = length-set c.self.inside.tables.items c.args.place c.accept.new.self ∙ c.self.invariant
