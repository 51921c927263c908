use Rattle.std.proofs.Common.{◌≡◌, ◌<◌, ℕ, List, Some, subst, sym}
use Rattle.std.proofs.lemmas.Option.{slice_get_within}
use Rattle.pdus.specs.ClnpViews.Extent.{Extent}
use Rattle.system_tables.specs.Reassembly.Arrival.{octet_in}
use Rattle.system_tables.specs.Reassembly.Buffer.{Buffer, buffer_of, data_of}
use Rattle.system_tables.specs.Reassembly.State.{IsWholeSlot, Names, Stands, TableState}
use Rattle.system_tables.proofs.FairReassembly.Changed.{is_so, so_there, within_tables}
use Rattle.system_tables.proofs.fair_reassembly.fair.FairTable.pieces.Goals as goal

pub index-one-requires : goal.index-one-requires
index-one-requires c =
    subst (λ (n : ℕ). c.args.table < n) (sym c.self.inside.tables.ok.0)
    (within_tables c.args.table c.self.inside.sources.items c.self.inside.tables.items c.args.self.now c.self.view_is
    (slice_get_within c.args.self.now.tables c.args.table c.requires.table c.requires.stands_at))

pub pieces-requires : goal.pieces-requires
pieces-requires c =
    is_so c.args.table c.self.inside.sources.items c.self.inside.tables.items c.args.self.now c.self.view_is c.index-one.result.now
    (λ (one : TableState). IsWholeSlot one c.args.slot.0) c.requires c.index-one.ensures

pub returns : goal.returns
returns c =
    so_there c.args.table c.self.inside.sources.items c.self.inside.tables.items c.args.self.now c.self.view_is c.index-one.result.now
    (λ (one : TableState). (buffers : List (Buffer Extent)) (whole : Buffer Extent) → Stands one buffers → buffer_of whole.key buffers ≡ Some whole
    → Names one c.args.slot.0 whole.key → c.pieces.result ≡ data_of octet_in whole)
    (slice_get_within c.args.self.now.tables c.args.table c.requires.table c.requires.stands_at) c.index-one.ensures c.pieces.ensures
