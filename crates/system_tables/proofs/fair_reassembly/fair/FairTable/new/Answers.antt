use Rattle.std.proofs.Common.{ℕ, List, length, ap, ◌∙◌, arith}
use Rattle.std.proofs.lemmas.List.{length-map}
use Rattle.pdus.proofs.ClnpBase.ListSteps.{slice_get_map}
use Rattle.system_tables.specs.declared.fair_reassembly.share.Share.{Share}
use Rattle.system_tables.specs.FairReassembly.Tables.{limits_of, place_of, sources_of}
use Rattle.system_tables.proofs.FairReassembly.Opened.{new_behind, opened-length}
use Rattle.system_tables.proofs.FairReassembly.Places.{has_its_table}
use Rattle.system_tables.proofs.fair_reassembly.fair.FairTable.new.Goals as goal

pub invariant_of-result : goal.invariant_of-result
invariant_of-result c =
    let shares = c.args.shares.now in
    let tables = opened-length (limits_of c.args.others shares) c.in_ok-tables.tables.items c.in_ok-tables.ensures in
    let sources = ap length c.in_ok-sources.ensures in
    omega (arith, length-map shares (λ (s : Share). s.from), length-map shares (λ (s : Share). s.limits), tables, sources)

pub returns-clause-places : goal.returns-clause-places
returns-clause-places c i share at =
    ap (λ (l : List (List ℕ)). place_of l share.from) c.in_ok-sources.ensures
    ∙ has_its_table (sources_of c.args.shares.now) i share.from c.requires (slice_get_map (λ (s : Share). s.from) c.args.shares.now i share at)

pub returns-clause-behind : goal.returns-clause-behind
returns-clause-behind c =
    new_behind c.args.others c.args.shares.now _ (record { sources = c.in_ok-sources.ensures; tables = c.in_ok-tables.ensures })
