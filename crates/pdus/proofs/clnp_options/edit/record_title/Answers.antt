use Rattle.std.proofs.Common.{arith}
use Rattle.pdus.specs.ClnpOptions.Edits.{recorded}
use Rattle.pdus.specs.ClnpOptions.Parameter.{recording}
use Rattle.pdus.proofs.ClnpOptions.Values.{recorded_before}
use Rattle.pdus.proofs.ClnpOptions.Edited.{IsEdited-absent, recording_at, recorded_part}
use Rattle.pdus.proofs.clnp_options.edit.record_title.Goals as goal

pub returns-in_default-clause-octets : goal.returns-in_default-clause-octets
returns-in_default-clause-octets c = (IsEdited-absent c.args.part.now recording (recorded c.args.title.now) c.requires.well_formed c.in_default.ensures).octets

pub returns-in_default-clause-options : goal.returns-in_default-clause-options
returns-in_default-clause-options c = (IsEdited-absent c.args.part.now recording (recorded c.args.title.now) c.requires.well_formed c.in_default.ensures).options

pub record-requires-clause-long : goal.record-requires-clause-long
record-requires-clause-long c = (recording_at _ _ _ c.in-Some.ensures c.requires.well_formed).long

pub record-requires-clause-pointer : goal.record-requires-clause-pointer
record-requires-clause-pointer c =
    λ n. let at = (recorded_before _ (recording_at _ _ _ c.in-Some.ensures c.requires.well_formed) n).pointer in omega arith

pub returns-clause-octets : goal.returns-clause-octets
returns-clause-octets c = (recorded_part _ _ _ _ _ c.in-Some.ensures c.requires.well_formed c.requires.title c.record.ensures).octets

pub returns-clause-options : goal.returns-clause-options
returns-clause-options c = (recorded_part _ _ _ _ _ c.in-Some.ensures c.requires.well_formed c.requires.title c.record.ensures).options

pub returns-clause-well_formed : goal.returns-clause-well_formed
returns-clause-well_formed c = (recorded_part _ _ _ _ _ c.in-Some.ensures c.requires.well_formed c.requires.title c.record.ensures).well_formed

pub returns-clause-accepted : goal.returns-clause-accepted
returns-clause-accepted c = (recorded_part _ _ _ _ _ c.in-Some.ensures c.requires.well_formed c.requires.title c.record.ensures).accepted
