use Rattle.std.proofs.Common.{arith, ap, length, refl}
use Rattle.pdus.specs.ClnpOptions.Edits.{marked}
use Rattle.pdus.specs.ClnpOptions.Parameter.{quality}
use Rattle.pdus.proofs.ClnpOptions.Edited.{IsEdited-absent, form_at, value_at, marked_part}
use Rattle.pdus.proofs.clnp_options.edit.mark_congestion.Goals as goal

pub returns-in_default-clause-octets : goal.returns-in_default-clause-octets
returns-in_default-clause-octets c = (IsEdited-absent c.args.part.now quality marked c.requires.well_formed c.in_default.ensures).octets

pub returns-in_default-clause-options : goal.returns-in_default-clause-options
returns-in_default-clause-options c = (IsEdited-absent c.args.part.now quality marked c.requires.well_formed c.in_default.ensures).options

pub mark-requires : goal.mark-requires
mark-requires c =
    let form = (form_at _ _ _ _ c.in-Some.ensures c.requires.well_formed).quality_form refl in
    let present = form.present in
    omega (arith, ap length (value_at _ _ _ _ c.in-Some.ensures))

pub returns-clause-octets : goal.returns-clause-octets
returns-clause-octets c = (marked_part _ _ _ _ c.in-Some.ensures c.requires.well_formed c.mark.ensures).octets

pub returns-clause-options : goal.returns-clause-options
returns-clause-options c = (marked_part _ _ _ _ c.in-Some.ensures c.requires.well_formed c.mark.ensures).options

pub returns-clause-well_formed : goal.returns-clause-well_formed
returns-clause-well_formed c = (marked_part _ _ _ _ c.in-Some.ensures c.requires.well_formed c.mark.ensures).well_formed

pub returns-clause-accepted : goal.returns-clause-accepted
returns-clause-accepted c = (marked_part _ _ _ _ c.in-Some.ensures c.requires.well_formed c.mark.ensures).accepted
