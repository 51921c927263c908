use Rattle.pdus.specs.ClnpOptions.Edits.{advanced}
use Rattle.pdus.specs.ClnpOptions.Parameter.{source_route}
use Rattle.pdus.proofs.ClnpOptions.Values.{leads_on}
use Rattle.pdus.proofs.ClnpOptions.Edited.{IsEdited-absent, route_at, target_leads, advanced_part}
use Rattle.pdus.proofs.clnp_options.edit.advance_route.Goals as goal

pub returns-in_default-clause-octets : goal.returns-in_default-clause-octets
returns-in_default-clause-octets c = (IsEdited-absent c.args.part.now source_route advanced c.requires.well_formed c.in_default.ensures).octets

pub returns-in_default-clause-options : goal.returns-in_default-clause-options
returns-in_default-clause-options c = (IsEdited-absent c.args.part.now source_route advanced c.requires.well_formed c.in_default.ensures).options

pub advance-requires-clause-title : goal.advance-requires-clause-title
advance-requires-clause-title c =
    leads_on _ (route_at _ _ _ c.in-Some.ensures c.requires.well_formed) (target_leads _ _ _ c.in-Some.ensures c.requires.target)

pub returns-clause-octets : goal.returns-clause-octets
returns-clause-octets c = (advanced_part _ _ _ _ c.in-Some.ensures c.requires.well_formed c.requires.target c.advance.ensures).octets

pub returns-clause-options : goal.returns-clause-options
returns-clause-options c = (advanced_part _ _ _ _ c.in-Some.ensures c.requires.well_formed c.requires.target c.advance.ensures).options

pub returns-clause-well_formed : goal.returns-clause-well_formed
returns-clause-well_formed c = (advanced_part _ _ _ _ c.in-Some.ensures c.requires.well_formed c.requires.target c.advance.ensures).well_formed

pub returns-clause-accepted : goal.returns-clause-accepted
returns-clause-accepted c = (advanced_part _ _ _ _ c.in-Some.ensures c.requires.well_formed c.requires.target c.advance.ensures).accepted
