use Rattle.std.proofs.Common.{◌∙◌}
use Rattle.pdus.proofs.ClnpOptions.Values.{leads_on}
use Rattle.pdus.proofs.ClnpOptions.Edited.{route_at, target_of-at, target_of-none}
use Rattle.pdus.proofs.clnp_options.edit.route_target.Goals as goal

pub returns-in_default : goal.returns-in_default
returns-in_default c = target_of-none c.args.part.now c.in_default.ensures

pub title_at-requires-clause-long : goal.title_at-requires-clause-long
title_at-requires-clause-long c = (route_at _ _ _ c.in-Some.ensures c.requires).long

pub title_at-requires-clause-title : goal.title_at-requires-clause-title
title_at-requires-clause-title c = λ within. leads_on _ (route_at _ _ _ c.in-Some.ensures c.requires) within

pub returns : goal.returns
returns c = c.title_at.ensures ∙ target_of-at _ _ _ c.in-Some.ensures
