use Rattle.std.proofs.Common.{◌∙◌, arith}
use Rattle.pdus.proofs.ClnpOptions.Edited.{route_at, complete_of-at, complete_of-none}
use Rattle.pdus.proofs.clnp_options.edit.is_route_complete.Goals as goal

pub returns-in_default : goal.returns-in_default
returns-in_default c = complete_of-none c.args.part.now c.in_default.ensures

pub has_complete_kind-requires : goal.has_complete_kind-requires
has_complete_kind-requires c = let long = (route_at _ _ _ c.in-Some.ensures c.requires).long in omega arith

pub returns : goal.returns
returns c = c.has_complete_kind.ensures ∙ complete_of-at _ _ _ c.in-Some.ensures
