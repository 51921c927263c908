use Rattle.system_tables.proofs.EsisTables.Redirects.{others_stay, systems_stay, routers_stay, hops_stay}
use Rattle.system_tables.proofs.esis_tables.laws.a_redirect_changes_its_destination_alone.Goals as goal

pub returns : goal.returns
returns c = record { redirects = others_stay; systems = systems_stay; routers = routers_stay; next_hop = hops_stay }
