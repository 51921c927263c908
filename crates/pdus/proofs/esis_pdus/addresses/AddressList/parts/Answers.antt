use Rattle.pdus.proofs.EsisPdus.FieldFacts.{filled_count, filled_octets}
use Rattle.pdus.proofs.esis_pdus.addresses.AddressList.parts.Goals as goal

pub returns-clause-count : goal.returns-clause-count
returns-clause-count c = filled_count c.self.inside.left _ _ c.self.invariant c.self.view_is

pub returns-clause-octets : goal.returns-clause-octets
returns-clause-octets c = filled_octets c.self.inside.left _ _ c.self.invariant c.self.view_is
