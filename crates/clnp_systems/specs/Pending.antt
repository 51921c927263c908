-- The echo requests of a system that are still to be answered, as the code notes them (RFC 1575).
use Rattle.std.specs.Prelude.{ℕ, ◌&&◌, Bool, List, Option, None, Some}
use Rattle.std.specs.Str.{bytes_eq}
use Rattle.clnp_machine.specs.ClnpViews.Extent.{seen}
use Rattle.clnp_machine.specs.Pdus.declared.pdu_header.kind.Kind.{Kind}
use Rattle.clnp_machine.specs.Pdus.declared.pdu_header.kind.Kind.TheVariants.{Dt, Er, Erq, Erp}
use Rattle.clnp_machine.specs.MadePdus.Match.{echoes}
use Rattle.clnp_systems.specs.declared.pending.Request.{Request}

-- a unit is noted where it is a request
abbrev pub request_of : Kind → Request → Option Request
request_of Erq request = Some request
request_of Dt request = None
request_of Er request = None
request_of Erp request = None

-- a reply between two addresses with these data answers a request
abbrev pub answers : (source destination octets : List ℕ) → Request → Bool
answers source destination octets request =
    bytes_eq request.to source && (bytes_eq request.from destination && echoes (seen request.body) octets)
