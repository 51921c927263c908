-- An option that the code hands out or takes, as its code and its octets.
use Rattle.std.specs.Prelude.{ℕ, Bool, if◌then◌else◌, [], ◌∷◌}
use Rattle.pdus.specs.ClnpOptions.Parameter.{Parameter, padding, security, source_route, recording, quality, priority, reason}
use Rattle.pdus.specs.declared.clnp_options.kinds.OptionRef.{OptionRef}
use Rattle.pdus.specs.declared.clnp_options.kinds.OptionRef.TheVariants.{Padding, Security, SourceRoute, RecordRoute, Quality, Priority, Reason}

-- the kind octet of a route: 1 where it is complete
abbrev pub kind_of : Bool → ℕ
kind_of complete = if complete then 1 else 0

abbrev pub parameter_of : OptionRef → Parameter
parameter_of (Padding octets) = record { code = padding; value = octets.now }
parameter_of (Security octets) = record { code = security; value = octets.now }
parameter_of (SourceRoute complete next titles) = record { code = source_route; value = kind_of complete ∷ next ∷ titles.now }
parameter_of (RecordRoute complete next room) = record { code = recording; value = kind_of complete ∷ next ∷ room.now }
parameter_of (Quality octets) = record { code = quality; value = octets.now }
parameter_of (Priority level) = record { code = priority; value = level ∷ [] }
parameter_of (Reason code place) = record { code = reason; value = code ∷ place ∷ [] }
