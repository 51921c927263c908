-- The values of PDUs that this system makes.
use Rattle.std.specs.Prelude.{ℕ, Bool, List, [], ◌∷◌, Option, None, Some, false}
use Rattle.pdus.specs.ClnpOptions.Parameter.{Parameter}
use Rattle.pdus.specs.PduHeader.Spelling.{pair_of}
use Rattle.pdus.specs.declared.esis_pdus.pdu.EsisBody.{EsisBody}
use Rattle.pdus.specs.declared.esis_pdus.pdu.EsisBody.TheVariants.{Esh}
use Rattle.pdus.specs.EsisPdus.Spelling.{header_length}
use Rattle.pdus.specs.EsisPdus.Timer.{timer}
use Rattle.pdus.specs.EsisPdus.Value.{EsisValue}

abbrev pub value : ℕ → Bool → EsisBody → List Parameter → EsisValue
value holding sealed body options = record { holding = holding; sealed = sealed; body = body; options = options }

-- the suggested timer as an option, where one is suggested (ISO 9542:1988)
abbrev pub timer_options : Option ℕ → List Parameter
timer_options None = []
timer_options (Some seconds) = record { code = timer; value = pair_of seconds } ∷ []

-- the octets of an end system hello of these addresses
abbrev pub esh_length : List (List ℕ) → ℕ
esh_length addresses = header_length (value 0 false (Esh addresses) [])
