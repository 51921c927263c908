-- What a system is asked to send.
use Rattle.std.specs.Prelude.{ℕ, ◌<◌, List}
use Rattle.pdus.specs.Nsap.Address.{IsAddress}
use Rattle.pdus.specs.ClnpOptions.Grammar.{AreFormed}
use Rattle.pdus.specs.ClnpOptions.Parameter.{parameters}
use Rattle.clnp_plan.specs.declared.ask.Ask.{Ask}

-- A data unit is asked for between two addresses (ISO 8473, section 7.3), with a lifetime that one octet holds (section
-- 7.2.5), and with options that are formed as they should be (section 7.5).
pub record IsFormedAsk (from to : List ℕ) (ask : Ask) : Type 0 where
  pub source : IsAddress from
  pub destination : IsAddress to
  pub lifetime : ask.life < 256
  pub options : AreFormed (parameters ask.options)
