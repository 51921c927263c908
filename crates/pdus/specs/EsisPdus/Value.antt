-- The value that an ES-IS PDU carries (ISO 9542, section 7).
use Rattle.std.specs.Prelude.{ℕ, Bool, List, Option, None}
use Rattle.pdus.specs.ClnpOptions.Parameter.{Parameter}
use Rattle.pdus.specs.declared.esis_pdus.pdu.EsisBody.{EsisBody}
use Rattle.pdus.specs.declared.esis_pdus.pdu.EsisBody.TheVariants.{Esh, Ish, Rd}
use Rattle.pdus.specs.EsisPdus.Timer.{seconds_of}

pub record EsisValue : Type 0 where
  -- the holding time in seconds
  pub holding : ℕ
  -- its header has a checksum
  pub sealed : Bool
  -- its kind and its addresses
  pub body : EsisBody
  pub options : List Parameter

-- the seconds that the timer suggests, among the options of an intermediate system hello
abbrev pub suggested : EsisBody → List Parameter → Option ℕ
suggested (Esh addresses) options = None
suggested (Ish title) options = seconds_of options
suggested (Rd to via title) options = None
