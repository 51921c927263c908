-- What the code's types mean.
use Rattle.std.specs.Prelude.{◌≡◌, ◌==◌, not}
use Rattle.pdus.specs.ClnpOptions.Parameter.{parameters, spelled}
use Rattle.pdus.specs.declared.esis_pdus.pdu.EsisPdu.{EsisPdu}
use Rattle.pdus.specs.EsisPdus.Value.{EsisValue}
use Rattle.pdus.specs.EsisPdus.Grammar.{IsPdu}

-- the value that a PDU carries: it has a checksum where the two octets aren't both 0
abbrev pub pdu_value : EsisPdu → EsisValue
pdu_value pdu =
    record {
      holding = pdu.hold;
      sealed = not (pdu.sum == 0);
      body = pdu.body;
      options = parameters pdu.options.now;
    }

-- a PDU that can be written: its octets of options are whole options
pub record IsWritable (pdu : EsisPdu) : Type 0 where
  pub fits : IsPdu (pdu_value pdu)
  pub options : pdu.options.now ≡ spelled (parameters pdu.options.now)
