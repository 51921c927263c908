-- The value that a header carries, read off field by field.
use Rattle.std.specs.Prelude.{ℕ, ◌==◌, not, if◌then◌else◌, List, length, drop, Option, None, Some}
use Rattle.pdus.specs.ClnpOptions.Parameter.{parameters}
use Rattle.pdus.specs.PduHeader.Rules.{pair_at, header_size}
use Rattle.pdus.specs.declared.esis_pdus.pdu.EsisBody.{EsisBody}
use Rattle.pdus.specs.declared.esis_pdus.pdu.EsisBody.TheVariants.{Esh, Ish, Rd}
use Rattle.pdus.specs.EsisPdus.Fields.{field, behind, address_list}
use Rattle.pdus.specs.EsisPdus.Value.{EsisValue}
use Rattle.pdus.specs.EsisPdus.Rules.{variable_part, is_esh, is_ish, options_part}

-- a title, or none where the field has no octet
abbrev pub title_of : List ℕ → Option (List ℕ)
title_of octets = if length octets == 0 then None else Some octets

abbrev pub redirection : List ℕ → EsisBody
redirection part = Rd (field part) (field (behind part)) (title_of (field (behind (behind part))))

-- the kind and the addresses that a header carries
abbrev pub body_of : List ℕ → EsisBody
body_of head =
    if is_esh head then Esh (address_list (variable_part head))
    else (if is_ish head then Ish (field (variable_part head)) else redirection (variable_part head))

abbrev pub value_of : List ℕ → EsisValue
value_of head =
    record {
      holding = pair_at head 6;
      sealed = not (pair_at head 8 == 0);
      body = body_of head;
      options = parameters (options_part head);
    }

-- what follows the PDU in its frame
abbrev pub rest_of : List ℕ → List ℕ
rest_of frame = drop (header_size frame) frame
