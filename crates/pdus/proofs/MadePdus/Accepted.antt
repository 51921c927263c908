-- A header and the data that it wants are a PDU that breaks no rule.
use Rattle.std.proofs.Common.{◌≡◌, ℕ, List, [], ◌++◌, None, sym, ap, append-nil}
use Rattle.pdus.specs.PduHeader.Grammar.{BeginsWith}
use Rattle.pdus.specs.PduHeader.Headers.{SpellsHeader}
use Rattle.pdus.specs.PduHeader.Rules.{refusal}
use Rattle.pdus.specs.PduHeader.Value.{PduValue}
use Rattle.pdus.proofs.PduHeader.Frames.{is_front}

begins : (v : PduValue) (head : List ℕ) → SpellsHeader v head → BeginsWith (head ++ v.body) v []
begins v head spells = record {
  octets = head ++ v.body;
  spells = record { pdu = spells.pdu; octets_are = ap (λ h. h ++ v.body) spells.octets_are };
  split = sym (append-nil (head ++ v.body));
}

pub unbroken : (v : PduValue) (head : List ℕ) → SpellsHeader v head → refusal (head ++ v.body) ≡ None
unbroken v head spells = (is_front (head ++ v.body) v [] (begins v head spells)).unbroken
