use Rattle.std.proofs.Common.{◌≡◌, ℕ, Bool, List, get_or}
use Rattle.pdus.specs.PduHeader.Parts.{checked}
use Rattle.pdus.proofs.PduHeader.Taken.{taken}
use Rattle.pdus.proofs.pdu_header.adjusting.adjust_each.Given as goal

abbrev pub invariant-loop-index : goal.invariant-loop-index
invariant-loop-index l = (is_sealed : Bool) (plain : List ℕ) → get_or plain 7 0 ≡ 0 → l.initial.head ≡ checked is_sealed plain → l.head ≡ checked is_sealed (taken plain l.changed l.start l.index)
