use Rattle.std.proofs.Common.{◌≡◌, length}
use Rattle.pdus.specs.ClnpBase.Text.{words_of}
use Rattle.captures.specs.CaptureText.Said.{nothing}
use Rattle.captures.specs.CaptureText.Words.{says_words}
use Rattle.captures.specs.CaptureText.View.{said_by}
use Rattle.captures.proofs.capture_text.pieces.pieces_of.Given as goal

-- what is said so far and what is left to say is all that the line says
abbrev pub invariant-loop-word : goal.invariant-loop-word
invariant-loop-word l = says_words (said_by l.pieces) (words_of l.left) ≡ says_words nothing (words_of l.line)

abbrev pub decreases-loop-word : goal.decreases-loop-word
decreases-loop-word l = length l.left
