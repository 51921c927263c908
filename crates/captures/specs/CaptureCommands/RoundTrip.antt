-- What is shown and packed again, and what is packed and shown again.
use Rattle.std.specs.Prelude.{◌≡◌, ℕ, ◌≤◌, not, List, [], ◌∷◌, ◌++◌, length, filter, All}
use Rattle.hex.specs.Hex.{IsBytes}
use Rattle.pdus.specs.ClnpBase.Text.{is_skipped, lines_of}
use Rattle.pdus.specs.Nsap.Text.{hex_text}
use Rattle.captures.specs.Captures.{most_octets}
use Rattle.captures.specs.CaptureText.Packing.{IsAccepted}
use Rattle.clnp_base.specs.declared.command_base.status.Status.TheVariants.{Done}
use Rattle.captures.specs.CaptureCommands.Show.{show_status, ShowsLines}
use Rattle.captures.specs.CaptureCommands.Pack.{PackAnswers, PacksLines}

-- lines, each with its end (10)
abbrev pub with_ends : List (List ℕ) → List ℕ
with_ends [] = []
with_ends (line ∷ others) = line ++ (10 ∷ with_ends others)

-- each line of the text ends by `\n` alone
abbrev pub EndsPlainly : List ℕ → Type 0
EndsPlainly text = text ≡ with_ends (lines_of text)

-- the text without its skipped lines
abbrev pub without_skipped : List ℕ → List ℕ
without_skipped text = with_ends (filter (λ line. not (is_skipped line)) (lines_of text))

-- the line has the digits, in lower case, of an accepted frame of at most 70,000 octets; so it is none to skip
pub record HasAccepted (line : List ℕ) : Type 0 where
  pub frame : List ℕ
  pub octets : IsBytes frame
  pub accepted : IsAccepted frame
  pub few : length frame ≤ most_octets
  pub digits : line ≡ hex_text frame

-- a capture in lower case without skipped lines, each line of which ends by `\n` alone, whose frames are accepted and have
-- at most 70,000 octets each
pub record IsAcceptedCapture (text : List ℕ) : Type 0 where
  pub ends : EndsPlainly text
  pub lines : All HasAccepted (lines_of text)

-- packing the text is done, and comes to this capture
pub record PacksTo (text packed : List ℕ) : Type 0 where
  pub done : PackAnswers 1 (lines_of text) Done
  pub output : PacksLines (lines_of text) packed

-- packing the text is done, and comes to this capture and no other
pub record PacksAs (text packed : List ℕ) : Type 0 where
  pub packs : PacksTo text packed
  pub only : (other : List ℕ) → PacksLines (lines_of text) other → other ≡ packed

-- showing the capture is done, and comes to this text and no other
pub record ShowsAs (capture text : List ℕ) : Type 0 where
  pub done : show_status 1 (lines_of capture) ≡ Done
  pub output : ShowsLines (lines_of capture) text
  pub only : (other : List ℕ) → ShowsLines (lines_of capture) other → other ≡ text
