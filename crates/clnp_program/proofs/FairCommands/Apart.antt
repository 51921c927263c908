-- The lines of a class, and the output where no other frames come.
use Rattle.std.proofs.Common.{◌≡◌, ◌++◌, ℕ, List, length, take, Result, Ok, Err, IfOk, refl, sym, ap, subst}
use Rattle.std.specs.List.{flat_map}
use Rattle.system_tables.specs.FairReassembly.Classes.{Account, frames_of, limits_at}
use Rattle.system_tables.proofs.FairReassembly.Alone.{alone}
use Rattle.system_tables.proofs.FairReassembly.Kept.{held_within, within_limits}
use Rattle.system_tables.proofs.FairReassembly.Sources.{source_alone}
use Rattle.clnp_program.specs.FairCommands.Claims.{IsAccepted}
use Rattle.clnp_program.specs.FairCommands.Fair.{IsFair, from_alone}
use Rattle.clnp_program.specs.FairCommands.Grammar.{Capture, capture_of}
use Rattle.clnp_program.proofs.FairCommands.Accepted.{accepted}
use Rattle.clnp_program.specs.FairCommands.Output.{account_text, class_alone, end_line, lines_of_class, output_of}

pub apart : (capture other : Capture) (place : ℕ) → other ≡ class_alone place capture
    → output_of other ≡ lines_of_class place capture ++ end_line (length other.frames)
apart capture other place e =
    subst (λ (c : Capture). output_of c ≡ lines_of_class place capture ++ end_line (length c.frames)) (sym e)
    (ap (λ (accounts : List Account). flat_map account_text accounts ++ end_line (length (class_alone place capture).frames))
    (sym (alone capture.shares place capture.frames)))

if_ok : {A E : Type 0} (r : Result A E) (P : A → Type 0) → ((x : A) → r ≡ Ok x → P x) → IfOk r P
if_ok (Ok x) P h = h x refl
if_ok (Err e) P h = tt

-- a capture that was accepted is fair
fair : (capture : Capture) → IsAccepted capture → IsFair capture
fair capture accepted = record {
  apart = λ i share there.
      ap (λ (accounts : List Account). flat_map account_text accounts ++ end_line (length (from_alone share.from capture).frames))
      (sym (source_alone capture.shares i share accepted.distinct there capture.frames));
  each = λ place n. within_limits (limits_at capture.shares place) (frames_of capture.shares place (take n capture.frames));
  all = λ n. held_within capture.shares (take n capture.frames);
  budget = accepted.budget;
}

pub texts_are_fair : (text : List ℕ) → IfOk (capture_of text) IsFair
texts_are_fair text = if_ok (capture_of text) IsFair (λ capture said. fair capture (accepted text capture said))
