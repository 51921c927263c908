-- An empty line calls for nothing.
use Rattle.std.proofs.Common.{◌≡◌, ℕ, ◌+◌, List, [], ◌∷◌, arith, length, refl}
use Rattle.captures.specs.Captures.{Skipped, capture_of}
use Rattle.clnp_base.specs.CommandBase.ByLine.{Good}
use Rattle.captures.specs.CaptureCommands.Show.{showing}

pub empty_skipped : (line : List ℕ) → length line ≡ 0 → capture_of line ≡ Skipped
unfolding capture_of
empty_skipped [] none = refl
empty_skipped (octet ∷ others) none = absurd (omega (arith, none))

pub skipped_good : (number : ℕ) (line : List ℕ) → capture_of line ≡ Skipped → Good showing number (number + 1) (line ∷ []) []
skipped_good number line skips = record {
  behind = λ ending later rest called. rw skips called;
  answer = λ later answered called. rw skips called;
}
