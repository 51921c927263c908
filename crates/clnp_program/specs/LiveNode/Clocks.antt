-- What a run reads of a clock.
use Rattle.std.specs.Prelude.{◌≡◌, ◌≤◌, ◌<◌, ◌^◌, ℕ, List, [], ◌∷◌, Option}
use Rattle.frame_links.specs.ClnpBase.Moments.{GivesMoment}

-- what is seen of a clock: the moments that it will give, where it tells them, and the last one that it gave
pub record ClockState : Type 0 where
  pub moments : Option (List ℕ)
  pub last : ℕ

abbrev pub clock_of : (moments : Option (List ℕ)) → (last : ℕ) → ClockState
clock_of moments last = record { moments = moments; last = last }

-- A clock was read once, and this moment is what it gave: not before the last one, and below 2 ^ 62.
pub record ReadsMoment (before after : ClockState) (moment : ℕ) : Type 0 where
  pub given : GivesMoment before.moments after.moments moment
  pub later : before.last ≤ moment
  pub early : moment < 2 ^ 62
  pub kept : after.last ≡ moment

-- a clock was read for each of these moments, one after the other, and not otherwise
abbrev pub ReadsMoments : (before after : ClockState) → List ℕ → Type 0
ReadsMoments before after [] = after ≡ before
ReadsMoments before after (moment ∷ moments) =
    (between : ClockState) × ReadsMoment before between moment × ReadsMoments between after moments
