-- What a share is worth, said of the output.
use Rattle.std.specs.Prelude.{◌≡◌, ◌≤◌, ℕ, List, ◌++◌, length, filter, take, Some, slice_get}
use Rattle.std.specs.List.{flat_map}
use Rattle.system_tables.specs.declared.fair_reassembly.share.Share.{Share}
use Rattle.system_tables.specs.Reassembly.Claims.{KeepTo}
use Rattle.system_tables.specs.FairReassembly.Claims.{budget_of_all, held_by_all}
use Rattle.system_tables.specs.FairReassembly.Classes.{accounts, class_buffers, is_from, limits_at}
use Rattle.clnp_program.specs.FairCommands.Grammar.{Capture}
use Rattle.clnp_program.specs.FairCommands.Output.{account_text, end_line, output_of}

-- the lines of the frames of a source
abbrev pub lines_from : List ℕ → Capture → List ℕ
lines_from source capture =
    flat_map account_text (filter (λ account. is_from source account.came) (accounts capture.shares capture.frames))

-- the same capture with the frames of all other sources taken out
abbrev pub from_alone : List ℕ → Capture → Capture
from_alone source capture = record { shares = capture.shares; frames = filter (is_from source) capture.frames }

-- The lines of a source with a share are those that it gets where the frames of all other sources are taken out. Behind any
-- number of frames no table keeps more than its numbers allow, and all together hold no more than their budgets in sum, which
-- is at most 16,777,216.
pub record IsFair (capture : Capture) : Type 0 where
  pub apart : (i : ℕ) (share : Share) → slice_get capture.shares.shares i ≡ Some share
      → output_of (from_alone share.from capture)
      ≡ lines_from share.from capture ++ end_line (length (from_alone share.from capture).frames)
  pub each : (place n : ℕ) → KeepTo (limits_at capture.shares place) (class_buffers capture.shares place (take n capture.frames))
  pub all : (n : ℕ) → held_by_all capture.shares (take n capture.frames) ≤ budget_of_all capture.shares
  pub budget : budget_of_all capture.shares ≤ 16777216
