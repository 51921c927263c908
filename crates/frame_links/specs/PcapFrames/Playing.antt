-- What is seen of a link that plays a file, and what a look does.
use Rattle.std.specs.Prelude.{ℕ, List, [], ◌∷◌, ◌++◌, None}
use Rattle.pdus.specs.ClnpBase.Streams.{count_up}
use Rattle.frame_links.specs.LinkBoard.Links.{CameFrame, LinkState}
use Rattle.frame_links.specs.LinkBoard.Memory.{told_looks}

-- the frames that are still to come and those that came, and the empty looks so far
pub record Playing : Type 0 where
  pub left : List CameFrame
  pub came : List CameFrame
  pub empties : ℕ

-- What is seen of it as of any link. It tells its looks as long as it counts the empty ones exactly, never what was sent,
-- and never fails.
abbrev pub state_of : Playing → LinkState
state_of p = record { looks = told_looks p.came p.empties; sent = None; faults = 0; empties = p.empties }

-- before the first look
abbrev pub at_first : List CameFrame → Playing
at_first frames = record { left = frames; came = []; empties = 0 }

-- after a look, while these frames are still to come
abbrev pub after_look : Playing → List CameFrame → Playing
after_look p [] = record p { empties = count_up p.empties }
after_look p (frame ∷ left) = record p { left = left; came = p.came ++ frame ∷ [] }
