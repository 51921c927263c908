-- The lines that a live node writes, and their text.
use Rattle.std.specs.Prelude.{ℕ, List, [], ◌∷◌, codes}
use Rattle.std.specs.List.{flat_map}
use Rattle.std.specs.Fmt.{decimal}
use Rattle.clnp_plan.specs.Journal.{Line, line_of, line_text}

-- a line of a journal; or that the link of a port failed, and is detached
pub data NodeLine : Type 0 where
  Says : (line : Line) → NodeLine
  LinkGone : (now : ℕ) (name : List ℕ) (port : ℕ) → NodeLine

abbrev pub node_line_text : NodeLine → List ℕ
node_line_text (Says line) = line_text line
node_line_text (LinkGone now name port) = line_of (decimal now) (name ∷ codes "link" ∷ decimal port ∷ codes "gone" ∷ [])

abbrev pub lines_text : List NodeLine → List ℕ
lines_text lines = flat_map node_line_text lines
