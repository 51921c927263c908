-- What a list still begins with, whatever was written behind it.
use Rattle.std.specs.Prelude.{◌≡◌, ℕ, List, length, take}

-- what stood there stands at the front
abbrev pub Keeps : (old new : List ℕ) → Type 0
Keeps old new = take (length old) new ≡ old
