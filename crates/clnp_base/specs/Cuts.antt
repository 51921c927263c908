-- What the parts of the readers of lines, words and decimals give.
use Rattle.std.specs.Prelude.{ℕ, ◌+◌, ◌-◌, ◌*◌, ◌^◌, ◌==◌, ◌&&◌, nat_lt, if◌then◌else◌, List, [], ◌∷◌, Option, Some, None}
use Rattle.clnp_base.specs.Text.{is_digit}

-- where the octet first stands, or the length where it doesn't
abbrev pub index_of : ℕ → List ℕ → ℕ
index_of wanted [] = 0
index_of wanted (c ∷ cs) = if c == wanted then 0 else index_of wanted cs + 1

-- the line without the `\r` (13) at its end, if it has one
abbrev pub without_return : List ℕ → List ℕ
without_return [] = []
without_return (c ∷ []) = if c == 13 then [] else c ∷ []
without_return (c ∷ (d ∷ ds)) = c ∷ without_return (d ∷ ds)

-- the value with one more digit at its end, where the octet is a digit and the number fits
abbrev pub with_digit : ℕ → ℕ → Option ℕ
with_digit value c = if is_digit c && nat_lt (10 * value + (c - 48)) (2 ^ 64) then Some (10 * value + (c - 48)) else None
