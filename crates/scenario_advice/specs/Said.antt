-- What a line of advice may have.
use Rattle.std.specs.Prelude.{◌≡◌, ◌≤◌, ℕ, ◌&&◌, nat_le, Bool, true, List, length}
use Rattle.std.specs.List.{list_all}

-- a character from a space to `~`
abbrev pub is_plain : ℕ → Bool
is_plain character = nat_le 32 character && nat_le character 126

-- plain characters alone, and at most 250
pub record IsSaid (said : List ℕ) : Type 0 where
  pub plain : list_all is_plain said ≡ true
  pub few : length said ≤ 250

-- a line of advice: some plain characters, and no more than 250
pub record IsTold (told : List ℕ) : Type 0 where
  pub said : IsSaid told
  pub some : 1 ≤ length told
