-- The groups of an Ethernet (ISO 9542).
use Rattle.std.specs.Prelude.{ℕ, List, [], ◌∷◌}

-- 09002b000004, all end systems, and 09002b000005, all intermediate systems
abbrev pub end_systems : List ℕ
end_systems = 9 ∷ 0 ∷ 43 ∷ 0 ∷ 0 ∷ 4 ∷ []

abbrev pub intermediate_systems : List ℕ
intermediate_systems = 9 ∷ 0 ∷ 43 ∷ 0 ∷ 0 ∷ 5 ∷ []
