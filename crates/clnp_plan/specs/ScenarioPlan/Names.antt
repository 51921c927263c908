-- The names of systems and subnetworks.
use Rattle.std.specs.Prelude.{ℕ, ◌&&◌, ◌||◌, nat_le, Bool, false, List, [], ◌∷◌, length}
use Rattle.std.specs.List.{list_all}
use Rattle.pdus.specs.ClnpBase.Text.{is_digit}

abbrev pub is_letter : ℕ → Bool
is_letter c = nat_le 97 c && nat_le c 122

abbrev pub is_letter_or_digit : ℕ → Bool
is_letter_or_digit c = is_letter c || is_digit c

abbrev pub begins_with_letter : List ℕ → Bool
begins_with_letter [] = false
begins_with_letter (c ∷ cs) = is_letter c

-- up to 16 letters a to z and digits, the first of them a letter
abbrev pub is_name : List ℕ → Bool
is_name word = begins_with_letter word && list_all is_letter_or_digit word && nat_le (length word) 16
