-- The lines, words and decimals of a text, which is a list of octets.
use Rattle.std.specs.Prelude.{ℕ, ◌+◌, ◌-◌, ◌*◌, ◌^◌, ◌==◌, ◌&&◌, nat_le, nat_lt, Bool, true, false, if◌then◌else◌, List, [], ◌∷◌, fold, Option, Some, None}
use Rattle.std.specs.List.{list_all}

-- an empty line, and one that begins with `#`
abbrev pub is_skipped : List ℕ → Bool
is_skipped [] = true
is_skipped (first ∷ others) = first == 35

-- the octet put before the first line or word
abbrev pub onto_first : ℕ → List (List ℕ) → List (List ℕ)
onto_first c [] = (c ∷ []) ∷ []
onto_first c (first ∷ others) = (c ∷ first) ∷ others

-- whether the text begins with this octet
abbrev pub begins_with : ℕ → List ℕ → Bool
begins_with c [] = false
begins_with c (d ∷ ds) = d == c

-- The lines: cut at each `\n` (10), one `\r` (13) before it dropped. The last `\n` begins no further line.
abbrev pub lines_of : List ℕ → List (List ℕ)
lines_of [] = []
lines_of (c ∷ cs) =
    if c == 10 then [] ∷ lines_of cs
    else if (c == 13) && begins_with 10 cs then lines_of cs
    else onto_first c (lines_of cs)

-- whether the text ends here or goes on with a space (32)
abbrev pub ends_word : List ℕ → Bool
ends_word [] = true
ends_word (c ∷ cs) = c == 32

-- The words of a line: cut at runs of spaces, none of them empty.
abbrev pub words_of : List ℕ → List (List ℕ)
words_of [] = []
words_of (c ∷ cs) =
    if c == 32 then words_of cs
    else if ends_word cs then (c ∷ []) ∷ words_of cs
    else onto_first c (words_of cs)

abbrev pub is_digit : ℕ → Bool
is_digit c = nat_le 48 c && nat_le c 57

-- what the digits are worth, the first of them highest
abbrev pub digits_value : List ℕ → ℕ
digits_value digits = fold (λ n c. 10 * n + (c - 48)) 0 digits

-- The number that a word spells: one or more digits that are worth less than 2 ^ 64.
abbrev pub decimal_of : List ℕ → Option ℕ
decimal_of [] = None
decimal_of (c ∷ cs) =
    if list_all is_digit (c ∷ cs) && nat_lt (digits_value (c ∷ cs)) (2 ^ 64)
    then Some (digits_value (c ∷ cs)) else None
