-- What a router reads and changes in the options of a PDU that it forwards.
use Rattle.std.specs.Prelude.{◌≡◌, ℕ, ◌+◌, ◌-◌, ◌==◌, nat_le, Bool, false, if◌then◌else◌, List, [], ◌∷◌, ◌++◌, map, length, take, drop, slice_index, slice_set, bit_or, Option, Some, None, option_and_then}
use Rattle.std.specs.Option.{option_map_or}
use Rattle.std.specs.List.{AllZip}
use Rattle.pdus.specs.ClnpOptions.Parameter.{Parameter, source_route}

-- the options with the value of each one of this code changed
unfoldable pub edited : ℕ → (List ℕ → List ℕ) → List Parameter → List Parameter
edited code change options =
    map (λ option. if option.code == code then record { code = code; value = change option.value } else option) options

-- the value of the first option of this code
unfoldable pub value_of : ℕ → List Parameter → Option (List ℕ)
value_of code [] = None
value_of code (option ∷ others) = if option.code == code then Some option.value else value_of code others

-- the pointer of a source route or a recording: a place in the value, which counts from 1
abbrev pub pointer_of : List ℕ → ℕ
pointer_of value = slice_index value 1

-- the title's length octet at a source route's pointer
abbrev pub title_size : List ℕ → ℕ
title_size value = slice_index value (pointer_of value - 1)

-- the title at a source route's pointer, unless the route is exhausted
unfoldable pub title_at : List ℕ → Option (List ℕ)
title_at value =
    if nat_le (pointer_of value) (length value)
    then Some (take (title_size value) (drop (pointer_of value) value))
    else None

-- the title to which a source route leads next, if there is one
unfoldable pub target_of : List Parameter → Option (List ℕ)
target_of options = option_and_then title_at (value_of source_route options)

-- whether a source route is complete: the PDU goes through the systems that it names and no others (type code 1)
abbrev pub is_complete : List Parameter → Bool
is_complete options = option_map_or (λ value. slice_index value 0 == 1) (value_of source_route options) false

-- the number of octets of a source route from its pointer on
abbrev pub route_left : List Parameter → ℕ
route_left options = option_map_or (λ value. length value + 1 - pointer_of value) (value_of source_route options) 0

-- a source route with its pointer moved past the title there and its length octet
unfoldable pub advanced : List ℕ → List ℕ
advanced value = slice_set value 1 (pointer_of value + title_size value + 1)

-- a recording with the title put at its pointer and the pointer moved past it
abbrev pub with_title : List ℕ → List ℕ → List ℕ
with_title title value =
    slice_set (take (pointer_of value - 1) value ++ (length title ∷ title) ++ drop (pointer_of value + length title) value)
    1 (pointer_of value + length title + 1)

-- a recording after it met a title: put where it fits, else ended; one that was ended stays
unfoldable pub recorded : List ℕ → List ℕ → List ℕ
recorded title value =
    if pointer_of value == 255
    then value
    else (if nat_le (pointer_of value + length title) (length value)
    then with_title title value
    else slice_set value 1 255)

-- a quality of service with the congestion bit, 0x08, set where its format is the globally unique one, 11
unfoldable pub marked : List ℕ → List ℕ
marked value = if nat_le 192 (slice_index value 0) then slice_set value 0 (bit_or (slice_index value 0) 8) else value

-- options of the same codes, with values of the same lengths
abbrev pub HaveOneForm : List Parameter → List Parameter → Type 0
HaveOneForm options others = AllZip (λ one other. (one.code ≡ other.code) × (length one.value ≡ length other.value)) options others
