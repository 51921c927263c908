-- What each word of a shown line says, by its key.
use Rattle.std.specs.Prelude.{ℕ, if◌then◌else◌, List, [], ◌∷◌, drop, codes, Option, None, Some, option_and_then}
use Rattle.captures.specs.CaptureText.Packing.{has_prefix}
use Rattle.captures.specs.CaptureText.Said.{Said, with_octets, with_counted, with_option, with_number, says_number, says_sum, says_data, says_rest, says_part, says_listed}

-- the words of the segmentation part, and of an option
unfoldable pub says_field : Said → List ℕ → Option Said
says_field said word =
    if has_prefix (codes "id=") word then says_part said (with_octets said.part (drop 3 word))
    else if has_prefix (codes "off=") word then says_part said (with_number said.part (drop 4 word))
    else if has_prefix (codes "total=") word then says_part said (with_number said.part (drop 6 word))
    else if has_prefix (codes "opt=") word then says_part said (with_option said.part (drop 4 word))
    else None

-- the words of addresses
unfoldable pub says_address : Said → List ℕ → Option Said
says_address said word =
    if has_prefix (codes "to=") word then says_part said (with_counted said.part (drop 3 word))
    else if has_prefix (codes "from=") word then says_part said (with_counted said.part (drop 5 word))
    else if has_prefix (codes "via=") word then says_part said (with_counted said.part (drop 4 word))
    else if has_prefix (codes "title=") word then says_part said (with_counted said.part (drop 6 word))
    else if has_prefix (codes "addr=") word then says_listed said (drop 5 word)
    else says_field said word

-- the words of the fixed part and of what stands behind the header
unfoldable pub says_word : Said → List ℕ → Option Said
says_word said word =
    if has_prefix (codes "life=") word then says_number said (drop 5 word)
    else if has_prefix (codes "hold=") word then says_number said (drop 5 word)
    else if has_prefix (codes "sum=") word then says_sum said (drop 4 word)
    else if has_prefix (codes "data=") word then says_data said (drop 5 word)
    else if has_prefix (codes "rest=") word then says_rest said (drop 5 word)
    else says_address said word

-- all words, one after another
abbrev pub says_words : Said → List (List ℕ) → Option Said
says_words said [] = Some said
says_words said (word ∷ others) = option_and_then (λ now. says_words now others) (says_word said word)
