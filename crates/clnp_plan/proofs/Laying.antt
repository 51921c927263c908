-- Texts laid one behind the other in a place, and room for them.
use Rattle.std.proofs.Common.{ℕ, ◌≡◌, ◌∙◌, ◌+◌, ◌-◌, ◌<◌, ◌≤◌, List, [], ◌∷◌, ◌++◌, ap, arith, drop, get_or, length, map, sym, take}
use Rattle.std.proofs.Math.Seq.{take-append-add, take-append_seam}
use Rattle.std.proofs.lemmas.Grind.{flat_map-append}
use Rattle.std.proofs.lemmas.List.{append-nil, append_assoc, length-append, length-drop, length-take, map-append, take-append-drop, take-append-le, take-take, take_more}
use Rattle.std.specs.List.{flat_map}
use Rattle.clnp_plan.specs.Journal.{behind_space}
use Rattle.clnp_plan.specs.Laying.{Lays}
use Rattle.clnp_plan.specs.Words.{word_text}
use Rattle.clnp_plan.specs.declared.line.Word.{Word}

-- a text laid behind another
pub laid_on : (at : ℕ) (xs ys old mid new : List ℕ) (e f : ℕ) → Lays at xs old e mid → Lays e ys mid f new → Lays at (xs ++ ys) old f new
laid_on at xs ys old mid new e f a b = (
  omega (arith, a.0, b.0, length-append xs ys),
  b.1 ∙ ap (λ l. l ++ ys) a.1 ∙ append_assoc (take at old) xs ys,
  b.2 ∙ a.2,
)

-- the words of a line up to one, and that one
pub one_more : (words : List Word) (i : ℕ) (word : Word) → i < length words → word ≡ get_or words i word
    → flat_map behind_space (map word_text (take (i + 1) words))
    ≡ flat_map behind_space (map word_text (take i words)) ++ 32 ∷ word_text word
one_more words i word within is =
    ap (λ l. flat_map behind_space (map word_text l)) (take_more words i word within ∙ ap (λ w. take i words ++ w ∷ []) (sym is))
    ∙ ap (flat_map behind_space) (map-append word_text (take i words) (word ∷ []))
    ∙ flat_map-append behind_space (map word_text (take i words)) (word_text word ∷ [])
    ∙ ap (λ l. flat_map behind_space (map word_text (take i words)) ++ l) (append-nil (32 ∷ word_text word))

-- there is room for each word as long as there is for all
pub room_for_one : (words : List Word) (i : ℕ) (word : Word) → i < length words → word ≡ get_or words i word
    → length (flat_map behind_space (map word_text (take i words))) + 1 + length (word_text word)
    ≤ length (flat_map behind_space (map word_text words))
room_for_one words i word within is =
    let some : List ℕ = flat_map behind_space (map word_text (take (i + 1) words)) in
    let others : List ℕ = flat_map behind_space (map word_text (drop (i + 1) words)) in
    let all : flat_map behind_space (map word_text words) ≡ some ++ others =
    ap (λ l. flat_map behind_space (map word_text l)) (sym (take-append-drop (i + 1) words))
    ∙ ap (flat_map behind_space) (map-append word_text (take (i + 1) words) (drop (i + 1) words))
    ∙ flat_map-append behind_space (map word_text (take (i + 1) words)) (map word_text (drop (i + 1) words)) in
    omega (
      arith,
      ap length all,
      length-append some others,
      ap length (one_more words i word within is),
      length-append (flat_map behind_space (map word_text (take i words))) (32 ∷ word_text word),
    )

-- of a list whose room is filled from the front what is behind the text is cut off
pub filled : (old given place text post rest : List ℕ) (start len whole : ℕ) → start ≡ length old → len ≡ length text
    → take len place ≡ text → take start given ≡ old → start + len ≤ whole
    → take (start + len) (take whole ((take start given ++ (place ++ post)) ++ rest)) ≡ old ++ text
filled old given place text post rest start len whole at size is front within =
    let room : len ≤ length place = omega (arith, size, ap length is, length-take len place) in
    take-take (start + len) whole ((take start given ++ (place ++ post)) ++ rest) within
    ∙ ap (λ l. take (start + len) ((l ++ (place ++ post)) ++ rest)) front
    ∙ ap (take (start + len)) (append_assoc old (place ++ post) rest)
    ∙ ap (λ n. take (n + len) (old ++ ((place ++ post) ++ rest))) at
    ∙ take-append-add old ((place ++ post) ++ rest) len
    ∙ ap (λ l. old ++ l)
    (ap (take len) (append_assoc place post rest) ∙ take-append-le len place (post ++ rest) room ∙ is)

-- what was laid in a part of a list lies within the list
pub lies_within : (old given place text : List ℕ) (start len whole : ℕ) → start ≡ length old → take start given ≡ old
    → length place ≡ length (take (length given - start) (drop start given)) → len ≡ length text → take len place ≡ text
    → length given ≡ whole → start + len ≤ whole
lies_within old given place text start len whole at front wide size is all =
    omega (
      arith,
      at,
      ap length front,
      length-take start given,
      wide,
      length-take (length given - start) (drop start given),
      length-drop start given,
      size,
      ap length is,
      length-take len place,
      all,
    )

-- the front of a list behind which room was made
pub before_room : (old zeros made given : List ℕ) (start : ℕ) → start ≡ length old → given ≡ made → made ≡ old ++ zeros → take start given ≡ old
before_room old zeros made given start at same is =
    ap (take start) (same ∙ is) ∙ ap (λ n. take n (old ++ zeros)) at ∙ take-append_seam old zeros
