-- Segments of one unit of 3,025 octets, 25 of them its header, as they come: what comes of each, and what is held then.
use Rattle.std.proofs.Common.{◌≡◌, ℕ, ◌+◌, List, [], ◌∷◌, refl}
use Rattle.std.specs.Prelude.{⊤}
use Rattle.system_tables.specs.declared.reassembly.segment.Key.{Key}
use Rattle.system_tables.specs.declared.reassembly.segment.Shape.{Shape}
use Rattle.system_tables.specs.declared.reassembly.table.TableLimits.{TableLimits}
use Rattle.system_tables.specs.Reassembly.Arrival.{Arrival}
use Rattle.system_tables.specs.Reassembly.Buffer.{Buffer, Held, Whole, Interference, Repeat, NoSlot, Many, held, answer, after, undone}

abbrev limits : (slots segments : ℕ) → TableLimits
limits slots segments = record { slots = slots; segments = segments; budget = 262144; hold = 60 }

abbrev unit_key : ℕ → Key
unit_key id = record { from = 0x47 ∷ 1 ∷ []; to = 0x47 ∷ 2 ∷ []; id = id }

abbrev unit_shape : ℕ → Shape
unit_shape total = record { total = total; head_len = 25; kind = 28 }

-- a segment of a unit with this identifier and total, which came in as many octets as its header and data are
abbrev came : (id total offset len : ℕ) → Arrival ⊤
came id total offset len =
    record { key = unit_key id; shape = unit_shape total; offset = offset; len = len; size = 25 + len; lifetime = 10; carried = tt }

abbrev segment : (offset len : ℕ) → Arrival ⊤
segment offset len = came 1 3025 offset len

-- the buffer that was opened at 0, with these segments
abbrev opened : List (Arrival ⊤) → List (Buffer ⊤)
opened kept = record { key = unit_key 1; shape = unit_shape 3025; opened = 0; deadline = 10; kept = kept } ∷ []

-- the segments that are kept, after each that is
abbrev one : List (Arrival ⊤)
one = segment 2944 56 ∷ []

abbrev two : List (Arrival ⊤)
two = segment 2944 56 ∷ segment 1440 32 ∷ []

abbrev three : List (Arrival ⊤)
three = segment 2944 56 ∷ segment 1440 32 ∷ segment 1472 1472 ∷ []

abbrev four : List (Arrival ⊤)
four = segment 2944 56 ∷ segment 1440 32 ∷ segment 1472 1472 ∷ segment 960 480 ∷ []

abbrev five : List (Arrival ⊤)
five = segment 2944 56 ∷ segment 1440 32 ∷ segment 1472 1472 ∷ segment 960 480 ∷ segment 0 1472 ∷ []

-- ---- the answers, and how many octets are held then

last_comes : answer (limits 16 1024) 0 (segment 2944 56) [] ≡ Held
last_comes = refl

last_is_kept : after (limits 16 1024) 0 (segment 2944 56) [] ≡ opened one
last_is_kept = refl

held-one : held (opened one) ≡ 81
held-one = refl

last_again : answer (limits 16 1024) 0 (segment 2944 56) (opened one) ≡ Repeat
last_again = refl

repeat_is_not_kept : after (limits 16 1024) 0 (segment 2944 56) (opened one) ≡ opened one
repeat_is_not_kept = refl

short_comes : answer (limits 16 1024) 0 (segment 1440 32) (opened one) ≡ Held
short_comes = refl

short_is_kept : after (limits 16 1024) 0 (segment 1440 32) (opened one) ≡ opened two
short_is_kept = refl

held-two : held (opened two) ≡ 138
held-two = refl

long_comes : answer (limits 16 1024) 0 (segment 1472 1472) (opened two) ≡ Held
long_comes = refl

long_is_kept : after (limits 16 1024) 0 (segment 1472 1472) (opened two) ≡ opened three
long_is_kept = refl

held-three : held (opened three) ≡ 1635
held-three = refl

within_the_long : answer (limits 16 1024) 0 (segment 1952 480) (opened three) ≡ Repeat
within_the_long = refl

within_is_not_kept : after (limits 16 1024) 0 (segment 1952 480) (opened three) ≡ opened three
within_is_not_kept = refl

middle_comes : answer (limits 16 1024) 0 (segment 960 480) (opened three) ≡ Held
middle_comes = refl

middle_is_kept : after (limits 16 1024) 0 (segment 960 480) (opened three) ≡ opened four
middle_is_kept = refl

held-four : held (opened four) ≡ 2140
held-four = refl

first_comes : answer (limits 16 1024) 0 (segment 0 1472) (opened four) ≡ Whole
first_comes = refl

first_is_kept : after (limits 16 1024) 0 (segment 0 1472) (opened four) ≡ opened five
first_is_kept = refl

held-five : held (opened five) ≡ 3637
held-five = refl

-- ---- undone, and offered again

first_undone : undone (unit_key 1) (opened five) ≡ opened four
first_undone = refl

held-undone : held (undone (unit_key 1) (opened five)) ≡ 2140
held-undone = refl

whole_again : answer (limits 16 1024) 0 (segment 0 1472) (undone (unit_key 1) (opened five)) ≡ Whole
whole_again = refl

-- ---- what is refused

no_slot : answer (limits 1 1024) 0 (came 2 3025 0 1472) (opened one) ≡ NoSlot 1
no_slot = refl

no_slot_for : after (limits 1 1024) 0 (came 2 3025 0 1472) (opened one) ≡ opened one
no_slot_for = refl

many : answer (limits 16 1) 0 (segment 1440 32) (opened one) ≡ Many 1
many = refl

repeat_before_many : answer (limits 16 1) 0 (segment 2944 56) (opened one) ≡ Repeat
repeat_before_many = refl

interference : answer (limits 16 1024) 0 (came 1 3026 0 1472) (opened one) ≡ Interference (unit_shape 3025) (unit_shape 3026)
interference = refl

interference_is_not_kept : after (limits 16 1024) 0 (came 1 3026 0 1472) (opened one) ≡ opened one
interference_is_not_kept = refl
