-- A text and its parts.
use Rattle.std.proofs.Common.{◌≡◌, ℕ, ◌+◌, ◌<◌, ◌==◌, nat_lt, Bool, true, false, cond, List, [], ◌∷◌, length, take, drop, Bor, Option, None, Some, sym, ap, ◌∙◌, refl, arith}
use Rattle.std.specs.Prelude.{option_map}
use Rattle.std.specs.List.{position, position_or_len, slice_split}
use Rattle.std.proofs.lemmas.List.Splits.{slice_split_none, slice_split_first, length-slice_split}
use Rattle.std.proofs.lemmas.List.Sums.{fails_before_first}
use Rattle.pdus.proofs.ClnpBase.ListSteps.{first_past}
use Rattle.frame_links.specs.LinkBoard.Words.{address_in, end_in, number_of, parts_at, parts_left}

module _ (p : ℕ → Bool) where
  -- where nothing is cut, the text is the one part
  pub uncut : (text : List ℕ) → position p text ≡ None → slice_split p text ≡ text ∷ []
  uncut text e = slice_split_none p text (λ k d l. fails_before_first p text k d (omega (arith, first_past p text (sym e))))

  -- the first part ends where the text is first cut
  pub cut_first : (text : List ℕ) (at : ℕ) → position p text ≡ Some at → slice_split p text ≡ take at text ∷ slice_split p (drop (at + 1) text)
  cut_first text at e = by (nat_lt (position_or_len p text) (length text)) refl e
    where
      by : (b : Bool) → nat_lt (position_or_len p text) (length text) ≡ b → cond b (Some (position_or_len p text)) None ≡ Some at
          → slice_split p text ≡ take at text ∷ slice_split p (drop (at + 1) text)
      by true t f = let same : position_or_len p text ≡ at = cc in rw (← same) (slice_split_first p text 0 (grind arith))
      by false t f = absurd (cc)

pub one_part : (mark : ℕ) (text : List ℕ) → position (λ c. c == mark) text ≡ None → parts_at mark text ≡ text ∷ []
one_part mark text e = uncut (λ c. c == mark) text e

pub first_of_parts : (mark : ℕ) (text : List ℕ) (at : ℕ) → position (λ c. c == mark) text ≡ Some at → parts_at mark text ≡ take at text ∷ parts_at mark (drop (at + 1) text)
first_of_parts mark text at e = cut_first (λ c. c == mark) text at e

-- there is always a part
pub some_part : (mark : ℕ) (text : List ℕ) → 0 < length (parts_at mark text)
some_part mark text = omega (arith, length-slice_split (λ c. c == mark) text)

-- the first part, and the text of the others behind a reference, if there are others
next_parts : (mark : ℕ) (text first : List ℕ) (others : Option (Bor (List ℕ))) (rest : Bor (List ℕ))
    → parts_at mark text ≡ first ∷ parts_left mark (option_map (λ o. o.now) others) → others ≡ Some rest → parts_at mark text ≡ first ∷ parts_at mark rest.now
next_parts mark text first others rest e f = e ∙ ap (λ (o : Option (Bor (List ℕ))). first ∷ parts_left mark (option_map (λ t. t.now) o)) f

last_part : (mark : ℕ) (text first : List ℕ) (others : Option (Bor (List ℕ)))
    → parts_at mark text ≡ first ∷ parts_left mark (option_map (λ o. o.now) others) → others ≡ None → parts_at mark text ≡ first ∷ []
last_part mark text first others e f = e ∙ ap (λ (o : Option (Bor (List ℕ))). first ∷ parts_left mark (option_map (λ t. t.now) o)) f

pub two_parts : (mark : ℕ) (text a b : List ℕ) (of_a of_b : Option (Bor (List ℕ))) (rest : Bor (List ℕ))
    → parts_at mark text ≡ a ∷ parts_left mark (option_map (λ o. o.now) of_a) → of_a ≡ Some rest
    → parts_at mark rest.now ≡ b ∷ parts_left mark (option_map (λ o. o.now) of_b) → of_b ≡ None
    → parts_at mark text ≡ a ∷ b ∷ []
two_parts mark text a b of_a of_b rest e f g h =
    next_parts mark text a of_a rest e f ∙ ap (λ (others : List (List ℕ)). a ∷ others) (last_part mark rest.now b of_b g h)

pub one_more : (mark : ℕ) (text a : List ℕ) (of_a : Option (Bor (List ℕ))) (rest : Bor (List ℕ)) (others : List (List ℕ))
    → parts_at mark text ≡ a ∷ parts_left mark (option_map (λ o. o.now) of_a) → of_a ≡ Some rest → parts_at mark rest.now ≡ others
    → parts_at mark text ≡ a ∷ others
one_more mark text a of_a rest others e f g = next_parts mark text a of_a rest e f ∙ ap (λ (more : List (List ℕ)). a ∷ more) g

-- an address and a port
pub no_address : (first second : List ℕ) → address_in (parts_at 46 first) ≡ None → end_in (first ∷ second ∷ []) ≡ None
no_address first second e = rw e refl

pub no_port : (first second address : List ℕ) → address_in (parts_at 46 first) ≡ Some address → None ≡ number_of 1 65535 second
    → end_in (first ∷ second ∷ []) ≡ None
no_port first second address e f = rw (e, ← f) refl

pub both : (first second address : List ℕ) (port : ℕ) → address_in (parts_at 46 first) ≡ Some address → Some port ≡ number_of 1 65535 second
    → end_in (first ∷ second ∷ []) ≡ Some (record { address = address; port = port })
both first second address port e f = rw (e, ← f) refl

-- five parts are no address
five : (a b c d : List ℕ) (others : List (List ℕ)) → 0 < length others → address_in (a ∷ b ∷ c ∷ d ∷ others) ≡ None
five a b c d [] h = absurd (omega arith)
five a b c d (e ∷ others) h = refl

pub not_five : (a b c d : List ℕ) (mark : ℕ) (text : List ℕ) → address_in (a ∷ b ∷ c ∷ d ∷ parts_at mark text) ≡ None
not_five a b c d mark text = five a b c d (parts_at mark text) (some_part mark text)

-- three parts are no end
three : (a b : List ℕ) (others : List (List ℕ)) → 0 < length others → end_in (a ∷ b ∷ others) ≡ None
three a b [] h = absurd (omega arith)
three a b (c ∷ others) h = refl

pub not_three : (a b : List ℕ) (mark : ℕ) (text : List ℕ) → end_in (a ∷ b ∷ parts_at mark text) ≡ None
not_three a b mark text = three a b (parts_at mark text) (some_part mark text)

-- the fourth number is none
pub no_fourth : (a b c d : List ℕ) (x y z : ℕ) → number_of 0 255 a ≡ Some x → number_of 0 255 b ≡ Some y → number_of 0 255 c ≡ Some z
    → number_of 0 255 d ≡ None → address_in (a ∷ b ∷ c ∷ d ∷ []) ≡ None
no_fourth a b c d x y z e f g h = rw (e, f, g, h) refl
