-- Frames: an OSI PDU is seen where the octets are laid out so.
use Rattle.std.proofs.Common.{◌≡◌, ℕ, ◌+◌, ◌-◌, ◌<◌, ◌≤◌, Bool, true, false, List, [], ◌∷◌, ◌++◌, length, take, drop, get_or, refl, sym, ap, ◌∙◌, subst, arith, length-append, length-drop, length-take-le, take-append-drop}
use Rattle.std.specs.Prelude.{◌==◌, nat_le, nat_lt, if◌then◌else◌}
use Rattle.std.proofs.lemmas.Bool.{and_parts, le-ltb, leb-true, lt-ltb, ltb-false}
use Rattle.std.proofs.lemmas.Bool.Decides.{nat_tests}
use Rattle.std.proofs.lemmas.List.{append_assoc, drop-drop, drop_at, drop_more, take_at, get_or-drop}
use Rattle.hex.specs.Hex.{IsBytes}
use Rattle.byteorder.specs.Endian.{big_bytes, big_number}
use Rattle.byteorder.specs.Numbers.{big_number-reads_back, length-bytes_high_first}
use Rattle.pdus.proofs.ClnpBase.Choices.{is_equal}
use Rattle.pdus.proofs.ClnpBase.ListSteps.{bytes_of_drop, bytes_of_take}
use Rattle.frame_links.specs.declared.pcap_frames.order.Order.TheVariants.{HighFirst}
use Rattle.frame_links.specs.PcapFrames.Frames.{IsOsiFrame, OtherFrame, CutFrame, OsiFrame, frame_octets, is_osi, seen_in, told_length}
use Rattle.frame_links.specs.PcapFrames.Numbers.{number, value}
use Rattle.frame_links.proofs.PcapFrames.NumberFacts.{split_two}

-- ---- what is seen where

record Chosen (is cut : Bool) (x y z to from pdu : List ℕ) : Type 0 where
  pub osi : is ≡ true
  pub entire : cut ≡ false
  pub to_is : x ≡ to
  pub from_is : y ≡ from
  pub pdu_is : z ≡ pdu

chosen : (is cut : Bool) (x y z to from pdu : List ℕ)
    → (if is then (if cut then CutFrame else OsiFrame x y z) else OtherFrame) ≡ OsiFrame to from pdu → Chosen is cut x y z to from pdu
chosen true true x y z to from pdu e = absurd (cc)
chosen true false x y z to from pdu e = record { osi = refl; entire = refl; to_is = cc; from_is = cc; pdu_is = cc }
chosen false cut x y z to from pdu e = absurd (cc)

pub record Tests (octets : List ℕ) : Type 0 where
  pub long : 17 ≤ length octets
  pub low : 3 ≤ told_length octets
  pub high : told_length octets ≤ 1500
  pub first : get_or octets 14 0 ≡ 254
  pub second : get_or octets 15 0 ≡ 254
  pub third : get_or octets 16 0 ≡ 3

pub tests_of : (octets : List ℕ) → is_osi octets ≡ true → Tests octets
tests_of octets e =
    let one = and_parts (nat_le 17 (length octets)) _ e in
    let two = and_parts (nat_le 3 (told_length octets)) _ one.1 in
    let three = and_parts (nat_le (told_length octets) 1500) _ two.1 in
    let four = and_parts (get_or octets 14 0 == 254) _ three.1 in
    let five = and_parts (get_or octets 15 0 == 254) (get_or octets 16 0 == 3) four.1 in
    record {
      long = leb-true 17 (length octets) one.0;
      low = leb-true 3 (told_length octets) two.0;
      high = leb-true (told_length octets) 1500 three.0;
      first = is_equal (get_or octets 14 0) 254 four.0;
      second = is_equal (get_or octets 15 0) 254 five.0;
      third = is_equal (get_or octets 16 0) 3 five.1;
    }

pub seen_other : (octets : List ℕ) → is_osi octets ≡ false → OtherFrame ≡ seen_in octets
unfolding seen_in
seen_other octets is = rw is refl

pub seen_cut : (octets : List ℕ) (told : ℕ) → is_osi octets ≡ true → told ≡ told_length octets → length octets < 14 + told
    → CutFrame ≡ seen_in octets
unfolding seen_in
seen_cut octets told is told_is cut = rw (is, lt-ltb (length octets) (14 + told_length octets) (omega arith)) refl

pub seen_osi : (octets to from : List ℕ) (told : ℕ) → is_osi octets ≡ true → told ≡ told_length octets → 14 + told ≤ length octets
    → to ≡ take 6 octets → from ≡ take 6 (drop 6 octets) → OsiFrame to from (take (14 + told - 17) (drop 17 octets)) ≡ seen_in octets
unfolding seen_in
seen_osi octets to from told is told_is entire to_is from_is =
    let count : told_length octets - 3 ≡ 14 + told - 17 = omega arith in
    rw (is, le-ltb (length octets) (14 + told_length octets) (omega arith), count, to_is, from_is) refl

-- ---- the layout of octets that pass

two_octets : (xs : List ℕ) → IsBytes xs → 2 ≤ length xs → xs ≡ big_bytes 2 (big_number 2 xs) ++ drop 2 xs
unfolding number value
two_octets xs bytes long = split_two HighFirst xs bytes long

pub record LaidOut (octets : List ℕ) : Type 0 where
  pub pdu : List ℕ
  pub rest : List ℕ
  pub size : length pdu + 3 ≡ told_length octets
  pub pdu_is : pdu ≡ take (told_length octets - 3) (drop 17 octets)
  pub spelled : octets ≡ frame_octets (take 6 octets) (take 6 (drop 6 octets)) pdu ++ rest

joined : (a b c d p r : List ℕ) → a ++ (b ++ (c ++ (d ++ (p ++ r)))) ≡ (a ++ (b ++ (c ++ (d ++ p)))) ++ r
joined a b c d p r = simp append_assoc

three_octets : (xs : List ℕ) → 17 ≤ length xs → get_or xs 14 0 ≡ 254 → get_or xs 15 0 ≡ 254 → get_or xs 16 0 ≡ 3
    → drop 14 xs ≡ (254 ∷ 254 ∷ 3 ∷ []) ++ drop 17 xs
three_octets xs long e f g =
    drop_more xs 14 0 (omega arith)
    ∙ ap (λ (ys : List ℕ). get_or xs 14 0 ∷ ys) (drop_more xs 15 0 (omega arith) ∙ ap (λ (ys : List ℕ). get_or xs 15 0 ∷ ys) (drop_more xs 16 0 (omega arith)))
    ∙ same_three _ _ _ _ e f g
  where
    same_three : (a b c : ℕ) (ys : List ℕ) → a ≡ 254 → b ≡ 254 → c ≡ 3 → a ∷ b ∷ c ∷ ys ≡ (254 ∷ 254 ∷ 3 ∷ []) ++ ys
    same_three a b c ys h i j = cc

pub laid_out : (octets : List ℕ) → IsBytes octets → Tests octets → 14 + told_length octets ≤ length octets → LaidOut octets
laid_out octets bytes t entire =
    let long = t.long in
    let low = t.low in
    let behind = drop 17 octets in
    let count = told_length octets - 3 in
    let pdu = take count behind in
    let size : length pdu ≡ count = length-take-le count behind (omega (arith, length-drop 17 octets)) in
    let counted : length pdu + 3 ≡ told_length octets = omega arith in
    let six : octets ≡ take 6 octets ++ drop 6 octets = sym (take-append-drop 6 octets) in
    let twelve : drop 6 octets ≡ take 6 (drop 6 octets) ++ drop 12 octets =
    sym (take-append-drop 6 (drop 6 octets)) ∙ ap (λ (t : List ℕ). take 6 (drop 6 octets) ++ t) (drop-drop 6 6 octets) in
    let fourteen : drop 12 octets ≡ big_bytes 2 (told_length octets) ++ drop 14 octets =
    two_octets (drop 12 octets) (bytes_of_drop octets 12 bytes) (omega (arith, length-drop 12 octets))
    ∙ ap (λ (t : List ℕ). big_bytes 2 (told_length octets) ++ t) (drop-drop 2 12 octets) in
    let seventeen : drop 14 octets ≡ (254 ∷ 254 ∷ 3 ∷ []) ++ (pdu ++ drop count behind) =
    three_octets octets long t.first t.second t.third ∙ ap (λ (t : List ℕ). (254 ∷ 254 ∷ 3 ∷ []) ++ t) (sym (take-append-drop count behind)) in
    record {
      pdu = pdu;
      rest = drop count behind;
      size = counted;
      pdu_is = refl;
      spelled =
          six
          ∙ ap (λ (t : List ℕ). take 6 octets ++ t)
          (twelve
          ∙ ap (λ (t : List ℕ). take 6 (drop 6 octets) ++ t)
          (fourteen
          ∙ ap (λ (n : ℕ). big_bytes 2 n ++ drop 14 octets) (sym counted)
          ∙ ap (λ (t : List ℕ). big_bytes 2 (length pdu + 3) ++ t) seventeen))
          ∙ joined (take 6 octets) (take 6 (drop 6 octets)) (big_bytes 2 (length pdu + 3)) (254 ∷ 254 ∷ 3 ∷ []) pdu (drop count behind);
    }

-- the parts that are seen
record SeenParts (octets to from pdu : List ℕ) : Type 0 where
  pub tests : Tests octets
  pub entire : 14 + told_length octets ≤ length octets
  pub to_is : take 6 octets ≡ to
  pub from_is : take 6 (drop 6 octets) ≡ from
  pub pdu_is : take (told_length octets - 3) (drop 17 octets) ≡ pdu

seen_parts : (octets to from pdu : List ℕ) → seen_in octets ≡ OsiFrame to from pdu → SeenParts octets to from pdu
unfolding seen_in
seen_parts octets to from pdu e =
    let c = chosen (is_osi octets) (nat_lt (length octets) (14 + told_length octets)) (take 6 octets) (take 6 (drop 6 octets)) (take (told_length octets - 3) (drop 17 octets)) to from pdu e in
    record {
      tests = tests_of octets c.osi;
      entire = ltb-false (length octets) (14 + told_length octets) c.entire;
      to_is = c.to_is;
      from_is = c.from_is;
      pdu_is = c.pdu_is;
    }

pub seen_is_osi : (octets to from pdu : List ℕ) → seen_in octets ≡ OsiFrame to from pdu → IsOsiFrame to from pdu
seen_is_osi octets to from pdu e =
    let p = seen_parts octets to from pdu e in
    let long = p.tests.long in
    let high = p.tests.high in
    let size = length-take-le (told_length octets - 3) (drop 17 octets) (let entire = p.entire in omega (arith, length-drop 17 octets)) in
    record {
      to_size = ap length (sym p.to_is) ∙ length-take-le 6 octets (omega arith);
      from_size = ap length (sym p.from_is) ∙ length-take-le 6 (drop 6 octets) (omega (arith, length-drop 6 octets));
      few = omega (arith, ap length p.pdu_is);
    }

-- what is seen of octets are octets
pub record AreBytes (to from pdu : List ℕ) : Type 0 where
  pub to_bytes : IsBytes to
  pub from_bytes : IsBytes from
  pub pdu_bytes : IsBytes pdu

pub seen_are_bytes : (octets to from pdu : List ℕ) → IsBytes octets → seen_in octets ≡ OsiFrame to from pdu → AreBytes to from pdu
seen_are_bytes octets to from pdu bytes e =
    let p = seen_parts octets to from pdu e in
    let P : List ℕ → Type 0 = IsBytes in
    record {
      to_bytes = subst P p.to_is (bytes_of_take octets 6 bytes);
      from_bytes = subst P p.from_is (bytes_of_take (drop 6 octets) 6 (bytes_of_drop octets 6 bytes));
      pdu_bytes = subst P p.pdu_is (bytes_of_take (drop 17 octets) (told_length octets - 3) (bytes_of_drop octets 17 bytes));
    }

pub seen_is_laid_out : (octets to from pdu : List ℕ) → IsBytes octets → seen_in octets ≡ OsiFrame to from pdu
    → (rest : List ℕ) × (octets ≡ frame_octets to from pdu ++ rest)
seen_is_laid_out octets to from pdu bytes e =
    let p = seen_parts octets to from pdu e in
    let l = laid_out octets bytes p.tests p.entire in (
      l.rest,
      l.spelled
          ∙ ap (λ (xs : List ℕ). frame_octets xs (take 6 (drop 6 octets)) l.pdu ++ l.rest) p.to_is
          ∙ ap (λ (xs : List ℕ). frame_octets to xs l.pdu ++ l.rest) p.from_is
          ∙ ap (λ (xs : List ℕ). frame_octets to from xs ++ l.rest) (l.pdu_is ∙ p.pdu_is),
    )

-- ---- octets that are laid out so are seen

pub record Parts (octets to from pdu rest : List ℕ) : Type 0 where
  pub to_is : take 6 octets ≡ to
  pub from_is : take 6 (drop 6 octets) ≡ from
  pub told : told_length octets ≡ length pdu + 3
  pub behind : drop 14 octets ≡ 254 ∷ 254 ∷ 3 ∷ (pdu ++ rest)
  pub size : length octets ≡ 17 + length pdu + length rest

pub parts_of : (octets to from pdu rest : List ℕ) → IsOsiFrame to from pdu → octets ≡ frame_octets to from pdu ++ rest → Parts octets to from pdu rest
parts_of octets to from pdu rest osi e =
    let to_size = osi.to_size in
    let from_size = osi.from_size in
    let few = osi.few in
    let number = big_bytes 2 (length pdu + 3) in
    let told_size : length number ≡ 2 = length-bytes_high_first 2 (length pdu + 3) in
    let laid : octets ≡ to ++ (from ++ (number ++ ((254 ∷ 254 ∷ 3 ∷ []) ++ (pdu ++ rest)))) =
    e ∙ sym (joined to from number (254 ∷ 254 ∷ 3 ∷ []) pdu rest) in
    let six : drop 6 octets ≡ from ++ (number ++ ((254 ∷ 254 ∷ 3 ∷ []) ++ (pdu ++ rest))) = ap (drop 6) laid ∙ drop_at to _ 6 to_size in
    let twelve : drop 12 octets ≡ number ++ ((254 ∷ 254 ∷ 3 ∷ []) ++ (pdu ++ rest)) =
    sym (drop-drop 6 6 octets) ∙ ap (drop 6) six ∙ drop_at from _ 6 from_size in
    let fourteen : drop 14 octets ≡ (254 ∷ 254 ∷ 3 ∷ []) ++ (pdu ++ rest) =
    sym (drop-drop 2 12 octets) ∙ ap (drop 2) twelve ∙ drop_at number _ 2 told_size in
    record {
      to_is = ap (take 6) laid ∙ take_at to _ 6 to_size;
      from_is = ap (take 6) six ∙ take_at from _ 6 from_size;
      told = ap (big_number 2) twelve ∙ big_number-reads_back 2 (length pdu + 3) ((254 ∷ 254 ∷ 3 ∷ []) ++ (pdu ++ rest)) (omega arith);
      behind = fourteen;
      size = size_of octets fourteen;
    }
  where
    size_of : (xs : List ℕ) → drop 14 xs ≡ 254 ∷ 254 ∷ 3 ∷ (pdu ++ rest) → length xs ≡ 17 + length pdu + length rest
    size_of xs h = omega (arith, ap length h, length-drop 14 xs, length-append pdu rest)

octet_behind : (octets rest : List ℕ) (n k a : ℕ) → drop n octets ≡ rest → get_or rest k 0 ≡ a → get_or octets (n + k) 0 ≡ a
octet_behind octets rest n k a e f = sym (get_or-drop n octets k 0) ∙ ap (λ (xs : List ℕ). get_or xs k 0) e ∙ f

all_true : (octets : List ℕ) → Tests octets → is_osi octets ≡ true
all_true octets t =
    let long = t.long in
    let low = t.low in
    let high = t.high in
    let first = t.first in
    let second = t.second in
    let third = t.third in
    grind (arith, nat_tests)

pub laid_out_is_seen : (octets to from pdu rest : List ℕ) → IsOsiFrame to from pdu → octets ≡ frame_octets to from pdu ++ rest
    → seen_in octets ≡ OsiFrame to from pdu
unfolding seen_in
laid_out_is_seen octets to from pdu rest osi e =
    let p = parts_of octets to from pdu rest osi e in
    let few = osi.few in
    let size = p.size in
    let told = p.told in
    let tests : Tests octets = record {
      long = omega arith;
      low = omega arith;
      high = omega arith;
      first = octet_behind octets _ 14 0 254 p.behind refl;
      second = octet_behind octets _ 14 1 254 p.behind refl;
      third = octet_behind octets _ 14 2 3 p.behind refl;
    } in
    let is = all_true octets tests in
    let entire : nat_lt (length octets) (14 + told_length octets) ≡ false = le-ltb (length octets) (14 + told_length octets) (omega arith) in
    let seventeen : drop 17 octets ≡ pdu ++ rest = sym (drop-drop 3 14 octets) ∙ ap (drop 3) p.behind in
    let count : told_length octets - 3 ≡ length pdu = omega arith in
    let pdu_is : take (told_length octets - 3) (drop 17 octets) ≡ pdu =
    ap (λ (n : ℕ). take n (drop 17 octets)) count ∙ ap (take (length pdu)) seventeen ∙ take_at pdu rest (length pdu) refl in
    rw (is, entire, p.to_is, p.from_is, pdu_is) refl
