-- Fields and lists of addresses, read where they were written, and written again from what is read.
use Rattle.std.proofs.Common.{◌≡◌, ◌≢◌, ◌∙◌, refl, sym, ap, subst, ℕ, zero, suc, ◌+◌, ◌-◌, ◌<◌, ◌≤◌, ◌==◌, ◌&&◌, Bool, true, false, List, [], ◌∷◌, ◌++◌, length, take, drop, get_or, arith, append_assoc, length-append, take-append-drop}
use Rattle.std.specs.Prelude.{All, nat_le, Ok, Err}
use Rattle.std.proofs.lemmas.Bool.{and_parts, and_from}
use Rattle.std.proofs.lemmas.Bool.Decides.{nat_tests}
use Rattle.std.proofs.lemmas.List.{take_at, drop_at, length-take-le, append-nil, length-drop, take_more}
use Rattle.std.proofs.lemmas.List.Elements.{All-nil, All-cons, All-head, All-tail, All-append}
use Rattle.pdus.specs.Fletcher.Checksum.{octet}
use Rattle.pdus.specs.Nsap.Address.{IsAddress, address_of}
use Rattle.pdus.specs.declared.nsap.fault.NsapFault.{NsapFault}
use Rattle.hex.specs.Hex.{IsBytes}
use Rattle.pdus.specs.ClnpOptions.Grammar.{joined}
use Rattle.pdus.specs.PduHeader.Spelling.{counted}
use Rattle.pdus.specs.EsisPdus.Fields.{is_field, is_address_list, field, behind, are_addresses, addresses, behind_addresses, address_list, behind_address_list}
use Rattle.pdus.specs.EsisPdus.Filled.{IsFilled}
use Rattle.clnp_base.proofs.ListSteps.{bytes_of_drop, bytes_of_take}
pub use Rattle.pdus.proofs.ClnpOptions.Titles.{joined-append, joined-nil}

-- ---- octets

pub bytes_of_field : (octets : List ℕ) → IsBytes octets → IsBytes (field octets)
bytes_of_field octets h = bytes_of_take (drop 1 octets) (octet octets 1) (bytes_of_drop octets 1 h)

pub bytes_of_behind : (octets : List ℕ) → IsBytes octets → IsBytes (behind octets)
bytes_of_behind octets h = bytes_of_drop (drop 1 octets) (octet octets 1) (bytes_of_drop octets 1 h)

-- ---- step by step

pub none_left : (left : ℕ) (octets : List ℕ) → left ≡ 0 → addresses left octets ≡ []
unfolding addresses
none_left zero octets e = refl
none_left (suc n) octets e = absurd (omega arith)

pub next_left : (left : ℕ) (octets : List ℕ) → left ≢ 0 → addresses left octets ≡ field octets ∷ addresses (left - 1) (behind octets)
unfolding addresses
next_left zero octets e = absurd (e refl)
next_left (suc n) octets e = ap (λ k. field octets ∷ addresses k (behind octets)) (omega arith)

pub next_whole : (left : ℕ) (octets : List ℕ) → left ≢ 0 → are_addresses left octets ≡ (is_field 1 octets && are_addresses (left - 1) (behind octets))
unfolding are_addresses
next_whole zero octets e = absurd (e refl)
next_whole (suc n) octets e = ap (λ k. is_field 1 octets && are_addresses k (behind octets)) (omega arith)

pub next_behind : (left : ℕ) (octets : List ℕ) → left ≢ 0 → behind_addresses left octets ≡ behind_addresses (left - 1) (behind octets)
unfolding behind_addresses
next_behind zero octets e = absurd (e refl)
next_behind (suc n) octets e = let k : n ≡ suc n - 1 = omega arith in ap (λ k. behind_addresses k (behind octets)) k

pub rest_filled : (left : ℕ) (octets : List ℕ) → left ≢ 0 → IsFilled left octets → IsFilled (left - 1) (behind octets)
rest_filled left octets e h = record {
  whole = (and_parts _ _ (sym (next_whole left octets e) ∙ h.whole)).1;
  nothing_behind = sym (next_behind left octets e) ∙ h.nothing_behind;
  bytes = bytes_of_behind octets h.bytes;
}

pub first_is_field : (left : ℕ) (octets : List ℕ) → left ≢ 0 → IsFilled left octets → is_field 1 octets ≡ true
first_is_field left octets e h = (and_parts _ _ (sym (next_whole left octets e) ∙ h.whole)).0

-- ---- what is written is read

pub field_of_counted : (a rest : List ℕ) → field (counted a ++ rest) ≡ a
field_of_counted a rest = take_at a rest (length a) refl

pub behind_counted : (a rest : List ℕ) → behind (counted a ++ rest) ≡ rest
behind_counted a rest = drop_at a rest (length a) refl

pub is_field_counted : (least : ℕ) (a rest : List ℕ) → least ≤ length a → length a ≤ 20 → is_field least (counted a ++ rest) ≡ true
is_field_counted least a rest some few =
    let within : length a < length (counted a ++ rest) = omega (arith, length-append a rest) in
    grind (arith, nat_tests)

-- ---- what is read is written again

pub record IsField (least : ℕ) (octets : List ℕ) : Type 0 where
  pub split : octets ≡ counted (field octets) ++ behind octets
  pub some : least ≤ length (field octets)
  pub few : length (field octets) ≤ 20

field_parts : (least : ℕ) (octets : List ℕ) → is_field least octets ≡ true → (least ≤ octet octets 1) × (octet octets 1 ≤ 20) × (octet octets 1 < length octets)
field_parts least octets h = (grind (arith, nat_tests), grind (arith, nat_tests), grind (arith, nat_tests))

pub is_field_split : (least : ℕ) (octets : List ℕ) → is_field least octets ≡ true → IsField least octets
is_field_split least [] h = absurd (let p = field_parts least [] h in omega (arith, p.2))
is_field_split least (size ∷ rest) h =
    let p = field_parts least (size ∷ rest) h in
    let within : size ≤ length rest = omega (arith, p.2) in
    let size_is : length (take size rest) ≡ size = length-take-le size rest within in
    record {
      split = ap (λ k. k ∷ rest) (sym size_is) ∙ ap (λ t. length (take size rest) ∷ t) (sym (take-append-drop size rest));
      some = omega (arith, size_is, p.0);
      few = omega (arith, size_is, p.1);
    }

-- ---- lists of addresses

-- these addresses stand at the front of the octets, and the rest follows
pub record Reads (list : List (List ℕ)) (octets rest : List ℕ) : Type 0 where
  pub whole : are_addresses (length list) octets ≡ true
  pub list_is : addresses (length list) octets ≡ list
  pub rest_is : behind_addresses (length list) octets ≡ rest

reads_step : (a : List ℕ) (others : List (List ℕ)) (octets tail rest : List ℕ) → is_field 1 octets ≡ true → field octets ≡ a → behind octets ≡ tail → Reads others tail rest → Reads (a ∷ others) octets rest
unfolding are_addresses addresses behind_addresses
reads_step a others octets tail rest i f b h = record {
  whole = and_from _ _ i (ap (λ (t : List ℕ). are_addresses (length others) t) b ∙ h.whole);
  list_is =
      ap (λ (x : List ℕ). x ∷ addresses (length others) (behind octets)) f
      ∙ ap (λ (t : List (List ℕ)). a ∷ t) (ap (λ (t : List ℕ). addresses (length others) t) b ∙ h.list_is);
  rest_is = ap (λ (t : List ℕ). behind_addresses (length others) t) b ∙ h.rest_is;
}

pub reads : (list : List (List ℕ)) (rest : List ℕ) → All IsAddress list → Reads list (joined list ++ rest) rest
unfolding joined are_addresses addresses behind_addresses
reads [] rest h = record { whole = refl; list_is = refl; rest_is = refl }
reads (a ∷ others) rest h =
    let P : List ℕ → Type 0 = λ t. Reads (a ∷ others) t rest in
    subst P (sym (append_assoc (counted a) (joined others) rest))
    (let is = All-head IsAddress a others h in
    let tail = joined others ++ rest in
    reads_step a others (counted a ++ tail) tail rest (is_field_counted 1 a tail is.some is.few) (field_of_counted a tail) (behind_counted a tail) (reads others rest (All-tail IsAddress a others h)))

pub address_is : (octets : List ℕ) → IsBytes octets → is_field 1 octets ≡ true → IsAddress (field octets)
address_is octets bytes h =
    let f = is_field_split 1 octets h in
    record { some = f.some; few = f.few; bytes = bytes_of_field octets bytes }

-- octets that begin with so many addresses
pub record AreAddresses (n : ℕ) (octets : List ℕ) : Type 0 where
  pub split : octets ≡ joined (addresses n octets) ++ behind_addresses n octets
  pub count : length (addresses n octets) ≡ n
  pub each : All IsAddress (addresses n octets)

pub addresses_split : (n : ℕ) (octets : List ℕ) → IsBytes octets → are_addresses n octets ≡ true → AreAddresses n octets
unfolding joined are_addresses addresses behind_addresses
addresses_split zero octets bytes h = record { split = refl; count = refl; each = All-nil IsAddress }
addresses_split (suc n) octets bytes h =
    let p = and_parts (is_field 1 octets) (are_addresses n (behind octets)) h in
    let first = is_field_split 1 octets p.0 in
    let others = addresses_split n (behind octets) (bytes_of_behind octets bytes) p.1 in
    record {
      split =
          first.split
          ∙ ap (λ (t : List ℕ). counted (field octets) ++ t) others.split
          ∙ sym (append_assoc (counted (field octets)) (joined (addresses n (behind octets))) (behind_addresses n (behind octets)));
      count = ap suc others.count;
      each = All-cons IsAddress (field octets) (addresses n (behind octets)) (address_is octets bytes p.0) others.each;
    }

-- what a list of addresses holds is its addresses behind their lengths, and no more
pub filled_is : (left : ℕ) (octets : List ℕ) → IsFilled left octets → octets ≡ joined (addresses left octets)
filled_is left octets h =
    let a = addresses_split left octets h.bytes h.whole in
    a.split ∙ ap (λ (t : List ℕ). joined (addresses left octets) ++ t) h.nothing_behind ∙ append-nil (joined (addresses left octets))

-- ---- the next address of a list that isn't at its end

pub next_address : (left : ℕ) (octets others address : List ℕ) (list : List (List ℕ)) → left ≢ 0 → addresses left octets ≡ list → address ≡ field octets → others ≡ behind octets → list ≡ address ∷ addresses (left - 1) others
next_address left octets others address list e view a b =
    sym view ∙ next_left left octets e ∙ ap (λ (x : List ℕ). x ∷ addresses (left - 1) (behind octets)) (sym a) ∙ ap (λ (t : List ℕ). address ∷ addresses (left - 1) t) (sym b)

pub rest_filled_at : (left : ℕ) (octets others : List ℕ) → left ≢ 0 → others ≡ behind octets → IsFilled left octets → IsFilled (left - 1) others
rest_filled_at left octets others e b h = let P : List ℕ → Type 0 = λ t. IsFilled (left - 1) t in subst P (sym b) (rest_filled left octets e h)

pub has_field : (left : ℕ) (octets : List ℕ) → left ≢ 0 → IsFilled left octets → is_field 0 octets ≡ false → ⊥
has_field left octets e h k =
    let f = is_field_split 1 octets (first_is_field left octets e h) in
    let p = field_parts 1 octets (first_is_field left octets e h) in
    let yes : is_field 0 octets ≡ true = (let a = p.1 in let b = p.2 in grind (arith, nat_tests)) in
    cc

pub is_long_enough : (left : ℕ) (octets : List ℕ) → left ≢ 0 → IsFilled left octets → (1 ≤ length (field octets)) × (length (field octets) ≤ 20)
is_long_enough left octets e h = let f = is_field_split 1 octets (first_is_field left octets e h) in (f.some, f.few)

pub address_fits : (octets from : List ℕ) (fault : NsapFault) → from ≡ octets → 1 ≤ length octets → length octets ≤ 20 → address_of from ≡ Err fault → ⊥
address_fits octets from fault e some few h =
    let fits : (nat_le 1 (length octets) && nat_le (length octets) 20) ≡ true = grind (arith, nat_tests) in
    let k = rw (e, fits) at h in cc

pub address_ok : (octets address : List ℕ) → address_of octets ≡ Ok address → address ≡ octets
address_ok octets address h = by_test (nat_le 1 (length octets) && nat_le (length octets) 20) refl
  where
    by_test : (b : Bool) → (nat_le 1 (length octets) && nat_le (length octets) 20) ≡ b → address ≡ octets
    by_test true e = let k = rw e at h in cc
    by_test false e = let k = rw e at h in cc

-- ---- a walk over addresses

pub no_field : (octets : List ℕ) → is_field 0 octets ≡ false → is_field 1 octets ≡ false
no_field octets h = grind (arith, nat_tests)

pub empty_field : (octets address : List ℕ) → is_field 0 octets ≡ true → address ≡ field octets → length address ≡ 0 → is_field 1 octets ≡ false
empty_field octets address h e none =
    let p = field_parts 0 octets h in
    let within = p.2 in
    let size : length (field octets) ≡ octet octets 1 = length-take-le (octet octets 1) (drop 1 octets) (omega (arith, length-drop 1 octets, within)) in
    let zero_is : octet octets 1 ≡ 0 = sym size ∙ sym (ap length e) ∙ none in
    grind (arith, nat_tests)

pub some_field : (octets address : List ℕ) → is_field 0 octets ≡ true → address ≡ field octets → length address ≢ 0 → is_field 1 octets ≡ true
some_field octets address h e some =
    let p = field_parts 0 octets h in
    let few = p.1 in
    let within = p.2 in
    let size : length (field octets) ≡ octet octets 1 = length-take-le (octet octets 1) (drop 1 octets) (omega (arith, length-drop 1 octets, within)) in
    let not_zero : octet octets 1 ≢ 0 = λ z. some (ap length e ∙ size ∙ z) in
    grind (arith, nat_tests)

pub length_behind : (octets : List ℕ) → length (behind octets) ≤ length octets
length_behind octets = omega (arith, length-drop (octet octets 1) (drop 1 octets), length-drop 1 octets)

pub length_behind_addresses : (n : ℕ) (octets : List ℕ) → length (behind_addresses n octets) ≤ length octets
unfolding behind_addresses
length_behind_addresses zero octets = omega arith
length_behind_addresses (suc n) octets = omega (arith, length_behind_addresses n (behind octets), length_behind octets)

pub stops : (count counter : ℕ) (rest : List ℕ) → counter < count → is_field 1 rest ≡ false → are_addresses (count - counter) rest ≡ false
stops count counter rest within h =
    let more : count - counter ≢ 0 = omega arith in
    next_whole (count - counter) rest more ∙ ap (λ b. b && are_addresses (count - counter - 1) (behind rest)) h

pub goes_whole : (count counter : ℕ) (rest others : List ℕ) → counter < count → is_field 1 rest ≡ true → others ≡ behind rest → are_addresses (count - counter) rest ≡ are_addresses (count - (counter + 1)) others
goes_whole count counter rest others within h e =
    let more : count - counter ≢ 0 = omega arith in
    let less : count - counter - 1 ≡ count - (counter + 1) = omega arith in
    next_whole (count - counter) rest more
    ∙ ap (λ b. b && are_addresses (count - counter - 1) (behind rest)) h
    ∙ ap (λ k. are_addresses k (behind rest)) less
    ∙ ap (λ (t : List ℕ). are_addresses (count - (counter + 1)) t) (sym e)

pub goes_behind : (count counter : ℕ) (rest others : List ℕ) → counter < count → others ≡ behind rest → behind_addresses (count - counter) rest ≡ behind_addresses (count - (counter + 1)) others
goes_behind count counter rest others within e =
    let more : count - counter ≢ 0 = omega arith in
    let less : count - counter - 1 ≡ count - (counter + 1) = omega arith in
    next_behind (count - counter) rest more
    ∙ ap (λ k. behind_addresses k (behind rest)) less
    ∙ ap (λ (t : List ℕ). behind_addresses (count - (counter + 1)) t) (sym e)

pub ends_whole : (n : ℕ) (rest : List ℕ) → n ≡ 0 → are_addresses n rest ≡ true
unfolding are_addresses
ends_whole zero rest e = refl
ends_whole (suc n) rest e = absurd (omega arith)

pub ends_behind : (n : ℕ) (rest : List ℕ) → n ≡ 0 → behind_addresses n rest ≡ rest
unfolding behind_addresses
ends_behind zero rest e = refl
ends_behind (suc n) rest e = absurd (omega arith)

-- ---- the octets of a list of addresses, cut off

pub record IsCut (n : ℕ) (octets front others : List ℕ) : Type 0 where
  pub filled : IsFilled n front
  pub list_is : addresses n front ≡ addresses n octets
  pub others_are : others ≡ behind_addresses n octets

pub cut_off : (n size : ℕ) (octets front others : List ℕ) → IsBytes octets → are_addresses n octets ≡ true → size + length (behind_addresses n octets) ≡ length octets → front ≡ take size octets → others ≡ drop size octets → IsCut n octets front others
cut_off n size octets front others bytes h sum f o =
    let a = addresses_split n octets bytes h in
    let list = addresses n octets in
    let tail = behind_addresses n octets in
    let size_is : length (joined list) ≡ size = omega (arith, sum, ap length a.split, length-append (joined list) tail) in
    let front_is : front ≡ joined list = f ∙ ap (λ (t : List ℕ). take size t) a.split ∙ take_at (joined list) tail size size_is in
    let r = reads list [] a.each in
    let here : front ≡ joined list ++ [] = front_is ∙ sym (append-nil (joined list)) in
    record {
      filled = record {
        whole = ap (λ (t : List ℕ). are_addresses n t) here ∙ ap (λ k. are_addresses k (joined list ++ [])) (sym a.count) ∙ r.whole;
        nothing_behind = ap (λ (t : List ℕ). behind_addresses n t) here ∙ ap (λ k. behind_addresses k (joined list ++ [])) (sym a.count) ∙ r.rest_is;
        bytes = (let P : List ℕ → Type 0 = λ t. IsBytes t in subst P (sym f) (bytes_of_take octets size bytes));
      };
      list_is = ap (λ (t : List ℕ). addresses n t) here ∙ ap (λ k. addresses k (joined list ++ [])) (sym a.count) ∙ r.list_is;
      others_are = o ∙ ap (λ (t : List ℕ). drop size t) a.split ∙ drop_at (joined list) tail size size_is;
    }

-- the same behind the number of the addresses
pub record IsCutList (part front others : List ℕ) : Type 0 where
  pub filled : IsFilled (octet part 1) front
  pub list_is : addresses (octet part 1) front ≡ address_list part
  pub others_are : others ≡ behind_address_list part

pub cut_list : (size : ℕ) (part all front others : List ℕ) → all ≡ drop 1 part → IsBytes part → are_addresses (octet part 1) all ≡ true → size + length (behind_addresses (octet part 1) all) ≡ length all → front ≡ take size all → others ≡ drop size all → IsCutList part front others
cut_list size part all front others e bytes h sum f o =
    let all_bytes : IsBytes all = (let P : List ℕ → Type 0 = λ t. IsBytes t in subst P (sym e) (bytes_of_drop part 1 bytes)) in
    let cut = cut_off (octet part 1) size all front others all_bytes h sum f o in
    record {
      filled = cut.filled;
      list_is = cut.list_is ∙ ap (λ (t : List ℕ). addresses (octet part 1) t) e;
      others_are = cut.others_are ∙ ap (λ (t : List ℕ). behind_addresses (octet part 1) t) e;
    }

-- ---- the octets of a list of addresses that is given

pub filled_count : (left : ℕ) (octets : List ℕ) (list : List (List ℕ)) → IsFilled left octets → addresses left octets ≡ list → left ≡ length list
filled_count left octets list h e = sym (addresses_split left octets h.bytes h.whole).count ∙ ap length e

pub filled_octets : (left : ℕ) (octets : List ℕ) (list : List (List ℕ)) → IsFilled left octets → addresses left octets ≡ list → octets ≡ joined list
filled_octets left octets list h e = filled_is left octets h ∙ ap joined e

pub joined-one : (a : List ℕ) → joined (a ∷ []) ≡ counted a
unfolding joined
joined-one a = append-nil (counted a)

pub joined_more : (xs : List (List ℕ)) (k : ℕ) (a : List ℕ) → k < length xs → a ≡ get_or xs k a → joined (take (k + 1) xs) ≡ joined (take k xs) ++ counted a
joined_more xs k a within e =
    ap joined (take_more xs k a within) ∙ ap (λ (b : List ℕ). joined (take k xs ++ b ∷ [])) (sym e) ∙ joined-append (take k xs) (a ∷ []) ∙ ap (λ (t : List ℕ). joined (take k xs) ++ t) (joined-one a)

pub joined_part : (xs : List (List ℕ)) (k : ℕ) → length (joined (take k xs)) ≤ length (joined xs)
joined_part xs k =
    omega (arith, ap length (ap joined (sym (take-append-drop k xs)) ∙ joined-append (take k xs) (drop k xs)), length-append (joined (take k xs)) (joined (drop k xs)))

pub joined_long : (xs : List (List ℕ)) → length xs ≤ length (joined xs)
unfolding joined
joined_long [] = omega arith
joined_long (x ∷ xs) = omega (arith, joined_long xs, length-append x (joined xs))

pub all_more : (xs : List (List ℕ)) (k : ℕ) (a : List ℕ) → k < length xs → a ≡ get_or xs k a → All IsAddress (take k xs) → IsAddress a → All IsAddress (take (k + 1) xs)
all_more xs k a within e h is =
    let P : List (List ℕ) → Type 0 = λ t. All IsAddress t in
    let Q : List ℕ → Type 0 = λ b. IsAddress b in
    subst P (sym (take_more xs k a within)) (All-append IsAddress (take k xs) (get_or xs k a ∷ []) h (All-cons IsAddress (get_or xs k a) [] (subst Q e is) (All-nil IsAddress)))

-- a list is judged by its addresses, where its number is there
pub list_judged : (part all : List ℕ) (good : Bool) → (length part == 0) ≡ false → all ≡ drop 1 part → are_addresses (octet part 1) all ≡ good → is_address_list part ≡ good
list_judged part all good some e h =
    let number : nat_le 1 (length part) ≡ true = grind (arith, nat_tests) in
    ap (λ b. b && are_addresses (octet part 1) (drop 1 part)) number ∙ ap (λ (t : List ℕ). are_addresses (octet part 1) t) (sym e) ∙ h
