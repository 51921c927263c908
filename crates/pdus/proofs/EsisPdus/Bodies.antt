-- The address parts of a header, kind by kind: written again from what is read, and read where they were written.
use Rattle.std.proofs.Common.{◌≡◌, ◌∙◌, refl, sym, ap, subst, ℕ, ◌≤◌, ◌&&◌, ◌||◌, not, Bool, true, false, if◌then◌else◌, List, [], ◌∷◌, ◌++◌, length, drop, Option, Some, None, arith, append_assoc}
use Rattle.std.specs.Prelude.{nat_le}
use Rattle.std.proofs.lemmas.Bool.{and_parts, and_from, eqb-true, eq-eqb, ne_eqb, le-leb, leb-true}
use Rattle.pdus.specs.Fletcher.Checksum.{octet}
use Rattle.hex.specs.Hex.{IsBytes}
use Rattle.pdus.specs.ClnpOptions.Parameter.{parameters}
use Rattle.pdus.specs.ClnpOptions.Grammar.{joined}
use Rattle.pdus.specs.PduHeader.Spelling.{counted}
use Rattle.pdus.specs.declared.esis_pdus.pdu.EsisBody.{EsisBody}
use Rattle.pdus.specs.declared.esis_pdus.pdu.EsisBody.TheVariants.{Esh, Ish, Rd}
use Rattle.pdus.specs.EsisPdus.Fields.{is_field, field, behind, is_address_list, address_list, behind_address_list}
use Rattle.pdus.specs.EsisPdus.Timer.{place_of_wrong_timer}
use Rattle.pdus.specs.EsisPdus.Spelling.{type_code, title_octets, body_octets}
use Rattle.pdus.specs.EsisPdus.Grammar.{IsTitleOrNone, HasAddresses, FitsTimer}
use Rattle.pdus.specs.EsisPdus.Rules.{variable_part, is_esh, is_ish, is_rd, is_redirection, options_part, options_place}
use Rattle.pdus.specs.EsisPdus.Reading.{title_of, redirection, body_of}
use Rattle.pdus.proofs.EsisPdus.FieldFacts.{is_field_split, addresses_split, address_is, bytes_of_field, bytes_of_behind, field_of_counted, behind_counted, is_field_counted, reads}
use Rattle.pdus.proofs.EsisPdus.Options.{is_once, once_from, nothing_wrong}
use Rattle.pdus.proofs.EsisPdus.Accepted.{IsAccepted}
use Rattle.clnp_base.proofs.ListSteps.{bytes_of_drop}

-- ---- written again

-- the body and the options that stand behind a header's fixed part
pub record HasBody (head : List ℕ) (body : EsisBody) (options : List ℕ) : Type 0 where
  pub type : octet head 5 ≡ type_code body
  pub split : variable_part head ≡ body_octets body ++ options
  pub addresses : HasAddresses body
  pub timer : FitsTimer body (parameters options)

only_if : (b c : Bool) → (b && not c) ≡ false → b ≡ true → c ≡ true
only_if true true h e = refl
only_if true false h e = cc
only_if false c h e = cc

none_if : (b : Bool) (x : Option ℕ) → b ≡ true → (if b then x else None) ≡ None → x ≡ None
none_if true x e h = h
none_if false x e h = cc

if_none : (b : Bool) (x : Option ℕ) → x ≡ None → (if b then x else None) ≡ None
if_none true x h = h
if_none false x h = refl

third : (a b c : Bool) → (a || (b || c)) ≡ true → a ≡ false → b ≡ false → c ≡ true
third true b c h e f = cc
third false true c h e f = cc
third false false c h e f = h

title_again : (octets : List ℕ) → title_octets (title_of octets) ≡ octets
title_again [] = refl
title_again (x ∷ xs) = rw (ne_eqb (length (x ∷ xs)) 0 (λ e. omega (arith, e))) refl

title_is : (octets : List ℕ) → length octets ≤ 20 → IsBytes octets → IsTitleOrNone (title_of octets)
title_is [] few bytes = tt
title_is (x ∷ xs) few bytes =
    rw (ne_eqb (length (x ∷ xs)) 0 (λ e. omega (arith, e)))
    (record { some = omega arith; few = few; bytes = bytes })

number_first : (part : List ℕ) → 1 ≤ length part → part ≡ octet part 1 ∷ drop 1 part
number_first [] h = absurd (omega arith)
number_first (x ∷ xs) h = refl

esh_body : (head : List ℕ) → IsBytes head → IsAccepted head → is_esh head ≡ true → HasBody head (Esh (address_list (variable_part head))) (behind_address_list (variable_part head))
esh_body head bytes h e =
    let part = variable_part head in
    let list = and_parts (nat_le 1 (length part)) _ (only_if _ _ h.esh e) in
    let all = addresses_split (octet part 1) (drop 1 part) (bytes_of_drop part 1 (bytes_of_drop head 9 bytes)) list.1 in
    record {
      type = eqb-true _ _ e;
      split =
          number_first part (leb-true 1 (length part) list.0)
          ∙ ap (λ (t : List ℕ). octet part 1 ∷ t) all.split
          ∙ ap (λ n. n ∷ (joined (address_list part) ++ behind_address_list part)) (sym all.count);
      addresses = all.each;
      timer = tt;
    }

ish_body : (head : List ℕ) → IsBytes head → IsAccepted head → is_ish head ≡ true → HasBody head (Ish (field (variable_part head))) (behind (variable_part head))
ish_body head bytes h e =
    let part = variable_part head in
    let f : is_field 1 part ≡ true = only_if _ _ h.ish e in
    let not_esh : is_esh head ≡ false = ne_eqb (octet head 5) 2 (λ k. omega (arith, k, eqb-true (octet head 5) 4 e)) in
    let options_are : options_part head ≡ behind part = rw (not_esh, e) refl in
    let place : place_of_wrong_timer false (options_place head) (parameters (options_part head)) ≡ None = none_if _ _ e h.timer in
    record {
      type = eqb-true _ _ e;
      split = (is_field_split 1 part f).split;
      addresses = address_is part (bytes_of_drop head 9 bytes) f;
      timer = (let P : List ℕ → Type 0 = λ t. FitsTimer (Ish (field part)) (parameters t) in subst P options_are (is_once false (options_place head) (parameters (options_part head)) place).timer);
    }

rd_body : (head : List ℕ) → IsBytes head → IsAccepted head → is_rd head ≡ true → HasBody head (redirection (variable_part head)) (behind (behind (behind (variable_part head))))
rd_body head bytes h e =
    let part = variable_part head in
    let part_bytes : IsBytes part = bytes_of_drop head 9 bytes in
    let fields = and_parts (is_field 1 part) _ (only_if _ _ h.rd e) in
    let others = and_parts (is_field 1 (behind part)) _ fields.1 in
    let to = is_field_split 1 part fields.0 in
    let via = is_field_split 1 (behind part) others.0 in
    let title = is_field_split 0 (behind (behind part)) others.1 in
    let title_bytes : IsBytes (field (behind (behind part))) = bytes_of_field (behind (behind part)) (bytes_of_behind (behind part) (bytes_of_behind part part_bytes)) in
    record {
      type = eqb-true _ _ e;
      split =
          to.split
          ∙ ap (λ (t : List ℕ). counted (field part) ++ t)
          (via.split
          ∙ ap (λ (t : List ℕ). counted (field (behind part)) ++ t)
          (title.split ∙ ap (λ (t : List ℕ). counted t ++ behind (behind (behind part))) (sym (title_again (field (behind (behind part))))))
          ∙ sym (append_assoc (counted (field (behind part))) (counted (title_octets (title_of (field (behind (behind part)))))) (behind (behind (behind part)))))
          ∙ sym (append_assoc (counted (field part)) (counted (field (behind part)) ++ counted (title_octets (title_of (field (behind (behind part)))))) (behind (behind (behind part))));
      addresses = (
        address_is part part_bytes fields.0,
        address_is (behind part) (bytes_of_behind part part_bytes) others.0,
        title_is (field (behind (behind part))) title.few title_bytes,
      );
      timer = tt;
    }

pub has_body : (head : List ℕ) → IsBytes head → IsAccepted head → HasBody head (body_of head) (options_part head)
has_body head bytes h = by_kind (is_esh head) (is_ish head) refl refl
  where
    by_kind : (a b : Bool) → is_esh head ≡ a → is_ish head ≡ b
        → HasBody head
        (if a then Esh (address_list (variable_part head)) else (if b then Ish (field (variable_part head)) else redirection (variable_part head)))
        (if a then behind_address_list (variable_part head) else (if b then behind (variable_part head) else behind (behind (behind (variable_part head)))))
    by_kind true b e f = esh_body head bytes h e
    by_kind false true e f = ish_body head bytes h f
    by_kind false false e f = rd_body head bytes h (third _ _ _ h.type e f)

-- ---- read where it was written

-- a header in which the body and the options of a value are read
pub record ReadsBody (head : List ℕ) (body : EsisBody) (options : List ℕ) : Type 0 where
  pub type : (is_esh head || (is_ish head || is_rd head)) ≡ true
  pub esh : (is_esh head && not (is_address_list (variable_part head))) ≡ false
  pub ish : (is_ish head && not (is_field 1 (variable_part head))) ≡ false
  pub rd : (is_rd head && not (is_redirection (variable_part head))) ≡ false
  pub body_is : body_of head ≡ body
  pub options_are : options_part head ≡ options
  pub timer : FitsTimer body (parameters options) → (if is_ish head then place_of_wrong_timer false (options_place head) (parameters (options_part head)) else None) ≡ None

title_written : (title : Option (List ℕ)) → IsTitleOrNone title → title_of (title_octets title) ≡ title
title_written None h = refl
title_written (Some t) h = let some = h.some in rw (ne_eqb (length t) 0 (λ e. omega arith)) refl

pub title_few : (title : Option (List ℕ)) → IsTitleOrNone title → length (title_octets title) ≤ 20
title_few None h = omega arith
title_few (Some t) h = h.few

pub reads_body : (head : List ℕ) (body : EsisBody) (options : List ℕ) → octet head 5 ≡ type_code body → variable_part head ≡ body_octets body ++ options → HasAddresses body → ReadsBody head body options
reads_body head (Esh list) options type split h =
    let part = variable_part head in
    let esh : is_esh head ≡ true = eq-eqb _ _ type in
    let ish : is_ish head ≡ false = ne_eqb (octet head 5) 4 (λ e. omega (arith, type, e)) in
    let rd : is_rd head ≡ false = ne_eqb (octet head 5) 6 (λ e. omega (arith, type, e)) in
    let number : octet part 1 ≡ length list = ap (λ (t : List ℕ). octet t 1) split in
    let all : drop 1 part ≡ joined list ++ options = ap (λ (t : List ℕ). drop 1 t) split in
    let r = reads list options h in
    let some : 1 ≤ length part = omega (arith, ap length split) in
    let whole : is_address_list part ≡ true = and_from _ _ (le-leb 1 (length part) some) (rw (number, all) r.whole) in
    let list_is : address_list part ≡ list = rw (number, all) r.list_is in
    let rest_is : behind_address_list part ≡ options = rw (number, all) r.rest_is in
    record {
      type = rw esh refl;
      esh = rw (whole, esh) refl;
      ish = rw ish refl;
      rd = rw rd refl;
      body_is = rw esh (ap (λ (l : List (List ℕ)). Esh l) list_is);
      options_are = rw esh rest_is;
      timer = λ _. rw ish refl;
    }
reads_body head (Ish title) options type split h =
    let part = variable_part head in
    let esh : is_esh head ≡ false = ne_eqb (octet head 5) 2 (λ e. omega (arith, type, e)) in
    let ish : is_ish head ≡ true = eq-eqb _ _ type in
    let rd : is_rd head ≡ false = ne_eqb (octet head 5) 6 (λ e. omega (arith, type, e)) in
    let whole : is_field 1 part ≡ true = ap (λ (t : List ℕ). is_field 1 t) split ∙ is_field_counted 1 title options h.some h.few in
    let title_is : field part ≡ title = ap field split ∙ field_of_counted title options in
    let rest_is : behind part ≡ options = ap behind split ∙ behind_counted title options in
    let options_are : options_part head ≡ options = rw (esh, ish) rest_is in
    record {
      type = rw (esh, ish) refl;
      esh = rw esh refl;
      ish = rw (whole, ish) refl;
      rd = rw rd refl;
      body_is = rw (esh, ish) (ap (λ (t : List ℕ). Ish t) title_is);
      options_are = options_are;
      timer = λ fits.
          let P : List ℕ → Type 0 = λ t. place_of_wrong_timer false (options_place head) (parameters t) ≡ None in
          if_none _ _ (subst P (sym options_are) (nothing_wrong false (options_place head) (parameters options) (once_from (parameters options) fits)));
    }
reads_body head (Rd to via title) options type split h =
    let part = variable_part head in
    let esh : is_esh head ≡ false = ne_eqb (octet head 5) 2 (λ e. omega (arith, type, e)) in
    let ish : is_ish head ≡ false = ne_eqb (octet head 5) 4 (λ e. omega (arith, type, e)) in
    let rd : is_rd head ≡ true = eq-eqb _ _ type in
    let last = counted (title_octets title) ++ options in
    let middle = counted via ++ last in
    let here : part ≡ counted to ++ middle =
    split
    ∙ append_assoc (counted to) (counted via ++ counted (title_octets title)) options
    ∙ ap (λ (t : List ℕ). counted to ++ t) (append_assoc (counted via) (counted (title_octets title)) options) in
    let behind_to : behind part ≡ middle = ap behind here ∙ behind_counted to middle in
    let behind_via : behind (behind part) ≡ last = ap behind behind_to ∙ behind_counted via last in
    let rest_is : behind (behind (behind part)) ≡ options = ap behind behind_via ∙ behind_counted (title_octets title) options in
    let to_is : field part ≡ to = ap field here ∙ field_of_counted to middle in
    let via_is : field (behind part) ≡ via = ap field behind_to ∙ field_of_counted via last in
    let title_is : title_of (field (behind (behind part))) ≡ title =
    ap (λ (t : List ℕ). title_of (field t)) behind_via ∙ ap title_of (field_of_counted (title_octets title) options) ∙ title_written title h.2 in
    let whole : is_redirection part ≡ true =
    and_from _ _ (ap (λ (t : List ℕ). is_field 1 t) here ∙ is_field_counted 1 to middle h.0.some h.0.few)
    (and_from _ _ (ap (λ (t : List ℕ). is_field 1 t) behind_to ∙ is_field_counted 1 via last h.1.some h.1.few)
    (ap (λ (t : List ℕ). is_field 0 t) behind_via ∙ is_field_counted 0 (title_octets title) options (omega arith) (title_few title h.2))) in
    record {
      type = rw (esh, ish, rd) refl;
      esh = rw esh refl;
      ish = rw ish refl;
      rd = rw (whole, rd) refl;
      body_is = rw (esh, ish) (ap (λ (t : List ℕ). Rd t (field (behind part)) (title_of (field (behind (behind part))))) to_is ∙ ap (λ (t : List ℕ). Rd to t (title_of (field (behind (behind part))))) via_is ∙ ap (λ (t : Option (List ℕ)). Rd to via t) title_is);
      options_are = rw (esh, ish) rest_is;
      timer = λ _. rw ish refl;
    }
