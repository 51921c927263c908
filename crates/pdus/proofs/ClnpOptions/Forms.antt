-- The forms of values: the tests of the rules and the relations of the grammar agree.
use Rattle.std.proofs.Common.{◌≡◌, ◌∙◌, sym, ap, refl, ℕ, ◌+◌, ◌-◌, ◌≤◌, ◌<◌, ◌⊎◌, inl, inr, Bool, true, false, not, ◌&&◌, ◌||◌, ◌==◌, List, ◌++◌, length, take, drop, get_or, arith, length-append}
use Rattle.std.specs.Prelude.{All, Contains, nat_le, nat_lt}
use Rattle.std.proofs.lemmas.Bool.{leb-true, ltb-true, ltb-false, eqb-true, eqb-false, le-leb, lt-ltb, le-ltb, eq-eqb, ne_eqb, and_parts, and_from, and_cases, and_left, and_right, or_cases, or_parts, or_from, or_left, or_right, not-false, not_from_true, cases_Bool, false≢true}
use Rattle.std.proofs.lemmas.List.{length-take-le, length-drop, take-append-drop, take_at, get_or_default}
use Rattle.std.proofs.lemmas.List.Elements.{All-take}
use Rattle.std.proofs.lemmas.List.Folds.{Any-from_list_any, list_any-from_Any}
use Rattle.pdus.specs.ClnpOptions.Parameter.{Parameter, security, source_route, recording, quality, priority, reason, known_codes}
use Rattle.pdus.specs.ClnpOptions.Grammar.{IsTitle, joined, IsPlaceOfTitle, HasFormat, IsSourceRoute, IsRecorded, IsRecording, HasForm}
use Rattle.pdus.specs.ClnpOptions.Rules.{are_titles, has_kind, is_after_titles, is_source_route, is_recording, lacks_format, contains_code, is_unknown, has_bad_security, has_bad_route, has_bad_form}
use Rattle.pdus.proofs.ClnpOptions.Titles.{are_titles-joined, joined_of, front_of_titles, joined-take}

-- a test of an option that looks at the value only where the code is the rule's
pub bad_only_at : (code rule_code : ℕ) (bad : Bool) → (code == rule_code && bad) ≡ false → code ≡ rule_code → bad ≡ false
bad_only_at code rule_code bad h e =
    elim (and_cases (code == rule_code) bad h) [ inl k ↦ absurd (eqb-false code rule_code k e) | inr k ↦ k ]

pub good_at : (code rule_code : ℕ) (bad : Bool) → (code ≡ rule_code → bad ≡ false) → (code == rule_code && bad) ≡ false
good_at code rule_code bad h =
    elim (cases_Bool (code == rule_code)) [
      | inl k ↦ and_right (code == rule_code) bad (h (eqb-true code rule_code k))
      | inr k ↦ and_left (code == rule_code) bad k
    ]

pub has_format : (value : List ℕ) → lacks_format value ≡ false → HasFormat value
has_format value h =
    let p = or_parts (length value == 0) (nat_lt (get_or value 0 0) 64) h in
    let n = eqb-false (length value) 0 p.0 in
    record {
      present = omega arith;
      format = ltb-false (get_or value 0 0) 64 p.1;
    }

pub format_kept : (value : List ℕ) → HasFormat value → lacks_format value ≡ false
format_kept value h =
    let present = h.present in
    or_from _ _ (ne_eqb (length value) 0 (omega arith)) (le-ltb (get_or value 0 0) 64 h.format)

pub kind_parts : (value : List ℕ) → has_kind value ≡ true → (2 ≤ length value) × (get_or value 0 0 ≤ 1)
kind_parts value h =
    let p = and_parts (nat_le 2 (length value)) (nat_le (get_or value 0 0) 1) h in
    (leb-true 2 (length value) p.0, leb-true (get_or value 0 0) 1 p.1)

pub kind_from : (value : List ℕ) → 2 ≤ length value → get_or value 0 0 ≤ 1 → has_kind value ≡ true
kind_from value h k = and_from _ _ (le-leb 2 (length value) h) (le-leb (get_or value 0 0) 1 k)

pub after_titles_parts : (value : List ℕ) (pointer : ℕ) → is_after_titles value pointer ≡ true → (3 ≤ pointer) × (are_titles (take (pointer - 3) (drop 2 value)) ≡ true)
after_titles_parts value pointer h =
    let p = and_parts (nat_le 3 pointer) (are_titles (take (pointer - 3) (drop 2 value))) h in
    (leb-true 3 pointer p.0, p.1)

-- titles in front of other octets, up to the pointer
pub after_titles_from : (value : List ℕ) (pointer : ℕ) (titles : List (List ℕ)) (room : List ℕ) → All IsTitle titles → drop 2 value ≡ joined titles ++ room → pointer ≡ 3 + length (joined titles) → is_after_titles value pointer ≡ true
after_titles_from value pointer titles room each e at =
    let n : pointer - 3 ≡ length (joined titles) = omega arith in
    let front : take (pointer - 3) (drop 2 value) ≡ joined titles = ap (take (pointer - 3)) e ∙ take_at (joined titles) room (pointer - 3) (sym n) in
    and_from _ _ (le-leb 3 pointer (omega arith)) (ap are_titles front ∙ are_titles-joined titles each)

pub source_route_of : (value : List ℕ) → is_source_route value ≡ true → IsSourceRoute value
source_route_of value h =
    let p = and_parts _ _ h in
    let q = and_parts _ _ p.0 in
    let kind = kind_parts value q.0 in
    let j = joined_of (drop 2 value) q.1 in
    record {
      long = kind.0;
      kind = kind.1;
      titles = j.titles;
      each = j.each;
      filled = j.filled;
      pointer = pointer_of_route value j.titles j.each j.filled kind.0 p.1;
    }
  where
    pointer_of_route : (value : List ℕ) (titles : List (List ℕ)) → All IsTitle titles → drop 2 value ≡ joined titles → 2 ≤ length value → (nat_lt (length value) (get_or value 1 0) || is_after_titles value (get_or value 1 0)) ≡ true → (length value < get_or value 1 0) ⊎ IsPlaceOfTitle titles (get_or value 1 0)
    pointer_of_route value titles each filled long h =
        elim (cases_Bool (nat_lt (length value) (get_or value 1 0))) [
          | inl k ↦ inl (ltb-true (length value) (get_or value 1 0) k)
          | inr k ↦
              let within = ltb-false (length value) (get_or value 1 0) k in
              let after = elim (or_cases (nat_lt (length value) (get_or value 1 0)) (is_after_titles value (get_or value 1 0)) h) as (λ _. is_after_titles value (get_or value 1 0) ≡ true) [ inl m ↦ absurd (false≢true (sym k ∙ m)) | inr m ↦ m ] in
              let a = after_titles_parts value (get_or value 1 0) after in
              let below : get_or value 1 0 - 3 < length (joined titles) = omega (arith, ap length filled, length-drop 2 value, a.0) in
              let r = front_of_titles titles (get_or value 1 0 - 3) each below (ap (λ t. are_titles (take (get_or value 1 0 - 3) t)) (sym filled) ∙ a.1) in
              inr (r.0, r.1, omega (arith, r.2, a.0))
        ]

pub source_route_from : (value : List ℕ) → IsSourceRoute value → is_source_route value ≡ true
source_route_from value h =
    and_from _ _
    (and_from _ _ (kind_from value h.long h.kind) (ap are_titles h.filled ∙ are_titles-joined h.titles h.each))
    (elim h.pointer [
      | inl k ↦ or_left _ _ (lt-ltb (length value) (get_or value 1 0) k)
      | inr k ↦ or_right _ _
          (after_titles_from value (get_or value 1 0) (take k.0 h.titles) (joined (drop k.0 h.titles)) (All-take IsTitle k.0 h.titles h.each) (h.filled ∙ joined-take k.0 h.titles) k.2)
    ])

pub recorded_of : (value : List ℕ) → 2 ≤ length value → get_or value 1 0 ≤ length value + 1 → is_after_titles value (get_or value 1 0) ≡ true → IsRecorded value
recorded_of value long within h =
    let a = after_titles_parts value (get_or value 1 0) h in
    let j = joined_of (take (get_or value 1 0 - 3) (drop 2 value)) a.1 in
    let l : length (take (get_or value 1 0 - 3) (drop 2 value)) ≡ get_or value 1 0 - 3 = length-take-le (get_or value 1 0 - 3) (drop 2 value) (omega (arith, length-drop 2 value)) in
    record {
      titles = j.titles;
      room = drop (get_or value 1 0 - 3) (drop 2 value);
      each = j.each;
      filled = rw (← j.filled) (sym (take-append-drop (get_or value 1 0 - 3) (drop 2 value)));
      pointer = omega (arith, l, ap length j.filled, a.0);
    }

pub recording_of : (value : List ℕ) → is_recording value ≡ true → IsRecording value
recording_of value h =
    let p = and_parts _ _ h in
    let kind = kind_parts value p.0 in
    record {
      long = kind.0;
      kind = kind.1;
      pointer =
          elim (or_cases (get_or value 1 0 == 255) (nat_le (get_or value 1 0) (length value + 1) && is_after_titles value (get_or value 1 0)) p.1) [
            | inl k ↦ inl (eqb-true (get_or value 1 0) 255 k)
            | inr k ↦ let q = and_parts (nat_le (get_or value 1 0) (length value + 1)) (is_after_titles value (get_or value 1 0)) k in inr (recorded_of value kind.0 (leb-true _ _ q.0) q.1)
          ];
    }

pub recording_from : (value : List ℕ) → IsRecording value → is_recording value ≡ true
recording_from value h =
    and_from _ _ (kind_from value h.long h.kind)
    (elim h.pointer [
      | inl k ↦ or_left _ _ (eq-eqb (get_or value 1 0) 255 k)
      | inr k ↦
          let long = h.long in
          let at = k.pointer in
          or_right _ _
          (and_from _ _
          (le-leb (get_or value 1 0) (length value + 1) (omega (arith, ap length k.filled, length-append (joined k.titles) k.room, length-drop 2 value)))
          (after_titles_from value (get_or value 1 0) k.titles k.room k.each k.filled k.pointer))
    ])

-- an option that no rule for one option picks
pub record Passes (option : Parameter) : Type 0 where
  pub known : is_unknown option ≡ false
  pub security_form : has_bad_security option ≡ false
  pub route_form : has_bad_route option ≡ false
  pub other_forms : has_bad_form option ≡ false

pub contains_code_of : (codes : List ℕ) (code : ℕ) → contains_code codes code ≡ true → Contains codes code
contains_code_of codes code h =
    let a = Any-from_list_any (λ known. known == code) codes h in
    (a.0, a.2, at codes code a.0 a.1 a.2 a.3 a.4)
  where
    at : (codes : List ℕ) (code k x : ℕ) → k < length codes → get_or codes k x ≡ x → (x == code) ≡ true → get_or codes k code ≡ code
    at codes code k x within e t = get_or_default codes k code x within ∙ e ∙ eqb-true x code t

pub contains_code_from : (codes : List ℕ) (code : ℕ) → Contains codes code → contains_code codes code ≡ true
contains_code_from codes code h =
    list_any-from_Any (λ known. known == code) codes (h.0, code, h.1, h.2, eq-eqb code code refl)

form_parts : (option : Parameter) → has_bad_form option ≡ false → ((option.code == recording && not (is_recording option.value)) ≡ false) × ((option.code == quality && lacks_format option.value) ≡ false) × ((option.code == priority && not (length option.value == 1)) ≡ false) × ((option.code == reason && not (length option.value == 2)) ≡ false)
form_parts option h =
    let p = or_parts ((option.code == recording && not (is_recording option.value)) || (option.code == quality && lacks_format option.value) || (option.code == priority && not (length option.value == 1))) (option.code == reason && not (length option.value == 2)) h in
    let q = or_parts ((option.code == recording && not (is_recording option.value)) || (option.code == quality && lacks_format option.value)) (option.code == priority && not (length option.value == 1)) p.0 in
    let r = or_parts (option.code == recording && not (is_recording option.value)) (option.code == quality && lacks_format option.value) q.0 in
    (r.0, r.1, q.1, p.1)

pub has_form : (option : Parameter) → Passes option → HasForm option
has_form option h =
    let f = form_parts option h.other_forms in
    record {
      known = contains_code_of known_codes option.code (not-false _ h.known);
      security_form = λ e. has_format option.value (bad_only_at option.code security _ h.security_form e);
      source_route_form = λ e. source_route_of option.value (not-false _ (bad_only_at option.code source_route _ h.route_form e));
      recording_form = λ e. recording_of option.value (not-false _ (bad_only_at option.code recording _ f.0 e));
      quality_form = λ e. has_format option.value (bad_only_at option.code quality _ f.1 e);
      priority_form = λ e. eqb-true (length option.value) 1 (not-false _ (bad_only_at option.code priority _ f.2 e));
      reason_form = λ e. eqb-true (length option.value) 2 (not-false _ (bad_only_at option.code reason _ f.3 e));
    }

pub passes : (option : Parameter) → HasForm option → Passes option
passes option h = record {
  known = not_from_true _ (contains_code_from known_codes option.code h.known);
  security_form = good_at option.code security _ (λ e. format_kept option.value (h.security_form e));
  route_form = good_at option.code source_route _ (λ e. not_from_true _ (source_route_from option.value (h.source_route_form e)));
  other_forms =
      or_from _ _
      (or_from _ _
      (or_from _ _
      (good_at option.code recording _ (λ e. not_from_true _ (recording_from option.value (h.recording_form e))))
      (good_at option.code quality _ (λ e. format_kept option.value (h.quality_form e))))
      (good_at option.code priority _ (λ e. not_from_true _ (eq-eqb (length option.value) 1 (h.priority_form e)))))
      (good_at option.code reason _ (λ e. not_from_true _ (eq-eqb (length option.value) 2 (h.reason_form e))));
}
