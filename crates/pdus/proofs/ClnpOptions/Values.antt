-- What the edits make of a value, and that it keeps its form.
use Rattle.std.proofs.Common.{◌≡◌, ◌∙◌, sym, ap, subst, refl, ℕ, ◌+◌, ◌-◌, ◌≤◌, ◌<◌, ◌≢◌, ◌⊎◌, inl, inr, List, [], ◌∷◌, ◌++◌, length, take, drop, get_or, set, arith, length-append, append_assoc, Some, None, is_some, IsSome, bit_or}
use Rattle.std.proofs.lemmas.Bool.{cond-true, cond-false, cases_lt, cases_eq, le-leb, lt-leb, eq-eqb, ne_eqb, false≢true}
use Rattle.std.proofs.lemmas.Nat.{le_or_l}
use Rattle.std.proofs.lemmas.List.Elements.{All-push}
use Rattle.std.proofs.lemmas.List.{length-set, length-take-le, length-drop, get_or-set_same, get_or-set_other, get_or-drop, drop-set-lt, take-append-drop, take_at, drop_at, drop-drop, take_more, take_more_set, get_or_append_left, get_or-take, drop_more, take_all, get_or_at, append-nil}
use Rattle.pdus.specs.ClnpOptions.Parameter.{source_route, recording, quality}
use Rattle.pdus.specs.ClnpOptions.Grammar.{IsTitle, joined, IsPlaceOfTitle, HasFormat, IsSourceRoute, IsRecorded, IsRecording, HasForm}
use Rattle.pdus.specs.ClnpOptions.Edits.{pointer_of, title_size, title_at, advanced, with_title, recorded, marked}
use Rattle.pdus.specs.ClnpOptions.Located.{LeadsOn}
use Rattle.pdus.proofs.ClnpOptions.Titles.{joined-nil, joined-cons, joined-append, joined-take}

pub quality_form_of : (value : List ℕ) → HasFormat value → HasForm (record { code = quality; value = value })
quality_form_of value h = record {
  known = (4, omega arith, refl);
  security_form = λ e. absurd (omega arith);
  source_route_form = λ e. absurd (omega arith);
  recording_form = λ e. absurd (omega arith);
  quality_form = λ e. h;
  priority_form = λ e. absurd (omega arith);
  reason_form = λ e. absurd (omega arith);
}

pub route_form_of : (value : List ℕ) → IsSourceRoute value → HasForm (record { code = source_route; value = value })
route_form_of value h = record {
  known = (2, omega arith, refl);
  security_form = λ e. absurd (omega arith);
  source_route_form = λ e. h;
  recording_form = λ e. absurd (omega arith);
  quality_form = λ e. absurd (omega arith);
  priority_form = λ e. absurd (omega arith);
  reason_form = λ e. absurd (omega arith);
}

pub recording_form_of : (value : List ℕ) → IsRecording value → HasForm (record { code = recording; value = value })
recording_form_of value h = record {
  known = (3, omega arith, refl);
  security_form = λ e. absurd (omega arith);
  source_route_form = λ e. absurd (omega arith);
  recording_form = λ e. h;
  quality_form = λ e. absurd (omega arith);
  priority_form = λ e. absurd (omega arith);
  reason_form = λ e. absurd (omega arith);
}

-- the congestion bit
pub marked-set : (value : List ℕ) → 192 ≤ get_or value 0 0 → set value 0 (bit_or (get_or value 0 0) 8) ≡ marked value
unfolding marked
marked-set value h = sym (cond-true _ _ _ (le-leb 192 (get_or value 0 0) h))

pub marked-kept : (value : List ℕ) → get_or value 0 0 < 192 → value ≡ marked value
unfolding marked
marked-kept value h = sym (cond-false _ _ _ (lt-leb 192 (get_or value 0 0) h))

pub length-marked : (value : List ℕ) → length (marked value) ≡ length value
length-marked value =
    elim (cases_lt (get_or value 0 0) 192) [
      | inl h ↦ ap length (sym (marked-kept value h))
      | inr h ↦ ap length (sym (marked-set value h)) ∙ length-set value 0 (bit_or (get_or value 0 0) 8)
    ]

pub marked_form : (value : List ℕ) → HasFormat value → HasFormat (marked value)
marked_form value h =
    let P : List ℕ → Type 0 = HasFormat in
    elim (cases_lt (get_or value 0 0) 192) [
      | inl k ↦ subst P (marked-kept value k) h
      | inr k ↦ subst P (marked-set value k) (with_bit value h k)
    ]
  where
    with_bit : (value : List ℕ) → HasFormat value → 192 ≤ get_or value 0 0 → HasFormat (set value 0 (bit_or (get_or value 0 0) 8))
    with_bit value h k =
        let present = h.present in
        record {
          present = omega (arith, length-set value 0 (bit_or (get_or value 0 0) 8));
          format = omega (arith, get_or-set_same value 0 (bit_or (get_or value 0 0) 8) 0 (omega arith), le_or_l (get_or value 0 0) 8);
        }

-- the n-th title, which stands at the pointer
pub record TitleAt (value : List ℕ) (titles : List (List ℕ)) : Type 0 where
  pub n : ℕ
  pub within : n < length titles
  pub pointer : pointer_of value ≡ 3 + length (joined (take n titles))
  pub size : title_size value ≡ length (get_or titles n [])
  pub next : 3 + length (joined (take (n + 1) titles)) ≡ pointer_of value + title_size value + 1
  pub room : length (joined (take (n + 1) titles)) ≤ length (joined titles)

length-joined-more : (titles : List (List ℕ)) (n : ℕ) → n < length titles → length (joined (take (n + 1) titles)) ≡ length (joined (take n titles)) + 1 + length (get_or titles n [])
length-joined-more titles n h =
    ap (λ ts. length (joined ts)) (take_more titles n [] h)
    ∙ ap length (joined-append (take n titles) (get_or titles n [] ∷ []) ∙ ap (λ t. joined (take n titles) ++ t) (joined-cons (get_or titles n []) [] ∙ ap (λ t. length (get_or titles n []) ∷ t) (ap (λ t. get_or titles n [] ++ t) joined-nil ∙ append-nil (get_or titles n []))))
    ∙ length-append (joined (take n titles)) (length (get_or titles n []) ∷ get_or titles n [])
    ∙ omega arith

first_of_joined : (titles : List (List ℕ)) (n : ℕ) → n < length titles → get_or (joined titles) (length (joined (take n titles))) 0 ≡ length (get_or titles n [])
first_of_joined titles n h =
    ap (λ t. get_or t (length (joined (take n titles))) 0)
    (joined-take n titles ∙ ap (λ t. joined (take n titles) ++ t) (ap joined (drop_more titles n [] h) ∙ joined-cons (get_or titles n []) (drop (n + 1) titles)))
    ∙ get_or_at (joined (take n titles)) (length (get_or titles n [])) (get_or titles n [] ++ joined (drop (n + 1) titles)) 0 (length (joined (take n titles))) refl

pub title_of_route : (value : List ℕ) (h : IsSourceRoute value) → pointer_of value ≤ length value → TitleAt value h.titles
title_of_route value h within =
    elim h.pointer as (λ _. TitleAt value h.titles) [
      | inl past ↦ absurd (omega arith)
      | inr place ↦
          let at : pointer_of value - 1 ≡ 2 + length (joined (take place.0 h.titles)) = omega (arith, place.2) in
          let size : title_size value ≡ length (get_or h.titles place.0 []) =
          ap (λ i. get_or value i 0) at
          ∙ sym (get_or-drop 2 value (length (joined (take place.0 h.titles))) 0)
          ∙ ap (λ t. get_or t (length (joined (take place.0 h.titles))) 0) h.filled
          ∙ first_of_joined h.titles place.0 place.1 in
          record {
            n = place.0;
            within = place.1;
            pointer = place.2;
            size = size;
            next = omega (arith, place.2, size, length-joined-more h.titles place.0 place.1);
            room = omega (arith, ap length (joined-take (place.0 + 1) h.titles), length-append (joined (take (place.0 + 1) h.titles)) (joined (drop (place.0 + 1) h.titles)));
          }
    ]

pub leads_on : (value : List ℕ) → IsSourceRoute value → pointer_of value ≤ length value → LeadsOn value
leads_on value h within =
    let t = title_of_route value h within in
    let long = h.long in
    let at = t.pointer in
    let next = t.next in
    let room = t.room in
    record {
      pointer = omega arith;
      fits = omega (arith, ap length h.filled, length-drop 2 value);
    }

advanced-is : (value : List ℕ) → advanced value ≡ set value 1 (pointer_of value + title_size value + 1)
unfolding advanced
advanced-is value = refl

pub length-advanced : (value : List ℕ) → length (advanced value) ≡ length value
length-advanced value = ap length (advanced-is value) ∙ length-set value 1 (pointer_of value + title_size value + 1)

route_moved : (value : List ℕ) (x : ℕ) (h : IsSourceRoute value) → (length value < x) ⊎ IsPlaceOfTitle h.titles x → IsSourceRoute (set value 1 x)
route_moved value x h place =
    let long = h.long in
    let same : get_or (set value 1 x) 1 0 ≡ x = get_or-set_same value 1 x 0 (omega arith) in
    let l : length (set value 1 x) ≡ length value = length-set value 1 x in
    record {
      long = omega arith;
      kind = let k = h.kind in omega (arith, get_or-set_other value 1 0 x 0 (λ e. absurd (omega arith)));
      titles = h.titles;
      each = h.each;
      filled = drop-set-lt 2 value 1 x (omega arith) ∙ h.filled;
      pointer = elim place [ inl past ↦ inl (omega arith) | inr at ↦ inr (at.0, at.1, same ∙ at.2) ];
    }

pub advanced_form : (value : List ℕ) → IsSourceRoute value → pointer_of value ≤ length value → IsSourceRoute (advanced value)
advanced_form value h within =
    let P : List ℕ → Type 0 = IsSourceRoute in
    let t = title_of_route value h within in
    let next = t.next in
    subst P (sym (advanced-is value))
    (route_moved value (pointer_of value + title_size value + 1) h
    (elim (cases_lt (t.n + 1) (length h.titles)) [
      | inl more ↦ inr (t.n + 1, more, sym next)
      | inr all ↦
          let whole : take (t.n + 1) h.titles ≡ h.titles = take_all (t.n + 1) h.titles all in
          let long = h.long in
          inl (omega (arith, ap (λ ts. length (joined ts)) whole, ap length h.filled, length-drop 2 value))
    ]))

pub title_at-none : (value : List ℕ) → length value < pointer_of value → None ≡ title_at value
unfolding title_at
title_at-none value h = sym (cond-false _ _ _ (lt-leb (pointer_of value) (length value) h))

pub title_at-some : (value : List ℕ) → pointer_of value ≤ length value → Some (take (title_size value) (drop (pointer_of value) value)) ≡ title_at value
unfolding title_at
title_at-some value h = sym (cond-true _ _ _ (le-leb (pointer_of value) (length value) h))

pub title_at-leads : (value : List ℕ) → IsSome (title_at value) → pointer_of value ≤ length value
title_at-leads value h =
    elim (cases_lt (length value) (pointer_of value)) [
      | inl past ↦ absurd (false≢true (ap is_some (title_at-none value past) ∙ h))
      | inr within ↦ within
    ]

-- a recording
pub recorded-ended : (title value : List ℕ) → pointer_of value ≡ 255 → value ≡ recorded title value
unfolding recorded
recorded-ended title value h = sym (cond-true _ _ _ (eq-eqb (pointer_of value) 255 h))

pub recorded-full : (title value : List ℕ) → pointer_of value ≢ 255 → length value < pointer_of value + length title → set value 1 255 ≡ recorded title value
unfolding recorded
recorded-full title value n h =
    sym (cond-false _ _ _ (ne_eqb (pointer_of value) 255 n) ∙ cond-false _ _ _ (lt-leb (pointer_of value + length title) (length value) h))

pub recorded-put : (title value : List ℕ) → pointer_of value ≢ 255 → pointer_of value + length title ≤ length value → with_title title value ≡ recorded title value
unfolding recorded
recorded-put title value n h =
    sym (cond-false _ _ _ (ne_eqb (pointer_of value) 255 n) ∙ cond-true _ _ _ (le-leb (pointer_of value + length title) (length value) h))

-- the value before the pointer is set: what stands before the pointer, the title, what stands behind it
abbrev pub written : List ℕ → List ℕ → List ℕ
written title value = take (pointer_of value - 1) value ++ (length title ∷ title) ++ drop (pointer_of value + length title) value

-- what the writes of the length octet and of the title leave
pub written-by : (title value copied : List ℕ) (n : ℕ) → 1 ≤ pointer_of value → pointer_of value + length title ≤ length value → n ≡ length title → copied ≡ title → take (pointer_of value) (set value (pointer_of value - 1) (length title)) ++ (copied ++ drop n (drop (pointer_of value) (set value (pointer_of value - 1) (length title)))) ≡ written title value
written-by title value copied n low fits is_n is_copied =
    let one : pointer_of value ≡ pointer_of value - 1 + 1 = omega arith in
    let front : take (pointer_of value) (set value (pointer_of value - 1) (length title)) ≡ take (pointer_of value - 1) value ++ length title ∷ [] =
    ap (λ k. take k (set value (pointer_of value - 1) (length title))) one ∙ take_more_set value (pointer_of value - 1) (length title) (omega arith) in
    let back : drop (pointer_of value) (set value (pointer_of value - 1) (length title)) ≡ drop (pointer_of value) value =
    drop-set-lt (pointer_of value) value (pointer_of value - 1) (length title) (omega arith) in
    rw (front, back, is_n, is_copied, drop-drop (length title) (pointer_of value) value)
    (append_assoc (take (pointer_of value - 1) value) (length title ∷ []) (title ++ drop (pointer_of value + length title) value)
    ∙ sym (append_assoc (take (pointer_of value - 1) value) (length title ∷ title) (drop (pointer_of value + length title) value)))

-- the parts of a recording of which the titles end before the pointer
pub record RecordedAt (title value : List ℕ) (titles : List (List ℕ)) (room : List ℕ) : Type 0 where
  pub front : take (pointer_of value - 1) value ≡ take 2 value ++ joined titles
  pub behind : drop (pointer_of value + length title) value ≡ drop (length title + 1) room

recorded_at : (title value : List ℕ) (titles : List (List ℕ)) (room : List ℕ) → 2 ≤ length value → drop 2 value ≡ joined titles ++ room → pointer_of value ≡ 3 + length (joined titles) → RecordedAt title value titles room
recorded_at title value titles room long filled at =
    let l : length (take 2 value ++ joined titles) ≡ pointer_of value - 1 = omega (arith, length-take-le 2 value long, length-append (take 2 value) (joined titles)) in
    let split : value ≡ (take 2 value ++ joined titles) ++ room =
    sym (take-append-drop 2 value) ∙ ap (λ t. take 2 value ++ t) filled ∙ sym (append_assoc (take 2 value) (joined titles) room) in
    let far : pointer_of value + length title ≡ (pointer_of value - 1) + (length title + 1) = omega arith in
    record {
      front = ap (take (pointer_of value - 1)) split ∙ take_at (take 2 value ++ joined titles) room (pointer_of value - 1) l;
      behind =
          ap (λ k. drop k value) far
          ∙ sym (drop-drop (length title + 1) (pointer_of value - 1) value)
          ∙ ap (λ t. drop (length title + 1) (drop (pointer_of value - 1) t)) split
          ∙ ap (drop (length title + 1)) (drop_at (take 2 value ++ joined titles) room (pointer_of value - 1) l);
    }

pub length-written : (title value : List ℕ) → 1 ≤ pointer_of value → pointer_of value + length title ≤ length value → length (written title value) ≡ length value
length-written title value low fits =
    omega (arith, length-append (take (pointer_of value - 1) value ++ (length title ∷ title)) (drop (pointer_of value + length title) value), length-append (take (pointer_of value - 1) value) (length title ∷ title), length-take-le (pointer_of value - 1) value (omega arith), length-drop (pointer_of value + length title) value)

titles_behind : (title value : List ℕ) (titles : List (List ℕ)) (room : List ℕ) → 2 ≤ length value → drop 2 value ≡ joined titles ++ room → pointer_of value ≡ 3 + length (joined titles) → drop 2 (written title value) ≡ joined (titles ++ title ∷ []) ++ drop (length title + 1) room
titles_behind title value titles room long filled at =
    let r = recorded_at title value titles room long filled at in
    let l = length-take-le 2 value long in
    let whole : written title value ≡ take 2 value ++ joined titles ++ (length title ∷ title) ++ drop (length title + 1) room = rw (r.front, r.behind) refl in
    ap (drop 2) whole
    ∙ ap (drop 2) (ap (λ t. t ++ drop (length title + 1) room) (append_assoc (take 2 value) (joined titles) (length title ∷ title)) ∙ append_assoc (take 2 value) (joined titles ++ (length title ∷ title)) (drop (length title + 1) room))
    ∙ drop_at (take 2 value) (joined titles ++ (length title ∷ title) ++ drop (length title + 1) room) 2 l
    ∙ ap (λ t. t ++ drop (length title + 1) room)
    (sym (joined-append titles (title ∷ []) ∙ ap (λ t. joined titles ++ t) (joined-cons title [] ∙ ap (λ t. length title ∷ (title ++ t)) joined-nil ∙ ap (λ t. length title ∷ t) (append-nil title))))

-- a recording with the title put
put_form : (title value : List ℕ) (h : IsRecording value) (r : IsRecorded value) → IsTitle title → pointer_of value + length title ≤ length value → IsRecording (with_title title value)
put_form title value h r it fits =
    let long = h.long in
    let at = r.pointer in
    let x : ℕ = pointer_of value + length title + 1 in
    let l : length (written title value) ≡ length value = length-written title value (omega arith) fits in
    let ls : length (set (written title value) 1 x) ≡ length (written title value) = length-set (written title value) 1 x in
    let pointer : get_or (set (written title value) 1 x) 1 0 ≡ x = get_or-set_same (written title value) 1 x 0 (omega arith) in
    let first : get_or (written title value) 0 0 ≡ get_or value 0 0 =
    get_or_append_left (take (pointer_of value - 1) value ++ (length title ∷ title)) (drop (pointer_of value + length title) value) 0 0 (omega (arith, length-append (take (pointer_of value - 1) value) (length title ∷ title)))
    ∙ get_or_append_left (take (pointer_of value - 1) value) (length title ∷ title) 0 0 (omega (arith, length-take-le (pointer_of value - 1) value (omega arith)))
    ∙ get_or-take (pointer_of value - 1) value 0 0 (omega arith) in
    let kind : get_or (set (written title value) 1 x) 0 0 ≡ get_or (written title value) 0 0 = get_or-set_other (written title value) 1 0 x 0 (λ e. absurd (omega arith)) in
    record {
      long = omega arith;
      kind = let k = h.kind in omega arith;
      pointer = inr (record {
        titles = r.titles ++ title ∷ [];
        room = drop (length title + 1) r.room;
        each = All-push IsTitle r.titles title r.each it;
        filled = drop-set-lt 2 (written title value) 1 x (omega arith) ∙ titles_behind title value r.titles r.room long r.filled at;
        pointer = pointer ∙ omega (arith, ap length (joined-append r.titles (title ∷ [])), length-append (joined r.titles) (joined (title ∷ [])), ap length (joined-cons title []), ap length joined-nil, length-append title (joined []));
      });
    }

ended_form : (value : List ℕ) → IsRecording value → IsRecording (set value 1 255)
ended_form value h =
    let long = h.long in
    record {
      long = omega (arith, length-set value 1 255);
      kind = let k = h.kind in omega (arith, get_or-set_other value 1 0 255 0 (λ e. absurd (omega arith)));
      pointer = inl (get_or-set_same value 1 255 0 (omega arith));
    }

-- where the pointer isn't 255, titles end before it
pub recorded_before : (value : List ℕ) → IsRecording value → pointer_of value ≢ 255 → IsRecorded value
recorded_before value h n = elim h.pointer [ inl e ↦ absurd (n e) | inr r ↦ r ]

pub recorded_form : (title value : List ℕ) → IsRecording value → IsTitle title → IsRecording (recorded title value)
recorded_form title value h it =
    let P : List ℕ → Type 0 = IsRecording in
    elim (cases_eq (pointer_of value) 255) [
      | inl e ↦ subst P (recorded-ended title value e) h
      | inr n ↦ elim (cases_lt (length value) (pointer_of value + length title)) [
        | inl full ↦ subst P (recorded-full title value n full) (ended_form value h)
        | inr fits ↦ subst P (recorded-put title value n fits) (put_form title value h (recorded_before value h n) it fits)
      ]
    ]

pub length-recorded : (title value : List ℕ) → IsRecording value → length (recorded title value) ≡ length value
length-recorded title value h =
    elim (cases_eq (pointer_of value) 255) [
      | inl e ↦ ap length (sym (recorded-ended title value e))
      | inr n ↦ elim (cases_lt (length value) (pointer_of value + length title)) [
        | inl full ↦ ap length (sym (recorded-full title value n full)) ∙ length-set value 1 255
        | inr fits ↦
            let at = (recorded_before value h n).pointer in
            ap length (sym (recorded-put title value n fits)) ∙ length-set (written title value) 1 (pointer_of value + length title + 1) ∙ length-written title value (omega arith) fits
      ]
    ]
