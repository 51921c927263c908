-- A part in which the value of one option was changed.
use Rattle.std.proofs.Common.{◌≡◌, ◌∙◌, sym, ap, subst, refl, ℕ, ◌+◌, ◌-◌, ◌≤◌, ◌≢◌, inl, inr, Bool, true, false, ◌||◌, ◌==◌, List, [], ◌∷◌, ◌++◌, map, length, take, drop, get_or, arith, length-append, append_assoc, Some, None, is_some, IsNone, IsSome}
use Rattle.std.specs.Option.{option_and_then, option_map_or}
use Rattle.std.specs.Prelude.{All, AllPairs, eqb}
use Rattle.std.specs.List.{list_any}
use Rattle.std.proofs.lemmas.Bool.{cases_Bool, true≢false, eq-eqb, eqb-true}
use Rattle.std.proofs.lemmas.List.{map-append, length-map, get_or_append_left, get_or-append-add, append_cancel_left, take_at, drop_at}
use Rattle.std.proofs.lemmas.List.Elements.{All-append, All-cons, All-head, All-tail}
use Rattle.std.proofs.Math.ListN.{get_or-map}
use borrow.Rule.Slice.PartMut.{put_mid}
use Rattle.pdus.specs.ClnpOptions.Parameter.{Parameter, padding, source_route, recording, quality, reason, spelling, spelled, parameters}
use Rattle.pdus.specs.ClnpOptions.Grammar.{IsTitle, IsSourceRoute, IsRecording, HasForm, AreFormed}
use Rattle.pdus.specs.ClnpOptions.Rules.{place_of_reason, is_reason, Accepts, IsWellFormed}
use Rattle.pdus.specs.ClnpOptions.Edits.{edited, value_of, pointer_of, title_at, target_of, is_complete, advanced, recorded, marked}
use Rattle.pdus.specs.ClnpOptions.Located.{StandsAt}
use Rattle.pdus.proofs.ClnpOptions.Parts.{spelled-append, spelled-cons, parameters-of_spelled}
use Rattle.pdus.proofs.ClnpOptions.Places.{is_some-place_of}
use Rattle.pdus.proofs.ClnpOptions.Located.{value_of-append, value_of-other, value_of-same, value_of-nil}
use Rattle.pdus.proofs.ClnpOptions.Values.{quality_form_of, marked_form, length-marked, route_form_of, advanced_form, length-advanced, title_at-leads, recording_form_of, recorded_form, length-recorded}
use Rattle.pdus.proofs.ClnpOptions.Agree.{Differs, forms_of, well_formed_from, spells_of, accepts_from, fits_kind_of, reason_fits}
use Rattle.std.proofs.lemmas.Option.{none-some}
use Rattle.clnp_base.proofs.Lists.{pairs_behind, pairs_first}

-- where no option has the code, nothing is changed
pub edited-none : (code : ℕ) (change : List ℕ → List ℕ) (os : List Parameter) → value_of code os ≡ None → edited code change os ≡ os
unfolding edited value_of
edited-none code change [] h = refl
edited-none code change (o ∷ os) h =
    elim (cases_Bool (eqb o.code code)) [
      | inl t ↦ absurd (none-some o.value (sym (sym (rw t refl) ∙ h)))
      | inr f ↦ rw f (ap (λ t. o ∷ t) (edited-none code change os (rw f at h)))
    ]

edited-append : (code : ℕ) (change : List ℕ → List ℕ) (os ps : List Parameter) → edited code change (os ++ ps) ≡ edited code change os ++ edited code change ps
unfolding edited
edited-append code change os ps = map-append _ os ps

edited-cons : (code : ℕ) (change : List ℕ → List ℕ) (value : List ℕ) (os : List Parameter) → edited code change (record { code = code; value = value } ∷ os) ≡ record { code = code; value = change value } ∷ edited code change os
unfolding edited
edited-cons code change value os = rw (eq-eqb code code refl) refl

value_of-none : (code : ℕ) (os : List Parameter) → All (λ q. q.code ≢ code) os → value_of code os ≡ None
value_of-none code [] h = value_of-nil code
value_of-none code (o ∷ os) h =
    value_of-other code o os (All-head (λ q. q.code ≢ code) o os h) ∙ value_of-none code os (All-tail (λ q. q.code ≢ code) o os h)

all_front : (P : Parameter → Type 0) (os ps : List Parameter) → All P (os ++ ps) → All P os
all_front P os ps h k d within =
    subst P (get_or_append_left os ps d k within) (h k d (omega (arith, length-append os ps)))

all_behind : (P : Parameter → Type 0) (os ps : List Parameter) → All P (os ++ ps) → All P ps
all_behind P os ps h k d within =
    subst P (get_or-append-add os ps k d) (h (length os + k) d (omega (arith, length-append os ps)))

pub none_after : (part : List ℕ) (code start end : ℕ) (s : StandsAt part code start end) → IsWellFormed part → code ≢ padding → value_of code (parameters s.after) ≡ None
none_after part code start end s w n =
    let option : Parameter = record { code = code; value = s.value } in
    let pairs : AllPairs Differs (s.before ++ option ∷ parameters s.after) =
    let P : List Parameter → Type 0 = AllPairs Differs in subst P s.options (forms_of part w).formed.distinct in
    let first = pairs_first Differs option (parameters s.after) (pairs_behind Differs s.before (option ∷ parameters s.after) pairs) in
    value_of-none code (parameters s.after) (λ k d within e. n (first k d within (sym e)))

pub form_at : (part : List ℕ) (code start end : ℕ) (s : StandsAt part code start end) → IsWellFormed part → HasForm (record { code = code; value = s.value })
form_at part code start end s w =
    let option : Parameter = record { code = code; value = s.value } in
    let all : All HasForm (s.before ++ option ∷ parameters s.after) =
    let P : List Parameter → Type 0 = All HasForm in subst P s.options (forms_of part w).formed.formed in
    All-head HasForm option (parameters s.after) (all_behind HasForm s.before (option ∷ parameters s.after) all)

pub value_of-at : (part : List ℕ) (code start end : ℕ) (s : StandsAt part code start end) → value_of code (parameters part) ≡ Some s.value
value_of-at part code start end s =
    ap (value_of code) s.options
    ∙ value_of-append code s.before (record { code = code; value = s.value } ∷ parameters s.after) s.none_before
    ∙ value_of-same code (record { code = code; value = s.value }) (parameters s.after) refl

-- the octets up to the value
front_of : (part : List ℕ) (code start end : ℕ) (s : StandsAt part code start end) → part ≡ (spelled s.before ++ (code ∷ length s.value ∷ [])) ++ (s.value ++ s.after)
front_of part code start end s = s.octets ∙ sym (append_assoc (spelled s.before) (code ∷ length s.value ∷ []) (s.value ++ s.after))

front_length : (part : List ℕ) (code start end : ℕ) (s : StandsAt part code start end) → length (spelled s.before ++ (code ∷ length s.value ∷ [])) ≡ start
front_length part code start end s = length-append (spelled s.before) (code ∷ length s.value ∷ []) ∙ sym s.starts

pub value_at : (part : List ℕ) (code start end : ℕ) (s : StandsAt part code start end) → take (end - start) (drop start part) ≡ s.value
value_at part code start end s =
    let e : end - start ≡ length s.value = let ends = s.ends in omega arith in
    ap (λ t. take (end - start) (drop start t)) (front_of part code start end s)
    ∙ ap (take (end - start)) (drop_at (spelled s.before ++ (code ∷ length s.value ∷ [])) (s.value ++ s.after) start (front_length part code start end s))
    ∙ take_at s.value s.after (end - start) (sym e)

pub after_spelled : (part : List ℕ) (code start end : ℕ) (s : StandsAt part code start end) → IsWellFormed part → s.after ≡ spelled (parameters s.after)
after_spelled part code start end s w =
    let option : Parameter = record { code = code; value = s.value } in
    append_cancel_left (spelling option) s.after (spelled (parameters s.after))
    (append_cancel_left (spelled s.before) (spelling option ++ s.after) (spelling option ++ spelled (parameters s.after))
    (sym s.octets ∙ (forms_of part w).octets ∙ ap spelled s.options ∙ spelled-append s.before (option ∷ parameters s.after) ∙ ap (λ t. spelled s.before ++ t) (spelled-cons option (parameters s.after))))

-- the options with this one's value changed
pub edited-at : (part : List ℕ) (code start end : ℕ) (s : StandsAt part code start end) (change : List ℕ → List ℕ) → IsWellFormed part → code ≢ padding → edited code change (parameters part) ≡ s.before ++ record { code = code; value = change s.value } ∷ parameters s.after
edited-at part code start end s change w n =
    ap (edited code change) s.options
    ∙ edited-append code change s.before (record { code = code; value = s.value } ∷ parameters s.after)
    ∙ rw (edited-none code change s.before s.none_before, edited-cons code change s.value (parameters s.after), edited-none code change (parameters s.after) (none_after part code start end s w n)) refl

-- the octets with this one's value changed
pub octets-edited : (part : List ℕ) (code start end : ℕ) (s : StandsAt part code start end) (change : List ℕ → List ℕ) (value : List ℕ) → IsWellFormed part → code ≢ padding → value ≡ change s.value → length (change s.value) ≡ length s.value → put_mid start (end - start) part value ≡ spelled (edited code change (parameters part))
octets-edited part code start end s change value w n e l =
    let option : Parameter = record { code = code; value = change s.value } in
    let front : take start part ≡ spelled s.before ++ (code ∷ length s.value ∷ []) =
    ap (take start) (front_of part code start end s) ∙ take_at (spelled s.before ++ (code ∷ length s.value ∷ [])) (s.value ++ s.after) start (front_length part code start end s) in
    let size : end - start ≡ length s.value = let ends = s.ends in omega arith in
    let back : drop (end - start) (drop start part) ≡ s.after =
    ap (λ t. drop (end - start) (drop start t)) (front_of part code start end s)
    ∙ ap (drop (end - start)) (drop_at (spelled s.before ++ (code ∷ length s.value ∷ [])) (s.value ++ s.after) start (front_length part code start end s))
    ∙ drop_at s.value s.after (end - start) (sym size) in
    let whole : spelled (edited code change (parameters part)) ≡ spelled s.before ++ (spelling option ++ s.after) =
    ap spelled (edited-at part code start end s change w n)
    ∙ spelled-append s.before (option ∷ parameters s.after)
    ∙ ap (λ t. spelled s.before ++ t) (spelled-cons option (parameters s.after) ∙ ap (λ t. spelling option ++ t) (sym (after_spelled part code start end s w))) in
    rw (front, back, e, ← l) (append_assoc (spelled s.before) (code ∷ length (change s.value) ∷ []) (change s.value ++ s.after)) ∙ sym whole

pub codes_of : List Parameter → List ℕ
codes_of os = map (λ o. o.code) os

code_at : (os ps : List Parameter) (i : ℕ) (d : Parameter) → codes_of os ≡ codes_of ps → (get_or os i d).code ≡ (get_or ps i d).code
unfolding codes_of
code_at os ps i d e =
    sym (get_or-map (λ (o : Parameter). o.code) os i d) ∙ ap (λ t. get_or t i d.code) e ∙ get_or-map (λ (o : Parameter). o.code) ps i d

pub pairs_by_codes : (os ps : List Parameter) → codes_of os ≡ codes_of ps → AllPairs Differs os → AllPairs Differs ps
unfolding codes_of
pairs_by_codes os ps e h i j d lt within same =
    let l : length os ≡ length ps = sym (length-map os (λ o. o.code)) ∙ ap length e ∙ length-map ps (λ o. o.code) in
    sym (code_at os ps i d e) ∙ h i j d lt (omega arith) (code_at os ps i d e ∙ same ∙ sym (code_at os ps j d e))

reasons_of : (os : List Parameter) → list_any is_reason os ≡ list_any (λ c. eqb c reason) (codes_of os)
unfolding codes_of
reasons_of [] = refl
reasons_of (o ∷ os) = ap (λ t. eqb o.code reason || t) (reasons_of os)

pub reason_by_codes : (os ps : List Parameter) → codes_of os ≡ codes_of ps → list_any is_reason os ≡ list_any is_reason ps
reason_by_codes os ps e = reasons_of os ∙ ap (list_any (λ c. eqb c reason)) e ∙ sym (reasons_of ps)

pub codes_of-edited : (code : ℕ) (change : List ℕ → List ℕ) (os : List Parameter) → codes_of (edited code change os) ≡ codes_of os
unfolding codes_of edited
codes_of-edited code change [] = refl
codes_of-edited code change (o ∷ os) =
    elim (cases_Bool (eqb o.code code)) [
      | inl t ↦ rw t (ap (λ c. c ∷ codes_of (edited code change os)) (sym (eqb-true o.code code t)) ∙ ap (λ cs. o.code ∷ cs) (codes_of-edited code change os))
      | inr f ↦ rw f (ap (λ t. o.code ∷ t) (codes_of-edited code change os))
    ]

pub kind_by_codes : (is_report : Bool) (os ps : List Parameter) → list_any is_reason os ≡ list_any is_reason ps → IsNone (place_of_reason is_report 1 os) → IsNone (place_of_reason is_report 1 ps)
kind_by_codes true os ps e h =
    elim (cases_Bool (list_any is_reason ps)) [
      | inl t ↦ rw t refl
      | inr f ↦ absurd (true≢false (sym (rw (e, f) refl) ∙ h))
    ]
kind_by_codes false os ps e h = is_some-place_of is_reason 1 ps ∙ sym e ∙ sym (is_some-place_of is_reason 1 os) ∙ h

-- what an edit of a part leaves
pub record IsEdited (old new : List ℕ) (code : ℕ) (change : List ℕ → List ℕ) : Type 0 where
  pub octets : new ≡ spelled (edited code change (parameters old))
  pub options : parameters new ≡ edited code change (parameters old)
  pub well_formed : IsWellFormed new
  pub accepted : (is_report : Bool) → Accepts is_report old → Accepts is_report new

IsEdited-from : (old new : List ℕ) (code : ℕ) (change : List ℕ → List ℕ) → new ≡ spelled (edited code change (parameters old)) → AreFormed (edited code change (parameters old)) → IsEdited old new code change
IsEdited-from old new code change e formed = record {
  octets = e;
  options = ap parameters e ∙ parameters-of_spelled (edited code change (parameters old));
  well_formed = well_formed_from (edited code change (parameters old)) new (record { octets = e; formed = formed });
  accepted = λ is_report h.
      accepts_from is_report (edited code change (parameters old)) new
      (record {
        octets = e;
        formed = formed;
        kind = fits_kind_of is_report (edited code change (parameters old))
            (kind_by_codes is_report (parameters old) (edited code change (parameters old))
            (sym (reason_by_codes (edited code change (parameters old)) (parameters old) (codes_of-edited code change (parameters old))))
            (reason_fits is_report (parameters old) (spells_of is_report old h).kind));
      });
}

-- a part in which no option has the code stays as it is
pub IsEdited-absent : (part : List ℕ) (code : ℕ) (change : List ℕ → List ℕ) → IsWellFormed part → value_of code (parameters part) ≡ None → IsEdited part part code change
IsEdited-absent part code change w h =
    let e = edited-none code change (parameters part) h in
    let f = forms_of part w in
    let formed : AreFormed (edited code change (parameters part)) = rw e f.formed in
    IsEdited-from part part code change (f.octets ∙ ap spelled (sym e)) formed

-- the value of the option of this code was changed, and kept its form
pub IsEdited-at : (part : List ℕ) (code start end : ℕ) (s : StandsAt part code start end) (change : List ℕ → List ℕ) (value : List ℕ) → IsWellFormed part → code ≢ padding → value ≡ change s.value → length (change s.value) ≡ length s.value → HasForm (record { code = code; value = change s.value }) → IsEdited part (put_mid start (end - start) part value) code change
IsEdited-at part code start end s change value w n e l form =
    let old : Parameter = record { code = code; value = s.value } in
    let new : Parameter = record { code = code; value = change s.value } in
    let is : edited code change (parameters part) ≡ s.before ++ new ∷ parameters s.after = edited-at part code start end s change w n in
    let f = (forms_of part w).formed in
    let all : All HasForm (s.before ++ old ∷ parameters s.after) = let P : List Parameter → Type 0 = All HasForm in subst P s.options f.formed in
    let others : All HasForm (parameters s.after) = All-tail HasForm old (parameters s.after) (all_behind HasForm s.before (old ∷ parameters s.after) all) in
    let formed : All HasForm (s.before ++ new ∷ parameters s.after) =
    All-append HasForm s.before (new ∷ parameters s.after) (all_front HasForm s.before (old ∷ parameters s.after) all) (All-cons HasForm new (parameters s.after) form others) in
    IsEdited-from part (put_mid start (end - start) part value) code change
    (octets-edited part code start end s change value w n e l)
    (record {
      formed = let P : List Parameter → Type 0 = All HasForm in subst P (sym is) formed;
      distinct = pairs_by_codes (parameters part) (edited code change (parameters part)) (sym (codes_of-edited code change (parameters part))) f.distinct;
    })

-- the three edits
pub marked_part : (part : List ℕ) (start end : ℕ) (value : List ℕ) → StandsAt part quality start end → IsWellFormed part → value ≡ marked (take (end - start) (drop start part)) → IsEdited part (put_mid start (end - start) part value) quality marked
marked_part part start end value s w e =
    let n : quality ≢ padding = λ (k : quality ≡ padding). absurd (omega arith) in
    let form = (form_at part quality start end s w).quality_form refl in
    IsEdited-at part quality start end s marked value w n (e ∙ ap marked (value_at part quality start end s)) (length-marked s.value) (quality_form_of (marked s.value) (marked_form s.value form))

pub route_at : (part : List ℕ) (start end : ℕ) → StandsAt part source_route start end → IsWellFormed part → IsSourceRoute (take (end - start) (drop start part))
route_at part start end s w =
    let P : List ℕ → Type 0 = IsSourceRoute in
    subst P (sym (value_at part source_route start end s)) ((form_at part source_route start end s w).source_route_form refl)

pub recording_at : (part : List ℕ) (start end : ℕ) → StandsAt part recording start end → IsWellFormed part → IsRecording (take (end - start) (drop start part))
recording_at part start end s w =
    let P : List ℕ → Type 0 = IsRecording in
    subst P (sym (value_at part recording start end s)) ((form_at part recording start end s w).recording_form refl)

-- the route's title is where the part leads
pub target_of-at : (part : List ℕ) (start end : ℕ) → StandsAt part source_route start end → title_at (take (end - start) (drop start part)) ≡ target_of (parameters part)
unfolding target_of
target_of-at part start end s =
    ap title_at (value_at part source_route start end s) ∙ sym (ap (option_and_then title_at) (value_of-at part source_route start end s))

pub target_of-none : (part : List ℕ) → value_of source_route (parameters part) ≡ None → None ≡ target_of (parameters part)
unfolding target_of
target_of-none part e = sym (ap (option_and_then title_at) e)

-- the route's kind is the part's
pub complete_of-at : (part : List ℕ) (start end : ℕ) → StandsAt part source_route start end → (get_or (take (end - start) (drop start part)) 0 0 == 1) ≡ is_complete (parameters part)
complete_of-at part start end s =
    ap (λ v. get_or v 0 0 == 1) (value_at part source_route start end s)
    ∙ sym (ap (λ o. option_map_or (λ value. get_or value 0 0 == 1) o false) (value_of-at part source_route start end s))

pub complete_of-none : (part : List ℕ) → value_of source_route (parameters part) ≡ None → false ≡ is_complete (parameters part)
complete_of-none part e = sym (ap (λ o. option_map_or (λ value. get_or value 0 0 == 1) o false) e)

pub target_leads : (part : List ℕ) (start end : ℕ) → StandsAt part source_route start end → IsSome (target_of (parameters part)) → pointer_of (take (end - start) (drop start part)) ≤ length (take (end - start) (drop start part))
target_leads part start end s h =
    title_at-leads (take (end - start) (drop start part)) (ap is_some (target_of-at part start end s) ∙ h)

pub advanced_part : (part : List ℕ) (start end : ℕ) (value : List ℕ) → StandsAt part source_route start end → IsWellFormed part → IsSome (target_of (parameters part)) → value ≡ advanced (take (end - start) (drop start part)) → IsEdited part (put_mid start (end - start) part value) source_route advanced
advanced_part part start end value s w target e =
    let n : source_route ≢ padding = λ (k : source_route ≡ padding). absurd (omega arith) in
    let here = value_at part source_route start end s in
    let within : pointer_of s.value ≤ length s.value = let P : List ℕ → Type 0 = λ v. pointer_of v ≤ length v in subst P here (target_leads part start end s target) in
    IsEdited-at part source_route start end s advanced value w n (e ∙ ap advanced here) (length-advanced s.value)
    (route_form_of (advanced s.value) (advanced_form s.value ((form_at part source_route start end s w).source_route_form refl) within))

pub recorded_part : (part : List ℕ) (start end : ℕ) (title value : List ℕ) → StandsAt part recording start end → IsWellFormed part → IsTitle title → value ≡ recorded title (take (end - start) (drop start part)) → IsEdited part (put_mid start (end - start) part value) recording (recorded title)
recorded_part part start end title value s w it e =
    let n : recording ≢ padding = λ (k : recording ≡ padding). absurd (omega arith) in
    let form = (form_at part recording start end s w).recording_form refl in
    IsEdited-at part recording start end s (recorded title) value w n (e ∙ ap (recorded title) (value_at part recording start end s)) (length-recorded title s.value form) (recording_form_of (recorded title s.value) (recorded_form title s.value form it))
