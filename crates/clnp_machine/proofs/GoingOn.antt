-- By which way a packet goes on, behind which the source route doesn't lead to the router itself; and when a redirect follows it.
use Rattle.std.proofs.Common.{◌≡◌, ◌≢◌, ◌∙◌, refl, sym, ap, subst, ℕ, zero, suc, ◌+◌, ◌-◌, ◌≤◌, ◌⊎◌, inl, inr, Bool, true, false, List, [], ◌∷◌, ◌++◌, length, length-append, map, Option, None, Some, arith}
use Rattle.std.specs.Prelude.{◌==◌, ◌&&◌, not, is_none, if◌then◌else◌, IsSome, option_map}
use Rattle.std.specs.Option.{option_map_or}
use Rattle.std.specs.List.{AllByRecursion, filter, list_any}
use Rattle.std.specs.Str.{bytes_eq}
use Rattle.std.proofs.lemmas.Bool.{and_from, and_parts, both_ways, cases_Bool, eqb-false, ne_eqb, not-true, not_from_false}
use Rattle.std.proofs.lemmas.Option.{same_Some}
use Rattle.clnp_plan.proofs.ClnpBase.Choices.{equal_is, is_equal, none_is}
use Rattle.clnp_plan.proofs.ClnpBase.Lists.{AllByRecursion-append, AllByRecursion-map_any}
use Rattle.clnp_plan.proofs.ClnpBase.SameOctets.{same-itself, same_from, same_from_equal}
use Rattle.clnp_plan.specs.Pdus.declared.nsap.target.Target.TheVariants.{System}
use Rattle.clnp_plan.specs.ClnpOptions.Edits.{advanced, edited, is_complete, pointer_of, recorded, route_left, target_of, value_of}
use Rattle.clnp_plan.specs.ClnpOptions.Grammar.{AreFormed}
use Rattle.clnp_plan.specs.ClnpOptions.Parameter.{Parameter, recording, source_route, spelled, spelling}
use Rattle.clnp_plan.specs.PduHeader.Value.{SegmentationPart}
use Rattle.clnp_plan.specs.SystemTables.declared.esis_tables.fact.Neighbour.{Neighbour}
use Rattle.clnp_plan.specs.SystemTables.declared.esis_tables.fact.TableKind.TheVariants.{Es}
use Rattle.clnp_plan.specs.EsisTables.NextHop.{current_neighbour}
use Rattle.clnp_machine.specs.Unit.{Packet, IsCarriable, segmentation_of, value_of as pdu_of}
use Rattle.clnp_machine.specs.Content.{Labelled}
use Rattle.clnp_machine.specs.System.{SystemState, Output, Transmits, SendsEsis, Effect}
use Rattle.clnp_machine.specs.Esis.{redirect, title_of}
use Rattle.clnp_machine.specs.Local.{discard}
use Rattle.clnp_machine.specs.Step.{Way, begins_unit, discards, ends_at, hop_by, is_at, is_named, is_redirected, most_titles, noting_congestion, options_behind, passes_by, passing_own, redirects, towards, transmissions, way_of}
use Rattle.clnp_plan.specs.declared.config.Role.TheVariants.{Router}
use Rattle.clnp_machine.specs.EditLaws.{RouteLaws}
use Rattle.clnp_machine.specs.EveryStep.{sends_esis}
use Rattle.clnp_machine.specs.Ways.{BeginsWithDiscard, CallsForRedirect, GoesItsWay, SendsItsWay, aim_of}
use Rattle.clnp_machine.proofs.Answering.{NonePasses, deeds_silent, none_before, none_left, pieces_silent}
use Rattle.clnp_machine.proofs.Headers.{header_length-is}
use Rattle.clnp_machine.proofs.Passing.{IsItsWay, going, goes_on_does, redirects_are}

-- Titles.

named_title : (s : SystemState) (found : Option (List ℕ)) → is_named s found ≡ true → found ≡ Some (title_of s)
named_title s None e = absurd (cc)
named_title s (Some title) e = ap Some (same_from title (title_of s) e)

ends_title : (address : List ℕ) (found : Option (List ℕ)) → ends_at address found ≡ true → (title : List ℕ) → found ≡ Some title → title ≡ address
ends_title address None e title is = absurd (cc)
ends_title address (Some other) e title is =
    let same : other ≡ title = same_Some other title is in
    sym same ∙ same_from other address e

-- the second of two tests holds where the first does, and not the first without it
second_holds : (first second : Bool) → first ≡ true → (first && not second) ≡ false → second ≡ true
second_holds true true h e = refl
second_holds true false h e = absurd (cc)
second_holds false second h e = absurd (cc)

-- The router's own title isn't at the pointer behind it.

-- no value has more octets than all options
value_short : (code : ℕ) (options : List Parameter) (value : List ℕ) → value_of code options ≡ Some value → length value ≤ length (spelled options)
unfolding value_of spelled
value_short code [] value e = absurd (cc)
value_short code (option ∷ others) value e = go (value_short code others value) (option.code == code) e
  where
    go : (value_of code others ≡ Some value → length value ≤ length (spelled others)) → (test : Bool)
        → (if test then Some option.value else value_of code others) ≡ Some value → length value ≤ length (spelling option ++ spelled others)
    go shorter true h =
        let same : option.value ≡ value = same_Some option.value value h in
        omega (arith, ap length same, length-append (spelling option) (spelled others))
    go shorter false h = omega (arith, shorter h, length-append (spelling option) (spelled others))

left_within : (found : Option (List ℕ)) (most : ℕ) → ((value : List ℕ) → found ≡ Some value → length value ≤ most)
    → option_map_or (λ (value : List ℕ). length value + 1 - pointer_of value) found 0 ≤ most + 1
left_within None most h = omega arith
left_within (Some value) most h = let few = h value refl in omega arith

module _ (laws : RouteLaws) (s : SystemState) where
  none_there : (options : List Parameter) → AreFormed options → route_left options ≤ 0 → (found : Option (List ℕ)) → target_of options ≡ found
      → is_named s found ≡ false
  none_there options formed few None e = refl
  none_there options formed few (Some title) e =
      let less = laws.left options formed (subst IsSome (sym e) refl) in absurd (omega arith)

  is_some_named : (found : Option (List ℕ)) → is_named s found ≡ true → IsSome found
  is_some_named None e = absurd (cc)
  is_some_named (Some title) e = refl

  -- with so many octets of the route left, as many passes are enough
  passed_enough : (most : ℕ) (options : List Parameter) → AreFormed options → route_left options ≤ most
      → is_named s (target_of (passing_own most s options)) ≡ false
  passed_enough zero options formed few = none_there options formed few (target_of options) refl
  passed_enough (suc most) options formed few =
      let deeper : List Parameter = edited source_route advanced options in
      elim (cases_Bool (is_named s (target_of options))) [
        | inl named ↦
            let some = is_some_named (target_of options) named in
            let less = laws.left options formed some in
            rw named (passed_enough most deeper (laws.formed options formed some) (omega arith))
        | inr other ↦ rw other other
      ]

  congestion_led : (congested : Bool) (options : List Parameter) → target_of (noting_congestion congested options) ≡ target_of options
  congestion_led true options = laws.marked _ options
  congestion_led false options = refl

  pub led_elsewhere : (p : Packet) → IsCarriable p → (title : List ℕ) → target_of (options_behind s p.options) ≡ Some title → title ≢ title_of s
  led_elsewhere p carriable title led same =
      let options = p.options in
      let formed : AreFormed options = carriable.pdu.options in
      let size = header_length-is (pdu_of p) in
      let fits = carriable.pdu.header_fits in
      let short : length (spelled options) ≤ 254 = omega arith in
      let few : route_left options ≤ 255 = left_within (value_of source_route options) 254
      (λ value e. let within = value_short source_route options value e in omega arith) in
      let passed = passing_own most_titles s options in
      let noted = edited recording (recorded (title_of s)) passed in
      let leads : target_of (options_behind s options) ≡ target_of passed = congestion_led s.congested noted ∙ laws.recorded (recorded (title_of s)) passed in
      let there : target_of passed ≡ Some title = sym leads ∙ led in
      both_ways (bytes_eq title (title_of s)) (ap (is_named s) (sym there) ∙ passed_enough most_titles options formed few) (same_from_equal title (title_of s) same)

-- The way.

module _ (s : SystemState) (came : Neighbour) (p : Packet) (following : List ℕ) where
  pub its_way : (way : Way) → IsItsWay s p way → GoesItsWay s p way.neighbour.port (System way.neighbour.snpa)
  its_way way is = record {
    way = way;
    known = is.known;
    by_port = refl;
    to = refl;
    named = λ complete.
        named_title s (target_of p.options) (second_holds (is_complete p.options) (is_named s (target_of p.options)) complete is.on_route);
    ends = λ complete.
        ends_title (aim_of s p) way.title (second_holds (is_complete (options_behind s p.options)) (ends_at (aim_of s p) way.title) complete is.ends);
  }

  abbrev GoesOrIsDiscarded : List Output → Type 0
  GoesOrIsDiscarded outputs = AllByRecursion (SendsItsWay s p) outputs ⊎ BeginsWithDiscard outputs

  pub goes_its_way : GoesOrIsDiscarded (passes_by Router s came p following).outputs
  goes_its_way =
      goes_on_does (λ (effect : Effect). GoesOrIsDiscarded effect.outputs) s came p following (λ reason of_none. inr tt)
      (λ way port pieces there alive gives known.
      let options = options_behind s p.options in
      inl (AllByRecursion-append (SendsItsWay s p) (transmissions (hop_by way) (Some pieces)) (redirects s came p options way)
      (AllByRecursion-map_any (SendsItsWay s p) (λ piece. Transmits way.neighbour.port (System way.neighbour.snpa) piece) pieces (λ piece. its_way way known))
      (redirects_are (SendsItsWay s p) s came p options way (λ none. tt))))

-- Redirects.

any_none : (passes : Output → Bool) (outputs : List Output) → NonePasses passes outputs → list_any passes outputs ≡ false
any_none passes [] none = refl
any_none passes (output ∷ outputs) none = rw none.0 (any_none passes outputs none.1)

any_behind : (passes : Output → Bool) (front more : List Output) → NonePasses passes front → list_any passes (front ++ more) ≡ list_any passes more
any_behind passes [] more none = refl
any_behind passes (output ∷ front) more none = rw none.0 (any_behind passes front more none.1)

any_one : (test : Bool) (output : Output) → sends_esis output ≡ true → list_any sends_esis (if test then output ∷ [] else []) ≡ test
any_one true output e = rw e refl
any_one false output e = refl

unit_begins : (identifier : Option ℕ) (offset total : ℕ)
    → begins_unit (option_map (λ (i : ℕ). let part : SegmentationPart = record { identifier = i; offset = offset; total = total } in part) identifier) ≡ true
    → (identifier ≡ None) ⊎ (offset ≡ 0)
unit_begins None offset total e = inl refl
unit_begins (Some identifier) offset total e = inr (is_equal offset 0 e)

begins_its_unit : (identifier : Option ℕ) (offset total : ℕ) → (identifier ≡ None) ⊎ (offset ≡ 0)
    → begins_unit (option_map (λ (i : ℕ). let part : SegmentationPart = record { identifier = i; offset = offset; total = total } in part) identifier) ≡ true
begins_its_unit None offset total h = refl
begins_its_unit (Some identifier) offset total (inl none) = absurd (cc)
begins_its_unit (Some identifier) offset total (inr first) = equal_is offset 0 first

same_place : (a b : Neighbour) → a.port ≡ b.port → a.snpa ≡ b.snpa → a ≡ b
same_place a b port snpa = λ i. record { port = port i; snpa = snpa i }

near_it : (came : Neighbour) (found : Option Neighbour) → is_at came found ≡ true → found ≡ Some came
near_it came None e = absurd (cc)
near_it came (Some known) e =
    let parts = and_parts (known.port == came.port) (bytes_eq known.snpa came.snpa) e in
    ap Some (same_place known came (is_equal known.port came.port parts.0) (same_from known.snpa came.snpa parts.1))

at_itself : (came : Neighbour) → is_at came (Some came) ≡ true
at_itself came = and_from (came.port == came.port) (bytes_eq came.snpa came.snpa) (equal_is came.port came.port refl) (same-itself came.snpa)

module _ (s : SystemState) (came : Neighbour) (p : Packet) where
  abbrev options : List Parameter
  options = options_behind s p.options

  abbrev near : Option Neighbour
  near = current_neighbour s.moment Es p.unit.source s.facts

  abbrev better : Way → Output
  better way = SendsEsis came.port (System came.snpa) (redirect s p.unit.destination way.neighbour.snpa way.title)

  -- without a title in its route its aim is its destination
  aims : (way : Way) → IsItsWay s p way → target_of options ≡ None → way_of s p.unit.destination ≡ Some way
  aims way is unled = ap (λ (title : Option (List ℕ)). way_of s (towards p.unit.destination title)) (sym unled) ∙ is.known

  pieces_begin : (way : Way) (pieces : List Packet) (more : List Output) → ¬ (BeginsWithDiscard more)
      → ¬ (BeginsWithDiscard (map (λ piece. Transmits way.neighbour.port (System way.neighbour.snpa) piece) pieces ++ more))
  pieces_begin way [] more h = h
  pieces_begin way (piece ∷ pieces) more h = λ k. k

  redirect_begins : (way : Way) (test : Bool) → ¬ (BeginsWithDiscard (if test then better way ∷ [] else []))
  redirect_begins way true = λ k. k
  redirect_begins way false = λ k. k

  calls_for : (way : Way) (pieces : List Packet) → IsItsWay s p way → is_redirected s came p options way ≡ true
      → CallsForRedirect s came p (going s came p options way pieces)
  calls_for way pieces is e =
      let first = and_parts (not (s.configuration.settings.rhold == 0))
      ((way.neighbour.port == came.port) && (is_none (target_of options) && (begins_unit (segmentation_of p) && is_at came near))) e in
      let second = and_parts (way.neighbour.port == came.port) (is_none (target_of options) && (begins_unit (segmentation_of p) && is_at came near)) first.1 in
      let third = and_parts (is_none (target_of options)) (begins_unit (segmentation_of p) && is_at came near) second.1 in
      let fourth = and_parts (begins_unit (segmentation_of p)) (is_at came near) third.1 in
      let unled : target_of options ≡ None = none_is (target_of options) third.0 in
      record {
        goes_on = pieces_begin way pieces (redirects s came p options way) (redirect_begins way (is_redirected s came p options way));
        unled = unled;
        way = way;
        known = aims way is unled;
        back = is_equal way.neighbour.port came.port second.0;
        begins = unit_begins p.unit.identifier p.offset p.unit.total fourth.0;
        near = near_it came near fourth.1;
        held = eqb-false s.configuration.settings.rhold 0 (not-true (s.configuration.settings.rhold == 0) first.0);
      }

  -- such a redirect is that of the way
  calls_by_way : (way : Way) → IsItsWay s p way → is_redirected s came p options way ≡ true → way_of s p.unit.destination ≡ Some way
  calls_by_way way is e = aims way is (calls_for way [] is e).unled

  called_for : (way : Way) (outputs : List Output) → IsItsWay s p way → CallsForRedirect s came p outputs → is_redirected s came p options way ≡ true
  called_for way outputs is calls =
      let same : calls.way ≡ way = same_Some calls.way way (sym calls.known ∙ aims way is calls.unled) in
      let back : way.neighbour.port ≡ came.port = subst (λ (w : Way). w.neighbour.port ≡ came.port) same calls.back in
      and_from (not (s.configuration.settings.rhold == 0))
      ((way.neighbour.port == came.port) && (is_none (target_of options) && (begins_unit (segmentation_of p) && is_at came near)))
      (not_from_false (s.configuration.settings.rhold == 0) (ne_eqb s.configuration.settings.rhold 0 calls.held))
      (and_from (way.neighbour.port == came.port) (is_none (target_of options) && (begins_unit (segmentation_of p) && is_at came near))
      (equal_is way.neighbour.port came.port back)
      (and_from (is_none (target_of options)) (begins_unit (segmentation_of p) && is_at came near) (ap is_none calls.unled)
      (and_from (begins_unit (segmentation_of p)) (is_at came near) (begins_its_unit p.unit.identifier p.offset p.unit.total calls.begins)
      (ap (is_at came) calls.near ∙ at_itself came))))

  -- where a packet goes on in pieces
  redirect_follows : (way : Way) (pieces : List Packet) → list_any sends_esis (going s came p options way pieces) ≡ is_redirected s came p options way
  redirect_follows way pieces =
      any_behind sends_esis (transmissions (hop_by way) (Some pieces)) (redirects s came p options way) (pieces_silent (hop_by way) pieces)
      ∙ any_one (is_redirected s came p options way) (better way) refl

  module _ (following : List ℕ) where
    discard_silent : (reason : ℕ) → NonePasses sends_esis (discards s p following reason).outputs
    discard_silent reason =
        let deed = discard s (Labelled p following) reason 0 in deeds_silent deed.after deed.actions

    abbrev SentWhereCalled : List Output → Type 0
    SentWhereCalled outputs =
        (list_any sends_esis outputs ≡ true → CallsForRedirect s came p outputs) × (CallsForRedirect s came p outputs → list_any sends_esis outputs ≡ true)

    pub redirects_where_called : SentWhereCalled (passes_by Router s came p following).outputs
    redirects_where_called =
        goes_on_does (λ (effect : Effect). SentWhereCalled effect.outputs) s came p following
        (λ reason of_none. (
          λ sent. absurd (both_ways _ (any_none sends_esis (discards s p following reason).outputs (discard_silent reason)) sent),
          λ calls. absurd (calls.goes_on tt),
        ))
        (λ way port pieces there alive gives known. (
          λ sent. calls_for way pieces known (sym (redirect_follows way pieces) ∙ sent),
          λ calls. redirect_follows way pieces ∙ called_for way (going s came p options way pieces) known calls,
        ))

    -- which redirect is sent, if any is
    abbrev TellsBetter : List Output → Type 0
    TellsBetter outputs =
        (way : Way) → way_of s p.unit.destination ≡ Some way → (filter sends_esis outputs ≡ []) ⊎ (filter sends_esis outputs ≡ better way ∷ [])

    better_follows : (way known : Way) → way_of s p.unit.destination ≡ Some known → (test : Bool)
        → (test ≡ true → way_of s p.unit.destination ≡ Some way)
        → (filter sends_esis (if test then better way ∷ [] else []) ≡ []) ⊎ (filter sends_esis (if test then better way ∷ [] else []) ≡ better known ∷ [])
    better_follows way known is false h = inl refl
    better_follows way known is true h =
        inr (ap (λ (w : Way). better w ∷ []) (same_Some way known (sym (h refl) ∙ is)))

    pub redirects_to_better : TellsBetter (passes_by Router s came p following).outputs
    redirects_to_better =
        goes_on_does (λ (effect : Effect). TellsBetter effect.outputs) s came p following
        (λ reason of_none way known. inl (none_left sends_esis (discards s p following reason).outputs (discard_silent reason)))
        (λ way port pieces there alive gives its known is.
        let front = transmissions (hop_by way) (Some pieces) in
        subst (λ (sent : List Output). (sent ≡ []) ⊎ (sent ≡ better known ∷ []))
        (sym (none_before sends_esis front (redirects s came p options way) (pieces_silent (hop_by way) pieces)))
        (better_follows way known is (is_redirected s came p options way) (calls_by_way way its)))
