-- Settling, delivering and losing copies.
use Rattle.clnp_machine.proofs.ClnpBase.Lists.{AllByRecursion-slice_get, slice_get_some}
use Rattle.clnp_machine.proofs.ClnpBase.ListSteps.{slice_get_map}
use Rattle.std.proofs.Common.{◌≡◌, ◌∙◌, ◌≤◌, ℕ, List, ◌+◌, false, refl, sym, ap, subst, arith, Contains}
use Rattle.std.specs.Prelude.{slice_get, Option, None, Some}
use Rattle.std.proofs.lemmas.Option.{slice_get_within}
use Rattle.clnp_machine.specs.ScenarioPlan.Plan.{Plan, IsFit}
use Rattle.clnp_machine.specs.SystemTables.declared.esis_tables.fact.Neighbour.{Neighbour}
use Rattle.clnp_machine.specs.ClnpPlan.Journal.{Line}
use Rattle.clnp_machine.specs.Unit.{Maker, Packet}
use Rattle.clnp_machine.specs.Content.{Content, Labelled, Esis, Unlabelled}
use Rattle.clnp_machine.specs.EveryStep.{IsRangeOf}
use Rattle.clnp_machine.specs.System.{SystemState, Input}
use Rattle.clnp_machine.specs.Step.{step}
use Rattle.clnp_machine.specs.ClnpNetwork.LabelledNetwork.{LabelledNetwork, Copy, Numbered, Step, clock_at, clock_of, first_port, is_group, is_late, frame_to, takes_effect, addressees_from, settle_copy, settle_one, deliver, lose_copy, lose_one}
use Rattle.clnp_machine.specs.ClnpNetwork.Clocks.{clocks_of}
use Rattle.clnp_machine.specs.ClnpNetwork.Run.{Entry}
use Rattle.clnp_machine.specs.ClnpNetwork.Safe.{ReportsStand}
use Rattle.clnp_safety.specs.Invariant.{Carries, CopyIsSound, IsBornWithUnit, WorldIsSound}
use Rattle.clnp_safety.specs.Outside.{IsMadeBy}
use Rattle.clnp_safety.specs.StepLaws.{StepLaws}
use Rattle.clnp_safety.proofs.Lines.{LineIs}
use Rattle.clnp_safety.proofs.Steps.{copy_there, Keeps, GivingIsFine, keeps-map, keeps-nothing, keeps-give_each, keeps-settle_for, keeps-deliver}
use Rattle.clnp_safety.proofs.BufferOffers.{ComesInTime, unit_sound}
use Rattle.clnp_safety.proofs.Effects.{IsSoundWith, notes_are_steady, step_keeps}
use Rattle.clnp_safety.proofs.Arriving.{ContentInTime, arrival_is_sound}
use Rattle.clnp_safety.proofs.Moves.{IsSoundSince, sound_since, sound_since_with}
use Rattle.clnp_safety.proofs.Units.{copy_later}
use Rattle.clnp_safety.proofs.Honest.{ComesSoundly, NoteIsSteady}

-- the clock of a system is as in a network
abbrev HasClockOf : LabelledNetwork → (place : ℕ) → SystemState → Type 0
HasClockOf w place s = slice_get (clocks_of w) place ≡ Some s.moment

module _ (laws : StepLaws) (plan : Plan) (fit : IsFit plan) (past : List Entry) (w : LabelledNetwork) (h : WorldIsSound plan past w)
    (stood : ReportsStand w) where
  -- what the worlds of a settling keep: all clocks are as before, too
  abbrev Sound : LabelledNetwork → Type 0
  Sound = IsSoundWith plan past w (HasClockOf w)

  here : Sound w
  here =
      sound_since_with plan past w (HasClockOf w) h
      (λ place s there. slice_get_map (λ (system : SystemState). system.moment) w.systems place s there)

  -- what its lines are
  abbrev Told : Line → Type 0
  Told = LineIs (NoteIsSteady plan past w)

  fine : GivingIsFine Told
  fine = record {
    void = λ moment name copy. tt;
    late = λ moment name copy. tt;
    received = λ moment name copy port. tt;
    lost = λ moment copy. tt;
    nobody = λ moment copy. tt;
  }

  -- A packet of a copy that isn't late comes in time: its unit's maker is a system whose clock the copy isn't too old for.
  packet_in_time : (v : LabelledNetwork) → Sound v → (place : ℕ) (s : SystemState) → HasClockOf w place s → (p : Packet) → Contains w.units p.unit
      → clock_of v p.unit.maker ≤ p.unit.made + plan.limits.age → ComesInTime plan v.units s.moment p
  packet_in_time v k place s at p made young =
      let it = unit_sound plan past w.units p.unit h.made made in
      let within = slice_get_within plan.systems it.place it.owner.system it.owner.there in
      let number = k.stands.number in
      let maker = slice_get_some v.systems it.place (omega arith) in
      let there = k.stands.each it.place maker.0 maker.1 in
      let clock : clock_of v p.unit.maker ≡ maker.0.moment = ap (clock_of v) it.maker ∙ ap (clock_at v.clock) maker.1 in
      record {
        there = maker.0.moment;
        near = h.together place it.place s.moment maker.0.moment at there.also;
        far = h.together it.place place maker.0.moment s.moment there.also at;
        until = λ u has same. (there.stands.sound.accounted u has (same ∙ it.maker)).made;
        young = subst (λ now. now ≤ p.unit.made + plan.limits.age) clock young;
      }

  content_in_time : (v : LabelledNetwork) → Sound v → (place : ℕ) (s : SystemState) → HasClockOf w place s → (maker : Maker) (birth : ℕ) (content : Content)
      → Carries (IsRangeOf w.units) content → IsMadeBy maker content → IsBornWithUnit birth content → clock_of v maker ≤ birth + plan.limits.age
      → ContentInTime plan v.units s.moment content
  content_in_time v k place s at maker birth (Labelled p following) carries by born soon =
      packet_in_time v k place s at p carries.0.unit
      (subst (λ moment. clock_of v p.unit.maker ≤ moment + plan.limits.age) born (subst (λ m. clock_of v m ≤ birth + plan.limits.age) by soon))
  content_in_time v k place s at maker birth (Esis value following) carries by born soon = tt
  content_in_time v k place s at maker birth (Unlabelled octets) carries by born soon = tt

  is_soon : (copy : Copy) (v : LabelledNetwork) → is_late plan.limits v copy ≡ false → clock_of v copy.maker ≤ copy.birth + plan.limits.age
  is_soon copy v soon = grind arith

  -- a system takes in a copy that was there before the move
  taken_is_sound : (copy : Copy) → CopyIsSound w.units copy → (v : LabelledNetwork) (place : ℕ) → Sound v → (s : SystemState)
      → slice_get v.systems place ≡ Some s → is_late plan.limits v copy ≡ false
      → Keeps Sound Told (takes_effect v place (step s (frame_to s copy)))
  taken_is_sound copy carries v place k s there soon =
      let it = k.stands.each place s there in
      let from : Neighbour = record { port = first_port copy s.configuration.role s.attached.ports; snpa = copy.sender } in
      let input : Input = frame_to s copy in
      let now : CopyIsSound v.units copy = subst (λ us. CopyIsSound us copy) (sym k.front.1) (copy_later w.units k.front.0 copy carries) in
      let comes : ComesSoundly v.units input = (now.sender, now.carries, now.carried) in
      let done = arrival_is_sound laws plan fit past w h stood v.units k.front k.made place s it.stands.sound it.stands.pending
      from (is_group copy.target) copy.content carries.sender carries.carries carries.carried
      (content_in_time v k place s it.also copy.maker copy.birth copy.content carries.carries carries.maker carries.birth (is_soon copy v soon)) in
      step_keeps laws plan fit past w (NoteIsSteady plan past w) (HasClockOf w) (HasClockOf w) v place s input it.stands tt comes done
      (λ other t apart at. at) (it.also ∙ ap Some (sym (laws.steps.moment s input)))
      (notes_are_steady laws plan fit past w s.configuration.name s input done.notes tt) k

  -- the world with another cursor
  at_cursor : (next : ℕ) → Sound (record w { cursor = next })
  at_cursor next =
      let k = here in
      record {
        made = k.made;
        front = k.front;
        stands = record { made = refl; copies = k.stands.copies; number = k.stands.number; each = k.stands.each; mtus = k.stands.mtus };
      }

  settle_copy_is_sound : (found : Option Copy) → ((copy : Copy) → found ≡ Some copy → CopyIsSound w.units copy)
      → Keeps Sound Told (settle_copy plan.limits w found)
  settle_copy_is_sound None carries = keeps-nothing Sound Told w here
  settle_copy_is_sound (Some copy) carries =
      let given : Numbered = record { number = w.cursor + 1; copy = copy } in
      let places = addressees_from 0 copy w.systems in
      keeps-settle_for Sound Told fine plan.limits given (record w { cursor = w.cursor + 1 }) places
      (keeps-give_each Sound Told fine plan.limits given places (taken_is_sound copy (carries copy refl))
      (record w { cursor = w.cursor + 1 }) (at_cursor (w.cursor + 1)))

  copy_is_sound : (at : ℕ) (copy : Copy) → slice_get w.copies at ≡ Some copy → CopyIsSound w.units copy
  copy_is_sound at copy e = AllByRecursion-slice_get (CopyIsSound w.units) w.copies at copy e h.copies

  -- the clocks are forgotten
  since : (taken : Step) → Keeps Sound Told taken → Keeps (IsSoundSince plan past w) Told taken
  since taken kept = keeps-map Sound (IsSoundSince plan past w) Told taken (λ v k. sound_since plan past w v (HasClockOf w) k) kept

  pub settle_one_is_sound : Keeps (IsSoundSince plan past w) Told (settle_one plan.limits w)
  settle_one_is_sound = since (settle_one plan.limits w) (settle_copy_is_sound (slice_get w.copies w.cursor) (copy_is_sound w.cursor))

  -- the copy with a number is given to one system, or isn't there for it
  pub deliver_is_sound : (number place : ℕ) → Keeps (IsSoundSince plan past w) Told (deliver plan.limits w number place)
  deliver_is_sound number place =
      since (deliver plan.limits w number place)
      (keeps-deliver Sound Told fine plan.limits w number place here
      (λ copy e s there soon.
      let found = copy_there number w.copies copy e in taken_is_sound copy (copy_is_sound found.0 copy found.1) w place here s there soon))

  lose_copy_is_sound : (found : Option Copy) → Keeps Sound Told (lose_copy w found)
  lose_copy_is_sound None = keeps-nothing Sound Told w here
  lose_copy_is_sound (Some copy) = record { world = at_cursor (w.cursor + 1); lines = (tt, tt) }

  -- a copy is passed over
  pub lose_one_is_sound : Keeps (IsSoundSince plan past w) Told (lose_one w)
  lose_one_is_sound = since (lose_one w) (lose_copy_is_sound (slice_get w.copies w.cursor))
