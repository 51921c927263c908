-- A step of a system that is asked nothing keeps a world sound: what it makes is founded on what came, and what it sends and notes
-- is as it should be.
use Rattle.clnp_machine.proofs.ClnpBase.Lists.{AllByRecursion-append, AllByRecursion-both, AllByRecursion-contains, AllByRecursion-implies, AllByRecursion-mapped}
use Rattle.std.proofs.Common.{◌≡◌, ◌≢◌, ◌⊎◌, ◌∙◌, sym, ap, subst, ℕ, inl, inr, List, [], ◌∷◌, ◌++◌, length, map}
use Rattle.std.specs.List.{AllByRecursion}
use Rattle.std.proofs.lemmas.List.Elements.{Contains-append_cases}
use Rattle.clnp_machine.specs.Pdus.declared.pdu_header.kind.Kind.{Kind}
use Rattle.clnp_machine.specs.Pdus.declared.pdu_header.kind.Kind.TheVariants.{Er, Erq, Erp}
use Rattle.clnp_machine.specs.ScenarioPlan.Plan.{IsFit, Plan}
use Rattle.clnp_machine.specs.ClnpPlan.Configuration.{SystemConfiguration}
use Rattle.clnp_machine.specs.ClnpPlan.declared.note.Note.{Note}
use Rattle.clnp_machine.specs.Reassembly.Arrival.{Arrival}
use Rattle.clnp_machine.specs.Reassembly.Buffer.{Buffer}
use Rattle.clnp_machine.specs.Unit.{DataUnit, DeclaredAt, Packet}
use Rattle.clnp_machine.specs.Content.{Labelled, Esis, Unlabelled}
use Rattle.clnp_machine.specs.System.{SystemState, Input, AsksToSend, AsksForEcho, FrameComes, Output, Transmits, SendsEsis, Notes, Effect}
use Rattle.clnp_machine.specs.Local.{IsAsOffered}
use Rattle.clnp_machine.specs.Step.{step}
use Rattle.clnp_machine.specs.EveryStep.{GoesOnOf, IsAtHand, IsFair, IsFresh, IsMadeFor, IsNoRestart, IsRangeOf, KeepsAsOffered, NotesOnly, ReportsOn, RestartsNothing, SendsCarriable, SendsEsisPdus, SendsRangesOrGoesOn, WasPendingOrMade, moment_after, segments_in}
use Rattle.clnp_machine.specs.Told.{SpellsPdus}
use Rattle.clnp_machine.specs.ClnpNetwork.Run.{Entry}
use Rattle.clnp_machine.specs.ClnpNetwork.LabelledNetwork.{LabelledNetwork, takes_effect}
use Rattle.clnp_safety.specs.Growth.{IsFront}
use Rattle.clnp_safety.specs.Invariant.{BufferIsSound, EachRests, IsMadeOn, IsOfUnit, IsPending, SystemIsSound, SystemStands, UnitIsSound, UnitsAreSound}
use Rattle.clnp_safety.specs.StepLaws.{StepLaws}
use Rattle.clnp_safety.proofs.Deeds.{RepliesInOctets}
use Rattle.clnp_safety.proofs.Grows.{front-more}
use Rattle.clnp_safety.proofs.Hellos.{EffectIsSound}
use Rattle.clnp_safety.proofs.Lines.{LineIs}
use Rattle.clnp_safety.proofs.Opens.{configured}
use Rattle.clnp_safety.proofs.Outputs.{Stands, takes_effect_stands}
use Rattle.clnp_safety.proofs.SendAsked.{own_address}
use Rattle.clnp_safety.proofs.Steps.{Keeps}
use Rattle.clnp_safety.proofs.Units.{buffer_later, packet_goes_on, range_sooner, range_later, units_with}
use Rattle.clnp_safety.proofs.Honest.{AsksNothing, ComesSoundly, NoteIsHonest, NoteIsSteady, OutputIsSound}

-- What a step gives out is sound, where its notes are: what it sends is of units that are made in it, or of that of the packet
-- that came.

range_goes_on : StepLaws → (units : List DataUnit) (s : SystemState) (port : ℕ) (input : Input) (p : Packet) → ComesSoundly units input → GoesOnOf s port input p
    → IsRangeOf units p
range_goes_on laws units s port (FrameComes at sender to_group (Labelled came following)) p comes on =
    packet_goes_on laws units s port came p on comes.1.0 comes.2
range_goes_on laws units s port _ p comes on = absurd on

module _ (laws : StepLaws) (Q : Note → Type 0) (units made : List DataUnit) (s : SystemState) (input : Input) (comes : ComesSoundly units input) where
  output_is_sound : (output : Output) → SendsRangesOrGoesOn s input made output → SendsCarriable output → SendsEsisPdus output → NotesOnly Q output
      → OutputIsSound Q (units ++ made) output
  output_is_sound (Transmits port target packet) sends carriable pdus notes = (
    elim sends [
      | inl new ↦ range_later units made packet new
      | inr on ↦ range_sooner units made packet (range_goes_on laws units s port input packet comes on)
    ],
    carriable,
  )
  output_is_sound (SendsEsis port target value) sends carriable pdus notes = pdus
  output_is_sound (Notes note) sends carriable pdus notes = notes

  pub outputs_are_sound : (outputs : List Output) → AllByRecursion (SendsRangesOrGoesOn s input made) outputs → AllByRecursion SendsCarriable outputs
      → AllByRecursion SendsEsisPdus outputs → AllByRecursion (NotesOnly Q) outputs → AllByRecursion (OutputIsSound Q (units ++ made)) outputs
  outputs_are_sound [] sends carriable pdus notes = tt
  outputs_are_sound (output ∷ outputs) sends carriable pdus notes = (
    output_is_sound output sends.0 carriable.0 pdus.0 notes.0,
    outputs_are_sound outputs sends.1 carriable.1 pdus.1 notes.1,
  )

-- What is kept.

module _ (plan : Plan) (units : List DataUnit) (P : Arrival Packet → Type 0) (each : (u : DataUnit) (arrival : Arrival Packet) → IsOfUnit units u arrival → P arrival) where
  segments_are : (buffers : List (Buffer Packet)) → AllByRecursion (BufferIsSound plan units) buffers → AllByRecursion P (segments_in buffers)
  segments_are [] sound = tt
  segments_are (buffer ∷ buffers) sound =
      AllByRecursion-append P buffer.kept (segments_in buffers)
      (AllByRecursion-implies (IsOfUnit units sound.0.unit) P (each sound.0.unit) buffer.kept sound.0.kept)
      (segments_are buffers sound.1)

kept_as_offered : (plan : Plan) (units : List DataUnit) (s : SystemState) → AllByRecursion (BufferIsSound plan units) s.buffers → KeepsAsOffered s
kept_as_offered plan units s sound =
    segments_are plan units IsAsOffered (λ u arrival of. record { following = []; is_offered = of.offered; carriable = of.carriable }) s.buffers sound

kept_are_ranges : (plan : Plan) (units : List DataUnit) (s : SystemState) → AllByRecursion (BufferIsSound plan units) s.buffers
    → AllByRecursion (IsRangeOf units) (map (λ (arrival : Arrival Packet). arrival.carried) (segments_in s.buffers))
kept_are_ranges plan units s sound =
    AllByRecursion-mapped (λ (arrival : Arrival Packet). IsRangeOf units arrival.carried) (IsRangeOf units) (λ (arrival : Arrival Packet). arrival.carried)
    (segments_in s.buffers) (λ arrival range. range)
    (segments_are plan units (λ (arrival : Arrival Packet). IsRangeOf units arrival.carried) (λ u arrival of. of.packet) s.buffers sound)

-- a packet that is at hand is a range of a unit
at_hand_is_range : (units : List DataUnit) (s : SystemState) (input : Input) (p : Packet) → ComesSoundly units input
    → AllByRecursion (IsRangeOf units) (map (λ (arrival : Arrival Packet). arrival.carried) (segments_in s.buffers)) → IsAtHand s input p → IsRangeOf units p
at_hand_is_range units s (FrameComes port sender to_group (Labelled came following)) p comes kept at =
    elim at [
      | inl same ↦ subst (IsRangeOf units) (sym same) comes.1.0
      | inr was ↦ AllByRecursion-contains (IsRangeOf units) (map (λ (arrival : Arrival Packet). arrival.carried) (segments_in s.buffers)) p was kept
    ]
at_hand_is_range units s _ p comes kept at =
    AllByRecursion-contains (IsRangeOf units) (map (λ (arrival : Arrival Packet). arrival.carried) (segments_in s.buffers)) p at kept

comes_fairly : (units : List DataUnit) (input : Input) → AsksNothing input → ComesSoundly units input → IsFair input
comes_fairly units (AsksToSend from to octets ask) nothing comes = absurd nothing
comes_fairly units (AsksForEcho from to octets) nothing comes = absurd nothing
comes_fairly units (FrameComes port sender to_group content) nothing comes = (comes.0, comes.2)
comes_fairly units _ nothing comes = tt

spells_pdus : (units : List DataUnit) (input : Input) → ComesSoundly units input → SpellsPdus input
spells_pdus units (FrameComes port sender to_group (Labelled packet following)) comes = tt
spells_pdus units (FrameComes port sender to_group (Esis value following)) comes = tt
spells_pdus units (FrameComes port sender to_group (Unlabelled octets)) comes = absurd comes.1
spells_pdus units _ comes = tt

-- who isn't asked makes reports and replies
made_unasked : (input : Input) (u : DataUnit) → AsksNothing input → IsMadeFor input u → (u.kind ≡ Er) ⊎ (u.kind ≡ Erp)
made_unasked (AsksToSend from to octets ask) u nothing for = absurd nothing
made_unasked (AsksForEcho from to octets) u nothing for = absurd nothing
made_unasked _ u nothing for = for

no_request : (kind : Kind) → (kind ≡ Er) ⊎ (kind ≡ Erp) → kind ≡ Erq → ⊥
no_request kind made e = elim made [ inl er ↦ absurd (let same : Er ≡ Erq = sym er ∙ e in cc) | inr erp ↦ absurd (let same : Erp ≡ Erq = sym erp ∙ e in cc) ]

-- a unit that is made now is sound, where it is founded
pub fresh_is_sound : (plan : Plan) (past : List Entry) (units : List DataUnit) (place : ℕ) (s : SystemState) → SystemIsSound plan units place s
    → (moment : ℕ) (u : DataUnit) → IsFresh s moment u → IsMadeOn plan past units u.kind u → UnitIsSound plan past units u
fresh_is_sound plan past units place s sound moment u fresh founded = record {
  founded = founded;
  place = place;
  maker = fresh.maker ∙ ap DeclaredAt sound.stands_at;
  owner = record { system = s.configuration; there = sound.declared; own = own_address s u.source fresh.source };
  first_position = fresh.first_position;
  total = fresh.total;
}

-- the system at a place stands, and X holds of it
pub record StandsWith (plan : Plan) (past : List Entry) (before : List DataUnit) (X : (place : ℕ) → SystemState → Type 0) (units : List DataUnit)
    (place : ℕ) (s : SystemState) : Type 0 where
  pub stands : SystemStands plan past before units place s
  pub also : X place s

-- any system will do
abbrev pub AnySystem : (place : ℕ) → SystemState → Type 0
AnySystem place s = Unit {0}

module _ (plan : Plan) (past : List Entry) (base : LabelledNetwork) where
  -- the units of a world are sound, and more than those of the world before the move; the system at each place stands, X holds of
  -- it, and the copies are sound
  pub record IsSoundWith (X : (place : ℕ) → SystemState → Type 0) (w : LabelledNetwork) : Type 0 where
    pub made : UnitsAreSound plan past w.units
    pub front : IsFront base.units w.units
    pub stands : Stands w.units (length plan.systems) (StandsWith plan past base.units X w.units) w

  sound_with : (X : (place : ℕ) → SystemState → Type 0) (units : List DataUnit) (w : LabelledNetwork) → UnitsAreSound plan past units
      → IsFront base.units units → Stands units (length plan.systems) (StandsWith plan past base.units X units) w → IsSoundWith X w
  sound_with X units w made front h = record {
    made = subst (λ us. UnitsAreSound plan past us) (sym h.made) made;
    front = subst (IsFront base.units) (sym h.made) front;
    stands = subst (λ us. Stands us (length plan.systems) (StandsWith plan past base.units X us) w) (sym h.made) h;
  }

module _ (laws : StepLaws) (plan : Plan) (fit : IsFit plan) (past : List Entry) where
  module _ (units : List DataUnit) (place : ℕ) (s : SystemState) (sound : SystemIsSound plan units place s) (input : Input)
      (comes : ComesSoundly units input) where
    pub step_gives_soundly : (Q : Note → Type 0) → IsFair input → AllByRecursion (NotesOnly Q) (step s input).outputs
        → AllByRecursion (OutputIsSound Q (units ++ (step s input).units)) (step s input).outputs
    step_gives_soundly Q fair notes =
        let is = configured plan fit place s.configuration sound.declared in
        outputs_are_sound laws Q units (step s input).units s input comes (step s input).outputs (laws.steps.ranges s input)
        (laws.steps.carriable s input is.0 sound.attached.ports fair is.1.own (kept_as_offered plan units s sound.buffers))
        (laws.steps.esis_pdus s input is.0 is.1.own sound.attached.next fair sound.known) notes

    -- other systems stay as they are where the system makes units
    pub others_stand : (before_move : List DataUnit) (other : ℕ) (t : SystemState) → other ≢ place
        → SystemStands plan past before_move units other t → SystemStands plan past before_move (units ++ (step s input).units) other t
    others_stand before_move other t apart h =
        let made = (step s input).units in
        record {
          sound = record {
            stands_at = h.sound.stands_at;
            declared = h.sound.declared;
            hold = h.sound.hold;
            reuse = h.sound.reuse;
            uses = h.sound.uses;
            accounted = λ u has maker. elim (Contains-append_cases units made u has) [
              | inl there ↦ h.sound.accounted u there maker
              | inr new ↦ (
                  let fresh = AllByRecursion-contains (IsFresh s (moment_after s input)) made u new (laws.steps.fresh s input) in
                  let here : DeclaredAt place ≡ DeclaredAt other = ap DeclaredAt (sym sound.stands_at) ∙ sym fresh.maker ∙ maker in
                  let one : other ≡ place = cc in
                  absurd (apart one))
            ];
            buffers = AllByRecursion-implies (BufferIsSound plan units) (BufferIsSound plan (units ++ made)) (buffer_later units made plan) t.buffers h.sound.buffers;
            not_due = h.sound.not_due;
            not_whole = h.sound.not_whole;
            budget = h.sound.budget;
            known = h.sound.known;
            attached = h.sound.attached;
            ports = h.sound.ports;
          };
          pending = h.pending;
        }

    module _ (nothing : AsksNothing input) where
      report_is_founded : (u : DataUnit) → u.kind ≡ Er → ReportsOn s input u → IsMadeOn plan past units u.kind u
      report_is_founded u er reports =
          let on = reports er in
          subst (λ kind. IsMadeOn plan past units kind u) (sym er)
          (record {
            whole = on.2.whole;
            packet = on.0;
            range = at_hand_is_range units s input on.0 comes (kept_are_ranges plan units s sound.buffers) on.1;
            destination = sym on.3 ∙ sym on.2.destination;
            data_are = on.2.data_are;
          })

      new_unit_is_sound : (u : DataUnit) → IsFresh s (moment_after s input) u → IsMadeFor input u × ReportsOn s input u × RepliesInOctets u → UnitIsSound plan past units u
      new_unit_is_sound u fresh for =
          fresh_is_sound plan past units place s sound (moment_after s input) u fresh
          (elim (made_unasked input u nothing for.0) [
            | inl er ↦ report_is_founded u er for.1
            | inr erp ↦ subst (λ kind. IsMadeOn plan past units kind u) (sym erp) (for.2 erp)
          ])

      new_units_are_sound : AllByRecursion RepliesInOctets (step s input).units → AllByRecursion (UnitIsSound plan past units) (step s input).units
      new_units_are_sound replies =
          AllByRecursion-both (IsFresh s (moment_after s input)) (λ u. IsMadeFor input u × ReportsOn s input u × RepliesInOctets u) (UnitIsSound plan past units)
          new_unit_is_sound (step s input).units (laws.steps.fresh s input)
          (AllByRecursion-both (IsMadeFor input) (λ u. ReportsOn s input u × RepliesInOctets u) (λ u. IsMadeFor input u × ReportsOn s input u × RepliesInOctets u)
          (λ u for rest. (for, rest.0, rest.1)) (step s input).units (laws.steps.made_for s input)
          (AllByRecursion-both (ReportsOn s input) RepliesInOctets (λ u. ReportsOn s input u × RepliesInOctets u) (λ u on reply. (on, reply)) (step s input).units
          (laws.steps.reports s input (comes_fairly units input nothing comes) (spells_pdus units input comes) (kept_as_offered plan units s sound.buffers))
          replies))

      pub units_after : UnitsAreSound plan past units → EachRests plan.limits.reuse (units ++ (step s input).units)
          → AllByRecursion RepliesInOctets (step s input).units → UnitsAreSound plan past (units ++ (step s input).units)
      units_after made rest replies = units_with plan past units (step s input).units made rest (new_units_are_sound replies)

    -- what is pending after a step was pending before it
    pub pending_after : AsksNothing input → (before_move : List DataUnit) → AllByRecursion (IsPending past before_move place s.configuration.name) s.pending
        → AllByRecursion (IsPending past before_move place (step s input).after.configuration.name) (step s input).after.pending
    pending_after nothing before_move pending =
        let after = (step s input).after in
        subst (λ (c : SystemConfiguration). AllByRecursion (IsPending past before_move place c.name) after.pending) (sym (laws.steps.itself s input).configuration)
        (AllByRecursion-implies (WasPendingOrMade s (step s input)) (IsPending past before_move place s.configuration.name)
        (λ request was.
        elim was [
          | inl there ↦ AllByRecursion-contains (IsPending past before_move place s.configuration.name) s.pending request there pending
          | inr made ↦ absurd (no_request request.kind
              (made_unasked input request nothing (AllByRecursion-contains (IsMadeFor input) (step s input).units request made.0 (laws.steps.made_for s input))) made.1)
        ])
        after.pending (laws.steps.pending s input))

  -- Notes that are honest tell of no restart where there is none.

  module _ (w : LabelledNetwork) (name : List ℕ) (s : SystemState) (input : Input)
      (honest : AllByRecursion (NotesOnly (NoteIsHonest plan past w name)) (step s input).outputs) where
    output_notes_both : (P Q R : Note → Type 0) → ((note : Note) → P note → Q note → R note) → (output : Output) → NotesOnly P output → NotesOnly Q output
        → NotesOnly R output
    output_notes_both P Q R both (Transmits port target packet) h k = tt
    output_notes_both P Q R both (SendsEsis port target value) h k = tt
    output_notes_both P Q R both (Notes note) h k = both note h k

    pub notes_are_steady : RestartsNothing input → AllByRecursion (NotesOnly (NoteIsSteady plan past w name)) (step s input).outputs
    notes_are_steady steady =
        AllByRecursion-both (NotesOnly (NoteIsHonest plan past w name)) (NotesOnly IsNoRestart) (NotesOnly (NoteIsSteady plan past w name))
        (output_notes_both (NoteIsHonest plan past w name) IsNoRestart (NoteIsSteady plan past w name) (λ note h k. record { honest = h; no_restart = k }))
        (step s input).outputs honest (laws.steps.no_restart s input steady)

  module _ (base : LabelledNetwork) (N : List ℕ → Note → Type 0) (X Y : (place : ℕ) → SystemState → Type 0) where
    -- a system that stands takes a step that is asked nothing, and leaves what is sound
    pub step_keeps : (w : LabelledNetwork) (place : ℕ) (s : SystemState) (input : Input) → SystemStands plan past base.units w.units place s → AsksNothing input
        → ComesSoundly w.units input → EffectIsSound plan past base s.configuration.name w.units place (step s input)
        → ((other : ℕ) (t : SystemState) → other ≢ place → X other t → Y other t) → Y place (step s input).after
        → AllByRecursion (NotesOnly (N s.configuration.name)) (step s input).outputs
        → IsSoundWith plan past base X w → Keeps (IsSoundWith plan past base Y) (LineIs N) (takes_effect w place (step s input))
    step_keeps w place s input it nothing comes done others here notes k =
        let effect : Effect = step s input in
        let later : List DataUnit = w.units ++ effect.units in
        let outputs = subst (λ (c : SystemConfiguration). AllByRecursion (OutputIsSound (N c.name) later) effect.outputs)
        (sym (laws.steps.itself s input).configuration)
        (step_gives_soundly w.units place s it.sound input comes (N s.configuration.name) (comes_fairly w.units input nothing comes) notes) in
        let kept = takes_effect_stands (length plan.systems) N w.units (StandsWith plan past base.units X w.units) (StandsWith plan past base.units Y later)
        w place effect
        (λ other t apart h. record { stands = others_stand w.units place s it.sound input comes base.units other t apart h.stands; also = others other t apart h.also })
        (record {
          stands = record { sound = done.after; pending = pending_after w.units place s it.sound input comes nothing base.units it.pending };
          also = here;
        })
        done.after.attached.addressed outputs k.stands in
        record {
          world = sound_with plan past base Y later (takes_effect w place effect).world
              (units_after w.units place s it.sound input comes nothing k.made done.rest done.replies)
              (front-more base.units w.units effect.units k.front) kept.world;
          lines = kept.lines;
        }
