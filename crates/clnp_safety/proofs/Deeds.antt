-- What deeds of a system leave, the units counted in that are made in them: reports, which have no identifier, and what is asked for.
use Rattle.clnp_machine.proofs.ClnpBase.Lists.{AllByRecursion-contains, AllByRecursion-implies}
use Rattle.std.proofs.Common.{◌≡◌, ◌∙◌, ◌<◌, ◌≤◌, refl, sym, ap, subst, ℕ, inl, inr, false, List, ◌++◌, length, slice_get, Option, None, Some, arith}
use Rattle.std.specs.List.{AllByRecursion}
use Rattle.std.proofs.lemmas.Bool.{cases_Bool}
use Rattle.std.proofs.lemmas.List.{append-nil}
use Rattle.std.proofs.lemmas.List.Elements.{Contains-append_cases}
use Rattle.std.proofs.lemmas.Option.{none-some}
use Rattle.hex.specs.Hex.{IsBytes}
use Rattle.clnp_machine.specs.Pdus.declared.pdu_header.kind.Kind.{Kind}
use Rattle.clnp_machine.specs.Pdus.declared.pdu_header.kind.Kind.TheVariants.{Er, Erp}
use Rattle.clnp_machine.specs.PduHeader.Rules.{is_reportable}
use Rattle.clnp_machine.specs.ClnpPlan.Configuration.{SystemConfiguration}
use Rattle.clnp_machine.specs.ClnpPlan.declared.ask.Ask.{Ask}
use Rattle.clnp_machine.specs.ClnpPlan.declared.note.Note.{Note}
use Rattle.clnp_machine.specs.ClnpPlan.declared.note.Note.TheVariants.{Refused}
use Rattle.clnp_machine.specs.Reassembly.Buffer.{Buffer, held, is_whole}
use Rattle.clnp_machine.specs.ScenarioPlan.Plan.{Plan}
use Rattle.clnp_machine.specs.Attachment.{Attachment, IsAttached}
use Rattle.clnp_machine.specs.Identifiers.{Identifiers}
use Rattle.clnp_machine.specs.Unit.{DataUnit, Packet}
use Rattle.clnp_machine.specs.Content.{Content, frame_of}
use Rattle.clnp_machine.specs.System.{SystemState}
use Rattle.clnp_machine.specs.Local.{Action, Sends, Tells, Deed, and_then, discard, made_in, make, makes, refusal, reports_from, tells, unit_of, unless_refused}
use Rattle.clnp_machine.specs.EveryStep.{KnowsAddresses, LeavesTheRest}
use Rattle.clnp_machine.specs.Told.{IsRefusal, NoteIsQuiet, TellsOnly}
use Rattle.clnp_machine.specs.ClnpNetwork.LabelledNetwork.{LabelledNetwork}
use Rattle.clnp_machine.specs.ClnpNetwork.Run.{Entry}
use Rattle.clnp_safety.specs.Invariant.{AreUsesUntil, BufferIsSound, EachRests, IsAccounted, SystemIsSound}
use Rattle.clnp_safety.specs.StepLaws.{StepLaws}
use Rattle.clnp_safety.proofs.Draws.{IsWhole, whole_rest}
use Rattle.clnp_safety.proofs.Lines.{quiet_is_honest}
use Rattle.clnp_safety.proofs.SendAsked.{asked_is_new}
use Rattle.clnp_safety.proofs.SendUnits.{IsNew, maker_after, new_rests}
use Rattle.clnp_safety.proofs.Units.{buffer_later}
use Rattle.clnp_safety.proofs.Honest.{NoteIsHonest}

-- what the soundness of a system goes by is as before, and what it heard of is still at addresses
pub record IsLike (s t : SystemState) : Type 0 where
  pub place : t.place ≡ s.place
  pub configuration : t.configuration ≡ s.configuration
  pub attached : t.attached ≡ s.attached
  pub hold : t.hold ≡ s.hold
  pub moment : t.moment ≡ s.moment
  pub identifiers : t.identifiers ≡ s.identifiers
  pub buffers : t.buffers ≡ s.buffers
  pub known : KnowsAddresses s → KnowsAddresses t

pub like_rest : (s t : SystemState) → LeavesTheRest s t → (KnowsAddresses s → KnowsAddresses t) → IsLike s t
like_rest s t rest known = record {
  place = rest.place;
  configuration = rest.configuration;
  attached = rest.attached;
  hold = rest.hold;
  moment = rest.moment;
  identifiers = rest.identifiers;
  buffers = rest.buffers;
  known = known;
}

pub like_is_sound : (plan : Plan) (units : List DataUnit) (place : ℕ) (s t : SystemState) → IsLike s t → SystemIsSound plan units place s
    → SystemIsSound plan units place t
like_is_sound plan units place s t like sound = record {
  stands_at = like.place ∙ sound.stands_at;
  declared = sound.declared ∙ ap Some (sym like.configuration);
  hold = like.hold ∙ sound.hold;
  reuse = ap (λ (ids : Identifiers). ids.reuse) like.identifiers ∙ sound.reuse;
  uses = subst (λ (n : ℕ). AreUsesUntil n t.identifiers.uses) (sym like.moment)
      (subst (λ (ids : Identifiers). AreUsesUntil s.moment ids.uses) (sym like.identifiers) sound.uses);
  accounted = λ u there maker.
      subst (λ (n : ℕ). IsAccounted n t.identifiers u) (sym like.moment)
      (subst (λ (ids : Identifiers). IsAccounted s.moment ids u) (sym like.identifiers) (sound.accounted u there maker));
  buffers = subst (AllByRecursion (BufferIsSound plan units)) (sym like.buffers) sound.buffers;
  not_due = subst (λ (n : ℕ). AllByRecursion (λ (b : Buffer Packet). n < b.deadline) t.buffers) (sym like.moment)
      (subst (AllByRecursion (λ (b : Buffer Packet). s.moment < b.deadline)) (sym like.buffers) sound.not_due);
  not_whole = subst (AllByRecursion (λ (b : Buffer Packet). is_whole b ≡ false)) (sym like.buffers) sound.not_whole;
  budget = subst (λ (buffers : List (Buffer Packet)). held buffers ≤ t.configuration.settings.budget) (sym like.buffers)
      (subst (λ (c : SystemConfiguration). held s.buffers ≤ c.settings.budget) (sym like.configuration) sound.budget);
  known = like.known sound.known;
  attached = subst IsAttached (sym like.attached) sound.attached;
  ports = ap (λ (a : Attachment). length a.ports) like.attached ∙ sound.ports
      ∙ ap (λ (c : SystemConfiguration). length c.ports) (sym like.configuration);
}

-- with other buffers that are as they should be a system is as sound, however many units it counts
pub with_buffers : (plan : Plan) (units : List DataUnit) (place : ℕ) (s : SystemState) (buffers : List (Buffer Packet)) (count : ℕ)
    → SystemIsSound plan units place s → AllByRecursion (BufferIsSound plan units) buffers
    → AllByRecursion (λ (b : Buffer Packet). s.moment < b.deadline) buffers → AllByRecursion (λ (b : Buffer Packet). is_whole b ≡ false) buffers
    → held buffers ≤ s.configuration.settings.budget → SystemIsSound plan units place (record s { buffers = buffers; count = count })
with_buffers plan units place s buffers count sound each not_due not_whole within = record {
  stands_at = sound.stands_at;
  declared = sound.declared;
  hold = sound.hold;
  reuse = sound.reuse;
  uses = sound.uses;
  accounted = sound.accounted;
  buffers = each;
  not_due = not_due;
  not_whole = not_whole;
  budget = within;
  known = sound.known;
  attached = sound.attached;
  ports = sound.ports;
}

-- Reports are whole units that are made at a moment, and no replies.

pub record IsReport (now : ℕ) (u : DataUnit) : Type 0 where
  pub kind : u.kind ≡ Er
  pub whole : u.identifier ≡ None
  pub made : u.made ≡ now

-- the data of an echo reply are octets
abbrev pub RepliesInOctets : DataUnit → Type 0
RepliesInOctets u = u.kind ≡ Erp → IsBytes u.octets

no_reply : (now : ℕ) (u : DataUnit) → IsReport now u → RepliesInOctets u
no_reply now u is erp = let same : Er ≡ Erp = sym is.kind ∙ erp in absurd (cc)

pub reports_reply_nothing : (now : ℕ) (made : List DataUnit) → AllByRecursion (IsReport now) made → AllByRecursion RepliesInOctets made
reports_reply_nothing now made are = AllByRecursion-implies (IsReport now) RepliesInOctets (no_reply now) made are

pub reports_are_sound : (plan : Plan) (units made : List DataUnit) (now place : ℕ) (s : SystemState) → s.moment ≡ now → AllByRecursion (IsReport now) made
    → SystemIsSound plan units place s → SystemIsSound plan (units ++ made) place s
reports_are_sound plan units made now place s at are h = record {
  stands_at = h.stands_at;
  declared = h.declared;
  hold = h.hold;
  reuse = h.reuse;
  uses = h.uses;
  accounted = λ u has maker. elim (Contains-append_cases units made u has) [
    | inl before ↦ h.accounted u before maker
    | inr new ↦ (
        let is = AllByRecursion-contains (IsReport now) made u new are in
        let made_now : u.made ≡ now = is.made in
        record { made = omega arith; used = λ identifier identified. absurd (none-some identifier (sym is.whole ∙ identified)) })
  ];
  buffers = AllByRecursion-implies (BufferIsSound plan units) (BufferIsSound plan (units ++ made)) (buffer_later units made plan) s.buffers h.buffers;
  not_due = h.not_due;
  not_whole = h.not_whole;
  budget = h.budget;
  known = h.known;
  attached = h.attached;
  ports = h.ports;
}

pub all_whole : (now : ℕ) (made : List DataUnit) → AllByRecursion (IsReport now) made → AllByRecursion IsWhole made
all_whole now made are = AllByRecursion-implies (IsReport now) IsWhole (λ u is. is.whole) made are

pub reports_rest : (reuse now : ℕ) (units made : List DataUnit) → AllByRecursion (IsReport now) made → EachRests reuse units → EachRests reuse (units ++ made)
reports_rest reuse now units made are rest = whole_rest reuse units made (all_whole now made are) rest

-- what the report of a discard leaves, and makes
record Reports (s : SystemState) (deed : Deed) : Type 0 where
  like : IsLike s deed.after
  made : AllByRecursion (IsReport s.moment) (made_in deed.actions)
  tells : AllByRecursion (TellsOnly NoteIsQuiet) deed.actions

reports_quietly : (s : SystemState) (frame : List ℕ) (reason place : ℕ) (own : Option (List ℕ)) → Reports s (reports_from own s frame reason place)
reports_quietly s frame reason place None = record {
  like = record { place = refl; configuration = refl; attached = refl; hold = refl; moment = refl; identifiers = refl; buffers = refl; known = λ known. known };
  made = tt;
  tells = tt;
}
reports_quietly s frame reason place (Some own) =
    elim (cases_Bool (is_reportable frame)) [
      | inl wanted ↦ rw wanted (record {
        like = record { place = refl; configuration = refl; attached = refl; hold = refl; moment = refl; identifiers = refl; buffers = refl; known = λ known. known };
        made = (record { kind = refl; whole = refl; made = refl }, tt);
        tells = (tt, (tt, tt));
      })
      | inr unwanted ↦ rw unwanted (record {
        like = record { place = refl; configuration = refl; attached = refl; hold = refl; moment = refl; identifiers = refl; buffers = refl; known = λ known. known };
        made = tt;
        tells = tt;
      })
    ]

-- whatever a discard of a frame leaves, a system is as it was, and tells nothing
pub discard_is_like : (s : SystemState) (frame : Content) (reason place : ℕ) → IsLike s (discard s frame reason place).after
discard_is_like s frame reason place = (reports_quietly s (frame_of frame) reason place (slice_get s.configuration.addresses 0)).like

pub discard_reports : (s : SystemState) (frame : Content) (reason place : ℕ) → AllByRecursion (IsReport s.moment) (made_in (discard s frame reason place).actions)
discard_reports s frame reason place = (reports_quietly s (frame_of frame) reason place (slice_get s.configuration.addresses 0)).made

-- a system before a deed, and the units
pub record MayDo (plan : Plan) (units : List DataUnit) (place : ℕ) (s : SystemState) : Type 0 where
  pub sound : SystemIsSound plan units place s
  pub rest : EachRests plan.limits.reuse units

module _ (plan : Plan) (past : List Entry) (w : LabelledNetwork) (name : List ℕ) where
  -- what a system of this name tells is honest
  abbrev pub IsHonest : Note → Type 0
  IsHonest = NoteIsHonest plan past w name

  pub quiet_action : (action : Action) → TellsOnly NoteIsQuiet action → TellsOnly IsHonest action
  quiet_action (Tells told) h = quiet_is_honest plan past w name told h
  quiet_action (Sends u) h = tt

  pub refusal_is_honest : (note : Note) → IsRefusal (Some note) → IsHonest note
  refusal_is_honest (Refused why value) h = tt
  refusal_is_honest _ h = absurd h

  module _ (units : List DataUnit) (place : ℕ) where
    -- what a deed leaves is sound beside the units that are made in it, and what it tells is honest
    pub record DeedIsSound (deed : Deed) : Type 0 where
      pub after : SystemIsSound plan (units ++ made_in deed.actions) place deed.after
      pub rest : EachRests plan.limits.reuse (units ++ made_in deed.actions)
      pub replies : AllByRecursion RepliesInOctets (made_in deed.actions)
      pub tells : AllByRecursion (TellsOnly IsHonest) deed.actions

    pub tells_soundly : (s : SystemState) (note : Note) → MayDo plan units place s → IsHonest note → DeedIsSound (tells s note)
    tells_soundly s note may honest = record {
      after = subst (λ us. SystemIsSound plan us place s) (sym (append-nil units)) may.sound;
      rest = subst (EachRests plan.limits.reuse) (sym (append-nil units)) may.rest;
      replies = tt;
      tells = (honest, tt);
    }

    pub told_and_done : (s : SystemState) (note : Note) (next : SystemState → Deed) → IsHonest note → DeedIsSound (next s)
        → DeedIsSound (and_then (tells s note) next)
    told_and_done s note next honest h = record { after = h.after; rest = h.rest; replies = h.replies; tells = (honest, h.tells) }

    pub discards_soundly : (s : SystemState) (frame : Content) (reason at : ℕ) → MayDo plan units place s → DeedIsSound (discard s frame reason at)
    discards_soundly s frame reason at may =
        let deed = discard s frame reason at in
        let like = discard_is_like s frame reason at in
        let are = discard_reports s frame reason at in
        record {
          after = reports_are_sound plan units (made_in deed.actions) s.moment place deed.after like.moment are
              (like_is_sound plan units place s deed.after like may.sound);
          rest = reports_rest plan.limits.reuse s.moment units (made_in deed.actions) are may.rest;
          replies = reports_reply_nothing s.moment (made_in deed.actions) are;
          tells = (
            tt,
            AllByRecursion-implies (TellsOnly NoteIsQuiet) (TellsOnly IsHonest) quiet_action
                (reports_from (slice_get s.configuration.addresses 0) s (frame_of frame) reason at).actions
                (reports_quietly s (frame_of frame) reason at (slice_get s.configuration.addresses 0)).tells,
          );
        }

    pub makes_soundly : (s : SystemState) (u : DataUnit) → MayDo plan units place s → IsNew place s u → RepliesInOctets u → DeedIsSound (makes s u)
    makes_soundly s u may new in_octets = record {
      after = maker_after plan units place s u new may.sound;
      rest = new_rests plan units place s u new may.sound may.rest;
      replies = (in_octets, tt);
      tells = (tt, (tt, tt));
    }

    module _ (laws : StepLaws) (s : SystemState) (kind : Kind) (from to octets : List ℕ) (ask : Ask) (may : MayDo plan units place s)
        (in_octets : kind ≡ Erp → IsBytes octets) where
      unless_refused_soundly : (refused : Option Note) → IsRefusal refused → refusal s (unit_of s kind from to octets ask) ≡ refused
          → DeedIsSound (unless_refused refused s (unit_of s kind from to octets ask))
      unless_refused_soundly None refuses none =
          makes_soundly s (unit_of s kind from to octets ask) may (asked_is_new laws plan units place s kind from to octets ask none may.sound)
          in_octets
      unless_refused_soundly (Some note) refuses some = tells_soundly s note may (refusal_is_honest note refuses)

      -- a unit that is asked for
      pub make_soundly : DeedIsSound (make s kind from to octets ask)
      make_soundly =
          unless_refused_soundly (refusal s (unit_of s kind from to octets ask)) (laws.deeds.refused s (unit_of s kind from to octets ask)) refl
