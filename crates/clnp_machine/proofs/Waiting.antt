-- The requests that are to be answered stay, whatever comes, until a reply answers them.
use Rattle.std.proofs.Common.{◌≡◌, ◌∙◌, refl, sym, ap, subst, ℕ, zero, suc, ◌⊎◌, inl, inr, Bool, true, false, List, [], ◌∷◌, ◌++◌, length, Option, None, Some}
use Rattle.std.specs.Prelude.{if◌then◌else◌, slice_get}
use Rattle.std.proofs.lemmas.Bool.{cases_Bool}
use Rattle.clnp_plan.proofs.ClnpBase.Choices.{one_of}
use Rattle.clnp_plan.specs.ClnpOptions.Parameter.{Parameter}
use Rattle.clnp_plan.specs.Pdus.declared.pdu_header.kind.Kind.{Kind}
use Rattle.clnp_plan.specs.Pdus.declared.pdu_header.kind.Kind.TheVariants.{Dt, Er, Erq, Erp}
use Rattle.clnp_plan.specs.PduHeader.Rules.{is_reportable}
use Rattle.system_tables.specs.Reassembly.Buffer as buffer
use Rattle.system_tables.specs.Reassembly.Buffer.{Answer, Buffer}
use Rattle.clnp_plan.specs.SystemTables.declared.esis_tables.fact.Neighbour.{Neighbour}
use Rattle.clnp_plan.specs.declared.note.Note.{Note}
use Rattle.clnp_machine.specs.Unit.{DataUnit, Packet, value_of}
use Rattle.clnp_machine.specs.Content.{Content, Esis, Labelled, Unlabelled, frame_of}
use Rattle.clnp_machine.specs.System.{SystemState, Input, AsksToSend, AsksForEcho, FrameComes, MomentComes, IsRestarted, IsCongested, IsChanged, Effect, table_limits}
use Rattle.clnp_machine.specs.Esis.{forgets, says_hello}
use Rattle.clnp_machine.specs.Local.{Deed, at_moment, data_in, discard, echo_ask, expire, give_up_due, gives_up, hand_up, is_all, is_answer, is_replied, makes, offer, offered, receive, refusal, report_unit, reports_from, rests, takes_in, tick, unit_of, unless_refused}
use Rattle.clnp_machine.specs.Requests.{AnswersNothing, StayUnlessAnswered}
use Rattle.clnp_machine.specs.Step.{octets_come, packet_comes, step}
use Rattle.clnp_machine.proofs.Answering.{octets_do}
use Rattle.clnp_machine.proofs.Deeds.{given_up_after}
use Rattle.clnp_machine.proofs.Hellos.{only_comes, only_forgets, only_responds, only_says_hello, only_then}
use Rattle.clnp_machine.proofs.Passing.{packet_does}
use Rattle.clnp_machine.proofs.Pending.{NoneIs, oldest_answered, pending_stays, reply_is_stray}

-- Reports and replies are no requests.

reports_leave : (s : SystemState) (frame : List ℕ) (reason place : ℕ) (found : Option (List ℕ)) → (reports_from found s frame reason place).after.pending ≡ s.pending
reports_leave s frame reason place None = refl
reports_leave s frame reason place (Some own) = go (is_reportable frame)
  where
    go : (test : Bool) → (if test then makes s (report_unit s own frame reason place) else rests s).after.pending ≡ s.pending
    go true = refl
    go false = refl

discard_leaves : (s : SystemState) (frame : Content) (reason place : ℕ) → (discard s frame reason place).after.pending ≡ s.pending
discard_leaves s frame reason place = reports_leave s (frame_of frame) reason place (slice_get s.configuration.addresses 0)

reply_leaves : (s : SystemState) (source destination octets : List ℕ) (refused : Option Note)
    → (unless_refused refused s (unit_of s Erp destination source octets (echo_ask s destination source (length octets) false))).after.pending ≡ s.pending
reply_leaves s source destination octets None = refl
reply_leaves s source destination octets (Some told) = refl

-- of some requests, none is such, or there is a first one that is
record HasFirst (is : DataUnit → Bool) (requests : List DataUnit) : Type 0 where
  before : List DataUnit
  request : DataUnit
  behind : List DataUnit
  among : requests ≡ before ++ request ∷ behind
  none_before : NoneIs is before
  it : is request ≡ true

none_or_first : (is : DataUnit → Bool) (requests : List DataUnit) → NoneIs is requests ⊎ HasFirst is requests
none_or_first is [] = inl tt
none_or_first is (request ∷ requests) =
    elim (cases_Bool (is request)) [
      | inl here ↦ inr (record { before = []; request = request; behind = requests; among = refl; none_before = tt; it = here })
      | inr other ↦
          elim (none_or_first is requests) [
            | inl none ↦ inl (other, none)
            | inr first ↦ inr (record {
              before = request ∷ first.before;
              request = first.request;
              behind = first.behind;
              among = ap (λ (later : List DataUnit). request ∷ later) first.among;
              none_before = (other, first.none_before);
              it = first.it;
            })
          ]
    ]

module _ (p : Packet) (following : List ℕ) where
  abbrev Stay : SystemState → Deed → Type 0
  Stay s deed = StayUnlessAnswered p s.pending deed.after.pending

  reply_answers : (s : SystemState) (octets : List ℕ) → p.unit.kind ≡ Erp → Stay s (is_replied s p.unit.source p.unit.destination octets)
  reply_answers s octets erp =
      elim (none_or_first (is_answer p.unit.source p.unit.destination octets) s.pending) [
        | inl none ↦ inl (ap (λ (deed : Deed). deed.after.pending) (reply_is_stray s p.unit.source p.unit.destination octets none))
        | inr first ↦
            inr (record {
              kind = erp;
              octets = octets;
              before = first.before;
              request = first.request;
              behind = first.behind;
              oldest = record { among = first.among; none_before = first.none_before; answers = first.it };
              left_are = ap (λ (deed : Deed). deed.after.pending)
                  (oldest_answered s p.unit.source p.unit.destination octets first.before first.request first.behind
                  (record { among = first.among; none_before = first.none_before; answers = first.it }));
            })
      ]

  hand_up_stay : (s : SystemState) (kind : Kind) → p.unit.kind ≡ kind → (octets : List ℕ) (options : List Parameter)
      → Stay s (hand_up s kind p.unit.source p.unit.destination octets options)
  hand_up_stay s Dt is octets options = inl refl
  hand_up_stay s Er is octets options = inl refl
  hand_up_stay s Erq is octets options =
      inl (reply_leaves s p.unit.source p.unit.destination octets
      (refusal s (unit_of s Erp p.unit.destination p.unit.source octets (echo_ask s p.unit.destination p.unit.source (length octets) false))))
  hand_up_stay s Erp is octets options = reply_answers s octets is

  takes_in_stay : (s : SystemState) (kept : List (Buffer Packet)) (answer : Answer) → Stay s (takes_in s (Labelled p following) (offered p following) kept answer)
  takes_in_stay s kept buffer.Held = inl refl
  takes_in_stay s kept buffer.Whole =
      hand_up_stay (record s { buffers = buffer.without (offered p following).key kept }) p.unit.kind refl
      (data_in (buffer.buffer_of (offered p following).key kept)) p.options
  takes_in_stay s kept (buffer.Interference there other) = inl (discard_leaves s (Labelled p following) _ 0)
  takes_in_stay s kept buffer.Repeat = inl refl
  takes_in_stay s kept (buffer.NoSlot live) = inl (discard_leaves s (Labelled p following) _ 0)
  takes_in_stay s kept (buffer.Crowded held size) = inl (discard_leaves s (Labelled p following) _ 0)
  takes_in_stay s kept (buffer.Many segments) = inl (discard_leaves s (Labelled p following) _ 0)

  receive_stay : (s : SystemState) → Stay s (receive s p following)
  receive_stay s =
      let arrival = offered p following in
      one_of (Stay s) (is_all p) (hand_up s p.unit.kind p.unit.source p.unit.destination (value_of p).body p.options) (offer s (Labelled p following) arrival)
      (hand_up_stay s p.unit.kind refl (value_of p).body p.options)
      (takes_in_stay s (buffer.after (table_limits s) s.moment arrival s.buffers) (buffer.answer (table_limits s) s.moment arrival s.buffers))

  packet_stay : (s : SystemState) (came : Neighbour) → StayUnlessAnswered p s.pending (packet_comes s came p following).after.pending
  packet_stay s came =
      packet_does (λ (effect : Effect). StayUnlessAnswered p s.pending effect.after.pending) s came p following
      (λ reason of_none. inl (discard_leaves s (Labelled p following) reason 0)) (λ router way port pieces there alive gives known. inl refl) (inl refl)
      (λ mine. receive_stay s)

  pub stay_unless_answered : (s : SystemState) (port : ℕ) (sender : List ℕ) (to_group : Bool)
      → StayUnlessAnswered p s.pending (step s (FrameComes port sender to_group (Labelled p following))).after.pending
  stay_unless_answered s port sender to_group =
      let neighbour : Neighbour = record { port = port; snpa = sender } in
      let come = packet_comes s neighbour p following in
      subst (StayUnlessAnswered p s.pending) (sym (only_responds come.after neighbour to_group p).rest.pending) (packet_stay s neighbour)

-- Nothing else answers them.

octets_leave : (s : SystemState) (octets : List ℕ) → (octets_come s octets).after.pending ≡ s.pending
octets_leave s octets =
    octets_do (λ (deed : Deed). deed.after.pending ≡ s.pending) s octets (λ reason place. discard_leaves s (Unlabelled octets) reason place) (λ told. refl)

expire_leaves : (most : ℕ) (s : SystemState) → (expire most s).after.pending ≡ s.pending
expire_leaves zero s = refl
expire_leaves (suc most) s = go (expire_leaves most) (buffer.due s.moment s.buffers)
  where
    go : ((t : SystemState) → (expire most t).after.pending ≡ t.pending) → (found : Option (Buffer Packet))
        → (give_up_due found s (expire most)).after.pending ≡ s.pending
    go later None = refl
    go later (Some ended) = later (gives_up s ended).after ∙ ap (λ (t : SystemState). t.pending) (given_up_after s ended)

pub stay_elsewhere : (s : SystemState) (input : Input) → AnswersNothing input → (step s input).after.pending ≡ s.pending
stay_elsewhere s (AsksToSend from to octets ask) nothing = pending_stays s from to octets ask
stay_elsewhere s (AsksForEcho from to octets) nothing = absurd nothing
stay_elsewhere s (FrameComes port sender to_group (Labelled p following)) nothing = absurd nothing
stay_elsewhere s (FrameComes port sender to_group (Esis value following)) nothing = (only_comes s (record { port = port; snpa = sender }) value).rest.pending
stay_elsewhere s (FrameComes port sender to_group (Unlabelled octets)) nothing = octets_leave s octets
stay_elsewhere s (MomentComes now) nothing =
    let ticked = (tick s now).after in
    (only_then ticked (forgets s.moment ticked) says_hello (only_forgets s.moment ticked) (only_says_hello ticked)).rest.pending
    ∙ expire_leaves (length s.buffers) (at_moment now s)
stay_elsewhere s IsRestarted nothing = absurd nothing
stay_elsewhere s (IsCongested on) nothing = refl
stay_elsewhere s (IsChanged change) nothing = refl
