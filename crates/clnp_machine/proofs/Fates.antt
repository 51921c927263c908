-- What becomes of a packet that comes: exactly one of what may.
use Rattle.std.proofs.Common.{◌≡◌, ◌≢◌, ◌∙◌, refl, sym, ap, inl, inr, ℕ, ◌+◌, ◌<◌, ◌≤◌, Bool, true, false, List, [], ◌∷◌, ◌++◌, append-nil, length, map, Option, None, Some, Contains, arith}
use Rattle.std.specs.Prelude.{◌==◌, ◌&&◌, not, nat_le, nat_lt, if◌then◌else◌, is_none, slice_get}
use Rattle.std.specs.List.{AllByRecursion, find, flat_map, range_with_len}
use Rattle.std.proofs.lemmas.Bool.{and_parts, both_ways, cases_Bool, cond_both, leb-false, leb-true, not-false, not-true}
use Rattle.clnp_plan.proofs.ClnpBase.SameOctets.{same-itself, same_from_equal}
use Rattle.clnp_plan.specs.ClnpOptions.Edits.{is_complete, target_of}
use Rattle.clnp_machine.specs.Esis.{title_of}
use Rattle.clnp_machine.specs.Ways.{IsAllowedWay, IsOnRoute, aim_of}
use Rattle.std.proofs.lemmas.List.Elements.{Contains-append_left, Contains-append_right}
use Rattle.std.proofs.lemmas.Option.{same_Some}
use Rattle.clnp_plan.proofs.ClnpBase.Choices.{if_none, is_equal}
use Rattle.clnp_plan.proofs.ClnpBase.Lists.{AllByRecursion-implies, AllByRecursion-slice_get}
use Rattle.clnp_plan.specs.ClnpOptions.Parameter.{Parameter}
use Rattle.clnp_plan.specs.Pdus.declared.clnp_options.judge.OptionRefusal.{OptionRefusal}
use Rattle.clnp_plan.specs.Pdus.declared.pdu_header.kind.Kind.{Kind}
use Rattle.clnp_plan.specs.Pdus.declared.pdu_header.kind.Kind.TheVariants.{Dt, Er, Erq, Erp}
use Rattle.clnp_plan.specs.PduHeader.Rules.{is_reportable, octet, refusal as rule_broken}
use Rattle.pdus.specs.EsisPdus.Rules.{why_refused}
use Rattle.pdus.specs.MadePdus.Told.{cause_in, place_in}
use Rattle.pdus.specs.declared.esis_pdus.pdu.EsisRefusal.{EsisRefusal}
use Rattle.pdus.specs.declared.esis_pdus.pdu.EsisRefusal.TheVariants.{NotEsis, Broken}
use Rattle.system_tables.specs.declared.reassembly.segment.Shape.{Shape}
use Rattle.system_tables.specs.declared.reassembly.table.TableLimits.{TableLimits}
use Rattle.system_tables.specs.Reassembly.Arrival.{Arrival, are_covered, data_len, earliest, same_key, same_shape}
use Rattle.system_tables.specs.Reassembly.Buffer as buffer
use Rattle.system_tables.specs.Reassembly.Buffer.{Answer, Buffer, answer_of, buffer_of, buffers_of, clashes, held, is_whole, is_whole_in, kept, kept_in, octet_by, opened_by, refusal, shape_in, with_kept, without}
use Rattle.system_tables.proofs.ReassemblyFacts.Shared.{same_key-refl}
use Rattle.clnp_plan.specs.SystemTables.declared.esis_tables.fact.Neighbour.{Neighbour}
use Rattle.clnp_plan.specs.Configuration.{IsPort}
use Rattle.clnp_plan.specs.declared.config.PortConfig.{PortConfig}
use Rattle.clnp_plan.specs.declared.config.Role.{Role}
use Rattle.clnp_plan.specs.declared.config.Role.TheVariants.{Host, Router}
use Rattle.clnp_plan.specs.declared.note.Note.{Note}
use Rattle.clnp_plan.specs.declared.note.Note.TheVariants as note
use Rattle.clnp_machine.specs.Unit.{DataUnit, Packet, IsCarriable, cut, value_of, wire}
use Rattle.clnp_machine.specs.Content.{Labelled}
use Rattle.clnp_machine.specs.System.{SystemState, Output, Transmits, Notes, Effect, FrameComes, gives, table_limits}
use Rattle.clnp_machine.specs.Local.{Deed, and_then, data_in, discard, echo_ask, hand_up, is_all, is_answer, is_own, makes, octet_of, offer, offered, receive, report_unit, reports, reports_from, rests, takes_in, takes_reply, tells}
use Rattle.clnp_machine.specs.Step.{Hop, Way, discard_refused, discards, effect_of, ends_at, forwarded, goes_on_by, goes_on_way, goes_on_with, hop_by, is_named, no_way_to, pieces_go_on, way_of, loss_at, octets_come, options_behind, outputs_of, packet_comes, passes_by, redirects, responds, step, transmissions, unheard_note}
use Rattle.clnp_machine.specs.EditLaws.{EditLaws}
use Rattle.clnp_machine.specs.EveryStep.{GoesOnFrom, segments_in, sends_esis}
use Rattle.clnp_machine.specs.Whereabouts.{CannotGoOn, IsStopped, DropsPacket, EndsWithHellos, Fate, GoesOn, HasOneFate, HasOneFateInFrame, IsDropped, IsHandedUp, IsKept, IsLeft, MakesWhole, Meets, SendsAllOn, TellsCause, TellsOfDiscard, TellsOfOctets, TellsOfRoom, TellsOfUnit, WasKept, together}
use Rattle.clnp_machine.proofs.AllOf.{onward_is_all}
use Rattle.clnp_machine.proofs.Asked.{discard_makes}
use Rattle.clnp_machine.proofs.GoingOn.{its_way}
use Rattle.clnp_machine.proofs.Hellos.{only_responds}
use Rattle.clnp_machine.proofs.Hops.{all_where_whole}
use Rattle.clnp_machine.proofs.Passing.{IsItsWay, going, redirects_are}
use Rattle.clnp_machine.proofs.Sent.{IsPartOf, cut_is_parts, part_goes_on, sends_ranges}
use Rattle.clnp_machine.proofs.SentUnits.{made_or_refused}

-- The first that is given out tells the fate.

abbrev tale : List Output → Option Fate
tale (Transmits port target packet ∷ more) = Some GoesOn
tale (Notes (note.Discard reason place) ∷ more) = Some IsDropped
tale (Notes (note.Interference id) ∷ more) = Some IsDropped
tale (Notes (note.NoSlot live) ∷ more) = Some IsDropped
tale (Notes (note.Crowded held size) ∷ more) = Some IsDropped
tale (Notes (note.Many kept) ∷ more) = Some IsDropped
tale (Notes (note.Got from to octets) ∷ more) = Some IsHandedUp
tale (Notes (note.Report from to reason place octets) ∷ more) = Some IsHandedUp
tale (Notes (note.Sent kind unit id from to len) ∷ more) = Some IsHandedUp
tale (Notes (note.Refused why value) ∷ more) = Some IsHandedUp
tale (Notes (note.Echoed from to unit) ∷ more) = Some IsHandedUp
tale (Notes (note.Stray from to) ∷ more) = Some IsHandedUp
tale (Notes (note.Held id offset held) ∷ more) = Some IsKept
tale (Notes (note.Repeat id offset) ∷ more) = Some WasKept
tale (Notes (note.NotMine to) ∷ more) = Some IsLeft
tale _ = None

tale_on : (hop : Hop) (pieces : List Packet) (behind : List Output) → pieces ≢ [] → tale (transmissions hop (Some pieces) ++ behind) ≡ Some GoesOn
tale_on hop [] behind some = absurd (some refl)
tale_on hop (piece ∷ pieces) behind some = refl

tale_of_room : (told : Note) (more : List Output) → TellsOfRoom told → tale (Notes told ∷ more) ≡ Some IsDropped
tale_of_room told more (inl slot) = ap (λ (n : Note). tale (Notes n ∷ more)) slot.1
tale_of_room told more (inr (inl crowded)) = ap (λ (n : Note). tale (Notes n ∷ more)) crowded.2
tale_of_room told more (inr (inr many)) = ap (λ (n : Note). tale (Notes n ∷ more)) many.1

tale_of_cause : (reason : ℕ) (told : Note) (more : List Output) → TellsCause reason told → tale (Notes told ∷ more) ≡ Some IsDropped
tale_of_cause reason told more (inl meets) = ap (λ (n : Note). tale (Notes n ∷ more)) meets.1
tale_of_cause reason told more (inr room) = tale_of_room told more room.0

tale_of_discard : (s : SystemState) (p : Packet) (reason : ℕ) (told more : List Output) → TellsOfDiscard s p reason told
    → tale (told ++ more) ≡ Some IsDropped
tale_of_discard s p reason told more (inl alone) = ap (λ (outputs : List Output). tale (outputs ++ more)) alone.0
tale_of_discard s p reason told more (inr behind) =
    ap (λ (outputs : List Output). tale (outputs ++ more)) behind.1
    ∙ tale_of_cause reason behind.0 (Notes (note.Discard reason 0) ∷ more) behind.2

tale_of_unit : (s : SystemState) (kind : Kind) (from to octets : List ℕ) (effect : Effect) → TellsOfUnit s kind from to octets effect
    → tale effect.outputs ≡ Some IsHandedUp
tale_of_unit s Dt from to octets effect told = ap tale told
tale_of_unit s Er from to octets effect told = ap tale told.2
tale_of_unit s Erq from to octets effect (inl made) = ap tale made.told
tale_of_unit s Erq from to octets effect (inr refuses) = ap tale refuses.told
tale_of_unit s Erp from to octets effect (inl echoed) = ap tale echoed.1
tale_of_unit s Erp from to octets effect (inr stray) = ap tale stray

module _ (s : SystemState) (p : Packet) (following : List ℕ) where
  tale_is : (effect : Effect) (fate : Fate) → Meets s p following effect fate → tale effect.outputs ≡ Some fate
  tale_is effect GoesOn m = ap tale m.given ∙ tale_on m.hop m.pieces m.behind m.all.some
  tale_is effect IsDropped m = ap tale m.given ∙ tale_of_discard s p m.reason m.told m.report m.tells
  tale_is effect IsHandedUp m = tale_of_unit s p.unit.kind p.unit.source p.unit.destination m.octets effect m.told
  tale_is effect IsKept m = ap tale m.told
  tale_is effect WasKept m = ap tale m.told
  tale_is effect IsLeft m = ap tale m.told

  one_fate : (effect : Effect) (fate : Fate) → Meets s p following effect fate → HasOneFate s p following effect
  one_fate effect fate m = record {
    fate = fate;
    met = m;
    one = λ other o. same_Some other fate (sym (tale_is effect other o) ∙ tale_is effect fate m);
  }

  -- where nothing is given out there is no fate
  pub none_silent : (effect : Effect) → HasOneFate s p following effect → effect.outputs ≡ [] → ⊥
  none_silent effect is none = let told : tale [] ≡ Some is.fate = ap tale (sym none) ∙ tale_is effect is.fate is.met in cc

-- Discards.

pub reports_keep : (s : SystemState) (frame : List ℕ) (reason place : ℕ) (found : Option (List ℕ)) → (reports_from found s frame reason place).after.buffers ≡ s.buffers
reports_keep s frame reason place None = refl
reports_keep s frame reason place (Some own) = go (is_reportable frame)
  where
    go : (test : Bool) → (if test then makes s (report_unit s own frame reason place) else rests s).after.buffers ≡ s.buffers
    go true = refl
    go false = refl

module _ (laws : EditLaws) (s : SystemState) (p : Packet) (following : List ℕ) where
  abbrev reported : ℕ → Deed
  reported reason = reports s (wire p ++ following) reason 0

  drops : (reason : ℕ) → IsStopped s p reason → DropsPacket s p following (effect_of (discard s (Labelled p following) reason 0))
  drops reason stopped =
      let deed = reported reason in
      record {
        reason = reason;
        told = Notes (note.Discard reason 0) ∷ [];
        report = flat_map (outputs_of deed.after) deed.actions;
        given = refl;
        tells = inl (refl, stopped);
        sent = sends_ranges laws deed.after deed.actions;
        reported = discard_makes s (Labelled p following) reason 0;
        kept = reports_keep s (wire p ++ following) reason 0 (slice_get s.configuration.addresses 0);
      }

  drops_for : is_own s p.unit.destination ≡ true → (cause : Note) (reason : ℕ) → TellsCause reason cause
      → DropsPacket s p following (effect_of (and_then (tells s cause) (λ t. discard t (Labelled p following) reason 0)))
  drops_for own cause reason causes =
      let deed = reported reason in
      record {
        reason = reason;
        told = Notes cause ∷ Notes (note.Discard reason 0) ∷ [];
        report = flat_map (outputs_of deed.after) deed.actions;
        given = refl;
        tells = inr (cause, refl, causes, own);
        sent = sends_ranges laws deed.after deed.actions;
        reported = discard_makes s (Labelled p following) reason 0;
        kept = reports_keep s (wire p ++ following) reason 0 (slice_get s.configuration.addresses 0);
      }

-- What is told of a whole unit.

pub tells_of : (s : SystemState) → AllByRecursion IsPort s.attached.ports → (buffers : List (Buffer Packet)) (kind : Kind) (from to octets : List ℕ)
    (options : List Parameter)
    → TellsOfUnit s kind from to octets (effect_of (hand_up (record s { buffers = buffers }) kind from to octets options))
tells_of s each buffers Dt from to octets options = refl
tells_of s each buffers Er from to octets options = (cause_in options, place_in options, refl)
tells_of s each buffers Erq from to octets options =
    made_or_refused s each buffers Erp to from octets (echo_ask (record s { buffers = buffers }) to from (length octets) false)
tells_of s each buffers Erp from to octets options = go (find (is_answer from to octets) s.pending)
  where
    go : (found : Option DataUnit) → TellsOfUnit s Erp from to octets (effect_of (takes_reply (record s { buffers = buffers }) from to octets found))
    go None = inr refl
    go (Some request) = inl (request.number, refl)

-- Segments that are kept.

-- why a segment may be refused
abbrev pub MayRefuse : (covered : Bool) → Option Answer → Type 0
MayRefuse covered None = Unit {0}
MayRefuse covered (Some buffer.Held) = ⊥
MayRefuse covered (Some buffer.Whole) = ⊥
MayRefuse covered (Some buffer.Repeat) = covered ≡ true
MayRefuse covered (Some (buffer.Interference there other)) = Unit {0}
MayRefuse covered (Some (buffer.NoSlot live)) = Unit {0}
MayRefuse covered (Some (buffer.Crowded held size)) = Unit {0}
MayRefuse covered (Some (buffer.Many segments)) = Unit {0}

module _ (limits : TableLimits) (moment : ℕ) (arrival : Arrival Packet) where
  pub refusal_may : (buffers : List (Buffer Packet))
      → MayRefuse (are_covered (kept_in (buffer_of arrival.key buffers)) arrival.offset arrival.len) (refusal limits arrival buffers)
  refusal_may buffers =
      let found = buffer_of arrival.key buffers in
      let covered = are_covered (kept_in found) arrival.offset arrival.len in
      let many : Option Answer = if nat_le limits.segments (kept buffers) then Some (buffer.Many (kept buffers)) else None in
      let crowded : Option Answer = if nat_lt limits.budget (held buffers + arrival.size) then Some (buffer.Crowded (held buffers) arrival.size) else many in
      let no_slot : Option Answer = if is_none found && nat_le limits.slots (length buffers) then Some (buffer.NoSlot (length buffers)) else crowded in
      let repeat : Option Answer = if covered then Some buffer.Repeat else no_slot in
      cond_both (clashes found arrival.shape) (Some (buffer.Interference (shape_in found arrival.shape) arrival.shape)) repeat (MayRefuse covered) (λ e. tt)
      (λ e. cond_both covered (Some buffer.Repeat) no_slot (MayRefuse covered) (λ is. is)
      (λ e. cond_both (is_none found && nat_le limits.slots (length buffers)) (Some (buffer.NoSlot (length buffers))) crowded (MayRefuse covered) (λ e. tt)
      (λ e. cond_both (nat_lt limits.budget (held buffers + arrival.size)) (Some (buffer.Crowded (held buffers) arrival.size)) many (MayRefuse covered) (λ e. tt)
      (λ e. cond_both (nat_le limits.segments (kept buffers)) (Some (buffer.Many (kept buffers))) None (MayRefuse covered) (λ e. tt) (λ e. tt)))))

  -- the buffer in which it is kept
  abbrev with_one : Option (Buffer Packet) → Buffer Packet
  with_one None = opened_by limits moment arrival
  with_one (Some before) = record before { kept = before.kept ++ arrival ∷ [] }

  found_with : (buffers : List (Buffer Packet))
      → buffer_of arrival.key (with_kept limits moment arrival buffers) ≡ Some (with_one (buffer_of arrival.key buffers))
  found_with [] = rw (same_key-refl arrival.key) refl
  found_with (b ∷ others) =
      elim (cases_Bool (same_key b.key arrival.key)) [
        | inl same ↦ rw same (rw same refl)
        | inr other ↦ rw other (rw other (found_with others))
      ]

  kept_with : (found : Option (Buffer Packet)) → (with_one found).kept ≡ kept_in found ++ arrival ∷ []
  kept_with None = refl
  kept_with (Some before) = refl

  same_parts : (a b : Shape) → a.total ≡ b.total → a.head_len ≡ b.head_len → a.kind ≡ b.kind → a ≡ b
  same_parts a b total head_len kind = λ i. record { total = total i; head_len = head_len i; kind = kind i }

  same_shape_is : (a b : Shape) → same_shape a b ≡ true → a ≡ b
  same_shape_is a b e =
      let first = and_parts (a.total == b.total) ((a.head_len == b.head_len) && (a.kind == b.kind)) e in
      let second = and_parts (a.head_len == b.head_len) (a.kind == b.kind) first.1 in
      same_parts a b (is_equal a.total b.total first.0) (is_equal a.head_len b.head_len second.0) (is_equal a.kind b.kind second.1)

  shape_with : (found : Option (Buffer Packet)) → clashes found arrival.shape ≡ false → (with_one found).shape ≡ arrival.shape
  shape_with None fits = refl
  shape_with (Some before) fits = same_shape_is before.shape arrival.shape (not-false (same_shape before.shape arrival.shape) fits)

  -- where that is whole, the segment makes its unit whole
  pub whole_with : (buffers : List (Buffer Packet)) → refusal limits arrival buffers ≡ None
      → is_whole_in (buffer_of arrival.key (with_kept limits moment arrival buffers)) ≡ true
      → MakesWhole buffers arrival (data_in (buffer_of arrival.key (with_kept limits moment arrival buffers)))
  whole_with buffers e whole =
      let found = buffer_of arrival.key buffers in
      let one : Buffer Packet = with_one found in
      let with : buffer_of arrival.key (with_kept limits moment arrival buffers) ≡ Some one = found_with buffers in
      let fits : clashes found arrival.shape ≡ false = (if_none (clashes found arrival.shape) _ _ e).0 in
      let shape : one.shape ≡ arrival.shape = shape_with found fits in
      let kept : one.kept ≡ together buffers arrival = kept_with found in
      let places : Shape → List ℕ = λ shape. range_with_len 0 (data_len shape) in
      record {
        all = ap (λ (xs : List (Arrival Packet)). are_covered xs 0 (data_len arrival.shape)) (sym kept)
            ∙ ap (λ (shape : Shape). are_covered one.kept 0 (data_len shape)) (sym shape)
            ∙ ap is_whole_in (sym with)
            ∙ whole;
        data_are = ap data_in with
            ∙ ap (λ (shape : Shape). map (λ place. octet_by octet_of place (earliest one.kept place)) (places shape)) shape
            ∙ ap (λ (xs : List (Arrival Packet)). map (λ place. octet_by octet_of place (earliest xs place)) (places arrival.shape)) kept;
      }

  there_with : (buffers : List (Buffer Packet)) → Contains (segments_in (with_kept limits moment arrival buffers)) arrival
  there_with [] = (0, omega arith, refl)
  there_with (b ∷ others) =
      elim (cases_Bool (same_key b.key arrival.key)) [
        | inl same ↦
            rw same
            (Contains-append_left (b.kept ++ arrival ∷ []) (segments_in others) arrival
            (Contains-append_right b.kept (arrival ∷ []) arrival (0, omega arith, refl)))
        | inr other ↦ rw other (Contains-append_right b.kept (segments_in (with_kept limits moment arrival others)) arrival (there_with others))
      ]

-- Packets.

off_route : (s : SystemState) (p : Packet) → (is_complete p.options && not (is_named s (target_of p.options))) ≡ true → ¬ (IsOnRoute s p)
off_route s p off on =
    let named = is_named s (target_of p.options) in
    let parts = and_parts (is_complete p.options) (not named) off in
    both_ways named (not-true named parts.1) (ap (is_named s) (on parts.0) ∙ same-itself (title_of s))

elsewhere : (s : SystemState) (p : Packet) (way : Way) → (is_complete (options_behind s p.options) && not (ends_at (aim_of s p) way.title)) ≡ true
    → ¬ (IsAllowedWay s p way)
elsewhere s p way off allowed =
    let parts = and_parts (is_complete (options_behind s p.options)) (not (ends_at (aim_of s p) way.title)) off in
    both_ways (ends_at (aim_of s p) way.title) (not-true (ends_at (aim_of s p) way.title) parts.1) (ends way.title (allowed parts.0))
  where
    ends : (found : Option (List ℕ)) → ((title : List ℕ) → found ≡ Some title → title ≡ aim_of s p) → ends_at (aim_of s p) found ≡ true
    ends None h = refl
    ends (Some title) h = same_from_equal title (aim_of s p) (h title refl)

pub ends_with_hellos : (s : SystemState) (p : Packet) (following : List ℕ) (came : Neighbour) (to_group : Bool)
    → EndsWithHellos (packet_comes s came p following) (step s (FrameComes came.port came.snpa to_group (Labelled p following)))
ends_with_hellos s p following came to_group =
    let come = packet_comes s came p following in
    let only = only_responds come.after came to_group p in
    record {
      hellos = responds come.after came to_group p;
      only = only;
      after = refl;
      outputs = refl;
      units = ap (λ (more : List DataUnit). come.units ++ more) only.units ∙ append-nil come.units;
    }

module _ (laws : EditLaws) (s : SystemState) (each : AllByRecursion IsPort s.attached.ports) (p : Packet) (following : List ℕ) where
  abbrev Fated : Deed → Type 0
  Fated deed = HasOneFate s p following (effect_of deed)

  module _ (own : is_own s p.unit.destination ≡ true) where
    dropped_for : (cause : Note) (reason : ℕ) → TellsCause reason cause
        → Fated (and_then (tells s cause) (λ t. discard t (Labelled p following) reason 0))
    dropped_for cause reason causes =
        one_fate s p following (effect_of (and_then (tells s cause) (λ t. discard t (Labelled p following) reason 0))) IsDropped
        (drops_for laws s p following own cause reason causes)

    abbrev arrival : Arrival Packet
    arrival = offered p following

    abbrev later : List (Buffer Packet)
    later = with_kept (table_limits s) s.moment arrival s.buffers

    kept_or_whole : refusal (table_limits s) arrival s.buffers ≡ None → (whole : Bool) → is_whole_in (buffer_of arrival.key later) ≡ whole
        → Fated (takes_in s (Labelled p following) arrival later (if whole then buffer.Whole else buffer.Held))
    kept_or_whole none true e =
        one_fate s p following (effect_of (takes_in s (Labelled p following) arrival later buffer.Whole)) IsHandedUp
        (record {
          own = own;
          octets = data_in (buffer_of arrival.key later);
          whole = inr (whole_with (table_limits s) s.moment arrival s.buffers none e);
          told = tells_of s each (without arrival.key later) p.unit.kind p.unit.source p.unit.destination (data_in (buffer_of arrival.key later)) p.options;
        })
    kept_or_whole none false e =
        one_fate s p following (effect_of (takes_in s (Labelled p following) arrival later buffer.Held)) IsKept
        (record { own = own; there = there_with (table_limits s) s.moment arrival s.buffers; told = refl; unmade = refl })

    by_refusal : (refused : Option Answer) → refusal (table_limits s) arrival s.buffers ≡ refused
        → MayRefuse (are_covered (kept_in (buffer_of arrival.key s.buffers)) p.offset p.length) refused
        → Fated (takes_in s (Labelled p following) arrival (buffers_of refused s.buffers later) (answer_of refused arrival.key later))
    by_refusal None e may = kept_or_whole e (is_whole_in (buffer_of arrival.key later)) refl
    by_refusal (Some buffer.Held) e may = absurd may
    by_refusal (Some buffer.Whole) e may = absurd may
    by_refusal (Some buffer.Repeat) e may =
        one_fate s p following (effect_of (tells s (note.Repeat arrival.key.id arrival.offset))) WasKept
        (record { own = own; covered = may; told = refl; same = refl; unmade = refl })
    by_refusal (Some (buffer.Interference there other)) e may = dropped_for (note.Interference arrival.key.id) 0xc0 (inl (arrival.key.id, refl, refl))
    by_refusal (Some (buffer.NoSlot live)) e may = dropped_for (note.NoSlot live) 0x03 (inr (inl (live, refl), refl))
    by_refusal (Some (buffer.Crowded held size)) e may = dropped_for (note.Crowded held size) 0x03 (inr (inr (inl (held, size, refl)), refl))
    by_refusal (Some (buffer.Many segments)) e may = dropped_for (note.Many segments) 0x03 (inr (inr (inr (segments, refl)), refl))

    received : Fated (receive s p following)
    received =
        cond_both (is_all p) (hand_up s p.unit.kind p.unit.source p.unit.destination (value_of p).body p.options) (offer s (Labelled p following) arrival) Fated
        (λ all. one_fate s p following
        (effect_of (hand_up s p.unit.kind p.unit.source p.unit.destination (value_of p).body p.options)) IsHandedUp
        (record {
          own = own;
          octets = (value_of p).body;
          whole = inl ((all_where_whole p).0 all, refl);
          told = tells_of s each s.buffers p.unit.kind p.unit.source p.unit.destination (value_of p).body p.options;
        }))
        (λ part. by_refusal (refusal (table_limits s) arrival s.buffers) refl (refusal_may (table_limits s) s.moment arrival s.buffers))

  module _ (came : Neighbour) (h : IsCarriable p) where
    dropped : (reason : ℕ) → IsStopped s p reason → HasOneFate s p following (discards s p following reason)
    dropped reason stopped = one_fate s p following (discards s p following reason) IsDropped (drops laws s p following reason stopped)

    sends_all_on : s.configuration.role ≡ Router → (way : Way) (port : PortConfig) (pieces : List Packet)
        → slice_get s.attached.ports way.neighbour.port ≡ Some port → loss_at port < p.lifetime
        → cut (forwarded p (loss_at port) (options_behind s p.options)) port.mtu ≡ Some pieces → IsItsWay s p way
        → SendsAllOn s p (gives s (going s came p (options_behind s p.options) way pieces))
    sends_all_on router way port pieces there alive gives known =
        let options = options_behind s p.options in
        let wide : 512 ≤ port.mtu = (AllByRecursion-slice_get IsPort s.attached.ports way.neighbour.port port there each).mtu.least in
        record {
          router = router;
          hop = hop_by way;
          pieces = pieces;
          behind = redirects s came p options way;
          given = refl;
          all = onward_is_all laws s p (loss_at port) h port.mtu pieces wide gives;
          way = its_way s came p following way known;
          onward = AllByRecursion-implies (IsPartOf (forwarded p (loss_at port) options)) (GoesOnFrom s way.neighbour.port p)
              (part_goes_on laws s p way.neighbour.port port there alive) pieces (cut_is_parts (forwarded p (loss_at port) options) port.mtu pieces gives);
          redirects = redirects_are (λ output. sends_esis output ≡ true) s came p options way (λ none. refl);
          same = refl;
          unmade = refl;
        }

    module _ (other : is_own s p.unit.destination ≡ false) (router : s.configuration.role ≡ Router) where
      abbrev options : List Parameter
      options = options_behind s p.options

      stopped : (reason : ℕ) → CannotGoOn s p reason → HasOneFate s p following (discards s p following reason)
      stopped reason cannot = dropped reason (inr (router, other, cannot))

      by_pieces : (way : Way) → IsItsWay s p way → (port : PortConfig) → slice_get s.attached.ports way.neighbour.port ≡ Some port
          → loss_at port < p.lifetime → (found : Option (List Packet)) → cut (forwarded p (loss_at port) options) port.mtu ≡ found
          → HasOneFate s p following (pieces_go_on s came p following options way found)
      by_pieces way its port there alive None e = stopped 0x05 (inr (inr (way, its.known, inr (inr (port, there, inr (e, refl))))))
      by_pieces way its port there alive (Some pieces) e =
          one_fate s p following (gives s (going s came p options way pieces)) GoesOn (sends_all_on router way port pieces there alive e its)

      by_port : (way : Way) → IsItsWay s p way → (found : Option PortConfig) → slice_get s.attached.ports way.neighbour.port ≡ found
          → HasOneFate s p following (goes_on_by s came p following options way found)
      by_port way its None e = stopped 0x81 (inr (inr (way, its.known, inr (inl (e, refl)))))
      by_port way its (Some port) e =
          let pieces = cut (forwarded p (loss_at port) options) port.mtu in
          cond_both (nat_le p.lifetime (loss_at port)) (discards s p following 0xa0) (pieces_go_on s came p following options way pieces)
          (HasOneFate s p following)
          (λ over. stopped 0xa0 (inr (inr (way, its.known, inr (inr (port, e, inl (leb-true p.lifetime (loss_at port) over, refl)))))))
          (λ alive. by_pieces way its port e (leb-false p.lifetime (loss_at port) alive) pieces refl)

      by_way : (is_complete p.options && not (is_named s (target_of p.options))) ≡ false → (found : Option Way) → way_of s (aim_of s p) ≡ found
          → HasOneFate s p following (goes_on_way s came p following options found)
      by_way on None e = stopped (no_way_to (target_of options)) (inr (inl (e, refl)))
      by_way on (Some way) e =
          cond_both (is_complete options && not (ends_at (aim_of s p) way.title)) (discards s p following 0x93)
          (goes_on_by s came p following options way (slice_get s.attached.ports way.neighbour.port)) (HasOneFate s p following)
          (λ off. stopped 0x93 (inr (inr (way, e, inl (elsewhere s p way off, refl)))))
          (λ ends. by_port way (record { known = e; on_route = on; ends = ends }) (slice_get s.attached.ports way.neighbour.port) refl)

      router_fate : HasOneFate s p following (passes_by Router s came p following)
      router_fate =
          cond_both (is_complete p.options && not (is_named s (target_of p.options))) (discards s p following 0x93)
          (goes_on_with s came p following options) (HasOneFate s p following) (λ off. stopped 0x93 (inl (off_route s p off, refl)))
          (λ on. by_way on (way_of s (aim_of s p)) refl)

    by_role : is_own s p.unit.destination ≡ false → (role : Role) → s.configuration.role ≡ role → HasOneFate s p following (passes_by role s came p following)
    by_role other Host is =
        one_fate s p following (passes_by Host s came p following) IsLeft (record { host = is; other = other; told = refl; same = refl; unmade = refl })
    by_role other Router is = router_fate other is

    pub packet_fate : HasOneFate s p following (packet_comes s came p following)
    packet_fate =
        cond_both (p.lifetime == 0) _ _ (HasOneFate s p following) (λ over. dropped 0xa0 (inl (is_equal p.lifetime 0 over, refl)))
        (λ alive. cond_both (is_own s p.unit.destination) (effect_of (receive s p following)) (passes_by s.configuration.role s came p following)
        (HasOneFate s p following) received (λ other. by_role other s.configuration.role refl))

    pub frame_fate : (to_group : Bool) → HasOneFateInFrame s p following (step s (FrameComes came.port came.snpa to_group (Labelled p following)))
    frame_fate to_group =
        record { first = packet_comes s came p following; fate = packet_fate; hellos = ends_with_hellos s p following came to_group }

-- Octets that spell no PDU.

refused_octets : (s : SystemState) (octets : List ℕ) (broken : Option OptionRefusal) → TellsOfOctets (effect_of (discard_refused s octets broken)).outputs
refused_octets s octets None = tt
refused_octets s octets (Some broken) = tt

unheard_octets : (s : SystemState) (refused : Option EsisRefusal) → TellsOfOctets (effect_of (tells s (unheard_note refused))).outputs
unheard_octets s None = tt
unheard_octets s (Some NotEsis) = tt
unheard_octets s (Some (Broken rule place)) = tt

pub octets_told : (s : SystemState) (octets : List ℕ) → TellsOfOctets (effect_of (octets_come s octets)).outputs
octets_told s octets =
    cond_both (octet octets 1 == 0x81) (discard_refused s octets (rule_broken octets)) (tells s (unheard_note (why_refused octets)))
    (λ (deed : Deed). TellsOfOctets (effect_of deed).outputs) (λ begun. refused_octets s octets (rule_broken octets))
    (λ other. unheard_octets s (why_refused octets))
