-- When a moment comes, the buffers that are due are taken out, and what is left is sound; what is made is reports alone.
use Rattle.clnp_machine.proofs.ClnpBase.Lists.{AllByRecursion-no_element}
use Rattle.clnp_machine.proofs.ClnpBase.Sums.{sum_filter}
use Rattle.std.proofs.Common.{◌≡◌, sym, ap, subst, refl, ℕ, zero, suc, ◌+◌, ◌<◌, ◌≤◌, false, not, List, [], ◌∷◌, ◌++◌, length, Option, None, Some, arith}
use Rattle.std.specs.List.{AllByRecursion}
use Rattle.std.proofs.lemmas.List.Elements.{recursion_from_All}
use Rattle.clnp_machine.specs.ScenarioPlan.Plan.{Plan}
use Rattle.clnp_machine.specs.SystemTables.declared.reassembly.segment.Key.{Key}
use Rattle.clnp_machine.specs.Reassembly.Arrival.{same_key}
use Rattle.clnp_machine.specs.Reassembly.Buffer.{Buffer, due, first_carried, held, is_whole, size_of, without}
use Rattle.clnp_machine.specs.Unit.{DataUnit, Packet}
use Rattle.clnp_machine.specs.Content.{Labelled}
use Rattle.clnp_machine.specs.ClnpOptions.Reasons.{reason_code}
use Rattle.clnp_machine.specs.Pdus.declared.clnp_options.reasons.Reason.TheVariants.{LifetimeExpiredInReassembly}
use Rattle.clnp_machine.specs.System.{SystemState}
use Rattle.clnp_machine.specs.Local.{Action, Deed, Sends, Tells, at_moment, discard_first, expire, give_up_due, gives_up, made_in, tick}
use Rattle.clnp_machine.proofs.Ending.{without_fewer}
use Rattle.clnp_safety.specs.Invariant.{BufferIsSound, SystemIsSound}
use Rattle.clnp_safety.specs.StepLaws.{StepLaws}
use Rattle.clnp_safety.proofs.Deeds.{IsReport, discard_reports, with_buffers}
use Rattle.clnp_safety.proofs.Kept.{all_without, due_is, none_due}
use Rattle.clnp_safety.proofs.Uses.{accounted_later, uses_later}

module _ (laws : StepLaws) (plan : Plan) (units : List DataUnit) (before place : ℕ) where
  -- the system is sound but for the moment that has come, at which some of its buffers may be due
  abbrev WasSound : SystemState → Type 0
  WasSound s = SystemIsSound plan units place (at_moment before s)

  none_left : (s : SystemState) → before ≤ s.moment → WasSound s → AllByRecursion (λ (buffer : Buffer Packet). s.moment < buffer.deadline) s.buffers
      → SystemIsSound plan units place s
  none_left s later was not_due = record {
    stands_at = was.stands_at;
    declared = was.declared;
    hold = was.hold;
    reuse = was.reuse;
    uses = uses_later before s.moment s.identifiers.uses later was.uses;
    accounted = λ u there maker. accounted_later before s.moment s.identifiers u later (was.accounted u there maker);
    buffers = was.buffers;
    not_due = not_due;
    not_whole = was.not_whole;
    budget = was.budget;
    known = was.known;
    attached = was.attached;
    ports = was.ports;
  }

  taken_out : (s : SystemState) (key : Key) (count : ℕ) → WasSound s → WasSound (record s { buffers = without key s.buffers; count = count })
  taken_out s key count was =
      with_buffers plan units place (at_moment before s) (without key s.buffers) count was (all_without (BufferIsSound plan units) key s.buffers was.buffers)
      (all_without (λ (b : Buffer Packet). before < b.deadline) key s.buffers was.not_due)
      (all_without (λ (b : Buffer Packet). is_whole b ≡ false) key s.buffers was.not_whole)
      (let less = sum_filter size_of (λ (b : Buffer Packet). not (same_key b.key key)) s.buffers in let within : held s.buffers ≤ s.configuration.settings.budget = was.budget in omega arith)

  give_up_is_sound : (most : ℕ) (s : SystemState) (found : Option (Buffer Packet)) → due s.moment s.buffers ≡ found → length s.buffers ≤ most + 1
      → before ≤ s.moment → WasSound s
      → ((t : SystemState) → length t.buffers ≤ most → before ≤ t.moment → WasSound t → SystemIsSound plan units place (expire most t).after)
      → SystemIsSound plan units place (give_up_due found s (expire most)).after
  give_up_is_sound most s None e few later was rest =
      none_left s later was (recursion_from_All (λ (b : Buffer Packet). s.moment < b.deadline) s.buffers (none_due s.moment s.buffers e))
  give_up_is_sound most s (Some ended) e few later was rest =
      let there = due_is s.moment s.buffers ended e in
      let fewer = without_fewer ended.key s.buffers there.before there.behind ended there.stands_there refl in
      let count : ℕ = (gives_up s ended).after.count in
      let left : SystemState = record s { buffers = without ended.key s.buffers; count = count } in
      subst (λ (t : SystemState). SystemIsSound plan units place (expire most t).after) (sym (laws.deeds.ended s ended))
      (rest left (omega arith) later (taken_out s ended.key count was))

  expire_is_sound : (most : ℕ) (s : SystemState) → length s.buffers ≤ most → before ≤ s.moment → WasSound s → SystemIsSound plan units place (expire most s).after
  expire_is_sound zero s few later was = none_left s later was (AllByRecursion-no_element (λ (b : Buffer Packet). s.moment < b.deadline) s.buffers few)
  expire_is_sound (suc most) s few later was = give_up_is_sound most s (due s.moment s.buffers) refl (omega arith) later was (expire_is_sound most)

pub tick_is_sound : StepLaws → (plan : Plan) (units : List DataUnit) (now place : ℕ) (s : SystemState) → SystemIsSound plan units place s → s.moment ≤ now
    → SystemIsSound plan units place (tick s now).after
tick_is_sound laws plan units now place s sound later =
    expire_is_sound laws plan units s.moment place (length s.buffers) (at_moment now s) (omega arith) later sound

-- Units that are made at a tick are reports.

reports_both : (now : ℕ) (first later : List Action) → AllByRecursion (IsReport now) (made_in first) → AllByRecursion (IsReport now) (made_in later)
    → AllByRecursion (IsReport now) (made_in (first ++ later))
reports_both now [] later h k = k
reports_both now (Tells told ∷ first) later h k = reports_both now first later h k
reports_both now (Sends u ∷ first) later h k = (h.0, reports_both now first later h.1 k)

first_reports : (s : SystemState) (first : Option Packet) → AllByRecursion (IsReport s.moment) (made_in (discard_first s first).actions)
first_reports s None = tt
first_reports s (Some p) = discard_reports s (Labelled p []) (reason_code LifetimeExpiredInReassembly) 0

given_up_reports : (s : SystemState) (ended : Buffer Packet) → AllByRecursion (IsReport s.moment) (made_in (gives_up s ended).actions)
given_up_reports s ended = first_reports (record s { buffers = without ended.key s.buffers }) (first_carried ended)

found_reports : StepLaws → (s : SystemState) (found : Option (Buffer Packet)) (next : SystemState → Deed)
    → ((t : SystemState) → AllByRecursion (IsReport t.moment) (made_in (next t).actions)) → AllByRecursion (IsReport s.moment) (made_in (give_up_due found s next).actions)
found_reports laws s None next rest = tt
found_reports laws s (Some ended) next rest =
    let after = (gives_up s ended).after in
    reports_both s.moment (gives_up s ended).actions (next after).actions (given_up_reports s ended)
    (subst (λ (n : ℕ). AllByRecursion (IsReport n) (made_in (next after).actions)) (ap (λ (t : SystemState). t.moment) (laws.deeds.ended s ended)) (rest after))

expired_report : StepLaws → (most : ℕ) (s : SystemState) → AllByRecursion (IsReport s.moment) (made_in (expire most s).actions)
expired_report laws zero s = tt
expired_report laws (suc most) s = found_reports laws s (due s.moment s.buffers) (expire most) (expired_report laws most)

pub tick_reports : StepLaws → (s : SystemState) (now : ℕ) → AllByRecursion (IsReport now) (made_in (tick s now).actions)
tick_reports laws s now = expired_report laws (length s.buffers) (at_moment now s)
