use Rattle.std.proofs.Common.{ℕ, ◌∷◌, ap, refl, sym, subst}
use Rattle.std.proofs.lemmas.Result.{on_err_weaker, on_ok_weaker}
use Rattle.clnp_machine.specs.ClnpOptions.Reasons.{reason_code}
use Rattle.clnp_machine.specs.Pdus.declared.clnp_options.reasons.Reason.TheVariants.{ReassemblyInterference}
use Rattle.clnp_machine.specs.ClnpPlan.declared.note.Note.TheVariants.{Held, Interference}
use Rattle.clnp_machine.specs.Local.{Tells, discard}
use Rattle.clnp_systems.specs.Local.{Appends}
use Rattle.clnp_systems.proofs.Appending.{appends-note}
use Rattle.clnp_systems.proofs.local.Local.tell.Goals as goal

pub returns-in-Held-clause-stands : goal.returns-in-Held-clause-stands
returns-in-Held-clause-stands c = rw (c.in-Held.is) (λ s content arrival kept stands same. stands)

pub returns-in-Held-clause-actions : goal.returns-in-Held-clause-actions
returns-in-Held-clause-actions c = rw (c.in-Held.is)
    (λ s content arrival kept stands same id offset.
    appends-note c.args.out.now.items c.note.new.out.items _ _ c.note.ensures.noted
    (rw (id, offset) (ap (λ (n : ℕ). Held c.args.id c.args.offset n) (c.held-held.ensures.held (record s { buffers = kept }) stands))))

pub returns-in-Repeat-clause-stands : goal.returns-in-Repeat-clause-stands
returns-in-Repeat-clause-stands c = rw (c.in-Repeat.is) (λ s content arrival kept stands same. stands)

pub returns-in-Repeat-clause-actions : goal.returns-in-Repeat-clause-actions
returns-in-Repeat-clause-actions c = rw (c.in-Repeat.is)
    (λ s content arrival kept stands same id offset.
    appends-note c.args.out.now.items c.note-in-Repeat.new.out.items _ _ c.note-in-Repeat.ensures.noted (rw (id, offset) refl))

pub returns-in-Interference-clause-actions : goal.returns-in-Interference-clause-actions
returns-in-Interference-clause-actions c = rw (c.in-Interference.is)
    (on_ok_weaker c.refuse.result
    (λ refused s content arrival kept stands same id offset.
    subst (λ (i : ℕ). Appends c.args.out.now.items c.refuse.new.out.items
    (Tells (Interference i) ∷ (discard s content (reason_code ReassemblyInterference) 0).actions)) (sym id) (refused s content stands same))
    c.refuse.ensures.actions)

pub returns-in-Interference-clause-stands : goal.returns-in-Interference-clause-stands
returns-in-Interference-clause-stands c = rw (c.in-Interference.is)
    (on_ok_weaker c.refuse.result (λ refused s content arrival kept stands same. refused s content stands same) c.refuse.ensures.stands)

pub returns-in-NoSlot-clause-stands : goal.returns-in-NoSlot-clause-stands
returns-in-NoSlot-clause-stands c = rw (c.in-NoSlot.is)
    (on_ok_weaker c.refuse-in-NoSlot.result (λ refused s content arrival kept stands same. refused s content stands same) c.refuse-in-NoSlot.ensures.stands)

pub returns-in-NoSlot-clause-actions : goal.returns-in-NoSlot-clause-actions
returns-in-NoSlot-clause-actions c = rw (c.in-NoSlot.is)
    (on_ok_weaker c.refuse-in-NoSlot.result (λ refused s content arrival kept stands same id offset. refused s content stands same) c.refuse-in-NoSlot.ensures.actions)

pub returns-in-Crowded-clause-stands : goal.returns-in-Crowded-clause-stands
returns-in-Crowded-clause-stands c = rw (c.in-Crowded.is)
    (on_ok_weaker c.refuse-in-Crowded.result (λ refused s content arrival kept stands same. refused s content stands same) c.refuse-in-Crowded.ensures.stands)

pub returns-in-Crowded-clause-actions : goal.returns-in-Crowded-clause-actions
returns-in-Crowded-clause-actions c = rw (c.in-Crowded.is)
    (on_ok_weaker c.refuse-in-Crowded.result (λ refused s content arrival kept stands same id offset. refused s content stands same) c.refuse-in-Crowded.ensures.actions)

pub returns-in-Many-clause-stands : goal.returns-in-Many-clause-stands
returns-in-Many-clause-stands c = rw (c.in-Many.is)
    (on_ok_weaker c.refuse-in-Many.result (λ refused s content arrival kept stands same. refused s content stands same) c.refuse-in-Many.ensures.stands)

pub returns-in-Many-clause-actions : goal.returns-in-Many-clause-actions
returns-in-Many-clause-actions c = rw (c.in-Many.is)
    (on_ok_weaker c.refuse-in-Many.result (λ refused s content arrival kept stands same id offset. refused s content stands same) c.refuse-in-Many.ensures.actions)

pub returns-in-Interference-clause-refused : goal.returns-in-Interference-clause-refused
returns-in-Interference-clause-refused c = rw (c.in-Interference.is) (on_err_weaker c.refuse.result (λ same. refl) c.refuse.ensures.same)

pub returns-in-Interference-clause-same : goal.returns-in-Interference-clause-same
returns-in-Interference-clause-same c = c.refuse.ensures.same

pub returns-in-Interference-clause-none : goal.returns-in-Interference-clause-none
returns-in-Interference-clause-none c = c.refuse.ensures.none

pub returns-in-Interference-clause-config : goal.returns-in-Interference-clause-config
returns-in-Interference-clause-config c = c.refuse.ensures.config

pub returns-in-Interference-clause-table : goal.returns-in-Interference-clause-table
returns-in-Interference-clause-table c = c.refuse.ensures.table

pub returns-in-NoSlot-clause-refused : goal.returns-in-NoSlot-clause-refused
returns-in-NoSlot-clause-refused c = rw (c.in-NoSlot.is) (on_err_weaker c.refuse-in-NoSlot.result (λ same. refl) c.refuse-in-NoSlot.ensures.same)

pub returns-in-NoSlot-clause-same : goal.returns-in-NoSlot-clause-same
returns-in-NoSlot-clause-same c = c.refuse-in-NoSlot.ensures.same

pub returns-in-NoSlot-clause-none : goal.returns-in-NoSlot-clause-none
returns-in-NoSlot-clause-none c = c.refuse-in-NoSlot.ensures.none

pub returns-in-NoSlot-clause-config : goal.returns-in-NoSlot-clause-config
returns-in-NoSlot-clause-config c = c.refuse-in-NoSlot.ensures.config

pub returns-in-NoSlot-clause-table : goal.returns-in-NoSlot-clause-table
returns-in-NoSlot-clause-table c = c.refuse-in-NoSlot.ensures.table

pub returns-in-Crowded-clause-refused : goal.returns-in-Crowded-clause-refused
returns-in-Crowded-clause-refused c = rw (c.in-Crowded.is) (on_err_weaker c.refuse-in-Crowded.result (λ same. refl) c.refuse-in-Crowded.ensures.same)

pub returns-in-Crowded-clause-same : goal.returns-in-Crowded-clause-same
returns-in-Crowded-clause-same c = c.refuse-in-Crowded.ensures.same

pub returns-in-Crowded-clause-none : goal.returns-in-Crowded-clause-none
returns-in-Crowded-clause-none c = c.refuse-in-Crowded.ensures.none

pub returns-in-Crowded-clause-config : goal.returns-in-Crowded-clause-config
returns-in-Crowded-clause-config c = c.refuse-in-Crowded.ensures.config

pub returns-in-Crowded-clause-table : goal.returns-in-Crowded-clause-table
returns-in-Crowded-clause-table c = c.refuse-in-Crowded.ensures.table

pub returns-in-Many-clause-refused : goal.returns-in-Many-clause-refused
returns-in-Many-clause-refused c = rw (c.in-Many.is) (on_err_weaker c.refuse-in-Many.result (λ same. refl) c.refuse-in-Many.ensures.same)

pub returns-in-Many-clause-same : goal.returns-in-Many-clause-same
returns-in-Many-clause-same c = c.refuse-in-Many.ensures.same

pub returns-in-Many-clause-none : goal.returns-in-Many-clause-none
returns-in-Many-clause-none c = c.refuse-in-Many.ensures.none

pub returns-in-Many-clause-config : goal.returns-in-Many-clause-config
returns-in-Many-clause-config c = c.refuse-in-Many.ensures.config

pub returns-in-Many-clause-table : goal.returns-in-Many-clause-table
returns-in-Many-clause-table c = c.refuse-in-Many.ensures.table
