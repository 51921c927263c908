-- Actions of the model that were appended, one after another.
use Rattle.std.proofs.Common.{◌≡◌, ◌∙◌, ap, List, [], ◌∷◌, ◌++◌, append_assoc}
use Rattle.clnp_machine.specs.ClnpPlan.declared.note.Note.{Note}
use Rattle.clnp_machine.specs.Local as locally
use Rattle.clnp_machine.specs.Local.{Sends, Tells, sent_note}
use Rattle.clnp_machine.specs.Unit.{DataUnit}
use Rattle.clnp_systems.specs.declared.action.Action.{Action}
use Rattle.clnp_systems.specs.declared.action.Action.TheVariants.{Note as Noted, Send}
use Rattle.clnp_systems.specs.declared.action.Made.{Made}
use Rattle.clnp_systems.specs.Local.{Appends, DoAll, Does}

pub do_all-append : (actions more : List Action) (others rest : List locally.Action) → DoAll actions others → DoAll more rest → DoAll (actions ++ more) (others ++ rest)
do_all-append [] more [] rest here there = there
do_all-append [] more (other ∷ others) rest here there = absurd here
do_all-append (action ∷ actions) more [] rest here there = absurd here
do_all-append (action ∷ actions) more (other ∷ others) rest here there = (here.0, do_all-append actions more others rest here.1 there)

pub appends-more : (old mid new : List Action) (others rest : List locally.Action) → Appends old mid others → Appends mid new rest → Appends old new (others ++ rest)
appends-more old mid new others rest here there = record {
  actions = here.actions ++ there.actions;
  appended = there.appended ∙ ap (λ (l : List Action). l ++ there.actions) here.appended ∙ append_assoc old here.actions there.actions;
  do_all = do_all-append here.actions there.actions others rest here.do_all there.do_all;
}

pub appends-note : (before after : List Action) (note told : Note) → after ≡ before ++ Noted note ∷ [] → note ≡ told → Appends before after (Tells told ∷ [])
appends-note before after note told appended same = record { actions = Noted note ∷ []; appended = appended; do_all = (same, tt) }

-- the note of a unit, and then the unit
pub appends-made : (before mid after : List Action) (u : DataUnit) (note : Note) (made : Made) → mid ≡ before ++ Noted note ∷ []
    → after ≡ mid ++ Send made ∷ [] → note ≡ sent_note u → Does (Send made) (Sends u) → Appends before after (Tells (sent_note u) ∷ Sends u ∷ [])
appends-made before mid after u note made noted sent same does =
    appends-more before mid after (Tells (sent_note u) ∷ []) (Sends u ∷ []) (appends-note before mid note (sent_note u) noted same)
    (record { actions = Send made ∷ []; appended = sent; do_all = (does, tt) })
