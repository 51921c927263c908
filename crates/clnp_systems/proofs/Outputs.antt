-- What is given out for several actions, one after another.
use Rattle.std.proofs.Common.{◌≡◌, ◌∙◌, refl, sym, ap, subst, ℕ, zero, suc, ◌<◌, List, [], ◌∷◌, ◌++◌, length, take, drop, set, get_or, ◌+◌, arith, None}
use Rattle.std.specs.List.{AllByRecursion, flat_map}
use Rattle.std.proofs.lemmas.Grind.{flat_map-append}
use Rattle.std.proofs.lemmas.List.{append-nil, drop-set-lt, drop_more, take_more}
use Rattle.clnp_machine.specs.ClnpPlan.declared.output.Output.{Output}
use Rattle.clnp_machine.specs.System as machine
use Rattle.clnp_machine.specs.System.{SystemState}
use Rattle.clnp_machine.specs.Local as locally
use Rattle.clnp_machine.specs.Local.{Sends, Tells}
use Rattle.clnp_machine.specs.Step.{outputs_of}
use Rattle.clnp_machine.specs.Given.{Appends}
use Rattle.clnp_systems.specs.declared.action.Action.{Action}
use Rattle.clnp_systems.specs.Local.{Does, DoAll}
use Rattle.clnp_systems.specs.Local as local_entity
use Rattle.clnp_systems.specs.Does.{StaysInFront}
use Rattle.clnp_systems.specs.Deeds.{IsFresh}
use Rattle.clnp_systems.specs.EntityState.{SystemEntityState}
use Rattle.clnp_systems.specs.EntityStands.{PartsStandSince}
pub use Rattle.clnp_machine.proofs.Given.{appends_both, appends_none, appends_note}

-- outputs that stay in front of more, and of more behind that
pub front_more : (before mid after : List Output) → StaysInFront before mid → StaysInFront mid after → StaysInFront before after
front_more [] mid after first second = refl
front_more (x ∷ before) [] after first second = absurd (cc)
front_more (x ∷ before) (y ∷ mid) [] first second = absurd (cc)
front_more (x ∷ before) (y ∷ mid) (z ∷ after) first second =
    let here : take (length before) mid ≡ before = cc in
    let there : take (length mid) after ≡ mid = cc in
    let rest : take (length before) after ≡ before = front_more before mid after here there in
    cc

-- some actions of the model, and the last of them, apart
pub record DoLast (actions : List Action) (action : Action) (others : List locally.Action) : Type 0 where
  pub front : List locally.Action
  pub last : locally.Action
  pub are : others ≡ front ++ last ∷ []
  pub do_front : DoAll actions front
  pub does : Does action last

no_more : (action : Action) (other : locally.Action) (others : List locally.Action) → Does action other → DoAll [] others → DoLast [] action (other ∷ others)
no_more action other [] h k = record { front = []; last = other; are = refl; do_front = tt; does = h }
no_more action other (more ∷ others) h k = absurd k

do_last : (actions : List Action) (action : Action) (others : List locally.Action) → DoAll (actions ++ action ∷ []) others → DoLast actions action others
do_last [] action [] h = absurd h
do_last [] action (other ∷ others) h = no_more action other others h.0 h.1
do_last (first ∷ actions) action [] h = absurd h
do_last (first ∷ actions) action (other ∷ others) h =
    let r = do_last actions action others h.1 in
    record { front = other ∷ r.front; last = r.last; are = ap (λ (list : List locally.Action). other ∷ list) r.are; do_front = (h.0, r.do_front); does = r.does }

-- each of the actions is one of the model's
pub does_at : (actions : List Action) (others : List locally.Action) (i : ℕ) (action : Action) → i < length actions → action ≡ get_or actions i action
    → DoAll actions others → (other : locally.Action) × Does action other
does_at [] others i action within at h = absurd (omega arith)
does_at (first ∷ actions) [] i action within at h = absurd h
does_at (first ∷ actions) (other ∷ others) zero action within at h = (other, subst (λ (one : Action). Does one other) (sym at) h.0)
does_at (first ∷ actions) (other ∷ others) (suc i) action within at h = does_at actions others i action (omega arith) at h.1

-- the action at a place of a list that is left as it was from there on, and the list when another stands at that place
pub record NextOf (actions list : List Action) (i : ℕ) (action : Action) : Type 0 where
  pub is : action ≡ get_or actions i action
  pub more : take (i + 1) actions ≡ take i actions ++ action ∷ []
  pub left : (other : Action) → drop (i + 1) (set list i other) ≡ drop (i + 1) actions

pub next_of : (actions list : List Action) (i : ℕ) (fallback : Action) → i < length actions → length list ≡ length actions
    → drop i list ≡ drop i actions → NextOf actions list i (get_or list i fallback)
next_of actions list i fallback within long left =
    let action = get_or list i fallback in
    let in_list : i < length list = omega arith in
    let here : drop i list ≡ action ∷ drop (i + 1) list = drop_more list i fallback in_list in
    let there = drop_more actions i action within in
    let same : action ≡ get_or actions i action = cc in
    record {
      is = same;
      more = take_more actions i action within ∙ ap (λ (one : Action). take i actions ++ one ∷ []) (sym same);
      left = λ other. drop-set-lt (i + 1) list i other (omega arith) ∙ cc;
    }

all_last : (moment : ℕ) (front : List locally.Action) (last : locally.Action) → AllByRecursion (IsFresh moment) (front ++ last ∷ [])
    → AllByRecursion (IsFresh moment) front × IsFresh moment last
all_last moment [] last h = (tt, h.0)
all_last moment (other ∷ front) last h = let r = all_last moment front last h.1 in ((h.0, r.0), r.1)

-- what is given out for actions is what the model gives out for its own
abbrev pub GivesOut : SystemEntityState → (before after : List Output) → List Action → Type 0
GivesOut here before after actions =
    (s : SystemState) (since : ℕ) (others : List locally.Action) → PartsStandSince since here s → DoAll actions others
    → AllByRecursion (IsFresh s.moment) others → Appends s.moment None before after (flat_map (outputs_of s) others)

pub gives_none : (here : SystemEntityState) (list : List Output) → GivesOut here list list []
gives_none here list s since [] stands all fresh = appends_none s.moment None list list refl
gives_none here list s since (other ∷ others) stands all fresh = absurd all

pub gives_more : (here : SystemEntityState) (before mid after : List Output) (actions : List Action) (action : Action)
    → GivesOut here before mid actions
    → ((s : SystemState) (since : ℕ) (other : locally.Action) → PartsStandSince since here s → Does action other → IsFresh s.moment other
    → Appends s.moment None mid after (outputs_of s other))
    → GivesOut here before after (actions ++ action ∷ [])
gives_more here before mid after actions action so_far next s since others stands all fresh =
    let r = do_last actions action others all in
    let parts = all_last s.moment r.front r.last (subst (λ (list : List locally.Action). AllByRecursion (IsFresh s.moment) list) r.are fresh) in
    let both = appends_both s.moment None before mid after (flat_map (outputs_of s) r.front) (outputs_of s r.last)
    (so_far s since r.front stands r.do_front parts.0) (next s since r.last stands r.does parts.1) in
    let joined : flat_map (outputs_of s) others ≡ flat_map (outputs_of s) r.front ++ outputs_of s r.last =
    ap (λ (list : List locally.Action). flat_map (outputs_of s) list) r.are ∙ flat_map-append (outputs_of s) r.front (r.last ∷ [])
    ∙ ap (λ (list : List machine.Output). flat_map (outputs_of s) r.front ++ list) (append-nil (outputs_of s r.last)) in
    subst (λ (list : List machine.Output). Appends s.moment None before after list) (sym joined) both

-- the actions that were appended to a fresh list are all in it
pub all_done : (fresh actions : List Action) (others : List locally.Action) → fresh ≡ [] → local_entity.Appends fresh actions others → DoAll actions others
all_done fresh actions others none h =
    let all : actions ≡ h.actions = h.appended ∙ ap (λ (start : List Action). start ++ h.actions) none in
    subst (λ (list : List Action). DoAll list others) (sym all) h.do_all

pub none_done : (actions : List Action) (others : List locally.Action) → actions ≡ [] → DoAll actions others → others ≡ []
none_done [] [] none h = refl
none_done [] (other ∷ others) none h = absurd h
none_done (action ∷ actions) others none h = absurd (cc)

-- outputs that were appended to a fresh list, and this to another
pub appends_fresh : (moment : ℕ) (fresh list before after : List Output) (others : List machine.Output) → fresh ≡ [] → after ≡ before ++ list
    → Appends moment None fresh list others → Appends moment None before after others
appends_fresh moment fresh list before after others none written h =
    let all : list ≡ h.outputs = h.appended ∙ ap (λ (start : List Output). start ++ h.outputs) none in
    record { outputs = h.outputs; appended = written ∙ ap (λ (outputs : List Output). before ++ outputs) all; give_all = h.give_all }
