-- A redirect that is given to a system changes its next hop towards the redirect's destination alone, and no other system.
use Rattle.clnp_machine.proofs.ClnpBase.Lists.{AllByRecursion-any, slice_get-set, slice_get-set_other}
use Rattle.std.proofs.Common.{◌≡◌, ◌∙◌, sym, ap, refl, subst, ℕ, inl, inr, Bool, List}
use Rattle.std.specs.Prelude.{slice_get, slice_set, Option, None, Some}
use Rattle.std.proofs.lemmas.Bool.{cases_Bool}
use Rattle.std.proofs.lemmas.Option.{slice_get_within}
use Rattle.clnp_machine.specs.ClnpPlan.declared.config.Limits.{Limits}
use Rattle.clnp_machine.specs.Content.{Content}
use Rattle.clnp_machine.specs.System.{SystemState, FrameComes, Output, Transmits, SendsEsis, Notes, Effect}
use Rattle.clnp_machine.specs.Step.{step}
use Rattle.clnp_machine.specs.EveryStep.{IsRedirectFor, KeepsNextHop, KeepsNextHops}
use Rattle.clnp_machine.specs.ClnpNetwork.LabelledNetwork.{Numbered, LabelledNetwork, frame_to, give_to, is_late, put_out, takes_effect, with_effect}
use Rattle.clnp_machine.specs.ClnpNetwork.Safe.{ChangesOneNextHop, RedirectsChangeOneNextHop}
use Rattle.clnp_safety.proofs.Lines.{AnyLine}
use Rattle.clnp_safety.proofs.Steps.{Keeps, keeps-put_all_out}

-- What the outputs of a system leave of the systems.

abbrev Has : List SystemState → LabelledNetwork → Type 0
Has systems v = v.systems ≡ systems

put_out_has : (systems : List SystemState) (system : SystemState) (output : Output) (v : LabelledNetwork) → Has systems v → Keeps (Has systems) AnyLine (put_out system v output)
put_out_has systems system (Notes note) v k = record { world = k; lines = (tt, tt) }
put_out_has systems system (Transmits port target packet) v k = record { world = k; lines = (tt, tt) }
put_out_has systems system (SendsEsis port target value) v k = record { world = k; lines = (tt, tt) }

-- a system that takes a step changes no other
pub systems_after : (w : LabelledNetwork) (place : ℕ) (effect : Effect) → (takes_effect w place effect).world.systems ≡ slice_set w.systems place effect.after
systems_after w place effect =
    let systems = slice_set w.systems place effect.after in
    (keeps-put_all_out (Has systems) AnyLine effect.after effect.outputs
    (AllByRecursion-any (λ output. (v : LabelledNetwork) → Has systems v → Keeps (Has systems) AnyLine (put_out effect.after v output)) (put_out_has systems effect.after)
    effect.outputs)
    (with_effect w place effect) refl).world

-- where nothing changes, no next hop does
stays : (destination : List ℕ) (place : ℕ) (w : LabelledNetwork) → ChangesOneNextHop destination place w w
stays destination place w = record { others = λ other apart. refl; there = λ s here. (s, here, λ address apart. record { hop = refl; way = refl }) }

-- a system takes a step after which it sends as before but to one address
step_changes : (destination : List ℕ) (w : LabelledNetwork) (place : ℕ) (s : SystemState) (effect : Effect) → slice_get w.systems place ≡ Some s
    → KeepsNextHops destination s effect.after → ChangesOneNextHop destination place w (takes_effect w place effect).world
step_changes destination w place s effect here keeps = record {
  others = λ other apart.
      ap (λ systems. slice_get systems other) (systems_after w place effect)
      ∙ slice_get-set_other w.systems place other effect.after (λ same. apart (sym same));
  there = λ t at. (
    effect.after,
    ap (λ systems. slice_get systems place) (systems_after w place effect)
        ∙ slice_get-set w.systems place effect.after (slice_get_within w.systems place s here),
    let one : s ≡ t = let same : Some s ≡ Some t = sym here ∙ at in cc in
        λ address apart. subst (λ (u : SystemState). KeepsNextHop u effect.after address) one (keeps address apart),
  );
}

-- The machine's law on redirects.
abbrev pub OnRedirects : Type 0
OnRedirects =
    (s : SystemState) (port : ℕ) (sender : List ℕ) (to_group : Bool) (content : Content) (destination : List ℕ)
    → IsRedirectFor destination content → KeepsNextHops destination s (step s (FrameComes port sender to_group content)).after

module _ (law : OnRedirects) (limits : Limits) (w : LabelledNetwork) (given : Numbered) (place : ℕ) (destination : List ℕ)
    (is : IsRedirectFor destination given.copy.content) where
  -- the world after a copy was given to who was found
  abbrev Changes : Option SystemState → Type 0
  Changes found = ChangesOneNextHop destination place w (give_to limits given w place found).world

  given_changes : (found : Option SystemState) → slice_get w.systems place ≡ found → Changes found
  given_changes None e = stays destination place w
  given_changes (Some s) e =
      elim (cases_Bool (is_late limits w given.copy)) [
        | inl late ↦ rw late (stays destination place w)
        | inr soon ↦
            rw soon (step_changes destination w place s (step s (frame_to s given.copy)) e
            (law s _ given.copy.sender _ given.copy.content destination is))
      ]

pub redirects_change_one : OnRedirects → (limits : Limits) (w : LabelledNetwork) → RedirectsChangeOneNextHop limits w
redirects_change_one law limits w given place destination is =
    given_changes law limits w given place destination is (slice_get w.systems place) refl
