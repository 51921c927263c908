-- A system whose ports or routes change is as sound as before: it makes nothing and says nothing, and they stay as they should be.
use Rattle.std.proofs.Common.{◌≡◌, ◌∙◌, refl, sym, subst, ℕ, List, [], ◌++◌}
use Rattle.std.specs.Prelude.{slice_get, Some}
use Rattle.std.proofs.lemmas.List.{append-nil}
use Rattle.std.proofs.lemmas.Option.{same_Some}
use Rattle.clnp_machine.proofs.ClnpBase.ListSteps.{all_set}
use Rattle.clnp_machine.specs.Nsap.Address.{IsAddress}
use Rattle.clnp_machine.specs.ClnpPlan.Configuration.{IsAddressedRoute, IsWithin}
use Rattle.clnp_machine.specs.ClnpPlan.Journal.{Line}
use Rattle.clnp_machine.specs.SystemTables.declared.forwarding.route.Route.{Route}
use Rattle.clnp_machine.specs.ScenarioPlan.Plan.{IsFit, Plan}
use Rattle.clnp_machine.specs.ClnpPlan.declared.scenario_plan.event.Move.{Move}
use Rattle.clnp_machine.specs.Change.{Change, PortIsAt, PortTakes, RouteIsGone, RouteIsSet}
use Rattle.clnp_machine.specs.Unit.{DataUnit}
use Rattle.clnp_machine.specs.System.{SystemState, IsChanged}
use Rattle.clnp_machine.specs.Step.{as_changed, step}
use Rattle.clnp_machine.specs.EveryStep.{IsFairChange}
use Rattle.clnp_machine.specs.ClnpNetwork.LabelledNetwork.{LabelledNetwork, comes, moved, moves_port, removes_route, resizes, sets_route}
use Rattle.clnp_machine.specs.ClnpNetwork.Run.{Entry}
use Rattle.clnp_safety.specs.Invariant.{EachRests, SystemIsSound, WorldIsSound}
use Rattle.clnp_safety.specs.StepLaws.{StepLaws}
use Rattle.clnp_safety.proofs.Attaching.{is_fair_change}
use Rattle.clnp_safety.proofs.Effects.{AnySystem, step_keeps}
use Rattle.clnp_safety.proofs.EveryMove.{IsOfNow}
use Rattle.clnp_safety.proofs.Events.{ChangesFormed}
use Rattle.clnp_safety.proofs.Hellos.{EffectIsSound}
use Rattle.clnp_safety.proofs.Honest.{NoteIsSteady}
use Rattle.clnp_safety.proofs.Lines.{LineIs}
use Rattle.clnp_safety.proofs.Moves.{IsSoundSince, MoveIsSound, kept_is_sound, sound_since_itself}
use Rattle.clnp_safety.proofs.Steps.{ChangingIsFine, Keeps, keeps-comes_to, keeps-moves_port, keeps-removes_route, keeps-resizes, keeps-sets_route}

changed_is_sound : StepLaws → (plan : Plan) (units : List DataUnit) (place : ℕ) (s : SystemState) (change : Change) → IsFairChange s (IsChanged change)
    → SystemIsSound plan units place s → SystemIsSound plan units place (as_changed change s)
changed_is_sound laws plan units place s change fair sound = record {
  stands_at = sound.stands_at;
  declared = sound.declared;
  hold = sound.hold;
  reuse = sound.reuse;
  uses = sound.uses;
  accounted = sound.accounted;
  buffers = sound.buffers;
  not_due = sound.not_due;
  not_whole = sound.not_whole;
  budget = sound.budget;
  known = sound.known;
  attached = laws.steps.soundly s (IsChanged change) fair sound.attached;
  ports = laws.steps.ports s (IsChanged change) ∙ sound.ports;
}

module _ (laws : StepLaws) (plan : Plan) (fit : IsFit plan) (past : List Entry) (move : Move) (w : LabelledNetwork) (h : WorldIsSound plan past w) where
  -- what the worlds of a change keep
  abbrev Sound : LabelledNetwork → Type 0
  Sound = IsSoundSince plan past w

  -- what its lines are
  abbrev Told : Line → Type 0
  Told = LineIs (NoteIsSteady plan past w)

  fine : ChangingIsFine Told
  fine = record {
    port = λ now name number subnet snpa. record { honest = tt; no_restart = tt };
    route = λ now name prefix. record { honest = tt; no_restart = tt };
    unroute = λ now name prefix there. record { honest = tt; no_restart = tt };
    resized = λ now subnet mtu. tt;
  }

  here : Sound w
  here = sound_since_itself plan past w h

  -- a change comes to the system at a place of a world in between
  module _ (v : LabelledNetwork) (place : ℕ) (change : Change) (formed : ChangesFormed (IsChanged change)) (k : Sound v) where
    module _ (s : SystemState) (there : slice_get v.systems place ≡ Some s) (now : IsOfNow v s (IsChanged change)) where
      done : EffectIsSound plan past w s.configuration.name v.units place (step s (IsChanged change))
      done =
          let it = (k.stands.each place s there).stands.sound in
          let same : (v.units ++ []) ≡ v.units = append-nil v.units in
          record {
            after = subst (λ us. SystemIsSound plan us place (as_changed change s)) (sym same)
                (changed_is_sound laws plan v.units place s change (is_fair_change v s k.stands.mtus it.attached (IsChanged change) formed now) it);
            rest = subst (EachRests plan.limits.reuse) (sym same) k.made.rest;
            replies = tt;
            notes = tt;
          }

    change_keeps : ((s : SystemState) → slice_get v.systems place ≡ Some s → IsOfNow v s (IsChanged change)) → Keeps Sound Told (comes v place (IsChanged change))
    change_keeps now =
        keeps-comes_to Sound Told v place (IsChanged change) (slice_get v.systems place) (λ none. k)
        (λ s there.
        let it = k.stands.each place s there in
        step_keeps laws plan fit past w (NoteIsSteady plan past w) AnySystem AnySystem v place s (IsChanged change) it.stands tt tt (done s there (now s there))
        (λ other t apart any. any) tt tt k)

  -- the same where it is known which system is there
  change_keeps_at : (place : ℕ) (s : SystemState) (change : Change) → ChangesFormed (IsChanged change) → slice_get w.systems place ≡ Some s
      → IsOfNow w s (IsChanged change) → Keeps Sound Told (comes w place (IsChanged change))
  change_keeps_at place s change formed there now =
      change_keeps w place change formed here (λ t at. subst (λ (u : SystemState). IsOfNow w u (IsChanged change)) (same_Some s t (sym there ∙ at)) now)

  -- a port is put elsewhere
  pub port_moves_soundly : (place number subnet : ℕ) (snpa : List ℕ) → IsAddress snpa
      → MoveIsSound plan past move w (moves_port plan.subnets w place number subnet snpa)
  port_moves_soundly place number subnet snpa address =
      kept_is_sound plan past move w (moves_port plan.subnets w place number subnet snpa)
      (keeps-moves_port Sound Told fine w place here number subnet snpa plan.subnets
      (λ s port mtu there has takes.
      change_keeps_at place s (PortIsAt number (moved port subnet mtu snpa)) address there (record { was = port; there = has; transit = refl; mtu = takes })))

  -- a route is set
  pub route_is_set_soundly : (place : ℕ) (route : Route) → IsAddressedRoute route → MoveIsSound plan past move w (sets_route w place route)
  route_is_set_soundly place route addressed =
      kept_is_sound plan past move w (sets_route w place route)
      (keeps-sets_route Sound Told fine w place here route (λ s there leads. change_keeps_at place s (RouteIsSet route) addressed there leads))

  -- a route is gone
  pub route_goes_soundly : (place : ℕ) (prefix : List ℕ) → MoveIsSound plan past move w (removes_route w place prefix)
  route_goes_soundly place prefix =
      kept_is_sound plan past move w (removes_route w place prefix)
      (keeps-removes_route Sound Told fine w place here prefix (change_keeps w place (RouteIsGone prefix) tt here (λ s there. tt)))

  -- a subnetwork takes frames of another length, and so does each port on it
  pub subnetwork_takes_soundly : (subnet mtu : ℕ) → IsWithin 512 65535 mtu → MoveIsSound plan past move w (resizes plan.subnets w subnet mtu)
  subnetwork_takes_soundly subnet mtu within =
      kept_is_sound plan past move w (resizes plan.subnets w subnet mtu)
      (keeps-resizes Sound Told fine subnet mtu (λ v place number k. change_keeps v place (PortTakes number mtu) within k (λ s there. tt)) plan.subnets w here
      (record {
        made = here.made;
        front = here.front;
        stands = record {
          made = refl;
          copies = here.stands.copies;
          number = here.stands.number;
          each = here.stands.each;
          mtus = all_set (IsWithin 512 65535) w.mtus subnet mtu here.stands.mtus within;
        };
      }))
