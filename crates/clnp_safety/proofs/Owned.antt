-- Only a system that has the destination among its addresses hands up a unit.
use Rattle.clnp_machine.proofs.ClnpBase.Lists.{AllByRecursion-implies, set_each}
use Rattle.std.proofs.Common.{◌≡◌, ℕ, List, true, refl, sym, ap, ◌∙◌, subst}
use Rattle.std.specs.Prelude.{slice_get, Some}
use Rattle.std.specs.List.{AllByRecursion, list_any}
use Rattle.std.specs.Str.{bytes_eq}
use Rattle.clnp_machine.specs.ClnpPlan.Configuration.{SystemConfiguration}
use Rattle.clnp_machine.specs.ClnpPlan.Journal.{Line, Noted}
use Rattle.clnp_machine.specs.ClnpPlan.declared.note.Note.{Note}
use Rattle.clnp_machine.specs.ClnpPlan.declared.note.Note.TheVariants.{Got}
use Rattle.clnp_machine.specs.ScenarioPlan.Plan.{Plan}
use Rattle.clnp_machine.specs.ClnpPlan.declared.scenario_plan.event.Move.{Move}
use Rattle.clnp_machine.specs.System.{SystemState, Input, Output, Transmits, SendsEsis, Notes, Effect}
use Rattle.clnp_machine.specs.Step.{step}
use Rattle.clnp_machine.specs.EveryStep.{IsForOwn, NotesOnly}
use Rattle.clnp_machine.specs.ClnpNetwork.LabelledNetwork.{LabelledNetwork, put_out, with_effect, takes_effect, after}
use Rattle.clnp_safety.specs.Owners.{IsByOwner}
use Rattle.clnp_safety.specs.StepLaws.{StepLaws}
use Rattle.clnp_safety.proofs.EveryMove.{AnyFrame, AnyInput, EachStepKeeps, IsOfNow, any_events, keeps-move}
use Rattle.clnp_safety.proofs.Steps.{ChangingIsFine, Keeps, GivingIsFine, keeps-put_all_out}

module _ (laws : StepLaws) (systems : List SystemState) where
  -- the system was configured so at a place before
  record WasConfigured (place : ℕ) (s : SystemState) : Type 0 where
    before : SystemState
    there : slice_get systems place ≡ Some before
    same : s.configuration ≡ before.configuration

  -- the systems of a world were configured so before
  abbrev AreConfigured : LabelledNetwork → Type 0
  AreConfigured v = (place : ℕ) (s : SystemState) → slice_get v.systems place ≡ Some s → WasConfigured place s

  abbrev ByOwner : Line → Type 0
  ByOwner = IsByOwner systems

  fine : GivingIsFine ByOwner
  fine = record {
    void = λ now name copy. tt;
    late = λ now name copy. tt;
    received = λ now name copy port. tt;
    lost = λ now copy. tt;
    nobody = λ now copy. tt;
  }

  changing : ChangingIsFine ByOwner
  changing = record {
    port = λ now name number subnet snpa. tt;
    route = λ now name prefix. tt;
    unroute = λ now name prefix there. tt;
    resized = λ now subnet mtu. tt;
  }

  -- a note of a system with this configuration
  noted_by_owner : (place now : ℕ) (s : SystemState) (configuration : SystemConfiguration) (note : Note) → WasConfigured place s
      → configuration ≡ s.configuration → IsForOwn s note → ByOwner (Noted now configuration.name note)
  noted_by_owner place now s configuration (Got from to octets) was e own = record {
    place = place;
    system = was.before;
    there = was.there;
    named = sym (ap (λ (c : SystemConfiguration). c.name) (e ∙ was.same));
    owns = subst (λ (c : SystemConfiguration). list_any (λ address. bytes_eq address to) c.addresses ≡ true) was.same own;
  }
  noted_by_owner place now s configuration _ was e own = tt

  put_out_by_owner : (place : ℕ) (s later : SystemState) (output : Output) → WasConfigured place s
      → later.configuration ≡ s.configuration → NotesOnly (IsForOwn s) output
      → (v : LabelledNetwork) → AreConfigured v → Keeps AreConfigured ByOwner (put_out later v output)
  put_out_by_owner place s later (Notes note) was e own v k = record {
    world = k;
    lines = (noted_by_owner place later.moment s later.configuration note was e own, tt);
  }
  put_out_by_owner place s later (Transmits port target packet) was e own v k = record { world = k; lines = (tt, tt) }
  put_out_by_owner place s later (SendsEsis port target value) was e own v k = record { world = k; lines = (tt, tt) }

  takes_effect_by_owner : (w : LabelledNetwork) (place : ℕ) (s : SystemState) (input : Input) → slice_get w.systems place ≡ Some s
      → AnyInput input → IsOfNow w s input → AreConfigured w → Keeps AreConfigured ByOwner (takes_effect w place (step s input))
  takes_effect_by_owner w place s input there any at k =
      let was = k place s there in
      let effect : Effect = step s input in
      let same = (laws.steps.itself s input).configuration in
      keeps-put_all_out AreConfigured ByOwner effect.after effect.outputs
      (AllByRecursion-implies (NotesOnly (IsForOwn s)) (λ output. (v : LabelledNetwork) → AreConfigured v → Keeps AreConfigured ByOwner (put_out effect.after v output))
      (λ output own_output. put_out_by_owner place s effect.after output was same own_output) effect.outputs (laws.steps.own s input))
      (with_effect w place effect)
      (set_each WasConfigured WasConfigured w.systems place effect.after k (λ other t apart h. h)
      (record { before = was.before; there = was.there; same = same ∙ was.same }))

  each_by_owner : EachStepKeeps (λ w. AnyInput) AnyFrame AreConfigured ByOwner
  each_by_owner = record {
    steps = takes_effect_by_owner;
    frames = λ w at copy e k v follows s. tt;
    moments = λ w now. tt;
    restarts = λ w. tt;
    congestion = λ w on. tt;
    cursor = λ w next k. k;
    clock = λ w clock k. k;
    outside = λ w subnet sender target octets any k. k;
    sizes = λ w subnet mtu takes k. k;
    injected = λ now copy subnet sender target. tt;
    fine = fine;
    changing = changing;
  }

unchanged : (laws : StepLaws) (w : LabelledNetwork) → AreConfigured laws w.systems w
unchanged laws w place s there = record { before = s; there = there; same = refl }

pub move_by_owner : StepLaws → (plan : Plan) (w : LabelledNetwork) (move : Move) → AllByRecursion (IsByOwner w.systems) (after plan w move).lines
move_by_owner laws plan w move =
    (keeps-move (λ w. AnyInput) AnyFrame (AreConfigured laws w.systems) (IsByOwner w.systems) (each_by_owner laws w.systems) plan (λ w. any_events plan.events) w move (unchanged laws w)).lines
