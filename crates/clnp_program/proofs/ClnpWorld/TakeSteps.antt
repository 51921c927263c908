-- What a network of the code stands for after something came to one of its systems.
use Rattle.std.proofs.Common.{◌≡◌, ℕ, ◌<◌, ◌≤◌, List, [], length, Option, None, Some, refl, sym, ap, ◌∙◌, subst, arith}
use Rattle.std.specs.Prelude.{slice_get}
use Rattle.std.specs.List.{AllByRecursion}
use Rattle.std.specs.Vec.{with_item}
use Rattle.std.proofs.lemmas.Option.{slice_get_past, slice_get_within as within_get}
use Rattle.clnp_machine.specs.ClnpPlan.declared.config.Role.{Role}
use Rattle.clnp_machine.specs.ClnpPlan.declared.output.Output as output
use Rattle.clnp_machine.specs.System as machine
use Rattle.clnp_machine.specs.System.{SystemState, Effect}
use Rattle.clnp_machine.specs.Step.{step}
use Rattle.clnp_machine.specs.EveryStep.{moment_after}
use Rattle.clnp_machine.specs.ClnpNetwork.Clocks.{NoneIsAhead}
use Rattle.clnp_machine.specs.ClnpNetwork.LabelledNetwork as network
use Rattle.clnp_systems.specs.declared.system.System.{System}
use Rattle.clnp_systems.specs.Stands as clnp_systems
use Rattle.clnp_systems.specs.Stands.{entity_of}
use Rattle.clnp_systems.specs.Steps.{AppendsOf, TakesStep, input_with, moment_at}
use Rattle.clnp_systems.specs.declared.input.Input.{Input}
use Rattle.clnp_systems.proofs.Given.{gives_any}
use Rattle.clnp_machine.specs.Content.{Content, Unlabelled}
use Rattle.clnp_machine.specs.Unit.{DeclaredAt}
use Rattle.clnp_machine.specs.Ways.{IsOwnWhereFirst}
use Rattle.clnp_machine.specs.Given.{Appends, GiveAll}
use Rattle.clnp_program.specs.ClnpWorld.Lines.{Taken}
use Rattle.clnp_program.specs.ClnpWorld.Parts.{Shows, Holds, IsTimely, Puts, Follows}
use Rattle.clnp_program.specs.ClnpWorld.Stands.{IsMadeWithUnit}
use Rattle.clnp_program.specs.declared.clnp_world.copy.Origin.{Origin}
use Rattle.clnp_program.specs.declared.clnp_world.network.Network.{Network}
use Rattle.clnp_machine.proofs.ClnpBase.Lists.{AllByRecursion-implies, AllByRecursion-slice_get, set_each, slice_get-set, slice_get_some}
use Rattle.clnp_program.proofs.ClnpWorld.EachSteps.{each_length, each_at, each_set}
use Rattle.clnp_program.proofs.ClnpWorld.ModelSteps.{behind-takes_effect, step_itself, step_moment}
use Rattle.clnp_program.proofs.ClnpWorld.PutSteps.{PutsOut, puts_nothing}

-- the network with a system in the place of another
abbrev pub with_node : Network → ℕ → System → Network
with_node code place node = record code { systems = with_item code.systems place node }

pub shows_with : (code : Network) (place : ℕ) (node : System) (model : network.LabelledNetwork) (effect : Effect) → Shows code model
    → clnp_systems.Stands node effect.after → effect.after.place ≡ place → Shows (with_node code place node) (network.with_effect model place effect)
shows_with code place node model effect h stands here = record {
  clock = h.clock;
  systems = each_set code.systems.items model.systems place node effect.after h.systems stands;
  mtus = h.mtus;
  wide = h.wide;
  copies = h.copies;
  cursor = h.cursor;
  carried = h.carried;
  born = h.born;
  short = h.short;
  weight = h.weight;
  placed = set_each (λ i (s : SystemState). s.place ≡ i) (λ i (s : SystemState). s.place ≡ i) model.systems place effect.after h.placed
      (λ i s other same. same) here;
}

-- the system at the place of a system
pub record IsThere (code : Network) (model : network.LabelledNetwork) (place : ℕ) (node : System) : Type 0 where
  pub system : SystemState
  pub at : slice_get model.systems place ≡ Some system
  pub stands : clnp_systems.Stands node system

pub is_there : (code : Network) (model : network.LabelledNetwork) (place : ℕ) (node : System) → Shows code model
    → slice_get code.systems.items place ≡ Some node → IsThere code model place node
is_there code model place node h here =
    let same = each_length code.systems.items model.systems h.systems in
    let within = within_get code.systems.items place node here in
    let there = slice_get_some model.systems place (omega arith) in
    record { system = there.0; at = there.1; stands = each_at code.systems.items model.systems place node there.0 h.systems here there.1 }

-- where no frame came, whatever it might carry
abbrev pub no_frame : Content
no_frame = Unlabelled []

-- a system takes a step, and what it gives out is put out
pub takes : (old code : Network) (before after : Taken) (place : ℕ) (came : Origin) (content : Content) (node : System) (outputs : List output.Output) (effect : Effect)
    → place < length old.systems.items → clnp_systems.Stands node effect.after → effect.after.place ≡ place → IsMadeWithUnit came content
    → AllByRecursion (IsOwnWhereFirst effect.after) effect.outputs
    → Appends effect.after.moment (Some content) [] outputs effect.outputs
    → PutsOut (with_node old place node) code before after place came outputs
    → (model : network.LabelledNetwork) → Shows old model → Puts code before after (network.takes_effect model place effect)
takes old code before after place came content node outputs effect within stands here born own gives puts model h =
    let same = each_length old.systems.items model.systems h.systems in
    puts (network.with_effect model place effect) effect.after content effect.outputs
    (shows_with old place node model effect h stands here)
    (slice_get-set model.systems place effect.after (omega arith)) born own
    (subst (λ (os : List output.Output). GiveAll effect.after.moment (Some content) os effect.outputs) (sym gives.appended) gives.give_all)

-- outputs that are appended to none
pub from_none_for : (moment : ℕ) (came : Content) (empty outputs : List output.Output) (others : List machine.Output) → empty ≡ []
    → Appends moment (Some came) empty outputs others → Appends moment (Some came) [] outputs others
from_none_for moment came empty outputs others e h = subst (λ (os : List output.Output). Appends moment (Some came) os outputs others) e h

-- Something comes to the system at a place.

moments_agree : (s : SystemState) (input : machine.Input) → moment_after s input ≡ moment_at input s.moment
moments_agree s (machine.AsksToSend from to octets ask) = refl
moments_agree s (machine.AsksForEcho from to octets) = refl
moments_agree s (machine.FrameComes port sender to_group content) = refl
moments_agree s (machine.MomentComes now) = refl
moments_agree s machine.IsRestarted = refl
moments_agree s (machine.IsCongested on) = refl
moments_agree s (machine.IsChanged change) = refl

moment_behind : (s : SystemState) (input : machine.Input) → (step s input).after.moment ≡ moment_at input s.moment
moment_behind s input = step_moment s input ∙ moments_agree s input

-- what a step sends of its own is of the system's place, which a step doesn't change
abbrev pub OwnTransmissions : Type 0
OwnTransmissions = (s : SystemState) (input : machine.Input) → AllByRecursion (IsOwnWhereFirst s) (step s input).outputs

own_behind : (s t : SystemState) → t.place ≡ s.place → (outputs : List machine.Output) → AllByRecursion (IsOwnWhereFirst s) outputs
    → AllByRecursion (IsOwnWhereFirst t) outputs
own_behind s t same outputs own = AllByRecursion-implies (IsOwnWhereFirst s) (IsOwnWhereFirst t) one outputs own
  where
    one : (out : machine.Output) → IsOwnWhereFirst s out → IsOwnWhereFirst t out
    one (machine.Transmits port target packet) h = λ first. h first ∙ ap DeclaredAt (sym same)
    one (machine.SendsEsis port target value) h = tt
    one (machine.Notes note) h = tt

-- the system takes a step, and what it gives out is put out
comes_in : OwnTransmissions → (old code : Network) (before after : Taken) (place : ℕ) (came : Origin) (content : Content) (input : Input) (role : Role) (node new : System)
    (empty outputs : List output.Output) → slice_get old.systems.items place ≡ Some node → empty ≡ []
    → TakesStep role (input_with content input) (entity_of node) (entity_of new) empty outputs
    → PutsOut (with_node old place new) code before after place came outputs
    → (model : network.LabelledNetwork) → Shows old model → IsMadeWithUnit came content
    → Puts code before after (network.comes model place (input_with content input))
comes_in own old code before after place came content input role node new empty outputs here none took puts model h born =
    let there = is_there old model place node h here in
    let comes = input_with content input in
    let effect = step there.system comes in
    let itself = step_itself there.system comes in
    subst (λ (s : Option SystemState). Puts code before after (network.comes_to model place comes s)) (sym there.at)
    (takes old code before after place came content new outputs effect (within_get old.systems.items place node here)
    (took.stands there.system there.stands) (itself.place ∙ h.placed place there.system there.at) born
    (own_behind there.system effect.after itself.place effect.outputs (own there.system comes))
    (from_none_for effect.after.moment content empty outputs effect.outputs none
    (gives_any input role content effect.after.moment empty outputs effect.outputs
    (subst (λ (t : ℕ). AppendsOf comes role t empty outputs effect.outputs) (sym (moment_behind there.system comes))
    (took.outputs there.system there.stands))))
    puts model h)

-- there is no system at the place
comes_nowhere : (code : Network) (lines : Taken) (place : ℕ) → length code.systems.items ≤ place
    → (model : network.LabelledNetwork) (input : machine.Input) → Shows code model → Puts code lines lines (network.comes model place input)
comes_nowhere code lines place past model input h =
    let same = each_length code.systems.items model.systems h.systems in
    let none = slice_get_past model.systems place (omega arith) in
    subst (λ (s : Option SystemState). Puts code lines lines (network.comes_to model place input s)) (sym none) (puts_nothing code model lines h)

stays_behind : (model : network.LabelledNetwork) (place : ℕ) (input : machine.Input) (there : Option SystemState) → NoneIsAhead model
    → ((s : SystemState) → there ≡ Some s → (step s input).after.moment ≤ model.clock) → NoneIsAhead (network.comes_to model place input there).world
stays_behind model place input None behind now = behind
stays_behind model place input (Some s) behind now = behind-takes_effect model place (step s input) behind (now s refl)

-- what comes where its moment isn't ahead leaves all clocks so
pub comes_follows : (old code : Network) (before after : Taken) (place : ℕ) (input : machine.Input) (model : network.LabelledNetwork) → Holds old model
    → IsTimely model place input → Puts code before after (network.comes model place input) → Follows code before after (network.comes model place input)
comes_follows old code before after place input model h timely puts = record {
  holds = record {
    shows = puts.shows;
    behind = stays_behind model place input (slice_get model.systems place) h.behind
        (λ s at. subst (λ (t : ℕ). t ≤ model.clock) (sym (moment_behind s input)) (timely s at));
  };
  lines = puts.lines;
}

-- what comes to a system
pub comes_there : OwnTransmissions → (old code : Network) (before after : Taken) (place : ℕ) (came : Origin) (content : Content) (input : Input) (role : Role) (node new : System)
    (empty outputs : List output.Output) → slice_get old.systems.items place ≡ Some node → empty ≡ []
    → TakesStep role (input_with content input) (entity_of node) (entity_of new) empty outputs
    → PutsOut (with_node old place new) code before after place came outputs
    → (model : network.LabelledNetwork) → Holds old model → IsMadeWithUnit came content → IsTimely model place (input_with content input)
    → Follows code before after (network.comes model place (input_with content input))
comes_there own old code before after place came content input role node new empty outputs here none took puts model h born timely =
    comes_follows old code before after place (input_with content input) model h timely
    (comes_in own old code before after place came content input role node new empty outputs here none took puts model h.shows born)

-- and where there is none
pub comes_to_none : (code : Network) (lines : Taken) (place : ℕ) → length code.systems.items ≤ place
    → (model : network.LabelledNetwork) (input : machine.Input) → Holds code model → IsTimely model place input
    → Follows code lines lines (network.comes model place input)
comes_to_none code lines place past model input h timely =
    comes_follows code code lines lines place input model h timely (comes_nowhere code lines place past model input h.shows)

-- no system's clock is ahead
pub is_behind : (code : Network) (place : ℕ) (model : network.LabelledNetwork) → Holds code model → (system : SystemState) → slice_get model.systems place ≡ Some system
    → system.moment ≤ model.clock
is_behind code place model h system at =
    AllByRecursion-slice_get (λ (s : SystemState). s.moment ≤ model.clock) model.systems place system at h.behind
