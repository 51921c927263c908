-- What a network of the code stands for while the clocks of its systems go on, one after another.
use Rattle.std.proofs.Common.{◌≡◌, ◌≢◌, ℕ, ◌+◌, ◌^◌, ◌<◌, ◌≤◌, max, List, length, Option, None, Some, refl, sym, ap, ◌∙◌, subst, arith}
use Rattle.std.specs.Prelude.{slice_get}
use Rattle.std.specs.List.{range_with_len}
use Rattle.std.proofs.lemmas.Option.{slice_get_past}
use Rattle.clnp_machine.specs.System.{Input, SystemState, MomentComes}
use Rattle.clnp_machine.specs.Step.{step}
use Rattle.clnp_machine.specs.Unit.{DeclaredAt, Maker, Outside}
use Rattle.clnp_machine.specs.ClnpNetwork.Clocks.{NoneIsAhead}
use Rattle.clnp_machine.specs.ClnpNetwork.LabelledNetwork as network
use Rattle.clnp_systems.specs.declared.system.System.{System}
use Rattle.clnp_systems.specs.Stands.{entity_of}
use Rattle.clnp_program.specs.ClnpWorld.Seen.{place_of}
use Rattle.clnp_program.specs.ClnpWorld.Lines.{Taken}
use Rattle.clnp_program.specs.ClnpWorld.Parts.{Shows, MayGoOn, IsTimely, IsRunning, Holds, Follows}
use Rattle.clnp_program.specs.declared.clnp_world.network.Network.{Network}
use Rattle.clnp_machine.proofs.ClnpBase.Lists.{AllByRecursion-implies, AllByRecursion-slice_get, slice_get-set_other}
use Rattle.clnp_program.proofs.ClnpWorld.EachSteps.{each_length}
use Rattle.clnp_program.proofs.ClnpWorld.TakeSteps.{is_there}
use Rattle.clnp_program.proofs.ClnpWorld.GiveSteps.{follows_nothing, follows_then, system_there}
use Rattle.clnp_program.proofs.ClnpWorld.ModelSteps.{tick_at, tick_each-more, systems-put_all_out, clock-put_all_out}

-- The network's clock goes on.

pub clock_goes_on : (code : Network) (model : network.LabelledNetwork) (now then : ℕ) → Holds code model → now ≡ then → model.clock ≤ then
    → Holds (record code { clock = now }) (record model { clock = then })
clock_goes_on code model now then h same later = record {
  shows = record {
    clock = same;
    systems = h.shows.systems;
    mtus = h.shows.mtus;
    wide = h.shows.wide;
    copies = h.shows.copies;
    cursor = h.shows.cursor;
    carried = h.shows.carried;
    born = h.shows.born;
    short = h.shows.short;
    weight = h.shows.weight;
    placed = h.shows.placed;
  };
  behind = AllByRecursion-implies (λ (s : SystemState). s.moment ≤ model.clock) (λ (s : SystemState). s.moment ≤ then) (λ s e. omega (arith, e, later))
      model.systems h.behind;
}

-- then each system's may
pub all_may : (model : network.LabelledNetwork) → NoneIsAhead model → (place : ℕ) → MayGoOn (record model { clock = model.clock + 1 }) place
all_may model behind place system there =
    let before : system.moment ≤ model.clock
    = AllByRecursion-slice_get (λ (s : SystemState). s.moment ≤ model.clock) model.systems place system there behind in
    omega (arith, before)

-- The clock of one system goes on.

-- what the clock of the system at a place is
abbrev pub TellsMoment : Network → (place moment : ℕ) → Type 0
TellsMoment code place moment =
    (model : network.LabelledNetwork) (system : SystemState) → Shows code model → slice_get model.systems place ≡ Some system → moment ≡ system.moment

-- it is the clock by which what the system made grows old
pub clock_there : (code : Network) (maker : Option ℕ) (place moment : ℕ) → maker ≡ Some place → place < length code.systems.items
    → TellsMoment code place moment → (model : network.LabelledNetwork) (by : Maker) → Shows code model → maker ≡ place_of by
    → moment ≡ network.clock_of model by
clock_there code maker place moment is within tells model Outside h by_is = absurd (let no : ⊥ = cc in no)
clock_there code maker place moment is within tells model (DeclaredAt at) h by_is =
    let same : place ≡ at = cc in
    let there = system_there code model place h within in
    let found : slice_get model.systems at ≡ Some there.0 = subst (λ (n : ℕ). slice_get model.systems n ≡ Some there.0) same there.1 in
    tells model there.0 h there.1 ∙ sym (ap (network.clock_at model.clock) found)

-- where there is no system, it is the network's
pub clock_past : (code : Network) (maker : Option ℕ) (place : ℕ) → maker ≡ Some place → length code.systems.items ≤ place
    → (model : network.LabelledNetwork) (by : Maker) → Shows code model → maker ≡ place_of by → code.clock ≡ network.clock_of model by
clock_past code maker place is past model Outside h by_is = absurd (let no : ⊥ = cc in no)
clock_past code maker place is past model (DeclaredAt at) h by_is =
    let same : place ≡ at = cc in
    let long = each_length code.systems.items model.systems h.systems in
    let none = slice_get_past model.systems at (omega (arith, same, long, past)) in
    h.clock ∙ sym (ap (network.clock_at model.clock) none)

-- the moment that comes to it isn't ahead
timely : (old : Network) (place moment now : ℕ) (model : network.LabelledNetwork) → Holds old model → MayGoOn model place → TellsMoment old place moment
    → now ≡ moment + 1 → IsTimely model place (MomentComes now)
timely old place moment now model h may tells next system there =
    let same = tells model system h.shows there in
    let fits = may system there in
    omega (arith, same, fits, next)

-- and it may come: it is later than the system's own, and not so late that there is none behind it
pub next_may_come : (code : Network) (place moment now : ℕ) (node : System) → (model : network.LabelledNetwork) × Holds code model × MayGoOn model place
    → TellsMoment code place moment → now ≡ moment + 1 → code.clock < 2 ^ 62 → slice_get code.systems.items place ≡ Some node
    → ((entity_of node).moment ≤ now) × (now < 2 ^ 62)
next_may_come code place moment now node running tells next early here =
    let model = running.0 in
    let h = (running.1).shows in
    let there = is_there code model place node h here in
    let same = tells model there.system h there.at in
    let may = running.2 there.system there.at in
    (omega (arith, there.stands.parts.moment, same, next), omega (arith, h.clock, same, may, early, next))

pub goes_on_there : (old code : Network) (before after : Taken) (place moment now : ℕ) → place < length old.systems.items → TellsMoment old place moment
    → now ≡ moment + 1
    → ((model : network.LabelledNetwork) → Holds old model → IsTimely model place (MomentComes now)
    → Follows code before after (network.comes model place (MomentComes now)))
    → (model : network.LabelledNetwork) → Holds old model → MayGoOn model place
    → Follows code before after (network.goes_on model place (slice_get model.systems place))
goes_on_there old code before after place moment now within tells next comes model h may =
    let there = system_there old model place h.shows within in
    let same : now ≡ (there.0).moment + 1 = next ∙ ap (λ (t : ℕ). t + 1) (tells model there.0 h.shows there.1) in
    subst (λ (s : Option SystemState). Follows code before after (network.goes_on model place s)) (sym there.1)
    (subst (λ (t : ℕ). Follows code before after (network.comes model place (MomentComes t))) same
    (comes model h (timely old place moment now model h may tells next)))

-- it leaves the clocks of the others, and the network's
comes_leaves : (w : network.LabelledNetwork) (place other : ℕ) (input : Input) (found : Option SystemState) → place ≢ other
    → slice_get (network.comes_to w place input found).world.systems other ≡ slice_get w.systems other
comes_leaves w place other input None differ = refl
comes_leaves w place other input (Some system) differ =
    let effect = step system input in
    ap (λ (ss : List SystemState). slice_get ss other) (systems-put_all_out effect.after (network.with_effect w place effect) effect.outputs)
    ∙ slice_get-set_other w.systems place other effect.after differ

comes_at_clock : (w : network.LabelledNetwork) (place : ℕ) (input : Input) (found : Option SystemState) → (network.comes_to w place input found).world.clock ≡ w.clock
comes_at_clock w place input None = refl
comes_at_clock w place input (Some system) =
    let effect = step system input in clock-put_all_out effect.after (network.with_effect w place effect) effect.outputs

others_stay : (w : network.LabelledNetwork) (place other : ℕ) (found : Option SystemState) → place ≢ other
    → slice_get (network.goes_on w place found).world.systems other ≡ slice_get w.systems other
others_stay w place other None differ = refl
others_stay w place other (Some system) differ = comes_leaves w place other (MomentComes (system.moment + 1)) (slice_get w.systems place) differ

clock_stays : (w : network.LabelledNetwork) (place : ℕ) (found : Option SystemState) → (network.goes_on w place found).world.clock ≡ w.clock
clock_stays w place None = refl
clock_stays w place (Some system) = comes_at_clock w place (MomentComes (system.moment + 1)) (slice_get w.systems place)

-- One system after another.

-- the code's network when the clocks of the systems below a place went on: those of the others may
pub record Ticked (code : Network) (before after : Taken) (part : network.Step) (place : ℕ) : Type 0 where
  pub follows : Follows code before after part
  pub next : (other : ℕ) → place ≤ other → MayGoOn part.world other

abbrev pub TicksTo : Network → Network → Taken → Taken → ℕ → Type 0
TicksTo start code before after place =
    (model : network.LabelledNetwork) → Holds start model → ((other : ℕ) → MayGoOn model other)
    → Ticked code before after (network.tick_each model (range_with_len 0 place)) place

pub ticks_none : (code : Network) (lines : Taken) → TicksTo code code lines lines 0
ticks_none code lines model h may = record { follows = follows_nothing code lines model h; next = λ other past. may other }

pub ticks_more : (start mid code : Network) (before between after : Taken) (place : ℕ) → TicksTo start mid before between place
    → ((model : network.LabelledNetwork) → Holds mid model → MayGoOn model place → Follows code between after (tick_at model place))
    → TicksTo start code before after (place + 1)
ticks_more start mid code before between after place so_far one model h may =
    let w = network.tick_each model (range_with_len 0 place) in
    let front = so_far model h may in
    let found = slice_get w.world.systems place in
    subst (λ (s : network.Step). Ticked code before after s (place + 1)) (sym (tick_each-more model place))
    record {
      follows = follows_then code before between after w (λ v. tick_at v place) front.follows.lines
          (one w.world front.follows.holds (front.next place (omega arith)));
      next = λ other past system there.
          let differ : place ≢ other = λ same. absurd (let no : ⊥ = omega (arith, same, past) in no) in
          subst (λ (t : ℕ). system.moment + 1 ≤ t) (sym (clock_stays w.world place found))
          (front.next other (omega (arith, past)) system (sym (others_stay w.world place other found differ) ∙ there));
    }

-- the next system's clock may go on
pub next_may : (start code : Network) (before after : Taken) (place : ℕ)
    → (model : network.LabelledNetwork) × Holds start model × ((other : ℕ) → MayGoOn model other) → TicksTo start code before after place
    → (model : network.LabelledNetwork) × Holds code model × MayGoOn model place
next_may start code before after place running so_far =
    let part = so_far running.0 running.1 running.2 in
    ((network.tick_each running.0 (range_with_len 0 place)).world, part.follows.holds, part.next place (omega arith))

pub ticks_all : (start code : Network) (before after : Taken) (place : ℕ) → TicksTo start code before after place → place ≡ length start.systems.items
    → (model : network.LabelledNetwork) → Holds start model → ((other : ℕ) → MayGoOn model other)
    → Follows code before after (network.tick_each model (range_with_len 0 (length model.systems)))
ticks_all start code before after place so_far all model h may =
    let same = each_length start.systems.items model.systems h.shows.systems in
    subst (λ (n : ℕ). Follows code before after (network.tick_each model (range_with_len 0 n))) (all ∙ same) (so_far model h may).follows

-- The clock of one system alone, and the network's where it is passed.

-- there is no system at the place
pub ticks_nobody : (code : Network) (lines : Taken) (place : ℕ) → length code.systems.items ≤ place
    → (model : network.LabelledNetwork) → Holds code model → Follows code lines lines (network.tick_system model place)
ticks_nobody code lines place past model h =
    let same = each_length code.systems.items model.systems h.shows.systems in
    let none = slice_get_past model.systems place (omega arith) in
    subst (λ (s : Option SystemState). Follows code lines lines (network.tick_alone model place s)) (sym none) (follows_nothing code lines model h)

-- the network of the model when the clock of the system at a place is about to go on
abbrev pub about_to : network.LabelledNetwork → (moment : ℕ) → network.LabelledNetwork
about_to model moment = record model { clock = max model.clock (moment + 1) }

passed : (a b : ℕ) → a ≤ max a b
passed a b = omega arith

passes : (a b : ℕ) → b ≤ max a b
passes a b = omega arith

pub alone_holds : (old : Network) (place moment now : ℕ) → TellsMoment old place moment → now ≡ max old.clock (moment + 1)
    → (model : network.LabelledNetwork) (system : SystemState) → Holds old model → slice_get model.systems place ≡ Some system
    → Holds (record old { clock = now }) (about_to model system.moment)
alone_holds old place moment now tells is model system h there =
    clock_goes_on old model now (max model.clock (system.moment + 1)) h
    (is ∙ ap (λ (t : ℕ). max t (moment + 1)) h.shows.clock ∙ ap (λ (t : ℕ). max model.clock (t + 1)) (tells model system h.shows there))
    (passed model.clock (system.moment + 1))

alone_may : (model : network.LabelledNetwork) (place : ℕ) (system : SystemState) → slice_get model.systems place ≡ Some system
    → MayGoOn (about_to model system.moment) place
alone_may model place system there other at =
    let same : Some other ≡ Some system = sym at ∙ there in
    let one : system ≡ other = cc in
    subst (λ (s : SystemState). s.moment + 1 ≤ max model.clock (system.moment + 1)) one (passes model.clock (system.moment + 1))

pub ticks_alone : (old code : Network) (before after : Taken) (place moment now : ℕ) → place < length old.systems.items → TellsMoment old place moment
    → now ≡ max old.clock (moment + 1)
    → ((model : network.LabelledNetwork) → Holds (record old { clock = now }) model → MayGoOn model place
    → Follows code before after (network.goes_on model place (slice_get model.systems place)))
    → (model : network.LabelledNetwork) → Holds old model → Follows code before after (network.tick_system model place)
ticks_alone old code before after place moment now within tells is goes model h =
    let there = system_there old model place h.shows within in
    let w = about_to model (there.0).moment in
    let went = goes w (alone_holds old place moment now tells is model there.0 h there.1) (alone_may model place there.0 there.1) in
    subst (λ (s : Option SystemState). Follows code before after (network.tick_alone model place s)) (sym there.1)
    (subst (λ (s : Option SystemState). Follows code before after (network.goes_on w place s)) there.1 went)

pub alone_runs : (old : Network) (place moment now : ℕ) → place < length old.systems.items → TellsMoment old place moment
    → now ≡ max old.clock (moment + 1) → IsRunning old
    → (model : network.LabelledNetwork) × Holds (record old { clock = now }) model × MayGoOn model place
alone_runs old place moment now within tells is running =
    let there = system_there old running.0 place (running.1).shows within in (
      about_to running.0 (there.0).moment,
      alone_holds old place moment now tells is running.0 there.0 running.1 there.1,
      alone_may running.0 place there.0 there.1,
    )

-- not so late that there is no moment behind it
pub alone_early : (old : Network) (place moment now : ℕ) → place < length old.systems.items → TellsMoment old place moment
    → now ≡ max old.clock (moment + 1) → IsRunning old → old.clock + 1 < 2 ^ 62 → now < 2 ^ 62
alone_early old place moment now within tells is running early =
    let h = running.1 in
    let there = system_there old running.0 place h.shows within in
    let same = tells running.0 there.0 h.shows there.1 in
    let behind : (there.0).moment ≤ (running.0).clock
    = AllByRecursion-slice_get (λ (s : SystemState). s.moment ≤ (running.0).clock) (running.0).systems place there.0 there.1 h.behind in
    omega (arith, h.shows.clock, same, behind, is, early)
