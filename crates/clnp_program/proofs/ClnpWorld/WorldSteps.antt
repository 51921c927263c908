-- The network between two moves, as a caller sees it.
use Rattle.std.proofs.Common.{◌≡◌, ◌≤◌, ◌∙◌, ℕ, List, length, Option, None, Some, false, refl, sym, ap, arith}
use Rattle.std.specs.Prelude.{slice_get, IfNone, IfSome, MatchOption}
use Rattle.std.proofs.lemmas.Option.{slice_get_past, slice_get_within as within_get}
use Rattle.clnp_machine.specs.ClnpPlan.Configuration.{SystemConfiguration}
use Rattle.clnp_machine.specs.ClnpPlan.declared.config.Role.{Role}
use Rattle.clnp_machine.specs.System.{SystemState}
use Rattle.clnp_machine.specs.ClnpNetwork.LabelledNetwork as network
use Rattle.clnp_systems.specs.Stands.{configuration_of}
use Rattle.clnp_systems.specs.declared.system.System.{System}
use Rattle.clnp_program.specs.ClnpWorld.State.{WorldState}
use Rattle.clnp_program.specs.ClnpWorld.Stands.{IsDeclared, Stands}
use Rattle.clnp_program.specs.ClnpWorld.Parts.{Holds, state_of}
use Rattle.clnp_program.specs.declared.clnp_world.network.Network.{Network}
use Rattle.clnp_machine.proofs.ClnpBase.Lists.{slice_get_some}
use Rattle.clnp_program.proofs.ClnpWorld.EachSteps.{each_at, each_length}

-- what a caller sees of a network that isn't spent
abbrev pub going : Network → WorldState
going code = record { network = state_of code; spent = false }

pub stands_for : (code : Network) (model : network.LabelledNetwork) → Holds code model → Stands (going code) model
stands_for code model h = record { not_spent = refl; holds = h }

-- The systems that were declared.

-- a system at a place was declared there, in its role
pub declared_at : (code : WorldState) (model : network.LabelledNetwork) (at : ℕ) (node : System) (role : Role) → Stands code model
    → slice_get code.network.systems at ≡ Some node → (configuration_of node).role ≡ role → IsDeclared model at role
declared_at code model at node role h here is =
    let same = each_length code.network.systems model.systems h.holds.shows.systems in
    let within = within_get code.network.systems at node here in
    let there = slice_get_some model.systems at (omega arith) in
    let stands = each_at code.network.systems model.systems at node there.0 h.holds.shows.systems here there.1 in
    record {
      system = there.0;
      there = there.1;
      role_is = ap (λ (c : SystemConfiguration). c.role) (sym stands.parts.local.configuration) ∙ is;
    }

-- and in no other
pub declared_once : (model : network.LabelledNetwork) (at : ℕ) (role other : Role) → IsDeclared model at role → IsDeclared model at other → role ≡ other
declared_once model at role other one two =
    let found : Some one.system ≡ Some two.system = sym one.there ∙ two.there in
    let same : one.system ≡ two.system = cc in
    sym one.role_is ∙ ap (λ (s : SystemState). s.configuration.role) same ∙ two.role_is

-- there is no system at the place
pub declared_nowhere : (code : WorldState) (model : network.LabelledNetwork) (at : ℕ) (role : Role) → Stands code model → length code.network.systems ≤ at
    → IsDeclared model at role → ⊥
declared_nowhere code model at role h past declared =
    let same = each_length code.network.systems model.systems h.holds.shows.systems in
    let none = slice_get_past model.systems at (omega arith) in
    let some = declared.there in
    absurd (cc)

pub none_there : (nodes : List System) (at : ℕ) (node : System) → length nodes ≤ at → slice_get nodes at ≡ Some node → ⊥
none_there nodes at node past here =
    let none = slice_get_past nodes at past in
    absurd (cc)

-- both clauses on an option
pub match_option : {B : Type 0} (found : Option B) (N : Type 0) (S : B → Type 0) → IfNone found N → IfSome found S → MatchOption found N S
match_option None N S n s = n
match_option (Some x) N S n s = s

pub if_none_then : {B : Type 0} (found : Option B) {N M : Type 0} → IfNone found N → (N → M) → IfNone found M
if_none_then None n f = f n
if_none_then (Some x) n f = tt
