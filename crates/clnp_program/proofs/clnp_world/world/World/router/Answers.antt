-- The router at a place stands for the system there.
use Rattle.std.proofs.Common.{◌≡◌, ◌∙◌, Some, sym, ap, subst}
use Rattle.std.proofs.lemmas.Option.{IfSome_then}
use Rattle.clnp_machine.specs.ClnpPlan.declared.config.Role.TheVariants as role
use Rattle.clnp_systems.specs.Stands as clnp_systems
use Rattle.clnp_systems.specs.Stands.{configuration_of}
use Rattle.clnp_systems.specs.declared.system.System.{System}
use Rattle.clnp_program.specs.ClnpWorld.State.{WorldState}
use Rattle.clnp_program.proofs.ClnpWorld.EachSteps.{each_at, found_at, none_at}
use Rattle.clnp_program.proofs.ClnpWorld.WorldSteps.{declared_at, declared_nowhere, declared_once, if_none_then, match_option, none_there}
use Rattle.clnp_program.proofs.clnp_world.world.World.router.Goals as goal

pub returns-in-None-clause-declared : goal.returns-in-None-clause-declared
returns-in-None-clause-declared c = λ model h declared.
    declared_nowhere c.args.self.now model c.args.at role.Router h
    (none_at (λ x. x.now) c.get.result c.deref.result.now c.args.self.now.network.systems c.args.at c.in-None.is c.get.ensures.lookup.3
    (c.deref.ensures.value ∙ ap (λ (w : WorldState). w.network.systems) c.self.view_is)) declared

pub returns-in-None-clause-none : goal.returns-in-None-clause-none
returns-in-None-clause-none c = λ system here.
    absurd (none_there c.args.self.now.network.systems c.args.at system
    (none_at (λ x. x.now) c.get.result c.deref.result.now c.args.self.now.network.systems c.args.at c.in-None.is c.get.ensures.lookup.3
    (c.deref.ensures.value ∙ ap (λ (w : WorldState). w.network.systems) c.self.view_is)) here)

pub returns-in-Some-clause-declared : goal.returns-in-Some-clause-declared
returns-in-Some-clause-declared c = λ model h.
    let here = found_at (λ x. x.now) c.get.result c.in-Some.system c.deref.result.now c.args.self.now.network.systems c.args.at c.in-Some.is
    c.get.ensures.lookup.1 c.get.ensures.lookup.3 (c.deref.ensures.value ∙ ap (λ (w : WorldState). w.network.systems) c.self.view_is) in
    match_option c.as_router.result _ _
    (if_none_then c.as_router.result c.as_router.ensures.none (λ other declared.
    let same : role.Router ≡ role.Host = declared_once model c.args.at role.Router role.Host declared
    (declared_at c.args.self.now model c.args.at c.in-Some.system.now role.Host h here other) in
    absurd (cc)))
    (IfSome_then c.as_router.result c.as_router.ensures.role (λ router is.
    declared_at c.args.self.now model c.args.at c.in-Some.system.now role.Router h here is))

pub returns-in-Some-clause-none : goal.returns-in-Some-clause-none
returns-in-Some-clause-none c =
    let here = found_at (λ x. x.now) c.get.result c.in-Some.system c.deref.result.now c.args.self.now.network.systems c.args.at c.in-Some.is
    c.get.ensures.lookup.1 c.get.ensures.lookup.3 (c.deref.ensures.value ∙ ap (λ (w : WorldState). w.network.systems) c.self.view_is) in
    if_none_then c.as_router.result c.as_router.ensures.none (λ other system there.
    let found : Some c.in-Some.system.now ≡ Some system = sym here ∙ there in
    let same : c.in-Some.system.now ≡ system = cc in
    subst (λ (s : System). (configuration_of s).role ≡ role.Host) same other)

pub returns-in-Some-clause-router : goal.returns-in-Some-clause-router
returns-in-Some-clause-router c =
    let here = found_at (λ x. x.now) c.get.result c.in-Some.system c.deref.result.now c.args.self.now.network.systems c.args.at c.in-Some.is
    c.get.ensures.lookup.1 c.get.ensures.lookup.3 (c.deref.ensures.value ∙ ap (λ (w : WorldState). w.network.systems) c.self.view_is) in
    IfSome_then c.as_router.result c.as_router.ensures.router (λ router is. here ∙ ap Some is)

pub returns-in-Some-clause-stands : goal.returns-in-Some-clause-stands
returns-in-Some-clause-stands c =
    let here = found_at (λ x. x.now) c.get.result c.in-Some.system c.deref.result.now c.args.self.now.network.systems c.args.at c.in-Some.is
    c.get.ensures.lookup.1 c.get.ensures.lookup.3 (c.deref.ensures.value ∙ ap (λ (w : WorldState). w.network.systems) c.self.view_is) in
    IfSome_then c.as_router.result c.as_router.ensures.router (λ router is model h system there.
    subst (λ (node : System). clnp_systems.Stands node system) is
    (each_at c.args.self.now.network.systems model.systems c.args.at c.in-Some.system.now system h.holds.shows.systems here there))
