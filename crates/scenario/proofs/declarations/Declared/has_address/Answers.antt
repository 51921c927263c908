use Rattle.std.proofs.Common.{◌≡◌, ap, List, ℕ, nat_eq, sym, ◌∙◌}
use Rattle.std.specs.Cmp.Lexicographic.{pointwise}
use Rattle.scenario.specs.Declarations.{Declarations, DeclaredSystem}
use Rattle.clnp_plan.proofs.ClnpBase.Maps.{list_any-flat_map}
use Rattle.scenario.proofs.declarations.Declared.has_address.Goals as goal

pub returns : goal.returns
returns c =
    let here : c.self.inside.systems.items ≡ c.args.self.now.systems = ap (λ (d : Declarations). d.systems) c.self.view_is in
    rw (c.deref.ensures.value, here) at c.has_address.ensures
    ∙ sym (list_any-flat_map (λ (other : List ℕ). pointwise nat_eq other c.args.address.now) (λ (system : DeclaredSystem). system.addresses) c.args.self.now.systems)
