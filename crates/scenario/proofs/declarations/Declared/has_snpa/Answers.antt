use Rattle.std.proofs.Common.{◌≡◌, ap, sym, ◌∙◌}
use Rattle.scenario.specs.Declarations.{Declarations}
use Rattle.scenario.proofs.Lists.{any_snpa}
use Rattle.scenario.proofs.declarations.Declared.has_snpa.Goals as goal

pub returns : goal.returns
returns c =
    let here : c.self.inside.systems.items ≡ c.args.self.now.systems = ap (λ (d : Declarations). d.systems) c.self.view_is in
    rw (c.deref.ensures.value, here) at c.has_snpa.ensures ∙ sym (any_snpa c.args.subnet c.args.snpa.now c.args.self.now.systems)
