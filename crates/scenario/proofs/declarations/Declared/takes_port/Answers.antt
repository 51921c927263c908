use Rattle.std.proofs.Common.{◌∙◌, ap, refl}
use Rattle.scenario.specs.Declarations.{Declarations, takes_port}
use Rattle.scenario.proofs.Found.{found_is, none_is}
use Rattle.scenario.proofs.declarations.Declared.takes_port.Goals as goal

pub returns-in-Some : goal.returns-in-Some
returns-in-Some c =
    c.takes_port.ensures ∙ found_is takes_port c.get.result c.in-Some.system c.deref.result.now c.args.self.now.systems c.args.place c.args.place c.in-Some.is
    c.get.ensures.lookup.1 c.get.ensures.lookup.3 (c.deref.ensures.value ∙ ap (λ (d : Declarations). d.systems) c.self.view_is) refl

pub returns-in-None : goal.returns-in-None
returns-in-None c =
    none_is takes_port c.get.result c.deref.result.now c.args.self.now.systems c.args.place c.args.place c.in-None.is c.get.ensures.lookup.3
    (c.deref.ensures.value ∙ ap (λ (d : Declarations). d.systems) c.self.view_is) refl
