use Rattle.std.proofs.Common.{◌∙◌, ap, sym, subst}
use Rattle.std.specs.Prelude.{slice_get}
use Rattle.system_tables.specs.Reassembly.State.{IsAt}
use Rattle.system_tables.proofs.reassembly.table.Table.place_at.Goals as goal

pub place_at-requires : goal.place_at-requires
place_at-requires c =
    let named = c.requires.named in
    (named.place, ap (λ v. slice_get v.slots named.place) c.self.view_is ∙ named.has_slot)

pub returns : goal.returns
returns c key named =
    let place = c.place_at.ensures named.place (ap (λ v. slice_get v.slots named.place) c.self.view_is ∙ named.has_slot) in
    subst (λ n. IsAt c.args.self.now n key) (sym place) named.is_at
