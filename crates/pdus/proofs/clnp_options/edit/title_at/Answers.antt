use Rattle.std.proofs.Common.{ap, ◌∙◌, arith, ◌≡◌, ◌+◌, ◌-◌, take, drop, Some}
use Rattle.pdus.specs.ClnpOptions.Edits.{pointer_of, title_size}
use Rattle.pdus.proofs.ClnpOptions.Values.{title_at-none, title_at-some}
use Rattle.pdus.proofs.clnp_options.edit.title_at.Goals as goal

pub returns-then-pointer-value : goal.returns-then-pointer-value
returns-then-pointer-value c = title_at-none c.args.value.now c.if-pointer-value.true

pub returns : goal.returns
returns c =
    let v = c.args.value.now in
    let n : pointer_of v + title_size v - pointer_of v ≡ title_size v = omega arith in
    ap (λ k. Some (take k (drop (pointer_of v) v))) n ∙ title_at-some v c.if-pointer-value.false
