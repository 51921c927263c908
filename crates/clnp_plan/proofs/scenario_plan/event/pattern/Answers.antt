-- One more row.
use Rattle.std.proofs.Common.{◌≡◌, ◌∙◌, ◌*◌, ◌+◌, ◌≤◌, ◌/◌, ◌%◌, ℕ, arith, ap, map, min, refl}
use Rattle.std.specs.List.{range_with_len}
use Rattle.std.proofs.lemmas.Result.{err_from_is_err_and}
use Rattle.clnp_plan.proofs.ScenarioPlan.Patterns.{row_more}
use Rattle.clnp_plan.proofs.scenario_plan.event.pattern.Goals as goal

pub loop-number-preserved : goal.loop-number-preserved
loop-number-preserved c =
    let number = c.loop-number.number in
    let more = c.min-more.result in
    let few : more ≤ 256 = omega arith in
    let full : min c.args.len (number * 256) ≡ number * 256 = omega arith in
    let size : number * 256 + more ≡ min c.args.len ((number + 1) * 256) = omega arith in
    c.in_ok-extend_from_slice.ensures.items
    ∙ row_more c.args.start ((c.args.start + number % 256) % 256) number (min c.args.len ((number + 1) * 256)) more c.row_from-row.result c.loop-number.octets.items
    c.row_from-row.ensures refl few
    (c.loop-number.invariant ∙ ap (λ (n : ℕ). map (λ q. (q + q / 256 + c.args.start) % 256) (range_with_len 0 n)) full) size

pub returns-in_err-extend_from_slice : goal.returns-in_err-extend_from_slice
returns-in_err-extend_from_slice c =
    let p = err_from_is_err_and c.from_residual-in_err-extend_from_slice.result c.from_residual-in_err-extend_from_slice.ensures.1 in
    rw p.1 tt

pub loop-number-init : goal.loop-number-init
loop-number-init c =
    let none : 0 ≡ min c.args.len 0 = omega arith in
    c.in_ok-octets.ensures.items ∙ ap (λ (n : ℕ). map (λ q. (q + q / 256 + c.args.start) % 256) (range_with_len 0 n)) none

pub returns : goal.returns
returns c =
    let full : min c.args.len (c.loop-number.number * 256) ≡ c.args.len = omega (arith, c.loop-number-test.false, c.div_ceil-number-end.ensures) in
    c.loop-number.invariant ∙ ap (λ (n : ℕ). map (λ q. (q + q / 256 + c.args.start) % 256) (range_with_len 0 n)) full
