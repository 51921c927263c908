use Rattle.std.proofs.Common.{◌++◌, ◌-◌, List, ℕ, arith, inl, inr, length, refl}
use Rattle.std.proofs.lemmas.Bool.{cases_Bool, ltb-false, ltb-true}
use Rattle.std.proofs.lemmas.List.{get_or-append_right, get_or_append_left}
use Rattle.std.specs.Prelude.{nat_lt}
use Rattle.hex.specs.Hex.{IsBytes}
use Rattle.clnp_machine.specs.Content.{content_of}
use Rattle.clnp_systems.proofs.entity.steps.octets_have_content.Goals as goal

bytes_of_both : (front behind : List ℕ) → IsBytes front → IsBytes behind → IsBytes (front ++ behind)
bytes_of_both front behind some others i =
    elim (cases_Bool (nat_lt i (length front))) [
      | inl before ↦ let l = ltb-true i (length front) before in let at = get_or_append_left front behind 0 i l in omega (arith, at, some i)
      | inr past ↦ let l = ltb-false i (length front) past in
          let at = get_or-append_right front behind (length front) i 0 refl (omega (arith, l)) in omega (arith, at, others (i - length front))
    ]

pub returns : goal.returns
returns c =
    let front = c.args.front.now in
    let behind = c.args.behind.now in
    let bytes = bytes_of_both front behind (λ i. omega (arith, c.type_inv.front i)) (λ i. omega (arith, c.type_inv.behind i)) in (
      content_of 0 0 (front ++ behind),
      c.octets_have_a_content.ensures.carried 0 0 (front ++ behind) bytes,
      c.octets_have_a_content.ensures.frame 0 0 (front ++ behind) bytes,
    )
