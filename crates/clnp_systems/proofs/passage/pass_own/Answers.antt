-- So many passings are left as the loop has turns.
use Rattle.std.proofs.Common.{◌≡◌, ◌∙◌, sym, ℕ, ◌+◌, ◌-◌, suc, arith}
use Rattle.clnp_machine.specs.ClnpOptions.Edits.{advanced, edited}
use Rattle.clnp_machine.specs.ClnpOptions.Parameter.{source_route}
use Rattle.clnp_machine.specs.Step.{most_titles}
use Rattle.clnp_machine.specs.PduHeader.Headers.{with_options}
use Rattle.clnp_systems.proofs.Behind.{begins, ends, ends_at_last, goes_on}
use Rattle.clnp_systems.proofs.passage.pass_own.Goals as goal

pub loop-init : goal.loop-init
loop-init c = record { passing = λ s v title spells. begins most_titles s v c.args.head.now spells; header = c.requires }

pub advance_route-requires : goal.advance_route-requires
advance_route-requires c =
    let header = c.loop.invariant.header in
    (header.0, header.1, c.is_named.ensures.leads_on header.0 header.1 c.if-not-is_named.false)

pub loop-preserved : goal.loop-preserved
loop-preserved c =
    let header = c.loop.invariant.header in
    record {
      passing = λ s v title spells.
          let left : ℕ = most_titles - (c.loop.counter + 1) in
          let before : ℕ = most_titles - c.loop.counter in
          let is : before ≡ suc left = omega arith in
          let so_far = c.loop.invariant.passing s v title spells in
          let there = with_options so_far.options v in
          goes_on most_titles s v c.loop.head c.advance_route.new.self left before is so_far
          (sym (c.is_named.ensures.named s there title so_far.spells) ∙ c.if-not-is_named.false) (c.advance_route.ensures.spells there so_far.spells);
      header = (with_options (edited source_route advanced header.0.options) header.0, c.advance_route.ensures.spells header.0 header.1);
    }

pub returns-then-not-is_named : goal.returns-then-not-is_named
returns-then-not-is_named c = λ s v title spells.
    let so_far = c.loop.invariant.passing s v title spells in
    ends most_titles s v c.loop.head (most_titles - c.loop.counter) so_far
    (sym (c.is_named.ensures.named s (with_options so_far.options v) title so_far.spells) ∙ c.if-not-is_named.true)

pub returns : goal.returns
returns c = λ s v title spells.
    let none : most_titles - c.loop.counter ≡ 0 = omega arith in
    ends_at_last most_titles s v c.loop.head (most_titles - c.loop.counter) none (c.loop.invariant.passing s v title spells)
