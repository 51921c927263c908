use Rattle.std.proofs.Common.{◌≡◌, ◌++◌, OnOk, arith, subst}
use Rattle.std.proofs.lemmas.List.{take-replicate}
use Rattle.clnp_plan.proofs.line.make_room.Goals as goal

pub returns-then-count-le128-clause-written : goal.returns-then-count-le128-clause-written
returns-then-count-le128-clause-written c =
    subst (λ l. OnOk c.push.result (c.push.new.out.items ≡ c.args.out.now.items ++ l)) (take-replicate c.args.count 128 0 (omega arith))
    c.push.ensures.written
