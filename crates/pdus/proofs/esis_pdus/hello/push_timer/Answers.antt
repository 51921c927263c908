use Rattle.std.proofs.Common.{◌∙◌, sym, ap, ◌++◌, List, ℕ, Option}
use Rattle.std.proofs.lemmas.List.{append-nil}
use Rattle.pdus.specs.ClnpOptions.Parameter.{spelled}
use Rattle.pdus.specs.EsisPdus.Making.{timer_options}
use Rattle.pdus.proofs.EsisPdus.Made.{spelled_timer}
use Rattle.pdus.proofs.esis_pdus.hello.push_timer.Goals as goal
use Rattle.pdus.proofs.EsisPdus.Options.{spelled-nil}

pub returns-in_default : goal.returns-in_default
returns-in_default c =
    sym (append-nil c.args.plain.now)
    ∙ ap (λ (t : List ℕ). c.args.plain.now ++ t) (sym spelled-nil)
    ∙ ap (λ (s : Option ℕ). c.args.plain.now ++ spelled (timer_options s)) (sym c.in_default.is)

pub returns : goal.returns
returns c =
    c.push.ensures
    ∙ ap (λ (t : List ℕ). c.args.plain.now ++ t) (rw c.write_u16.ensures (sym (spelled_timer c.in-Some.seconds)))
    ∙ ap (λ (s : Option ℕ). c.args.plain.now ++ spelled (timer_options s)) (sym c.in-Some.is)
