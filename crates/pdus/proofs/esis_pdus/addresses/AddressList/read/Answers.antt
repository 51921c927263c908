use Rattle.std.proofs.Common.{◌∙◌, sym, false, true, arith}
use Rattle.pdus.proofs.EsisPdus.FieldFacts.{cut_list, list_judged}
use Rattle.pdus.proofs.esis_pdus.addresses.AddressList.read.Goals as goal
use Rattle.std.proofs.lemmas.List.{take_rest}

pub invariant_of-addresses : goal.invariant_of-addresses
invariant_of-addresses c =
    (cut_list c.in_ok-size.size c.args.part.now _ _ _ (take_rest c.args.part.now 1) (λ i. omega (arith, c.type_inv.part i)) c.in_ok-size.ensures.judged c.in_ok-size.ensures.size c.split_at.ensures.front c.split_at.ensures.back).filled

pub returns-clause-list : goal.returns-clause-list
returns-clause-list c =
    (cut_list c.in_ok-size.size c.args.part.now _ _ _ (take_rest c.args.part.now 1) (λ i. omega (arith, c.type_inv.part i)) c.in_ok-size.ensures.judged c.in_ok-size.ensures.size c.split_at.ensures.front c.split_at.ensures.back).list_is

pub returns-clause-behind : goal.returns-clause-behind
returns-clause-behind c =
    (cut_list c.in_ok-size.size c.args.part.now _ _ _ (take_rest c.args.part.now 1) (λ i. omega (arith, c.type_inv.part i)) c.in_ok-size.ensures.judged c.in_ok-size.ensures.size c.split_at.ensures.front c.split_at.ensures.back).others_are

pub returns-clause-judged : goal.returns-clause-judged
returns-clause-judged c =
    list_judged c.args.part.now _ true (sym c.is_empty.ensures ∙ c.if-is_empty.false) (take_rest c.args.part.now 1) c.in_ok-size.ensures.judged

pub returns-in_err-size-clause-judged : goal.returns-in_err-size-clause-judged
returns-in_err-size-clause-judged c =
    rw c.from_residual.ensures
    (list_judged c.args.part.now _ false (sym c.is_empty.ensures ∙ c.if-is_empty.false) (take_rest c.args.part.now 1) c.in_err-size.ensures.judged)
