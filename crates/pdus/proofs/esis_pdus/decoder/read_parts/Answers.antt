use Rattle.std.proofs.Common.{◌≡◌, ◌∙◌, ap, subst, ℕ, List, IfOk}
use Rattle.pdus.specs.EsisPdus.Kinds.{code_of}
use Rattle.pdus.specs.declared.esis_pdus.pdu.EsisBody.TheVariants.{Esh, Ish}
use Rattle.pdus.specs.EsisPdus.Fields.{field, behind, address_list, behind_address_list}
use Rattle.pdus.specs.EsisPdus.Reading.{redirection}
use Rattle.pdus.proofs.EsisPdus.Judged.{cut_is, of_esh, of_ish, of_rd}
use Rattle.pdus.proofs.esis_pdus.decoder.read_parts.Goals as goal

pub returns-in-EndSystemHello-clause-judged : goal.returns-in-EndSystemHello-clause-judged
returns-in-EndSystemHello-clause-judged c = of_esh c.read_addresses.result c.args.head.now (c.requires.kind ∙ ap code_of c.in-EndSystemHello.is) c.read_addresses.ensures.judged

pub returns-in-EndSystemHello-clause-body : goal.returns-in-EndSystemHello-clause-body
returns-in-EndSystemHello-clause-body c =
    let P : List ℕ → Type 0 = λ p. IfOk c.read_addresses.result (λ parts. parts.body ≡ Esh (address_list p)) in
    rw c.requires.kind (rw c.in-EndSystemHello.is (subst P (cut_is c.args.head.now) c.read_addresses.ensures.body))

pub returns-in-EndSystemHello-clause-options : goal.returns-in-EndSystemHello-clause-options
returns-in-EndSystemHello-clause-options c =
    let P : List ℕ → Type 0 = λ p. IfOk c.read_addresses.result (λ parts. parts.options.now ≡ behind_address_list p) in
    rw c.requires.kind (rw c.in-EndSystemHello.is (subst P (cut_is c.args.head.now) c.read_addresses.ensures.options))

pub returns-in-IntermediateSystemHello-clause-judged : goal.returns-in-IntermediateSystemHello-clause-judged
returns-in-IntermediateSystemHello-clause-judged c = of_ish c.read_title.result c.args.head.now (c.requires.kind ∙ ap code_of c.in-IntermediateSystemHello.is) c.read_title.ensures.judged

pub returns-in-IntermediateSystemHello-clause-body : goal.returns-in-IntermediateSystemHello-clause-body
returns-in-IntermediateSystemHello-clause-body c =
    let P : List ℕ → Type 0 = λ p. IfOk c.read_title.result (λ parts. parts.body ≡ Ish (field p)) in
    rw c.requires.kind (rw c.in-IntermediateSystemHello.is (subst P (cut_is c.args.head.now) c.read_title.ensures.body))

pub returns-in-IntermediateSystemHello-clause-options : goal.returns-in-IntermediateSystemHello-clause-options
returns-in-IntermediateSystemHello-clause-options c =
    let P : List ℕ → Type 0 = λ p. IfOk c.read_title.result (λ parts. parts.options.now ≡ behind p) in
    rw c.requires.kind (rw c.in-IntermediateSystemHello.is (subst P (cut_is c.args.head.now) c.read_title.ensures.options))

pub returns-in-Redirect-clause-judged : goal.returns-in-Redirect-clause-judged
returns-in-Redirect-clause-judged c = of_rd c.read_redirection.result c.args.head.now (c.requires.kind ∙ ap code_of c.in-Redirect.is) c.read_redirection.ensures.judged

pub returns-in-Redirect-clause-body : goal.returns-in-Redirect-clause-body
returns-in-Redirect-clause-body c =
    let P : List ℕ → Type 0 = λ p. IfOk c.read_redirection.result (λ parts. parts.body ≡ redirection p) in
    rw c.requires.kind (rw c.in-Redirect.is (subst P (cut_is c.args.head.now) c.read_redirection.ensures.body))

pub returns-in-Redirect-clause-options : goal.returns-in-Redirect-clause-options
returns-in-Redirect-clause-options c =
    let P : List ℕ → Type 0 = λ p. IfOk c.read_redirection.result (λ parts. parts.options.now ≡ behind (behind (behind p))) in
    rw c.requires.kind (rw c.in-Redirect.is (subst P (cut_is c.args.head.now) c.read_redirection.ensures.options))
