use Rattle.std.proofs.Common.{◌∙◌, sym, ap, ◌+◌, ◌++◌, length, take, arith, List, ℕ}
use Rattle.std.proofs.lemmas.List.{append-nil, append_assoc, length-append}
use Rattle.pdus.specs.ClnpOptions.Grammar.{joined}
use Rattle.pdus.specs.PduHeader.Spelling.{counted}
use Rattle.pdus.proofs.EsisPdus.FieldFacts.{joined-nil, joined_more, joined_part}
use Rattle.pdus.proofs.esis_pdus.hello.push_addresses.Goals as goal

pub loop-address-init : goal.loop-address-init
loop-address-init c = sym (append-nil c.args.plain.now) ∙ ap (λ (t : List ℕ). c.args.plain.now ++ t) (sym joined-nil)

pub push_counted-requires : goal.push_counted-requires
push_counted-requires c =
    let address = c.address-item.result in
    let index = c.loop-address.address-index in
    let more = joined_more c.args.addresses.now index address c.loop-address-test.true c.address-item.is in (
      omega arith,
      (
        omega arith,
        omega (
          arith,
          ap length c.loop-address.invariant,
          ap length c.as_bytes.ensures.octets,
          ap length more,
          joined_part c.args.addresses.now (index + 1),
          length-append c.args.plain.now (joined (take index c.args.addresses.now)),
          length-append (joined (take index c.args.addresses.now)) (counted address),
        ),
      ),
    )

pub loop-address-preserved : goal.loop-address-preserved
loop-address-preserved c =
    let address = c.address-item.result in
    let index = c.loop-address.address-index in
    let front = joined (take index c.args.addresses.now) in
    c.push_counted.ensures
    ∙ ap (λ (t : List ℕ). c.loop-address.plain ++ counted t) c.as_bytes.ensures.octets
    ∙ ap (λ (t : List ℕ). t ++ counted address) c.loop-address.invariant
    ∙ append_assoc c.args.plain.now front (counted address)
    ∙ ap (λ (t : List ℕ). c.args.plain.now ++ t) (sym (joined_more c.args.addresses.now index address c.loop-address-test.true c.address-item.is))
