use Rattle.std.proofs.Common.{◌≡◌, ap, length, take, arith, List, ℕ, ◌∷◌}
use Rattle.std.proofs.lemmas.List.{take_all, length-append}
use Rattle.pdus.specs.ClnpOptions.Grammar.{joined}
use Rattle.pdus.specs.Nsap.Address.{IsAddress}
use Rattle.pdus.proofs.EsisPdus.FieldFacts.{joined-nil, joined_more, all_more}
use Rattle.pdus.proofs.EsisPdus.Made.{esh_size}
use Rattle.pdus.proofs.esis_pdus.hello.esh_len.Goals as goal

pub loop-address-init : goal.loop-address-init
loop-address-init c = record { size = omega (arith, ap length joined-nil); few = omega arith; each = λ k d within. absurd (omega arith) }

pub loop-address-preserved : goal.loop-address-preserved
loop-address-preserved c =
    let address = c.address-item.result in
    let is : IsAddress address = c.as_bytes.ensures.bounds in
    let more = joined_more c.args.addresses.now c.loop-address.address-index address c.loop-address-test.true c.address-item.is in
    let size : length c.as_bytes.result.now ≡ length address = ap length c.as_bytes.ensures.octets in
    record {
      size = omega (arith, size, c.loop-address.invariant.size, ap length more, length-append (joined (take c.loop-address.address-index c.args.addresses.now)) (length address ∷ address));
      few = omega (arith, size, c.loop-address.invariant.few, is.few);
      each = all_more c.args.addresses.now c.loop-address.address-index address c.loop-address-test.true c.address-item.is c.loop-address.invariant.each is;
    }

pub returns-clause-value : goal.returns-clause-value
returns-clause-value c =
    let all : take c.loop-address.address-index c.args.addresses.now ≡ c.args.addresses.now = take_all _ c.args.addresses.now c.loop-address-test.false in
    omega (arith, c.loop-address.invariant.size, ap (λ (t : List (List ℕ)). length (joined t)) all, esh_size c.args.addresses.now)
