use Rattle.std.proofs.Common.{◌≤◌, ap, arith, length, lit<}
use Rattle.pdus.proofs.NsapFacts.PrefixFacts.{IsPrefix-whole, digits_within}
use Rattle.pdus.proofs.nsap.prefix.Prefix.of_address.Goals as goal

pub push-requires : goal.push-requires
push-requires c =
    let few : length c.as_bytes-octet-items.result.now ≤ 20 = omega (arith, ap length c.as_bytes-octet-items.ensures.octets, c.as_bytes-octet-items.ensures.bounds.few) in (
      lit< tt,
      digits_within c.as_bytes-octet-items.result.now c.loop-octet.digits c.loop-octet.octet-index c.loop-octet.invariant c.loop-octet-test.true few,
    )

pub invariant_of-result : goal.invariant_of-result
invariant_of-result c =
    IsPrefix-whole c.as_bytes-octet-items.result.now c.args.address.now c.loop-octet.digits c.loop-octet.octet-index c.loop-octet.invariant c.loop-octet-test.false c.as_bytes-octet-items.ensures.octets c.as_bytes-octet-items.ensures.bounds

pub returns-clause-bounds : goal.returns-clause-bounds
returns-clause-bounds c =
    IsPrefix-whole c.as_bytes-octet-items.result.now c.args.address.now c.loop-octet.digits c.loop-octet.octet-index c.loop-octet.invariant c.loop-octet-test.false c.as_bytes-octet-items.ensures.octets c.as_bytes-octet-items.ensures.bounds
