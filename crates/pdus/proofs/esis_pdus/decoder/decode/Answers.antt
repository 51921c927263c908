use Rattle.std.proofs.Common.{◌≡◌, ◌==◌, false, arith, rules}
use Rattle.pdus.specs.Fletcher.Checksum.{octet}
use Rattle.pdus.proofs.EsisPdus.Frames.{other_protocol}
use Rattle.pdus.proofs.EsisPdus.Decoded.{found, none, writable}
use Rattle.pdus.proofs.esis_pdus.decoder.decode.Goals as goal

pub returns-then-not-is_esis-clause-none : goal.returns-then-not-is_esis-clause-none
returns-then-not-is_esis-clause-none c =
    let differs : (octet c.args.frame.now 1 == 0x82) ≡ false = search rules in
    other_protocol c.args.frame.now differs

pub returns-clause-found : goal.returns-clause-found
returns-clause-found c =
    let protocol : octet c.args.frame.now 1 ≡ 0x82 = search rules in
    found c.args.frame.now c.read.result (λ i. omega (arith, c.type_inv.frame i)) protocol c.read.ensures.judged c.read.ensures.value c.read.ensures.rest

pub returns-clause-none : goal.returns-clause-none
returns-clause-none c = none c.args.frame.now c.read.result c.read.ensures.judged

pub returns-clause-writable : goal.returns-clause-writable
returns-clause-writable c =
    let protocol : octet c.args.frame.now 1 ≡ 0x82 = search rules in
    writable c.args.frame.now c.read.result (λ i. omega (arith, c.type_inv.frame i)) protocol c.read.ensures.judged c.read.ensures.value c.read.ensures.options
