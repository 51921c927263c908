use Rattle.std.proofs.Common.{◌≡◌, ◌*◌, ◌≤◌, ◌<◌, true, is_ok, length, sym, ◌∙◌, arith}
use Rattle.std.proofs.lemmas.Bool.Decides.{nat_tests}
use Rattle.std.proofs.lemmas.List.{length-take-le}
use Rattle.hex.specs.Hex.{decode_of}
use Rattle.frame_links.proofs.LinkBoard.Lines.{decoded, laid}
use Rattle.frame_links.proofs.link_board.capture_line.lay.Goals as goal

pub unreachable-requires : goal.unreachable-requires
unreachable-requires c =
    let h : is_ok (decode_of c.args.line.now) ≡ true = sym c.is_spelled.ensures ∙ c.if-not-is_spelled.false in
    let room = length-take-le c.min-len.result c.args.buf.now (omega (arith, c.min-len.ensures, c.requires)) in
    let few : 2 * c.min-len.result ≤ length c.args.line.now = omega (arith, c.min-len.ensures) in
    let spelled = decoded c.args.line.now c.split_at.result.0.now c.min-len.result _ h c.split_at.ensures.front room few in
    let answer = rw spelled at c.decode_to_slice.ensures.value in
    c.in_default.not-Ok tt answer.0

pub returns-clause-frame : goal.returns-clause-frame
returns-clause-frame c =
    let h : is_ok (decode_of c.args.line.now) ≡ true = sym c.is_spelled.ensures ∙ c.if-not-is_spelled.false in
    let room = length-take-le c.min-len.result c.args.buf.now (omega (arith, c.min-len.ensures, c.requires)) in
    let few : 2 * c.min-len.result ≤ length c.args.line.now = omega (arith, c.min-len.ensures) in
    let some : 0 < length c.args.line.now = grind (arith, nat_tests, c.is_empty.ensures, c.if-is_empty.false) in
    let spelled = decoded c.args.line.now c.split_at.result.0.now c.min-len.result _ h c.split_at.ensures.front room few in
    let answer = rw spelled at c.decode_to_slice.ensures.value in
    laid c.args.line.now c.decode_to_slice.new.out c.args.buf.now c.min-len.result h answer.1 some c.min-len.ensures
