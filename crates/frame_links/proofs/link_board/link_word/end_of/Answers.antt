use Rattle.std.proofs.Common.{sym, ap, ◌∙◌, arith}
use Rattle.frame_links.specs.LinkBoard.Words.{end_in}
use Rattle.frame_links.proofs.LinkBoard.Parts.{both, no_address, no_port, two_parts}
use Rattle.frame_links.proofs.link_board.link_word.end_of.Goals as goal

pub returns-in_err-address : goal.returns-in_err-address
returns-in_err-address c =
    let first = c.first_part.result.0.now in
    let second = c.first_part-2.result.0.now in
    c.from_residual.ensures
    ∙ sym (ap end_in (two_parts 58 c.args.text.now first second c.first_part.result.1 c.first_part-2.result.1 c.in_default-Some.port
    c.first_part.ensures.parts c.in_default-Some.is-1 (rw c.in_default-Some.port-is at c.first_part-2.ensures.parts) c.in_default-None.is-1)
    ∙ no_address first second c.in_err-address.ensures)

pub returns-in_err-port : goal.returns-in_err-port
returns-in_err-port c =
    let first = c.first_part.result.0.now in
    let second = c.first_part-2.result.0.now in
    c.from_residual-in_err-port.ensures
    ∙ sym (ap end_in (two_parts 58 c.args.text.now first second c.first_part.result.1 c.first_part-2.result.1 c.in_default-Some.port
    c.first_part.ensures.parts c.in_default-Some.is-1 (rw c.in_default-Some.port-is at c.first_part-2.ensures.parts) c.in_default-None.is-1)
    ∙ no_port first second c.in_ok-address.address c.in_ok-address.ensures c.in_err-port.ensures.number)

pub overflow_cast-port : goal.overflow_cast-port
overflow_cast-port c = omega (arith, c.in_ok-port.ensures.within)

pub returns : goal.returns
returns c =
    let first = c.first_part.result.0.now in
    let second = c.first_part-2.result.0.now in
    sym (ap end_in (two_parts 58 c.args.text.now first second c.first_part.result.1 c.first_part-2.result.1 c.in_default-Some.port
    c.first_part.ensures.parts c.in_default-Some.is-1 (rw c.in_default-Some.port-is at c.first_part-2.ensures.parts) c.in_default-None.is-1)
    ∙ both first second c.in_ok-address.address c.in_ok-port.field-0 c.in_ok-address.ensures c.in_ok-port.ensures.number)
