use Rattle.std.proofs.Common.{sym, ◌∙◌}
use Rattle.frame_links.proofs.LinkBoard.Parts.{no_fourth}
use Rattle.frame_links.proofs.link_board.link_word.octets_of.Goals as goal

pub returns-in_err-octet_of-4 : goal.returns-in_err-octet_of-4
returns-in_err-octet_of-4 c =
    rw c.from_residual-in_err-octet_of-4.ensures
    (no_fourth c.args.a.now c.args.b.now c.args.c.now c.args.d.now c.in_ok-octet_of.field-0 c.in_ok-octet_of-2.field-0 c.in_ok-octet_of-3.field-0
    (sym c.octet_of.ensures ∙ c.in_ok-octet_of.was) (sym c.octet_of-2.ensures ∙ c.in_ok-octet_of-2.was)
    (sym c.octet_of-3.ensures ∙ c.in_ok-octet_of-3.was) (sym c.octet_of-4.ensures ∙ c.in_err-octet_of-4.was))
