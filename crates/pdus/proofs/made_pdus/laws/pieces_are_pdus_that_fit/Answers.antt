use Rattle.pdus.proofs.MadePdus.Claims.{pieces_are_pdus, pieces_fit, pieces_fill_up, pieces_say_more, pieces_keep_unit}
use Rattle.pdus.proofs.made_pdus.laws.pieces_are_pdus_that_fit.Goals as goal

pub returns-clause-pdus : goal.returns-clause-pdus
returns-clause-pdus c = pieces_are_pdus

pub returns-clause-fit : goal.returns-clause-fit
returns-clause-fit c = pieces_fit

pub returns-clause-filled : goal.returns-clause-filled
returns-clause-filled c = pieces_fill_up

pub returns-clause-more : goal.returns-clause-more
returns-clause-more c = pieces_say_more

pub returns-clause-unit : goal.returns-clause-unit
returns-clause-unit c v mtu h m = pieces_keep_unit v mtu
