use Rattle.std.proofs.Common.{[], Some, length, ◌+◌, refl, sym, ap}
use Rattle.pdus.specs.MadePdus.Reply.{part_of}
use Rattle.pdus.proofs.MadePdus.ReplyLengths.{head_is}
use Rattle.pdus.proofs.made_pdus.echo_laws.a_reply_is_the_whole_of_its_unit.Goals as goal

pub returns : goal.returns
returns c request identifier life is_sealed =
    ap (λ n. n + length request.body) (sym (head_is request.source request.destination (part_of request (Some identifier)) [] refl))
