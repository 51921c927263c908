use Rattle.std.proofs.Common.{[], None, length, ◌+◌, refl, arith}
use Rattle.pdus.specs.MadePdus.Reply.{plain_length}
use Rattle.pdus.proofs.MadePdus.ReplyLengths.{decided, head_is, head_len}
use Rattle.pdus.proofs.made_pdus.echo_laws.a_reply_without_identifier_is_short.Goals as goal

pub returns : goal.returns
returns c request life is_sealed =
    decided (plain_length request.destination request.source + length request.body)
    (head_len request.source request.destination None [] + length request.body)
    (omega (arith, head_is request.source request.destination None [] refl))
