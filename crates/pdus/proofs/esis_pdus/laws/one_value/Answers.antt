use Rattle.pdus.proofs.EsisPdus.Frames.{one_front}
use Rattle.pdus.proofs.esis_pdus.laws.one_value.Goals as goal

pub returns : goal.returns
returns c = one_front
