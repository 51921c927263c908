use Rattle.pdus.proofs.FletcherFacts.ChecksumLaws.{with_checksum_same}
use Rattle.pdus.proofs.fletcher.laws.checksum_stays.Goals as goal

pub returns : goal.returns
returns c = with_checksum_same
