use Rattle.pdus.proofs.FletcherFacts.ChecksumLaws.{sealed_once}
use Rattle.pdus.proofs.fletcher.laws.one_checksum.Goals as goal

pub returns : goal.returns
returns c = sealed_once
