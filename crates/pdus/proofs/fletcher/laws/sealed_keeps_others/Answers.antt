use Rattle.pdus.proofs.FletcherFacts.ChecksumLaws.{sealed_shares, length-sealed, sealed_other, without_checksum-sealed, sealed-with_checksum}
use Rattle.pdus.proofs.fletcher.laws.sealed_keeps_others.Goals as goal

pub returns-clause-shape : goal.returns-clause-shape
returns-clause-shape c = sealed_shares

pub returns-clause-length : goal.returns-clause-length
returns-clause-length c = length-sealed

pub returns-clause-others : goal.returns-clause-others
returns-clause-others c = sealed_other

pub returns-clause-bare : goal.returns-clause-bare
returns-clause-bare c = without_checksum-sealed

pub returns-clause-free : goal.returns-clause-free
returns-clause-free c = sealed-with_checksum
