use Rattle.pdus.proofs.FletcherFacts.ChecksumLaws.{sealed_is_unique, sealed_of_bare}
use Rattle.pdus.proofs.fletcher.laws.sealed_is_unique.Goals as goal

pub returns-clause-of_other : goal.returns-clause-of_other
returns-clause-of_other c = sealed_is_unique

pub returns-clause-of_bare : goal.returns-clause-of_bare
returns-clause-of_bare c = sealed_of_bare
