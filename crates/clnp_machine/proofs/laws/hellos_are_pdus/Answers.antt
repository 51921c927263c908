use Rattle.clnp_machine.proofs.Said.{hello_pdu, step_known, step_own, step_pdus}
use Rattle.clnp_machine.proofs.laws.hellos_are_pdus.Goals as goal

pub returns-clause-own : goal.returns-clause-own
returns-clause-own c = step_own

pub returns-clause-hello : goal.returns-clause-hello
returns-clause-hello c = hello_pdu

pub returns-clause-pdus : goal.returns-clause-pdus
returns-clause-pdus c = λ s input system each next fair knows. step_pdus s next knows c.what_is_longest_covers.ensures system each input fair

pub returns-clause-known : goal.returns-clause-known
returns-clause-known c = step_known
