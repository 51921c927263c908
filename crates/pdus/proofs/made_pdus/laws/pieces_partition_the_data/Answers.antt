use Rattle.pdus.proofs.MadePdus.Again.{order_again, partition_again, segments_again}
use Rattle.pdus.proofs.MadePdus.Claims.{pieces_partition}
use Rattle.pdus.proofs.made_pdus.laws.pieces_partition_the_data.Goals as goal

pub returns-clause-once : goal.returns-clause-once
returns-clause-once c = pieces_partition

pub returns-clause-again : goal.returns-clause-again
returns-clause-again c = partition_again

pub returns-clause-segments : goal.returns-clause-segments
returns-clause-segments c = segments_again

pub returns-clause-in_order : goal.returns-clause-in_order
returns-clause-in_order c = order_again
