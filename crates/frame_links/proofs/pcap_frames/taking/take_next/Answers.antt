use Rattle.std.proofs.Common.{ap}
use Rattle.std.proofs.lemmas.Bool.{both_ways}
use Rattle.frame_links.specs.PcapFrames.Stages.{is_broken}
use Rattle.frame_links.proofs.pcap_frames.taking.take_next.Goals as goal

pub take_header-requires-clause-few : goal.take_header-requires-clause-few
take_header-requires-clause-few c = rw c.in-Header.is at c.requires.held

pub take_record-requires-clause-part : goal.take_record-requires-clause-part
take_record-requires-clause-part c = rw c.in-Part.is at c.requires.held

pub returns-in-Header-clause-takes : goal.returns-in-Header-clause-takes
returns-in-Header-clause-takes c = rw c.in-Header.is c.take_header.ensures.takes

pub returns-in-Header-clause-again : goal.returns-in-Header-clause-again
returns-in-Header-clause-again c = λ fault broken. absurd (both_ways (is_broken c.args.stage) (ap is_broken c.in-Header.is) (ap is_broken broken))

pub returns-in-Part-clause-takes : goal.returns-in-Part-clause-takes
returns-in-Part-clause-takes c = rw c.in-Part.is c.take_record.ensures.takes

pub returns-in-Part-clause-again : goal.returns-in-Part-clause-again
returns-in-Part-clause-again c = λ fault broken. absurd (both_ways (is_broken c.args.stage) (ap is_broken c.in-Part.is) (ap is_broken broken))

pub returns-in-Whole-clause-again : goal.returns-in-Whole-clause-again
returns-in-Whole-clause-again c = λ fault broken. absurd (both_ways (is_broken c.args.stage) (ap is_broken c.in-Whole.is) (ap is_broken broken))

pub returns-in-Broken-clause-some : goal.returns-in-Broken-clause-some
returns-in-Broken-clause-some c = λ whole. absurd (both_ways (is_broken c.args.stage) whole (ap is_broken c.in-Broken.is))
