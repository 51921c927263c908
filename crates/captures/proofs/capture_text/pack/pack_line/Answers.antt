use Rattle.captures.proofs.CaptureText.Answered as answered_facts
use Rattle.captures.proofs.capture_text.pack.pack_line.Goals as goal

pub returns-clause-skipped : goal.returns-clause-skipped
returns-clause-skipped c = answered_facts.skipped c.pack_told.result c.args.line.now c.pack_told.ensures.told

pub returns-clause-not_packable : goal.returns-clause-not_packable
returns-clause-not_packable c = answered_facts.not_packable c.pack_told.result c.args.line.now c.pack_told.ensures.told

pub returns-clause-not_shown : goal.returns-clause-not_shown
returns-clause-not_shown c = answered_facts.not_shown c.pack_told.result c.args.line.now c.pack_told.ensures.told

pub returns-clause-count : goal.returns-clause-count
returns-clause-count c = answered_facts.counted c.pack_told.result c.args.line.now c.pack_told.ensures.told

pub returns-clause-packed : goal.returns-clause-packed
returns-clause-packed c = answered_facts.packed c.pack_told.result c.args.line.now c.pack_told.ensures.told
