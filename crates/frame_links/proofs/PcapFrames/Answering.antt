-- What holds where a reader tells a fault.
use Rattle.std.proofs.Common.{ℕ}
use Rattle.std.specs.Prelude.{OnErr}
use Rattle.frame_links.specs.declared.pcap_frames.stage.Stage.{Stage}
use Rattle.frame_links.specs.declared.pcap_frames.stage.Stage.TheVariants.{Header, Part, Whole, Broken}
use Rattle.frame_links.specs.PcapFrames.Stages.{answer_of}

pub where_refused : {P : Type 0} (count : ℕ) (stage : Stage) → P → OnErr (answer_of count stage) P
where_refused count Header h = tt
where_refused count (Part order) h = tt
where_refused count (Whole order) h = tt
where_refused count (Broken fault) h = h
