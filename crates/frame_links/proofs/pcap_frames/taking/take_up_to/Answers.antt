use Rattle.std.proofs.Common.{length, inl, inr, arith}
use Rattle.std.proofs.lemmas.Bool.{cases_lt}
use Rattle.std.proofs.lemmas.List.{get_or_past}
use Rattle.frame_links.proofs.pcap_frames.taking.take_up_to.Goals as goal

pub returns-clause-bytes : goal.returns-clause-bytes
returns-clause-bytes c =
    let new = c.extend_from_slice.new.self.items in
    λ i. elim (cases_lt i (length new)) [
      | inl within ↦ omega (arith, c.type_inv.part i)
      | inr past ↦ omega (arith, get_or_past new i 0 past)
    ]
