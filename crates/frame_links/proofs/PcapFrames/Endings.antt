-- What the octets that a reader took are read as.
use Rattle.std.proofs.Common.{ℕ, inl, inr, List, [], ◌∷◌, ◌++◌, length, refl, sym, ap, ◌∙◌, arith}
use Rattle.std.proofs.lemmas.List.{append-nil}
use Rattle.frame_links.specs.declared.pcap_frames.order.Order.{Order}
use Rattle.frame_links.specs.PcapFrames.File.{Begins, Captured, Pcap, all_captured, header_octets}
use Rattle.frame_links.specs.PcapFrames.Reading.{IsReadAs, Reading, InHeader, InRecord, AtRecord, Stopped, Stands, ending_of}

pub begins_whole : (order : Order) (octets : List ℕ) (records : List Captured) → Begins order octets records [] → Pcap order records octets
begins_whole order octets records b =
    record {
      header = b.header;
      right = b.right;
      each = b.each;
      spelled = b.spelled ∙ ap (λ (xs : List ℕ). header_octets order b.header ++ xs) (append-nil (all_captured order records));
    }

pub taken_is_read : (reading : Reading) (taken : List ℕ) (records : List Captured) → Stands reading taken records
    → IsReadAs taken records (ending_of reading)
taken_is_read (InHeader part) taken records h =
    let few = h.few in
    let size = ap length h.same in
    inl (record { none = h.none; few = omega arith; counted = sym size })
taken_is_read (InRecord order []) taken records h = (order, begins_whole order taken records h.begins)
taken_is_read (InRecord order (x ∷ xs)) taken records h =
    inr (record { order = order; part = x ∷ xs; begins = h.begins; partial = h.partial; some = omega arith; counted = refl })
taken_is_read (AtRecord order captured) taken records h = (order, begins_whole order taken records h.begins)
taken_is_read (Stopped fault) taken records h = h
