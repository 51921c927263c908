-- Worked examples, computed with the definitions: the line of a hello to all intermediate systems, the record that is made of
-- it, what is seen in that and the line again; bad lines; and answers to faults and cuts.
use Rattle.std.proofs.Common.{◌≡◌, ℕ, List, [], ◌∷◌, codes, refl}
use Rattle.std.specs.Fmt.{digits}
use Rattle.hex.specs.Hex.{decode_pairs, encode_with}
use Rattle.pdus.specs.Nsap.Text.{octets_of}
use Rattle.clnp_base.specs.declared.command_base.status.Status.TheVariants as status
use Rattle.frame_links.specs.declared.pcap_frames.fault.PcapFault.TheVariants.{RecordLength}
use Rattle.frame_links.specs.PcapFrames.Frames.{OsiFrame, OtherFrame}
use Rattle.frame_links.specs.PcapFrames.Making.{Frame}
use Rattle.frame_links.specs.PcapFrames.Reading.{CutOff}
use Rattle.captures.specs.CaptureCommands.Called.{fault_status, whole_status}
use Rattle.captures.specs.CaptureCommands.Lines.{line_seen}
use Rattle.captures.specs.CaptureCommands.Make.{Makes, Malformed, Skipped, line_of}
use Rattle.captures.specs.CaptureCommands.Stations.{frame_line}

-- an end system hello to all intermediate systems
abbrev hello : List ℕ
hello = 130 ∷ 15 ∷ 1 ∷ 0 ∷ 2 ∷ 0 ∷ 120 ∷ 50 ∷ 75 ∷ 1 ∷ 4 ∷ 71 ∷ 0 ∷ 39 ∷ 2 ∷ []

abbrev said : Frame
said = record { seconds = 0; to = 9 ∷ 0 ∷ 43 ∷ 0 ∷ 0 ∷ 5 ∷ []; from = 10 ∷ 0 ∷ 0 ∷ 0 ∷ 0 ∷ 1 ∷ []; pdu = hello }

hello-made : line_of (codes "0 is 0a0000000001 820f0100020078324b010447002702") ≡ Makes said
unfolding line_of octets_of decode_pairs
hello-made = refl

hello-line : frame_line said ≡ codes "0 is 0a0000000001 820f0100020078324b010447002702"
unfolding encode_with digits
hello-line = refl

empty-line : line_seen 3 0 (OsiFrame (10 ∷ 0 ∷ 0 ∷ 0 ∷ 0 ∷ 1 ∷ []) (10 ∷ 0 ∷ 0 ∷ 0 ∷ 0 ∷ 2 ∷ []) []) ≡ codes "# 3 empty"
unfolding digits
empty-line = refl

other-line : line_seen 1 0 OtherFrame ≡ codes "# 1 other"
unfolding digits
other-line = refl

remark-skipped : line_of (codes "# 1 other") ≡ Skipped
unfolding line_of
remark-skipped = refl

three-words : line_of (codes "0 is 0a0000000001") ≡ Malformed 2
unfolding line_of
three-words = refl

seconds-high : line_of (codes "4294967296 is 0a0000000001 00") ≡ Malformed 3
unfolding line_of
seconds-high = refl

seven-octets : line_of (codes "0 is 0a000000000102 00") ≡ Malformed 4
unfolding line_of octets_of decode_pairs
seven-octets = refl

group-as-source : line_of (codes "0 is es 00") ≡ Malformed 4
unfolding line_of octets_of decode_pairs
group-as-source = refl

-- a record that lacks an octet, no octet, and each fault behind one record
cut-record : whole_status 99 0 (CutOff 75) ≡ status.BadInput 1 15
cut-record = refl

no-octet : whole_status 0 0 (CutOff 0) ≡ status.BadInput 0 15
no-octet = refl

too-great : fault_status 1 (RecordLength 262145) ≡ status.BadInput 2 14
too-great = refl
