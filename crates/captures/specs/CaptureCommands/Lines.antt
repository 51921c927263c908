-- The lines of a file's records.
use Rattle.std.specs.Prelude.{◌≡◌, ℕ, ◌+◌, List, [], ◌∷◌, ◌++◌, codes}
use Rattle.std.specs.Fmt.{decimal}
use Rattle.pdus.specs.Nsap.Text.{hex_text}
use Rattle.captures.specs.Shown.{Shows}
use Rattle.frame_links.specs.PcapFrames.File.{Captured}
use Rattle.frame_links.specs.PcapFrames.Frames.{SeenFrame, OtherFrame, CutFrame, OsiFrame, seen_in}
use Rattle.captures.specs.declared.capture_commands.form.Form.{Form}
use Rattle.captures.specs.declared.capture_commands.form.Form.TheVariants.{Shown, Remade}
use Rattle.captures.specs.CaptureCommands.Stations.{destination_word, frame_line}

-- the number of a record, the destination and the source of its OSI frame, and the line that shows the PDU
pub record ShowsOsi (number : ℕ) (to from pdu line : List ℕ) : Type 0 where
  pub shown : List ℕ
  pub shows : Shows pdu shown
  pub text : line ≡ decimal number ++ (codes " " ++ (destination_word to ++ (codes " " ++ (hex_text from ++ (codes " " ++ shown)))))

-- the line of a record with this number in which this is seen, as `pcap-show` writes it
abbrev pub ShowsSeen : ℕ → SeenFrame → List ℕ → Type 0
ShowsSeen number OtherFrame line = line ≡ decimal number ++ codes " other"
ShowsSeen number CutFrame line = line ≡ decimal number ++ codes " cut"
ShowsSeen number (OsiFrame to from pdu) line = ShowsOsi number to from pdu line

-- the line of a record with this number and second in which this is seen, as `pcap-lines` writes it: one to skip where
-- `pcap-make` makes no frame of it
abbrev pub line_seen : (number seconds : ℕ) → SeenFrame → List ℕ
line_seen number seconds OtherFrame = codes "# " ++ (decimal number ++ codes " other")
line_seen number seconds CutFrame = codes "# " ++ (decimal number ++ codes " cut")
line_seen number seconds (OsiFrame to from []) = codes "# " ++ (decimal number ++ codes " empty")
line_seen number seconds (OsiFrame to from (first ∷ others)) =
    frame_line (record { seconds = seconds; to = to; from = from; pdu = first ∷ others })

-- the line of a record with this number
abbrev pub TellsRecord : Form → ℕ → Captured → List ℕ → Type 0
TellsRecord Shown number c line = ShowsSeen number (seen_in c.octets) line
TellsRecord Remade number c line = line ≡ line_seen number c.seconds (seen_in c.octets)

-- the line of a record, and its end (10), before output that is as `later` wants it
pub record TellsFirst (form : Form) (number : ℕ) (c : Captured) (later : List ℕ → Type 0) (output : List ℕ) : Type 0 where
  pub line : List ℕ
  pub rest : List ℕ
  pub tells : TellsRecord form number c line
  pub goes_on : later rest
  pub text : output ≡ line ++ (10 ∷ rest)

-- the output that records call for, the first of which has this number: a line of each
abbrev pub TellsRecords : Form → ℕ → List Captured → List ℕ → Type 0
TellsRecords form number [] output = output ≡ []
TellsRecords form number (c ∷ others) output = TellsFirst form number c (TellsRecords form (number + 1) others) output
