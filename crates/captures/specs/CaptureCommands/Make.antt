-- What the lines of frames call for of which a file is made.
use Rattle.std.specs.Prelude.{◌≡◌, ℕ, ◌+◌, ◌^◌, nat_lt, if◌then◌else◌, List, [], ◌∷◌, ◌++◌, length, map, Option, Some, None, Result, Ok, Err}
use Rattle.std.specs.Io.KnownBytes.{Appends}
use Rattle.hex.specs.Hex.{decode_of}
use Rattle.hex.specs.declared.error.FromHexError.{FromHexError}
use Rattle.clnp_base.specs.Streams.{AppendsFront}
use Rattle.clnp_base.specs.Text.{decimal_of, words_of, is_skipped}
use Rattle.clnp_base.specs.declared.command_base.status.Status.{Status}
use Rattle.clnp_base.specs.declared.command_base.status.Status.TheVariants as status
use Rattle.clnp_base.specs.CommandBase.ByLine.{Work}
use Rattle.clnp_base.specs.CommandBase.Codes.{address_code, count_code, number_code, syntax_code}
use Rattle.clnp_base.specs.CommandBase.ComesAs.{Task}
use Rattle.frame_links.specs.declared.pcap_frames.order.Order.TheVariants.{HighFirst}
use Rattle.frame_links.specs.PcapFrames.File.{all_captured}
use Rattle.frame_links.specs.PcapFrames.Making.{Frame, made_file, made_record}
use Rattle.captures.specs.CaptureCommands.Stations.{destination_of, station_of}

-- what a line is: one to skip, one of another form, with the code of what it breaks, or a frame
pub data FrameLine : Type 0 where
  Skipped : FrameLine
  Malformed : (code : ℕ) → FrameLine
  Makes : (frame : Frame) → FrameLine

-- the seconds that a word spells, which fit four octets
abbrev pub seconds_in : Option ℕ → Option ℕ
seconds_in None = None
seconds_in (Some seconds) = if nat_lt seconds (2 ^ 32) then Some seconds else None

-- the PDU that hexadecimal digits spell, of at most as many octets as a frame carries, or the code of what they break
abbrev pub pdu_of : Result (List ℕ) FromHexError → Result (List ℕ) ℕ
pdu_of (Err fault) = Err address_code
pdu_of (Ok octets) = if nat_lt 1497 (length octets) then Err count_code else Ok octets

-- what its words make of a line: the first of them that is wrong, or a frame
abbrev pub frame_read : (seconds : Option ℕ) → (to from : Option (List ℕ)) → (pdu : Result (List ℕ) ℕ) → FrameLine
frame_read None to from pdu = Malformed number_code
frame_read (Some seconds) None from pdu = Malformed address_code
frame_read (Some seconds) (Some to) None pdu = Malformed address_code
frame_read (Some seconds) (Some to) (Some from) (Err code) = Malformed code
frame_read (Some seconds) (Some to) (Some from) (Ok pdu) = Makes (record { seconds = seconds; to = to; from = from; pdu = pdu })

-- four words: SECONDS DST SRC HEX
pub record FourWords : Type 0 where
  pub seconds : List ℕ
  pub to : List ℕ
  pub from : List ℕ
  pub pdu : List ℕ

abbrev pub four_of : List (List ℕ) → Option FourWords
four_of [] = None
four_of (seconds ∷ []) = None
four_of (seconds ∷ to ∷ []) = None
four_of (seconds ∷ to ∷ from ∷ []) = None
four_of (seconds ∷ to ∷ from ∷ pdu ∷ []) = Some (record { seconds = seconds; to = to; from = from; pdu = pdu })
four_of (seconds ∷ to ∷ from ∷ pdu ∷ fifth ∷ others) = None

abbrev pub frame_of_words : Option FourWords → FrameLine
frame_of_words None = Malformed syntax_code
frame_of_words (Some w) =
    frame_read (seconds_in (decimal_of w.seconds)) (destination_of w.to) (station_of w.from) (pdu_of (decode_of w.pdu))

-- what a line is; one that is empty or begins with `#` is skipped
unfoldable pub line_of : List ℕ → FrameLine
line_of line = if is_skipped line then Skipped else frame_of_words (four_of (words_of line))

-- ---- the lines of an input

-- what a line with this number calls for, before lines that call for `later`
abbrev pub status_at : ℕ → FrameLine → Status → Status
status_at number Skipped later = later
status_at number (Malformed code) later = status.BadInput number code
status_at number (Makes frame) later = later

-- the answer that lines call for, the first of which has this number: the first bad line, if there is one
abbrev pub make_status : ℕ → List (List ℕ) → Status
make_status number [] = status.Done
make_status number (line ∷ others) = status_at number (line_of line) (make_status (number + 1) others)

-- the frames of a line, and of lines behind it
abbrev pub and_frames : FrameLine → List Frame → List Frame
and_frames Skipped later = later
and_frames (Malformed code) later = []
and_frames (Makes frame) later = frame ∷ later

-- the frames of the lines before the first bad one
abbrev pub frames_of : List (List ℕ) → List Frame
frames_of [] = []
frames_of (line ∷ others) = and_frames (line_of line) (frames_of others)

-- ---- going over them

-- the records of the file that is made of the frames of lines
abbrev pub records_made : List (List ℕ) → List ℕ
records_made lines = all_captured HighFirst (map made_record (frames_of lines))

-- `pcap-make` goes over lines behind the header that it writes: the point is the number of the next one.
abbrev pub making : Work
making = record {
  Point = ℕ;
  Ending = Unit {0};
  calls = λ ending lines number output. output ≡ records_made lines;
  answer = λ lines number answered. make_status number lines ≡ answered;
  whole = tt;
  broken = tt;
}

-- The file was written that is made of the frames of some of the lines, from the first on.
pub record AppendsSomeMade (lines : List (List ℕ)) (before after : Option (List ℕ)) : Type 0 where
  pub made : List (List ℕ)
  pub later : List (List ℕ)
  pub all : lines ≡ made ++ later
  pub appended : Appends before after (made_file (frames_of made))

-- What the lines call for: the answer, and the file that is made of the frames before the first bad one; a part of it is
-- the file that is made of the frames of some first lines.
abbrev pub make_task : List (List ℕ) → Task
make_task lines = record {
  calls = λ answered. make_status 1 lines ≡ answered;
  whole = λ before after. Appends before after (made_file (frames_of lines));
  front = λ before after. AppendsFront before after (made_file (frames_of lines));
  parts = λ before after. AppendsSomeMade lines before after;
}
