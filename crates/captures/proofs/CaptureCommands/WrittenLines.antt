-- The lines that are written of frames, read again.
use Rattle.std.proofs.Common.{◌≡◌, ℕ, ◌+◌, ◌*◌, ◌^◌, ◌<◌, ◌≤◌, inl, inr, false, List, [], ◌∷◌, ◌++◌, length, map, Option, Some, None, Ok, refl, sym, ap, ◌∙◌, subst, arith}
use Rattle.std.specs.Prelude.{codes}
use Rattle.std.specs.List.{AllByRecursion, cons_option}
use Rattle.std.specs.Fmt.{decimal}
use Rattle.std.specs.Str.{bytes_eq}
use Rattle.std.proofs.lemmas.Bool.{cases_Bool, eq-eqb, lt-ltb, le-ltb, ne_eqb}
use Rattle.std.proofs.lemmas.List.{append_assoc}
use Rattle.std.proofs.lemmas.Option.{none-some, same_Some}
use Rattle.hex.specs.Hex.{IsBytes, decode_of}
use Rattle.hex.proofs.HexLemmas.{decode_of-encode_lower, decode_of-ok}
use Rattle.pdus.specs.Nsap.Text.{hex_text}
use Rattle.clnp_base.specs.Text.{decimal_of, lines_of, words_of, is_skipped}
use Rattle.clnp_base.specs.declared.command_base.status.Status.{Status}
use Rattle.clnp_base.specs.declared.command_base.status.Status.TheVariants as status
use Rattle.clnp_base.proofs.Reading.{IsWithinLine, lines_of-line}
use Rattle.clnp_base.proofs.SameOctets.{other_from, same_from}
use Rattle.frame_links.specs.PcapFrames.File.{Captured, IsCaptured}
use Rattle.frame_links.specs.PcapFrames.Frames.{SeenFrame, OtherFrame, CutFrame, OsiFrame, seen_in}
use Rattle.frame_links.specs.PcapFrames.Groups.{end_systems, intermediate_systems}
use Rattle.frame_links.specs.PcapFrames.Making.{Frame, HasBytes, IsFrame, frame_seen, frames_in, made_record}
use Rattle.frame_links.proofs.PcapFrames.FrameFacts.{seen_are_bytes, seen_is_osi}
use Rattle.frame_links.proofs.PcapFrames.MadeFiles.{made_is_seen}
use Rattle.frame_links.proofs.Nsap.HexTextFacts.{octets_of-hex_text}
use Rattle.captures.specs.declared.capture_commands.form.Form.TheVariants.{Remade}
use Rattle.captures.specs.CaptureCommands.Stations.{destination_of, destination_word, frame_line, six_octets, station_of}
use Rattle.captures.specs.CaptureCommands.Lines.{TellsRecords, line_seen}
use Rattle.captures.specs.CaptureCommands.Make.{Skipped, Makes, and_frames, four_of, frame_of_words, frames_of, line_of, make_status, pdu_of, seconds_in, status_at}
use Rattle.captures.specs.CaptureCommands.Laws.{lines_of_frames}
use Rattle.captures.proofs.CaptureCommands.FrameLines.{read_line, skipped_line}
use Rattle.clnp_base.proofs.PlainWords.{IsHigh, IsWord, decimal_high, decimal_plain, decimal_read, decimal_some, first_word, hex_plain, last_word, within_both, within_plain}

-- ---- words read again

length-hex_text : (octets : List ℕ) → IsBytes octets → length (hex_text octets) ≡ 2 * length octets
length-hex_text octets bytes = (decode_of-ok (hex_text octets) octets (decode_of-encode_lower octets bytes)).2

-- an address of six octets is read as it is written
station_again : (octets : List ℕ) → length octets ≡ 6 → IsBytes octets → station_of (hex_text octets) ≡ Some octets
station_again octets size bytes =
    ap six_octets (octets_of-hex_text octets (record { some = omega arith; few = omega arith; bytes = bytes }))
    ∙ rw (eq-eqb (length octets) 6 size) refl

other_word : (octets word : List ℕ) → length octets ≡ 6 → IsBytes octets → length word ≡ 2 → bytes_eq (hex_text octets) word ≡ false
other_word octets word size bytes two =
    other_from (hex_text octets) word (λ same. let long = length-hex_text octets bytes in absurd (omega (arith, ap length same)))

destination_again : (to : List ℕ) → length to ≡ 6 → IsBytes to → destination_of (destination_word to) ≡ Some to
destination_again to size bytes = elim (cases_Bool (bytes_eq to end_systems)) [
  | inl es ↦ rw es (ap Some (sym (same_from to end_systems es)))
  | inr other ↦ elim (cases_Bool (bytes_eq to intermediate_systems)) [
    | inl is ↦ rw (other, is) (ap Some (sym (same_from to intermediate_systems is)))
    | inr third ↦
        rw (other, third, other_word to (codes "es") size bytes refl, other_word to (codes "is") size bytes refl)
        (station_again to size bytes)
  ]
]

seconds_again : (seconds : ℕ) → seconds < 2 ^ 32 → seconds_in (decimal_of (decimal seconds)) ≡ Some seconds
seconds_again seconds fits = rw (decimal_read seconds (omega arith), lt-ltb seconds (2 ^ 32) fits) refl

pdu_again : (pdu : List ℕ) → IsBytes pdu → length pdu ≤ 1497 → pdu_of (decode_of (hex_text pdu)) ≡ Ok pdu
pdu_again pdu bytes few = rw (decode_of-encode_lower pdu bytes, le-ltb 1497 (length pdu) few) refl

-- ---- the line of a frame

-- what makes a frame one whose line is read again
pub record IsWritten (f : Frame) : Type 0 where
  pub frame : IsFrame f
  pub bytes : HasBytes f

hex_word : (octets : List ℕ) → IsBytes octets → 0 < length octets → IsWord (hex_text octets)
hex_word octets bytes some =
    record { some = let long = length-hex_text octets bytes in omega arith; plain = hex_plain octets bytes }

destination_is_word : (to : List ℕ) → length to ≡ 6 → IsBytes to → IsWord (destination_word to)
destination_is_word to size bytes = elim (cases_Bool (bytes_eq to end_systems)) [
  | inl es ↦ rw es (record { some = omega arith; plain = (omega arith, (omega arith, tt)) })
  | inr other ↦ elim (cases_Bool (bytes_eq to intermediate_systems)) [
    | inl is ↦ rw (other, is) (record { some = omega arith; plain = (omega arith, (omega arith, tt)) })
    | inr third ↦ rw (other, third) (hex_word to bytes (omega arith))
  ]
]

seconds_word : (seconds : ℕ) → seconds < 2 ^ 32 → IsWord (decimal seconds)
seconds_word seconds fits = record { some = decimal_some seconds (omega arith); plain = decimal_plain seconds }

-- four words with a space between them
four_words : (a b c d : List ℕ) → IsWord a → IsWord b → IsWord c → IsWord d → words_of (a ++ (codes " " ++ (b ++ (codes " " ++ (c ++ (codes " " ++ d)))))) ≡ a ∷ b ∷ c ∷ d ∷ []
four_words a b c d is_a is_b is_c is_d =
    first_word a (codes " " ++ (b ++ (codes " " ++ (c ++ (codes " " ++ d))))) is_a refl
    ∙ ap (λ (ws : List (List ℕ)). a ∷ ws) (first_word b (codes " " ++ (c ++ (codes " " ++ d))) is_b refl)
    ∙ ap (λ (ws : List (List ℕ)). a ∷ b ∷ ws) (first_word c (codes " " ++ d) is_c refl)
    ∙ ap (λ (ws : List (List ℕ)). a ∷ b ∷ c ∷ ws) (last_word d is_d)

space_within : AllByRecursion IsWithinLine (codes " ")
space_within = ((refl, refl), tt)

-- the line of a frame is one line
frame_within : (f : Frame) → IsWritten f → AllByRecursion IsWithinLine (frame_line f)
frame_within f is =
    let frame = is.frame in
    let osi = frame.osi in
    let bytes = is.bytes in
    let seconds = seconds_word f.seconds frame.seconds in
    let to = destination_is_word f.to osi.to_size bytes.to in
    within_both (decimal f.seconds) _ (within_plain (decimal f.seconds) seconds.plain)
    (within_both (codes " ") _ space_within
    (within_both (destination_word f.to) _ (within_plain (destination_word f.to) to.plain)
    (within_both (codes " ") _ space_within
    (within_both (hex_text f.from) _ (within_plain (hex_text f.from) (hex_plain f.from bytes.from))
    (within_both (codes " ") _ space_within (within_plain (hex_text f.pdu) (hex_plain f.pdu bytes.pdu)))))))

no_remark : (word rest : List ℕ) → 0 < length word → AllByRecursion IsHigh word → is_skipped (word ++ rest) ≡ false
no_remark [] rest some are = absurd (omega arith)
no_remark (c ∷ cs) rest some are = ne_eqb c 35 (omega (arith, are.0))

-- the line of a frame makes it again
frame_again : (f : Frame) → IsWritten f → line_of (frame_line f) ≡ Makes f
frame_again f is =
    let frame = is.frame in
    let osi = frame.osi in
    let bytes = is.bytes in
    let some = frame.some in
    let seconds = seconds_word f.seconds frame.seconds in
    let to = destination_is_word f.to osi.to_size bytes.to in
    let from_size = osi.from_size in
    let from = hex_word f.from bytes.from (omega arith) in
    let pdu = hex_word f.pdu bytes.pdu (omega arith) in
    let words = four_words (decimal f.seconds) (destination_word f.to) (hex_text f.from) (hex_text f.pdu) seconds to from pdu in
    read_line (frame_line f) (no_remark (decimal f.seconds) _ seconds.some (decimal_high f.seconds))
    ∙ ap (λ (ws : List (List ℕ)). frame_of_words (four_of ws)) words
    ∙ rw (
      seconds_again f.seconds frame.seconds,
      destination_again f.to osi.to_size bytes.to,
      station_again f.from osi.from_size bytes.from,
      pdu_again f.pdu bytes.pdu osi.few,
    ) refl

-- ---- remarks

remark_within : (number : ℕ) (word : List ℕ) → AllByRecursion IsWithinLine word → AllByRecursion IsWithinLine (codes "# " ++ (decimal number ++ word))
remark_within number word are =
    within_both (codes "# ") _ ((refl, refl), ((refl, refl), tt)) (within_both (decimal number) word (within_plain (decimal number) (decimal_plain number)) are)

remark_skipped : (number : ℕ) (word : List ℕ) → line_of (codes "# " ++ (decimal number ++ word)) ≡ Skipped
remark_skipped number word = skipped_line (codes "# " ++ (decimal number ++ word)) refl

-- ---- records

-- what a record's line is read as
pub record ReadsAgain (line : List ℕ) (frame : Option Frame) : Type 0 where
  pub within : AllByRecursion IsWithinLine line
  pub frames : (later : List Frame) → and_frames (line_of line) later ≡ cons_option frame later
  pub no_fault : (number : ℕ) (later : Status) → status_at number (line_of line) later ≡ later

skipped_again : (line : List ℕ) → AllByRecursion IsWithinLine line → line_of line ≡ Skipped → ReadsAgain line None
skipped_again line within is = record { within = within; frames = λ later. rw is refl; no_fault = λ number later. rw is refl }

made_again : (line : List ℕ) (f : Frame) → AllByRecursion IsWithinLine line → line_of line ≡ Makes f → ReadsAgain line (Some f)
made_again line f within is = record { within = within; frames = λ later. rw is refl; no_fault = λ number later. rw is refl }

remark_again : (number : ℕ) (word : List ℕ) → AllByRecursion IsWithinLine word → ReadsAgain (codes "# " ++ (decimal number ++ word)) None
remark_again number word are = skipped_again (codes "# " ++ (decimal number ++ word)) (remark_within number word are) (remark_skipped number word)

frame_reads_again : (f : Frame) → IsWritten f → ReadsAgain (frame_line f) (Some f)
frame_reads_again f is = made_again (frame_line f) f (frame_within f is) (frame_again f is)

seen_again : (number seconds : ℕ) (octets : List ℕ) (seen : SeenFrame) → IsBytes octets → seconds < 2 ^ 32 → seen_in octets ≡ seen
    → ReadsAgain (line_seen number seconds seen) (frame_seen seconds seen)
seen_again number seconds octets OtherFrame bytes fits e =
    remark_again number (codes " other") ((refl, refl), ((refl, refl), ((refl, refl), ((refl, refl), ((refl, refl), ((refl, refl), tt))))))
seen_again number seconds octets CutFrame bytes fits e =
    remark_again number (codes " cut") ((refl, refl), ((refl, refl), ((refl, refl), ((refl, refl), tt))))
seen_again number seconds octets (OsiFrame to from []) bytes fits e =
    remark_again number (codes " empty") ((refl, refl), ((refl, refl), ((refl, refl), ((refl, refl), ((refl, refl), ((refl, refl), tt))))))
seen_again number seconds octets (OsiFrame to from (x ∷ xs)) bytes fits e =
    let are = seen_are_bytes octets to from (x ∷ xs) bytes e in
    frame_reads_again (record { seconds = seconds; to = to; from = from; pdu = x ∷ xs })
    (record {
      frame = record { seconds = fits; osi = seen_is_osi octets to from (x ∷ xs) e; some = omega arith };
      bytes = record { to = are.to_bytes; from = are.from_bytes; pdu = are.pdu_bytes };
    })

-- ---- all lines

-- what lines are read as
pub record AreRead (number : ℕ) (lines : List (List ℕ)) (frames : List Frame) : Type 0 where
  pub accepted : make_status number lines ≡ status.Done
  pub same : frames_of lines ≡ frames

line_before : (number : ℕ) (line : List ℕ) (others : List (List ℕ)) (frame : Option Frame) (frames : List Frame) → ReadsAgain line frame
    → AreRead (number + 1) others frames → AreRead number (line ∷ others) (cons_option frame frames)
line_before number line others frame frames r are =
    record {
      accepted = r.no_fault number (make_status (number + 1) others) ∙ are.accepted;
      same = r.frames (frames_of others) ∙ ap (λ (fs : List Frame). cons_option frame fs) are.same;
    }

pub lines_are_read : (records : List Captured) (first number : ℕ) (output : List ℕ) → AllByRecursion IsCaptured records
    → AllByRecursion (λ c. IsBytes c.octets) records → TellsRecords Remade first records output
    → AreRead number (lines_of output) (frames_in records)
lines_are_read [] first number output fit bytes h = rw h (record { accepted = refl; same = refl })
lines_are_read (c ∷ cs) first number output fit bytes h =
    let fits = fit.0 in
    let seen = seen_again first c.seconds c.octets (seen_in c.octets) bytes.0 fits.seconds refl in
    let again : ReadsAgain h.line (frame_seen c.seconds (seen_in c.octets)) =
    subst (λ (line : List ℕ). ReadsAgain line (frame_seen c.seconds (seen_in c.octets))) (sym h.tells) seen in
    subst (λ (lines : List (List ℕ)). AreRead number lines (frames_in (c ∷ cs)))
    (sym (ap lines_of h.text ∙ lines_of-line h.line h.rest again.within))
    (line_before number h.line (lines_of h.rest) (frame_seen c.seconds (seen_in c.octets)) (frames_in cs) again
    (lines_are_read cs (first + 1) (number + 1) h.rest fit.1 bytes.1 h.goes_on))

-- ---- the lines of a file that was made

line_of_seen : (number seconds : ℕ) (seen : SeenFrame) (f : Frame) → frame_seen seconds seen ≡ Some f → line_seen number seconds seen ≡ frame_line f
line_of_seen number seconds OtherFrame f e = absurd (none-some f e)
line_of_seen number seconds CutFrame f e = absurd (none-some f e)
line_of_seen number seconds (OsiFrame to from []) f e = absurd (none-some f e)
line_of_seen number seconds (OsiFrame to from (x ∷ xs)) f e =
    let g : Frame = record { seconds = seconds; to = to; from = from; pdu = x ∷ xs } in
    ap frame_line (same_Some g f e)

pub made_lines : (frames : List Frame) (number : ℕ) (output : List ℕ) → AllByRecursion IsFrame frames
    → TellsRecords Remade number (map made_record frames) output → output ≡ lines_of_frames frames
made_lines [] number output are h = h
made_lines (f ∷ fs) number output are h =
    let line = h.tells ∙ line_of_seen number f.seconds _ f (made_is_seen f are.0) in
    h.text
    ∙ ap (λ (t : List ℕ). t ++ (10 ∷ h.rest)) line
    ∙ ap (λ (t : List ℕ). frame_line f ++ (10 ∷ t)) (made_lines fs (number + 1) h.rest are.1 h.goes_on)
    ∙ sym (append_assoc (frame_line f) (10 ∷ []) (lines_of_frames fs))

pub frames_again : (frames : List Frame) → AllByRecursion IsFrame frames → AllByRecursion HasBytes frames
    → frames_of (lines_of (lines_of_frames frames)) ≡ frames
frames_again [] are bytes = refl
frames_again (f ∷ fs) are bytes =
    let written : IsWritten f = record { frame = are.0; bytes = bytes.0 } in
    let again = frame_reads_again f written in
    ap (λ (t : List ℕ). frames_of (lines_of t)) (append_assoc (frame_line f) (10 ∷ []) (lines_of_frames fs))
    ∙ ap frames_of (lines_of-line (frame_line f) (lines_of_frames fs) again.within)
    ∙ again.frames (frames_of (lines_of (lines_of_frames fs)))
    ∙ ap (λ (rest : List Frame). f ∷ rest) (frames_again fs are.1 bytes.1)
