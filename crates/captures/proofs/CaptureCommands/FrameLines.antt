-- What a line is read as of which a frame is made.
use Rattle.std.proofs.Common.{◌≡◌, ℕ, zero, suc, ◌*◌, ◌^◌, ◌<◌, ◌≤◌, ◌==◌, inl, inr, true, false, List, [], ◌∷◌, length, Option, Some, None, Result, Ok, Err, refl, sym, ◌∙◌, subst, arith}
use Rattle.std.specs.Prelude.{codes}
use Rattle.std.specs.List.{AllByRecursion}
use Rattle.std.specs.Str.{bytes_eq}
use Rattle.std.proofs.lemmas.Bool.{cases_Bool, cases_lt, cases_eq}
use Rattle.std.proofs.lemmas.Option.{none-some, same_Some}
use Rattle.std.proofs.lemmas.Grind.{common_steps}
use Rattle.hex.specs.Hex.{IsBytes, decode_of}
use Rattle.hex.specs.declared.error.FromHexError.{FromHexError}
use Rattle.hex.proofs.HexLemmas.{decode_of-ok}
use Rattle.pdus.specs.Nsap.Text.{octets_of}
use Rattle.pdus.specs.declared.nsap.fault.NsapFault.{NsapFault}
use Rattle.frame_links.proofs.Nsap.HexTextFacts.{IsAddress-octets_of}
use Rattle.clnp_base.specs.Text.{decimal_of, ends_word, onto_first, words_of, is_skipped}
use Rattle.frame_links.specs.PcapFrames.Groups.{end_systems, intermediate_systems}
use Rattle.frame_links.specs.PcapFrames.Making.{Frame, HasBytes, IsFrame}
use Rattle.captures.specs.CaptureCommands.Stations.{destination_of, six_octets, station_of}
use Rattle.captures.specs.CaptureCommands.Make.{FourWords, FrameLine, Skipped, Malformed, Makes, and_frames, four_of, frame_of_words, frame_read, frames_of, line_of, pdu_of, seconds_in}

-- ---- words

-- no word is empty
abbrev pub HasOctet : List ℕ → Type 0
HasOctet word = 0 < length word

onto_first-some : (c : ℕ) (words : List (List ℕ)) → AllByRecursion HasOctet words → AllByRecursion HasOctet (onto_first c words)
onto_first-some c [] are = (omega arith, tt)
onto_first-some c (w ∷ ws) are = (omega arith, are.1)

words_some : (line : List ℕ) → AllByRecursion HasOctet (words_of line)
words_some [] = tt
words_some (c ∷ cs) = elim (cases_Bool (c == 32)) [
  | inl space ↦ rw space (words_some cs)
  | inr other ↦ elim (cases_Bool (ends_word cs)) [
    | inl ends ↦ rw (other, ends) (omega arith, words_some cs)
    | inr goes ↦ rw (other, goes) (onto_first-some c (words_of cs) (words_some cs))
  ]
]

-- the PDU's word among four has an octet
four_some : (words : List (List ℕ)) (w : FourWords) → AllByRecursion HasOctet words → four_of words ≡ Some w → 0 < length w.pdu
four_some [] w are e = absurd (none-some w e)
four_some (a ∷ []) w are e = absurd (none-some w e)
four_some (a ∷ (b ∷ [])) w are e = absurd (none-some w e)
four_some (a ∷ (b ∷ (c ∷ []))) w are e = absurd (none-some w e)
four_some (a ∷ (b ∷ (c ∷ (d ∷ [])))) w are e =
    let f : FourWords = record { seconds = a; to = b; from = c; pdu = d } in
    subst (λ (g : FourWords). 0 < length g.pdu) (same_Some f w e) (are.1.1.1.0)
four_some (a ∷ (b ∷ (c ∷ (d ∷ (x ∷ xs))))) w are e = absurd (none-some w e)

-- ---- what a word is read as

-- six octets
pub record IsStation (octets : List ℕ) : Type 0 where
  pub size : length octets ≡ 6
  pub bytes : IsBytes octets

-- the law that what a text is read as is an address
six_station : (r : Result (List ℕ) NsapFault) (octets : List ℕ) → ((xs : List ℕ) → r ≡ Ok xs → IsBytes xs) → six_octets r ≡ Some octets → IsStation octets
six_station (Err fault) octets law e = absurd (none-some octets e)
six_station (Ok xs) octets law e = elim (cases_eq (length xs) 6) [
  | inl six ↦
      let same : xs ≡ octets = grind (arith) in
      subst IsStation same (record { size = six; bytes = law xs refl })
  | inr other ↦ absurd (grind (arith))
]

pub station_is : (word octets : List ℕ) → station_of word ≡ Some octets → IsStation octets
station_is word octets e =
    six_station (octets_of word) octets (λ xs is. let a = IsAddress-octets_of word xs is in a.bytes) e

group_is : (i : ℕ) (octets : List ℕ) → i < 256 → octets ≡ 9 ∷ 0 ∷ 43 ∷ 0 ∷ 0 ∷ i ∷ [] → IsStation octets
group_is i octets small e = subst IsStation (sym e) (record { size = refl; bytes = bytes })
  where
    bytes : IsBytes (9 ∷ 0 ∷ 43 ∷ 0 ∷ 0 ∷ i ∷ [])
    bytes zero = omega arith
    bytes (suc zero) = omega arith
    bytes (suc (suc zero)) = omega arith
    bytes (suc (suc (suc zero))) = omega arith
    bytes (suc (suc (suc (suc zero)))) = omega arith
    bytes (suc (suc (suc (suc (suc zero))))) = small
    bytes (suc (suc (suc (suc (suc (suc n)))))) = omega arith

pub destination_is : (word octets : List ℕ) → destination_of word ≡ Some octets → IsStation octets
destination_is word octets e = elim (cases_Bool (bytes_eq word (codes "es"))) [
  | inl es ↦ group_is 4 octets (omega arith) (sym (same_Some end_systems octets (rw es at e)))
  | inr other ↦ elim (cases_Bool (bytes_eq word (codes "is"))) [
    | inl is ↦ group_is 5 octets (omega arith) (sym (same_Some intermediate_systems octets (rw (other, is) at e)))
    | inr third ↦ station_is word octets (rw (other, third) at e)
  ]
]

pub seconds_fit : (read : Option ℕ) (seconds : ℕ) → seconds_in read ≡ Some seconds → seconds < 2 ^ 32
seconds_fit None seconds e = absurd (none-some seconds e)
seconds_fit (Some n) seconds e = grind (arith, common_steps)

-- a PDU that digits spell
pub record IsSpelled (digits octets : List ℕ) : Type 0 where
  pub few : length octets ≤ 1497
  pub twice : length digits ≡ 2 * length octets
  pub bytes : IsBytes octets

pdu_spelled : (digits : List ℕ) (r : Result (List ℕ) FromHexError) (octets : List ℕ) → decode_of digits ≡ r → pdu_of r ≡ Ok octets → IsSpelled digits octets
pdu_spelled digits (Err fault) octets is e = cc e
pdu_spelled digits (Ok xs) octets is e = elim (cases_lt 1497 (length xs)) [
  | inl many ↦ absurd (grind (arith))
  | inr few ↦
      let same : xs ≡ octets = grind (arith) in
      let spelled = decode_of-ok digits xs is in
      subst (IsSpelled digits) same (record { few = few; twice = spelled.2; bytes = spelled.3 })
]

-- ---- a frame

-- the four parts of a frame that is read
pub record IsRead (seconds : Option ℕ) (to from : Option (List ℕ)) (pdu : Result (List ℕ) ℕ) (f : Frame) : Type 0 where
  pub seconds_is : seconds ≡ Some f.seconds
  pub to_is : to ≡ Some f.to
  pub from_is : from ≡ Some f.from
  pub pdu_is : pdu ≡ Ok f.pdu

same_frame : (f g : Frame) → Makes f ≡ Makes g → f ≡ g
same_frame f g e = cc e

frame_is_read : (seconds : Option ℕ) (to from : Option (List ℕ)) (pdu : Result (List ℕ) ℕ) (f : Frame) → frame_read seconds to from pdu ≡ Makes f
    → IsRead seconds to from pdu f
frame_is_read None to from pdu f e = cc e
frame_is_read (Some s) None from pdu f e = cc e
frame_is_read (Some s) (Some t) None pdu f e = cc e
frame_is_read (Some s) (Some t) (Some o) (Err code) f e = cc e
frame_is_read (Some s) (Some t) (Some o) (Ok p) f e =
    let g : Frame = record { seconds = s; to = t; from = o; pdu = p } in
    subst (IsRead (Some s) (Some t) (Some o) (Ok p)) (same_frame g f e)
    (record { seconds_is = refl; to_is = refl; from_is = refl; pdu_is = refl })

-- it can be made, and is of octets
pub record CanBeMade (f : Frame) : Type 0 where
  pub frame : IsFrame f
  pub bytes : HasBytes f

words_make : (line : List ℕ) (four : Option FourWords) (f : Frame) → four_of (words_of line) ≡ four → frame_of_words four ≡ Makes f → CanBeMade f
words_make line None f is e = cc e
words_make line (Some w) f is e =
    let r = frame_is_read (seconds_in (decimal_of w.seconds)) (destination_of w.to) (station_of w.from) (pdu_of (decode_of w.pdu)) f e in
    let to = destination_is w.to f.to r.to_is in
    let from = station_is w.from f.from r.from_is in
    let pdu = pdu_spelled w.pdu (decode_of w.pdu) f.pdu refl r.pdu_is in
    let some = four_some (words_of line) w (words_some line) is in
    let twice = pdu.twice in
    record {
      frame = record {
        seconds = seconds_fit (decimal_of w.seconds) f.seconds r.seconds_is;
        osi = record { to_size = to.size; from_size = from.size; few = pdu.few };
        some = omega arith;
      };
      bytes = record { to = to.bytes; from = from.bytes; pdu = pdu.bytes };
    }

pub can_be_made : (line : List ℕ) (f : Frame) → frame_of_words (four_of (words_of line)) ≡ Makes f → CanBeMade f
can_be_made line f e = words_make line (four_of (words_of line)) f refl e

-- ---- lines

pub skipped_line : (line : List ℕ) → is_skipped line ≡ true → line_of line ≡ Skipped
unfolding line_of
skipped_line line e = rw e refl

pub read_line : (line : List ℕ) → is_skipped line ≡ false → line_of line ≡ frame_of_words (four_of (words_of line))
unfolding line_of
read_line line e = rw e refl

line_makes : (line : List ℕ) (f : Frame) → line_of line ≡ Makes f → CanBeMade f
line_makes line f e = elim (cases_Bool (is_skipped line)) [
  | inl skipped ↦ absurd (not_made f (sym (skipped_line line skipped) ∙ e))
  | inr read ↦ can_be_made line f (sym (read_line line read) ∙ e)
]
  where
    not_made : (g : Frame) → Skipped ≡ Makes g → ⊥
    not_made g s = cc s

all_can : (found : FrameLine) (later : List Frame) → ((f : Frame) → found ≡ Makes f → CanBeMade f) → AllByRecursion CanBeMade later
    → AllByRecursion CanBeMade (and_frames found later)
all_can Skipped later can are = are
all_can (Malformed code) later can are = tt
all_can (Makes f) later can are = (can f refl, are)

pub frames_can : (lines : List (List ℕ)) → AllByRecursion CanBeMade (frames_of lines)
frames_can [] = tt
frames_can (line ∷ others) = all_can (line_of line) (frames_of others) (line_makes line) (frames_can others)

pub all_frames : (frames : List Frame) → AllByRecursion CanBeMade frames → AllByRecursion IsFrame frames
all_frames [] are = tt
all_frames (f ∷ fs) are = let first = are.0 in (first.frame, all_frames fs are.1)

pub all_bytes : (frames : List Frame) → AllByRecursion CanBeMade frames → AllByRecursion HasBytes frames
all_bytes [] are = tt
all_bytes (f ∷ fs) are = let first = are.0 in (first.bytes, all_bytes fs are.1)
