-- The line of text that shows a frame.
use Rattle.std.specs.Prelude.{◌≡◌, ℕ, ◌==◌, Bool, if◌then◌else◌, List, [], ◌∷◌, ◌++◌, codes, Option, Some, None, is_some, MatchBool, MatchOption}
use Rattle.std.specs.Fmt.{decimal}
use Rattle.pdus.specs.Nsap.Text.{hex_text}
pub use Rattle.pdus.specs.PduHeader.Kinds.{kind_word}
use Rattle.pdus.specs.PduHeader.Value.{SegmentationPart, PduValue}
use Rattle.pdus.specs.PduHeader.Grammar.{BeginsWith}
use Rattle.pdus.specs.PduHeader.Rules.{octet, refusal, is_reportable}
use Rattle.captures.specs.Words.{octet_word, pair_word, options_text, checksum_of}
use Rattle.captures.specs.EsisShown.{ShowsOther}

-- a flag's letter where it is 1, and nothing where it is 0
abbrev pub letter_of : Bool → List ℕ → List ℕ
letter_of flag letter = if flag then letter else []

-- the letters of the flags that are 1; `-` where none is
abbrev pub flags_word : List ℕ → List ℕ
flags_word [] = codes "-"
flags_word (letter ∷ letters) = letter ∷ letters

-- s where segmentation is permitted, m where more segments follow, e where an error report is wanted
abbrev pub letters_of : Bool → Bool → Bool → List ℕ
letters_of segmented more report =
    letter_of segmented (codes "s") ++ (letter_of more (codes "m") ++ letter_of report (codes "e"))

abbrev pub part_text : SegmentationPart → List ℕ
part_text part =
    codes " id=" ++ (pair_word part.identifier ++ (codes " off=" ++ (decimal part.offset ++ (codes " total=" ++ decimal part.total))))

-- the segmentation part, if there is one
abbrev pub segmentation_text : Option SegmentationPart → List ℕ
segmentation_text None = []
segmentation_text (Some part) = part_text part

abbrev pub kind_and_flags_text : PduValue → List ℕ
kind_and_flags_text v =
    codes "clnp " ++ (kind_word v.kind ++ (codes " " ++ flags_word (letters_of (is_some v.segmentation) v.more v.report)))

-- what the line of a PDU with this checksum begins with, up to its addresses
unfoldable pub front_text : PduValue → ℕ → List ℕ
front_text v sum =
    kind_and_flags_text v ++ (codes " life=" ++ (decimal v.lifetime ++ (codes " sum=" ++ (pair_word sum
    ++ (codes " to=" ++ (hex_text v.destination ++ (codes " from=" ++ hex_text v.source)))))))

-- the line of a PDU with this checksum, and of what follows it in its frame
abbrev pub value_text : PduValue → ℕ → List ℕ → List ℕ
value_text v sum rest =
    front_text v sum ++ (segmentation_text v.segmentation ++ (options_text v.options
    ++ (codes " data=" ++ (hex_text v.body ++ (codes " rest=" ++ hex_text rest)))))

-- whether an error report of the discard is made
abbrev pub report_word : Bool → List ℕ
report_word reportable = if reportable then codes "report" else codes "silent"

-- the line of a refused frame: the rule that it breaks, the reason and the place
abbrev pub refusal_text : ℕ → ℕ → ℕ → Bool → List ℕ
refusal_text rule reason place reportable =
    codes "refused G" ++ (decimal rule ++ (codes " " ++ (octet_word reason ++ (codes " "
    ++ (octet_word place ++ (codes " " ++ report_word reportable))))))

-- the line of the PDU with which the frame begins
pub record ShowsValue (frame line : List ℕ) : Type 0 where
  pub value : PduValue
  pub rest : List ℕ
  pub begins : BeginsWith frame value rest
  pub text : line ≡ value_text value (checksum_of frame) rest

-- the line of a frame that begins with 0x81: of its refusal, or else of its PDU
abbrev pub ShowsPdu : List ℕ → List ℕ → Type 0
ShowsPdu frame line =
    MatchOption (refusal frame) (ShowsValue frame line)
    (λ broken. line ≡ refusal_text broken.rule broken.reason broken.place (is_reportable frame))

-- the line that shows a frame
abbrev pub Shows : List ℕ → List ℕ → Type 0
Shows frame line = MatchBool (octet frame 1 == 0x81) (ShowsPdu frame line) (ShowsOther frame line)
