-- What is shown and packed again, and what is packed and shown again.
use Rattle.std.proofs.Common.{◌≡◌, ℕ, ◌+◌, ◌*◌, ◌≤◌, not, Bool, true, cond, List, [], ◌∷◌, ◌++◌, length, refl, sym, ap, subst, ◌∙◌, arith, length-append}
use Rattle.std.specs.List.{AllByRecursion, filter}
use Rattle.std.proofs.lemmas.List.Elements.{recursion_from_All}
use Rattle.hex.specs.Hex.{IsBytes, lower_digits}
use Rattle.hex.proofs.HexLemmas.{length-encode_with}
use Rattle.pdus.specs.ClnpBase.Text.{is_skipped, lines_of}
use Rattle.pdus.specs.Nsap.Text.{hex_text}
use Rattle.captures.specs.Captures as capture
use Rattle.captures.specs.Captures.{Capture, capture_of, most_octets}
use Rattle.captures.specs.Shown.{Shows}
use Rattle.captures.specs.CaptureText.Packing.{IsAccepted, IsAsked, Packs, PacksWithin}
use Rattle.captures.specs.CaptureText.Outcome as outcome
use Rattle.captures.specs.CaptureText.Outcome.{Outcome, ComesOf}
use Rattle.clnp_base.specs.declared.command_base.status.Status.TheVariants.{Done}
use Rattle.captures.specs.CaptureCommands.Show.{show_status, ShowsLine, ShowsLines}
use Rattle.captures.specs.CaptureCommands.Show as show
use Rattle.captures.specs.CaptureCommands.Pack.{PackAnswer, PackAnswers, PacksLine, PacksLines}
use Rattle.captures.proofs.CaptureCommands.Packs.{outputs_one}
use Rattle.captures.specs.CaptureCommands.RoundTrip.{with_ends, EndsPlainly, without_skipped, HasAccepted, IsAcceptedCapture, PacksAs, PacksTo, ShowsAs}

-- the laws on lines that these stand on
pub record Laws : Type 0 where
  pub some : (frame : List ℕ) → IsBytes frame → (line : List ℕ) × Shows frame line
  pub one : (frame line other : List ℕ) → Shows frame line → Shows frame other → line ≡ other
  pub outcome : (line : List ℕ) (outcome other : Outcome) → ComesOf outcome line → ComesOf other line → outcome ≡ other
  pub asked : (line frame : List ℕ) → Packs line frame → IsAsked line
  pub line : (line frame more : List ℕ) → Packs line frame → lines_of (line ++ (10 ∷ more)) ≡ line ∷ lines_of more
  pub long : (line frame : List ℕ) → Packs line frame → 2 * length frame ≤ length line
  pub digits : (frame more : List ℕ) → lines_of (hex_text frame ++ (10 ∷ more)) ≡ hex_text frame ∷ lines_of more
  pub read : (frame : List ℕ) → IsBytes frame → IsAccepted frame → length frame ≤ most_octets → capture_of (hex_text frame) ≡ capture.Frame frame

digits_long : (octets more : List ℕ) → length (hex_text octets ++ (10 ∷ more)) ≡ 2 * length octets + (1 + length more)
digits_long octets more = omega (arith, length-append (hex_text octets) (10 ∷ more), length-encode_with lower_digits octets)

line_long : (line more : List ℕ) → length (line ++ (10 ∷ more)) ≡ length line + (1 + length more)
line_long line more = omega (arith, length-append line (10 ∷ more))

-- ---- lines call for one output

line_one : Laws → (found : Capture) (later : List ℕ → Type 0) → ((a b : List ℕ) → later a → later b → a ≡ b)
    → (a b : List ℕ) → ShowsLine found later a → ShowsLine found later b → a ≡ b
line_one laws capture.Skipped later same a b h k = same a b h k
line_one laws capture.Malformed later same a b h k = h ∙ sym k
line_one laws capture.TooLong later same a b h k = h ∙ sym k
line_one laws (capture.Frame octets) later same a b h k =
    h.text
    ∙ ap (λ (line : List ℕ). line ++ (10 ∷ h.rest)) (laws.one octets h.line k.line h.shows k.shows)
    ∙ ap (λ (rest : List ℕ). k.line ++ (10 ∷ rest)) (same h.rest k.rest h.goes_on k.goes_on)
    ∙ sym k.text

one_output : Laws → (lines : List (List ℕ)) (a b : List ℕ) → ShowsLines lines a → ShowsLines lines b → a ≡ b
one_output laws [] a b h k = h ∙ sym k
one_output laws (line ∷ others) a b h k = line_one laws (capture_of line) (ShowsLines others) (one_output laws others) a b h k

-- ---- what one line calls for

-- a line of a capture with a frame, before others
shows_frame : (digits octets line rest : List ℕ) (others : List (List ℕ)) → capture_of digits ≡ capture.Frame octets → Shows octets line → ShowsLines others rest
    → ShowsLines (digits ∷ others) (line ++ (10 ∷ rest))
shows_frame digits octets line rest others is shows later =
    let P : Capture → Type 0 = λ found. ShowsLine found (ShowsLines others) (line ++ (10 ∷ rest)) in
    subst P (sym is) (record { line = line; rest = rest; shows = shows; goes_on = later; text = refl })

show_passes : (digits octets : List ℕ) (others : List (List ℕ)) (number : ℕ) → capture_of digits ≡ capture.Frame octets
    → show_status number (digits ∷ others) ≡ show_status (number + 1) others
show_passes digits octets others number is = ap (λ (found : Capture). show.status_at number found (show_status (number + 1) others)) is

-- ---- a capture that is shown, and packed again

pub record ShownAgain (lines : List (List ℕ)) : Type 0 where
  pub text : List ℕ
  pub shows : ShowsLines lines text
  pub shown : (number : ℕ) → show_status number lines ≡ Done
  pub packed : (number : ℕ) → PackAnswers number (lines_of text) Done
  pub output : PacksLines (lines_of text) (with_ends lines)
  pub longer : length (with_ends lines) ≤ length text

shown_one : Laws → (line : List ℕ) (others : List (List ℕ)) → HasAccepted line → ShownAgain others → ShownAgain (line ∷ others)
shown_one laws line others is rest =
    let frame : List ℕ = is.frame in
    let some = laws.some frame is.octets in
    let shown : List ℕ = some.0 in
    let packs : Packs shown frame = record { octets = is.octets; accepted = is.accepted; shown = some.1 } in
    let within : PacksWithin shown frame = record { packs = packs; few = is.few } in
    let read : capture_of line ≡ capture.Frame frame = ap capture_of is.digits ∙ laws.read frame is.octets is.accepted is.few in
    let cut : lines_of (shown ++ (10 ∷ rest.text)) ≡ shown ∷ lines_of rest.text = laws.line shown frame rest.text packs in
    record {
      text = shown ++ (10 ∷ rest.text);
      shows = shows_frame line frame shown rest.text others read some.1 rest.shows;
      shown = λ number. show_passes line frame others number read ∙ rest.shown (number + 1);
      packed = λ number.
          subst (λ (lines : List (List ℕ)). PackAnswers number lines Done) (sym cut) (outcome.Frame frame, within, rest.packed (number + 1));
      output =
          subst (λ (lines : List (List ℕ)). PacksLines lines (with_ends (line ∷ others))) (sym cut) (
            outcome.Frame frame,
            within,
            record {
              rest = with_ends others;
              goes_on = rest.output;
              text = ap (λ (t : List ℕ). t ++ (10 ∷ with_ends others)) is.digits;
            },
          );
      longer =
          omega (
            arith,
            line_long line (with_ends others),
            ap length is.digits,
            length-encode_with lower_digits frame,
            line_long shown rest.text,
            laws.long shown frame packs,
            rest.longer,
          );
    }

shown_again : Laws → (lines : List (List ℕ)) → AllByRecursion HasAccepted lines → ShownAgain lines
shown_again laws [] h = record { text = []; shows = refl; shown = λ number. refl; packed = λ number. refl; output = refl; longer = omega arith }
shown_again laws (line ∷ others) h = shown_one laws line others h.0 (shown_again laws others h.1)

packs_as : Laws → (text packed : List ℕ) → PackAnswers 1 (lines_of text) Done → PacksLines (lines_of text) packed → PacksAs text packed
packs_as laws text packed done output = record {
  packs = record { done = done; output = output };
  only = λ other h. outputs_one laws.outcome (lines_of text) other packed h output;
}

pub pack_of_shown : Laws → (frames : List ℕ) → IsAcceptedCapture frames
    → (text : List ℕ) × ShowsAs frames text × PacksAs text frames × (length frames ≤ length text)
pack_of_shown laws frames is =
    let again = shown_again laws (lines_of frames) (recursion_from_All HasAccepted (lines_of frames) is.lines) in (
      again.text,
      record { done = again.shown 1; output = again.shows; only = λ other h. one_output laws (lines_of frames) other again.text h again.shows },
      packs_as laws again.text frames (again.packed 1) (subst (PacksLines (lines_of again.text)) (sym is.ends) again.output),
      omega (arith, ap length is.ends, again.longer),
    )

-- ---- a text that is packed, and shown again

abbrev unskipped : List (List ℕ) → List (List ℕ)
unskipped lines = filter (λ line. not (is_skipped line)) lines

pub record PackedAgain (lines : List (List ℕ)) (packed : List ℕ) : Type 0 where
  pub shown : (number : ℕ) → show_status number (lines_of packed) ≡ Done
  pub shows : ShowsLines (lines_of packed) (with_ends (unskipped lines))
  pub shorter : length packed ≤ length (with_ends lines)

-- behind a skipped line
packed_skipped : (line : List ℕ) (others : List (List ℕ)) (packed : List ℕ) → is_skipped line ≡ true → PackedAgain others packed
    → PackedAgain (line ∷ others) packed
packed_skipped line others packed skipped rest =
    let left : unskipped (line ∷ others) ≡ unskipped others = ap (λ (b : Bool). cond (not b) (line ∷ unskipped others) (unskipped others)) skipped in
    record {
      shown = rest.shown;
      shows = subst (λ (ls : List (List ℕ)). ShowsLines (lines_of packed) (with_ends ls)) (sym left) rest.shows;
      shorter = omega (arith, line_long line (with_ends others), rest.shorter);
    }

packed_one : Laws → (line octets : List ℕ) (others : List (List ℕ)) (packed behind : List ℕ) → PacksWithin line octets
    → packed ≡ hex_text octets ++ (10 ∷ behind) → PackedAgain others behind → PackedAgain (line ∷ others) packed
packed_one laws line octets others packed behind within out rest =
    let packs : Packs line octets = within.packs in
    let asked : IsAsked line = laws.asked line octets packs in
    let left : unskipped (line ∷ others) ≡ line ∷ unskipped others = ap (λ (b : Bool). cond (not b) (line ∷ unskipped others) (unskipped others)) asked.unskipped in
    let read : capture_of (hex_text octets) ≡ capture.Frame octets = laws.read octets packs.octets packs.accepted within.few in
    let cut : lines_of packed ≡ hex_text octets ∷ lines_of behind = ap lines_of out ∙ laws.digits octets behind in
    let P : List (List ℕ) → Type 0 = λ ls. ShowsLines ls (with_ends (unskipped (line ∷ others))) in
    let Q : List (List ℕ) → Type 0 = λ ls. ShowsLines (hex_text octets ∷ lines_of behind) (with_ends ls) in
    record {
      shown = λ number.
          ap (λ (ls : List (List ℕ)). show_status number ls) cut
          ∙ show_passes (hex_text octets) octets (lines_of behind) number read ∙ rest.shown (number + 1);
      shows =
          subst P (sym cut) (subst Q (sym left)
          (shows_frame (hex_text octets) octets line (with_ends (unskipped others)) (lines_of behind) read packs.shown rest.shows));
      shorter =
          omega (arith, ap length out, digits_long octets behind, line_long line (with_ends others), laws.long line octets packs, rest.shorter);
    }

packed_by : Laws → (found : Outcome) (line : List ℕ) (others : List (List ℕ)) (number : ℕ) (packed : List ℕ) → ComesOf found line
    → PackAnswer number found (λ answered. PackAnswers (number + 1) others answered) Done → PacksLine found (PacksLines others) packed
    → ((behind : List ℕ) → PackAnswers (number + 1) others Done → PacksLines others behind → PackedAgain others behind)
    → PackedAgain (line ∷ others) packed
packed_by laws outcome.Skipped line others number packed comes done output rest = packed_skipped line others packed comes (rest packed done output)
packed_by laws outcome.NotPackable line others number packed comes done output rest = cc done
packed_by laws outcome.NotShown line others number packed comes done output rest = cc done
packed_by laws outcome.TooLong line others number packed comes done output rest = cc done
packed_by laws (outcome.Frame octets) line others number packed comes done output rest =
    packed_one laws line octets others packed output.rest comes output.text (rest output.rest done output.goes_on)

packed_again : Laws → (lines : List (List ℕ)) (number : ℕ) (packed : List ℕ) → PackAnswers number lines Done → PacksLines lines packed
    → PackedAgain lines packed
packed_again laws [] number packed done output =
    subst (PackedAgain []) (sym output) (record { shown = λ n. refl; shows = refl; shorter = omega arith })
packed_again laws (line ∷ others) number packed done output =
    packed_by laws done.0 line others number packed done.1 done.2
    (subst (λ (o : Outcome). PacksLine o (PacksLines others) packed) (laws.outcome line output.0 done.0 output.1 done.1) output.2)
    (λ behind d o. packed_again laws others (number + 1) behind d o)

pub shown_of_packed : Laws → (text packed : List ℕ) → EndsPlainly text → PacksTo text packed
    → ShowsAs packed (without_skipped text) × (length packed ≤ length text)
shown_of_packed laws text packed ends is =
    let again = packed_again laws (lines_of text) 1 packed is.done is.output in (
      record {
        done = again.shown 1;
        output = again.shows;
        only = λ other h. one_output laws (lines_of packed) other (without_skipped text) h again.shows;
      },
      omega (arith, ap length ends, again.shorter),
    )
