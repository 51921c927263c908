-- Lines of which a file is made.
use Rattle.std.proofs.Common.{◌≡◌, ℕ, ◌+◌, inl, inr, false, List, [], ◌∷◌, ◌++◌, Option, None, Some, Result, Ok, Err, refl, sym, ap, ◌∙◌, subst, append-nil}
use Rattle.std.specs.Prelude.{OnOk}
use Rattle.std.proofs.KnownBytes.{Appends-kept, Appends-trans}
use Rattle.std.specs.Io.KnownBytes.{Appends, Keeps}
use Rattle.clnp_base.specs.declared.command_base.block.LineFault.{LineFault}
use Rattle.clnp_base.specs.declared.command_base.block.LineFault.TheVariants as fault
use Rattle.clnp_base.specs.declared.command_base.status.Status.{Status}
use Rattle.clnp_base.specs.declared.command_base.status.Status.TheVariants as status
use Rattle.clnp_base.specs.CommandBase.ByLine.{Bad, Good, PushOf, task_of}
use Rattle.clnp_base.specs.CommandBase.ComesAs.{ComesAs}
use Rattle.clnp_base.specs.CommandBase.Output.{AppendsCalled}
use Rattle.clnp_base.specs.Streams.{AppendsFront}
use Rattle.clnp_base.specs.Text.{words_of, is_skipped}
use Rattle.clnp_base.proofs.CommandBase.ByLine.{Breaks, Total}
use Rattle.clnp_base.proofs.CommandBase.Fronts.{front-behind, front-longer}
use Rattle.frame_links.specs.declared.pcap_frames.order.Order.TheVariants.{HighFirst}
use Rattle.frame_links.specs.PcapFrames.File.{captured_octets, header_octets}
use Rattle.frame_links.specs.PcapFrames.Making.{Frame, made_file, made_header, made_record}
use Rattle.captures.specs.CaptureCommands.Make.{Skipped, Malformed, Makes, four_of, frame_of_words, frames_of, line_of, make_task, making, records_made}
use Rattle.captures.specs.CaptureCommands.ReadLine.{ReadOf}
use Rattle.captures.proofs.CaptureCommands.FrameLines.{read_line}

pub make_total : Total making
make_total lines number = (records_made lines, refl)

pub make_breaks : Breaks making
make_breaks number = refl

-- ---- one line

pub good_skipped : (line : List ℕ) (number : ℕ) → line_of line ≡ Skipped → Good making number (number + 1) (line ∷ []) []
good_skipped line number is = record { behind = λ ending later rest calls. rw is calls; answer = λ later answered found. rw is found }

pub good_frame : (line : List ℕ) (number : ℕ) (f : Frame) → line_of line ≡ Makes f
    → Good making number (number + 1) (line ∷ []) (captured_octets HighFirst (made_record f))
good_frame line number f is =
    record {
      behind = λ ending later rest calls. rw is (ap (λ (t : List ℕ). captured_octets HighFirst (made_record f) ++ t) calls);
      answer = λ later answered found. rw is found;
    }

bad_line : (line : List ℕ) (number code : ℕ) → line_of line ≡ Malformed code → Bad making number line number code
bad_line line number code is = record { stops = λ later. rw is refl; answer = λ later. rw is refl }

-- a line whose words are refused
pub refused_words : (line : List ℕ) (number : ℕ) (pdu old new : List ℕ) (why : LineFault) → is_skipped line ≡ false → new ≡ old
    → ReadOf (frame_of_words (four_of (words_of line))) pdu (Err why)
    → PushOf {A = Unit {0}} making number (λ done. number + 1) number line old new (Err why)
refused_words line number pdu old new (fault.Bad code) read same is = (bad_line line number code (read_line line read ∙ is), same)
refused_words line number pdu old new fault.NoMemory read same is = tt

-- the record of a frame was put into the block, or memory was refused
pub pushed_frame : (line : List ℕ) (number : ℕ) (f : Frame) (old new : List ℕ) (r : Result (Unit {0}) LineFault) → line_of line ≡ Makes f
    → OnOk r (new ≡ old ++ captured_octets HighFirst (made_record f)) → ((why : LineFault) → r ≡ Err why → why ≡ fault.NoMemory)
    → PushOf making number (λ done. number + 1) number line old new r
pushed_frame line number f old new (Ok done) is put why = (captured_octets HighFirst (made_record f), good_frame line number f is, put)
pushed_frame line number f old new (Err fault.NoMemory) is put why = tt
pushed_frame line number f old new (Err (fault.Bad code)) is put why =
    let e : fault.Bad code ≡ fault.NoMemory = why (fault.Bad code) refl in absurd (cc)

-- ---- behind the header

with_header : (lines : List (List ℕ)) (a b c : Option (List ℕ)) (output : List ℕ) → Appends a b (header_octets HighFirst made_header)
    → output ≡ records_made lines → Appends b c output → Appends a c (made_file (frames_of lines))
with_header lines a b c output head is p =
    subst (λ (t : List ℕ). Appends a c (header_octets HighFirst made_header ++ t)) is
    (Appends-trans a b c (header_octets HighFirst made_header) output head p)

whole_behind : (lines : List (List ℕ)) (a b c : Option (List ℕ)) → Appends a b (header_octets HighFirst made_header)
    → AppendsCalled (λ output. output ≡ records_made lines) b c → Appends a c (made_file (frames_of lines))
whole_behind lines a b c head h = with_header lines a b c h.output head h.called h.appended

pub comes_behind : (lines : List (List ℕ)) (a b c : Option (List ℕ)) (answer : Status) → Appends a b (header_octets HighFirst made_header)
    → ComesAs (task_of making 1 lines) b c answer → ComesAs (make_task lines) a c answer
comes_behind lines a b c status.Done head h = (h.0, whole_behind lines a b c head h.1)
comes_behind lines a b c (status.BadInput line code) head h = (h.0, whole_behind lines a b c head h.1)
comes_behind lines a b c (status.WorldFull weight) head h = (h.0, whole_behind lines a b c head h.1)
comes_behind lines a b c status.WriteFault head h =
    subst (λ (t : List ℕ). AppendsFront a c (header_octets HighFirst made_header ++ t)) h.called
    (front-behind a b c (header_octets HighFirst made_header) h.output head h.appended)
comes_behind lines a b c status.NoMemory head (inl keeps) =
    inr (record {
      made = [];
      later = lines;
      all = refl;
      appended =
          subst (Appends a c) (sym (append-nil (header_octets HighFirst made_header)))
          (Appends-kept a b c (header_octets HighFirst made_header) head keeps);
    })
comes_behind lines a b c status.NoMemory head (inr h) =
    inr (record {
      made = h.made;
      later = h.later;
      all = h.all;
      appended = with_header h.made a b c h.output head h.part h.appended;
    })
comes_behind lines a b c (status.BadWords at) head h = absurd h
comes_behind lines a b c status.TooLong head h = absurd h
comes_behind lines a b c status.ReadFault head h = absurd h
comes_behind lines a b c (status.LinksGone links) head h = absurd h

-- writing the header failed
pub header_cut : (lines : List (List ℕ)) (a b : Option (List ℕ)) → AppendsFront a b (header_octets HighFirst made_header)
    → ComesAs (make_task lines) a b status.WriteFault
header_cut lines a b p = front-longer a b (header_octets HighFirst made_header) (records_made lines) p

-- nothing was written
pub nothing_made : (lines : List (List ℕ)) (a : Option (List ℕ)) → ComesAs (make_task lines) a a status.NoMemory
nothing_made lines a = inl (same a)
  where
    same : (x : Option (List ℕ)) → Keeps x x
    same None = tt
    same (Some xs) = refl
