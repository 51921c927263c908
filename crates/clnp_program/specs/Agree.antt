-- What commands make of one another's output, and what a share is worth.
use Rattle.std.specs.Prelude.{◌≡◌, ℕ, ◌≤◌, List, length, map, IfOk}
use Rattle.hex.specs.Hex.{IsBytes}
use Rattle.clnp_machine.specs.ClnpBase.Text.{lines_of}
use Rattle.captures.specs.ClnpBase.declared.command_base.status.Status.{Status}
use Rattle.captures.specs.ClnpBase.declared.command_base.status.Status.TheVariants.{Done}
use Rattle.scenario.specs.Grammar.{plan_of_version_1}
use Rattle.clnp_safety.specs.Migrated.{IsMigrated}
use Rattle.captures.specs.CaptureCommands.Pack.{PackAnswers, PacksLines}
use Rattle.captures.specs.CaptureCommands.RoundTrip.{EndsPlainly, IsAcceptedCapture, PacksAs, PacksTo, ShowsAs, without_skipped}
use Rattle.captures.specs.PcapFrames.File.{Captured}
use Rattle.captures.specs.PcapFrames.Making.{frames_in, made_record}
use Rattle.captures.specs.PcapFrames.Reading.{Ending, IsReadAs}
use Rattle.captures.specs.declared.capture_commands.form.Form.TheVariants.{Remade}
use Rattle.captures.specs.CaptureCommands.Laws.{lines_of_frames}
use Rattle.captures.specs.CaptureCommands.Lines.{TellsRecords}
use Rattle.captures.specs.CaptureCommands.Make.{frames_of, make_status}
use Rattle.clnp_program.specs.FairCommands.Fair.{IsFair}
use Rattle.clnp_program.specs.FairCommands.Grammar.{capture_of}

pub record TextsAgree : Type 0 where
  -- Of a capture in lower case without skipped lines, each line of which ends by `\n` alone, whose frames are accepted and have
  -- at most 70,000 octets each: `pack` of what `show` writes for it is the capture, and isn't longer.
  pub shown_packed : (capture : List ℕ) → IsAcceptedCapture capture
      → (text : List ℕ) × ShowsAs capture text × PacksAs text capture × (length capture ≤ length text)
  -- Of a text each line of which ends by `\n` alone and on which `pack` is done: `show` of what `pack` wrote, which isn't longer,
  -- is that text without its skipped lines.
  pub packed_shown : (text packed : List ℕ) → EndsPlainly text → PacksTo text packed
      → ShowsAs packed (without_skipped text) × (length packed ≤ length text)
  -- The lines of a text call for one answer of `pack`, and for one output.
  pub one_packing : (lines : List (List ℕ)) (status other : Status) (output another : List ℕ)
      → PackAnswers 1 lines status → PackAnswers 1 lines other → PacksLines lines output → PacksLines lines another
      → (status ≡ other) × (output ≡ another)
  -- Of what `pcap-lines` writes of the records of a file `pcap-make` makes a file with the same OSI frames in their order, but for
  -- those whose PDU has no octets.
  pub lines_made : (octets output : List ℕ) (records : List Captured) (ending : Ending) → IsBytes octets
      → IsReadAs octets records ending → TellsRecords Remade 1 records output
      → (make_status 1 (lines_of output) ≡ Done) × (frames_of (lines_of output) ≡ frames_in records)
  -- Of the file that `pcap-make` makes of lines `pcap-lines` writes the lines of its frames, and nothing else.
  pub made_lines : (lines : List (List ℕ)) (output : List ℕ)
      → TellsRecords Remade 1 (map made_record (frames_of lines)) output
      → output ≡ lines_of_frames (frames_of lines)
  -- `migrate` of each text of version 1 is the canonical text of its scenario in version 2, in which all clocks tick together; that
  -- text is read as this scenario, and its run and its journal are the same.
  pub migrated : (text : List ℕ) → IfOk (plan_of_version_1 text) (IsMigrated text)
  -- `reassemble`: a source with a share gets the lines that it would get alone, and no table holds more than its budget.
  pub fair : (text : List ℕ) → IfOk (capture_of text) IsFair
