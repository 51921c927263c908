-- What a call comes to that tells the records of a file as lines, while it reads.
use Rattle.std.specs.Prelude.{◌≡◌, ℕ, ◌+◌, ◌<◌, ◌≤◌, ◌⊎◌, true, false, List, ◌++◌, length, take, Option, IfSome}
use Rattle.std.specs.Io.KnownBytes.{Appends, Consumes, IsAtEnd}
use Rattle.clnp_base.specs.Streams.{AppendsFront}
use Rattle.clnp_base.specs.CommandBase.Reading.{Excuses}
use Rattle.clnp_base.specs.declared.command_base.status.Status.{Status}
use Rattle.clnp_base.specs.declared.command_base.status.Status.TheVariants.{Done, BadWords, TooLong, BadInput, WorldFull, LinksGone, ReadFault, WriteFault, NoMemory}
use Rattle.frame_links.specs.PcapFrames.File.{Captured}
use Rattle.frame_links.specs.PcapFrames.Reading.{Ending, IsReadAs}
use Rattle.captures.specs.declared.capture_commands.form.Form.{Form}
use Rattle.captures.specs.CaptureCommands.Lines.{TellsRecords}
use Rattle.captures.specs.CaptureCommands.Called.{Calls, has_fault, most_octets, status_read}

-- These octets came from the source, at most one more than a file may have, and those within the limit are read as these
-- records and end so.
pub record Came (left_before left_after : Option (List ℕ)) (octets : List ℕ) (records : List Captured) (ending : Ending) : Type 0 where
  pub consumed : Consumes left_before left_after octets
  pub few : length octets ≤ most_octets + 1
  pub read : IsReadAs (take most_octets octets) records ending

-- Whatever follows doesn't matter: the octets have a fault, or they are too many, or they are all.
abbrev pub IsDecided : (left_after : Option (List ℕ)) → List ℕ → Ending → Type 0
IsDecided left_after octets ending = (has_fault ending ≡ true) ⊎ ((most_octets < length octets) ⊎ IsAtEnd left_after)

-- The octets that came call for this answer whatever follows them, and the lines of exactly the records that are whole in
-- those within the limit, or before their first fault, were written.
pub record Answers (form : Form) (left_before left_after before after : Option (List ℕ)) (status : Status) : Type 0 where
  pub octets : List ℕ
  pub records : List Captured
  pub ending : Ending
  pub came : Came left_before left_after octets records ending
  pub decided : IsDecided left_after octets ending
  pub answer : status ≡ status_read octets records ending
  pub output : List ℕ
  pub tells : TellsRecords form 1 records output
  pub appended : Appends before after output

-- The octets that came are within the limit and have no fault, and the lines of exactly the records that are whole in
-- them were written.
pub record BreaksOff (form : Form) (left_before left_after before after : Option (List ℕ)) : Type 0 where
  pub octets : List ℕ
  pub records : List Captured
  pub ending : Ending
  pub came : Came left_before left_after octets records ending
  pub within : length octets ≤ most_octets
  pub no_fault : has_fault ending ≡ false
  pub output : List ℕ
  pub tells : TellsRecords form 1 records output
  pub appended : Appends before after output

-- A front of the lines of the records was written that are whole in the octets that came.
pub record WritesFront (form : Form) (left_before left_after before after : Option (List ℕ)) : Type 0 where
  pub octets : List ℕ
  pub records : List Captured
  pub ending : Ending
  pub came : Came left_before left_after octets records ending
  pub output : List ℕ
  pub tells : TellsRecords form 1 records output
  pub appended : AppendsFront before after output

-- The lines of some of the records were written, from the first on, that are whole in the octets that came.
pub record WritesSome (form : Form) (left_before left_after before after : Option (List ℕ)) : Type 0 where
  pub octets : List ℕ
  pub made : List Captured
  pub later : List Captured
  pub ending : Ending
  pub came : Came left_before left_after octets (made ++ later) ending
  pub output : List ℕ
  pub tells : TellsRecords form 1 made output
  pub appended : Appends before after output

-- What a call comes to, by its answer.
abbrev pub ComesTo : Form → (left_before left_after before after : Option (List ℕ)) → Status → Type 0
ComesTo form left_before left_after before after Done = Answers form left_before left_after before after Done
ComesTo form left_before left_after before after (BadInput line code) =
    Answers form left_before left_after before after (BadInput line code)
ComesTo form left_before left_after before after TooLong = Answers form left_before left_after before after TooLong
ComesTo form left_before left_after before after ReadFault = BreaksOff form left_before left_after before after
ComesTo form left_before left_after before after WriteFault = WritesFront form left_before left_after before after
ComesTo form left_before left_after before after NoMemory = WritesSome form left_before left_after before after
ComesTo form left_before left_after before after (BadWords at) = ⊥
ComesTo form left_before left_after before after (WorldFull octets) = ⊥
ComesTo form left_before left_after before after (LinksGone links) = ⊥

-- What a call comes to with this answer: `left_before` and `left_after` are what the source has left, `before` and `after`
-- what stands in the sink, where they tell it; `read_rose` and `write_rose` say that they failed in this call.
pub record ServesFile (form : Form) (left_before left_after before after : Option (List ℕ)) (read_rose write_rose : Type 0) (status : Status) : Type 0 where
  -- Where the source tells its octets, the answer is the one that they call for, but for want of memory and for faults
  -- that came in this call.
  pub answer : IfSome left_before (λ octets. Calls octets status ⊎ Excuses read_rose write_rose status)
  -- What was taken and what was written.
  pub comes_to : ComesTo form left_before left_after before after status
  -- The faults came in this call.
  pub read_fault : status ≡ ReadFault → read_rose
  pub write_fault : status ≡ WriteFault → write_rose
