-- How far telling a file's records has come.
use Rattle.std.specs.Prelude.{◌≡◌, ℕ, ◌+◌, ◌⊎◌, false, List, [], ◌++◌, length, take, Option, Some, None, Result, Ok, Err}
use Rattle.std.specs.Io.KnownBytes.{Appends, Consumes}
use Rattle.hex.specs.Hex.{IsBytes}
use Rattle.clnp_base.specs.Streams.{AppendsFront}
use Rattle.clnp_base.specs.declared.command_base.status.Status.{Status}
use Rattle.clnp_base.specs.declared.command_base.status.Status.TheVariants.{Done, BadWords, TooLong, BadInput, WorldFull, LinksGone, ReadFault, WriteFault, NoMemory}
use Rattle.frame_links.specs.declared.pcap_frames.fault.PcapFault.{PcapFault}
use Rattle.frame_links.specs.PcapFrames.File.{Captured}
use Rattle.frame_links.specs.PcapFrames.Reading.{Ending, Faulty, IsReadAs, Stands, ending_of}
use Rattle.captures.specs.declared.capture_commands.form.Form.{Form}
use Rattle.captures.specs.declared.capture_commands.teller.Teller.{Teller}
use Rattle.captures.specs.CaptureCommands.Lines.{TellsRecords}
use Rattle.captures.specs.CaptureCommands.Called.{fault_status, has_fault}
use Rattle.captures.specs.CaptureCommands.Serves.{ComesTo}

-- A teller took these octets: the lines of the first records that came whole in them are written, those of the next wait
-- in its block, and `untold` are left.
pub record Underway (untold : List Captured) (t : Teller) (taken : List ℕ) (before after : Option (List ℕ)) : Type 0 where
  pub made : List Captured
  pub waiting : List Captured
  pub stands : Stands t.reader taken ((made ++ waiting) ++ untold)
  pub going : has_fault (ending_of t.reader) ≡ false
  pub bytes : IsBytes taken
  pub sized : t.size ≡ length taken
  pub counted : t.number ≡ length (made ++ waiting)
  pub output : List ℕ
  pub tells : TellsRecords t.form 1 made output
  pub appended : Appends before after output
  pub waits : TellsRecords t.form (length made + 1) waiting t.block.items

-- A teller took these octets, and the lines of exactly the records that came whole in them are written: none waits.
pub record Told (t : Teller) (taken : List ℕ) (before after : Option (List ℕ)) : Type 0 where
  pub records : List Captured
  pub stands : Stands t.reader taken records
  pub going : has_fault (ending_of t.reader) ≡ false
  pub bytes : IsBytes taken
  pub sized : t.size ≡ length taken
  pub counted : t.number ≡ length records
  pub output : List ℕ
  pub tells : TellsRecords t.form 1 records output
  pub appended : Appends before after output
  pub none_waits : t.block.items ≡ []

-- The octets have a fault that is answered so, and the lines of the records before it were written.
pub record Breaks (form : Form) (octets : List ℕ) (before after : Option (List ℕ)) (answer : Status) : Type 0 where
  pub records : List Captured
  pub fault : PcapFault
  pub read : IsReadAs octets records (Faulty fault)
  pub is : answer ≡ fault_status (length records) fault
  pub output : List ℕ
  pub tells : TellsRecords form 1 records output
  pub appended : Appends before after output

-- the lines of some of the records in the octets, from the first on, were written so
pub record TellsSome (Wrote : Option (List ℕ) → Option (List ℕ) → List ℕ → Type 0) (form : Form) (octets : List ℕ) (before after : Option (List ℕ)) : Type 0 where
  pub bytes : IsBytes octets
  pub made : List Captured
  pub later : List Captured
  pub ending : Ending
  pub read : IsReadAs octets (made ++ later) ending
  pub output : List ℕ
  pub tells : TellsRecords form 1 made output
  pub wrote : Wrote before after output

-- What stopping within these octets with this answer comes to.
abbrev pub StopOf : Form → List ℕ → (before after : Option (List ℕ)) → Status → Type 0
StopOf form octets before after (BadInput line code) = Breaks form octets before after (BadInput line code)
StopOf form octets before after WriteFault = TellsSome AppendsFront form octets before after
StopOf form octets before after NoMemory = TellsSome Appends form octets before after
StopOf form octets before after Done = ⊥
StopOf form octets before after (BadWords at) = ⊥
StopOf form octets before after TooLong = ⊥
StopOf form octets before after (WorldFull weight) = ⊥
StopOf form octets before after (LinksGone links) = ⊥
StopOf form octets before after ReadFault = ⊥

-- What taking a piece comes to, where these octets were taken in all.
abbrev pub TellsOf : {A : Type 0} → Form → Teller → List ℕ → (before after : Option (List ℕ)) → Result A Status → Type 0
TellsOf form now octets before after (Ok _) = Told now octets before after
TellsOf form now octets before after (Err answer) = StopOf form octets before after answer

-- What taking octets comes to, where these were taken in all and lines may wait.
abbrev pub TookOf : {A : Type 0} → Form → Teller → List ℕ → (before after : Option (List ℕ)) → Result A Status → Type 0
TookOf form now octets before after (Ok _) = Underway [] now octets before after
TookOf form now octets before after (Err answer) = StopOf form octets before after answer

-- What taking first octets of a piece comes to.
abbrev pub FedOf : Form → Teller → (taken piece : List ℕ) → (before after : Option (List ℕ)) → Result ℕ Status → Type 0
FedOf form now taken piece before after (Ok count) = Underway [] now (taken ++ take count piece) before after
FedOf form now taken piece before after (Err answer) = StopOf form (taken ++ piece) before after answer

-- What writing the block at the end comes to: the answer, or that the sink failed.
abbrev pub FinishOf : Status → List ℕ → (before after : Option (List ℕ)) → Status → Type 0
FinishOf answer block before after given =
    ((given ≡ answer) × Appends before after block) ⊎ ((given ≡ WriteFault) × AppendsFront before after block)

-- Octets came from the source, and the lines of exactly the records that came whole in them are written. So it is before
-- each read of the source.
pub record GoesOn (now : Teller) (left_before left_after before after : Option (List ℕ)) : Type 0 where
  pub taken : List ℕ
  pub consumed : Consumes left_before left_after taken
  pub told : Told now taken before after

-- What reading once comes to: no answer yet, or one.
abbrev pub NextOf : Form → Teller → (left_before left_after before after : Option (List ℕ)) → Option Status → Type 0
NextOf form now left_before left_after before after None = GoesOn now left_before left_after before after
NextOf form now left_before left_after before after (Some answer) = ComesTo form left_before left_after before after answer
