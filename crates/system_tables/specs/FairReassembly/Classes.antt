-- What is told of frames that come from many sources. The class of a frame is its source, where that has a share, and all other
-- sources together where it has none. What is told of a frame is what comes of it behind the frames of its class alone.
use Rattle.std.specs.Prelude.{ℕ, zero, suc, ◌==◌, ◌&&◌, if◌then◌else◌, Bool, false, List, [], ◌∷◌, ◌++◌, length, filter, fold, Option, None, Some, slice_get, unwrap_or}
use Rattle.std.specs.Str.{bytes_eq}
use Rattle.pdus.specs.ClnpViews.Extent.{Extent}
use Rattle.pdus.specs.declared.pdu_header.kind.Kind.{Kind}
use Rattle.pdus.specs.PduHeader.Value.{PduValue, SegmentationPart}
use Rattle.system_tables.specs.declared.reassembly.segment.Key.{Key}
use Rattle.system_tables.specs.declared.reassembly.segment.Segment.{Segment}
use Rattle.system_tables.specs.declared.reassembly.table.TableLimits.{TableLimits}
use Rattle.system_tables.specs.Reassembly.Arrival.{arrival_of, octet_in}
use Rattle.system_tables.specs.Reassembly.Buffer as buffer
use Rattle.system_tables.specs.Reassembly.Buffer.{Answer, Buffer, after, answer, buffer_of, data_of, due, held, without}
use Rattle.system_tables.specs.declared.fair_reassembly.came.Came.{Came}
use Rattle.system_tables.specs.declared.fair_reassembly.share.Share.{Share}
use Rattle.system_tables.specs.FairReassembly.Coming.{is_accepted, part_of, segment_in, value_in}
use Rattle.system_tables.specs.FairReassembly.Tables.{limits_of, place_of, sources_of}

-- what each element of a list gives behind those before it
abbrev pub each_behind : {A B : Type 0} → (List A → A → B) → List A → List A → List B
each_behind f before [] = []
each_behind f before (x ∷ later) = f before x ∷ each_behind f (before ++ x ∷ []) later

-- What is told: a frame is no PDU; a buffer's time ended, and so many octets are held then; a PDU's lifetime is over; a unit is
-- whole; a segment is kept or not, and why.
pub data Told : Type 0 where
  Unread : Told
  Expired : (from to : List ℕ) (id held : ℕ) → Told
  Dead : (from : List ℕ) → Told
  Joined : (from to : List ℕ) (kind : Kind) (octets : List ℕ) → Told
  Held : (from : List ℕ) (id offset held : ℕ) → Told
  Repeat : (from : List ℕ) (id offset : ℕ) → Told
  Interference : (from : List ℕ) (id : ℕ) → Told
  NoSlot : (from : List ℕ) (live : ℕ) → Told
  Crowded : (from : List ℕ) (held size : ℕ) → Told
  Many : (from : List ℕ) (kept : ℕ) → Told

-- what is told, in order, and the buffers after it
pub record Effect : Type 0 where
  pub told : List Told
  pub buffers : List (Buffer Extent)

-- one, and then what comes of the buffers that it leaves
abbrev pub and_then : Effect → (List (Buffer Extent) → Effect) → Effect
and_then effect next = record { told = effect.told ++ (next effect.buffers).told; buffers = (next effect.buffers).buffers }

-- nothing is told
abbrev pub rests : List (Buffer Extent) → Effect
rests buffers = record { told = []; buffers = buffers }

abbrev pub tells : Told → List (Buffer Extent) → Effect
tells told buffers = record { told = told ∷ []; buffers = buffers }

-- a buffer is taken out
abbrev pub ends : Buffer Extent → List (Buffer Extent) → Effect
ends ended buffers =
    tells (Expired ended.key.from ended.key.to ended.key.id (held (without ended.key buffers))) (without ended.key buffers)

abbrev pub ends_due : Option (Buffer Extent) → (List (Buffer Extent) → Effect) → List (Buffer Extent) → Effect
ends_due None next buffers = rests buffers
ends_due (Some ended) next buffers = and_then (ends ended buffers) next

-- the buffers whose time has ended at a moment are taken out, the due one first, and so on: so many at most
abbrev pub expire : ℕ → (now : ℕ) → List (Buffer Extent) → Effect
expire zero now buffers = rests buffers
expire (suc most) now buffers = ends_due (due now buffers) (expire most now) buffers

-- all of them
abbrev pub expire_all : (now : ℕ) → List (Buffer Extent) → Effect
expire_all now buffers = expire (length buffers) now buffers

-- the data of a unit whose buffer is whole
abbrev pub data_in : Option (Buffer Extent) → List ℕ
data_in None = []
data_in (Some whole) = data_of octet_in whole

-- what comes of a segment of a PDU's unit, by the answer and the buffers after it: the buffer of a whole unit is taken out
abbrev pub takes_in : PduValue → SegmentationPart → Key → Answer → List (Buffer Extent) → Effect
takes_in v part key buffer.Held buffers = tells (Held v.source part.identifier part.offset (held buffers)) buffers
takes_in v part key buffer.Whole buffers =
    tells (Joined v.source v.destination v.kind (data_in (buffer_of key buffers))) (without key buffers)
takes_in v part key buffer.Repeat buffers = tells (Repeat v.source part.identifier part.offset) buffers
takes_in v part key (buffer.Interference kept offered) buffers = tells (Interference v.source part.identifier) buffers
takes_in v part key (buffer.NoSlot live) buffers = tells (NoSlot v.source live) buffers
takes_in v part key (buffer.Crowded held size) buffers = tells (Crowded v.source held size) buffers
takes_in v part key (buffer.Many kept) buffers = tells (Many v.source kept) buffers

abbrev pub offers : TableLimits → (now : ℕ) → PduValue → SegmentationPart → Segment → List (Buffer Extent) → Effect
offers limits now v part segment buffers =
    takes_in v part segment.key (answer limits now (arrival_of segment) buffers) (after limits now (arrival_of segment) buffers)

-- what comes of a PDU that isn't dead, by whether it is a part of its unit
abbrev pub takes : TableLimits → Came → PduValue → Option SegmentationPart → List (Buffer Extent) → Effect
takes limits came v None buffers = tells (Joined v.source v.destination v.kind v.body) buffers
takes limits came v (Some part) buffers = offers limits came.moment v part (segment_in came.frame v part) buffers

-- what comes of the PDU of a frame
abbrev pub arrives : TableLimits → Came → PduValue → List (Buffer Extent) → Effect
arrives limits came v buffers =
    if v.lifetime == 0 then tells (Dead v.source) buffers else takes limits came v (part_of v) buffers

-- what comes of a frame with a PDU in a table with these buffers: first the time of buffers ends
abbrev pub comes : TableLimits → Came → List (Buffer Extent) → Effect
comes limits came buffers = and_then (expire_all came.moment buffers) (arrives limits came (value_in came.frame))

-- the buffers behind frames that come in a table without buffers, one after the other
abbrev pub buffers_behind : TableLimits → List Came → List (Buffer Extent)
buffers_behind limits frames = fold (λ buffers came. (comes limits came buffers).buffers) [] frames

-- The numbers of the tables, and the sources that have a share.
pub record Shares : Type 0 where
  pub others : TableLimits
  pub shares : List Share

abbrev pub limits_at : Shares → ℕ → TableLimits
limits_at s place = unwrap_or (slice_get (limits_of s.others s.shares) place) s.others

-- the class of a frame, by the place of its table; one that is no PDU has none
abbrev pub class_of : Shares → Came → Option ℕ
class_of s came = if is_accepted came.frame then Some (place_of (sources_of s.shares) (value_in came.frame).source) else None

abbrev pub is_class : ℕ → Option ℕ → Bool
is_class place None = false
is_class place (Some other) = other == place

-- whether a frame is of a class
abbrev pub is_of : Shares → ℕ → Came → Bool
is_of s place came = is_class place (class_of s came)

-- whether a PDU of this source stands at the front of a frame
abbrev pub is_from : List ℕ → Came → Bool
is_from source came = is_accepted came.frame && bytes_eq (value_in came.frame).source source

-- the frames of a class
abbrev pub frames_of : Shares → ℕ → List Came → List Came
frames_of s place frames = filter (is_of s place) frames

-- the buffers of a class behind some frames
abbrev pub class_buffers : Shares → ℕ → List Came → List (Buffer Extent)
class_buffers s place frames = buffers_behind (limits_at s place) (frames_of s place frames)

abbrev pub told_in : Shares → Option ℕ → List Came → Came → List Told
told_in s None before came = Unread ∷ []
told_in s (Some place) before came = (comes (limits_at s place) came (class_buffers s place before)).told

-- what is told of a frame behind others
abbrev pub told_behind : Shares → List Came → Came → List Told
told_behind s before came = told_in s (class_of s came) before came

-- a frame, and what is told of it
pub record Account : Type 0 where
  pub came : Came
  pub told : List Told

abbrev pub account_behind : Shares → List Came → Came → Account
account_behind s before came = record { came = came; told = told_behind s before came }

-- what is told of frames, one after the other
abbrev pub accounts : Shares → List Came → List Account
accounts s frames = each_behind (account_behind s) [] frames

-- what is told of the frames of a class
abbrev pub accounts_of : Shares → ℕ → List Came → List Account
accounts_of s place frames = filter (λ account. is_of s place account.came) (accounts s frames)
