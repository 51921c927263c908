-- What is due: at a moment buffers whose time has ended, and a system's hello; a hello where a host is asked for by a group. What a
-- restart leaves.
use Rattle.std.specs.Prelude.{◌≡◌, ◌≢◌, ℕ, ◌+◌, ◌*◌, ◌≤◌, ◌⊎◌, min, Some, Bool, true, List}
use Rattle.std.specs.List.{Contains}
use Rattle.system_tables.specs.Reassembly.Arrival.{same_key}
use Rattle.system_tables.specs.Reassembly.Buffer.{Buffer}
use Rattle.pdus.specs.declared.esis_pdus.pdu.EsisBody.TheVariants.{Ish}
use Rattle.pdus.specs.EsisPdus.Value.{EsisValue, suggested}
use Rattle.clnp_plan.specs.declared.config.Limits.{Limits}
use Rattle.clnp_plan.specs.declared.config.Role.TheVariants.{Host}
use Rattle.clnp_machine.specs.Unit.{Packet}
use Rattle.clnp_machine.specs.System.{SystemState, first_state}
use Rattle.clnp_machine.specs.Local.{is_own}

-- of some buffers one has ended at a moment that has the key of this one
pub record HasEnded (now : ℕ) (buffers : List (Buffer Packet)) (buffer : Buffer Packet) : Type 0 where
  pub ended : Buffer Packet
  pub there : Contains buffers ended
  pub due : ended.deadline ≤ now
  pub same : same_key buffer.key ended.key ≡ true

-- a buffer is still there, or it has ended
abbrev pub StaysUnlessEnded : (now : ℕ) → (before after : List (Buffer Packet)) → Buffer Packet → Type 0
StaysUnlessEnded now before after buffer = Contains after buffer ⊎ HasEnded now before buffer

-- a system says hello at all, and its next hello is due at a moment (ISO 9542, section 6.1.1)
pub record IsHelloDue (s : SystemState) (now : ℕ) : Type 0 where
  pub speaks : s.hello ≢ 0
  pub due : s.next_hello ≤ now

-- A host that says hello at all hears an intermediate system suggest a period for it, above 0 (ISO 9542:1988).
pub record IsSuggested (s : SystemState) (value : EsisValue) (seconds : ℕ) : Type 0 where
  pub host : s.configuration.role ≡ Host
  pub title : List ℕ
  pub by : value.body ≡ Ish title
  pub timer : suggested value.body value.options ≡ Some seconds
  pub some : seconds ≢ 0
  pub speaks : s.hello ≢ 0

-- how often a system says hello, and when it says the next one, is as before
pub record KeepsHello (before after : SystemState) : Type 0 where
  pub hello : after.hello ≡ before.hello
  pub next : after.next_hello ≡ before.next_hello

-- it says hello so often from now on, and the next one no later than such a period from its moment on
pub record FollowsTimer (seconds : ℕ) (before after : SystemState) : Type 0 where
  pub hello : after.hello ≡ seconds
  pub next : after.next_hello ≡ min before.next_hello (before.moment + 2 * seconds)

-- A host is asked for by a group: a packet that lives came through one for an address of the host's, and the host says hello at
-- all (ISO 9542, section 6.6).
pub record IsAskedByGroup (s : SystemState) (to_group : Bool) (p : Packet) : Type 0 where
  pub group : to_group ≡ true
  pub lives : p.lifetime ≢ 0
  pub own : is_own s p.unit.destination ≡ true
  pub speaks : s.hello ≢ 0

-- a system as at its start, at its moment, and quiet as long as an identifier rests; but the count of its units goes on, and it is
-- attached to what it was attached to
abbrev pub begun_anew : SystemState → Limits → SystemState
begun_anew s limits =
    let first : SystemState = first_state s.place s.configuration limits s.moment (s.moment + limits.reuse) in
    record first { attached = s.attached; count = s.count }
