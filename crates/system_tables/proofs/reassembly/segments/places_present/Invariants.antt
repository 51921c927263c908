-- The places so far, and what is left to write down.
use Rattle.std.proofs.Common.{◌≡◌, ◌≤◌, ◌++◌, drop, length, vec_capacity}
use Rattle.system_tables.specs.Reassembly.Entries.{places_present}
use Rattle.system_tables.proofs.reassembly.segments.places_present.Given as goal

abbrev pub invariant-loop-entry : goal.invariant-loop-entry
invariant-loop-entry l =
    (l.names.items ++ places_present l.next (drop l.entry-index l.entries) ≡ places_present 0 l.entries)
    × (length l.names.items ≡ l.entry-index) × (l.next ≤ l.entry-index) × (vec_capacity l.fn.names ≤ vec_capacity l.names)
