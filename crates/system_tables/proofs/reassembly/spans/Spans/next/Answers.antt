-- A run of the unit is a piece of the earliest segment that has its places, and the rest follows.
use Rattle.std.proofs.Common.{rules, ◌≡◌, ℕ, ◌-◌, ◌<◌, ◌≤◌, ◌++◌, ◌∷◌, true, false, Some, None, get_or, length, map, refl, sym, ap, subst, ◌∙◌, arith}
use Rattle.std.specs.Prelude.{is_some, slice_get}
use Rattle.std.specs.List.{range_with_len}
use Rattle.std.proofs.lemmas.Bool.{both_ways}
use Rattle.std.proofs.lemmas.List.{get_or_default}
use Rattle.std.proofs.lemmas.List.FromFn.{length-map-range_with_len}
use Rattle.std.proofs.lemmas.Option.{slice_get_read}
use Rattle.system_tables.specs.Reassembly.Arrival.{arrival_of, is_covered, octet_in}
use Rattle.system_tables.specs.Reassembly.Entries.{present}
use Rattle.system_tables.specs.Reassembly.Index.{entry_gives}
use Rattle.system_tables.specs.Reassembly.Offered.{MayCome}
use Rattle.system_tables.specs.Reassembly.Runs.{AreJoined, filler}
use Rattle.system_tables.proofs.ReassemblyFacts.Covered.{each_covered, covered_rest}
use Rattle.pdus.proofs.ClnpBase.Found.{is_first}
use Rattle.pdus.proofs.ClnpBase.Choices.{none_since}
use Rattle.pdus.proofs.ClnpBase.Lists.{AllByRecursion-slice_get}
use Rattle.system_tables.proofs.ReassemblyFacts.Entries.{present_at}
use Rattle.system_tables.proofs.ReassemblyFacts.Filling.{have_from, joined_order, not_behind}
use Rattle.system_tables.proofs.ReassemblyFacts.Givers.{covered-giver}
use Rattle.system_tables.proofs.ReassemblyFacts.Run.{arrivals_of, does_give}
use Rattle.system_tables.proofs.ReassemblyFacts.Walk.{octets-add, octet_at, octets_at, piece_is}
use Rattle.system_tables.proofs.reassembly.spans.Spans.next.Goals as goal

pub returns-in_default-by : goal.returns-in_default-by
returns-in_default-by c =
    let p = c.self.inside in
    let run = c.in-Some.run' in
    let rest = c.next.new.self in
    let runs_are : p.runs ≡ run ∷ rest = c.in-Some.ensures in
    let joined : AreJoined p.place p.end (run ∷ rest) = subst (AreJoined p.place p.end) runs_are c.self.invariant.3 in
    let order = joined_order run.to p.end rest joined.1.1 in
    let on : p.place < run.to = omega (arith, joined.0, joined.1.0) in
    let none : filler p.place p.runs ≡ None = ap (filler p.place) runs_are ∙ (rw (have_from p.place run (omega (arith, joined.0)) on) c.in_default-by.is) in
    let lacks = covered-giver p.key p.place p.entries.now ∙ ap is_some (sym (c.self.invariant.4 p.place (omega arith) (omega (arith, on, order))) ∙ none) in
    let covered = each_covered (arrivals_of p.key (present p.entries.now)) p.place (p.end - p.place) p.place c.self.invariant.2 (omega arith) (omega (arith, on, order)) in
    absurd (both_ways (is_covered (arrivals_of p.key (present p.entries.now)) p.place) lacks covered)

pub offset_bounds-self-inside-from : goal.offset_bounds-self-inside-from
offset_bounds-self-inside-from c =
    let p = c.self.inside in
    let run = c.in-Some.run' in
    let rest = c.next.new.self in
    let runs_are : p.runs ≡ run ∷ rest = c.in-Some.ensures in
    let joined : AreJoined p.place p.end (run ∷ rest) = subst (AreJoined p.place p.end) runs_are c.self.invariant.3 in
    let order = joined_order run.to p.end rest joined.1.1 in
    let first = λ (at : ℕ) (low : p.place ≤ at) (high : at < run.to).
    is_first (entry_gives p.key at) c.from.result p.entries.now
    (sym (c.self.invariant.4 at low (omega (arith, high, order))) ∙ ap (filler at) runs_are
    ∙ (rw (have_from at run (omega (arith, low, joined.0)) high) (c.in-Some-by.is ∙ ap (λ (n : ℕ). Some n) (sym c.from.ensures)))) in
    let on : p.place < run.to = omega (arith, joined.0, joined.1.0) in
    let inside = (first p.place (omega arith) on).within in
    search (rules, inside)

pub bounds-self-inside-from : goal.bounds-self-inside-from
bounds-self-inside-from c =
    let p = c.self.inside in
    let run = c.in-Some.run' in
    let rest = c.next.new.self in
    let runs_are : p.runs ≡ run ∷ rest = c.in-Some.ensures in
    let joined : AreJoined p.place p.end (run ∷ rest) = subst (AreJoined p.place p.end) runs_are c.self.invariant.3 in
    let order = joined_order run.to p.end rest joined.1.1 in
    let first = λ (at : ℕ) (low : p.place ≤ at) (high : at < run.to).
    is_first (entry_gives p.key at) c.from.result p.entries.now
    (sym (c.self.invariant.4 at low (omega (arith, high, order))) ∙ ap (filler at) runs_are
    ∙ (rw (have_from at run (omega (arith, low, joined.0)) high) (c.in-Some-by.is ∙ ap (λ (n : ℕ). Some n) (sym c.from.ensures)))) in
    let on : p.place < run.to = omega (arith, joined.0, joined.1.0) in
    (first p.place (omega arith) on).within

pub octets-parts-requires-clause-came : goal.octets-parts-requires-clause-came
octets-parts-requires-clause-came c =
    let p = c.self.inside in
    let run = c.in-Some.run' in
    let rest = c.next.new.self in
    let runs_are : p.runs ≡ run ∷ rest = c.in-Some.ensures in
    let joined : AreJoined p.place p.end (run ∷ rest) = subst (AreJoined p.place p.end) runs_are c.self.invariant.3 in
    let order = joined_order run.to p.end rest joined.1.1 in
    let first = λ (at : ℕ) (low : p.place ≤ at) (high : at < run.to).
    is_first (entry_gives p.key at) c.from.result p.entries.now
    (sym (c.self.invariant.4 at low (omega (arith, high, order))) ∙ ap (filler at) runs_are
    ∙ (rw (have_from at run (omega (arith, low, joined.0)) high) (c.in-Some-by.is ∙ ap (λ (n : ℕ). Some n) (sym c.from.ensures)))) in
    let on : p.place < run.to = omega (arith, joined.0, joined.1.0) in
    let segment = c.in-Some-entries.segment in
    let inside = (first p.place (omega arith) on).within in
    let at : slice_get p.entries.now c.from.result ≡ Some (Some segment) = slice_get_read p.entries.now (length p.entries.now) c.from.result (Some segment) refl inside
    (sym c.in-Some-entries.is ∙ get_or_default p.entries.now c.from.result c.index-self-from.result (Some segment) inside) in
    let there = present_at p.entries.now c.from.result segment at in
    AllByRecursion-slice_get MayCome (present p.entries.now) there.0 segment there.1 c.self.invariant.1

pub octets-parts-requires-clause-from : goal.octets-parts-requires-clause-from
octets-parts-requires-clause-from c =
    let p = c.self.inside in
    let run = c.in-Some.run' in
    let rest = c.next.new.self in
    let runs_are : p.runs ≡ run ∷ rest = c.in-Some.ensures in
    let joined : AreJoined p.place p.end (run ∷ rest) = subst (AreJoined p.place p.end) runs_are c.self.invariant.3 in
    let order = joined_order run.to p.end rest joined.1.1 in
    let first = λ (at : ℕ) (low : p.place ≤ at) (high : at < run.to).
    is_first (entry_gives p.key at) c.from.result p.entries.now
    (sym (c.self.invariant.4 at low (omega (arith, high, order))) ∙ ap (filler at) runs_are
    ∙ (rw (have_from at run (omega (arith, low, joined.0)) high) (c.in-Some-by.is ∙ ap (λ (n : ℕ). Some n) (sym c.from.ensures)))) in
    let on : p.place < run.to = omega (arith, joined.0, joined.1.0) in
    let segment = c.in-Some-entries.segment in
    let read : Some segment ≡ get_or p.entries.now c.from.result (Some segment) = sym c.in-Some-entries.is
    ∙ get_or_default p.entries.now c.from.result c.index-self-from.result (Some segment) (first p.place (omega arith) on).within in
    omega (arith, (does_give p.key p.place segment ((first p.place (omega arith) on).passes (Some segment) read)).from, c.from-2.ensures, joined.0)

pub octets-parts-requires-clause-to : goal.octets-parts-requires-clause-to
octets-parts-requires-clause-to c =
    let p = c.self.inside in
    let run = c.in-Some.run' in
    let rest = c.next.new.self in
    let runs_are : p.runs ≡ run ∷ rest = c.in-Some.ensures in
    let joined : AreJoined p.place p.end (run ∷ rest) = subst (AreJoined p.place p.end) runs_are c.self.invariant.3 in
    let order = joined_order run.to p.end rest joined.1.1 in
    let first = λ (at : ℕ) (low : p.place ≤ at) (high : at < run.to).
    is_first (entry_gives p.key at) c.from.result p.entries.now
    (sym (c.self.invariant.4 at low (omega (arith, high, order))) ∙ ap (filler at) runs_are
    ∙ (rw (have_from at run (omega (arith, low, joined.0)) high) (c.in-Some-by.is ∙ ap (λ (n : ℕ). Some n) (sym c.from.ensures)))) in
    let on : p.place < run.to = omega (arith, joined.0, joined.1.0) in
    let segment = c.in-Some-entries.segment in
    let read : Some segment ≡ get_or p.entries.now c.from.result (Some segment) = sym c.in-Some-entries.is
    ∙ get_or_default p.entries.now c.from.result c.index-self-from.result (Some segment) (first p.place (omega arith) on).within in
    let last = does_give p.key (run.to - 1) segment ((first (run.to - 1) (omega (arith, on)) (omega (arith, on))).passes (Some segment) read) in
    omega (arith, last.to, c.from-2.ensures, c.from-len.ensures, joined.1.0)

pub invariant_of-self-2 : goal.invariant_of-self-2
invariant_of-self-2 c =
    let p = c.self.inside in
    let run = c.in-Some.run' in
    let rest = c.next.new.self in
    let runs_are : p.runs ≡ run ∷ rest = c.in-Some.ensures in
    let joined : AreJoined p.place p.end (run ∷ rest) = subst (AreJoined p.place p.end) runs_are c.self.invariant.3 in
    let order = joined_order run.to p.end rest joined.1.1 in
    let on : p.place < run.to = omega (arith, joined.0, joined.1.0) in
    let next : run.to ≡ c.from-self-inside.result = sym c.from-self-inside.ensures in (
      omega (arith, order, next),
      c.self.invariant.1,
      covered_rest (arrivals_of p.key (present p.entries.now)) p.place c.from-self-inside.result p.end (omega (arith, on, next)) c.self.invariant.2,
      subst (λ (n : ℕ). AreJoined n p.end rest) next joined.1.1,
      (λ at low high.
          let behind : filler at (run ∷ rest) ≡ filler at rest = rw (not_behind at run (omega (arith, low, next))) refl in
          sym (ap (filler at) runs_are ∙ behind) ∙ c.self.invariant.4 at (omega (arith, low, next, on)) high),
    )

pub returns : goal.returns
returns c =
    let p = c.self.inside in
    let run = c.in-Some.run' in
    let rest = c.next.new.self in
    let runs_are : p.runs ≡ run ∷ rest = c.in-Some.ensures in
    let joined : AreJoined p.place p.end (run ∷ rest) = subst (AreJoined p.place p.end) runs_are c.self.invariant.3 in
    let order = joined_order run.to p.end rest joined.1.1 in
    let first = λ (at : ℕ) (low : p.place ≤ at) (high : at < run.to).
    is_first (entry_gives p.key at) c.from.result p.entries.now
    (sym (c.self.invariant.4 at low (omega (arith, high, order))) ∙ ap (filler at) runs_are
    ∙ (rw (have_from at run (omega (arith, low, joined.0)) high) (c.in-Some-by.is ∙ ap (λ (n : ℕ). Some n) (sym c.from.ensures)))) in
    let on : p.place < run.to = omega (arith, joined.0, joined.1.0) in
    let segment = c.in-Some-entries.segment in
    let read : Some segment ≡ get_or p.entries.now c.from.result (Some segment) = sym c.in-Some-entries.is
    ∙ get_or_default p.entries.now c.from.result c.index-self-from.result (Some segment) (first p.place (omega arith) on).within in
    let next = c.from-self-inside.result in
    let next_is : next ≡ run.to = c.from-self-inside.ensures in
    let from_is : c.from-2.result ≡ p.place = c.from-2.ensures ∙ joined.0 in
    let len_is : c.from-len.result ≡ next - p.place = omega (arith, c.from-len.ensures, next_is, joined.0) in
    let piece = c.octets-parts.ensures
    ∙ (λ i. map (octet_in (arrival_of segment)) (range_with_len (from_is i) (len_is i)))
    ∙ piece_is p.key p.entries.now c.from.result p.place (next - p.place) segment
    (λ at low high. sym (c.self.invariant.4 at low (omega (arith, high, next_is, order, on))) ∙ ap (filler at) runs_are
    ∙ (rw (have_from at run (omega (arith, low, joined.0)) (omega (arith, high, next_is, on))) (c.in-Some-by.is ∙ ap (λ (n : ℕ). Some n) (sym c.from.ensures)))) read in
    let size = ap length piece ∙ length-map-range_with_len (octet_at p.key p.entries.now) p.place (next - p.place) in (
      omega (arith, size, on, next_is),
      sym c.self.view_is ∙ octets-add p.key p.entries.now p.place next p.end (omega (arith, on, next_is)) (omega (arith, order, next_is))
          ∙ ap (λ l. l ++ octets_at p.key p.entries.now next (p.end - next)) (sym piece),
    )

pub returns-in_default-entries : goal.returns-in_default-entries
returns-in_default-entries c =
    let p = c.self.inside in
    let run = c.in-Some.run' in
    let rest = c.next.new.self in
    let runs_are : p.runs ≡ run ∷ rest = c.in-Some.ensures in
    let joined : AreJoined p.place p.end (run ∷ rest) = subst (AreJoined p.place p.end) runs_are c.self.invariant.3 in
    let order = joined_order run.to p.end rest joined.1.1 in
    let on : p.place < run.to = omega (arith, joined.0, joined.1.0) in
    let first = is_first (entry_gives p.key p.place) c.from.result p.entries.now
    (sym (c.self.invariant.4 p.place (omega arith) (omega (arith, on, order))) ∙ ap (filler p.place) runs_are
    ∙ (rw (have_from p.place run (omega (arith, joined.0)) on) (c.in-Some-by.is ∙ ap (λ (n : ℕ). Some n) (sym c.from.ensures)))) in
    let entry = get_or p.entries.now c.from.result c.index-self-from.result in
    let passes = first.passes entry (get_or_default p.entries.now c.from.result c.index-self-from.result entry first.within) in
    let none = none_since entry c.in_default-entries.not-Some in
    let never : false ≡ true = sym (ap (entry_gives p.key p.place) none) ∙ passes in
    absurd (cc)

pub invariant_of-self-in_default-by : goal.invariant_of-self-in_default-by
invariant_of-self-in_default-by c =
    let p = c.self.inside in
    let run = c.in-Some.run' in
    let rest = c.next.new.self in
    let runs_are : p.runs ≡ run ∷ rest = c.in-Some.ensures in
    let joined : AreJoined p.place p.end (run ∷ rest) = subst (AreJoined p.place p.end) runs_are c.self.invariant.3 in
    let order = joined_order run.to p.end rest joined.1.1 in
    let on : p.place < run.to = omega (arith, joined.0, joined.1.0) in
    let none : filler p.place p.runs ≡ None = ap (filler p.place) runs_are ∙ (rw (have_from p.place run (omega (arith, joined.0)) on) c.in_default-by.is) in
    let lacks = covered-giver p.key p.place p.entries.now ∙ ap is_some (sym (c.self.invariant.4 p.place (omega arith) (omega (arith, on, order))) ∙ none) in
    let covered = each_covered (arrivals_of p.key (present p.entries.now)) p.place (p.end - p.place) p.place c.self.invariant.2 (omega arith) (omega (arith, on, order)) in
    absurd (both_ways (is_covered (arrivals_of p.key (present p.entries.now)) p.place) lacks covered)

pub invariant_of-self-in_default-entries : goal.invariant_of-self-in_default-entries
invariant_of-self-in_default-entries c =
    let p = c.self.inside in
    let run = c.in-Some.run' in
    let rest = c.next.new.self in
    let runs_are : p.runs ≡ run ∷ rest = c.in-Some.ensures in
    let joined : AreJoined p.place p.end (run ∷ rest) = subst (AreJoined p.place p.end) runs_are c.self.invariant.3 in
    let order = joined_order run.to p.end rest joined.1.1 in
    let on : p.place < run.to = omega (arith, joined.0, joined.1.0) in
    let first = is_first (entry_gives p.key p.place) c.from.result p.entries.now
    (sym (c.self.invariant.4 p.place (omega arith) (omega (arith, on, order))) ∙ ap (filler p.place) runs_are
    ∙ (rw (have_from p.place run (omega (arith, joined.0)) on) (c.in-Some-by.is ∙ ap (λ (n : ℕ). Some n) (sym c.from.ensures)))) in
    let entry = get_or p.entries.now c.from.result c.index-self-from.result in
    let passes = first.passes entry (get_or_default p.entries.now c.from.result c.index-self-from.result entry first.within) in
    let none = none_since entry c.in_default-entries.not-Some in
    let never : false ≡ true = sym (ap (entry_gives p.key p.place) none) ∙ passes in
    absurd (cc)

pub invariant_of-self : goal.invariant_of-self
invariant_of-self c =
    let p = c.self.inside in
    let same : p.runs ≡ c.next.new.self = c.in_default.ensures.0 ∙ sym c.in_default.ensures.1 in (
      c.self.invariant.0,
      c.self.invariant.1,
      c.self.invariant.2,
      subst (AreJoined p.place p.end) same c.self.invariant.3,
      (λ at low high. ap (filler at) (sym same) ∙ c.self.invariant.4 at low high),
    )
