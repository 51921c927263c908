-- The segment at the index has the key, and no later one.
use Rattle.std.proofs.Common.{◌≡◌, ◌-◌, ◌<◌, ◌∙◌, Some, sym, ap, subst, suc, arith, length, drop, []}
use Rattle.std.specs.Prelude.{slice_get}
use Rattle.std.proofs.lemmas.Option.{slice_get-get_or}
use Rattle.system_tables.specs.Reassembly.Entries.{present}
use Rattle.system_tables.specs.Reassembly.State.{segments_of}
use Rattle.system_tables.proofs.ReassemblyFacts.Endings.{present-last}
use Rattle.system_tables.proofs.ReassemblyFacts.Entries.{has_segment, none_further, present_counted}
use Rattle.system_tables.proofs.reassembly.segments.last_of.Goals as goal

pub loop-index-preserved : goal.loop-index-preserved
loop-index-preserved c =
    let entries = c.args.entries.now in
    let key = c.args.key.now in
    let index = c.loop-index.index - 1 in
    let within : index < length entries = omega arith in
    let entry = c.index-entries-index.result in
    let at : slice_get entries index ≡ Some entry = slice_get-get_or entries index entry within ∙ ap Some (sym c.index-entries-index.is) in
    let next : c.loop-index.index ≡ suc index = omega arith in
    none_further key entries index entry at (sym c.if-is_of.ensures)
    (subst (λ n. segments_of key (present (drop n entries)) ≡ []) next c.loop-index.invariant)

pub returns-then-is_of-clause-some : goal.returns-then-is_of-clause-some
returns-then-is_of-clause-some c =
    let entries = c.args.entries.now in
    let key = c.args.key.now in
    let index = c.loop-index.index - 1 in
    let within : index < length entries = omega arith in
    let entry = c.index-entries-index.result in
    let at : slice_get entries index ≡ Some entry = slice_get-get_or entries index entry within ∙ ap Some (sym c.index-entries-index.is) in
    let there = has_segment key entry (sym c.if-is_of.ensures) in
    let count = present_counted key entries index there.0 (at ∙ ap Some there.1) there.2 in
    λ none. let e = ap length none in omega (arith, count, e)

pub returns-then-is_of-clause-last : goal.returns-then-is_of-clause-last
returns-then-is_of-clause-last c =
    let entries = c.args.entries.now in
    let key = c.args.key.now in
    let index = c.loop-index.index - 1 in
    let within : index < length entries = omega arith in
    let entry = c.index-entries-index.result in
    let at : slice_get entries index ≡ Some entry = slice_get-get_or entries index entry within ∙ ap Some (sym c.index-entries-index.is) in
    let there = has_segment key entry (sym c.if-is_of.ensures) in
    let next : c.loop-index.index ≡ suc index = omega arith in
    let none : segments_of key (present (drop (suc index) entries)) ≡ [] = subst (λ n. segments_of key (present (drop n entries)) ≡ []) next c.loop-index.invariant in
    (within, present-last key entries index there.0 (at ∙ ap Some there.1) there.2 none)
