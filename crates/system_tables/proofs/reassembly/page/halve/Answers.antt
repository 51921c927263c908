-- The second half is what stands behind the first.
use Rattle.std.proofs.Common.{◌≡◌, ◌++◌, ◌-◌, ◌∙◌, ap, arith, drop, length, take}
use Rattle.std.proofs.lemmas.List.{length-drop, take-append-drop, take_all}
use Rattle.system_tables.proofs.reassembly.page.halve.Goals as goal

pub returns-clause-items : goal.returns-clause-items
returns-clause-items c =
    let runs = c.args.runs.now.items in
    let second : c.try_extend_from_slice.new.self.items ≡ drop 32 runs
    = c.in-Ok.ensures.ok ∙ ap (λ l. l ++ take (length c.as_slice.result.now - 32) (drop 32 c.as_slice.result.now)) c.new-others.ensures
    ∙ take_all (length c.as_slice.result.now - 32) (drop 32 c.as_slice.result.now) (omega (arith, length-drop 32 c.as_slice.result.now))
    ∙ ap (drop 32) c.as_slice.ensures.value in
    ap (λ l. l ++ c.try_extend_from_slice.new.self.items) c.truncate.ensures.items ∙ ap (λ l. take 32 runs ++ l) second ∙ take-append-drop 32 runs
