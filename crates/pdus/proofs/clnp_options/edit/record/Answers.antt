use Rattle.std.proofs.Common.{arith, ap, ◌∙◌, set, length, ◌+◌}
use Rattle.pdus.specs.ClnpOptions.Edits.{pointer_of}
use Rattle.pdus.proofs.ClnpOptions.Values.{recorded-ended, recorded-full, recorded-put, written-by}
use Rattle.pdus.proofs.clnp_options.edit.record.Goals as goal

pub returns-then-pointer : goal.returns-then-pointer
returns-then-pointer c = recorded-ended c.args.title.now c.args.value.now c.if-pointer.true

pub returns-then-place-title : goal.returns-then-place-title
returns-then-place-title c = recorded-full c.args.title.now c.args.value.now c.if-pointer.false c.if-place-title.true

pub returns : goal.returns
returns c =
    let v = c.args.value.now in
    let t = c.args.title.now in
    let low = c.requires.pointer c.if-pointer.false in
    ap (λ xs. set xs 1 (pointer_of v + length t + 1)) (written-by t v c.copy_from_slice.new.self _ (omega arith) c.if-place-title.false (omega arith) c.copy_from_slice.ensures.after)
    ∙ recorded-put t v c.if-pointer.false c.if-place-title.false
