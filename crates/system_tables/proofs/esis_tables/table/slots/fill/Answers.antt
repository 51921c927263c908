-- The last slot that was free, or one behind the others.
use Rattle.std.proofs.Common.{◌≡◌, ◌∙◌, arith, length, subst, sym}
use Rattle.std.proofs.lemmas.List.{append-nil}
use Rattle.system_tables.specs.EsisTables.Slots.{AreTaken}
use Rattle.pdus.proofs.ClnpBase.Lists.{slice_get-push, slice_get-push_other}
use Rattle.system_tables.proofs.EsisTables.Slots.{filled_taken, pushed_taken}
use Rattle.system_tables.proofs.esis_tables.table.slots.fill.Goals as goal

pub returns-in-Some-clause-taken : goal.returns-in-Some-clause-taken
returns-in-Some-clause-taken c taken are =
    let entries = c.args.entries.now.items in
    rw c.from-at.ensures (filled_taken entries taken c.pop.new.self.items c.in-Some.slot c.args.entry
    (subst (AreTaken entries taken) c.in-Some.ensures.items are))

pub returns-clause-there : goal.returns-clause-there
returns-clause-there c =
    let last : length c.args.entries.now.items ≡ c.len-slot.result = omega (arith, c.len-slot.ensures) in
    rw c.in-Ok.ensures.items (slice_get-push c.args.entries.now.items c.len-slot.result c.args.entry last)

pub returns-clause-others : goal.returns-clause-others
returns-clause-others c other differs =
    let last : length c.args.entries.now.items ≡ c.len-slot.result = omega (arith, c.len-slot.ensures) in
    rw c.in-Ok.ensures.items
    (slice_get-push_other c.args.entries.now.items other c.args.entry (λ same. differs (sym same ∙ last)))

pub returns-clause-taken : goal.returns-clause-taken
returns-clause-taken c taken are =
    let entries = c.args.entries.now.items in
    let last : c.len-slot.result ≡ length c.args.entries.now.items = omega (arith, c.len-slot.ensures) in
    rw (c.in-Ok.ensures.items, last) (pushed_taken entries taken c.pop.new.self.items c.args.entry
    (subst (AreTaken entries taken) (c.in_default.ensures.items ∙ append-nil c.pop.new.self.items) are))
