use Rattle.std.proofs.Common.{ℕ, ◌<◌, ◌≤◌, length, sym, ap, ◌∙◌, subst, arith}
use Rattle.std.proofs.lemmas.Bool.{leb-true, leb-false}
use Rattle.std.specs.Prelude.{insert, slice_set}
use Rattle.system_tables.specs.declared.esis_tables.table.Entry.{Entry}
use Rattle.system_tables.specs.EsisTables.Fact.{hearing}
use Rattle.system_tables.specs.EsisTables.Keeps.{Keeps}
use Rattle.system_tables.proofs.EsisTables.Hearing.{answer_full, answer_again, answer_new, kept_full, kept_again, kept_new, length_kept}
use Rattle.system_tables.proofs.EsisTables.Keeping.{known_at, new_at, over_kept, put_kept, rising_of}
use Rattle.system_tables.proofs.esis_tables.table.Table.hear.Goals as goal

pub returns-then-is_full-clause-answered : goal.returns-then-is_full-clause-answered
returns-then-is_full-clause-answered c table kept keeps =
    let table' = c.next_number-number.new.self in
    let keeps' = c.next_number-number.ensures.keeps kept keeps in
    let fact = hearing c.args.now table c.args.key c.args.neighbour c.args.hold in
    let none = new_at table' kept keeps' c.args.key c.in-Err.at (c.in-Err.ensures.absent (rising_of table' kept keeps')) in
    let full : c.args.self.now.limit ≤ length kept =
    omega (arith, leb-true table'.limit (length table'.entries) (sym c.if-is_full.ensures.full), c.next_number-number.ensures.limit, length_kept table' kept keeps') in
    answer_full c.args.self.now.limit fact kept c.if-hold-eq0.false c.len-entries.result none full (c.len-entries.ensures ∙ length_kept table' kept keeps')

pub returns-then-is_full-clause-keeps : goal.returns-then-is_full-clause-keeps
returns-then-is_full-clause-keeps c table kept keeps =
    let table' = c.next_number-number.new.self in
    let keeps' = c.next_number-number.ensures.keeps kept keeps in
    let fact = hearing c.args.now table c.args.key c.args.neighbour c.args.hold in
    let none = new_at table' kept keeps' c.args.key c.in-Err.at (c.in-Err.ensures.absent (rising_of table' kept keeps')) in
    let full : c.args.self.now.limit ≤ length kept =
    omega (arith, leb-true table'.limit (length table'.entries) (sym c.if-is_full.ensures.full), c.next_number-number.ensures.limit, length_kept table' kept keeps') in
    subst (Keeps table') (kept_full c.args.self.now.limit fact kept c.if-hold-eq0.false none full) keeps'

pub returns-in-Ok-clause-answered : goal.returns-in-Ok-clause-answered
returns-in-Ok-clause-answered c table kept keeps =
    let table' = c.next_number-number.new.self in
    let keeps' = c.next_number-number.ensures.keeps kept keeps in
    let fact = hearing c.args.now table c.args.key c.args.neighbour c.args.hold in
    let known = known_at table' kept keeps' c.args.key c.in-Ok.at c.in-Ok.ensures.found in
    answer_again c.args.self.now.limit fact kept c.if-hold-eq0.false known

pub returns-in-Ok-clause-keeps : goal.returns-in-Ok-clause-keeps
returns-in-Ok-clause-keeps c table kept keeps =
    let table' = c.next_number-number.new.self in
    let keeps' = c.next_number-number.ensures.keeps kept keeps in
    let fact = hearing c.args.now table c.args.key c.args.neighbour c.args.hold in
    let known = known_at table' kept keeps' c.args.key c.in-Ok.at c.in-Ok.ensures.found in
    let entry : ℕ → Entry = λ until. record { key = c.args.key; neighbour = c.args.neighbour; until = until; number = c.next_number-number.result } in
    subst (Keeps c.write_over.new.self) (kept_again c.args.self.now.limit fact kept c.if-hold-eq0.false known)
    (over_kept table' kept keeps' c.write_over.new.self fact c.next_number-number.result c.next_number-number.ensures.above c.in-Ok.at c.in-Ok.ensures.found
    (c.write_over.ensures.entries ∙ ap (λ until. slice_set table'.entries c.in-Ok.at (entry until)) c.end_of_hold-until.ensures))

pub returns-else-is_full-clause-answered : goal.returns-else-is_full-clause-answered
returns-else-is_full-clause-answered c table kept keeps =
    let table' = c.next_number-number.new.self in
    let keeps' = c.next_number-number.ensures.keeps kept keeps in
    let fact = hearing c.args.now table c.args.key c.args.neighbour c.args.hold in
    let none = new_at table' kept keeps' c.args.key c.in-Err.at (c.in-Err.ensures.absent (rising_of table' kept keeps')) in
    let room : length kept < c.args.self.now.limit =
    omega (arith, leb-false table'.limit (length table'.entries) (sym c.if-is_full.ensures.full), c.next_number-number.ensures.limit, length_kept table' kept keeps') in
    answer_new c.args.self.now.limit fact kept c.if-hold-eq0.false none room

pub returns-else-is_full-clause-keeps : goal.returns-else-is_full-clause-keeps
returns-else-is_full-clause-keeps c table kept keeps =
    let table' = c.next_number-number.new.self in
    let keeps' = c.next_number-number.ensures.keeps kept keeps in
    let fact = hearing c.args.now table c.args.key c.args.neighbour c.args.hold in
    let none = new_at table' kept keeps' c.args.key c.in-Err.at (c.in-Err.ensures.absent (rising_of table' kept keeps')) in
    let room : length kept < c.args.self.now.limit =
    omega (arith, leb-false table'.limit (length table'.entries) (sym c.if-is_full.ensures.full), c.next_number-number.ensures.limit, length_kept table' kept keeps') in
    let entry : ℕ → Entry = λ until. record { key = c.args.key; neighbour = c.args.neighbour; until = until; number = c.next_number-number.result } in
    let gap = c.in-Err.ensures.absent (rising_of table' kept keeps') in
    subst (Keeps c.put_at.new.self) (kept_new c.args.self.now.limit fact kept c.if-hold-eq0.false none room)
    (put_kept table' kept keeps' c.put_at.new.self fact c.next_number-number.result c.next_number-number.ensures.above c.in-Err.at gap
    (c.put_at.ensures.entries ∙ ap (λ until. insert table'.entries c.in-Err.at (entry until)) c.end_of_hold-until.ensures))
