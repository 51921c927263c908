use Rattle.std.proofs.Common.{◌<◌, ◌∙◌, OnErr, Result, Ok, Err, arith, get_or, length}
use Rattle.std.proofs.lemmas.Option.{slice_get-get_or}
use Rattle.system_tables.proofs.ForwardingFacts.Entries.{stands_same, stands_set, was_there}
use Rattle.system_tables.proofs.forwarding.routes.Routes.put.Goals as goal

pub returns-clause-there : goal.returns-clause-there
returns-clause-there c = λ list stands.
    let map = get_or c.args.self.now.by_length c.len.result c.index-self-len.result in
    let within : c.len.result < length c.args.self.now.by_length = omega arith in
    c.is_some.ensures
    ∙ was_there c.args.self.now list c.args.route.prefix c.len.result map c.in_ok-old.old stands c.len.ensures.count
    (slice_get-get_or c.args.self.now.by_length c.len.result c.index-self-len.result within) c.in_ok-old.ensures.old

pub returns-clause-stands : goal.returns-clause-stands
returns-clause-stands c = λ list stands.
    let map = get_or c.args.self.now.by_length c.len.result c.index-self-len.result in
    let within : c.len.result < length c.args.self.now.by_length = omega arith in
    stands_set c.args.self.now list c.args.route c.len.result map _ stands c.len.ensures.count
    (slice_get-get_or c.args.self.now.by_length c.len.result c.index-self-len.result within) c.in_ok-old.ensures.updates

on_err : {A E : Type 0} (r : Result A E) (P : Type 0) → P → OnErr r P
on_err (Ok x) P holds = tt
on_err (Err e) P holds = holds

pub returns-in_err-old-clause-same : goal.returns-in_err-old-clause-same
returns-in_err-old-clause-same c = λ list stands.
    let map = get_or c.args.self.now.by_length c.len.result c.index-self-len.result in
    let within : c.len.result < length c.args.self.now.by_length = omega arith in
    on_err c.from_residual.result _
    (stands_same c.args.self.now list c.len.result map _ stands
    (slice_get-get_or c.args.self.now.by_length c.len.result c.index-self-len.result within) c.in_err-old.ensures.err)
