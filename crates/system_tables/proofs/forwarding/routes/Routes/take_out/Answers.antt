use Rattle.std.proofs.Common.{◌<◌, arith, get_or, length}
use Rattle.std.proofs.lemmas.Option.{slice_get-get_or}
use Rattle.system_tables.proofs.ForwardingFacts.Entries.{found_at, stands_without}
use Rattle.system_tables.proofs.forwarding.routes.Routes.take_out.Goals as goal

pub returns-clause-route : goal.returns-clause-route
returns-clause-route c = λ list stands.
    let map = get_or c.args.self.now.by_length c.len.result c.index-self-len.result in
    let within : c.len.result < length c.args.self.now.by_length = omega arith in
    found_at c.args.self.now list c.args.prefix.now c.len.result map c.remove.result stands c.len.ensures.count
    (slice_get-get_or c.args.self.now.by_length c.len.result c.index-self-len.result within) c.remove.ensures.value

pub returns-clause-stands : goal.returns-clause-stands
returns-clause-stands c = λ list stands.
    let map = get_or c.args.self.now.by_length c.len.result c.index-self-len.result in
    let within : c.len.result < length c.args.self.now.by_length = omega arith in
    stands_without c.args.self.now list c.args.prefix.now c.len.result map _ stands c.len.ensures.count
    (slice_get-get_or c.args.self.now.by_length c.len.result c.index-self-len.result within) c.remove.ensures.updates
