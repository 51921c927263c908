use Rattle.std.proofs.Common.{refl, arith, ap, Ok, ◌∙◌, ◌≡◌, ◌≤◌, ◌<◌, ◌+◌, ◌-◌, ◌*◌, ◌/◌, ℕ, length, Some, None}
use Rattle.pdus.specs.PduHeader.Value.{PduValue}
use Rattle.pdus.specs.PduHeader.Spelling.{header_length, segment_length}
use Rattle.pdus.specs.declared.made_pdus.cuts.Cuts.TheInside.{Inside}
use Rattle.pdus.specs.MadePdus.Cut.{data_room}
use Rattle.pdus.proofs.MadePdus.Given.{all_cut, cut_fits, cut_parts, cut_refused, parts_cutting, segments_are, whole_cutting, whole_is, whole_size}
use Rattle.pdus.proofs.made_pdus.cuts.Cuts.new.Goals as goal

pub invariant_of-result : goal.invariant_of-result
invariant_of-result c = whole_cutting c.a_header_tells_its_value.ensures.value c.requires.data.0 c.args.head c.args.body_len c.requires.data.1 c.requires.data.2

pub returns-then-octets-mtu-clause-cut : goal.returns-then-octets-mtu-clause-cut
returns-then-octets-mtu-clause-cut c v h e =
    let fits : segment_length v ≤ c.args.mtu = omega (arith, c.as_bytes-head_len.ensures.size v h, c.from-mtu.ensures) in
    rw (cut_fits v c.args.mtu fits) (ap Ok (whole_is v c.args.head c.args.body_len h e))

pub returns-then-octets-mtu-clause-each : goal.returns-then-octets-mtu-clause-each
returns-then-octets-mtu-clause-each c =
    let s : Inside = record { head = c.args.head; part = None; body_len = c.args.body_len; room = c.args.body_len; number = 0; left = 1 } in
    all_cut s (invariant_of-result c) (λ none number below. whole_size c.args.body_len number below) 0 1 (omega arith)

pub returns-in_default-clause-cut : goal.returns-in_default-clause-cut
returns-in_default-clause-cut c v h e =
    let octets : length c.as_bytes-head_len.result.now + c.args.body_len ≡ segment_length v = omega (arith, c.as_bytes-head_len.ensures.size v h) in
    let long : c.args.mtu < segment_length v = omega (arith, c.from-mtu.ensures) in
    rw (cut_refused v c.args.mtu long (c.in_default.ensures v h), octets) refl

pub invariant_of-result-2 : goal.invariant_of-result-2
invariant_of-result-2 c =
    let v : PduValue = c.requires.data.0 in
    let some : 0 < (c.from-mtu.result - length c.as_bytes-head_len.result.now) / 8 * 8 = omega (arith, c.as_bytes-head_len.ensures.few, c.from-mtu.ensures, c.requires.mtu) in
    parts_cutting c.a_header_tells_its_value.ensures.value v c.args.head c.args.body_len _ c.div_ceil.result c.in-Some.part c.requires.data.1 c.requires.data.2 (c.in-Some.ensures v c.requires.data.1) some (omega (arith, c.from-mtu.ensures)) c.div_ceil.ensures (omega arith)

pub returns-clause-cut : goal.returns-clause-cut
returns-clause-cut c v h e =
    let octets : length c.as_bytes-head_len.result.now ≡ header_length v = c.as_bytes-head_len.ensures.size v h in
    let long : c.args.mtu < segment_length v = omega (arith, c.from-mtu.ensures, octets) in
    let room : ℕ = (c.from-mtu.result - length c.as_bytes-head_len.result.now) / 8 * 8 in
    let some : 0 < room = omega (arith, c.as_bytes-head_len.ensures.few, c.from-mtu.ensures, c.requires.mtu) in
    let at : room ≡ data_room (header_length v) c.args.mtu = ap (λ n. (n - length c.as_bytes-head_len.result.now) / 8 * 8) c.from-mtu.ensures ∙ ap (λ n. (c.args.mtu - n) / 8 * 8) octets in
    rw (cut_parts v c.args.mtu c.in-Some.part long (c.in-Some.ensures v h))
    (ap Ok (segments_are c.a_header_tells_its_value.ensures.value v c.args.head c.args.body_len room c.div_ceil.result c.args.mtu c.in-Some.part h e some at c.div_ceil.ensures))

pub returns-clause-each : goal.returns-clause-each
returns-clause-each c =
    let s : Inside = record { head = c.args.head; part = Some c.in-Some.part; body_len = c.args.body_len; room = (c.from-mtu.result - length c.as_bytes-head_len.result.now) / 8 * 8; number = 0; left = c.div_ceil.result } in
    all_cut s (invariant_of-result-2 c) (λ none number below. cc) 0 c.div_ceil.result (omega arith)
