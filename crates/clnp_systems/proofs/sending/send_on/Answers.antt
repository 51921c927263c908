-- The unit is cut, as its PDU is.
use Rattle.std.proofs.Common.{◌≡◌, ◌∙◌, length, sym}
use Rattle.std.proofs.lemmas.Result.{on_ok_weaker}
use Rattle.clnp_machine.specs.ClnpViews.Extent.{Extent, seen}
use Rattle.clnp_machine.specs.Unit.{value_of, whole_packet}
use Rattle.clnp_systems.proofs.Sent.{unit_is_dropped, unit_is_sent, unit_length}
use Rattle.clnp_systems.proofs.sending.send_on.Goals as goal

pub new-requires-clause-data : goal.new-requires-clause-data
new-requires-clause-data c =
    let u = c.requires.made.0 in
    let does = c.requires.made.1 in (
      value_of (whole_packet u),
      does.2,
      unit_length u c.args.made.now.body does.3 c.len-octets.result c.len-octets.ensures.octets,
    )

pub returns-in-Ok-clause-sent : goal.returns-in-Ok-clause-sent
returns-in-Ok-clause-sent c =
    let body : Extent = c.args.made.now.body in
    let all : length (seen body) ≡ body.len = sym c.len-octets.ensures.octets ∙ c.len-octets.ensures.len in
    on_ok_weaker c.give_pieces.result
    (λ written u does first. unit_is_sent u c.args.hop c.args.port.now c.args.made.now.head body c.len-octets.result c.new.result
    c.in-Ok.cuts c.args.out.now.items c.give_pieces.new.out.items (record { spells = does.2; shown = does.3; whole = all })
    c.len-octets.ensures.octets c.new.ensures.cut c.in-Ok.is c.requires.least first written)
    c.give_pieces.ensures.given

pub returns-in-Err-clause-sent : goal.returns-in-Err-clause-sent
returns-in-Err-clause-sent c =
    let body : Extent = c.args.made.now.body in
    let all : length (seen body) ≡ body.len = sym c.len-octets.ensures.octets ∙ c.len-octets.ensures.len in
    on_ok_weaker c.note.result
    (λ written u does first. unit_is_dropped u c.args.hop c.args.port.now c.args.made.now.head body c.len-octets.result c.new.result
    c.in-Err.field-0 c.args.out.now.items c.note.new.out.items (record { spells = does.2; shown = does.3; whole = all })
    c.len-octets.ensures.octets c.new.ensures.cut c.in-Err.is c.requires.least first written)
    c.note.ensures.noted
