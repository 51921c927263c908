use Rattle.std.proofs.Common.{◌∙◌, ap}
use Rattle.std.specs.Result.{result_ok}
use Rattle.pdus.specs.PduHeader.Headers.{SpellsHeader}
use Rattle.pdus.proofs.PduHeader.EditedPdus.{target_found}
use Rattle.pdus.proofs.pdu_header.header.Header.route_target.Goals as goal

pub returns : goal.returns
returns c v h =
    let read : SpellsHeader v c.as_bytes.result.now = rw (c.as_bytes.ensures.octets, c.self.view_is) h in
    c.ok.ensures.value ∙ ap result_ok c.from_bytes.ensures.value ∙ target_found v c.as_bytes.result.now c.options_of.result.now c.in_ok-title.title.now read (c.options_of.ensures.options v read) c.in_ok-title.ensures
