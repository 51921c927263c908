use Rattle.std.proofs.Common.{◌∙◌, ◌++◌, ap, refl}
use Rattle.pdus.specs.PduHeader.Spelling.{counted}
use Rattle.pdus.specs.EsisPdus.Spelling.{title_octets}
use Rattle.pdus.proofs.EsisPdus.Made.{rd_plain}
use Rattle.pdus.proofs.esis_pdus.encoding.begun_with.Goals as goal

pub returns-in-Esh : goal.returns-in-Esh
returns-in-Esh c =
    rw c.push-in-Esh.ensures (rw c.push.ensures (rw c.begun-plain.ensures
    (rw c.in-Esh.is (rw c.parts-count.ensures.count (rw c.parts-count.ensures.octets refl)))))

pub returns-in-Ish : goal.returns-in-Ish
returns-in-Ish c = rw c.push_counted.ensures (rw c.begun-plain-in-Ish.ensures (rw c.in-Ish.is (rw c.as_bytes.ensures.octets refl)))

pub returns-in-Rd : goal.returns-in-Rd
returns-in-Rd c =
    rw c.in-Rd.is
    (rd_plain c.args.hold c.in-Rd.to c.in-Rd.via (title_octets c.in-Rd.title) _ _ _ _ _ _
    c.as_bytes-in-Rd.ensures.octets c.as_bytes-in-Rd-2.ensures.octets
    c.begun-plain-in-Rd.ensures c.push_counted-in-Rd.ensures c.push_counted-in-Rd-2.ensures
    (c.push_title.ensures.octets ∙ ap (λ title. c.push_counted-in-Rd-2.new.self ++ counted (title_octets title)) c.as_ref.ensures.value))
