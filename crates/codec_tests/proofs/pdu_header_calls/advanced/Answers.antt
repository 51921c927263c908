use Rattle.std.proofs.Common.{◌≡◌, ◌∙◌, refl, sym, List, ℕ, [], ◌∷◌}
use Rattle.std.specs.Prelude.{IsSome}
use Rattle.std.proofs.lemmas.Bool.{not-false}
use Rattle.std.proofs.lemmas.Slice.Eq.{bytes_eq-Decides}
use Rattle.pdus.specs.ClnpOptions.Parameter.{parameters, parameters_after}
use Rattle.pdus.specs.ClnpOptions.Edits.{target_of, title_at, value_of}
use Rattle.pdus.specs.PduHeader.View.{pdu_value}
use Rattle.codec_tests.proofs.pdu_header_calls.advanced.Goals as goal

-- the options of the worked header
abbrev worked_options : List ℕ
worked_options =
    0xc8 ∷ 0x07 ∷ 0x00 ∷ 0x03 ∷ 0x04 ∷ 0x47 ∷ 0x00 ∷ 0x27 ∷ 0xff ∷ 0xcb ∷ 0x07 ∷ 0x00 ∷ 0x03 ∷ 0x00 ∷ 0x00 ∷ 0x00 ∷ 0x00 ∷ 0x00 ∷ 0xc3 ∷ 0x01 ∷ 0xc0 ∷ []

worked_lead : IsSome (target_of (parameters worked_options))
unfolding target_of value_of title_at parameters_after
worked_lead = refl

pub of-header-requires : goal.of-header-requires
of-header-requires c = (pdu_value c.in-Ok.pdu, c.in-Ok.ensures.spells)

pub advance_route-requires : goal.advance_route-requires
advance_route-requires c =
    let same = sym c.ne.ensures ∙ c.if-ne.false in
    let options : c.in-Ok.pdu.options.now ≡ worked_options = (bytes_eq-Decides c.in-Ok.pdu.options.now worked_options).0 (not-false _ same) in
    (pdu_value c.in-Ok.pdu, rw c.of-header.ensures c.in-Ok.ensures.spells, rw options worked_lead)
