use Rattle.std.proofs.Common.{◌≡◌, ◌∙◌, ap, refl, false, []}
use Rattle.pdus.specs.ClnpOptions.Parameter.{parameters}
use Rattle.pdus.specs.ClnpOptions.Rules.{place_of}
use Rattle.codec_tests.proofs.pdu_header_calls.plain.Goals as goal

pub returns : goal.returns
unfolding place_of
returns c body_len =
    let none : parameters c.new.result ≡ [] = ap parameters c.new.ensures ∙ c.spelled_options_read_back.ensures.none in
    record { segment = refl; reason = rw none ((c.reasons_stand_in_reports.ensures false []).0 refl) }
