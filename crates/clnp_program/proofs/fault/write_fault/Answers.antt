-- The three pieces stand one behind the other.
use Rattle.std.proofs.Common.{◌≡◌, ◌∙◌, ℕ, List, ◌++◌, codes, subst}
use Rattle.std.specs.Io.KnownBytes.{Appends}
use Rattle.std.proofs.KnownBytes.{Appends-trans}
use Rattle.std.proofs.lemmas.Result.{on_ok_weaker}
use Rattle.clnp_program.specs.FaultTexts.{fault_text}
use Rattle.clnp_program.specs.Texts.{behind_fault}
use Rattle.clnp_program.proofs.fault.write_fault.Goals as goal

pub returns-clause-written : goal.returns-clause-written
returns-clause-written g c =
    let before = g.K.Sink.written c.args.errors.now in
    let middle = g.K.Sink.written c.write_all.new.sink in
    let after = g.K.Sink.written c.write_pair.new.errors in
    let said = c.as_bytes.result.now in
    let text : said ≡ fault_text c.args.fault = c.as_bytes.ensures.value ∙ c.as_str.ensures.value ∙ c.text-text.ensures in
    let end : c.as_bytes-2.result.now ≡ behind_fault c.args.fault = c.as_bytes-2.ensures.value ∙ c.behind.ensures in
    on_ok_weaker c.write_pair.result
    (λ written. subst (λ (text : List ℕ). Appends before after (codes "clnp: " ++ (text ++ behind_fault c.args.fault))) text
    (subst (λ (end : List ℕ). Appends before after (codes "clnp: " ++ (said ++ end))) end
    (Appends-trans before middle after (codes "clnp: ") (said ++ c.as_bytes-2.result.now) c.in_ok-write_all.ensures.done written)))
    c.write_pair.ensures.written
