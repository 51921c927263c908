use Rattle.std.proofs.Common.{◌≡◌, ◌++◌, ◌∙◌, ap, drop, length, refl, sym, take}
use Rattle.std.proofs.lemmas.Bool.{true≢false}
use Rattle.std.proofs.lemmas.Bool.Decides.{Decides-eqb}
use Rattle.std.proofs.lemmas.List.{drop_at, take-append-drop, take_at}
use Rattle.std.proofs.lemmas.Slice.Eq.{bytes_eq-Decides, slice_eq-Decides}
use Rattle.pdus.proofs.MadePdus.Requests.{one_test}
use Rattle.pdus.proofs.made_pdus.echo_matching.is_joined.Goals as goal

pub returns-then-eq-clause-same : goal.returns-then-eq-clause-same
returns-then-eq-clause-same c =
    let front = c.args.front.now in
    let octets = c.args.octets.now in
    let first = (slice_eq-Decides Decides-eqb _ _ _ c.eq.ensures).0 c.if-eq.true in
    let second = slice_eq-Decides Decides-eqb _ _ _ c.eq-then-eq.ensures in (
      λ t. sym (take-append-drop (length front) octets)
          ∙ ap (λ xs. xs ++ drop (length front) octets) (sym c.split_at.ensures.front ∙ first)
          ∙ ap (λ xs. front ++ xs) (sym c.split_at.ensures.back ∙ second.0 t),
      λ same. second.1 (c.split_at.ensures.back ∙ ap (λ xs. drop (length front) xs) same ∙ drop_at front c.args.behind.now (length front) refl),
    )

pub returns-else-eq-clause-same : goal.returns-else-eq-clause-same
returns-else-eq-clause-same c =
    let front = c.args.front.now in
    let first = slice_eq-Decides Decides-eqb _ _ _ c.eq.ensures in (
      λ t. absurd (true≢false (sym t ∙ c.if-eq.false)),
      λ same. first.1 (c.split_at.ensures.front ∙ ap (λ xs. take (length front) xs) same ∙ take_at front c.args.behind.now (length front) refl),
    )

pub returns-then-eq-clause-test : goal.returns-then-eq-clause-test
returns-then-eq-clause-test c =
    one_test _ _ (c.args.octets.now ≡ c.args.front.now ++ c.args.behind.now) (returns-then-eq-clause-same c)
    (bytes_eq-Decides c.args.octets.now (c.args.front.now ++ c.args.behind.now))

pub returns-else-eq-clause-test : goal.returns-else-eq-clause-test
returns-else-eq-clause-test c =
    one_test _ _ (c.args.octets.now ≡ c.args.front.now ++ c.args.behind.now) (returns-else-eq-clause-same c)
    (bytes_eq-Decides c.args.octets.now (c.args.front.now ++ c.args.behind.now))
