-- The pieces of a PDU that were given out, one after another.
use Rattle.std.proofs.Common.{◌≡◌, ◌∙◌, sym, ap, refl, ◌+◌, ◌≤◌, arith, Bool, ℕ, List, [], ◌∷◌, ◌++◌, length, map, take, drop, append_assoc}
use Rattle.std.specs.Prelude.{OnErr, OnOk}
use Rattle.std.specs.declared.result.Result.{Result}
use Rattle.std.specs.declared.result.Result.TheVariants.{Err, Ok}
use Rattle.std.proofs.lemmas.List.{map-append, take_all, take_at}
use Rattle.clnp_machine.specs.ClnpViews.Extent.{Extent, seen}
use Rattle.clnp_machine.specs.Pdus.declared.made_pdus.cuts.Cut.{Cut}
use Rattle.clnp_machine.specs.ClnpPlan.declared.output.Output.{Output}
use Rattle.clnp_machine.specs.ClnpPlan.declared.output.Output.TheVariants.{Transmit}
use Rattle.clnp_machine.specs.ClnpPlan.declared.output.Sending.{Sending}
use Rattle.clnp_machine.specs.declared.way.Hop.{Hop}
use Rattle.clnp_systems.specs.Sending.{transmission}
use Rattle.clnp_systems.proofs.Sent.{seen_of_part}

-- what is given out for a header and data
abbrev pub sent_with : (forwarded : Bool) → Hop → (head octets : List ℕ) → Output
sent_with forwarded hop head octets =
    Transmit (let s : Sending = record { port = hop.port; to = hop.target; frame = head ++ octets; forwarded = forwarded } in s)

pub piece_is : (forwarded : Bool) (hop : Hop) (body : Extent) (cut : Cut) (octets : List ℕ) → cut.from + cut.len ≤ body.len
    → octets ≡ take cut.len (drop cut.from (seen body)) → sent_with forwarded hop cut.head octets ≡ transmission forwarded hop body cut
piece_is forwarded hop body cut octets within same =
    ap (λ (xs : List ℕ). sent_with forwarded hop cut.head xs) (same ∙ sym (seen_of_part body cut.from cut.len within))

-- one piece more
pub given_more : (forwarded : Bool) (hop : Hop) (body : Extent) (before mid after : List Output) (done : List Cut) (cut : Cut) (octets : List ℕ)
    → mid ≡ before ++ map (transmission forwarded hop body) done → cut.from + cut.len ≤ body.len
    → octets ≡ take cut.len (drop cut.from (seen body)) → after ≡ mid ++ sent_with forwarded hop cut.head octets ∷ []
    → after ≡ before ++ map (transmission forwarded hop body) (done ++ cut ∷ [])
given_more forwarded hop body before mid after done cut octets given within same appended =
    appended
    ∙ ap (λ (xs : List Output). xs ++ sent_with forwarded hop cut.head octets ∷ []) given
    ∙ ap (λ (x : Output). (before ++ map (transmission forwarded hop body) done) ++ x ∷ []) (piece_is forwarded hop body cut octets within same)
    ∙ append_assoc before (map (transmission forwarded hop body) done) (transmission forwarded hop body cut ∷ [])
    ∙ ap (λ (xs : List Output). before ++ xs) (sym (map-append (transmission forwarded hop body) done (cut ∷ [])))

-- what was given out before stays in front, whether more could be given out or not
pub front_stays : {T E : Type 0} (result : Result T E) (before after more : List Output) → OnOk result (after ≡ before ++ more)
    → OnErr result (after ≡ before) → take (length before) after ≡ before
front_stays (Ok _) before after more given none = ap (λ (xs : List Output). take (length before) xs) given ∙ take_at before more (length before) refl
front_stays (Err _) before after more given none = ap (λ (xs : List Output). take (length before) xs) none ∙ take_all (length before) before (omega (arith))
