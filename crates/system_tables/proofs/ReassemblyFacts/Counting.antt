-- Where the pages of units begin.
use Rattle.std.proofs.Common.{◌≡◌, ℕ, zero, suc, ◌+◌, ◌<◌, ◌≤◌, List, [], ◌∷◌, ◌++◌, length, sum, take, get_or, refl, sym, ap, ◌∙◌, arith}
use Rattle.std.specs.Prelude.{slice_set}
use Rattle.std.specs.List.{remove}
use Rattle.std.proofs.lemmas.List.{take_all, take_more, take_more_set}
use Rattle.pdus.proofs.ClnpBase.Sums.{sum-cons}
use Rattle.system_tables.specs.Reassembly.Counts.{starts_from}
use Rattle.system_tables.proofs.ReassemblyFacts.Groups.{sum_push}

pub length-starts : (start : ℕ) (counts : List ℕ) → length (starts_from start counts) ≡ length counts
length-starts start [] = refl
length-starts start (count ∷ counts) = ap suc (length-starts (start + count) counts)

pub starts_at : (start : ℕ) (counts : List ℕ) (unit d : ℕ) → unit < length counts → get_or (starts_from start counts) unit d ≡ start + sum (take unit counts)
starts_at start [] unit d within = absurd (omega arith)
starts_at start (count ∷ counts) zero d within = omega arith
starts_at start (count ∷ counts) (suc unit) d within =
    let rest = starts_at (start + count) counts unit d (omega arith) in
    let e = sum-cons count (take unit counts) in
    omega (arith, rest, e)

pub starts-push : (start : ℕ) (counts : List ℕ) (count : ℕ) → starts_from start (counts ++ count ∷ []) ≡ starts_from start counts ++ (start + sum counts) ∷ []
starts-push start [] count = (let e : start ≡ start + sum [] = omega arith in ap (λ (n : ℕ). n ∷ []) e)
starts-push start (first ∷ counts) count =
    let e = sum-cons first counts in
    let f : start + first + sum counts ≡ start + sum (first ∷ counts) = omega (arith, e) in
    ap (λ l. start ∷ l) (starts-push (start + first) counts count)
    ∙ ap (λ (n : ℕ). start ∷ (starts_from (start + first) counts ++ n ∷ [])) f

pub starts-take : (start : ℕ) (counts : List ℕ) (unit : ℕ) → take unit (starts_from start counts) ≡ starts_from start (take unit counts)
starts-take start counts zero = refl
starts-take start [] (suc unit) = refl
starts-take start (count ∷ counts) (suc unit) = ap (λ l. start ∷ l) (starts-take (start + count) counts unit)

-- the units before one begin where they began
pub starts_like : (counts others : List ℕ) (unit : ℕ) → take unit counts ≡ take unit others → take unit (starts_from 0 counts) ≡ take unit (starts_from 0 others)
starts_like counts others unit e = starts-take 0 counts unit ∙ ap (starts_from 0) e ∙ sym (starts-take 0 others unit)

pub take-remove : (counts : List ℕ) (unit : ℕ) → take unit (remove counts unit) ≡ take unit counts
take-remove [] zero = refl
take-remove [] (suc unit) = refl
take-remove (count ∷ counts) zero = refl
take-remove (count ∷ counts) (suc unit) = ap (λ l. count ∷ l) (take-remove counts unit)

pub sum_more : (counts : List ℕ) (at : ℕ) → at < length counts → sum (take (at + 1) counts) ≡ sum (take at counts) + get_or counts at 0
sum_more counts at within = ap sum (take_more counts at 0 within) ∙ sum_push (take at counts) (get_or counts at 0)

pub set_more : (counts starts : List ℕ) (at start : ℕ) → at < length counts → length starts ≡ length counts → start ≡ sum (take at counts)
    → take at starts ≡ take at (starts_from 0 counts) → take (at + 1) (slice_set starts at start) ≡ take (at + 1) (starts_from 0 counts)
set_more counts starts at start within number is before =
    let all = starts_from 0 counts in
    let long : at < length all = omega (arith, within, length-starts 0 counts) in
    let here : start ≡ get_or all at 0 = omega (arith, is, starts_at 0 counts at 0 within) in
    take_more_set starts at start (omega (arith, within, number))
    ∙ ap (λ l. l ++ start ∷ []) before
    ∙ ap (λ (n : ℕ). take at all ++ n ∷ []) here
    ∙ sym (take_more all at 0 long)

pub all_set : (counts starts : List ℕ) (at : ℕ) → length counts ≤ at → length starts ≡ length counts → take at starts ≡ take at (starts_from 0 counts)
    → starts ≡ starts_from 0 counts
all_set counts starts at all number is =
    sym (take_all at starts (omega (arith, all, number))) ∙ is ∙ take_all at (starts_from 0 counts) (omega (arith, all, length-starts 0 counts))

pub take_fewer : {X : Type 0} (xs : List X) (few more : ℕ) → few ≤ more → take few (take more xs) ≡ take few xs
take_fewer xs zero more within = refl
take_fewer [] (suc few) zero within = refl
take_fewer [] (suc few) (suc more) within = refl
take_fewer (x ∷ xs) (suc few) zero within = absurd (omega arith)
take_fewer (x ∷ xs) (suc few) (suc more) within = ap (λ l. x ∷ l) (take_fewer xs few more (omega arith))
