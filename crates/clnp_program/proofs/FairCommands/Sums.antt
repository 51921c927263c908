-- Sums over the tables of some shares, where there is one share more.
use Rattle.std.proofs.Common.{◌≡◌, ℕ, ◌+◌, ◌<◌, List, [], ◌∷◌, ◌++◌, length, map, sum, take, get_or, sym, ap, ◌∙◌}
use Rattle.std.proofs.lemmas.List.{take_more}
use Rattle.scenario.proofs.ClnpBase.Sums.{sum_push}
use Rattle.system_tables.specs.declared.reassembly.table.TableLimits.{TableLimits}
use Rattle.system_tables.specs.declared.fair_reassembly.share.Share.{Share}
use Rattle.system_tables.specs.FairReassembly.Tables.{limits_of}
use Rattle.system_tables.proofs.FairReassembly.Opened.{limits-push}

pub sum_more : (f : TableLimits → ℕ) (others : TableLimits) (shares : List Share) (i : ℕ) (share : Share) → i < length shares
    → share ≡ get_or shares i share
    → sum (map f (limits_of others (take (i + 1) shares))) ≡ sum (map f (limits_of others (take i shares))) + f share.limits
sum_more f others shares i share within read =
    let front : take (i + 1) shares ≡ take i shares ++ share ∷ [] = take_more shares i share within ∙ ap (λ (s : Share). take i shares ++ s ∷ []) (sym read) in
    ap (λ (l : List Share). sum (map f (limits_of others l))) front
    ∙ ap (λ (l : List TableLimits). sum (map f l)) (limits-push others (take i shares) share)
    ∙ sum_push f (limits_of others (take i shares)) share.limits
