-- Tables without buffers, one after the other.
use Rattle.std.proofs.Common.{◌≡◌, ℕ, zero, suc, List, [], ◌∷◌, ◌++◌, length, Some, refl, ap, subst}
use Rattle.std.specs.Prelude.{slice_get, unwrap_or}
use Rattle.std.proofs.lemmas.Option.{same_Some}
use Rattle.system_tables.specs.declared.reassembly.table.TableLimits.{TableLimits}
use Rattle.system_tables.specs.Reassembly.State.{TableState}
use Rattle.std.proofs.lemmas.List.{map-append}
use Rattle.system_tables.specs.declared.fair_reassembly.share.Share.{Share}
use Rattle.system_tables.specs.FairReassembly.Behind.{StandBehind}
use Rattle.system_tables.specs.FairReassembly.Tables.{AreNew, AreOpened, FairState, IsOpened, limits_of}

pub opened-push : (limits : List TableLimits) (tables : List TableState) (last : TableLimits) (table : TableState)
    → AreOpened limits tables → IsOpened last table → AreOpened (limits ++ last ∷ []) (tables ++ table ∷ [])
opened-push [] [] last table all one = (one, tt)
opened-push [] (first ∷ tables) last table all one = absurd all
opened-push (first ∷ limits) [] last table all one = absurd all
opened-push (first ∷ limits) (here ∷ tables) last table all one = (all.0, opened-push limits tables last table all.1 one)

-- as many tables as there are numbers
pub opened-length : (limits : List TableLimits) (tables : List TableState) → AreOpened limits tables → length tables ≡ length limits
opened-length [] [] all = refl
opened-length [] (first ∷ tables) all = absurd all
opened-length (first ∷ limits) [] all = absurd all
opened-length (first ∷ limits) (here ∷ tables) all = ap suc (opened-length limits tables all.1)

-- the table at a place is opened with the numbers at that place
opened_at : (limits : List TableLimits) (tables : List TableState) (other : TableLimits) (place : ℕ) (table : TableState)
    → AreOpened limits tables → slice_get tables place ≡ Some table → IsOpened (unwrap_or (slice_get limits place) other) table
opened_at [] [] other place table all at = absurd (cc)
opened_at [] (first ∷ tables) other place table all at = absurd all
opened_at (first ∷ limits) [] other place table all at = absurd all
opened_at (first ∷ limits) (here ∷ tables) other zero table all at = subst (IsOpened first) (same_Some here table at) all.0
opened_at (first ∷ limits) (here ∷ tables) other (suc place) table all at = opened_at limits tables other place table all.1 at

-- new tables stand behind no frames
pub new_behind : (others : TableLimits) (shares : List Share) (state : FairState) → AreNew others shares state
    → StandBehind (record { others = others; shares = shares }) [] state
new_behind others shares state new = record {
  sources = new.sources;
  each = λ place table at. opened_at (limits_of others shares) state.tables others place table new.tables at;
}

-- the numbers of the tables of one share more
pub limits-push : (others : TableLimits) (shares : List Share) (share : Share)
    → limits_of others (shares ++ share ∷ []) ≡ limits_of others shares ++ share.limits ∷ []
limits-push others shares share =
    ap (λ (l : List TableLimits). others ∷ l) (map-append (λ (s : Share). s.limits) shares (share ∷ []))
