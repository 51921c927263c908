-- The frames of a source that has a share are those of its class.
use Rattle.std.proofs.Common.{◌≡◌, ℕ, ◌+◌, ◌==◌, Bool, true, false, cond, ◌&&◌, List, [], ◌∷◌, Some, None, refl, sym, ap, ◌∙◌, inl, inr}
use Rattle.std.specs.Prelude.{filter, slice_get}
use Rattle.std.specs.Str.{bytes_eq}
use Rattle.std.proofs.lemmas.Bool.{cases_Bool}
use Rattle.pdus.proofs.ClnpBase.Choices.{equal_is, is_equal, same_true}
use Rattle.pdus.proofs.ClnpBase.ListSteps.{slice_get_map}
use Rattle.pdus.proofs.ClnpBase.SameOctets.{same_from, same_from_equal}
use Rattle.system_tables.specs.declared.fair_reassembly.came.Came.{Came}
use Rattle.system_tables.specs.declared.fair_reassembly.share.Share.{Share}
use Rattle.system_tables.specs.FairReassembly.Classes.{Account, Shares, accounts, is_class, is_from, is_of}
use Rattle.system_tables.specs.FairReassembly.Coming.{is_accepted, value_in}
use Rattle.system_tables.specs.FairReassembly.Tables.{AreDistinct, place_of, sources_of}
use Rattle.system_tables.proofs.FairReassembly.Alone.{alone}
use Rattle.system_tables.proofs.FairReassembly.Places.{has_it_alone, has_its_table}

filter_as : {X : Type 0} (p q : X → Bool) → ((x : X) → p x ≡ q x) → (xs : List X) → filter p xs ≡ filter q xs
filter_as p q same [] = refl
filter_as p q same (x ∷ xs) =
    let rest = filter_as p q same xs in
    elim (cases_Bool (q x)) [
      | inl t ↦ rw (same x, t) (ap (λ l. x ∷ l) rest)
      | inr f ↦ rw (same x, f) rest
    ]

by_class : (accepted : Bool) (place at : ℕ) (same : Bool) → same ≡ (at == place) → is_class place (cond accepted (Some at) None) ≡ (accepted && same)
by_class true place at same e = sym e
by_class false place at same e = refl

module _ (s : Shares) (i : ℕ) (share : Share) (distinct : AreDistinct (sources_of s.shares)) (there : slice_get s.shares i ≡ Some share) where
  here : slice_get (sources_of s.shares) i ≡ Some share.from
  here = slice_get_map (λ (x : Share). x.from) s.shares i share there

  by_source : (from : List ℕ) → bytes_eq from share.from ≡ (place_of (sources_of s.shares) from == i + 1)
  by_source from =
      same_true (bytes_eq from share.from) (place_of (sources_of s.shares) from == i + 1)
      (λ t. equal_is (place_of (sources_of s.shares) from) (i + 1)
      (ap (place_of (sources_of s.shares)) (same_from from share.from t) ∙ has_its_table (sources_of s.shares) i share.from distinct here))
      (λ t. same_from_equal from share.from
      (has_it_alone (sources_of s.shares) i share.from distinct here from (is_equal (place_of (sources_of s.shares) from) (i + 1) t)))

  pub of_its_source : (came : Came) → is_of s (i + 1) came ≡ is_from share.from came
  of_its_source came =
      by_class (is_accepted came.frame) (i + 1) (place_of (sources_of s.shares) (value_in came.frame).source)
      (bytes_eq (value_in came.frame).source share.from) (by_source (value_in came.frame).source)

  pub source_alone : (frames : List Came)
      → filter (λ account. is_from share.from account.came) (accounts s frames) ≡ accounts s (filter (is_from share.from) frames)
  source_alone frames =
      sym (filter_as (λ (account : Account). is_of s (i + 1) account.came) (λ (account : Account). is_from share.from account.came)
      (λ account. of_its_source account.came) (accounts s frames))
      ∙ alone s (i + 1) frames
      ∙ ap (accounts s) (filter_as (is_of s (i + 1)) (is_from share.from) of_its_source frames)
