-- Identifiers that a system draws for the units that it makes: they stay sound, and the units rest.
use Rattle.clnp_machine.proofs.ClnpBase.Lists.{AllByRecursion-contains}
use Rattle.std.proofs.Common.{◌≡◌, ◌∙◌, ◌≤◌, ◌⊎◌, sym, ap, subst, ℕ, inl, inr, List, [], ◌∷◌, ◌++◌, get_or, None, Some, Contains, append_assoc, arith}
use Rattle.std.specs.List.{AllByRecursion}
use Rattle.std.proofs.lemmas.List.{append-nil}
use Rattle.std.proofs.lemmas.List.Elements.{Contains-append_cases, Contains-get_or, Contains-push_cases}
use Rattle.std.proofs.lemmas.List.Quantifiers.{all_pairs_push}
use Rattle.std.proofs.lemmas.Option.{none-some}
use Rattle.clnp_machine.specs.Identifiers.{Identifiers, after_use, next, not_drawn}
use Rattle.clnp_machine.specs.Unit.{DataUnit, DeclaredAt}
use Rattle.clnp_machine.specs.ClnpNetwork.Safe.{Rests}
use Rattle.clnp_safety.specs.Invariant.{AreUsesUntil, EachRests, IsAccounted}
use Rattle.clnp_safety.proofs.Uses.{accounted_later, made_long_ago, used_before, used_now, uses_after, uses_later}

-- a unit that can't be segmented has no identifier
abbrev pub IsWhole : DataUnit → Type 0
IsWhole u = u.identifier ≡ None

pub whole_rest : (reuse : ℕ) (units made : List DataUnit) → AllByRecursion IsWhole made → EachRests reuse units → EachRests reuse (units ++ made)
whole_rest reuse units [] are rest = subst (EachRests reuse) (sym (append-nil units)) rest
whole_rest reuse units (u ∷ made) are rest =
    subst (EachRests reuse) (append_assoc units (u ∷ []) made)
    (whole_rest reuse (units ++ u ∷ []) made are.1
    (all_pairs_push (Rests reuse) units u rest
    (λ k d within maker identifier first second. absurd (none-some identifier (sym are.0 ∙ second)))))

-- no identifier is drawn, and none of the units has one
pub record DrawsNone (before after : Identifiers) (units : List DataUnit) : Type 0 where
  pub identifiers : after ≡ before
  pub whole : AllByRecursion IsWhole units

-- the next identifier is drawn at a moment, as it may be, for the one unit
pub record DrawsOne (now : ℕ) (before after : Identifiers) (units : List DataUnit) : Type 0 where
  pub made : DataUnit
  pub only : units ≡ made ∷ []
  pub identified : made.identifier ≡ Some (next before)
  pub idle : not_drawn now before ≡ None
  pub identifiers : after ≡ after_use now before

abbrev pub Draws : (now : ℕ) (before after : Identifiers) (units : List DataUnit) → Type 0
Draws now before after units = DrawsNone before after units ⊎ DrawsOne now before after units

-- the system at a place made the unit at a moment
pub record IsMadeNow (now place : ℕ) (u : DataUnit) : Type 0 where
  pub maker : u.maker ≡ DeclaredAt place
  pub made : u.made ≡ now

-- What holds until a moment of the identifiers of the system at a place, beside the units that were made.
pub record AreSound (reuse now place : ℕ) (units : List DataUnit) (ids : Identifiers) : Type 0 where
  pub reuse_is : ids.reuse ≡ reuse
  pub uses : AreUsesUntil now ids.uses
  pub accounted : (u : DataUnit) → Contains units u → u.maker ≡ DeclaredAt place → IsAccounted now ids u

-- At a later moment the system makes units.
module _ (reuse before now place : ℕ) (units : List DataUnit) (ids : Identifiers) (later : before ≤ now) (sound : AreSound reuse before place units ids) where
  uses_now : AreUsesUntil now ids.uses
  uses_now = uses_later before now ids.uses later sound.uses

  accounted_now : (u : DataUnit) → Contains units u → u.maker ≡ DeclaredAt place → IsAccounted now ids u
  accounted_now u has maker = accounted_later before now ids u later (sound.accounted u has maker)

  none_drawn : (after : Identifiers) (made : List DataUnit) → AllByRecursion (IsMadeNow now place) made → DrawsNone ids after made
      → AreSound reuse now place (units ++ made) after
  none_drawn after made new none = record {
    reuse_is = ap (λ (i : Identifiers). i.reuse) none.identifiers ∙ sound.reuse_is;
    uses = subst (λ (i : Identifiers). AreUsesUntil now i.uses) (sym none.identifiers) uses_now;
    accounted = λ u has maker. elim (Contains-append_cases units made u has) [
      | inl there ↦ subst (λ i. IsAccounted now i u) (sym none.identifiers) (accounted_now u there maker)
      | inr here ↦ record {
        made = let at = (AllByRecursion-contains (IsMadeNow now place) made u here new).made in omega arith;
        used = λ identifier identified. absurd (none-some identifier (sym (AllByRecursion-contains IsWhole made u here none.whole) ∙ identified));
      }
    ];
  }

  module _ (u : DataUnit) (new : IsMadeNow now place u) (identified : u.identifier ≡ Some (next ids)) (idle : not_drawn now ids ≡ None) where
    one_drawn : AreSound reuse now place (units ++ u ∷ []) (after_use now ids)
    one_drawn = record {
      reuse_is = sound.reuse_is;
      uses = uses_after now ids uses_now;
      accounted = λ v has maker. elim (Contains-push_cases units u v has) [
        | inl there ↦ (let was = accounted_now v there maker in record { made = was.made; used = used_before now ids v was.used })
        | inr same ↦
            subst (IsAccounted now (after_use now ids)) same
            (record { made = let at = new.made in omega arith; used = used_now now ids u identified new.made })
      ];
    }

    -- a unit of its maker with its identifier was made long before
    rests_before : (v : DataUnit) → Contains units v → Rests reuse v u
    rests_before v has maker identifier id_v id_u =
        let was = accounted_now v has (maker ∙ new.maker) in
        let long_ago = made_long_ago now ids v uses_now was.used (id_v ∙ sym id_u ∙ identified) idle in
        let reuse_is = sound.reuse_is in
        let at = new.made in
        omega arith

  module _ (after : Identifiers) (made : List DataUnit) (new : AllByRecursion (IsMadeNow now place) made) where
    pub sound_after : Draws now ids after made → AreSound reuse now place (units ++ made) after
    sound_after (inl none) = none_drawn after made new none
    sound_after (inr one) =
        let is = (subst (AllByRecursion (IsMadeNow now place)) one.only new).0 in
        subst (AreSound reuse now place (units ++ made)) (sym one.identifiers)
        (subst (λ us. AreSound reuse now place (units ++ us) (after_use now ids)) (sym one.only) (one_drawn one.made is one.identified one.idle))

    pub rest_after : EachRests reuse units → Draws now ids after made → EachRests reuse (units ++ made)
    rest_after rest (inl none) = whole_rest reuse units made none.whole rest
    rest_after rest (inr one) =
        let is = (subst (AllByRecursion (IsMadeNow now place)) one.only new).0 in
        subst (λ us. EachRests reuse (units ++ us)) (sym one.only)
        (all_pairs_push (Rests reuse) units one.made rest
        (λ k d within. rests_before one.made is one.identified one.idle (get_or units k d) (Contains-get_or units k d within)))
