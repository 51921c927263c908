-- The options of a PDU while a router passes its own title in a source route.
use Rattle.std.proofs.Common.{◌≡◌, ◌∙◌, refl, sym, ap, subst, ℕ, zero, suc, Bool, true, false, List, [], ◌∷◌, length, if◌then◌else◌, Option, Some}
use Rattle.std.specs.Str.{bytes_eq}
use Rattle.clnp_machine.specs.ClnpOptions.Edits.{advanced, edited, recorded, target_of}
use Rattle.clnp_machine.specs.ClnpOptions.Parameter.{Parameter, recording, source_route}
use Rattle.clnp_machine.specs.PduHeader.Headers.{SpellsHeader, with_options}
use Rattle.clnp_machine.specs.PduHeader.Value.{PduValue}
use Rattle.clnp_machine.specs.ClnpPlan.Configuration.{SystemConfiguration}
use Rattle.clnp_machine.specs.Esis.{title_of}
use Rattle.clnp_machine.specs.Step.{is_named, most_titles, noting_congestion, options_behind, passing_own}
use Rattle.clnp_machine.specs.System.{SystemState, first_state}

-- A header has options from which so many more passings lead where the most lead from the options that came.
pub record IsPassing (most left : ℕ) (s : SystemState) (v : PduValue) (head : List ℕ) : Type 0 where
  pub options : List Parameter
  pub spells : SpellsHeader (with_options options v) head
  pub rest : passing_own left s options ≡ passing_own most s v.options

-- a title that the code finds at the pointer is that of the options
pub named_where_it_stands : (s : SystemState) (options : List Parameter) (title there : List ℕ) (found : Option (List ℕ)) (same : Bool)
    → title_of s ≡ title → found ≡ Some there → found ≡ target_of options → same ≡ bytes_eq there title → same ≡ is_named s (target_of options)
named_where_it_stands s options title there found same named is at told =
    told ∙ ap (λ (own : List ℕ). bytes_eq there own) (sym named) ∙ ap (is_named s) (sym is ∙ at)

-- one passing
passes_one : (s : SystemState) (left : ℕ) (options : List Parameter) → is_named s (target_of options) ≡ true
    → passing_own left s (edited source_route advanced options) ≡ passing_own (suc left) s options
passes_one s left options named =
    ap (λ (b : Bool). if b then passing_own left s (edited source_route advanced options) else options) (sym named)

-- where it isn't named nothing is passed
stays : (s : SystemState) (left : ℕ) (options : List Parameter) → is_named s (target_of options) ≡ false → options ≡ passing_own left s options
stays s zero options other = refl
stays s (suc left) options other =
    ap (λ (b : Bool). if b then passing_own left s (edited source_route advanced options) else options) (sym other)

pub begins : (most : ℕ) (s : SystemState) (v : PduValue) (head : List ℕ) → SpellsHeader v head → IsPassing most most s v head
begins most s v head h = record { options = v.options; spells = h; rest = refl }

module _ (most : ℕ) (s : SystemState) (v : PduValue) (old : List ℕ) where
  pub goes_on : (new : List ℕ) (left before : ℕ) → before ≡ suc left → (h : IsPassing most before s v old) → is_named s (target_of h.options) ≡ true
      → SpellsHeader (with_options (edited source_route advanced h.options) v) new → IsPassing most left s v new
  goes_on new left before is h named spells =
      record {
        options = edited source_route advanced h.options;
        spells = spells;
        rest = passes_one s left h.options named ∙ ap (λ (n : ℕ). passing_own n s h.options) (sym is) ∙ h.rest;
      }

  pub ends : (left : ℕ) (h : IsPassing most left s v old) → is_named s (target_of h.options) ≡ false
      → SpellsHeader (with_options (passing_own most s v.options) v) old
  ends left h other =
      subst (λ (options : List Parameter). SpellsHeader (with_options options v) old) (stays s left h.options other ∙ h.rest) h.spells

  pub ends_at_last : (left : ℕ) → left ≡ 0 → (h : IsPassing most left s v old) → SpellsHeader (with_options (passing_own most s v.options) v) old
  ends_at_last left is h =
      subst (λ (options : List Parameter). SpellsHeader (with_options options v) old)
      (sym (ap (λ (n : ℕ). passing_own n s h.options) is) ∙ h.rest) h.spells

-- ---- all of the options

-- the recording and the congestion bit follow
pub is_behind : (s : SystemState) (v : PduValue) (title : List ℕ) (congested : Bool) (head : List ℕ) → title_of s ≡ title → s.congested ≡ congested
    → SpellsHeader (with_options (noting_congestion congested (edited recording (recorded title) (passing_own most_titles s v.options))) v) head
    → SpellsHeader (with_options (options_behind s v.options) v) head
is_behind s v title congested head named noted h =
    let passed : List Parameter = passing_own most_titles s v.options in
    subst (λ (t : List ℕ). SpellsHeader (with_options (noting_congestion s.congested (edited recording (recorded t) passed)) v) head) (sym named)
    (subst (λ (b : Bool). SpellsHeader (with_options (noting_congestion b (edited recording (recorded title) passed)) v) head) (sym noted) h)

-- so the header behind a router is a header, whatever state the router stands for
pub is_header : SystemConfiguration → (title : List ℕ) (congested : Bool) (old new : List ℕ) (len : ℕ) (v : PduValue) → SpellsHeader v old
    → length v.body ≡ len
    → ((s : SystemState) (w : PduValue) → title_of s ≡ title → s.congested ≡ congested → SpellsHeader w old
    → SpellsHeader (with_options (options_behind s w.options) w) new)
    → (w : PduValue) × SpellsHeader w new × (length w.body ≡ len)
is_header configuration title congested old new len v spells count behind =
    let of_title : SystemConfiguration = record configuration { addresses = title ∷ [] } in
    let s : SystemState =
    record (first_state 0 of_title (record { age = 0; hold = 0; reuse = 0; skew = 0 }) 0 0) { congested = congested } in
    (with_options (options_behind s v.options) v, behind s v refl refl spells, count)
