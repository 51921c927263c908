-- Whether the source of a packet that goes on is told of a better way, and what it is told.
use Rattle.std.proofs.Common.{◌≡◌, ◌∙◌, refl, sym, ap, ℕ, Bool, true, false, List, [], ◌∷◌, if◌then◌else◌, Option, None, Some}
use Rattle.std.specs.Prelude.{◌==◌, ◌&&◌, is_none, is_some, not}
use Rattle.clnp_machine.specs.ClnpOptions.Edits.{target_of}
use Rattle.clnp_machine.specs.ClnpOptions.Parameter.{Parameter}
use Rattle.clnp_machine.specs.SystemTables.declared.esis_tables.fact.Neighbour.{Neighbour}
use Rattle.clnp_machine.specs.SystemTables.declared.esis_tables.fact.TableKind.TheVariants.{Es}
use Rattle.clnp_machine.specs.EsisTables.NextHop.{current_neighbour}
use Rattle.clnp_machine.specs.Pdus.declared.nsap.target.Target.TheVariants.{System}
use Rattle.clnp_machine.specs.Esis.{redirect}
use Rattle.clnp_machine.specs.Step.{is_at, is_redirected, redirects}
use Rattle.clnp_machine.specs.declared.way.Way.{Way}
use Rattle.clnp_machine.specs.System.{Output, SendsEsis, SystemState}
use Rattle.clnp_machine.specs.Unit.{Packet, value_of}
use Rattle.clnp_systems.specs.Comes.{HasValue}
use Rattle.clnp_systems.specs.declared.passing.Passing.{Passing}

-- the tests in another grouping
grouped : (some back towards_it first there : Bool) → ((some && (back && (towards_it && first))) && there) ≡ (some && (back && (towards_it && (first && there))))
grouped true true true first there = refl
grouped true true false first there = refl
grouped true false towards_it first there = refl
grouped false back towards_it first there = refl

-- none is the other way round of some
none_where_not_some : (title : Option (List ℕ)) → not (is_some title) ≡ is_none title
none_where_not_some None = refl
none_where_not_some (Some title) = refl

module _ (s : SystemState) (came : Neighbour) (p : Packet) (options : List Parameter) (way : Way) where
  -- where the packet may call for a redirect, what is known of its source decides
  pub source_decides : (passing : Passing) (known : Option Neighbour) (holding : ℕ) (towards_title may : Bool) → HasValue passing (value_of p)
      → towards_title ≡ is_some (target_of options) → known ≡ current_neighbour s.moment Es passing.from s.facts
      → holding ≡ s.configuration.settings.rhold
      → may ≡ (not (holding == 0) && (way.neighbour.port == came.port && (not towards_title && passing.first)))
      → (may && is_at came known) ≡ is_redirected s came p options way
  source_decides passing known holding towards_title may has titled is told tested =
      let back : Bool = way.neighbour.port == came.port in
      let there : Bool = is_at came (current_neighbour s.moment Es p.unit.source s.facts) in
      ap (λ (known : Option Neighbour). may && is_at came known) is
      ∙ ap (λ (from : List ℕ). may && is_at came (current_neighbour s.moment Es from s.facts)) (sym has.source)
      ∙ ap (λ (b : Bool). b && there) tested ∙ grouped (not (holding == 0)) back (not towards_title) passing.first there
      ∙ ap (λ (b : Bool). not (holding == 0) && (back && (b && (passing.first && there))))
      (ap not titled ∙ none_where_not_some (target_of options))
      ∙ ap (λ (n : ℕ). not (n == 0) && (back && (is_none (target_of options) && (passing.first && there)))) told
      ∙ ap (λ (b : Bool). not (s.configuration.settings.rhold == 0) && (back && (is_none (target_of options) && (b && there)))) (sym has.first)

  -- what is told where it is, and where it isn't
  abbrev told_if : Bool → List Output
  told_if test =
      if test then SendsEsis came.port (System came.snpa) (redirect s p.unit.destination way.neighbour.snpa way.title) ∷ [] else []

  pub told_is : (test : Bool) → test ≡ is_redirected s came p options way → told_if test ≡ redirects s came p options way
  told_is test is = ap told_if is
