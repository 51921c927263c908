-- What is done with a packet that comes: it is discarded, received, left alone, or it goes on. Whatever holds of each of these
-- holds of what is done.
use Rattle.std.proofs.Common.{◌≡◌, refl, ℕ, ◌<◌, Bool, true, false, List, [], ◌∷◌, ◌++◌, Option, None, Some, arith}
use Rattle.std.proofs.lemmas.Bool.Decides.{nat_tests}
use Rattle.std.specs.Prelude.{◌==◌, ◌&&◌, not, nat_le, is_none, slice_get, if◌then◌else◌}
use Rattle.std.specs.List.{AllByRecursion}
use Rattle.clnp_plan.specs.SystemTables.declared.esis_tables.fact.Neighbour.{Neighbour}
use Rattle.clnp_plan.specs.Pdus.declared.nsap.target.Target.TheVariants.{System}
use Rattle.clnp_plan.specs.declared.config.PortConfig.{PortConfig}
use Rattle.clnp_plan.specs.declared.config.Role.{Role}
use Rattle.clnp_plan.specs.declared.config.Role.TheVariants.{Host, Router}
use Rattle.clnp_plan.specs.declared.note.Note.TheVariants.{NotMine}
use Rattle.clnp_plan.specs.ClnpOptions.Edits.{is_complete, target_of}
use Rattle.clnp_plan.specs.ClnpOptions.Parameter.{Parameter}
use Rattle.clnp_plan.specs.SystemTables.declared.esis_tables.fact.TableKind.TheVariants.{Es}
use Rattle.clnp_plan.specs.EsisTables.NextHop.{current_neighbour}
use Rattle.clnp_machine.specs.Unit.{Packet, cut, segmentation_of}
use Rattle.clnp_machine.specs.System.{SystemState, Effect, Output, SendsEsis, gives}
use Rattle.clnp_machine.specs.Esis.{redirect}
use Rattle.clnp_machine.specs.Local.{is_own, receive, tells}
use Rattle.clnp_machine.specs.Step.{Way, begins_unit, discards, effect_of, ends_at, forwarded, goes_on, goes_on_by, goes_on_way, goes_on_with, hop_by, is_at, is_named, loss_at, no_way_to, options_behind, packet_comes, passes_by, pieces_go_on, redirects, towards, transmissions, way_of}
use Rattle.clnp_machine.specs.Told.{IsOfNoRule}
use Rattle.clnp_machine.proofs.Reasons.{path, segmentation, transit, unknown, unknown_in_route}

not_within : (a b : ℕ) → nat_le a b ≡ false → b < a
not_within a b e = grind (arith, nat_tests)

-- what is given out where a packet goes on by a way in pieces
abbrev pub going : SystemState → (came : Neighbour) → Packet → (options : List Parameter) → Way → List Packet → List Output
going s came p options way pieces = transmissions (hop_by way) (Some pieces) ++ redirects s came p options way

-- By which way a packet goes on: that which is known, by the source route that it came with, and by what is left of it.
pub record IsItsWay (s : SystemState) (p : Packet) (way : Way) : Type 0 where
  pub known : way_of s (towards p.unit.destination (target_of (options_behind s p.options))) ≡ Some way
  pub on_route : (is_complete p.options && not (is_named s (target_of p.options))) ≡ false
  pub ends :
      (is_complete (options_behind s p.options) && not (ends_at (towards p.unit.destination (target_of (options_behind s p.options))) way.title)) ≡ false

-- what holds of a packet that goes on in pieces, by a port that is there
abbrev pub Onward : (Effect → Type 0) → SystemState → Neighbour → Packet → Type 0
Onward P s came p =
    let options = options_behind s p.options in
    (way : Way) (port : PortConfig) (pieces : List Packet) → slice_get s.attached.ports way.neighbour.port ≡ Some port → loss_at port < p.lifetime
    → cut (forwarded p (loss_at port) options) port.mtu ≡ Some pieces → IsItsWay s p way
    → P (gives s (going s came p options way pieces))

-- where a redirect follows it is towards the destination
pub redirects_are : (Q : Output → Type 0) (s : SystemState) (came : Neighbour) (p : Packet) (options : List Parameter) (way : Way)
    → (is_none (target_of options) ≡ true → Q (SendsEsis came.port (System came.snpa) (redirect s p.unit.destination way.neighbour.snpa way.title)))
    → AllByRecursion Q (redirects s came p options way)
redirects_are Q s came p options way h =
    go (not (s.configuration.settings.rhold == 0)) (way.neighbour.port == came.port) (is_none (target_of options)) refl
    (begins_unit (segmentation_of p) && is_at came (current_neighbour s.moment Es p.unit.source s.facts))
  where
    go : (held there towards_it : Bool) → is_none (target_of options) ≡ towards_it → (known : Bool)
        → AllByRecursion Q
        (if held && (there && (towards_it && known)) then SendsEsis came.port (System came.snpa) (redirect s p.unit.destination way.neighbour.snpa way.title) ∷ [] else [])
    go true true true is true = (h is, tt)
    go true true true is false = tt
    go true true false is known = tt
    go true false towards_it is known = tt
    go false there towards_it is known = tt

module _ (P : Effect → Type 0) where
  one_does : (test : Bool) (first second : Effect) → (test ≡ true → P first) → (test ≡ false → P second) → P (if test then first else second)
  one_does true first second h k = h refl
  one_does false first second h k = k refl

  module _ (s : SystemState) (came : Neighbour) (p : Packet) (following : List ℕ)
      (dropped : (reason : ℕ) → IsOfNoRule reason → P (discards s p following reason)) where
    module _ (onward : Onward P s came p) where
      abbrev options : List Parameter
      options = options_behind s p.options

      pieces_do : (way : Way) (port : PortConfig) (found : Option (List Packet)) → slice_get s.attached.ports way.neighbour.port ≡ Some port
          → loss_at port < p.lifetime → cut (forwarded p (loss_at port) options) port.mtu ≡ found → IsItsWay s p way
          → P (pieces_go_on s came p following options way found)
      pieces_do way port None there alive e known = dropped _ segmentation
      pieces_do way port (Some pieces) there alive e known = onward way port pieces there alive e known

      by_port_does : (way : Way) (found : Option PortConfig) → slice_get s.attached.ports way.neighbour.port ≡ found → IsItsWay s p way
          → P (goes_on_by s came p following options way found)
      by_port_does way None e known = dropped _ unknown
      by_port_does way (Some port) e known =
          one_does (nat_le p.lifetime (loss_at port)) _ (pieces_go_on s came p following options way (cut (forwarded p (loss_at port) options) port.mtu))
          (λ over. dropped _ transit)
          (λ alive. pieces_do way port (cut (forwarded p (loss_at port) options) port.mtu) e (not_within p.lifetime (loss_at port) alive) refl known)

      no_way_does : (title : Option (List ℕ)) → P (discards s p following (no_way_to title))
      no_way_does None = dropped _ unknown
      no_way_does (Some title) = dropped _ unknown_in_route

      on_its_way_does : (is_complete p.options && not (is_named s (target_of p.options))) ≡ false → (way : Option Way)
          → way_of s (towards p.unit.destination (target_of options)) ≡ way → P (goes_on_way s came p following options way)
      on_its_way_does on_route None known = no_way_does (target_of options)
      on_its_way_does on_route (Some way) known =
          one_does (is_complete options && not (ends_at (towards p.unit.destination (target_of options)) way.title)) _
          (goes_on_by s came p following options way (slice_get s.attached.ports way.neighbour.port)) (λ off. dropped _ path)
          (λ on.
          by_port_does way (slice_get s.attached.ports way.neighbour.port) refl (record { known = known; on_route = on_route; ends = on }))

      -- a packet that a router is to send on
      pub goes_on_does : P (goes_on s came p following)
      goes_on_does =
          one_does (is_complete p.options && not (is_named s (target_of p.options))) _ (goes_on_with s came p following options) (λ off. dropped _ path)
          (λ on. on_its_way_does on (way_of s (towards p.unit.destination (target_of options))) refl)

    module _ (onward : s.configuration.role ≡ Router → Onward P s came p) (left : P (effect_of (tells s (NotMine p.unit.destination)))) where
      -- a packet for another address
      pub passing_does : (role : Role) → s.configuration.role ≡ role → P (passes_by role s came p following)
      passing_does Host is = left
      passing_does Router is = goes_on_does (onward is)

      -- whatever comes
      pub packet_does : (is_own s p.unit.destination ≡ true → P (effect_of (receive s p following))) → P (packet_comes s came p following)
      packet_does received =
          one_does (p.lifetime == 0) _ _ (λ over. dropped _ transit)
          (λ alive. one_does (is_own s p.unit.destination) (effect_of (receive s p following)) (passes_by s.configuration.role s came p following) received
          (λ other. passing_does s.configuration.role refl))
