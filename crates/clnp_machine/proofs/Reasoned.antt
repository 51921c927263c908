-- For which reason a packet is discarded that doesn't go on.
use Rattle.std.proofs.Common.{◌≡◌, ◌≢◌, ◌∙◌, refl, ap, ℕ, ◌<◌, ◌≤◌, Bool, true, false, List, Option, None, Some}
use Rattle.std.specs.Prelude.{◌==◌, ◌&&◌, not, nat_le, slice_get}
use Rattle.std.specs.Str.{bytes_eq}
use Rattle.std.proofs.lemmas.Bool.{and_from, cond-false, cond-true, eq-eqb, false_from_ne_true, le-leb, lt-leb, not_from_false}
use Rattle.clnp_plan.proofs.ClnpBase.SameOctets.{same-itself, same_from, same_from_equal}
use Rattle.clnp_plan.specs.ClnpOptions.Edits.{is_complete, target_of}
use Rattle.clnp_plan.specs.ClnpOptions.Parameter.{Parameter}
use Rattle.clnp_plan.specs.SystemTables.declared.esis_tables.fact.Neighbour.{Neighbour}
use Rattle.clnp_plan.specs.declared.config.PortConfig.{PortConfig}
use Rattle.clnp_plan.specs.declared.config.Role.TheVariants.{Router}
use Rattle.clnp_machine.specs.Unit.{Packet, cut}
use Rattle.clnp_machine.specs.System.{SystemState, Effect}
use Rattle.clnp_machine.specs.Esis.{title_of}
use Rattle.clnp_machine.specs.Step.{Way, discards, ends_at, forwarded, goes_on_by, goes_on_way, goes_on_with, is_named, loss_at, no_way_to, options_behind, packet_comes, passes_by, pieces_go_on, way_of}
use Rattle.clnp_machine.specs.Ways.{IsAllowedWay, IsDiscardedFor, IsOnRoute, aim_of}

not_off : (first second : Bool) → (first ≡ true → second ≡ true) → (first && not second) ≡ false
not_off true second h = ap not (h refl)
not_off false second h = refl

module _ (s : SystemState) (came : Neighbour) (p : Packet) (following : List ℕ) where
  abbrev options : List Parameter
  options = options_behind s p.options

  abbrev dropped : ℕ → Effect
  dropped reason = discards s p following reason

  pub over_at_once : p.lifetime ≡ 0 → IsDiscardedFor 0xa0 s p following (packet_comes s came p following)
  over_at_once over = cond-true (p.lifetime == 0) _ _ (eq-eqb p.lifetime 0 over)

  pub off_route : is_complete p.options ≡ true → ¬ (target_of p.options ≡ Some (title_of s))
      → IsDiscardedFor 0x93 s p following (passes_by Router s came p following)
  off_route complete other =
      let unnamed : is_named s (target_of p.options) ≡ false = go (target_of p.options) other in
      cond-true (is_complete p.options && not (is_named s (target_of p.options))) (dropped 0x93) (goes_on_with s came p following options)
      (and_from (is_complete p.options) (not (is_named s (target_of p.options))) complete (not_from_false (is_named s (target_of p.options)) unnamed))
    where
      go : (found : Option (List ℕ)) → ¬ (found ≡ Some (title_of s)) → is_named s found ≡ false
      go None not_it = refl
      go (Some title) not_it = false_from_ne_true (bytes_eq title (title_of s)) (λ e. not_it (ap Some (same_from title (title_of s) e)))

  module _ (on_route : IsOnRoute s p) where
    goes_with : passes_by Router s came p following ≡ goes_on_with s came p following options
    goes_with =
        cond-false (is_complete p.options && not (is_named s (target_of p.options))) (dropped 0x93) (goes_on_with s came p following options)
        (not_off (is_complete p.options) (is_named s (target_of p.options))
        (λ complete. ap (is_named s) (on_route complete) ∙ same-itself (title_of s)))

    by_way : (found : Option Way) → way_of s (aim_of s p) ≡ found → passes_by Router s came p following ≡ goes_on_way s came p following options found
    by_way found e = goes_with ∙ ap (goes_on_way s came p following options) e

    pub no_way_known : way_of s (aim_of s p) ≡ None → target_of options ≡ None
        → IsDiscardedFor 0x81 s p following (passes_by Router s came p following)
    no_way_known none unled = by_way None none ∙ ap (λ (title : Option (List ℕ)). dropped (no_way_to title)) unled

    pub no_way_in_route : way_of s (aim_of s p) ≡ None → (title : List ℕ) → target_of options ≡ Some title
        → IsDiscardedFor 0x92 s p following (passes_by Router s came p following)
    no_way_in_route none title led = by_way None none ∙ ap (λ (found : Option (List ℕ)). dropped (no_way_to found)) led

    module _ (way : Way) (known : way_of s (aim_of s p) ≡ Some way) where
      abbrev on_port : Option PortConfig → Effect
      on_port found = goes_on_by s came p following options way found

      pub not_next : is_complete options ≡ true → (title : List ℕ) → way.title ≡ Some title → title ≢ aim_of s p
          → IsDiscardedFor 0x93 s p following (passes_by Router s came p following)
      not_next complete title titled other =
          let elsewhere : ends_at (aim_of s p) way.title ≡ false =
          ap (ends_at (aim_of s p)) titled ∙ false_from_ne_true (bytes_eq title (aim_of s p)) (λ e. other (same_from title (aim_of s p) e)) in
          by_way (Some way) known
          ∙ cond-true (is_complete options && not (ends_at (aim_of s p) way.title)) (dropped 0x93) (on_port (slice_get s.attached.ports way.neighbour.port))
          (and_from (is_complete options) (not (ends_at (aim_of s p) way.title)) complete (not_from_false (ends_at (aim_of s p) way.title) elsewhere))

      module _ (allowed : IsAllowedWay s p way) (port : PortConfig) (there : slice_get s.attached.ports way.neighbour.port ≡ Some port) where
        ends : (title : Option (List ℕ)) → ((named : List ℕ) → title ≡ Some named → named ≡ aim_of s p) → ends_at (aim_of s p) title ≡ true
        ends None h = refl
        ends (Some title) h = same_from_equal title (aim_of s p) (h title refl)

        goes_by : passes_by Router s came p following ≡ on_port (Some port)
        goes_by =
            by_way (Some way) known
            ∙ cond-false (is_complete options && not (ends_at (aim_of s p) way.title)) (dropped 0x93) (on_port (slice_get s.attached.ports way.neighbour.port))
            (not_off (is_complete options) (ends_at (aim_of s p) way.title) (λ complete. ends way.title (allowed complete)))
            ∙ ap on_port there

        abbrev pieces : Option (List Packet)
        pieces = cut (forwarded p (loss_at port) options) port.mtu

        pub over_on_the_way : p.lifetime ≤ loss_at port → IsDiscardedFor 0xa0 s p following (passes_by Router s came p following)
        over_on_the_way over =
            goes_by
            ∙ cond-true (nat_le p.lifetime (loss_at port)) (dropped 0xa0) (pieces_go_on s came p following options way pieces)
            (le-leb p.lifetime (loss_at port) over)

        pub uncut : loss_at port < p.lifetime → pieces ≡ None → IsDiscardedFor 0x05 s p following (passes_by Router s came p following)
        uncut alive none =
            goes_by
            ∙ cond-false (nat_le p.lifetime (loss_at port)) (dropped 0xa0) (pieces_go_on s came p following options way pieces)
            (lt-leb p.lifetime (loss_at port) alive)
            ∙ ap (pieces_go_on s came p following options way) none
