-- The packets into which one is cut are together all of it.
use Rattle.std.proofs.Common.{◌≡◌, ◌≢◌, ◌∙◌, refl, ap, subst, ℕ, ◌+◌, ◌-◌, ◌<◌, ◌≤◌, Bool, true, false, Option, None, Some, List, [], ◌∷◌, map, length, drop, nat_le, option_map, if◌then◌else◌, arith}
use Rattle.std.proofs.lemmas.Bool.{leb-false}
use Rattle.std.proofs.lemmas.Bool.Decides.{nat_tests}
use Rattle.std.proofs.lemmas.List.{length-take}
use Rattle.std.proofs.lemmas.Option.{same_Some}
use Rattle.clnp_plan.proofs.ClnpBase.Lists.{AllByRecursion-map_any}
use Rattle.clnp_plan.specs.ClnpOptions.Edits.{HaveOneForm}
use Rattle.clnp_plan.specs.PduHeader.Spelling.{header_length}
use Rattle.pdus.specs.MadePdus.Cut.{data_room, ranges}
use Rattle.pdus.specs.MadePdus.Range.{Partition, Range, Tiles, holders}
use Rattle.pdus.proofs.MadePdus.Quotients.{ranges_tile, room_fits}
use Rattle.pdus.proofs.MadePdus.Tiles.{between, holders_tiles, tiles_at}
use Rattle.clnp_machine.specs.Unit.{Packet, IsCarriable, cut, piece_of, pieces, value_of, value_with, wire}
use Rattle.clnp_machine.specs.System.{SystemState}
use Rattle.clnp_machine.specs.Step.{forwarded, options_behind}
use Rattle.clnp_machine.specs.EditLaws.{EditLaws}
use Rattle.clnp_machine.specs.Whereabouts.{AreAllOf, range_of}
use Rattle.clnp_machine.proofs.Behind.{behind_form, header_behind}
use Rattle.clnp_machine.proofs.Headers.{header_length-is}
use Rattle.clnp_machine.proofs.Pieces.{length-wire}

-- Ranges that stand one behind another.

one_holds : (place from len : ℕ) → (if between place from (from + len) then 1 else 0) ≡ holders place (record { from = from; len = len } ∷ [])
one_holds place from len = grind (arith, nat_tests)

tiles_are_all : (given : List Range) (from len : ℕ) → Tiles from given (from + len) → Partition given (record { from = from; len = len })
tiles_are_all given from len h place = holders_tiles place given from (from + len) h ∙ one_holds place from len

-- they are some where there is a place between
tiles_are_some : (given : List Range) (start end : ℕ) → Tiles start given end → start < end → given ≢ []
tiles_are_some [] start end h some = absurd (omega arith)
tiles_are_some (range ∷ others) start end h some = λ e. cc

mapped_are_some : {X Y : Type 0} (f : X → Y) (xs : List X) → xs ≢ [] → map f xs ≢ []
mapped_are_some f [] some = absurd (some refl)
mapped_are_some f (x ∷ xs) some = λ e. cc

module _ (p : Packet) where
  moved_tile : (given : List Range) (start end : ℕ) → Tiles start given end
      → Tiles (p.offset + start) (map range_of (map (piece_of p) given)) (p.offset + end)
  moved_tile [] start end h = ap (λ (n : ℕ). p.offset + n) h
  moved_tile (range ∷ others) start end h =
      let on : ℕ = p.offset + start + range.len in (
        ap (λ (n : ℕ). p.offset + n) h.0,
        tiles_at (map range_of (map (piece_of p) others)) (p.offset + (start + range.len)) on (p.offset + end) (p.offset + end) (omega arith) refl
            (moved_tile others (start + range.len) end h.1),
      )

  itself_is_all : AreAllOf p (p ∷ [])
  itself_is_all = record { some = λ e. cc; once = λ place. refl; in_order = (refl, refl); unit = (refl, tt) }

  -- a packet that doesn't fit has data
  has_data : (mtu : ℕ) → header_length (value_of p) ≤ 254 → 512 ≤ mtu → nat_le (length (wire p)) mtu ≡ false → 0 < p.length
  has_data mtu few wide e =
      let long = leb-false (length (wire p)) mtu e in
      let size = length-wire p in
      let body = length-take p.length (drop (p.offset - p.unit.first_position) p.unit.octets) in
      omega arith

  pieces_are_all : (mtu : ℕ) → header_length (value_of p) ≤ 254 → 512 ≤ mtu → 0 < p.length → AreAllOf p (pieces p mtu)
  pieces_are_all mtu few wide long =
      let room : ℕ = data_room (header_length (value_of p)) mtu in
      let given : List Range = ranges room p.length in
      let fits = room_fits (header_length (value_of p)) mtu few wide in
      let tiles : Tiles 0 given p.length = ranges_tile room p.length (omega arith) in
      let moved : Tiles p.offset (map range_of (map (piece_of p) given)) (p.offset + p.length) =
      tiles_at (map range_of (map (piece_of p) given)) (p.offset + 0) p.offset (p.offset + p.length) (p.offset + p.length) (omega arith) refl
      (moved_tile given 0 p.length tiles) in
      record {
        some = mapped_are_some (piece_of p) given (tiles_are_some given 0 p.length tiles long);
        once = tiles_are_all (map range_of (map (piece_of p) given)) p.offset p.length moved;
        in_order = moved;
        unit = AllByRecursion-map_any (λ (piece : Packet). piece.unit ≡ p.unit) (piece_of p) given (λ range. refl);
      }

  pub cut_is_all : (mtu : ℕ) (given : List Packet) → header_length (value_of p) ≤ 254 → 512 ≤ mtu → cut p mtu ≡ Some given → AreAllOf p given
  cut_is_all mtu given few wide gives = go (nat_le (length (wire p)) mtu) p.unit.identifier refl gives
    where
      go : (one : Bool) (identifier : Option ℕ) → nat_le (length (wire p)) mtu ≡ one
          → (if one then Some (p ∷ []) else option_map (λ i. pieces p mtu) identifier) ≡ Some given → AreAllOf p given
      go true identifier e is = subst (AreAllOf p) (same_Some (p ∷ []) given is) itself_is_all
      go false None e is = absurd (cc)
      go false (Some identifier) e is =
          subst (AreAllOf p) (same_Some (pieces p mtu) given is) (pieces_are_all mtu few wide (has_data mtu few wide e))

-- What goes on is all of what came.

module _ (laws : EditLaws) (s : SystemState) (p : Packet) (loss : ℕ) (h : IsCarriable p) where
  abbrev onward : Packet
  onward = forwarded p loss (options_behind s p.options)

  header_onward : header_length (value_of onward) ≤ 254
  header_onward =
      let form : HaveOneForm (options_behind s p.options) p.options = behind_form laws s p.options h.pdu.options in
      let same = header_behind laws s p loss (options_behind s p.options) form in
      let new = header_length-is (value_of onward) in
      let new_without = header_length-is (value_with onward false) in
      let old = header_length-is (value_of p) in
      let old_without = header_length-is (value_with p false) in
      let fits = h.pdu.header_fits in
      omega arith

  pub onward_is_all : (mtu : ℕ) (given : List Packet) → 512 ≤ mtu → cut onward mtu ≡ Some given → AreAllOf p given
  onward_is_all mtu given wide gives =
      let all = cut_is_all onward mtu given header_onward wide gives in
      record { some = all.some; once = all.once; in_order = all.in_order; unit = all.unit }
