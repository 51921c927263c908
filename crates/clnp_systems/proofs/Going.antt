-- How a packet goes on: its way, its port, its pieces.
use Rattle.std.proofs.Common.{◌≡◌, ◌∙◌, refl, sym, ap, subst, ℕ, ◌+◌, ◌-◌, ◌≤◌, Bool, true, false, Option, None, Some, Ok, Err, inr, List, [], ◌∷◌, ◌++◌, map, length, take, drop, if◌then◌else◌, arith, append_assoc}
use Rattle.std.specs.Prelude.{Result, ◌&&◌, not, is_some, nat_le, slice_get}
use Rattle.std.proofs.Math.Seq.{drop-append_seam, take-append_seam}
use Rattle.clnp_machine.specs.SystemTables.declared.esis_tables.fact.Neighbour.{Neighbour}
use Rattle.clnp_machine.specs.ClnpOptions.Reasons.{reason_code}
use Rattle.clnp_machine.specs.Pdus.declared.clnp_options.reasons.Reason.TheVariants.{LifetimeExpiredInTransit, PathNotAcceptable, SegmentationNotPermitted}
use Rattle.clnp_machine.specs.ClnpOptions.Edits.{is_complete, target_of}
use Rattle.clnp_machine.specs.ClnpOptions.Parameter.{Parameter}
use Rattle.clnp_machine.specs.ClnpViews.Extent.{Extent, part, seen, whole}
use Rattle.clnp_machine.specs.PduHeader.Headers.{SpellsHeader, with_lifetime, with_options}
use Rattle.clnp_machine.specs.PduHeader.Spelling.{header, segment_length}
use Rattle.clnp_machine.specs.PduHeader.Value.{PduValue}
use Rattle.clnp_machine.specs.Pdus.declared.made_pdus.cuts.Cut.{Cut}
use Rattle.clnp_machine.specs.Pdus.declared.made_pdus.cuts.NotPermitted.{NotPermitted}
use Rattle.clnp_machine.specs.MadePdus.Cut as segmenter
use Rattle.clnp_machine.specs.MadePdus.Cut.{Piece, given}
use Rattle.clnp_machine.specs.ClnpPlan.declared.config.PortConfig.{PortConfig}
use Rattle.clnp_machine.specs.Content.{Labelled}
use Rattle.clnp_machine.specs.Given.{GiveAll, IsSentOnFor}
use Rattle.clnp_machine.specs.Step.{discards, ends_at, forwarded, goes_on, goes_on_by, goes_on_way, goes_on_with, hop_by, is_named, loss_at, no_way_to, options_behind, pieces_go_on, redirects, towards, transmissions, way_of}
use Rattle.clnp_machine.specs.declared.way.Hop.{Hop}
use Rattle.clnp_machine.specs.declared.way.Way.{Way}
use Rattle.clnp_machine.specs.System.{Effect, Output, SystemState, Transmits}
use Rattle.clnp_machine.specs.Unit.{IsCarriable, Packet, cut, value_of}
use Rattle.clnp_machine.proofs.Pieces.{AreBoth, AreThese, IsThis, cut_both}
use Rattle.clnp_systems.specs.Sending.{piece_frame, transmission}
use Rattle.clnp_systems.proofs.Sent.{CutsSay, IsAnswer, piece_octets}
use Rattle.clnp_systems.specs.Comes.{HasValue}
use Rattle.clnp_systems.specs.declared.passing.Passing.{Passing}
use Rattle.clnp_systems.specs.Router.Onward.{GoesOn, life_left}
use Rattle.clnp_systems.specs.declared.onward.Onward.{Onward}
pub use Rattle.clnp_machine.proofs.Given.{appends_whatever_came, appends_both, appends_none}

-- ---- the way, and its port

-- the source route is complete and names another system here
pub off_route : (s : SystemState) (came : Neighbour) (p : Packet) (following : List ℕ) (test : Bool) → test ≡ true
    → test ≡ (is_complete p.options && not (is_named s (target_of p.options)))
    → goes_on s came p following ≡ discards s p following (reason_code PathNotAcceptable)
off_route s came p following test off is =
    ap (λ (b : Bool). if b then discards s p following (reason_code PathNotAcceptable)
    else goes_on_with s came p following (options_behind s p.options)) (sym is ∙ off)

-- or it goes on with the options behind the router
pub on_route : (s : SystemState) (came : Neighbour) (p : Packet) (following : List ℕ) (test : Bool) → test ≡ false
    → test ≡ (is_complete p.options && not (is_named s (target_of p.options)))
    → goes_on_with s came p following (options_behind s p.options) ≡ goes_on s came p following
on_route s came p following test on is =
    ap (λ (b : Bool). if b then discards s p following (reason_code PathNotAcceptable)
    else goes_on_with s came p following (options_behind s p.options)) (sym on ∙ is)

-- it is sent towards the title, or towards its destination
pub whither_is : (p : Packet) (options : List Parameter) (passing : Passing) → HasValue passing (value_of p)
    → towards passing.to (target_of options) ≡ towards p.unit.destination (target_of options)
whither_is p options passing has = ap (λ (to : List ℕ). towards to (target_of options)) (sym has.destination)

module _ (s : SystemState) (came : Neighbour) (p : Packet) (following : List ℕ) (options : List Parameter) (to : List ℕ)
    (towards_it : to ≡ towards p.unit.destination (target_of options)) where
  abbrev whither : List ℕ
  whither = towards p.unit.destination (target_of options)

  abbrev on_its_way : Option Way → Effect
  on_its_way way = goes_on_way s came p following options way

  -- the way that the code finds
  way_is : (found : Option Way) → found ≡ way_of s to → on_its_way found ≡ goes_on_with s came p following options
  way_is found is = ap on_its_way (is ∙ ap (λ (there : List ℕ). way_of s there) towards_it)

  -- no way is known
  pub no_way : (found : Option Way) (reason : ℕ) → found ≡ None → found ≡ way_of s to → reason ≡ no_way_to (target_of options)
      → goes_on_with s came p following options ≡ discards s p following reason
  no_way found reason none is why =
      sym (way_is found is) ∙ ap (λ (o : Option Way). on_its_way o) none
      ∙ ap (λ (n : ℕ). discards s p following n) (sym why)

  module _ (found : Option Way) (way : Way) (some : found ≡ Some way) (is : found ≡ way_of s to) where
    abbrev by_test : Bool → Effect
    by_test off =
        if off then discards s p following (reason_code PathNotAcceptable)
        else goes_on_by s came p following options way (slice_get s.attached.ports way.neighbour.port)

    by_way : by_test (is_complete options && not (ends_at whither way.title)) ≡ goes_on_with s came p following options
    by_way = ap (λ (o : Option Way). on_its_way o) (sym some) ∙ way_is found is

    module _ (barred : Bool) (decided : barred ≡ (is_complete options && not (ends_at to way.title))) where
      tested : barred ≡ (is_complete options && not (ends_at whither way.title))
      tested = decided ∙ ap (λ (a : List ℕ). is_complete options && not (ends_at a way.title)) towards_it

      -- it is that of another system than a complete source route allows
      pub by_another : barred ≡ true → goes_on_with s came p following options ≡ discards s p following (reason_code PathNotAcceptable)
      by_another off = sym by_way ∙ ap by_test (sym tested ∙ off)

      -- it is by this port, if it is there
      pub by_its_port : (ports : List PortConfig) (port : Option PortConfig) → barred ≡ false → ports ≡ s.attached.ports
          → slice_get ports way.neighbour.port ≡ port
          → goes_on_by s came p following options way port ≡ goes_on_with s came p following options
      by_its_port ports port on same at =
          ap (λ (o : Option PortConfig). goes_on_by s came p following options way o) (sym at)
          ∙ ap (λ (ps : List PortConfig). goes_on_by s came p following options way (slice_get ps way.neighbour.port)) same
          ∙ ap by_test (sym on ∙ tested) ∙ by_way

-- ---- the lifetime

-- a lifetime that is left isn't over, and it is lower by the loss
left_is : (over : Bool) (lower life : ℕ) → (if over then None else Some lower) ≡ Some life → (over ≡ false) × (lower ≡ life)
left_is true lower life e = absurd (cc)
left_is false lower life e = (refl, cc)

none_is : (over : Bool) (lower : ℕ) → (let none : Option ℕ = None in if over then none else Some lower) ≡ None → over ≡ true
none_is true lower e = refl
none_is false lower e = absurd (cc)

-- ---- the pieces

module _ (came : Packet) (following : List ℕ) (q : Packet) (unit : q.unit ≡ came.unit) (body : Extent) (hop : Hop)
    (shown : seen body ≡ (value_of q).body) (count : length (seen body) ≡ body.len) where
  piece_goes : (piece : Piece) (packet : Packet) → IsThis q piece packet
      → IsSentOnFor (Labelled came following) (piece_frame true hop body (given piece)) hop.port hop.target packet
  piece_goes piece packet this =
      record {
        port_is = refl;
        target_is = refl;
        octets = piece_octets q piece packet body true hop this shown count;
        forwarded = refl;
        carriable = this.carriable;
        unit = sym (this.unit_is ∙ unit);
      }

  pieces_go : (moment : ℕ) (pieces : List Piece) (packets : List Packet) → AreThese q pieces packets
      → GiveAll moment (Some (Labelled came following)) (map (transmission true hop body) (map given pieces))
      (map (λ packet. Transmits hop.port hop.target packet) packets)
  pieces_go moment [] [] these = tt
  pieces_go moment (piece ∷ others) (packet ∷ packets) these = (inr (piece_goes piece packet these.0), pieces_go moment others packets these.1)
  pieces_go moment [] (packet ∷ packets) these = absurd these
  pieces_go moment (piece ∷ others) [] these = absurd these

-- where these pieces of it are given out, and the redirect that may follow them, nothing else is done
pub record PiecesGo (way : Way) (cuts : List Cut) (s : SystemState) (came : Neighbour) (p : Packet) (following : List ℕ) (effect : Effect) : Type 0 where
  pub after : effect.after ≡ s
  pub pieces : List Output
  pub outputs : effect.outputs ≡ pieces ++ redirects s came p (options_behind s p.options) way
  pub given : (body : Extent) → seen body ≡ (value_of p).body → length (seen body) ≡ body.len
      → GiveAll s.moment (Some (Labelled p following)) (map (transmission true (hop_by way) body) cuts) pieces

module _ (s : SystemState) (came : Neighbour) (p : Packet) (following : List ℕ) (way : Way) (q : Packet) (unit : q.unit ≡ p.unit)
    (same : (value_of q).body ≡ (value_of p).body) (octets : ℕ) (result : Result (List Cut) NotPermitted) where
  both_go : (pieces : Option (List Piece)) (packets : Option (List Packet)) (cuts : List Cut) → AreBoth q pieces packets → IsAnswer octets pieces result
      → result ≡ Ok cuts → PiecesGo way cuts s came p following (pieces_go_on s came p following (options_behind s p.options) way packets)
  both_go None None cuts both answer ok = absurd (cc)
  both_go (Some pieces) (Some packets) cuts both answer ok =
      let are : map given pieces ≡ cuts = cc in
      record {
        after = refl;
        pieces = transmissions (hop_by way) (Some packets);
        outputs = refl;
        given = λ body shown count.
            subst (λ (list : List Cut). GiveAll s.moment (Some (Labelled p following)) (map (transmission true (hop_by way) body) list)
            (transmissions (hop_by way) (Some packets))) are
            (pieces_go p following q unit body (hop_by way) (shown ∙ sym same) count s.moment pieces packets both);
      }
  both_go None (Some packets) cuts both answer ok = absurd both
  both_go (Some pieces) None cuts both answer ok = absurd both

  none_goes : (pieces : Option (List Piece)) (packets : Option (List Packet)) (refused : NotPermitted) → AreBoth q pieces packets
      → IsAnswer octets pieces result → result ≡ Err refused
      → pieces_go_on s came p following (options_behind s p.options) way packets
      ≡ discards s p following (reason_code SegmentationNotPermitted)
  none_goes None None refused both answer err = refl
  none_goes (Some pieces) (Some packets) refused both answer err = absurd (cc)
  none_goes None (Some packets) refused both answer err = absurd both
  none_goes (Some pieces) None refused both answer err = absurd both

-- what the code's cutting answers for the header under which it goes on
module _ (s : SystemState) (came : Neighbour) (p : Packet) (following : List ℕ) (effect : Effect) (passing : Passing) (onward : Onward) (head : List ℕ)
    (result : Result (List Cut) NotPermitted) (carriable : IsCarriable p) (has : HasValue passing (value_of p)) (least : 512 ≤ onward.mtu)
    (on : GoesOn onward head s came p following effect) (say : CutsSay head passing.len onward.mtu result) where
  abbrev leaving : Packet
  leaving = forwarded p on.loss (options_behind s p.options)

  answer : IsAnswer (segment_length (value_of leaving)) (segmenter.cut (value_of leaving) onward.mtu) result
  answer = say (value_of leaving) on.spells has.len

  both : AreBoth leaving (segmenter.cut (value_of leaving) onward.mtu) (cut leaving onward.mtu)
  both = cut_both leaving onward.mtu (record { pdu = on.spells.pdu; from = carriable.from; to = carriable.to }) least

  -- its pieces go on
  pub goes : (cuts : List Cut) → result ≡ Ok cuts → PiecesGo onward.way cuts s came p following effect
  goes cuts ok =
      subst (λ (e : Effect). PiecesGo onward.way cuts s came p following e) (sym on.effect_is)
      (both_go s came p following onward.way leaving refl refl (segment_length (value_of leaving)) result
      (segmenter.cut (value_of leaving) onward.mtu) (cut leaving onward.mtu) cuts both answer ok)

  -- it may not be cut
  pub stays : (refused : NotPermitted) → result ≡ Err refused → effect ≡ discards s p following (reason_code SegmentationNotPermitted)
  stays refused err =
      on.effect_is ∙ none_goes s came p following onward.way leaving refl refl (segment_length (value_of leaving)) result
      (segmenter.cut (value_of leaving) onward.mtu) (cut leaving onward.mtu) refused both answer err

-- ---- what comes of it by a port

module _ (s : SystemState) (came : Neighbour) (p : Packet) (following : List ℕ) (way : Way) (port : PortConfig) where
  abbrev behind : List Parameter
  behind = options_behind s p.options

  abbrev lowered : Packet
  lowered = forwarded p (loss_at port) behind

  abbrev outcome : Effect
  outcome = goes_on_by s came p following behind way (Some port)

  abbrev by_life : Bool → Effect
  by_life over =
      if over then discards s p following (reason_code LifetimeExpiredInTransit)
      else pieces_go_on s came p following behind way (cut lowered port.mtu)

  -- its lifetime ends
  pub ends : (passing : Passing) (left : Option ℕ) → HasValue passing (value_of p) → left ≡ life_left passing.life port → left ≡ None
      → outcome ≡ discards s p following (reason_code LifetimeExpiredInTransit)
  ends passing left has told none =
      ap (λ (n : ℕ). by_life (nat_le n (loss_at port))) has.lifetime
      ∙ ap by_life (none_is (nat_le passing.life (loss_at port)) (passing.life - loss_at port) (sym told ∙ none))

  -- it goes on with what is left of it
  pub lives : (passing : Passing) (left : Option ℕ) (life : ℕ) (changed head : List ℕ) (target : Option (List ℕ)) (towards_title : Bool)
      → HasValue passing (value_of p) → left ≡ life_left passing.life port → left ≡ Some life → SpellsHeader (with_options behind (value_of p)) changed
      → ((v : PduValue) → SpellsHeader v changed → target ≡ target_of v.options) → towards_title ≡ is_some target
      → ((v : PduValue) → SpellsHeader v changed → SpellsHeader (with_lifetime life v) head)
      → value_of lowered ≡ with_options behind (with_lifetime (p.lifetime - loss_at port) (value_of p))
      → GoesOn (record { way = way; towards_title = towards_title; mtu = port.mtu }) head s came p following outcome
  lives passing left life changed head target towards_title has told some edited leads titled spelled valued =
      let rest = left_is (nat_le passing.life (loss_at port)) (passing.life - loss_at port) life (sym told ∙ some) in
      record {
        loss = loss_at port;
        spells = subst (λ (v : PduValue). SpellsHeader v head) (sym valued)
            (subst (λ (n : ℕ). SpellsHeader (with_lifetime (n - loss_at port) (with_options behind (value_of p))) head) (sym has.lifetime)
            (subst (λ (n : ℕ). SpellsHeader (with_lifetime n (with_options behind (value_of p))) head) (sym rest.1)
            (spelled (with_options behind (value_of p)) edited)));
        towards_title = titled ∙ ap is_some (leads (with_options behind (value_of p)) edited);
        effect_is = ap (λ (n : ℕ). by_life (nat_le n (loss_at port))) has.lifetime ∙ ap by_life rest.0;
      }

-- ---- the frame

-- the data behind the header in a frame
pub data_in : (frame head following : List ℕ) (v : PduValue) (len : ℕ) → frame ≡ (header v ++ v.body) ++ following → head ≡ header v → length v.body ≡ len
    → seen (part (length head) len (whole frame)) ≡ v.body
data_in frame head following v len split is count =
    let front : length head ≡ length (header v) = ap length is in
    let at : 0 + length head ≡ length (header v) = omega arith in
    ap (λ (n : ℕ). take len (drop n frame)) at
    ∙ ap (λ (f : List ℕ). take len (drop (length (header v)) f)) (split ∙ append_assoc (header v) v.body following)
    ∙ ap (λ (f : List ℕ). take len f) (drop-append_seam (header v) (v.body ++ following))
    ∙ ap (λ (n : ℕ). take n (v.body ++ following)) (sym count) ∙ take-append_seam v.body following
