-- What is given out for a unit: its pieces, as the model cuts them.
use Rattle.std.proofs.Common.{◌≡◌, ◌∙◌, refl, sym, ap, subst, ℕ, ◌+◌, ◌-◌, ◌≤◌, ◌<◌, inl, inr, Bool, true, Option, None, Some, Ok, Err, false, List, [], ◌∷◌, ◌++◌, map, length, take, drop, arith}
use Rattle.std.specs.Prelude.{MatchOption, Result}
use Rattle.std.specs.Prelude.{nat_lt, slice_get, slice_index_or}
use Rattle.std.proofs.lemmas.Bool.Decides.{nat_tests}
use Rattle.std.proofs.lemmas.List.{take_all}
use Rattle.std.proofs.lemmas.Option.{slice_get_cases, slice_get_read}
use Rattle.clnp_machine.specs.ClnpViews.Extent.{Extent, part, seen}
use Rattle.clnp_machine.specs.PduHeader.Value.{PduValue}
use Rattle.clnp_machine.specs.PduHeader.Spelling.{header, segment_length, spelling}
use Rattle.clnp_machine.specs.PduHeader.Grammar.{IsPdu}
use Rattle.clnp_machine.specs.PduHeader.Headers.{SpellsHeader}
use Rattle.clnp_machine.specs.Pdus.declared.made_pdus.cuts.Cut.{Cut}
use Rattle.clnp_machine.specs.Pdus.declared.made_pdus.cuts.NotPermitted.{NotPermitted}
use Rattle.clnp_machine.specs.MadePdus.Cut as segmenter
use Rattle.clnp_machine.specs.MadePdus.Cut.{Piece, given}
use Rattle.clnp_machine.proofs.ClnpBase.Lists.{part_of_part}
use Rattle.clnp_machine.specs.ClnpPlan.declared.config.PortConfig.{PortConfig}
use Rattle.clnp_machine.specs.ClnpPlan.declared.note.Note.TheVariants.{Discard}
use Rattle.clnp_machine.specs.ClnpPlan.declared.output.Output.{Output}
use Rattle.clnp_machine.specs.ClnpPlan.declared.output.Output.TheVariants.{Note as Noted}
use Rattle.clnp_machine.specs.Unit.{IsCarriable, Packet, DataUnit, cut, value_of, whole_packet, wire}
use Rattle.clnp_machine.specs.System.{SystemState, Transmits}
use Rattle.clnp_machine.specs.ClnpOptions.Reasons.{reason_code}
use Rattle.clnp_machine.specs.Pdus.declared.clnp_options.reasons.Reason.TheVariants.{SegmentationNotPermitted}
use Rattle.clnp_machine.specs.Step.{first_sent, no_way, sent_on, transmissions}
use Rattle.clnp_machine.specs.declared.way.Hop.{Hop}
use Rattle.clnp_machine.specs.Given.{Appends, GiveAll, IsSentFor}
use Rattle.clnp_systems.specs.Sending.{piece_frame, transmission}
use Rattle.clnp_machine.proofs.Pieces.{AreBoth, AreThese, IsThis, cut_both}

-- the data of a piece, read from what is seen
pub seen_of_part : (body : Extent) (from len : ℕ) → from + len ≤ body.len → seen (part from len body) ≡ take len (drop from (seen body))
seen_of_part body from len within = sym (part_of_part body.frame body.from body.len from len within)

-- the frame of a piece has the octets of the packet that it is
pub piece_octets : (p : Packet) (piece : Piece) (packet : Packet) (body : Extent) (forwarded : Bool) (hop : Hop) → IsThis p piece packet
    → seen body ≡ (value_of p).body → length (seen body) ≡ body.len → (piece_frame forwarded hop body (given piece)).frame ≡ wire packet
piece_octets p piece packet body forwarded hop this shown whole =
    let room : body.len ≡ length (value_of p).body = sym whole ∙ ap length shown in
    let within = this.within in
    let octets : seen (part piece.range.from piece.range.len body) ≡ piece.value.body =
    seen_of_part body piece.range.from piece.range.len (omega arith)
    ∙ ap (λ (b : List ℕ). take piece.range.len (drop piece.range.from b)) shown ∙ sym this.body in
    ap (λ (b : List ℕ). header piece.value ++ b) octets ∙ ap (λ (v : PduValue). spelling v) (sym this.value)

piece_is_sent : (p : Packet) (piece : Piece) (packet : Packet) (body : Extent) (moment : ℕ) (hop : Hop) → IsThis p piece packet
    → seen body ≡ (value_of p).body → length (seen body) ≡ body.len → p.unit.made ≡ moment → p.hops ≡ 0
    → IsSentFor moment (piece_frame false hop body (given piece)) hop.port hop.target packet
piece_is_sent p piece packet body moment hop this shown whole made none =
    record {
      port_is = refl;
      target_is = refl;
      octets = piece_octets p piece packet body false hop this shown whole;
      first = refl;
      carriable = this.carriable;
      made = ap (λ (u : DataUnit). u.made) this.unit_is ∙ made;
      hops = this.hops_is ∙ none;
    }

pieces_are_sent : (p : Packet) (pieces : List Piece) (packets : List Packet) (body : Extent) (moment : ℕ) (hop : Hop) → AreThese p pieces packets
    → seen body ≡ (value_of p).body → length (seen body) ≡ body.len → p.unit.made ≡ moment → p.hops ≡ 0
    → GiveAll moment None (map (transmission false hop body) (map given pieces)) (map (λ packet. Transmits hop.port hop.target packet) packets)
pieces_are_sent p [] [] body moment hop these shown whole made none = tt
pieces_are_sent p (piece ∷ others) (packet ∷ packets) body moment hop these shown whole made none = (
  piece_is_sent p piece packet body moment hop these.0 shown whole made none,
  pieces_are_sent p others packets body moment hop these.1 shown whole made none,
)
pieces_are_sent p [] (packet ∷ packets) body moment hop these shown whole made none = absurd these
pieces_are_sent p (piece ∷ others) [] body moment hop these shown whole made none = absurd these

-- what the code's cutting answers, where these are the pieces of the PDU
abbrev pub IsAnswer : ℕ → Option (List Piece) → Result (List Cut) NotPermitted → Type 0
IsAnswer octets pieces result = MatchOption pieces (result ≡ Err (record { octets = octets })) (λ parts. result ≡ Ok (map given parts))

cuts_are_sent : (p : Packet) (pieces : Option (List Piece)) (packets : Option (List Packet)) (body : Extent) (moment : ℕ) (hop : Hop) (octets : ℕ)
    (result : Result (List Cut) NotPermitted) (cuts : List Cut) → AreBoth p pieces packets → IsAnswer octets pieces result → result ≡ Ok cuts
    → seen body ≡ (value_of p).body → length (seen body) ≡ body.len → p.unit.made ≡ moment → p.hops ≡ 0
    → GiveAll moment None (map (transmission false hop body) cuts) (transmissions hop packets)
cuts_are_sent p None None body moment hop octets result cuts both answer ok shown whole made none = absurd (cc)
cuts_are_sent p (Some pieces) (Some packets) body moment hop octets result cuts both answer ok shown whole made none =
    let same : map given pieces ≡ cuts = cc in
    subst (λ (cs : List Cut). GiveAll moment None (map (transmission false hop body) cs) (transmissions hop (Some packets))) same
    (pieces_are_sent p pieces packets body moment hop both shown whole made none)
cuts_are_sent p None (Some packets) body moment hop octets result cuts both answer ok shown whole made none = absurd both
cuts_are_sent p (Some pieces) None body moment hop octets result cuts both answer ok shown whole made none = absurd both

none_is_sent : (p : Packet) (pieces : Option (List Piece)) (packets : Option (List Packet)) (moment : ℕ) (hop : Hop) (octets : ℕ)
    (result : Result (List Cut) NotPermitted) (refused : NotPermitted) → AreBoth p pieces packets → IsAnswer octets pieces result → result ≡ Err refused
    → GiveAll moment None (Noted (Discard (reason_code SegmentationNotPermitted) 0) ∷ []) (transmissions hop packets)
none_is_sent p None None moment hop octets result refused both answer err = (refl, tt)
none_is_sent p (Some pieces) (Some packets) moment hop octets result refused both answer err = absurd (cc)
none_is_sent p None (Some packets) moment hop octets result refused both answer err = absurd both
none_is_sent p (Some pieces) None moment hop octets result refused both answer err = absurd both

-- ---- a whole unit

whole_carriable : (u : DataUnit) → IsPdu (value_of (whole_packet u)) → u.first_position ≡ 0 → IsCarriable (whole_packet u)
whole_carriable u pdu first = record { pdu = pdu; from = omega arith; to = omega arith }

pub whole_body : (u : DataUnit) → (value_of (whole_packet u)).body ≡ u.octets
whole_body u =
    let at : 0 - u.first_position ≡ 0 = omega arith in
    ap (λ (n : ℕ). take (length u.octets) (drop n u.octets)) at ∙ take_all (length u.octets) u.octets (omega arith)

-- the header and the data are a unit's
pub record IsMadeOf (u : DataUnit) (head : List ℕ) (body : Extent) : Type 0 where
  pub spells : SpellsHeader (value_of (whole_packet u)) head
  pub shown : seen body ≡ u.octets
  pub whole : length (seen body) ≡ body.len

-- what `Cuts::new` says
abbrev pub CutsSay : (head : List ℕ) (len mtu : ℕ) → Result (List Cut) NotPermitted → Type 0
CutsSay head len mtu result = (v : PduValue) → SpellsHeader v head → length v.body ≡ len → IsAnswer (segment_length v) (segmenter.cut v mtu) result

pub unit_length : (u : DataUnit) (body : Extent) → seen body ≡ u.octets → (len : ℕ) → len ≡ length (seen body) → length (value_of (whole_packet u)).body ≡ len
unit_length u body shown len e = ap length (whole_body u) ∙ ap length (sym shown) ∙ sym e

-- the pieces of a unit are given out
pub unit_is_sent : (u : DataUnit) (hop : Hop) (port : PortConfig) (head : List ℕ) (body : Extent) (len : ℕ) (result : Result (List Cut) NotPermitted)
    (cuts : List Cut) (before after : List Output) → IsMadeOf u head body → len ≡ length (seen body) → CutsSay head len port.mtu result → result ≡ Ok cuts
    → 512 ≤ port.mtu → u.first_position ≡ 0 → after ≡ before ++ map (transmission false hop body) cuts
    → Appends u.made None before after (sent_on hop (Some port) u)
unit_is_sent u hop port head body len result cuts before after made e say ok least first written =
    let p : Packet = whole_packet u in
    let h : IsCarriable p = whole_carriable u made.spells.pdu first in
    record {
      outputs = map (transmission false hop body) cuts;
      appended = written;
      give_all = cuts_are_sent p (segmenter.cut (value_of p) port.mtu) (cut p port.mtu) body u.made hop (segment_length (value_of p)) result cuts
          (cut_both p port.mtu h least) (say (value_of p) made.spells (unit_length u body made.shown len e)) ok
          (made.shown ∙ sym (whole_body u)) made.whole refl refl;
    }

-- a unit that may not be cut is discarded
pub unit_is_dropped : (u : DataUnit) (hop : Hop) (port : PortConfig) (head : List ℕ) (body : Extent) (len : ℕ) (result : Result (List Cut) NotPermitted)
    (refused : NotPermitted) (before after : List Output) → IsMadeOf u head body → len ≡ length (seen body) → CutsSay head len port.mtu result
    → result ≡ Err refused → 512 ≤ port.mtu → u.first_position ≡ 0
    → after ≡ before ++ Noted (Discard (reason_code SegmentationNotPermitted) 0) ∷ []
    → Appends u.made None before after (sent_on hop (Some port) u)
unit_is_dropped u hop port head body len result refused before after made e say err least first written =
    let p : Packet = whole_packet u in
    let h : IsCarriable p = whole_carriable u made.spells.pdu first in
    record {
      outputs = Noted (Discard (reason_code SegmentationNotPermitted) 0) ∷ [];
      appended = written;
      give_all = none_is_sent p (segmenter.cut (value_of p) port.mtu) (cut p port.mtu) u.made hop (segment_length (value_of p)) result refused
          (cut_both p port.mtu h least) (say (value_of p) made.spells (unit_length u body made.shown len e)) err;
    }

-- ---- the port by which it goes out

pub port_at : (ports : List PortConfig) (i j : ℕ) (port : PortConfig) → j ≡ i → true ≡ nat_lt j (length ports) → port ≡ slice_index_or ports j port
    → slice_get ports i ≡ Some port
port_at ports i j port same within at =
    subst (λ (k : ℕ). slice_get ports k ≡ Some port) same
    (slice_get_read ports (length ports) j port refl (let some : j < length ports = grind (arith, nat_tests) in some) at)

pub port_missing : (ports : List PortConfig) (i j : ℕ) → j ≡ i → false ≡ nat_lt j (length ports) → slice_get ports i ≡ None
port_missing ports i j same beyond =
    subst (λ (k : ℕ). slice_get ports k ≡ None) same
    (elim ((slice_get_cases ports j).1) [
      | inl found ↦ absurd (let within : j < length ports = found.1 in grind (arith, nat_tests))
      | inr none ↦ none.1
    ])

-- by a port that is there
pub sent_by : (s : SystemState) (u : DataUnit) (hop : Hop) (way : Option Hop) (ports : List PortConfig) (port : PortConfig)
    → ports ≡ s.attached.ports → way ≡ Some hop → slice_get ports hop.port ≡ Some port
    → sent_on hop (Some port) u ≡ first_sent s u way
sent_by s u hop way ports port same is at =
    ap (λ (o : Option PortConfig). sent_on hop o u) (sym at)
    ∙ ap (λ (ps : List PortConfig). sent_on hop (slice_get ps hop.port) u) same
    ∙ ap (λ (o : Option Hop). first_sent s u o) (sym is)

-- by one that isn't
pub sent_by_none : (s : SystemState) (u : DataUnit) (hop : Hop) (way : Option Hop) (ports : List PortConfig)
    → ports ≡ s.attached.ports → way ≡ Some hop → slice_get ports hop.port ≡ None
    → no_way ≡ first_sent s u way
sent_by_none s u hop way ports same is at =
    ap (λ (o : Option PortConfig). sent_on hop o u) (sym at)
    ∙ ap (λ (ps : List PortConfig). sent_on hop (slice_get ps hop.port) u) same
    ∙ ap (λ (o : Option Hop). first_sent s u o) (sym is)
