-- The options of a packet behind a router: they have the form of those before it, and a PDU can carry them.
use Rattle.std.proofs.Common.{◌≡◌, ◌∙◌, refl, sym, ap, subst, ℕ, zero, suc, ◌+◌, ◌-◌, ◌<◌, Bool, true, false, List, [], ◌∷◌, length, Option, None, Some, All, arith}
use Rattle.std.specs.Prelude.{if◌then◌else◌, nat_lt, slice_get, IsSome}
use Rattle.std.proofs.lemmas.List.Elements.{recursion_from_All}
use Rattle.std.specs.Str.{bytes_eq}
use Rattle.clnp_plan.specs.Nsap.Address.{IsAddress}
use Rattle.clnp_plan.specs.ClnpOptions.Edits.{HaveOneForm, advanced, edited, recorded, target_of}
use Rattle.clnp_plan.specs.ClnpOptions.Grammar.{AreFormed}
use Rattle.clnp_plan.specs.ClnpOptions.Parameter.{Parameter, recording, source_route, spelled}
use Rattle.clnp_plan.specs.PduHeader.Grammar.{IsPdu}
use Rattle.clnp_plan.specs.PduHeader.Headers.{with_lifetime, with_options}
use Rattle.clnp_plan.specs.PduHeader.Spelling.{header_length, segmentation_octets}
use Rattle.clnp_plan.specs.PduHeader.Value.{PduValue}
use Rattle.clnp_machine.specs.EditLaws.{EditLaws}
use Rattle.clnp_machine.specs.Esis.{first_of, title_of}
use Rattle.clnp_machine.specs.Step.{forwarded, is_named, most_titles, noting_congestion, options_behind, passing_own}
use Rattle.clnp_machine.specs.System.{SystemState}
use Rattle.clnp_machine.specs.Unit.{IsCarriable, Packet, more_follows, segmentation_of, value_of, value_with, whole_packet}
use Rattle.clnp_machine.specs.Local.{header_size}
use Rattle.clnp_machine.proofs.Headers.{header_length-is, segment_kept}
use Rattle.clnp_machine.proofs.Pieces.{part_length}

-- A property of options that are kept where the system isn't named, and changed where it is.
pub one_passed : (P : List Parameter → Type 0) (s : SystemState) (options deeper : List Parameter) (title : Option (List ℕ)) → P options
    → (IsSome title → P deeper) → P (if is_named s title then deeper else options)
one_passed P s options deeper None h k = h
one_passed P s options deeper (Some title) h k = go (bytes_eq title (title_of s)) (k refl)
  where
    go : (named : Bool) → P deeper → P (if named then deeper else options)
    go true is = is
    go false is = h

-- a system with one address has a title
pub first_is : (addresses : List (List ℕ)) → length addresses ≡ 1 → All IsAddress addresses → IsAddress (first_of (slice_get addresses 0))
first_is [] one each = absurd (omega arith)
first_is (address ∷ others) one each = (recursion_from_All IsAddress (address ∷ others) each).0

module _ (laws : EditLaws) (s : SystemState) where
  passing_form : (most : ℕ) (options : List Parameter) → AreFormed options → HaveOneForm (passing_own most s options) options
  passing_form zero options formed = laws.form.same options
  passing_form (suc most) options formed =
      one_passed (λ (o : List Parameter). HaveOneForm o options) s options (passing_own most s (edited source_route advanced options)) (target_of options)
      (laws.form.same options)
      (λ some. laws.form.chained (passing_own most s (edited source_route advanced options)) (edited source_route advanced options) options
      (passing_form most (edited source_route advanced options) (laws.form.formed options formed some)) (laws.form.advanced options))

  passing_formed : (most : ℕ) (options : List Parameter) → AreFormed options → AreFormed (passing_own most s options)
  passing_formed zero options formed = formed
  passing_formed (suc most) options formed =
      one_passed AreFormed s options (passing_own most s (edited source_route advanced options)) (target_of options) formed
      (λ some. passing_formed most (edited source_route advanced options) (laws.form.formed options formed some))

  noted_form : (congested : Bool) (options : List Parameter) → HaveOneForm (noting_congestion congested options) options
  noted_form true options = laws.form.marked options
  noted_form false options = laws.form.same options

  pub behind_form : (options : List Parameter) → AreFormed options → HaveOneForm (options_behind s options) options
  behind_form options formed =
      let passed = passing_own most_titles s options in
      let noted = edited recording (recorded (title_of s)) passed in
      laws.form.chained (options_behind s options) noted options (noted_form s.congested noted)
      (laws.form.chained noted passed options (laws.form.recorded passed (title_of s) (passing_formed most_titles options formed))
      (passing_form most_titles options formed))

  passing_pdu : (most : ℕ) (v : PduValue) → IsPdu v → IsPdu (with_options (passing_own most s v.options) v)
  passing_pdu zero v is = is
  passing_pdu (suc most) v is =
      one_passed (λ (o : List Parameter). IsPdu (with_options o v)) s v.options (passing_own most s (edited source_route advanced v.options))
      (target_of v.options) is
      (λ some. passing_pdu most (with_options (edited source_route advanced v.options) v) (laws.pdus.advanced v is some))

  noted_pdu : (congested : Bool) (v : PduValue) → IsPdu v → IsPdu (with_options (noting_congestion congested v.options) v)
  noted_pdu true v is = laws.pdus.marked v is
  noted_pdu false v is = is

  pub behind_pdu : (v : PduValue) → IsAddress (title_of s) → IsPdu v → IsPdu (with_options (options_behind s v.options) v)
  behind_pdu v title is =
      let passed = with_options (passing_own most_titles s v.options) v in
      let noted = with_options (edited recording (recorded (title_of s)) passed.options) passed in
      noted_pdu s.congested noted (laws.pdus.recorded passed (title_of s) (passing_pdu most_titles v is) title)

  -- the header is as long
  pub header_behind : (p : Packet) (loss : ℕ) (options : List Parameter) → HaveOneForm options p.options
      → header_length (value_with (forwarded p loss options) false) ≡ header_length (value_with p false)
  header_behind p loss options form =
      let octets : ℕ → ℕ = λ n. 11 + length p.unit.destination + length p.unit.source + length (segmentation_octets (segmentation_of p)) + n in
      header_length-is (value_with (forwarded p loss options) false) ∙ ap octets (laws.form.len options p.options form)
      ∙ sym (header_length-is (value_with p false))

  more_behind : (p : Packet) (loss : ℕ) (options : List Parameter) → HaveOneForm options p.options → (identifier : Option ℕ)
      → more_follows (forwarded p loss options) identifier ≡ more_follows p identifier
  more_behind p loss options form None = refl
  more_behind p loss options form (Some identifier) =
      ap (λ (n : ℕ). nat_lt (p.offset + p.length) (p.unit.total - n)) (header_behind p loss options form)

  value_with_options : (p : Packet) (loss : ℕ) (options : List Parameter) → HaveOneForm options p.options
      → value_of (forwarded p loss options) ≡ with_options options (with_lifetime (p.lifetime - loss) (value_of p))
  value_with_options p loss options form =
      ap (λ (more : Bool). value_with (forwarded p loss options) more) (more_behind p loss options form p.unit.identifier)

  -- the PDU of a packet that goes on has the value of the one that came, with another lifetime and other options
  pub behind_value : (p : Packet) (loss : ℕ) → IsCarriable p
      → value_of (forwarded p loss (options_behind s p.options))
      ≡ with_options (options_behind s p.options) (with_lifetime (p.lifetime - loss) (value_of p))
  behind_value p loss h = value_with_options p loss (options_behind s p.options) (behind_form p.options h.pdu.options)

  lowered_pdu : (v : PduValue) (life : ℕ) → life < 256 → IsPdu v → IsPdu (with_lifetime life v)
  lowered_pdu v life few is =
      record {
        lifetime = few;
        destination = is.destination;
        source = is.source;
        segmentation = segment_kept v life v.segmentation is.segmentation;
        options = is.options;
        reason = is.reason;
        header_fits = is.header_fits;
        segment_fits = is.segment_fits;
      }

  -- and a PDU can carry it
  pub behind_carriable : (p : Packet) (loss : ℕ) → IsAddress (title_of s) → IsCarriable p → IsCarriable (forwarded p loss (options_behind s p.options))
  behind_carriable p loss title h =
      let life : p.lifetime < 256 = h.pdu.lifetime in
      let few : p.lifetime - loss < 256 = omega arith in
      record {
        pdu = subst IsPdu (sym (behind_value p loss h))
            (behind_pdu (with_lifetime (p.lifetime - loss) (value_of p)) title (lowered_pdu (value_of p) (p.lifetime - loss) few h.pdu));
        from = h.from;
        to = h.to;
      }

-- The header of a packet of a unit is as long as the unit's.
pub header_kept : EditLaws → (p : Packet) → HaveOneForm p.options p.unit.options → header_length (value_of p) ≡ header_size p.unit
header_kept laws p form =
    let u = p.unit in
    let octets : ℕ → ℕ → ℕ = λ part options. 11 + length u.destination + length u.source + part + options in
    header_length-is (value_of p)
    ∙ ap (λ (n : ℕ). octets n (length (spelled p.options))) (part_length u.identifier p.offset 0 u.total)
    ∙ ap (λ (n : ℕ). octets (length (segmentation_octets (segmentation_of (whole_packet u)))) n) (laws.form.len p.options u.options form)
    ∙ sym (header_length-is (value_of (whole_packet u)))
