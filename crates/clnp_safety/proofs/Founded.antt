-- What is handed up of error reports and echo replies is founded on what was made before.
use Rattle.clnp_machine.proofs.ClnpBase.Lists.{AllByRecursion-contains, slice_get_some}
use Rattle.std.proofs.Common.{◌≡◌, ◌∙◌, refl, sym, ap, subst, ℕ, true, List, [], slice_get, Some, Contains, bytes_eq, arith}
use Rattle.std.specs.Prelude.{◌&&◌}
use Rattle.std.proofs.lemmas.Bool.{and_parts}
use Rattle.std.proofs.lemmas.List.Folds.{list_any-from_Any}
use Rattle.std.proofs.lemmas.Option.{same_Some, slice_get_within}
use Rattle.clnp_machine.proofs.ClnpBase.SameOctets.{same_from, same-itself}
use Rattle.clnp_machine.specs.Pdus.declared.pdu_header.kind.Kind.TheVariants.{Er, Erp}
use Rattle.clnp_machine.specs.MadePdus.Match.{echoes}
use Rattle.clnp_machine.specs.ScenarioPlan.Plan.{IsFit, Plan}
use Rattle.clnp_machine.specs.ClnpPlan.Configuration.{SystemConfiguration}
use Rattle.clnp_machine.specs.Unit.{DataUnit, DeclaredAt}
use Rattle.clnp_machine.specs.System.{SystemState}
use Rattle.clnp_machine.specs.Local.{is_answer, is_own}
use Rattle.clnp_machine.specs.ClnpNetwork.LabelledNetwork.{LabelledNetwork}
use Rattle.clnp_machine.specs.ClnpNetwork.Run.{Entry}
use Rattle.clnp_machine.specs.EveryStep.{IsRangeOf}
use Rattle.clnp_machine.specs.ClnpNetwork.Safe.{IsAnswered, IsHeaderOfOwn, ReportsOnCopy, ReportsStand, RequestedSinceRestart, StandsInCopy}
use Rattle.clnp_safety.specs.Invariant.{Carries, CopyIsSound, IsMadeOn, IsPending, Owns, UnitIsSound, WorldIsSound}
use Rattle.clnp_safety.specs.StepLaws.{StepLaws}
use Rattle.clnp_safety.proofs.BufferOffers.{unit_sound}
use Rattle.clnp_safety.proofs.SendAsked.{own_address}
use Rattle.clnp_safety.proofs.Units.{different_makers}

-- an address of a declaration is one of the system's own
pub owned : (s : SystemState) (address : List ℕ) → Contains s.configuration.addresses address → is_own s address ≡ true
owned s address there =
    list_any-from_Any (λ other. bytes_eq other address) s.configuration.addresses
    (there.0, address, there.1, there.2, same-itself address)

module _ (laws : StepLaws) (plan : Plan) (fit : IsFit plan) (past : List Entry) (w : LabelledNetwork) (h : WorldIsSound plan past w)
    (stood : ReportsStand w) where
  -- the system at a place of a world, as it is declared
  record IsDeclared (place : ℕ) (configuration : SystemConfiguration) : Type 0 where
    system : SystemState
    there : slice_get w.systems place ≡ Some system
    same : system.configuration ≡ configuration

  declared_at : (place : ℕ) (configuration : SystemConfiguration) → slice_get plan.systems place ≡ Some configuration → IsDeclared place configuration
  declared_at place configuration declared =
      let within = slice_get_within plan.systems place configuration declared in
      let number = h.systems.number in
      let found = slice_get_some w.systems place (omega arith) in
      record {
        system = found.0;
        there = found.1;
        same = same_Some found.0.configuration configuration (sym (h.systems.each place found.0 found.1).sound.declared ∙ declared);
      }

  module _ (u : DataUnit) (made : Contains w.units u) where
    it : UnitIsSound plan past w.units u
    it = unit_sound plan past w.units u h.made made

    module _ (place : ℕ) (s : SystemState) (declared : slice_get plan.systems place ≡ Some s.configuration) where
      pub report_is_founded : u.kind ≡ Er → is_own s u.destination ≡ true → IsHeaderOfOwn w s.configuration.name u.octets
      report_is_founded er own =
          let report : ReportsOnCopy w.copies u =
          AllByRecursion-contains (λ (v : DataUnit). v.kind ≡ Er → ReportsOnCopy w.copies v) w.units u made stood er in
          let carrier = AllByRecursion-contains (CopyIsSound w.units) w.copies report.stands.copy report.stands.there h.copies in
          let carried : IsRangeOf w.units report.packet × (report.following ≡ []) = subst (Carries (IsRangeOf w.units)) report.stands.carries carrier.carries in
          let of = unit_sound plan past w.units report.packet.unit h.made carried.0.unit in
          let owns : Owns plan place u.destination = record { system = s.configuration; there = declared; own = own_address s u.destination own } in
          let one : of.place ≡ place
          = different_makers plan of.place place u.destination fit (subst (Owns plan of.place) report.source of.owner) owns in
          let at = declared_at place s.configuration declared in
          record {
            place = place;
            system = at.system;
            packet = report.packet;
            made = record { made = carried.0.unit; maker = of.maker ∙ ap DeclaredAt one; there = at.there };
            named = ap (λ (c : SystemConfiguration). c.name) at.same;
            range = carried.0;
            stands = subst (StandsInCopy w.copies report.packet) carried.1 report.stands;
            header = report.report.data_are;
          }

      module _ (request : DataUnit) (pending : IsPending past w.units place s.configuration.name request) where
        pub reply_is_founded : u.kind ≡ Erp → is_answer u.source u.destination u.octets request ≡ true
            → IsAnswered w past s.configuration.name u.source u.destination request.number
        reply_is_founded erp answers =
            let parts = and_parts (bytes_eq request.destination u.source) (bytes_eq request.source u.destination && echoes request.octets u.octets) answers in
            let rest = and_parts (bytes_eq request.source u.destination) (echoes request.octets u.octets) parts.1 in
            let to : request.destination ≡ u.source = same_from request.destination u.source parts.0 in
            let from : request.source ≡ u.destination = same_from request.source u.destination rest.0 in
            let at = declared_at place s.configuration declared in
            let owner = declared_at it.place it.owner.system it.owner.there in
            record {
              since = subst (λ destination. RequestedSinceRestart past s.configuration.name request.number u.destination destination) to
                  (subst (λ source. RequestedSinceRestart past s.configuration.name request.number source request.destination) from pending.since);
              place = place;
              system = at.system;
              request = request;
              requested = record { made = pending.made; maker = pending.maker; there = at.there };
              named = ap (λ (c : SystemConfiguration). c.name) at.same;
              request_kind = pending.kind;
              request_number = refl;
              request_source = from;
              request_destination = to;
              owner_place = it.place;
              owner = owner.system;
              reply = u;
              replied = record { made = made; maker = it.maker; there = owner.there };
              owns = owned owner.system u.source (subst (λ (c : SystemConfiguration). Contains c.addresses u.source) (sym owner.same) it.owner.own);
              reply_kind = erp;
              reply_source = refl;
              reply_destination = refl;
              answers = (laws.answers request.octets u.octets (subst (λ kind. IsMadeOn plan past w.units kind u) erp it.founded)).0 rest.1;
            }
