-- What a system says and hears of others leaves it sound, and its notes are honest.
use Rattle.clnp_machine.proofs.ClnpBase.Lists.{AllByRecursion-append}
use Rattle.std.proofs.Common.{◌≡◌, ◌∙◌, sym, ap, subst, ℕ, List, ◌++◌}
use Rattle.std.specs.List.{AllByRecursion}
use Rattle.std.proofs.lemmas.List.{append-nil}
use Rattle.clnp_machine.specs.ScenarioPlan.Plan.{Plan}
use Rattle.clnp_machine.specs.Unit.{DataUnit}
use Rattle.clnp_machine.specs.System.{SystemState, Effect, then_does}
use Rattle.clnp_machine.specs.Local.{Deed}
use Rattle.clnp_machine.specs.Step.{effect_of}
use Rattle.clnp_machine.specs.EveryStep.{KnowsAddresses, NotesOnly, OnlyHellos}
use Rattle.clnp_machine.specs.ClnpNetwork.LabelledNetwork.{LabelledNetwork}
use Rattle.clnp_machine.specs.ClnpNetwork.Run.{Entry}
use Rattle.clnp_safety.specs.Invariant.{EachRests, SystemIsSound}
use Rattle.clnp_safety.specs.StepLaws.{StepLaws}
use Rattle.clnp_safety.proofs.Deeds.{DeedIsSound, IsHonest, MayDo, RepliesInOctets, like_is_sound, like_rest}
use Rattle.clnp_safety.proofs.Lines.{quiet_is_honest}
use Rattle.clnp_safety.proofs.Told.{hellos_note, outputs_note}
pub use Rattle.clnp_machine.proofs.Hellos.{only_then}

module _ (plan : Plan) (past : List Entry) (w : LabelledNetwork) (name : List ℕ) (units : List DataUnit) (place : ℕ) where
  -- what it leaves is sound beside the units that are made in it, and what it notes is honest
  pub record EffectIsSound (effect : Effect) : Type 0 where
    pub after : SystemIsSound plan (units ++ effect.units) place effect.after
    pub rest : EachRests plan.limits.reuse (units ++ effect.units)
    pub replies : AllByRecursion RepliesInOctets effect.units
    pub notes : AllByRecursion (NotesOnly (IsHonest plan past w name)) effect.outputs

  hellos_are_honest : (s : SystemState) (effect : Effect) → OnlyHellos s effect → AllByRecursion (NotesOnly (IsHonest plan past w name)) effect.outputs
  hellos_are_honest s effect only = hellos_note (IsHonest plan past w name) (quiet_is_honest plan past w name) effect.outputs only.outputs

  pub hellos_are_sound : (s : SystemState) (effect : Effect) → OnlyHellos s effect → (KnowsAddresses s → KnowsAddresses effect.after)
      → MayDo plan units place s → EffectIsSound effect
  hellos_are_sound s effect only known may =
      let same : (units ++ effect.units) ≡ units = ap (λ us. units ++ us) only.units ∙ append-nil units in
      record {
        after = subst (λ us. SystemIsSound plan us place effect.after) (sym same)
            (like_is_sound plan units place s effect.after (like_rest s effect.after only.rest known) may.sound);
        rest = subst (EachRests plan.limits.reuse) (sym same) may.rest;
        replies = subst (AllByRecursion RepliesInOctets) (sym only.units) tt;
        notes = hellos_are_honest s effect only;
      }

  -- an effect, and then what is said of it to others
  pub then_hellos : (effect : Effect) (next : SystemState → Effect) → EffectIsSound effect → OnlyHellos effect.after (next effect.after)
      → (KnowsAddresses effect.after → KnowsAddresses (next effect.after).after) → EffectIsSound (then_does effect next)
  then_hellos effect next first only known =
      let later = next effect.after in
      let same : (units ++ effect.units) ≡ units ++ (effect.units ++ later.units)
      = ap (λ us. units ++ us) (sym (append-nil effect.units) ∙ ap (λ us. effect.units ++ us) (sym only.units)) in
      record {
        after = subst (λ us. SystemIsSound plan us place later.after) same
            (like_is_sound plan (units ++ effect.units) place effect.after later.after (like_rest effect.after later.after only.rest known) first.after);
        rest = subst (EachRests plan.limits.reuse) same first.rest;
        replies = AllByRecursion-append RepliesInOctets effect.units later.units first.replies (subst (AllByRecursion RepliesInOctets) (sym only.units) tt);
        notes = AllByRecursion-append (NotesOnly (IsHonest plan past w name)) effect.outputs later.outputs first.notes
            (hellos_are_honest effect.after later only);
      }

  pub deed_is_sound : StepLaws → (deed : Deed) → DeedIsSound plan past w name units place deed → EffectIsSound (effect_of deed)
  deed_is_sound laws deed h = record {
    after = h.after;
    rest = h.rest;
    replies = h.replies;
    notes = outputs_note laws (IsHonest plan past w name) (quiet_is_honest plan past w name) deed.after deed.actions h.tells;
  }
