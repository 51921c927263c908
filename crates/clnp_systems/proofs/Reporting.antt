-- The error report of a frame's discard.
use Rattle.std.proofs.Common.{◌≡◌, ◌∙◌, sym, ap, refl, subst, ℕ, List, [], ◌∷◌, ◌++◌}
use Rattle.clnp_machine.specs.Content.{Content, frame_of}
use Rattle.clnp_machine.specs.Unit.{DataUnit}
use Rattle.clnp_machine.specs.System.{SystemState, next_number}
use Rattle.clnp_machine.specs.Local as locally
use Rattle.clnp_machine.specs.Local.{Deed, Sends, Tells, discard, makes, report_unit, reports, reports_from, rests, sent_note}
use Rattle.clnp_machine.specs.ClnpPlan.declared.note.Note.TheVariants as note
use Rattle.clnp_systems.specs.declared.action.Action.{Action}
use Rattle.clnp_systems.specs.declared.action.Action.TheVariants.{Note as Noted}
use Rattle.clnp_systems.specs.declared.action.Draft.{Draft}
use Rattle.clnp_systems.specs.LocalState.{EntityState}
use Rattle.clnp_systems.specs.Local.{Appends, IsDraft, Stands}
use Rattle.clnp_systems.specs.Reporting.{IsReportOf}
use Rattle.clnp_systems.proofs.Appending.{appends-more, appends-note}

module _ (local : EntityState) (s : SystemState) (content : Content) (frame : List ℕ) (reason place : ℕ) (stands : Stands local s)
    (same : frame_of content ≡ frame) where
  -- what a discard comes to
  discards : discard s content reason place ≡ locally.and_then (locally.tells s (note.Discard reason place)) (λ (t : SystemState). reports t frame reason place)
  discards = ap (λ (f : List ℕ). locally.and_then (locally.tells s (note.Discard reason place)) (λ (t : SystemState). reports t f reason place)) same

  -- its note alone is appended where no report is made
  pub told_alone : reports s frame reason place ≡ rests s → (before after : List Action) → after ≡ before ++ Noted (note.Discard reason place) ∷ []
      → Appends before after (discard s content reason place).actions
  told_alone none before after noted =
      subst (λ (d : Deed). Appends before after d.actions) (sym discards)
      (subst (λ (d : Deed). Appends before after (Tells (note.Discard reason place) ∷ d.actions)) (sym none) (appends-note before after _ _ noted refl))

  module _ (draft : Draft) (report : IsReportOf s frame reason place draft) (n : ℕ) (number : n ≡ next_number s) where
    pub told : (before mid after : List Action) → mid ≡ before ++ Noted (note.Discard reason place) ∷ []
        → ((u : DataUnit) → IsDraft draft u → n ≡ u.number → Appends mid after (Tells (sent_note u) ∷ Sends u ∷ []))
        → Appends before after (discard s content reason place).actions
    told before mid after noted sent =
        subst (λ (d : Deed). Appends before after d.actions) (sym discards)
        (subst (λ (d : Deed). Appends before after (Tells (note.Discard reason place) ∷ d.actions)) (sym report.made)
        (let u = report_unit s report.own frame reason place in
        appends-more before mid after (Tells (note.Discard reason place) ∷ []) (Tells (sent_note u) ∷ Sends u ∷ [])
        (appends-note before mid _ _ noted refl) (sent u report.is_draft number)))

    pub stands_told : Stands (record local { count = n }) (reports s (frame_of content) reason place).after
    stands_told =
        subst (λ (d : Deed). Stands (record local { count = n }) d.after)
        (sym (ap (λ (f : List ℕ). reports s f reason place) same ∙ report.made))
        record {
          configuration = stands.configuration;
          limits = stands.limits;
          count = number;
          identifiers = stands.identifiers;
          buffers = stands.buffers;
          table = stands.table;
          shown = stands.shown;
          packets = stands.packets;
          pending = stands.pending;
        }
