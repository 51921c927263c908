-- Outputs of the code are those of the model, one part after another.
use Rattle.std.proofs.Common.{◌≡◌, ◌∙◌, sym, ap, ℕ, inl, List, [], ◌∷◌, ◌++◌, append_assoc, append-nil, Option, None, Some}
use Rattle.clnp_plan.specs.declared.note.Note as plan_note
use Rattle.clnp_plan.specs.declared.output.Output.{Output}
use Rattle.clnp_plan.specs.declared.output.Output.TheVariants.{Note, Transmit}
use Rattle.clnp_machine.specs.Content.{Content}
use Rattle.clnp_machine.specs.System as machine
use Rattle.clnp_machine.specs.Given.{Gives, GiveAll, Appends}

module _ (moment : ℕ) (came : Option Content) where
  pub GiveAll-append : (xs ys : List Output) (us vs : List machine.Output) → GiveAll moment came xs us → GiveAll moment came ys vs
      → GiveAll moment came (xs ++ ys) (us ++ vs)
  GiveAll-append [] ys [] vs h k = k
  GiveAll-append (x ∷ xs) ys (u ∷ us) vs h k = (h.0, GiveAll-append xs ys us vs h.1 k)
  GiveAll-append [] ys (u ∷ us) vs h k = absurd h
  GiveAll-append (x ∷ xs) ys [] vs h k = absurd h

  -- nothing was appended
  pub appends_none : (before after : List Output) → after ≡ before → Appends moment came before after []
  appends_none before after same = record { outputs = []; appended = same ∙ sym (append-nil before); give_all = tt }

  -- one output was
  pub appends_one : (before after : List Output) (output : Output) (other : machine.Output) → after ≡ before ++ output ∷ []
      → Gives moment came output other → Appends moment came before after (other ∷ [])
  appends_one before after output other written gives = record { outputs = output ∷ []; appended = written; give_all = (gives, tt) }

  -- a note was
  pub appends_note : (before after : List Output) (told note : plan_note.Note) → after ≡ before ++ Note told ∷ [] → told ≡ note
      → Appends moment came before after (machine.Notes note ∷ [])
  appends_note before after told note written same = appends_one before after (Note told) (machine.Notes note) written same

  -- some were, and then some more
  pub appends_both : (before middle after : List Output) (us vs : List machine.Output) → Appends moment came before middle us
      → Appends moment came middle after vs → Appends moment came before after (us ++ vs)
  appends_both before middle after us vs h k = record {
    outputs = h.outputs ++ k.outputs;
    appended = k.appended ∙ ap (λ (start : List Output). start ++ k.outputs) h.appended ∙ append_assoc before h.outputs k.outputs;
    give_all = GiveAll-append h.outputs k.outputs us vs h.give_all k.give_all;
  }

-- what is given out where no frame came may be given out whatever came

module _ (moment : ℕ) (came : Content) where
  gives_whatever_came : (output : Output) (other : machine.Output) → Gives moment None output other → Gives moment (Some came) output other
  gives_whatever_came (Note note) (machine.Notes told) h = h
  gives_whatever_came (Transmit sending) (machine.Transmits port target packet) h = inl h
  gives_whatever_came (Transmit sending) (machine.SendsEsis port target value) h = h
  gives_whatever_came (Note note) (machine.Transmits port target packet) h = absurd h
  gives_whatever_came (Note note) (machine.SendsEsis port target value) h = absurd h
  gives_whatever_came (Transmit sending) (machine.Notes told) h = absurd h

  give_all_whatever_came : (outputs : List Output) (others : List machine.Output) → GiveAll moment None outputs others
      → GiveAll moment (Some came) outputs others
  give_all_whatever_came [] [] h = tt
  give_all_whatever_came (output ∷ outputs) (other ∷ others) h = (gives_whatever_came output other h.0, give_all_whatever_came outputs others h.1)
  give_all_whatever_came [] (other ∷ others) h = absurd h
  give_all_whatever_came (output ∷ outputs) [] h = absurd h

  pub appends_whatever_came : (before after : List Output) (others : List machine.Output) → Appends moment None before after others
      → Appends moment (Some came) before after others
  appends_whatever_came before after others h =
      record { outputs = h.outputs; appended = h.appended; give_all = give_all_whatever_came h.outputs others h.give_all }
