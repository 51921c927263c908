-- When a system says hello of itself: at a moment where its hello is due, and where it was asked for by a group.
use Rattle.std.proofs.Common.{◌≡◌, ◌∙◌, refl, sym, ap, ℕ, ◌+◌, ◌*◌, ◌≤◌, inl, inr, Bool, true, false, List, [], ◌∷◌, ◌++◌, length, map, arith}
use Rattle.std.specs.Prelude.{◌==◌, ◌&&◌, not, nat_le, if◌then◌else◌}
use Rattle.std.specs.List.{AllByRecursion, filter, flat_map, range_with_len}
use Rattle.std.proofs.lemmas.Bool.{and_from, and_parts, cond-false, cond-true, eqb-false, false_from_ne_true, le-leb, leb-true, ne_eqb, not-true, not_from_false}
use Rattle.clnp_plan.proofs.ClnpBase.Lists.{AllByRecursion-map_any}
use Rattle.pdus.specs.EsisPdus.Value.{EsisValue}
use Rattle.clnp_plan.specs.EsisTables.Gone.{gone}
use Rattle.clnp_plan.specs.Pdus.declared.nsap.target.Target.TheVariants.{System}
use Rattle.clnp_plan.specs.SystemTables.declared.esis_tables.fact.Neighbour.{Neighbour}
use Rattle.clnp_plan.specs.Configuration.{SystemConfiguration}
use Rattle.clnp_plan.specs.declared.config.Role.{Role}
use Rattle.clnp_plan.specs.declared.config.Role.TheVariants.{Host, Router}
use Rattle.clnp_machine.specs.Attachment.{Attachment}
use Rattle.clnp_machine.specs.System.{SystemState, MomentComes, Output, SendsEsis, Effect, gives, idles, then_does}
use Rattle.clnp_machine.specs.Due.{IsAskedByGroup, IsHelloDue}
use Rattle.clnp_machine.specs.Unit.{Packet}
use Rattle.clnp_machine.specs.Esis.{forgets, gone_note, hearers, hello_everywhere, is_silent, own_hello, says_hello}
use Rattle.clnp_machine.specs.Local.{has_address, is_own, tick}
use Rattle.clnp_machine.specs.Step.{is_asked_for, outputs_of, packet_comes, responds, step}
use Rattle.clnp_machine.specs.EveryStep.{sends_esis}
use Rattle.clnp_machine.proofs.Answering.{NonePasses, SilentOrRedirects, deeds_silent, none_before, packet_sends}
use Rattle.clnp_machine.proofs.Deeds.{packet_is, tick_is}
use Rattle.clnp_machine.proofs.Hellos.{same_hello}

-- where each output passes a test, all are left by it
all_left : (passes : Output → Bool) (outputs : List Output) → AllByRecursion (λ output. passes output ≡ true) outputs → filter passes outputs ≡ outputs
all_left passes [] all = refl
all_left passes (output ∷ outputs) all = rw all.0 (ap (λ (more : List Output). output ∷ more) (all_left passes outputs all.1))

-- a hello on each port
abbrev everywhere : Role → Attachment → EsisValue → List Output
everywhere role a value = map (λ port. SendsEsis port (hearers role) value) (range_with_len 0 (length a.ports))

-- whether a hello is due
abbrev is_due : SystemState → Bool
is_due t = not (is_silent t) && nat_le t.next_hello t.moment

module _ (s : SystemState) (now : ℕ) where
  abbrev ticked : SystemState
  ticked = (tick s now).after

  abbrev said : Effect
  said = gives (record ticked { next_hello = ticked.moment + 2 * ticked.hello }) (hello_everywhere ticked)

  often : ticked.hello ≡ s.hello
  often = (tick_is s now).heard.hello

  next : ticked.next_hello ≡ s.next_hello
  next = (tick_is s now).heard.next_hello

  at_now : ticked.moment ≡ now
  at_now = (tick_is s now).moment

  -- a tick says no hello before it is due
  silent_before : filter sends_esis (step s (MomentComes now)).outputs ≡ filter sends_esis (says_hello ticked).outputs
  silent_before =
      let forgotten = (forgets s.moment ticked).outputs in
      none_before sends_esis (flat_map (outputs_of ticked) (tick s now).actions) (then_does (forgets s.moment ticked) says_hello).outputs
      (deeds_silent ticked (tick s now).actions)
      ∙ none_before sends_esis forgotten (says_hello ticked).outputs
      (AllByRecursion-map_any (λ output. sends_esis output ≡ false) gone_note (gone s.moment ticked.moment ticked.facts) (λ key. refl))

  due_there : IsHelloDue s now → is_due ticked ≡ true
  due_there is =
      let speaks : ticked.hello ≡ 0 → ⊥ = λ none. is.speaks (sym often ∙ none) in
      let come : ticked.next_hello ≤ ticked.moment =
      let due : s.next_hello ≤ now = is.due in
      let same = next in
      let here = at_now in
      omega arith in
      and_from (not (is_silent ticked)) (nat_le ticked.next_hello ticked.moment) (not_from_false (ticked.hello == 0) (ne_eqb ticked.hello 0 speaks))
      (le-leb ticked.next_hello ticked.moment come)

  due_since : is_due ticked ≡ true → IsHelloDue s now
  due_since e =
      let both = and_parts (not (is_silent ticked)) (nat_le ticked.next_hello ticked.moment) e in
      let come = leb-true ticked.next_hello ticked.moment both.1 in
      let same = next in
      let here = at_now in
      record {
        speaks = λ none. eqb-false ticked.hello 0 (not-true (ticked.hello == 0) both.0) (often ∙ none);
        due = omega arith;
      }

  says_it : IsHelloDue s now → says_hello ticked ≡ said
  says_it is = cond-true (is_due ticked) said (idles ticked) (due_there is)

  says_nothing : ¬ (IsHelloDue s now) → says_hello ticked ≡ idles ticked
  says_nothing isnt = cond-false (is_due ticked) said (idles ticked) (false_from_ne_true (is_due ticked) (λ e. isnt (due_since e)))

  same_everywhere : hello_everywhere ticked ≡ hello_everywhere s
  same_everywhere =
      let same : ticked.configuration ≡ s.configuration = (tick_is s now).itself.configuration in
      ap (λ (c : SystemConfiguration). everywhere c.role ticked.attached (own_hello ticked)) same
      ∙ ap (λ (a : Attachment). everywhere s.configuration.role a (own_hello ticked)) (tick_is s now).heard.attached
      ∙ ap (λ (value : EsisValue). everywhere s.configuration.role s.attached value) (same_hello s ticked same often)

  pub hello_said : IsHelloDue s now → filter sends_esis (step s (MomentComes now)).outputs ≡ hello_everywhere s
  hello_said is =
      silent_before
      ∙ ap (λ (effect : Effect). filter sends_esis effect.outputs) (says_it is)
      ∙ all_left sends_esis (hello_everywhere ticked)
      (AllByRecursion-map_any (λ output. sends_esis output ≡ true) (λ port. SendsEsis port (hearers ticked.configuration.role) (own_hello ticked))
      (range_with_len 0 (length ticked.attached.ports)) (λ port. refl))
      ∙ same_everywhere

  pub next_later : IsHelloDue s now → (step s (MomentComes now)).after.next_hello ≡ now + 2 * s.hello
  next_later is =
      ap (λ (effect : Effect). effect.after.next_hello) (says_it is)
      ∙ ap (λ (n : ℕ). n + 2 * ticked.hello) at_now
      ∙ ap (λ (n : ℕ). now + 2 * n) often

  pub no_hello : ¬ (IsHelloDue s now) → filter sends_esis (step s (MomentComes now)).outputs ≡ []
  no_hello isnt = silent_before ∙ ap (λ (effect : Effect). filter sends_esis effect.outputs) (says_nothing isnt)

  pub next_stays : ¬ (IsHelloDue s now) → (step s (MomentComes now)).after.next_hello ≡ s.next_hello
  next_stays isnt = ap (λ (effect : Effect). effect.after.next_hello) (says_nothing isnt) ∙ next

-- Where a packet came to a host, maybe through a group.

module _ (s : SystemState) (neighbour : Neighbour) (to_group : Bool) (p : Packet) (following : List ℕ) (host : s.configuration.role ≡ Host) where
  abbrev come : Effect
  come = packet_comes s neighbour p following

  abbrev answer : Effect
  answer = responds come.after neighbour to_group p

  same : come.after.configuration ≡ s.configuration
  same = (packet_is s neighbour p following).itself.configuration

  same_often : come.after.hello ≡ s.hello
  same_often = (packet_is s neighbour p following).heard.hello

  come_silent : NonePasses sends_esis come.outputs
  come_silent = go (packet_sends s neighbour p following)
    where
      go : SilentOrRedirects s neighbour come.outputs → NonePasses sends_esis come.outputs
      go (inl silent) = silent
      go (inr one) = let router : s.configuration.role ≡ Router = one.1.0 in absurd (cc)

  abbrev is_asked : Bool
  is_asked = to_group && (not (p.lifetime == 0) && is_own s p.unit.destination)

  asked_is : is_asked_for come.after.configuration.role come.after to_group p ≡ is_asked
  asked_is =
      ap (λ (role : Role). is_asked_for role come.after to_group p) (ap (λ (c : SystemConfiguration). c.role) same ∙ host)
      ∙ ap (λ (c : SystemConfiguration). to_group && (not (p.lifetime == 0) && has_address c p.unit.destination)) same

  -- what it says where it is asked for or not, and silent or not
  abbrev told : (asked silent : Bool) → Effect
  told asked silent =
      if asked then (if silent then idles come.after else gives come.after (SendsEsis neighbour.port (System neighbour.snpa) (own_hello come.after) ∷ []))
      else idles come.after

  answered_by : filter sends_esis (come.outputs ++ answer.outputs) ≡ filter sends_esis (told is_asked (is_silent come.after)).outputs
  answered_by =
      none_before sends_esis come.outputs answer.outputs come_silent
      ∙ ap (λ (asked : Bool). filter sends_esis (told asked (is_silent come.after)).outputs) asked_is

  pub group_answered : IsAskedByGroup s to_group p
      → filter sends_esis (come.outputs ++ answer.outputs) ≡ SendsEsis neighbour.port (System neighbour.snpa) (own_hello s) ∷ []
  group_answered is =
      let speaks : come.after.hello ≡ 0 → ⊥ = λ none. is.speaks (sym same_often ∙ none) in
      let lives : not (p.lifetime == 0) ≡ true = not_from_false (p.lifetime == 0) (ne_eqb p.lifetime 0 is.lives) in
      answered_by
      ∙ ap (λ (asked : Bool). filter sends_esis (told asked (is_silent come.after)).outputs)
      (and_from to_group (not (p.lifetime == 0) && is_own s p.unit.destination) is.group
      (and_from (not (p.lifetime == 0)) (is_own s p.unit.destination) lives is.own))
      ∙ ap (λ (silent : Bool). filter sends_esis (told true silent).outputs) (ne_eqb come.after.hello 0 speaks)
      ∙ ap (λ (value : EsisValue). SendsEsis neighbour.port (System neighbour.snpa) value ∷ []) (same_hello s come.after same same_often)

  pub group_unanswered : ¬ (IsAskedByGroup s to_group p) → filter sends_esis (come.outputs ++ answer.outputs) ≡ []
  group_unanswered isnt = answered_by ∙ go is_asked (is_silent come.after) refl refl
    where
      go : (asked silent : Bool) → is_asked ≡ asked → is_silent come.after ≡ silent → filter sends_esis (told asked silent).outputs ≡ []
      go false silent e f = refl
      go true true e f = refl
      go true false e f =
          let both = and_parts to_group (not (p.lifetime == 0) && is_own s p.unit.destination) e in
          let more = and_parts (not (p.lifetime == 0)) (is_own s p.unit.destination) both.1 in
          absurd
          (isnt
          (record {
            group = both.0;
            lives = eqb-false p.lifetime 0 (not-true (p.lifetime == 0) more.0);
            own = more.1;
            speaks = λ none. eqb-false come.after.hello 0 f (same_often ∙ none);
          }))
