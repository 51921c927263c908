-- When a system follows a period that an intermediate system suggests, and in which order a moment is told.
use Rattle.std.proofs.Common.{◌≡◌, ◌≢◌, ◌∙◌, refl, sym, ap, subst, ℕ, ◌+◌, ◌*◌, Bool, true, false, List, [], ◌∷◌, ◌++◌, map, Option, None, Some}
use Rattle.std.specs.Prelude.{◌==◌, ◌||◌, min, if◌then◌else◌}
use Rattle.std.specs.List.{flat_map}
use Rattle.std.proofs.lemmas.Bool.{cond-false, eqb-false, ne_eqb, or_from}
use Rattle.pdus.specs.declared.esis_pdus.pdu.EsisBody.{EsisBody}
use Rattle.pdus.specs.declared.esis_pdus.pdu.EsisBody.TheVariants as body
use Rattle.pdus.specs.declared.esis_pdus.pdu.EsisBody.TheVariants.{Esh, Ish}
use Rattle.pdus.specs.EsisPdus.Value.{EsisValue, suggested}
use Rattle.clnp_plan.specs.SystemTables.declared.esis_tables.fact.Neighbour.{Neighbour}
use Rattle.clnp_plan.specs.SystemTables.declared.esis_tables.fact.TableKind.TheVariants.{Es, Is, Rd}
use Rattle.clnp_plan.specs.EsisTables.Fact.{Fact}
use Rattle.clnp_plan.specs.EsisTables.Gone.{gone}
use Rattle.clnp_plan.specs.EsisTables.NextHop.{is_router}
use Rattle.clnp_plan.specs.declared.config.Role.{Role}
use Rattle.clnp_plan.specs.declared.config.Role.TheVariants.{Host, Router}
use Rattle.clnp_plan.specs.declared.note.Note.TheVariants.{Ignored}
use Rattle.clnp_machine.specs.Due.{FollowsTimer, IsSuggested, KeepsHello}
use Rattle.clnp_machine.specs.System.{SystemState, MomentComes, Notes, gives}
use Rattle.clnp_machine.specs.Esis.{end_system_heard, esis_comes, esis_heard, follows, gone_note, hears, hears_each, intermediate_system_heard, is_silent, redirect_heard, says_hello}
use Rattle.clnp_machine.specs.Local.{tick}
use Rattle.clnp_machine.specs.Step.{outputs_of, step}
use Rattle.clnp_machine.proofs.Answering.{answers_itself, hears_hello}
use Rattle.clnp_machine.proofs.Deeds.{tick_is}

-- What is heard changes nothing of the hello by itself.

hears_next : (s : SystemState) (addresses : List (List ℕ)) (neighbour : Neighbour) (holding : ℕ) → (hears_each s addresses neighbour holding).after.next_hello ≡ s.next_hello
hears_next s [] neighbour holding = refl
hears_next s (address ∷ others) neighbour holding = hears_next (hears s Es address neighbour holding).after others neighbour holding

same_hello : (s : SystemState) → KeepsHello s s
same_hello s = record { hello = refl; next = refl }

end_system_keeps : (role : Role) (s : SystemState) (neighbour : Neighbour) (holding : ℕ) (addresses : List (List ℕ))
    → KeepsHello s (end_system_heard role s neighbour holding addresses).after
end_system_keeps Host s neighbour holding addresses = record { hello = hears_hello s addresses neighbour holding; next = hears_next s addresses neighbour holding }
end_system_keeps Router s neighbour holding addresses =
    subst (KeepsHello s) (sym (answers_itself (hears_each s addresses neighbour holding) neighbour))
    (record { hello = hears_hello s addresses neighbour holding; next = hears_next s addresses neighbour holding })

redirect_keeps : (role : Role) (s : SystemState) (neighbour : Neighbour) (holding : ℕ) (to via : List ℕ) → KeepsHello s (redirect_heard role s neighbour holding to via).after
redirect_keeps Host s neighbour holding to via = go (is_router s.moment neighbour.snpa s.facts)
  where
    go : (test : Bool)
        → KeepsHello s (if test then hears s Rd to (record { port = neighbour.port; snpa = via }) holding else gives s (Notes (Ignored true) ∷ [])).after
    go true = record { hello = refl; next = refl }
    go false = same_hello s
redirect_keeps Router s neighbour holding to via = same_hello s

-- A suggested period.

module _ (s : SystemState) (neighbour : Neighbour) (holding : ℕ) (title : List ℕ) where
  -- the system as it is when an intermediate system was heard
  abbrev knowing : SystemState
  knowing = (hears s Is title neighbour holding).after

  followed : (timer : Option ℕ) → (intermediate_system_heard Host s neighbour holding title timer).after ≡ follows knowing timer
  followed timer = ap (λ (t : SystemState). follows t timer) (answers_itself (hears s Is title neighbour holding) neighbour)

  follows_it : (seconds : ℕ) → seconds ≢ 0 → s.hello ≢ 0 → FollowsTimer seconds s (intermediate_system_heard Host s neighbour holding title (Some seconds)).after
  follows_it seconds some speaks =
      let later : SystemState = record knowing { hello = seconds; next_hello = min knowing.next_hello (knowing.moment + 2 * seconds) } in
      let counts : follows knowing (Some seconds) ≡ later =
      cond-false (seconds == 0 || is_silent knowing) knowing later
      (or_from (seconds == 0) (is_silent knowing) (ne_eqb seconds 0 some) (ne_eqb knowing.hello 0 speaks)) in
      subst (FollowsTimer seconds s) (sym (followed (Some seconds) ∙ counts)) (record { hello = refl; next = refl })

  ignores : (timer : Option ℕ) → ((seconds : ℕ) → timer ≡ Some seconds → seconds ≢ 0 → s.hello ≢ 0 → ⊥)
      → KeepsHello s (intermediate_system_heard Host s neighbour holding title timer).after
  ignores None none = subst (KeepsHello s) (sym (followed None)) (record { hello = refl; next = refl })
  ignores (Some seconds) none = subst (KeepsHello s) (sym (followed (Some seconds))) (go (seconds == 0) (is_silent knowing) refl refl)
    where
      go : (zero_is silent : Bool) → (seconds == 0) ≡ zero_is → is_silent knowing ≡ silent
          → KeepsHello s
          (if zero_is || silent then knowing else record knowing { hello = seconds; next_hello = min knowing.next_hello (knowing.moment + 2 * seconds) })
      go true silent e f = record { hello = refl; next = refl }
      go false true e f = record { hello = refl; next = refl }
      go false false e f = absurd (none seconds refl (eqb-false seconds 0 e) (eqb-false knowing.hello 0 f))

heard_keeps : (role : Role) (s : SystemState) (neighbour : Neighbour) (holding : ℕ) (told : EsisBody) (timer : Option ℕ)
    → ((title : List ℕ) (seconds : ℕ) → role ≡ Host → told ≡ Ish title → timer ≡ Some seconds → seconds ≢ 0 → s.hello ≢ 0 → ⊥)
    → KeepsHello s (esis_heard role s neighbour holding told timer).after
heard_keeps role s neighbour holding (Esh addresses) timer none = end_system_keeps role s neighbour holding addresses
heard_keeps Host s neighbour holding (Ish title) timer none = ignores s neighbour holding title timer (λ seconds. none title seconds refl refl)
heard_keeps Router s neighbour holding (Ish title) timer none = same_hello s
heard_keeps role s neighbour holding (body.Rd to via title) timer none = redirect_keeps role s neighbour holding to via

pub hello_stays : (s : SystemState) (neighbour : Neighbour) (v : EsisValue) → ((seconds : ℕ) → ¬ (IsSuggested s v seconds)) → KeepsHello s (esis_comes s neighbour v).after
hello_stays s neighbour v none =
    heard_keeps s.configuration.role s neighbour v.holding v.body (suggested v.body v.options)
    (λ title seconds host by timer some speaks.
    none seconds (record { host = host; title = title; by = by; timer = timer; some = some; speaks = speaks }))

pub hello_follows : (s : SystemState) (neighbour : Neighbour) (v : EsisValue) (seconds : ℕ) → IsSuggested s v seconds → FollowsTimer seconds s (esis_comes s neighbour v).after
hello_follows s neighbour v seconds is =
    let heard : Role → EsisBody → Option ℕ → SystemState = λ role told timer. (esis_heard role s neighbour v.holding told timer).after in
    let same : heard s.configuration.role v.body (suggested v.body v.options) ≡ heard Host (Ish is.title) (Some seconds) =
    ap (λ (role : Role). heard role v.body (suggested v.body v.options)) is.host
    ∙ ap (λ (timer : Option ℕ). heard Host v.body timer) is.timer
    ∙ ap (λ (told : EsisBody). heard Host told (Some seconds)) is.by in
    subst (FollowsTimer seconds s) (sym same) (follows_it s neighbour v.holding is.title seconds is.some is.speaks)

-- A moment.

pub told_in_order : (s : SystemState) (now : ℕ)
    → (step s (MomentComes now)).outputs
    ≡ flat_map (outputs_of (tick s now).after) (tick s now).actions ++ (map gone_note (gone s.moment now s.facts) ++ (says_hello (tick s now).after).outputs)
told_in_order s now =
    let t = (tick s now).after in
    let expired = flat_map (outputs_of t) (tick s now).actions in
    let hello = (says_hello t).outputs in
    ap (λ (moment : ℕ). expired ++ (map gone_note (gone s.moment moment t.facts) ++ hello)) (tick_is s now).moment
    ∙ ap (λ (facts : List Fact). expired ++ (map gone_note (gone s.moment now facts) ++ hello)) (tick_is s now).heard.facts
