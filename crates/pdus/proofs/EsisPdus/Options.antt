-- Options that fill a part, and the timer among them.
use Rattle.std.proofs.Common.{◌≡◌, ◌≢◌, ◌∙◌, inl, inr, refl, sym, ap, ℕ, ◌+◌, ◌==◌, Bool, true, false, List, [], ◌∷◌, ◌++◌, length, None, arith, length-append}
use Rattle.std.specs.Prelude.{All}
use Rattle.std.proofs.lemmas.Bool.{cases_eq, eq-eqb, ne_eqb, eqb-true}
use Rattle.std.proofs.lemmas.List.{append-nil, nil_from_length}
use Rattle.std.proofs.lemmas.List.Elements.{All-nil, All-cons, All-head, All-tail}
use Rattle.pdus.specs.ClnpOptions.Parameter.{Parameter, parameters, spelled, size_of}
use Rattle.pdus.specs.ClnpOptions.Rules.{place_of_unfit}
pub use Rattle.pdus.proofs.ClnpOptions.Parts.{split_of, parameters-of_spelled, parameters-Forms, spelled-nil}
use Rattle.pdus.specs.EsisPdus.Timer.{timer, place_of_wrong_timer}
use Rattle.pdus.specs.EsisPdus.Grammar.{HasOneTimer}
use Rattle.pdus.proofs.EsisPdus.Timers.{timer_here, other_here, wrong_here}
use Rattle.clnp_base.proofs.Lists.{pairs_first, pairs_others}
use Rattle.std.proofs.lemmas.List.Kept.{AllPairs-cons}

-- ---- options that fill a part

pub options_again : (first : ℕ) (part : List ℕ) → place_of_unfit first part ≡ None → part ≡ spelled (parameters part)
options_again first part h =
    let s = split_of part in
    let same : length (spelled (parameters part)) ≡ length part = by_test (length (spelled (parameters part)) == length part) refl in
    let none : s.rest ≡ [] = nil_from_length s.rest (omega (arith, same, ap length s.octets_are, length-append (spelled (parameters part)) s.rest)) in
    s.octets_are ∙ ap (λ (t : List ℕ). spelled (parameters part) ++ t) none ∙ append-nil (spelled (parameters part))
  where
    by_test : (b : Bool) → (length (spelled (parameters part)) == length part) ≡ b → length (spelled (parameters part)) ≡ length part
    by_test true e = eqb-true _ _ e
    by_test false e = let k = rw e at h in cc

pub options_fill : (first : ℕ) (part : List ℕ) (options : List Parameter) → part ≡ spelled options → place_of_unfit first part ≡ None
options_fill first part options e =
    let same : length (spelled (parameters part)) ≡ length part = ap (λ (os : List Parameter). length (spelled os)) (parameters-Forms options part e) ∙ ap length (sym e) in
    rw (eq-eqb _ _ same) refl

-- ---- the timer

abbrev pub IsTwoOctets : Parameter → Type 0
IsTwoOctets o = o.code ≡ timer → length o.value ≡ 2

abbrev pub NotBoth : Parameter → Parameter → Type 0
NotBoth a b = a.code ≡ timer → b.code ≡ timer → ⊥

abbrev pub IsNoTimer : Parameter → Type 0
IsNoTimer o = o.code ≢ timer

-- what a walk that found nothing wrong says, behind a timer or before one
pub record IsOnce (seen : Bool) (options : List Parameter) : Type 0 where
  pub timer : HasOneTimer options
  pub none_more : seen ≡ true → All IsNoTimer options

weaker : (o : Parameter) (os : List Parameter) → All IsNoTimer os → All (NotBoth o) os
weaker o os h k d within = λ e f. h k d within f

pub is_once : (seen : Bool) (place : ℕ) (options : List Parameter) → place_of_wrong_timer seen place options ≡ None → IsOnce seen options
is_once seen place [] h = record {
  timer = record { two_octets = All-nil IsTwoOctets; once = λ i j d lt within. absurd (omega arith) };
  none_more = λ e. All-nil IsNoTimer;
}
is_once true place (o ∷ os) h =
    elim (cases_eq o.code timer) [
      | inl e ↦ let k = sym (wrong_here o os true place e refl) ∙ h in cc
      | inr n ↦
          let r = is_once true (place + size_of o) os (sym (other_here o os true place n) ∙ h) in
          record {
            timer = record {
              two_octets = All-cons IsTwoOctets o os (λ e. absurd (n e)) r.timer.two_octets;
              once = AllPairs-cons NotBoth o os (λ k d within e f. n e) r.timer.once;
            };
            none_more = λ e. All-cons IsNoTimer o os n (r.none_more e);
          }
    ]
is_once false place (o ∷ os) h =
    elim (cases_eq o.code timer) [
      | inl e ↦
          elim (cases_eq (length o.value) 2) [
            | inl two ↦
                let r = is_once true (place + size_of o) os (sym (timer_here o os place e two) ∙ h) in
                record {
                  timer = record {
                    two_octets = All-cons IsTwoOctets o os (λ _. two) r.timer.two_octets;
                    once = AllPairs-cons NotBoth o os (weaker o os (r.none_more refl)) r.timer.once;
                  };
                  none_more = λ e. cc;
                }
            | inr not_two ↦ let k = sym (wrong_here o os false place e (rw (ne_eqb (length o.value) 2 not_two) refl)) ∙ h in cc
          ]
      | inr n ↦
          let r = is_once false (place + size_of o) os (sym (other_here o os false place n) ∙ h) in
          record {
            timer = record {
              two_octets = All-cons IsTwoOctets o os (λ e. absurd (n e)) r.timer.two_octets;
              once = AllPairs-cons NotBoth o os (λ k d within e f. n e) r.timer.once;
            };
            none_more = λ e. cc;
          }
    ]

none_behind : (o : Parameter) (os : List Parameter) → o.code ≡ timer → All (NotBoth o) os → All IsNoTimer os
none_behind o os e h k d within = λ f. h k d within e f

pub nothing_wrong : (seen : Bool) (place : ℕ) (options : List Parameter) → IsOnce seen options → place_of_wrong_timer seen place options ≡ None
unfolding place_of_wrong_timer
nothing_wrong seen place [] h = refl
nothing_wrong true place (o ∷ os) h =
    let n = All-head IsNoTimer o os (h.none_more refl) in
    other_here o os true place n
    ∙ nothing_wrong true (place + size_of o) os (record {
      timer = record { two_octets = All-tail IsTwoOctets o os h.timer.two_octets; once = pairs_others NotBoth o os h.timer.once };
      none_more = λ e. All-tail IsNoTimer o os (h.none_more e);
    })
nothing_wrong false place (o ∷ os) h =
    elim (cases_eq o.code timer) [
      | inl e ↦
          timer_here o os place e (All-head IsTwoOctets o os h.timer.two_octets e)
          ∙ nothing_wrong true (place + size_of o) os (record {
            timer = record { two_octets = All-tail IsTwoOctets o os h.timer.two_octets; once = pairs_others NotBoth o os h.timer.once };
            none_more = λ _. none_behind o os e (pairs_first NotBoth o os h.timer.once);
          })
      | inr n ↦
          other_here o os false place n
          ∙ nothing_wrong false (place + size_of o) os (record {
            timer = record { two_octets = All-tail IsTwoOctets o os h.timer.two_octets; once = pairs_others NotBoth o os h.timer.once };
            none_more = λ e. cc;
          })
    ]

pub once_from : (options : List Parameter) → HasOneTimer options → IsOnce false options
once_from options h = record { timer = h; none_more = λ e. cc }
