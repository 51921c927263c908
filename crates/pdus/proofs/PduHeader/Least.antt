-- The chain of the rules tells the least rule of the table that is broken.
use Rattle.std.proofs.Common.{◌≡◌, ◌∙◌, refl, sym, ap, ℕ, zero, suc, ◌+◌, ◌-◌, ◌<◌, Bool, true, false, if◌then◌else◌, List, [], ◌∷◌, length, get_or, Option, None, Some, arith}
use Rattle.std.specs.Prelude.{◌↔◌, option_map}
use Rattle.std.specs.Option.{option_or}
use Rattle.clnp_base.proofs.Choices.{option_or-assoc, option_or-nothing}
use Rattle.pdus.specs.declared.clnp_options.judge.OptionRefusal.{OptionRefusal}
use Rattle.pdus.specs.ClnpOptions.Rules.{form_refusal, list_refusal, refusal as options_refusal}
use Rattle.pdus.specs.PduHeader.Rules.{addresses_refusal, extent_refusal, fixed_part_refusal, header_refusal, lengths_refusal, refusal}
use Rattle.pdus.specs.PduHeader.Table.{AreKept, IsLeastBroken, Rule, table}

-- what a rule tells at a place
abbrev at_place : (number reason : ℕ) → Option ℕ → Option OptionRefusal
at_place number reason place = option_map (λ p. record { rule = number; reason = reason; place = p }) place

-- the first rule that is broken, where the first of these has a number
least : ℕ → List Rule → Option OptionRefusal
least number [] = None
least number (rule ∷ others) = option_or (at_place number rule.reason rule.broken_at) (least (number + 1) others)

-- ---- the chain is the least

-- a test in the chain
test_or : (number reason place : ℕ) (b : Bool) (others : Option OptionRefusal) → (if b then Some (let s : OptionRefusal = record { rule = number; reason = reason; place = place } in s) else others) ≡ option_or (at_place number reason (if b then Some place else None)) others
test_or number reason place true others = refl
test_or number reason place false others = refl

chain_is_least : (frame : List ℕ) → refusal frame ≡ least 1 (table frame)
unfolding refusal extent_refusal header_refusal fixed_part_refusal addresses_refusal lengths_refusal options_refusal form_refusal list_refusal table least
chain_is_least frame = simp (test_or, option_or-assoc, option_or-nothing)

-- ---- what the least is

no_rule : Rule
no_rule = record { reason = 0; broken_at = None }

-- what is told is the rule at an index, and none before it is broken
record IsTold (number : ℕ) (rules : List Rule) (r : OptionRefusal) : Type 0 where
  index : ℕ
  rule_is : r.rule ≡ number + index
  inside : index < length rules
  reason : (get_or rules index no_rule).reason ≡ r.reason
  place : (get_or rules index no_rule).broken_at ≡ Some r.place
  before : (j : ℕ) → j < index → (get_or rules j no_rule).broken_at ≡ None

same_refusal : (number reason place : ℕ) (r : OptionRefusal) → number ≡ r.rule → reason ≡ r.reason → place ≡ r.place → (let s : OptionRefusal = record { rule = number; reason = reason; place = place } in s) ≡ r
same_refusal number reason place r a b c = rw (a, b, c) refl

-- what is told of the others, where a rule before them isn't broken
told_behind : (rule : Rule) (others : List Rule) (number : ℕ) (r : OptionRefusal) → rule.broken_at ≡ None → IsTold (number + 1) others r → IsTold number (rule ∷ others) r
told_behind rule others number r e tail = record {
  index = suc tail.index;
  rule_is = omega (arith, tail.rule_is);
  inside = omega (arith, tail.inside);
  reason = tail.reason;
  place = tail.place;
  before = before_or tail.before;
}
  where
    before_or : ((j : ℕ) → j < tail.index → (get_or others j no_rule).broken_at ≡ None) → (j : ℕ) → j < suc tail.index → (get_or (rule ∷ others) j no_rule).broken_at ≡ None
    before_or rest zero low = e
    before_or rest (suc j) low = rest j (omega arith)

told_first : (rule : Rule) (others : List Rule) (number p : ℕ) (r : OptionRefusal) → rule.broken_at ≡ Some p
    → Some (let s : OptionRefusal = record { rule = number; reason = rule.reason; place = p } in s) ≡ Some r → IsTold number (rule ∷ others) r
told_first rule others number p r e is =
    let at : number ≡ r.rule = cc in
    let cause : rule.reason ≡ r.reason = cc in
    let here : p ≡ r.place = cc in
    record {
      index = 0;
      rule_is = omega arith;
      inside = omega arith;
      reason = cause;
      place = e ∙ ap Some here;
      before = λ j low. absurd (omega arith);
    }

told : (rules : List Rule) (number : ℕ) (r : OptionRefusal) → least number rules ≡ Some r → IsTold number rules r
unfolding least
told [] number r h = cc
told (rule ∷ others) number r h = by_found rule.broken_at refl (λ e. told others (number + 1) r (rw e at h))
  where
    by_found : (o : Option ℕ) → rule.broken_at ≡ o → (rule.broken_at ≡ None → IsTold (number + 1) others r) → IsTold number (rule ∷ others) r
    by_found (Some p) e tail = told_first rule others number p r e (rw e at h)
    by_found None e tail = told_behind rule others number r e (tail e)

is_least : (rules : List Rule) (number index : ℕ) (r : OptionRefusal) → r.rule ≡ number + index → index < length rules
    → (get_or rules index no_rule).reason ≡ r.reason → (get_or rules index no_rule).broken_at ≡ Some r.place
    → ((j : ℕ) → j < index → (get_or rules j no_rule).broken_at ≡ None)
    → least number rules ≡ Some r
unfolding least
is_least [] number index r at inside reason place before = absurd (omega arith)
is_least (rule ∷ others) number zero r at inside reason place before = rw place (ap Some (same_refusal number rule.reason r.place r (omega arith) reason refl))
is_least (rule ∷ others) number (suc index) r at inside reason place before =
    let none : rule.broken_at ≡ None = before zero (omega arith) in
    rw none (is_least others (number + 1) index r (omega arith) (omega arith) reason place (λ j low. before (suc j) (omega arith)))

pub refused_by_least : (frame : List ℕ) (r : OptionRefusal) → (refusal frame ≡ Some r) ↔ IsLeastBroken (table frame) r
unfolding no_rule
refused_by_least frame r = (
  λ h.
      let is = told (table frame) 1 r (sym (chain_is_least frame) ∙ h) in
      let at : r.rule - 1 ≡ is.index = omega (arith, is.rule_is) in
      record {
        first = omega (arith, is.rule_is);
        last = omega (arith, is.rule_is, is.inside);
        reason = rw at is.reason;
        place = rw at is.place;
        least = λ number first low. is.before (number - 1) (omega (arith, is.rule_is));
      },
  λ k.
      let first = k.first in
      let last = k.last in
      chain_is_least frame
      ∙ is_least (table frame) 1 (r.rule - 1) r (omega arith) (omega arith) k.reason k.place
      (λ j low. let at : j + 1 - 1 ≡ j = omega arith in rw at at (k.least (j + 1) (omega arith) (omega arith))),
)

kept : (rules : List Rule) (number : ℕ) → least number rules ≡ None → AreKept rules
unfolding least
kept [] number h = tt
kept (rule ∷ others) number h = by_found rule.broken_at refl (λ e. kept others (number + 1) (rw e at h))
  where
    by_found : (o : Option ℕ) → rule.broken_at ≡ o → (rule.broken_at ≡ None → AreKept others) → AreKept (rule ∷ others)
    by_found (Some p) e tail = let wrong = rw e at h in absurd (cc)
    by_found None e tail = (e, tail e)

keeping : (rules : List Rule) (number : ℕ) → AreKept rules → least number rules ≡ None
unfolding least
keeping [] number h = refl
keeping (rule ∷ others) number h = rw h.0 (keeping others (number + 1) h.1)

pub kept_where_none : (frame : List ℕ) → (refusal frame ≡ None) ↔ AreKept (table frame)
kept_where_none frame = (
  λ h. kept (table frame) 1 (sym (chain_is_least frame) ∙ h),
  λ k. chain_is_least frame ∙ keeping (table frame) 1 k,
)

pub twenty_rules : (frame : List ℕ) → length (table frame) ≡ 20
unfolding table
twenty_rules frame = refl
