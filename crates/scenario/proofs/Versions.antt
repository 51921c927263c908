-- Texts of version 1 beside those of all versions.
use Rattle.std.proofs.Common.{◌≡◌, ◌≢◌, ◌↔◌, inl, inr, ℕ, ◌+◌, ◌-◌, ◌==◌, if◌then◌else◌, List, [], ◌∷◌, map, codes, None, Result, Ok, Err, IfOk, refl, sym, ap, ◌∙◌, arith}
use Rattle.std.specs.Str.{bytes_eq}
use Rattle.std.proofs.lemmas.Bool.{cases_Bool, eq-eqb, eqb-true, ne_eqb, true≢false}
use Rattle.std.proofs.lemmas.Result.{IfOk-at_ok}
use Rattle.clnp_plan.specs.ClnpBase.Text.{lines_of, is_skipped}
use Rattle.scenario.specs.Codes.{number_of}
use Rattle.scenario.specs.Grammar.{BadLine, ReadTo, at_line, newest_version, version_of, header_from, declarations_from, plan_behind, plan_at, plan_of, plan_of_version_1, counted_event, events_from}
use Rattle.scenario.specs.Declarations.{nothing_declared, limits_of, configuration_of}
use Rattle.scenario.specs.Events.{first_scene, nothing_counted}
use Rattle.scenario.specs.Versions.{IsReadAlike}
use Rattle.clnp_plan.specs.ScenarioPlan.Plan.{Plan}
use Rattle.scenario.specs.Words.{◌>>=◌, found}
use Rattle.scenario.specs.declared.code.Code.TheVariants as bad
use Rattle.scenario.proofs.Behind.{behind_result}

-- the line of a header is a bad one
abbrev bad_header : (line : ℕ) → Result (ReadTo ℕ) BadLine
bad_header line = Err (record { line = line; code = number_of bad.Header })

-- what a header is where version 1 alone is read
abbrev of_version_1 : Result (ReadTo ℕ) BadLine → Result (ReadTo ℕ) BadLine
of_version_1 (Err bad) = Err bad
of_version_1 (Ok header) = if header.value == 1 then Ok header else bad_header (header.number - 1)

-- the header that a line is
abbrev header_at : (newest n : ℕ) (line : List ℕ) (lines : List (List ℕ)) → Result (ReadTo ℕ) BadLine
header_at newest n line lines =
    at_line n (found (version_of newest line) bad.Header) >>= λ version. Ok (record { value = version; number = n + 1; lines = lines })

line_before : (n : ℕ) → bad_header n ≡ bad_header (n + 1 - 1)
line_before n = let same : n ≡ n + 1 - 1 = omega arith in ap bad_header same

header_line : (n : ℕ) (line : List ℕ) (lines : List (List ℕ)) → header_at 1 n line lines ≡ of_version_1 (header_at newest_version n line lines)
header_line n line lines =
    elim (cases_Bool (bytes_eq line (codes "clnp-sim 1"))) [
      | inl first ↦ rw first refl
      | inr other ↦
          elim (cases_Bool (bytes_eq line (codes "clnp-sim 2"))) [
            | inl second ↦ rw (other, second) (line_before n)
            | inr none ↦ rw (other, none) refl
          ]
    ]

header_is : (n : ℕ) (lines : List (List ℕ)) → header_from 1 n lines ≡ of_version_1 (header_from newest_version n lines)
header_is n [] = refl
header_is n (line ∷ lines) =
    elim (cases_Bool (is_skipped line)) [
      | inl skipped ↦ rw skipped (header_is (n + 1) lines)
      | inr stands ↦ rw stands (header_line n line lines)
    ]

plan_is_behind : (lines : List (List ℕ)) → plan_at None 1 lines ≡ (of_version_1 (header_from newest_version 1 lines) >>= plan_behind None)
unfolding plan_at
plan_is_behind lines = ap (λ (r : Result (ReadTo ℕ) BadLine). r >>= plan_behind None) (header_is 1 lines)

newest_is_behind : (lines : List (List ℕ)) → plan_at None newest_version lines ≡ (header_from newest_version 1 lines >>= plan_behind None)
unfolding plan_at
newest_is_behind lines = refl

-- a plan has the version of its header
behind_has_version : (header : ReadTo ℕ) → IfOk (plan_behind None header) (λ plan. plan.version ≡ header.value)
behind_has_version header =
    let Has : Plan → Type 0 = λ plan. plan.version ≡ header.value in
    behind_result (declarations_from header.number (nothing_declared header.value) header.lines) _ Has (λ declared _.
    behind_result (events_from counted_event (first_scene header.value (limits_of declared.value.limits).skew declared.value.subnets (map configuration_of declared.value.systems)) declared.number nothing_counted declared.lines) _ Has (λ events _. refl))

-- ---- what is read alike

is_first : (header : ReadTo ℕ) → header.value ≡ 1 → of_version_1 (Ok header) ≡ Ok header
is_first header one = rw (eq-eqb header.value 1 one) refl

is_later : (header : ReadTo ℕ) → header.value ≢ 1 → of_version_1 (Ok header) ≡ bad_header (header.number - 1)
is_later header other = rw (ne_eqb header.value 1 other) refl

-- a text by what is read of its header
module _ (text : List ℕ) where
  record IsReadBy (reading : Result (ReadTo ℕ) BadLine) : Type 0 where
    pub first : plan_of_version_1 text ≡ (of_version_1 reading >>= plan_behind None)
    pub all : plan_of text ≡ (reading >>= plan_behind None)

  is_read : IsReadBy (header_from newest_version 1 (lines_of text))
  is_read = record { first = plan_is_behind (lines_of text); all = newest_is_behind (lines_of text) }

  behind_first : (header : ReadTo ℕ) → IsReadBy (Ok header) → header.value ≡ 1 → plan_of_version_1 text ≡ plan_behind None header
  behind_first header is one = is.first ∙ ap (λ (r : Result (ReadTo ℕ) BadLine). r >>= plan_behind None) (is_first header one)

  behind_later : (header : ReadTo ℕ) → IsReadBy (Ok header) → header.value ≢ 1
      → plan_of_version_1 text ≡ Err (record { line = header.number - 1; code = number_of bad.Header })
  behind_later header is other = is.first ∙ ap (λ (r : Result (ReadTo ℕ) BadLine). r >>= plan_behind None) (is_later header other)

  alike : (reading : Result (ReadTo ℕ) BadLine) → IsReadBy reading → IsReadAlike text reading
  alike (Err bad) is = is.first ∙ sym is.all
  alike (Ok header) is = (λ one. behind_first header is one ∙ sym is.all, λ two. behind_later header is (λ one. omega (arith, one, two)))

  pub read_alike : IsReadAlike text (header_from newest_version 1 (lines_of text))
  read_alike = alike (header_from newest_version 1 (lines_of text)) is_read

  module _ (plan : Plan) where
    not_both : (bad : BadLine) (r : Result Plan BadLine) → r ≡ Ok plan → r ≡ Err bad → ⊥
    not_both bad r ok err = cc (ok, err)

    its_version : (header : ReadTo ℕ) → plan_behind None header ≡ Ok plan → plan.version ≡ header.value
    its_version header is = IfOk-at_ok (λ (p : Plan). p.version ≡ header.value) is (behind_has_version header)

    taken : (reading : Result (ReadTo ℕ) BadLine) → IsReadBy reading → plan_of_version_1 text ≡ Ok plan → (plan_of text ≡ Ok plan) × (plan.version ≡ 1)
    taken (Err bad) is read = absurd (not_both bad (plan_of_version_1 text) read is.first)
    taken (Ok header) is read =
        elim (cases_Bool (header.value == 1)) [
          | inl first ↦
              let one : header.value ≡ 1 = eqb-true header.value 1 first in
              let behind : plan_behind None header ≡ Ok plan = sym (behind_first header is one) ∙ read in
              (is.all ∙ behind, its_version header behind ∙ one)
          | inr other ↦
              let later : header.value ≢ 1 = λ one. true≢false (sym (eq-eqb header.value 1 one) ∙ other) in
              absurd (not_both (record { line = header.number - 1; code = number_of bad.Header }) (plan_of_version_1 text) read (behind_later header is later))
        ]

    of_first : (reading : Result (ReadTo ℕ) BadLine) → IsReadBy reading → plan_of text ≡ Ok plan → plan.version ≡ 1 → plan_of_version_1 text ≡ Ok plan
    of_first (Err bad) is read one = absurd (not_both bad (plan_of text) read is.all)
    of_first (Ok header) is read one =
        let behind : plan_behind None header ≡ Ok plan = sym is.all ∙ read in
        behind_first header is (sym (its_version header behind) ∙ one) ∙ behind

    pub taken_alike : (plan_of_version_1 text ≡ Ok plan) ↔ ((plan_of text ≡ Ok plan) × (plan.version ≡ 1))
    taken_alike =
        (λ read. taken (header_from newest_version 1 (lines_of text)) is_read read, λ both. of_first (header_from newest_version 1 (lines_of text)) is_read both.0 both.1)
