-- What is so of an accepted text: no source has two shares, and the frames are in their ranges.
use Rattle.std.proofs.Common.{◌≡◌, ◌≢◌, ℕ, ◌+◌, false, not, List, [], ◌∷◌, ◌++◌, length, map, sum, ◌≤◌, codes, Some, Result, Ok, IfOk, nat_le, nat_lt, sym, ◌∙◌, subst, inl, inr, arith}
use Rattle.std.specs.Prelude.{◌==◌, slice_get}
use Rattle.std.specs.List.{AllByRecursion}
use Rattle.std.specs.Str.{bytes_eq}
use Rattle.std.proofs.lemmas.Bool.{and_parts, cases_Bool, leb-true, not-true, true≢false}
use Rattle.std.proofs.lemmas.List.{map-append}
use Rattle.std.proofs.lemmas.Option.{get_or_from_slice_get, none-some, same_Some, slice_get_within}
use Rattle.scenario.specs.ClnpBase.Text.{lines_of, words_of, is_skipped}
use Rattle.scenario.proofs.ClnpBase.Choices.{is_equal, not_equal}
use Rattle.scenario.proofs.ClnpBase.Found.{contains_any}
use Rattle.scenario.proofs.ClnpBase.Lists.{AllByRecursion-push, slice_get-push, slice_get-push_other}
use Rattle.scenario.proofs.ClnpBase.Maps.{list_any-map}
use Rattle.scenario.proofs.ClnpBase.SameOctets.{same-itself}
use Rattle.system_tables.specs.declared.reassembly.table.TableLimits.{TableLimits}
use Rattle.system_tables.specs.declared.fair_reassembly.came.Came.{Came}
use Rattle.system_tables.specs.declared.fair_reassembly.share.Share.{Share}
use Rattle.system_tables.specs.FairReassembly.Tables.{AreDistinct, limits_of, sources_of}
use Rattle.scenario.specs.Grammar.{BadLine, ReadTo, is_line_of, nothing_after}
use Rattle.scenario.proofs.Behind.{behind_found, behind_line_such, behind_result, behind_such, behind_wanted, either_way, number_is_within}
use Rattle.scenario.specs.Words.{five_words, frame_word, literal, number_word, two_words}
use Rattle.clnp_program.specs.FairCommands.Claims.{IsAccepted, IsInRange}
use Rattle.clnp_program.specs.FairCommands.Grammar.{Capture, are_few, budget_word, capture_at, capture_of, frame_line, frames_from, has_share, header_from, hold_word, next_frame, others_from, others_line, segments_word, share_line, shares_from, slots_word, with_share}

-- one source more, which isn't there yet
distinct-push : (sources : List (List ℕ)) (from : List ℕ) → AreDistinct sources → ((i : ℕ) → slice_get sources i ≡ Some from → ⊥)
    → AreDistinct (sources ++ from ∷ [])
distinct-push sources from all new i j source at_i at_j =
    let last : (k : ℕ) → length sources ≡ k → slice_get (sources ++ from ∷ []) k ≡ Some source → source ≡ from
    = λ k here at. sym (same_Some from source (sym (slice_get-push sources k from here) ∙ at)) in
    let early : (k : ℕ) → length sources ≢ k → slice_get (sources ++ from ∷ []) k ≡ Some source → slice_get sources k ≡ Some source
    = λ k there at. sym (slice_get-push_other sources k from there) ∙ at in
    let none : (k : ℕ) → slice_get sources k ≡ Some source → source ≡ from → ⊥
    = λ k at same. new k (subst (λ (s : List ℕ). slice_get sources k ≡ Some s) same at) in
    elim (cases_Bool (length sources == i)) [
      | inl ti ↦ elim (cases_Bool (length sources == j)) [
        | inl tj ↦ (sym (is_equal (length sources) i ti) ∙ is_equal (length sources) j tj)
        | inr fj ↦ absurd (none j (early j (not_equal (length sources) j fj) at_j) (last i (is_equal (length sources) i ti) at_i))
      ]
      | inr fi ↦ elim (cases_Bool (length sources == j)) [
        | inl tj ↦ absurd (none i (early i (not_equal (length sources) i fi) at_i) (last j (is_equal (length sources) j tj) at_j))
        | inr fj ↦ all i j source (early i (not_equal (length sources) i fi) at_i) (early j (not_equal (length sources) j fj) at_j)
      ]
    ]

-- a source without a share isn't among those that have one
not_there : (shares : List Share) (from : List ℕ) → has_share shares from ≡ false → (i : ℕ) → slice_get (sources_of shares) i ≡ Some from → ⊥
not_there shares from none i at =
    let some = contains_any (λ (other : List ℕ). bytes_eq other from) (sources_of shares) from
    (i, slice_get_within (sources_of shares) i from at, get_or_from_slice_get (sources_of shares) i from from at) (same-itself from) in
    true≢false (sym some ∙ list_any-map (λ (s : Share). s.from) (λ (other : List ℕ). bytes_eq other from) shares ∙ none)

one_more : (shares : List Share) (share : Share) → AreDistinct (sources_of shares) → has_share shares share.from ≡ false
    → AreDistinct (sources_of (shares ++ share ∷ []))
one_more shares share all none =
    subst AreDistinct (sym (map-append (λ (s : Share). s.from) shares (share ∷ [])))
    (distinct-push (sources_of shares) share.from all (not_there shares share.from none))

-- no source has two shares, and all tables together hold so much
record AreFit (others : TableLimits) (shares : List Share) : Type 0 where
  distinct : AreDistinct (sources_of shares)
  budget : sum (map (λ (limits : TableLimits). limits.budget) (limits_of others shares)) ≤ 16777216

with_share_fit : (others : TableLimits) (shares : List Share) (share : Share) → AreFit others shares → IfOk (with_share others shares share) (AreFit others)
with_share_fit others shares share all =
    behind_wanted (not (has_share shares share.from)) _ _ (AreFit others) (λ t.
    behind_wanted (are_few others (shares ++ share ∷ [])) _ _ (AreFit others) (λ few.
    let sums = (and_parts (nat_le (length (shares ++ share ∷ [])) 64) _ few).1 in
    record {
      distinct = one_more shares share all.distinct (not-true (has_share shares share.from) t);
      budget = leb-true _ 16777216 (and_parts _ (nat_le (sum (map (λ (limits : TableLimits). limits.budget) (limits_of others (shares ++ share ∷ [])))) 16777216) sums).1;
    }))

shares_fit : (others : TableLimits) (lines : List (List ℕ)) (n : ℕ) (shares : List Share) → AreFit others shares
    → IfOk (shares_from n others shares lines) (λ (read : ReadTo (List Share)). AreFit others read.value)
shares_fit others [] n shares all = tt
shares_fit others (line ∷ lines) n shares all =
    let P : ReadTo (List Share) → Type 0 = λ read. AreFit others read.value in
    either_way (is_skipped line) _ _ P (shares_fit others lines (n + 1) shares all)
    (either_way (is_line_of (codes "frames") (words_of line)) _ _ P all
    (behind_line_such n _ _ (AreFit others) P
    (behind_result (share_line others.hold (words_of line)) _ (AreFit others) (λ share _. with_share_fit others shares share all))
    (λ more fit. shares_fit others lines (n + 1) more fit)))

-- the table of all sources without a share holds at most so much
abbrev IsSmall : TableLimits → Type 0
IsSmall others = others.budget ≤ 4194304

others_small : (words : List (List ℕ)) → IfOk (others_line words) IsSmall
others_small words =
    behind_found (five_words words) _ _ IsSmall (λ line _.
    behind_result (literal (codes "others") line.0) _ IsSmall (λ _ _.
    behind_result (slots_word line.1) _ IsSmall (λ slots _.
    behind_result (segments_word line.2) _ IsSmall (λ segments _.
    behind_such (budget_word line.3) _ _ IsSmall (number_is_within 512 4194304 line.3) (λ budget within.
    behind_result (hold_word line.4) _ IsSmall (λ hold _. within.most))))))

others_read_small : (lines : List (List ℕ)) (n : ℕ) → IfOk (others_from n lines) (λ (read : ReadTo TableLimits). IsSmall read.value)
others_read_small [] n = tt
others_read_small (line ∷ lines) n =
    let P : ReadTo TableLimits → Type 0 = λ read. IsSmall read.value in
    either_way (is_skipped line) _ _ P (others_read_small lines (n + 1))
    (behind_line_such n _ _ IsSmall P (others_small (words_of line)) (λ others small. small))

-- ---- frames

next_in_range : (last count : ℕ) (words : List (List ℕ)) → IfOk (next_frame last count words) IsInRange
next_in_range last count words =
    behind_such (frame_line last words) _ IsInRange IsInRange
    (behind_found (two_words words) _ _ IsInRange (λ line _.
    behind_wanted (not (bytes_eq line.0 (codes "end"))) _ _ IsInRange (λ _.
    behind_such (number_word last 4294967295 line.0) _ _ IsInRange (number_is_within last 4294967295 line.0) (λ moment within.
    behind_result (frame_word line.1) _ IsInRange (λ octets _.
    behind_wanted (nat_le (length octets) 70000) _ _ IsInRange (λ t.
    record { moment = omega (arith, within.most); few = leb-true (length octets) 70000 t }))))))
    (λ came h. behind_wanted (nat_lt count 100000) _ _ IsInRange (λ _. h))

frames_in_range : (lines : List (List ℕ)) (n last : ℕ) (frames : List Came) → AllByRecursion IsInRange frames
    → IfOk (frames_from n last frames lines) (AllByRecursion IsInRange)
frames_in_range [] n last frames all = tt
frames_in_range (line ∷ lines) n last frames all =
    let P : List Came → Type 0 = AllByRecursion IsInRange in
    either_way (is_skipped line) _ _ P (frames_in_range lines (n + 1) last frames all)
    (either_way (is_line_of (codes "end") (words_of line)) _ _ P (behind_result (nothing_after (n + 1) lines) _ P (λ _ _. all))
    (behind_line_such n _ _ IsInRange P (next_in_range last (length frames) (words_of line))
    (λ came h. frames_in_range lines (n + 1) came.moment (frames ++ came ∷ []) (AllByRecursion-push IsInRange frames came all h))))

-- ---- a text

none_distinct : AreDistinct []
none_distinct i j source at_i at_j = absurd (none-some source at_i)

none_fit : (others : TableLimits) → IsSmall others → AreFit others []
none_fit others small = record { distinct = none_distinct; budget = omega arith }

capture_accepted : (lines : List (List ℕ)) → IfOk (capture_at lines) IsAccepted
unfolding capture_at
capture_accepted lines =
    behind_result (header_from 1 lines) _ IsAccepted (λ header _.
    behind_such (others_from header.number header.lines) _ _ IsAccepted (others_read_small header.lines header.number) (λ others small.
    behind_such (shares_from others.number others.value [] others.lines) _ _ IsAccepted
    (shares_fit others.value others.lines others.number [] (none_fit others.value small)) (λ shares fit.
    behind_such (frames_from shares.number 0 [] shares.lines) _ _ IsAccepted (frames_in_range shares.lines shares.number 0 [] tt) (λ frames all.
    record { distinct = fit.distinct; budget = fit.budget; in_range = all }))))

pub accepted : (text : List ℕ) (capture : Capture) → capture_of text ≡ Ok capture → IsAccepted capture
accepted text capture e = subst (λ (reading : Result Capture BadLine). IfOk reading IsAccepted) e (capture_accepted (lines_of text))
