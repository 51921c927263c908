-- A header whose octets from a place on are taken over, one after another, from a changed copy.
use Rattle.std.proofs.Common.{◌≡◌, ◌∙◌, sym, ap, refl, ℕ, ◌+◌, ◌-◌, ◌<◌, ◌≤◌, Bool, true, false, List, [], ◌++◌, length, get_or, take, drop, arith, append-nil}
use Rattle.std.specs.Prelude.{slice_set}
use Rattle.std.proofs.Math.ListN.{set}
use Rattle.std.proofs.lemmas.List.{set-get_or, get_or-drop, length-drop, drop_all}
use Rattle.std.proofs.lemmas.List.Edits.{paste_none, paste_more, paste_all}
use Rattle.std.proofs.lemmas.Grind.{common_steps}
use lib.Seq.{paste}
use Rattle.pdus.specs.PduHeader.Parts.{checked}
use Rattle.pdus.proofs.PduHeader.Changed.{octet_in}
use Rattle.pdus.proofs.PduHeader.Shape.{length-sealed}

-- the octets of the copy stand from `start` up to the index
abbrev pub taken : List ℕ → List ℕ → ℕ → ℕ → List ℕ
taken plain changed start index = paste plain start (drop start changed) (index - start)

-- up to the index the header took over the octets of the copy, whatever it was
abbrev pub TakesOver : List ℕ → List ℕ → List ℕ → ℕ → ℕ → Type 0
TakesOver old new changed start index =
    (is_sealed : Bool) (plain : List ℕ) → get_or plain 7 0 ≡ 0 → old ≡ checked is_sealed plain → new ≡ checked is_sealed (taken plain changed start index)

pub length-checked : (is_sealed : Bool) (plain : List ℕ) → length (checked is_sealed plain) ≡ length plain
length-checked true plain = length-sealed plain
length-checked false plain = refl

pub taken_none : (plain changed : List ℕ) (start : ℕ) → plain ≡ taken plain changed start start
taken_none plain changed start =
    let none : 0 ≡ start - start = omega arith in
    paste_none plain start (drop start changed) ∙ ap (λ k. paste plain start (drop start changed) k) none

pub taken_all : (plain changed : List ℕ) (start : ℕ) → start ≤ length plain → length changed ≡ length plain → taken plain changed start (length plain) ≡ take start plain ++ drop start changed
taken_all plain changed start within same =
    let ends : drop (start + (length plain - start)) plain ≡ [] = drop_all (start + (length plain - start)) plain (omega arith) in
    paste_all plain start (drop start changed) (length plain - start) (omega (arith, length-drop start changed))
    ∙ ap (λ t. take start plain ++ (drop start changed ++ t)) ends
    ∙ ap (λ t. take start plain ++ t) (append-nil (drop start changed))

pub taken_more : (plain changed : List ℕ) (start index : ℕ) → start ≤ index → index < length plain → length changed ≡ length plain
    → set (taken plain changed start index) index (get_or changed index 0) ≡ taken plain changed start (index + 1)
taken_more plain changed start index low high same =
    let k = index - start in
    let here : start + k ≡ index = omega arith in
    let next : k + 1 ≡ index + 1 - start = omega arith in
    let read : get_or (drop start changed) k 0 ≡ get_or changed index 0 = get_or-drop start changed k 0 ∙ ap (λ i. get_or changed i 0) here in
    ap (λ v. set (taken plain changed start index) index v) (sym read)
    ∙ ap (λ i. set (taken plain changed start index) i (get_or (drop start changed) k 0)) (sym here)
    ∙ paste_more plain start (drop start changed) k 0 (omega arith) (omega (arith, length-drop start changed))
    ∙ ap (λ n. paste plain start (drop start changed) n) next

-- what stands before `start` stays
taken_before : (plain changed : List ℕ) (start index i : ℕ) → i < start → start ≤ length plain → get_or (taken plain changed start index) i 0 ≡ get_or plain i 0
taken_before plain changed start index i low within = grind (arith, common_steps)

-- one more octet is the same in header and copy
pub one_same : (old new changed : List ℕ) (start index : ℕ) → 9 ≤ start → start ≤ index → index < length old → length changed ≡ length old
    → get_or new index 0 ≡ get_or changed index 0 → TakesOver old new changed start index → TakesOver old new changed start (index + 1)
one_same old new changed start index behind low high same is so_far is_sealed plain zero e =
    let size : length old ≡ length plain = ap length e ∙ length-checked is_sealed plain in
    let now = so_far is_sealed plain zero e in
    let held : get_or (taken plain changed start index) index 0 ≡ get_or changed index 0 =
    sym (octet_in is_sealed (taken plain changed start index) index (omega arith) (omega arith)) ∙ sym (ap (λ t. get_or t index 0) now) ∙ is in
    now
    ∙ ap (checked is_sealed)
    (sym (set-get_or (taken plain changed start index) index 0)
    ∙ ap (λ v. set (taken plain changed start index) index v) held
    ∙ taken_more plain changed start index low (omega arith) (omega arith))

-- one more octet is written
pub one_more : (old mid new changed : List ℕ) (start index place : ℕ) → 9 ≤ start → start ≤ index → index < length old → length changed ≡ length old → place ≡ index + 1
    → ((is_sealed : Bool) (plain : List ℕ) → get_or plain 7 0 ≡ 0 → mid ≡ checked is_sealed plain → new ≡ checked is_sealed (slice_set plain (place - 1) (get_or changed index 0)))
    → TakesOver old mid changed start index → TakesOver old new changed start (index + 1)
one_more old mid new changed start index place behind low high same at write so_far is_sealed plain zero e =
    let size : length old ≡ length plain = ap length e ∙ length-checked is_sealed plain in
    let written : place - 1 ≡ index = omega arith in
    let octet_8 = taken_before plain changed start index 7 (omega arith) (omega arith) ∙ zero in
    write is_sealed (taken plain changed start index) octet_8 (so_far is_sealed plain zero e)
    ∙ ap (λ i. checked is_sealed (set (taken plain changed start index) i (get_or changed index 0))) written
    ∙ ap (checked is_sealed) (taken_more plain changed start index low (omega arith) (omega arith))
