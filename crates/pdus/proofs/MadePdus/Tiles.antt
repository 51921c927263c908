-- Ranges that stand one behind another partition the range that they span.
use Rattle.std.proofs.Common.{◌≡◌, ◌∙◌, ℕ, ◌+◌, ◌≤◌, Bool, List, [], ◌∷◌, ◌++◌, arith}
use Rattle.std.specs.Prelude.{◌&&◌, nat_le, nat_lt, if◌then◌else◌}
use Rattle.std.specs.List.{AllByRecursion}
use Rattle.std.proofs.lemmas.Bool.Decides.{nat_tests}
use Rattle.pdus.specs.MadePdus.Range.{Range, Tiles, holders, Partition}

pub tiles_up : (ranges : List Range) (start end : ℕ) → Tiles start ranges end → start ≤ end
tiles_up [] start end h = omega arith
tiles_up (range ∷ others) start end h = let up = tiles_up others (start + range.len) end h.1 in omega arith

pub tiles_append : (first others : List Range) (start mid end : ℕ) → Tiles start first mid → Tiles mid others end → Tiles start (first ++ others) end
tiles_append [] others start mid end h k = rw h k
tiles_append (range ∷ first) others start mid end h k = (h.0, tiles_append first others (start + range.len) mid end h.1 k)

pub tiles_at : (ranges : List Range) (start first end last : ℕ) → start ≡ first → end ≡ last → Tiles start ranges end → Tiles first ranges last
tiles_at ranges start first end last s e h = rw (← s, ← e) h

-- a place from one on, and below another
abbrev pub between : (place start end : ℕ) → Bool
between place start end = nat_le start place && nat_lt place end

between_joins : (place start mid end : ℕ) → start ≤ mid → mid ≤ end
    → (if between place start mid then 1 else 0) + (if between place mid end then 1 else 0) ≡ (if between place start end then 1 else 0)
between_joins place start mid end h k = grind (arith, nat_tests)

between_none : (place start : ℕ) → ◌≡◌ {A = ℕ} 0 (if between place start start then 1 else 0)
between_none place start = grind (arith, nat_tests)

pub holders_tiles : (place : ℕ) (ranges : List Range) (start end : ℕ) → Tiles start ranges end → holders place ranges ≡ (if between place start end then 1 else 0)
holders_tiles place [] start end h = rw (← h) (between_none place start)
holders_tiles place (range ∷ others) start end h =
    let up = tiles_up others (start + range.len) end h.1 in
    rw (h.0, holders_tiles place others (start + range.len) end h.1) (between_joins place start (start + range.len) end (omega arith) up)

holders_whole : (place len : ℕ) → (if between place 0 len then 1 else 0) ≡ holders place (record { from = 0; len = len } ∷ [])
holders_whole place len = grind (arith, nat_tests)

pub tiles_partition : (ranges : List Range) (len : ℕ) → Tiles 0 ranges len → Partition ranges (record { from = 0; len = len })
tiles_partition ranges len h place = holders_tiles place ranges 0 len h ∙ holders_whole place len

pub tiles_within : (ranges : List Range) (start end : ℕ) → Tiles start ranges end → AllByRecursion (λ range. range.from + range.len ≤ end) ranges
tiles_within [] start end h = tt
tiles_within (range ∷ others) start end h =
    let up = tiles_up others (start + range.len) end h.1 in
    (rw h.0 up, tiles_within others (start + range.len) end h.1)
