-- The octets of patterns, row by row.
use Rattle.std.proofs.Common.{◌≡◌, ℕ, ◌+◌, ◌*◌, ◌/◌, ◌%◌, ◌<◌, ◌≤◌, List, ◌∷◌, ◌++◌, ◌∙◌, refl, ap, sym, arith, map, take, zero, zero-add, suc}
use Rattle.std.specs.List.{range_with_len}
use Rattle.std.proofs.lemmas.List.FromFn.{fill_by_all, get_or-map-range_with_len, length-map-range_with_len, take-map-range_with_len}

-- the values at some places and at those behind them
pub joined : (f : ℕ → ℕ) (from place n more : ℕ) → from + n ≡ place
    → map f (range_with_len from n) ++ map f (range_with_len place more) ≡ map f (range_with_len from (n + more))
joined f from place zero more at =
    let same : place ≡ from = omega arith in
    ap (λ (p : ℕ). map f (range_with_len p more)) same ∙ ap (λ (m : ℕ). map f (range_with_len from m)) (sym (zero-add more))
joined f from place (suc n) more at =
    let longer : suc n + more ≡ suc (n + more) = omega arith in
    ap (λ (l : List ℕ). f from ∷ l) (joined f (from + 1) place n more (omega arith))
    ∙ ap (λ (m : ℕ). map f (range_with_len from m)) (sym longer)

-- the first octets of a row are those of the pattern from its place on
pub row_is : (start first number more : ℕ) (row : List ℕ) → row ≡ map (λ column. (column + first) % 256) (range_with_len 0 256)
    → first ≡ (start + number % 256) % 256 → more ≤ 256
    → take more row ≡ map (λ q. (q + q / 256 + start) % 256) (range_with_len (number * 256) more)
row_is start first number more row is begins few =
    let pattern : ℕ → ℕ = λ q. (q + q / 256 + start) % 256 in
    let column : ℕ → ℕ = λ column. (column + first) % 256 in
    let here : (k : ℕ) → k < more → pattern (number * 256 + k) ≡ column k = λ k within. omega arith in
    ap (take more) is
    ∙ take-map-range_with_len column 0 256 more few
    ∙ sym (fill_by_all column (map pattern (range_with_len (number * 256) more)) more 0 (length-map-range_with_len pattern (number * 256) more)
    (λ k within. get_or-map-range_with_len pattern (number * 256) more k (number * 256 + k) 0 within refl ∙ here k within))

-- a row more
pub row_more : (start first number all more : ℕ) (row octets : List ℕ) → row ≡ map (λ column. (column + first) % 256) (range_with_len 0 256)
    → first ≡ (start + number % 256) % 256 → more ≤ 256
    → octets ≡ map (λ q. (q + q / 256 + start) % 256) (range_with_len 0 (number * 256))
    → number * 256 + more ≡ all
    → octets ++ take more row ≡ map (λ q. (q + q / 256 + start) % 256) (range_with_len 0 all)
row_more start first number all more row octets is begins few so_far size =
    let pattern : ℕ → ℕ = λ q. (q + q / 256 + start) % 256 in
    ap (λ (l : List ℕ). octets ++ l) (row_is start first number more row is begins few)
    ∙ ap (λ (l : List ℕ). l ++ map pattern (range_with_len (number * 256) more)) so_far
    ∙ joined pattern 0 (number * 256) (number * 256) more (omega arith)
    ∙ ap (λ (n : ℕ). map pattern (range_with_len 0 n)) size
