-- The two ends of a list, written over a place of as many, where they meet or overlap.
use Rattle.std.proofs.Common.{◌≡◌, ◌∙◌, ◌*◌, ◌-◌, ◌≤◌, ℕ, List, ◌++◌, length, take, drop, sym, ap, arith}
use Rattle.std.proofs.lemmas.List.{length-drop, take-append-drop, take-take, take_all}
use Rattle.std.proofs.lemmas.Simd.{length-chunk, length-put_chunk, take_more_put_chunk}
use Rattle.std.specs.Simd.Lanes.{chunk, put_chunk}

pub both_ends : (part : ℕ) (place octets : List ℕ) → length octets ≡ length place → part ≤ length octets → length octets ≤ 2 * part
    → put_chunk (length octets - part) (put_chunk 0 place (chunk 0 part octets)) (chunk (length octets - part) part octets) ≡ octets
both_ends part place octets same least most =
    let count : ℕ = length octets in
    let last : ℕ = count - part in
    let front : List ℕ = chunk 0 part octets in
    let end : List ℕ = chunk last part octets in
    let begun : List ℕ = put_chunk 0 place front in
    let front_size : length front ≡ part = length-chunk 0 part octets (omega arith) in
    let end_size : length end ≡ part = length-chunk last part octets (omega arith) in
    let begun_size : length begun ≡ count = length-put_chunk 0 place front ∙ sym same in
    let at_front : take part begun ≡ take part octets = take_more_put_chunk 0 place front part (omega arith) (omega arith) in
    let within : last ≤ part = omega arith in
    let before : take last begun ≡ take last octets =
    sym (take-take last part begun within) ∙ ap (λ (l : List ℕ). take last l) at_front ∙ take-take last part octets within in
    let rest : take part (drop last octets) ≡ drop last octets = take_all part (drop last octets) (omega (arith, length-drop last octets)) in
    sym (take_all count (put_chunk last begun end) (omega (arith, length-put_chunk last begun end)))
    ∙ take_more_put_chunk last begun end count (omega arith) (omega arith)
    ∙ ap (λ (l : List ℕ). l ++ end) before
    ∙ ap (λ (l : List ℕ). take last octets ++ l) rest
    ∙ take-append-drop last octets
