-- One read from a source in memory.
use Rattle.std.proofs.Common.{◌≡◌, ℕ, ◌+◌, ◌-◌, ◌<◌, ◌≤◌, min, List, [], ◌++◌, length, take, drop, arith, sym, ap, ◌∙◌, length-append, length-drop, take-append-drop}
use Rattle.std.proofs.Math.Seq.{take-append_seam}
use Rattle.std.proofs.lemmas.List.{length-take-le, nil_from_length, drop-drop, take_rest}

take_exact : (xs ys : List ℕ) (n : ℕ) → length xs ≡ n → take n (xs ++ ys) ≡ xs
take_exact xs ys n e = rw (← e) (take-append_seam xs ys)

pub supplied : (left octets buf copied : List ℕ) (at came most : ℕ) → drop at octets ≡ left
    → copied ≡ take came (take (length octets - at) (drop at octets))
    → came ≡ min (min most (length buf)) (length (take (length octets - at) (drop at octets))) → 1 ≤ most
    → (left ≡ take came (copied ++ drop came buf) ++ drop (at + came) octets)
    × (came ≡ 0 → 0 < length (copied ++ drop came buf) → drop (at + came) octets ≡ [])
supplied left octets buf copied at came most l c n m =
    let c' : copied ≡ take came (drop at octets) = rw (take_rest octets at) at c in
    let n' : came ≡ min (min most (length buf)) (length (drop at octets)) = rw (take_rest octets at) at n in
    let len : length copied ≡ came = ap length c' ∙ length-take-le came (drop at octets) (omega (arith, n')) in (
      rw (take_exact copied (drop came buf) came len, ← drop-drop came at octets, c', ← l) (sym (take-append-drop came (drop at octets))),
      λ z h. nil_from_length (drop (at + came) octets) (omega (arith, n', z, h, len, length-drop (at + came) octets, length-drop at octets, length-drop came buf, length-append copied (drop came buf))),
    )
