-- Parts of octets are octets.
use Rattle.std.proofs.Common.{ℕ, zero, suc, ◌<◌, List, [], ◌∷◌, ◌++◌, arith}
use Rattle.hex.specs.Hex.{IsBytes}
use Rattle.pdus.specs.PduHeader.Spelling.{pair_of}

pub left_bytes : (xs ys : List ℕ) → IsBytes (xs ++ ys) → IsBytes xs
left_bytes [] ys h i = omega arith
left_bytes (x ∷ xs) ys h zero = h 0
left_bytes (x ∷ xs) ys h (suc i) = left_bytes xs ys (λ k. h (suc k)) i

pub right_bytes : (xs ys : List ℕ) → IsBytes (xs ++ ys) → IsBytes ys
right_bytes [] ys h = h
right_bytes (x ∷ xs) ys h = right_bytes xs ys (λ k. h (suc k))

pub pair_bytes : (n : ℕ) → IsBytes (pair_of n)
pair_bytes n zero = omega arith
pair_bytes n (suc zero) = omega arith
pair_bytes n (suc (suc i)) = omega arith

pub one_byte : (n : ℕ) → n < 256 → IsBytes (n ∷ [])
one_byte n h zero = h
one_byte n h (suc i) = omega arith
