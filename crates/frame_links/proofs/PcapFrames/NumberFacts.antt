-- Numbers written and read, in either order.
use Rattle.std.proofs.Common.{◌≡◌, ℕ, ◌+◌, ◌^◌, ◌<◌, ◌≤◌, List, [], ◌∷◌, ◌++◌, length, drop, sym, ap, ◌∙◌, arith, length-drop}
use Rattle.std.proofs.lemmas.List.{drop-drop, drop_at}
use Rattle.hex.specs.Hex.{IsBytes}
use Rattle.pdus.proofs.ClnpBase.ListSteps.{bytes_of_drop}
use Rattle.byteorder.specs.Numbers.{big_from-append, big_from-lt, big_number-reads_back, length-bytes_high_first, length-bytes_low_first, little_from-append, little_from-lt, little_number-reads_back}
use Rattle.frame_links.specs.declared.pcap_frames.order.Order.{Order}
use Rattle.frame_links.specs.declared.pcap_frames.order.Order.TheVariants.{HighFirst, LowFirst}
use Rattle.frame_links.specs.PcapFrames.Numbers.{number, value}

pub length-number : (order : Order) (n x : ℕ) → length (number order n x) ≡ n
unfolding number
length-number HighFirst n x = length-bytes_high_first n x
length-number LowFirst n x = length-bytes_low_first 0 n x

-- a number that was written is read, whatever follows
pub value-number : (order : Order) (n x : ℕ) (rest : List ℕ) → x < 256 ^ n → value order n (number order n x ++ rest) ≡ x
unfolding number value
value-number HighFirst n x rest fits = big_number-reads_back n x rest fits
value-number LowFirst n x rest fits = little_number-reads_back n x rest fits

-- a number reads no octet behind its own
pub value-append : (order : Order) (n : ℕ) (xs ys : List ℕ) → n ≤ length xs → value order n (xs ++ ys) ≡ value order n xs
unfolding value
value-append HighFirst n xs ys long = big_from-append n xs ys long
value-append LowFirst n xs ys long = little_from-append n xs ys long

pub value-fits : (order : Order) (n : ℕ) (xs : List ℕ) → IsBytes xs → value order n xs < 256 ^ n
unfolding value
value-fits HighFirst n xs bytes = big_from-lt 0 n xs bytes
value-fits LowFirst n xs bytes = little_from-lt 0 n xs bytes

-- two numbers that the same octets begin with are one, and the same octets follow
pub same_number : (order : Order) (n x y : ℕ) (r s : List ℕ) → x < 256 ^ n → y < 256 ^ n
    → number order n x ++ r ≡ number order n y ++ s → (x ≡ y) × (r ≡ s)
same_number order n x y r s fits_x fits_y e =
    let same : x ≡ y = sym (value-number order n x r fits_x) ∙ ap (value order n) e ∙ value-number order n y s fits_y in (
      same,
      sym (drop_at (number order n x) r n (length-number order n x))
          ∙ ap (drop n) e
          ∙ drop_at (number order n y) s n (length-number order n y),
    )

-- ---- octets that were read are the number's

same_two : (a b c d : ℕ) → a ≡ c → b ≡ d → a ∷ b ∷ [] ≡ c ∷ d ∷ []
same_two a b c d e f = cc

same_four : (a b c d p q r s : ℕ) → a ≡ p → b ≡ q → c ≡ r → d ≡ s → a ∷ b ∷ c ∷ d ∷ [] ≡ p ∷ q ∷ r ∷ s ∷ []
same_four a b c d p q r s e f g h = cc

two_again : (order : Order) (a b : ℕ) (rest : List ℕ) → a < 256 → b < 256
    → number order 2 (value order 2 (a ∷ b ∷ rest)) ≡ a ∷ b ∷ []
unfolding number value
two_again HighFirst a b rest at_a at_b = same_two _ _ _ _ (omega arith) (omega arith)
two_again LowFirst a b rest at_a at_b = same_two _ _ _ _ (omega arith) (omega arith)

four_again : (order : Order) (a b c d : ℕ) (rest : List ℕ) → a < 256 → b < 256 → c < 256 → d < 256
    → number order 4 (value order 4 (a ∷ b ∷ c ∷ d ∷ rest)) ≡ a ∷ b ∷ c ∷ d ∷ []
unfolding number value
four_again HighFirst a b c d rest at_a at_b at_c at_d =
    same_four _ _ _ _ _ _ _ _ (omega arith) (omega arith) (omega arith) (omega arith)
four_again LowFirst a b c d rest at_a at_b at_c at_d =
    same_four _ _ _ _ _ _ _ _ (omega arith) (omega arith) (omega arith) (omega arith)

-- the first octets are those of the number that is read of them
pub split_two : (order : Order) (xs : List ℕ) → IsBytes xs → 2 ≤ length xs → xs ≡ number order 2 (value order 2 xs) ++ drop 2 xs
split_two order (a ∷ b ∷ rest) bytes long = ap (λ (front : List ℕ). front ++ rest) (sym (two_again order a b rest (bytes 0) (bytes 1)))
split_two order _ bytes long = absurd (omega arith)

pub split_four : (order : Order) (xs : List ℕ) → IsBytes xs → 4 ≤ length xs → xs ≡ number order 4 (value order 4 xs) ++ drop 4 xs
split_four order (a ∷ b ∷ c ∷ d ∷ rest) bytes long =
    ap (λ (front : List ℕ). front ++ rest) (sym (four_again order a b c d rest (bytes 0) (bytes 1) (bytes 2) (bytes 3)))
split_four order _ bytes long = absurd (omega arith)

-- the same of octets behind others
pub two_behind : (order : Order) (xs : List ℕ) (n : ℕ) → IsBytes xs → n + 2 ≤ length xs
    → drop n xs ≡ number order 2 (value order 2 (drop n xs)) ++ drop (n + 2) xs
two_behind order xs n bytes long =
    split_two order (drop n xs) (bytes_of_drop xs n bytes) (omega (arith, length-drop n xs))
    ∙ ap (λ (rest : List ℕ). number order 2 (value order 2 (drop n xs)) ++ rest) (drop-drop 2 n xs)

pub four_behind : (order : Order) (xs : List ℕ) (n : ℕ) → IsBytes xs → n + 4 ≤ length xs
    → drop n xs ≡ number order 4 (value order 4 (drop n xs)) ++ drop (n + 4) xs
four_behind order xs n bytes long =
    split_four order (drop n xs) (bytes_of_drop xs n bytes) (omega (arith, length-drop n xs))
    ∙ ap (λ (rest : List ℕ). number order 4 (value order 4 (drop n xs)) ++ rest) (drop-drop 4 n xs)
