-- Link words: `udp:A.B.C.D:P` for the local end, and then up to 16 peers, each `,hA.B.C.D:P` for an end system or
-- `,rA.B.C.D:P` for an intermediate system.
use Rattle.std.specs.Prelude.{ℕ, ◌==◌, ◌&&◌, nat_eq, nat_le, nat_lt, Bool, if◌then◌else◌, List, [], ◌∷◌, codes, drop, length, slice_index, Option, None, Some, is_some}
use Rattle.std.specs.List.{slice_split, starts_with}
use Rattle.pdus.specs.ClnpBase.Text.{decimal_of}
use Rattle.frame_links.specs.LinkBoard.Ends.{Ends}
use Rattle.frame_links.specs.declared.link_board.end.End.{End}
use Rattle.frame_links.specs.declared.link_board.ends.Peer.{Peer}
use Rattle.frame_links.specs.declared.link_board.ends.Role.{Role}
use Rattle.frame_links.specs.declared.link_board.ends.Role.TheVariants.{EndSystem, IntermediateSystem}

infixl 10 ◌>>=◌
abbrev pub ◌>>=◌ : {A B : Type 0} → Option A → (A → Option B) → Option B
None >>= f = None
(Some x) >>= f = f x

-- the values of all, where each has one
abbrev pub each : {A B : Type 0} → (A → Option B) → List A → Option (List B)
each f [] = Some []
each f (x ∷ xs) = do
  y ← f x
  ys ← each f xs
  Some (y ∷ ys)

-- the parts of a text between which a mark stands
abbrev pub parts_at : ℕ → List ℕ → List (List ℕ)
parts_at mark text = slice_split (λ c. c == mark) text

-- the parts of the text that is left, if some is
abbrev pub parts_left : ℕ → Option (List ℕ) → List (List ℕ)
parts_left mark None = []
parts_left mark (Some text) = parts_at mark text

abbrev pub within : ℕ → ℕ → ℕ → Option ℕ
within low high n = if nat_le low n && nat_le n high then Some n else None

-- whether a zero stands before another digit
abbrev pub has_leading_zero : List ℕ → Bool
has_leading_zero digits = nat_lt 1 (length digits) && slice_index digits 0 == 48

-- a decimal number from low to high, without sign or leading zero
abbrev pub number_of : ℕ → ℕ → List ℕ → Option ℕ
number_of low high digits = if has_leading_zero digits then None else (decimal_of digits >>= within low high)

-- four numbers up to 255
abbrev pub address_in : List (List ℕ) → Option (List ℕ)
address_in (a ∷ b ∷ c ∷ d ∷ []) = each (number_of 0 255) (a ∷ b ∷ c ∷ d ∷ [])
address_in _ = None

-- an address and a port
abbrev pub end_in : List (List ℕ) → Option End
end_in (first ∷ second ∷ []) = do
  address ← address_in (parts_at 46 first)
  port ← number_of 1 65535 second
  Some (record { address = address; port = port })
end_in _ = None

-- `A.B.C.D:P`
abbrev pub end_of : List ℕ → Option End
end_of text = end_in (parts_at 58 text)

-- `h` or `r`
abbrev pub role_of : ℕ → Option Role
role_of letter = if letter == 104 then Some EndSystem else if letter == 114 then Some IntermediateSystem else None

-- a letter, and an end behind it
abbrev pub peer_of : List ℕ → Option Peer
peer_of [] = None
peer_of (letter ∷ text) = do
  role ← role_of letter
  end ← end_of text
  Some (record { role = role; end = end })

-- these ends, unless the peers are more than 16
abbrev pub ends_named : End → List Peer → Option Ends
ends_named local peers = if nat_le (length peers) 16 then Some (record { local = local; peers = peers }) else None

-- the local end, and the peers
abbrev pub ends_in : List (List ℕ) → Option Ends
ends_in [] = None
ends_in (first ∷ others) = do
  local ← end_of first
  peers ← each peer_of others
  ends_named local peers

-- the ends that a link word names; a word that is none names no ends
unfoldable pub link_ends : List ℕ → Option Ends
link_ends word = if starts_with nat_eq word (codes "udp:") then ends_in (parts_at 44 (drop 4 word)) else None

abbrev pub is_link_word : List ℕ → Bool
is_link_word word = is_some (link_ends word)
