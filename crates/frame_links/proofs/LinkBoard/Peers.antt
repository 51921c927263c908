-- The peers of a link word, read one after the other.
use Rattle.std.proofs.Common.{◌≡◌, ℕ, ◌+◌, ◌<◌, ◌≤◌, nat_le, true, false, List, [], ◌∷◌, ◌++◌, length, drop, Bor, length-append, append_assoc, append-nil, Option, None, Some, refl, sym, ap, ◌∙◌, arith}
use Rattle.std.specs.Prelude.{codes, nat_eq, option_map, IfSome}
use Rattle.std.specs.List.{starts_with}
use Rattle.std.proofs.lemmas.Bool.Decides.{nat_tests}
use Rattle.frame_links.specs.LinkBoard.Ends.{Ends}
use Rattle.frame_links.specs.LinkBoard.Words.{◌>>=◌, each, end_of, ends_in, ends_named, link_ends, parts_at, parts_left, peer_of}
use Rattle.frame_links.specs.declared.link_board.end.End.{End}
use Rattle.frame_links.specs.declared.link_board.ends.Peer.{Peer}

-- how long the text is that is left, its end counted too
abbrev pub size_left : Option (List ℕ) → ℕ
size_left None = 0
size_left (Some text) = length text + 1

-- the peers that were read, and those of the parts that are left
abbrev pub behind : List Peer → List (List ℕ) → Option (List Peer)
behind read left = option_map (λ more. read ++ more) (each peer_of left)

pub behind_one : (read : List Peer) (part : List ℕ) (left : List (List ℕ)) (peer : Peer)
    → peer_of part ≡ Some peer → behind read (part ∷ left) ≡ behind (read ++ peer ∷ []) left
behind_one read part left peer e = rw e (by (each peer_of left))
  where
    by : (o : Option (List Peer))
        → option_map (λ more. read ++ more) (o >>= λ peers. Some (peer ∷ peers)) ≡ option_map (λ more. (read ++ peer ∷ []) ++ more) o
    by None = refl
    by (Some peers) = ap Some (sym (append_assoc read (peer ∷ []) peers))

-- a part that is no peer
pub behind_none : (read : List Peer) (part : List ℕ) (left : List (List ℕ)) → peer_of part ≡ None → behind read (part ∷ left) ≡ None
behind_none read part left e = rw e refl

pub no_local : (first : List ℕ) (others : List (List ℕ)) → end_of first ≡ None → ends_in (first ∷ others) ≡ None
no_local first others e = rw e refl

pub no_peers : (first : List ℕ) (others : List (List ℕ)) → each peer_of others ≡ None → ends_in (first ∷ others) ≡ None
no_peers first others e = rw e (by (end_of first))
  where
    by : (o : Option End) → (o >>= λ local. None >>= λ peers. ends_named local peers) ≡ None
    by None = refl
    by (Some local) = refl

pub ends_read : (first : List ℕ) (others : List (List ℕ)) (local : End) (peers : List Peer)
    → end_of first ≡ Some local → each peer_of others ≡ behind peers [] → length peers ≤ 16
    → ends_in (first ∷ others) ≡ Some (record { local = local; peers = peers })
ends_read first others local peers e f few =
    let fit : nat_le (length peers) 16 ≡ true = grind (arith, nat_tests) in
    rw (e, f, append-nil peers, fit) refl

-- more than 16
too_long : (first : List ℕ) (others : List (List ℕ)) (read : List Peer) (part : List ℕ) (left : List (List ℕ)) (peer : Peer)
    → each peer_of others ≡ behind read (part ∷ left) → peer_of part ≡ Some peer → 16 ≤ length read
    → ends_in (first ∷ others) ≡ None
too_long first others read part left peer e f many = rw (e, f) (by (end_of first) (each peer_of left))
  where
    by : (o : Option End) (p : Option (List Peer))
        → (o >>= λ local. option_map (λ more. read ++ more) (p >>= λ peers. Some (peer ∷ peers)) >>= λ peers. ends_named local peers) ≡ None
    by None p = refl
    by (Some local) None = refl
    by (Some local) (Some peers) =
        let long : nat_le (length (read ++ peer ∷ peers)) 16 ≡ false = grind (arith, nat_tests, length-append read (peer ∷ peers)) in
        rw long refl

-- ---- the text that is left

-- the texts behind references
abbrev pub text_in : Option (Bor (List ℕ)) → Option (List ℕ)
text_in left = option_map (λ text. text.now) left

-- the first of the parts that are left is taken off
next_part : (whole : Option (List Peer)) (read : List Peer) (left : Option (List ℕ)) (text part : List ℕ) (more : List (List ℕ))
    → whole ≡ behind read (parts_left 44 left) → left ≡ Some text → parts_at 44 text ≡ part ∷ more
    → whole ≡ behind read (part ∷ more)
next_part whole read left text part more e f g = e ∙ ap (behind read) (ap (parts_left 44) f ∙ g)

pub peer_read : (whole : Option (List Peer)) (read new : List Peer) (left : Option (List ℕ)) (text part : List ℕ) (more : List (List ℕ)) (peer : Peer)
    → whole ≡ behind read (parts_left 44 left) → left ≡ Some text → parts_at 44 text ≡ part ∷ more
    → peer_of part ≡ Some peer → new ≡ read ++ peer ∷ [] → whole ≡ behind new more
peer_read whole read new left text part more peer e f g h n =
    next_part whole read left text part more e f g ∙ (behind_one read part more peer h ∙ ap (λ peers. behind peers more) (sym n))

pub too_many : (first : List ℕ) (others : List (List ℕ)) (read : List Peer) (left : Option (List ℕ)) (text part : List ℕ)
    (more : List (List ℕ)) (peer : Peer) → each peer_of others ≡ behind read (parts_left 44 left) → left ≡ Some text → parts_at 44 text ≡ part ∷ more
    → peer_of part ≡ Some peer → 16 ≤ length read → ends_in (first ∷ others) ≡ None
too_many first others read left text part more peer e f g h many =
    too_long first others read part more peer (next_part (each peer_of others) read left text part more e f g) h many

pub no_peer : (first : List ℕ) (others : List (List ℕ)) (read : List Peer) (left : Option (List ℕ)) (text part : List ℕ) (more : List (List ℕ))
    → each peer_of others ≡ behind read (parts_left 44 left) → left ≡ Some text → parts_at 44 text ≡ part ∷ more → peer_of part ≡ None
    → ends_in (first ∷ others) ≡ None
no_peer first others read left text part more e f g h =
    no_peers first others (next_part (each peer_of others) read left text part more e f g ∙ behind_none read part more h)

-- before the first peer
pub none_yet : (read : List Peer) (left : List (List ℕ)) → read ≡ [] → each peer_of left ≡ behind read left
none_yet read left e = rw e (by (each peer_of left))
  where
    by : (o : Option (List Peer)) → o ≡ option_map (λ more. [] ++ more) o
    by None = refl
    by (Some peers) = refl

-- less text is left
pub less_left : (left others : Option (Bor (List ℕ))) (text : Bor (List ℕ)) → left ≡ Some text
    → IfSome others (λ o. length o.now < length text.now) → size_left (text_in others) < size_left (text_in left)
less_left left None text e h = rw e (omega arith)
less_left left (Some others) text e h = rw e (omega (arith, h))

pub all_read : (whole : Option (List Peer)) (read : List Peer) (left : Option (List ℕ)) → whole ≡ behind read (parts_left 44 left) → left ≡ None
    → whole ≡ behind read []
all_read whole read left e f = e ∙ ap (λ o. behind read (parts_left 44 o)) f

-- ---- the word

pub no_word : (word : List ℕ) → starts_with nat_eq word (codes "udp:") ≡ false → link_ends word ≡ None
unfolding link_ends
no_word word s = rw s refl

pub word_read : (word text first : List ℕ) (others : List (List ℕ)) (read : Option Ends) → starts_with nat_eq word (codes "udp:") ≡ true
    → text ≡ drop 4 word → parts_at 44 text ≡ first ∷ others → ends_in (first ∷ others) ≡ read → link_ends word ≡ read
unfolding link_ends
word_read word text first others read s t p e = rw (s, ← t, p) e
