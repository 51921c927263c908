-- Frames that were sent, kept one behind the other.
use Rattle.std.proofs.Common.{◌≡◌, ℕ, zero, suc, ◌+◌, ◌≤◌, ◌<◌, nat_lt, nat_le, true, List, [], ◌∷◌, ◌++◌, length, take, drop, refl, sym, ap, arith, length-drop}
use Rattle.std.proofs.lemmas.Bool.{and_parts, leb-true, ltb-true}
use Rattle.std.proofs.lemmas.List.{length-take-le, nil_from_length, take_all}
use Rattle.pdus.specs.declared.nsap.target.Target.{Target}
use Rattle.frame_links.specs.LinkBoard.Outbox.{frames_in, has_room, lens_of, octets_in}
use Rattle.frame_links.specs.declared.link_board.outbox.Entry.{Entry}

-- the octets kept are those of the frames
pub octets_in-frames_in : (sent : List Entry) (octets : List ℕ) → lens_of sent ≡ length octets → octets_in (frames_in sent octets) ≡ length octets
octets_in-frames_in [] octets h = h
octets_in-frames_in (s ∷ ss) octets h =
    let first = length-take-le s.len octets (omega (arith, h)) in
    let rest = octets_in-frames_in ss (drop s.len octets) (omega (arith, h, length-drop s.len octets)) in
    omega (arith, h, first, rest, length-drop s.len octets)

pub take_front : (n : ℕ) (xs ys : List ℕ) → n ≤ length xs → take n (xs ++ ys) ≡ take n xs
take_front zero xs ys h = refl
take_front (suc n) [] ys h = absurd (omega arith)
take_front (suc n) (x ∷ xs) ys h = ap (λ zs. x ∷ zs) (take_front n xs ys (omega arith))

pub drop_front : (n : ℕ) (xs ys : List ℕ) → n ≤ length xs → drop n (xs ++ ys) ≡ drop n xs ++ ys
drop_front zero xs ys h = refl
drop_front (suc n) [] ys h = absurd (omega arith)
drop_front (suc n) (x ∷ xs) ys h = drop_front n xs ys (omega arith)

-- a frame behind the others
pub frames_in-more : (entries : List Entry) (to : Target) (len : ℕ) (octets more : List ℕ) → lens_of entries ≡ length octets → len ≡ length more
    → frames_in (entries ++ record { to = to; len = len } ∷ []) (octets ++ more)
    ≡ frames_in entries octets ++ record { target = to; octets = more } ∷ []
frames_in-more [] to len octets more h l =
    let none : octets ≡ [] = nil_from_length octets (sym h) in
    rw (none, take_all len more (omega arith)) refl
frames_in-more (entry ∷ entries) to len octets more h l =
    let le : entry.len ≤ length octets = omega (arith, h) in
    let rest = frames_in-more entries to len (drop entry.len octets) more (omega (arith, h, length-drop entry.len octets)) l in
    rw (take_front entry.len octets more le, drop_front entry.len octets more le, rest) refl

pub lens_of-more : (sent : List Entry) (s : Entry) → lens_of (sent ++ s ∷ []) ≡ lens_of sent + s.len
lens_of-more [] s = omega arith
lens_of-more (t ∷ ts) s = omega (arith, lens_of-more ts s)

pub length-frames_in : (entries : List Entry) (octets : List ℕ) → length (frames_in entries octets) ≡ length entries
length-frames_in [] octets = refl
length-frames_in (entry ∷ entries) octets = ap (λ n. suc n) (length-frames_in entries (drop entry.len octets))

-- where there is room for a frame
pub room_there : (entries : List Entry) (octets more : List ℕ) (sends room : ℕ) → lens_of entries ≡ length octets
    → has_room (record { sent = frames_in entries octets; sends = sends; room = room }) more ≡ true
    → (length entries < sends) × (length octets + length more ≤ room)
room_there entries octets more sends room whole h =
    let tests = and_parts (nat_lt (length entries) sends) (nat_le (length octets + length more) room)
    (rw (length-frames_in entries octets, octets_in-frames_in entries octets whole) at h) in
    (ltb-true (length entries) sends tests.0, leb-true (length octets + length more) room tests.1)
