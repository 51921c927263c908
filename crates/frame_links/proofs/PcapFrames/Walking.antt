-- Records gone over where they stand.
use Rattle.std.proofs.Common.{◌≡◌, ℕ, zero, suc, ◌+◌, ◌-◌, ◌<◌, ◌≤◌, Bool, true, false, cond, List, [], ◌∷◌, length, take, drop, Option, Some, None, refl, sym, ap, ◌∙◌, arith, length-drop, length-take-le}
use Rattle.std.specs.List.{cons_option}
use Rattle.std.proofs.lemmas.List.{drop-drop, take_all}
use Rattle.std.proofs.lemmas.Option.{cond_some}
use Rattle.frame_links.specs.LinkBoard.Links.{CameFrame}
use Rattle.frame_links.specs.declared.pcap_frames.order.Order.{Order}
use Rattle.frame_links.specs.PcapFrames.File.{Captured}
use Rattle.frame_links.specs.PcapFrames.Frames.{seen_in}
use Rattle.frame_links.specs.PcapFrames.InPlace.{first_in, front_record, has_record, record_size}
use Rattle.frame_links.specs.PcapFrames.Reading.{captured_length}
use Rattle.frame_links.proofs.PcapFrames.FirstRecord.{tested}
use Rattle.frame_links.specs.PcapFrames.PlayedFrames.{came_of, frames_of}
use Rattle.frame_links.specs.PcapFrames.Walk.{frames_from, records_after}

skipped : (order : Order) (n : ℕ) (xs : List ℕ) → records_after order n xs ≡ records_after order 0 (drop n xs)
unfolding records_after
skipped order zero xs = refl
skipped order (suc n) [] = refl
skipped order (suc n) (x ∷ xs) = skipped order n xs

-- a record in front, and its size
pub record Front (order : Order) (xs : List ℕ) (c : Captured) : Type 0 where
  pub there : has_record order xs ≡ true
  pub is : front_record order xs ≡ c
  pub size : length c.octets ≡ captured_length order xs
  pub long : 16 + length c.octets ≤ length xs

pub front_of : (order : Order) (xs : List ℕ) (c : Captured) → first_in order xs ≡ Some c → Front order xs c
unfolding first_in
front_of order xs c e =
    let s = cond_some (has_record order xs) (front_record order xs) c e in
    let t = tested order xs s.0 in
    let long = t.long in
    let n = record_size order xs in
    let octets : length (drop 16 (take n xs)) ≡ captured_length order xs =
    omega (arith, length-drop 16 (take n xs), length-take-le n xs long) in
    let size : length c.octets ≡ captured_length order xs = ap (λ (d : Captured). length d.octets) (sym s.1) ∙ octets in
    record { there = s.0; is = s.1; size = size; long = omega arith }

chosen : (b : Bool) (c d : Captured) (rest : List Captured) → b ≡ true → d ≡ c → cond b (d ∷ rest) [] ≡ c ∷ rest
chosen b c d rest e f = rw (e, f) refl

pub first_record_is : (order : Order) (xs : List ℕ) (c : Captured) → first_in order xs ≡ Some c
    → records_after order 0 xs ≡ c ∷ records_after order 0 (drop (16 + length c.octets) xs)
unfolding records_after
first_record_is order [] c e = let long = (front_of order [] c e).long in absurd (omega arith)
first_record_is order (x ∷ xs) c e =
    let f = front_of order (x ∷ xs) c e in
    let one_more : 16 + length c.octets ≡ suc (15 + length c.octets) = omega arith in
    chosen (has_record order (x ∷ xs)) c (front_record order (x ∷ xs)) (records_after order (15 + captured_length order (x ∷ xs)) xs) f.there f.is
    ∙ ap (λ (n : ℕ). c ∷ records_after order (15 + n) xs) (sym f.size)
    ∙ ap (λ (rest : List Captured). c ∷ rest) (skipped order (15 + length c.octets) xs)
    ∙ ap (λ (n : ℕ). c ∷ records_after order 0 (drop n (x ∷ xs))) (sym one_more)

not_chosen : (b : Bool) (d : Captured) (rest : List Captured) → cond b (Some d) None ≡ None → cond b (d ∷ rest) [] ≡ []
not_chosen true d rest e = absurd (cc)
not_chosen false d rest e = refl

pub no_record_is : (order : Order) (xs : List ℕ) → first_in order xs ≡ None → records_after order 0 xs ≡ []
unfolding first_in records_after
no_record_is order [] e = refl
no_record_is order (x ∷ xs) e = not_chosen (has_record order (x ∷ xs)) (front_record order (x ∷ xs)) _ e

-- ---- the frames in them

-- all octets from an index on
pub first_from : (order : Order) (file : List ℕ) (at : ℕ) (o : Option Captured) → o ≡ first_in order (take (length file - at) (drop at file))
    → first_in order (drop at file) ≡ o
first_from order file at o e =
    sym (e ∙ ap (first_in order) (take_all (length file - at) (drop at file) (omega (arith, length-drop at file))))

pub frames_end : (order : Order) (xs : List ℕ) → first_in order xs ≡ None → frames_from (Some order) xs ≡ []
frames_end order xs e = ap frames_of (no_record_is order xs e)

-- one more record is passed
pub passed : (order : Order) (file : List ℕ) (start at next : ℕ) (c : Captured) (o : Option CameFrame)
    → frames_from (Some order) (drop start file) ≡ frames_from (Some order) (drop at file)
    → first_in order (drop at file) ≡ Some c → next ≡ at + (16 + length c.octets) → o ≡ came_of (seen_in c.octets)
    → frames_from (Some order) (drop start file) ≡ cons_option o (frames_from (Some order) (drop next file))
passed order file start at next c o same e n came =
    same
    ∙ ap frames_of (first_record_is order (drop at file) c e)
    ∙ ap (λ (p : Option CameFrame). cons_option p (frames_from (Some order) (drop (16 + length c.octets) (drop at file)))) (sym came)
    ∙ ap (λ (xs : List ℕ). cons_option o (frames_from (Some order) xs))
    (drop-drop (16 + length c.octets) at file ∙ ap (λ (k : ℕ). drop k file) (sym n))

pub passed_within : (order : Order) (file : List ℕ) (at next : ℕ) (c : Captured) → at ≤ length file → first_in order (drop at file) ≡ Some c
    → next ≡ at + (16 + length c.octets) → (next ≤ length file) × (at < next)
passed_within order file at next c within e n =
    let long = (front_of order (drop at file) c e).long in
    let size = length-drop at file in
    (omega arith, omega arith)
