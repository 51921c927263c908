-- Headers: which octets are one, what is wrong with others, and that there is one answer.
use Rattle.std.proofs.Common.{◌≡◌, ℕ, ◌^◌, ◌%◌, ◌<◌, ◌⊎◌, inl, inr, Bool, true, false, List, [], ◌++◌, length, get_or, refl, sym, ap, ◌∙◌, arith, length-append}
use Rattle.std.proofs.lemmas.List.{append_assoc, append-nil}
use Rattle.frame_links.specs.declared.pcap_frames.fault.PcapFault.{PcapFault}
use Rattle.frame_links.specs.declared.pcap_frames.fault.PcapFault.TheVariants.{Magic, Version, LinkType, RecordLength}
use Rattle.frame_links.specs.declared.pcap_frames.order.Order.{Order}
use Rattle.frame_links.specs.declared.pcap_frames.order.Order.TheVariants.{HighFirst, LowFirst}
use Rattle.frame_links.specs.PcapFrames.Faults.{HasNoMagic, HasOtherVersion, HasOtherLink, IsHeaderFault}
use Rattle.frame_links.specs.PcapFrames.File.{Header, FitsHeader, IsHeader, header_octets, magic}
use Rattle.frame_links.specs.PcapFrames.Numbers.{number}
use Rattle.frame_links.proofs.PcapFrames.NumberFacts.{length-number, same_number}

-- ---- magic numbers

pub magic_fits : (nanoseconds : Bool) → magic nanoseconds < 256 ^ 4
magic_fits true = omega arith
magic_fits false = omega arith

first_high : (nanoseconds : Bool) (rest : List ℕ) → get_or (number HighFirst 4 (magic nanoseconds) ++ rest) 0 0 ≡ 161
unfolding number
first_high true rest = refl
first_high false rest = refl

first_low : (nanoseconds : Bool) (rest : List ℕ) → get_or (number LowFirst 4 (magic nanoseconds) ++ rest) 0 0 < 161 ⊎ 161 < get_or (number LowFirst 4 (magic nanoseconds) ++ rest) 0 0
unfolding number
first_low true rest = inl (omega arith)
first_low false rest = inr (omega arith)

-- no octets are magic numbers in both orders
orders_differ : (n m : Bool) (r s : List ℕ) → number HighFirst 4 (magic n) ++ r ≡ number LowFirst 4 (magic m) ++ s → ⊥
orders_differ n m r s e =
    let same : 161 ≡ get_or (number LowFirst 4 (magic m) ++ s) 0 0 = sym (first_high n r) ∙ ap (λ (xs : List ℕ). get_or xs 0 0) e in
    elim (first_low m s) [ inl below ↦ omega arith | inr above ↦ omega arith ]

-- ---- magic number and version

-- what two octets lists have that begin alike
pub record SameVersion (order other : Order) (major minor major_2 minor_2 : ℕ) (rest rest_2 : List ℕ) : Type 0 where
  pub orders : order ≡ other
  pub majors : major ≡ major_2
  pub minors : minor ≡ minor_2
  pub rests : rest ≡ rest_2

-- magic number and version, and the rest
abbrev pub versioned : Order → Bool → (major minor : ℕ) → List ℕ → List ℕ
versioned order nanoseconds major minor rest =
    number order 4 (magic nanoseconds) ++ (number order 2 major ++ (number order 2 minor ++ rest))

same_in_order : (order : Order) (n m : Bool) (a b c d : ℕ) (r s : List ℕ) → a < 2 ^ 16 → b < 2 ^ 16 → c < 2 ^ 16 → d < 2 ^ 16
    → versioned order n a b r ≡ versioned order m c d s → SameVersion order order a b c d r s
same_in_order order n m a b c d r s at_a at_b at_c at_d e =
    let one = same_number order 4 (magic n) (magic m) _ _ (magic_fits n) (magic_fits m) e in
    let two = same_number order 2 a c _ _ (omega arith) (omega arith) one.1 in
    let three = same_number order 2 b d r s (omega arith) (omega arith) two.1 in
    record { orders = refl; majors = two.0; minors = three.0; rests = three.1 }

pub same_version : (order other : Order) (n m : Bool) (a b c d : ℕ) (r s : List ℕ) → a < 2 ^ 16 → b < 2 ^ 16 → c < 2 ^ 16 → d < 2 ^ 16
    → versioned order n a b r ≡ versioned other m c d s → SameVersion order other a b c d r s
same_version HighFirst HighFirst n m a b c d r s at_a at_b at_c at_d e = same_in_order HighFirst n m a b c d r s at_a at_b at_c at_d e
same_version LowFirst LowFirst n m a b c d r s at_a at_b at_c at_d e = same_in_order LowFirst n m a b c d r s at_a at_b at_c at_d e
same_version HighFirst LowFirst n m a b c d r s at_a at_b at_c at_d e = absurd (orders_differ n m _ _ e)
same_version LowFirst HighFirst n m a b c d r s at_a at_b at_c at_d e = absurd (orders_differ m n _ _ (sym e))

-- ---- headers

-- what a header tells behind its version, and the rest
abbrev pub told_behind : Order → Header → List ℕ → List ℕ
told_behind order h rest =
    number order 4 h.zone ++ (number order 4 h.accuracy ++ (number order 4 h.snap ++ (number order 4 h.link ++ rest)))

pub header_laid : (order : Order) (h : Header) (rest : List ℕ)
    → header_octets order h ++ rest ≡ versioned order h.nanoseconds 2 4 (told_behind order h rest)
header_laid order h rest = simp append_assoc

pub length-header_octets : (order : Order) (h : Header) → length (header_octets order h) ≡ 24
length-header_octets order h =
    omega (
      arith,
      length-append (number order 4 (magic h.nanoseconds)) (number order 2 2 ++ (number order 2 4 ++ (number order 4 h.zone ++ (number order 4 h.accuracy ++ (number order 4 h.snap ++ number order 4 h.link))))),
      length-append (number order 2 2) (number order 2 4 ++ (number order 4 h.zone ++ (number order 4 h.accuracy ++ (number order 4 h.snap ++ number order 4 h.link)))),
      length-append (number order 2 4) (number order 4 h.zone ++ (number order 4 h.accuracy ++ (number order 4 h.snap ++ number order 4 h.link))),
      length-append (number order 4 h.zone) (number order 4 h.accuracy ++ (number order 4 h.snap ++ number order 4 h.link)),
      length-append (number order 4 h.accuracy) (number order 4 h.snap ++ number order 4 h.link),
      length-append (number order 4 h.snap) (number order 4 h.link),
      length-number order 4 (magic h.nanoseconds),
      length-number order 2 2,
      length-number order 2 4,
      length-number order 4 h.zone,
      length-number order 4 h.accuracy,
      length-number order 4 h.snap,
      length-number order 4 h.link,
    )

-- what two headers share that the same octets begin with
pub record SameHeader (order other : Order) (h k : Header) (rest rest_2 : List ℕ) : Type 0 where
  pub orders : order ≡ other
  pub links : h.link ≡ k.link
  pub rests : rest ≡ rest_2

same_header_in_order : (order : Order) (h k : Header) (r s : List ℕ) → FitsHeader h → FitsHeader k
    → header_octets order h ++ r ≡ header_octets order k ++ s → SameHeader order order h k r s
same_header_in_order order h k r s fits fits_2 e =
    let laid = sym (header_laid order h r) ∙ e ∙ header_laid order k s in
    let version = same_in_order order h.nanoseconds k.nanoseconds 2 4 2 4 _ _ (omega arith) (omega arith) (omega arith) (omega arith) laid in
    let zone = same_number order 4 h.zone k.zone _ _ (let f = fits.zone in omega arith) (let f = fits_2.zone in omega arith) version.rests in
    let accuracy = same_number order 4 h.accuracy k.accuracy _ _ (let f = fits.accuracy in omega arith) (let f = fits_2.accuracy in omega arith) zone.1 in
    let snap = same_number order 4 h.snap k.snap _ _ (let f = fits.snap in omega arith) (let f = fits_2.snap in omega arith) accuracy.1 in
    let link = same_number order 4 h.link k.link r s (let f = fits.link in omega arith) (let f = fits_2.link in omega arith) snap.1 in
    record { orders = refl; links = link.0; rests = link.1 }

pub same_header : (order other : Order) (h k : Header) (r s : List ℕ) → FitsHeader h → FitsHeader k
    → header_octets order h ++ r ≡ header_octets other k ++ s → SameHeader order other h k r s
same_header HighFirst HighFirst h k r s fits fits_2 e = same_header_in_order HighFirst h k r s fits fits_2 e
same_header LowFirst LowFirst h k r s fits fits_2 e = same_header_in_order LowFirst h k r s fits fits_2 e
same_header HighFirst LowFirst h k r s fits fits_2 e =
    absurd (orders_differ h.nanoseconds k.nanoseconds _ _ (sym (header_laid HighFirst h r) ∙ e ∙ header_laid LowFirst k s))
same_header LowFirst HighFirst h k r s fits fits_2 e =
    absurd (orders_differ k.nanoseconds h.nanoseconds _ _ (sym (header_laid HighFirst k s) ∙ sym e ∙ header_laid LowFirst h r))

-- ---- one fault

-- a header is laid out as magic number, version and the rest
bare_header : (order : Order) (h : Header) → header_octets order h ≡ versioned order h.nanoseconds 2 4 (told_behind order h [])
bare_header order h = sym (append-nil (header_octets order h)) ∙ header_laid order h []

version_and_link : (octets : List ℕ) (major minor link : ℕ) → HasOtherVersion octets major minor → HasOtherLink octets link → ⊥
version_and_link octets major minor link v l =
    let same = same_version v.order l.order v.nanoseconds l.header.nanoseconds major minor 2 4 v.rest _ v.major_fits v.minor_fits (omega arith) (omega arith)
    (sym v.spelled ∙ l.spelled ∙ bare_header l.order l.header) in
    v.other (same.majors, same.minors)

version_one : (octets : List ℕ) (a b c d : ℕ) → HasOtherVersion octets a b → HasOtherVersion octets c d → (a ≡ c) × (b ≡ d)
version_one octets a b c d v w =
    let same = same_version v.order w.order v.nanoseconds w.nanoseconds a b c d v.rest w.rest v.major_fits v.minor_fits w.major_fits w.minor_fits
    (sym v.spelled ∙ w.spelled) in
    (same.majors, same.minors)

pub link_of : (octets : List ℕ) (order : Order) (h : Header) (link : ℕ) → FitsHeader h → octets ≡ header_octets order h
    → HasOtherLink octets link → link ≡ h.link
link_of octets order h link fits e l =
    let same = same_header l.order order l.header h [] [] l.fits fits
    (append-nil (header_octets l.order l.header) ∙ sym l.spelled ∙ e ∙ sym (append-nil (header_octets order h))) in
    l.told ∙ same.links

magic_stands : (octets : List ℕ) (order : Order) (n : Bool) (rest : List ℕ) → HasNoMagic octets → octets ≡ number order 4 (magic n) ++ rest → ⊥
magic_stands octets order n rest none e = none order n rest e

same_versions : (a b c d : ℕ) → (a ≡ c) × (b ≡ d) → Version a b ≡ Version c d
same_versions a b c d e = let first = e.0 in let second = e.1 in cc

pub one_fault : (octets : List ℕ) (f g : PcapFault) → IsHeaderFault octets f → IsHeaderFault octets g → f ≡ g
one_fault octets Magic Magic h k = refl
one_fault octets Magic (Version a b) h k = absurd (magic_stands octets k.order k.nanoseconds _ h k.spelled)
one_fault octets Magic (LinkType a) h k = absurd (magic_stands octets k.order k.header.nanoseconds _ h (k.spelled ∙ bare_header k.order k.header))
one_fault octets Magic (RecordLength a) h k = absurd k
one_fault octets (Version a b) Magic h k = absurd (magic_stands octets h.order h.nanoseconds _ k h.spelled)
one_fault octets (Version a b) (Version c d) h k = same_versions a b c d (version_one octets a b c d h k)
one_fault octets (Version a b) (LinkType c) h k = absurd (version_and_link octets a b c h k)
one_fault octets (Version a b) (RecordLength c) h k = absurd k
one_fault octets (LinkType a) Magic h k = absurd (magic_stands octets h.order h.header.nanoseconds _ k (h.spelled ∙ bare_header h.order h.header))
one_fault octets (LinkType a) (Version c d) h k = absurd (version_and_link octets c d a k h)
one_fault octets (LinkType a) (LinkType c) h k = ap LinkType (h.told ∙ sym (link_of octets h.order h.header c h.fits h.spelled k))
one_fault octets (LinkType a) (RecordLength c) h k = absurd k
one_fault octets (RecordLength a) g h k = absurd h

-- a header has no fault
pub no_fault : (octets : List ℕ) (order : Order) (h : Header) (f : PcapFault) → IsHeader h → octets ≡ header_octets order h
    → IsHeaderFault octets f → ⊥
no_fault octets order h Magic right e wrong = magic_stands octets order h.nanoseconds _ wrong (e ∙ bare_header order h)
no_fault octets order h (Version a b) right e wrong =
    let same = same_version wrong.order order wrong.nanoseconds h.nanoseconds a b 2 4 wrong.rest _ wrong.major_fits wrong.minor_fits (omega arith) (omega arith)
    (sym wrong.spelled ∙ e ∙ bare_header order h) in
    wrong.other (same.majors, same.minors)
no_fault octets order h (LinkType a) right e wrong =
    wrong.other (ap (λ (n : ℕ). n % 2 ^ 16) (link_of octets order h a right.fits e wrong) ∙ right.ethernet)
no_fault octets order h (RecordLength a) right e wrong = wrong
