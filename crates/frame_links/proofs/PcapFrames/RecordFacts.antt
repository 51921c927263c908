-- Records: which octets are one, and how octets end that are none.
use Rattle.std.proofs.Common.{◌≡◌, ℕ, ◌+◌, ◌<◌, ◌≤◌, List, [], ◌∷◌, ◌++◌, length, take, drop, refl, sym, ap, ◌∙◌, subst, arith, length-append}
use Rattle.std.proofs.lemmas.List.{append_assoc, take_at, drop_at, drop-drop}
use Rattle.std.specs.List.{AllByRecursion}
use Rattle.frame_links.specs.declared.pcap_frames.fault.PcapFault.{PcapFault}
use Rattle.frame_links.specs.declared.pcap_frames.fault.PcapFault.TheVariants.{RecordLength}
use Rattle.frame_links.specs.declared.pcap_frames.order.Order.{Order}
use Rattle.frame_links.specs.PcapFrames.Faults.{HasOtherLength}
use Rattle.frame_links.specs.PcapFrames.File.{Captured, IsCaptured, all_captured, captured_octets, most_captured}
use Rattle.frame_links.specs.PcapFrames.Numbers.{number, value}
use Rattle.frame_links.specs.PcapFrames.Reading.{Ending, Entire, CutOff, Faulty, IsPart, captured_length}
use Rattle.frame_links.proofs.PcapFrames.NumberFacts.{length-number, same_number, value-number}

-- ---- one record

-- a record and the rest, as its four numbers and what follows
abbrev pub told_record : Order → Captured → List ℕ → List ℕ
told_record order c rest =
    number order 4 c.seconds
    ++ (number order 4 c.fraction ++ (number order 4 (length c.octets) ++ (number order 4 c.original ++ (c.octets ++ rest))))

record_laid : (order : Order) (c : Captured) (rest : List ℕ) → captured_octets order c ++ rest ≡ told_record order c rest
record_laid order c rest = simp append_assoc

-- two fronts of one length
pub same_fronts : (xs ys r s : List ℕ) → length xs ≡ length ys → xs ++ r ≡ ys ++ s → (xs ≡ ys) × (r ≡ s)
same_fronts xs ys r s size e = (
  sym (take_at xs r (length ys) size) ∙ ap (take (length ys)) e ∙ take_at ys s (length ys) refl,
  sym (drop_at xs r (length ys) size) ∙ ap (drop (length ys)) e ∙ drop_at ys s (length ys) refl,
)

same_fields : (s f o t g p : ℕ) (xs ys : List ℕ) → s ≡ t → f ≡ g → o ≡ p → xs ≡ ys
    → (let c : Captured = record { seconds = s; fraction = f; original = o; octets = xs } in c)
    ≡ record { seconds = t; fraction = g; original = p; octets = ys }
same_fields s f o t g p xs ys at_s at_f at_o at_xs = cc

-- the octets tell the record, and what follows
pub same_record : (order : Order) (c d : Captured) (r s : List ℕ) → IsCaptured c → IsCaptured d
    → captured_octets order c ++ r ≡ captured_octets order d ++ s → (c ≡ d) × (r ≡ s)
same_record order c d r s is_c is_d e =
    let few_c = is_c.few in
    let few_d = is_d.few in
    let laid = sym (record_laid order c r) ∙ e ∙ record_laid order d s in
    let seconds = same_number order 4 c.seconds d.seconds _ _ (let f = is_c.seconds in omega arith) (let f = is_d.seconds in omega arith) laid in
    let fraction = same_number order 4 c.fraction d.fraction _ _ (let f = is_c.fraction in omega arith) (let f = is_d.fraction in omega arith) seconds.1 in
    let size = same_number order 4 (length c.octets) (length d.octets) _ _ (omega arith) (omega arith) fraction.1 in
    let original = same_number order 4 c.original d.original _ _ (let f = is_c.original in omega arith) (let f = is_d.original in omega arith) size.1 in
    let octets = same_fronts c.octets d.octets r s size.0 original.1 in
    (same_fields c.seconds c.fraction c.original d.seconds d.fraction d.original c.octets d.octets seconds.0 fraction.0 original.0 octets.0, octets.1)

-- behind two numbers of four octets
drop_eight : (order : Order) (x y : ℕ) (rest : List ℕ) → drop 8 (number order 4 x ++ (number order 4 y ++ rest)) ≡ rest
drop_eight order x y rest =
    sym (drop-drop 4 4 (number order 4 x ++ (number order 4 y ++ rest)))
    ∙ ap (drop 4) (drop_at (number order 4 x) (number order 4 y ++ rest) 4 (length-number order 4 x))
    ∙ drop_at (number order 4 y) rest 4 (length-number order 4 y)

pub record BeginsRecord (order : Order) (octets : List ℕ) (c : Captured) (rest : List ℕ) : Type 0 where
  pub tells : captured_length order octets ≡ length c.octets
  pub size : length octets ≡ 16 + length c.octets + length rest

pub begins_record : (order : Order) (octets : List ℕ) (c : Captured) (rest : List ℕ) → IsCaptured c
    → octets ≡ captured_octets order c ++ rest → BeginsRecord order octets c rest
begins_record order octets c rest is_c e =
    let few = is_c.few in
    let laid = e ∙ record_laid order c rest in
    record {
      tells =
          ap (captured_length order) laid
          ∙ ap (value order 4) (drop_eight order c.seconds c.fraction (number order 4 (length c.octets) ++ (number order 4 c.original ++ (c.octets ++ rest))))
          ∙ value-number order 4 (length c.octets) (number order 4 c.original ++ (c.octets ++ rest)) (omega arith);
      size =
          omega (
            arith,
            ap length laid,
            length-append (number order 4 c.seconds) (number order 4 c.fraction ++ (number order 4 (length c.octets) ++ (number order 4 c.original ++ (c.octets ++ rest)))),
            length-append (number order 4 c.fraction) (number order 4 (length c.octets) ++ (number order 4 c.original ++ (c.octets ++ rest))),
            length-append (number order 4 (length c.octets)) (number order 4 c.original ++ (c.octets ++ rest)),
            length-append (number order 4 c.original) (c.octets ++ rest),
            length-append c.octets rest,
            length-number order 4 c.seconds,
            length-number order 4 c.fraction,
            length-number order 4 (length c.octets),
            length-number order 4 c.original,
          );
    }

-- ---- what follows the last whole record

pub record CutTail (order : Order) (rest : List ℕ) (count : ℕ) : Type 0 where
  pub partial : IsPart order rest
  pub some : 0 < length rest
  pub counted : count ≡ length rest

pub record FaultyTail (order : Order) (rest : List ℕ) (fault : PcapFault) : Type 0 where
  pub captured : ℕ
  pub part : List ℕ
  pub more : List ℕ
  pub spelled : rest ≡ part ++ more
  pub wrong : HasOtherLength order part captured
  pub told : fault ≡ RecordLength captured

abbrev pub Tail : Order → List ℕ → Ending → Type 0
Tail order rest Entire = rest ≡ []
Tail order rest (CutOff count) = CutTail order rest count
Tail order rest (Faulty fault) = FaultyTail order rest fault

-- a captured length that is too great is there
pub record TellsTooMany (order : Order) (rest : List ℕ) (captured : ℕ) : Type 0 where
  pub tells : captured_length order rest ≡ captured
  pub size : 12 ≤ length rest
  pub many : most_captured < captured_length order rest

faulty_laid : (order : Order) (rest : List ℕ) (fault : PcapFault) (t : FaultyTail order rest fault)
    → rest ≡ number order 4 t.wrong.seconds ++ (number order 4 t.wrong.fraction ++ (number order 4 t.captured ++ t.more))
faulty_laid order rest fault t = t.spelled ∙ ap (λ (xs : List ℕ). xs ++ t.more) t.wrong.spelled ∙ simp append_assoc

pub tells_too_many : (order : Order) (rest : List ℕ) (fault : PcapFault) (t : FaultyTail order rest fault) → TellsTooMany order rest t.captured
tells_too_many order rest fault t =
    let w = t.wrong in
    let fits = w.fits in
    let many = w.many in
    let laid = faulty_laid order rest fault t in
    let tells : captured_length order rest ≡ t.captured =
    ap (captured_length order) laid
    ∙ ap (value order 4) (drop_eight order w.seconds w.fraction (number order 4 t.captured ++ t.more))
    ∙ value-number order 4 t.captured t.more (omega arith) in
    record {
      tells = tells;
      size =
          omega (
            arith,
            ap length laid,
            length-append (number order 4 w.seconds) (number order 4 w.fraction ++ (number order 4 t.captured ++ t.more)),
            length-append (number order 4 w.fraction) (number order 4 t.captured ++ t.more),
            length-append (number order 4 t.captured) t.more,
            length-number order 4 w.seconds,
            length-number order 4 w.fraction,
            length-number order 4 t.captured,
          );
      many = omega arith;
    }

-- such a rest is no record
pub no_record : (order : Order) (rest : List ℕ) (ending : Ending) (c : Captured) (more : List ℕ) → Tail order rest ending → IsCaptured c
    → rest ≡ captured_octets order c ++ more → ⊥
no_record order rest Entire c more t is_c e =
    let b = begins_record order rest c more is_c e in
    let size = b.size in
    omega (arith, ap length t)
no_record order rest (CutOff count) c more t is_c e =
    let b = begins_record order rest c more is_c e in
    let size = b.size in
    let tells = b.tells in
    let short = t.partial.short (omega arith) in
    omega arith
no_record order rest (Faulty fault) c more t is_c e =
    let b = begins_record order rest c more is_c e in
    let tells = b.tells in
    let too_many = tells_too_many order rest fault t in
    let many = too_many.many in
    let few = is_c.few in
    omega arith

-- a rest ends in one way
pub one_tail : (order : Order) (rest : List ℕ) (e f : Ending) → Tail order rest e → Tail order rest f → e ≡ f
one_tail order rest Entire Entire t u = refl
one_tail order rest Entire (CutOff n) t u = let some = u.some in absurd (omega (arith, ap length t))
one_tail order rest Entire (Faulty g) t u = let size = (tells_too_many order rest g u).size in absurd (omega (arith, ap length t))
one_tail order rest (CutOff m) Entire t u = let some = t.some in absurd (omega (arith, ap length u))
one_tail order rest (CutOff m) (CutOff n) t u = ap CutOff (t.counted ∙ sym u.counted)
one_tail order rest (CutOff m) (Faulty g) t u =
    let too_many = tells_too_many order rest g u in
    let many = too_many.many in
    let few = t.partial.few too_many.size in
    absurd (omega arith)
one_tail order rest (Faulty f) Entire t u = let size = (tells_too_many order rest f t).size in absurd (omega (arith, ap length u))
one_tail order rest (Faulty f) (CutOff n) t u =
    let too_many = tells_too_many order rest f t in
    let many = too_many.many in
    let few = u.partial.few too_many.size in
    absurd (omega arith)
one_tail order rest (Faulty f) (Faulty g) t u =
    let first = tells_too_many order rest f t in
    let second = tells_too_many order rest g u in
    ap Faulty (t.told ∙ ap RecordLength (sym first.tells ∙ second.tells) ∙ sym u.told)

-- records and how they end
pub record SameRecords (records others : List Captured) (ending other : Ending) : Type 0 where
  pub lists : records ≡ others
  pub endings : ending ≡ other

pub same_records : (order : Order) (xs ys : List Captured) (r s : List ℕ) (e f : Ending) → AllByRecursion IsCaptured xs → AllByRecursion IsCaptured ys
    → Tail order r e → Tail order s f → all_captured order xs ++ r ≡ all_captured order ys ++ s → SameRecords xs ys e f
same_records order [] [] r s e f are_x are_y t u same =
    record { lists = refl; endings = one_tail order s e f (subst (λ (rest : List ℕ). Tail order rest e) same t) u }
same_records order [] (y ∷ ys) r s e f are_x are_y t u same =
    absurd (no_record order r e y _ t are_y.0 (same ∙ append_assoc (captured_octets order y) (all_captured order ys) s))
same_records order (x ∷ xs) [] r s e f are_x are_y t u same =
    absurd (no_record order s f x _ u are_x.0 (sym same ∙ append_assoc (captured_octets order x) (all_captured order xs) r))
same_records order (x ∷ xs) (y ∷ ys) r s e f are_x are_y t u same =
    let first = same_record order x y (all_captured order xs ++ r) (all_captured order ys ++ s) are_x.0 are_y.0
    (sym (append_assoc (captured_octets order x) (all_captured order xs) r) ∙ same ∙ append_assoc (captured_octets order y) (all_captured order ys) s) in
    let others = same_records order xs ys r s e f are_x.1 are_y.1 t u first.1 in
    record {
      lists = ap (λ (z : Captured). z ∷ xs) first.0 ∙ ap (λ (zs : List Captured). y ∷ zs) others.lists;
      endings = others.endings;
    }
