-- Steps of reading to the end and of writing a whole piece.
use Rattle.std.proofs.Common.{◌≡◌, ℕ, ◌+◌, ◌-◌, ◌<◌, ◌≤◌, List, [], ◌++◌, length, Option, arith, take, drop, sym, ap, ◌∙◌, append_assoc, append-nil, length-append}
use Rattle.std.proofs.Math.Seq.{take-add}
use Rattle.std.proofs.KnownBytes.{Consumes-nil, Consumes-trans, Consumes-kept, Appends-trans}
use Rattle.std.specs.Io.KnownBytes.{Appends, Consumes, IsAtEnd, Keeps}
use Rattle.clnp_base.specs.Streams.{Pours, PoursCount, PoursAll, PoursMore, PoursWithin}
use Rattle.std.proofs.lemmas.List.{take_rest}

-- what came so far, with room for so many more octets
pub record Poured (room limit : ℕ) (old new : List ℕ) (before after : Option (List ℕ)) : Type 0 where
  pub pours : Pours old new before after
  pub counted : length pours.came + room ≡ limit

pub Poured-none : (limit : ℕ) (old : List ℕ) (before : Option (List ℕ)) → Poured limit limit old old before before
Poured-none limit old before = record {
  pours = record { came = []; appended = sym (append-nil old); consumed = Consumes-nil before };
  counted = omega arith;
}

abbrev pub Pours-then : (o m n : List ℕ) (a b c : Option (List ℕ)) → Pours o m a b → Pours m n b c → Pours o n a c
Pours-then o m n a b c p q = record {
  came = p.came ++ q.came;
  appended = q.appended ∙ (ap (λ (t : List ℕ). t ++ q.came) p.appended ∙ append_assoc o p.came q.came);
  consumed = Consumes-trans a b c p.came q.came p.consumed q.consumed;
}

pub Poured-more : (room limit k : ℕ) (o m n : List ℕ) (a b c : Option (List ℕ)) → Poured room limit o m a b → PoursCount k m n b c → k ≤ room → Poured (room - k) limit o n a c
Poured-more room limit k o m n a b c p q le = record {
  pours = Pours-then o m n a b c p.pours q.pours;
  counted = omega (arith, length-append p.pours.came q.pours.came, p.counted, q.counted);
}

pub Poured-all : (room limit : ℕ) (o m n : List ℕ) (a b c : Option (List ℕ)) → Poured room limit o m a b → PoursCount 0 m n b c → IsAtEnd c → PoursAll limit o n a c
Poured-all room limit o m n a b c p q e = record {
  pours = Pours-then o m n a b c p.pours q.pours;
  within = omega (arith, length-append p.pours.came q.pours.came, p.counted, q.counted);
  at_end = e;
}

pub Poured-beyond : (room limit k : ℕ) (o m n : List ℕ) (a b c : Option (List ℕ)) → Poured room limit o m a b → PoursCount k m n b c → room < k → k ≤ room + 1 → PoursMore limit o n a c
Poured-beyond room limit k o m n a b c p q lt le = record {
  pours = Pours-then o m n a b c p.pours q.pours;
  beyond = omega (arith, length-append p.pours.came q.pours.came, p.counted, q.counted);
}

pub Poured-kept : (room limit : ℕ) (o m n : List ℕ) (a b c : Option (List ℕ)) → Poured room limit o m a b → n ≡ m → Keeps b c → Pours o n a c
Poured-kept room limit o m n a b c p e k = record {
  came = p.pours.came;
  appended = e ∙ p.pours.appended;
  consumed = Consumes-kept a b c p.pours.came p.pours.consumed k;
}

pub Poured-within : (room limit : ℕ) (o m n : List ℕ) (a b c : Option (List ℕ)) → Poured room limit o m a b → n ≡ m → Keeps b c → PoursWithin limit o n a c
Poured-within room limit o m n a b c p e k = record {
  pours = record { came = p.pours.came; appended = e ∙ p.pours.appended; consumed = Consumes-kept a b c p.pours.came p.pours.consumed k };
  within = omega (arith, p.counted);
}

pub Poured-end : (limit : ℕ) (o n : List ℕ) (a c : Option (List ℕ)) → PoursAll limit o n a c → PoursWithin limit o n a c
Poured-end limit o n a c p = record { pours = p.pours; within = p.within }

pub Within-none : (limit : ℕ) (o : List ℕ) (a : Option (List ℕ)) → PoursWithin limit o o a a
Within-none limit o a = record {
  pours = record { came = []; appended = sym (append-nil o); consumed = Consumes-nil a };
  within = omega arith;
}

pub poured_by : (o m n cs : List ℕ) (k : ℕ) (a b : Option (List ℕ)) → m ≡ o → n ≡ m ++ cs → Consumes a b cs → k ≡ length cs → PoursCount k o n a b
poured_by o m n cs k a b e f q l = record {
  pours = record { came = cs; appended = f ∙ ap (λ (t : List ℕ). t ++ cs) e; consumed = q };
  counted = sym l;
}

pub written_on : (piece : List ℕ) (at n : ℕ) (a b c : Option (List ℕ)) → Appends a b (take at piece) → Appends b c (take n (take (length piece - at) (drop at piece))) → Appends a c (take (at + n) piece)
written_on piece at n a b c p q =
    rw (take-add at n piece) (Appends-trans a b c (take at piece) (take n (drop at piece)) p (rw (take_rest piece at) at q))
