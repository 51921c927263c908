-- The buffer whose time has ended first.
use Rattle.std.proofs.Common.{◌≡◌, ℕ, ◌<◌, ◌≤◌, true, false, List, [], ◌∷◌, Option, Some, None, refl, sym, ap, ◌∙◌, subst, inl, inr, arith}
use Rattle.std.specs.Prelude.{nat_le}
use Rattle.std.specs.List.{All}
use Rattle.std.proofs.lemmas.Bool.{cases_Bool, leb-true, leb-false, lt-leb}
use Rattle.std.proofs.lemmas.List.Elements.{All-nil, All-cons, All-head, All-tail, All-weaker}
use Rattle.system_tables.specs.Reassembly.Buffer.{Buffer, due, sooner}
use Rattle.system_tables.specs.Reassembly.Claims.{IsDue}
use Rattle.std.proofs.lemmas.Option.{same_Some}

module _ {C : Type 0} where
  -- the due buffer of a list, where the first's time hasn't ended and where it has
  due_later : (now : ℕ) (buffer : Buffer C) (others : List (Buffer C)) → nat_le buffer.deadline now ≡ false
      → due now (buffer ∷ others) ≡ due now others
  due_later now buffer others e = rw e

  due_here : (now : ℕ) (buffer : Buffer C) (others : List (Buffer C)) → nat_le buffer.deadline now ≡ true
      → due now (buffer ∷ others) ≡ Some (sooner buffer (due now others))
  due_here now buffer others e = rw e

  pub none_due : (now : ℕ) (buffers : List (Buffer C)) → due now buffers ≡ None → All (λ buffer. now < buffer.deadline) buffers
  none_due now [] e = All-nil (λ (b : Buffer C). now < b.deadline)
  none_due now (buffer ∷ others) e =
      elim (cases_Bool (nat_le buffer.deadline now)) [
        | inl ended ↦ absurd (let s = due_here now buffer others ended in cc)
        | inr lasts ↦
            All-cons (λ (b : Buffer C). now < b.deadline) buffer others (leb-false buffer.deadline now lasts)
            (none_due now others (sym (due_later now buffer others lasts) ∙ e))
      ]

  pub due_of_none : (now : ℕ) (buffers : List (Buffer C)) → All (λ buffer. now < buffer.deadline) buffers → due now buffers ≡ None
  due_of_none now [] all = refl
  due_of_none now (buffer ∷ others) all =
      due_later now buffer others (lt-leb buffer.deadline now (All-head (λ (b : Buffer C). now < b.deadline) buffer others all))
      ∙ due_of_none now others (All-tail (λ (b : Buffer C). now < b.deadline) buffer others all)

  -- the due buffer of the others, with one that is later before them
  put_before : (now : ℕ) (buffer : Buffer C) (others : List (Buffer C)) (ended : Buffer C)
      → ended.deadline < buffer.deadline → IsDue now others ended → IsDue now (buffer ∷ others) ended
  put_before now buffer others ended later is =
      record {
        before = buffer ∷ is.before;
        behind = is.behind;
        stands_there = ap (λ rest. buffer ∷ rest) is.stands_there;
        has_ended = is.has_ended;
        soonest = All-cons (λ (b : Buffer C). ended.deadline ≤ b.deadline) buffer others (omega arith) is.soonest;
        first = All-cons (λ (b : Buffer C). ended.deadline < b.deadline) buffer is.before later is.first;
      }

  stands_first : (now : ℕ) (buffer : Buffer C) (others : List (Buffer C)) → buffer.deadline ≤ now
      → All (λ other. buffer.deadline ≤ other.deadline) others → IsDue now (buffer ∷ others) buffer
  stands_first now buffer others ended all =
      record {
        before = [];
        behind = others;
        stands_there = refl;
        has_ended = ended;
        soonest = All-cons (λ (b : Buffer C). buffer.deadline ≤ b.deadline) buffer others (omega arith) all;
        first = All-nil (λ (b : Buffer C). buffer.deadline < b.deadline);
      }

  -- by what the others' due buffer is
  due_by : (now : ℕ) (buffer : Buffer C) (others : List (Buffer C)) (ended : Buffer C) (found : Option (Buffer C))
      → due now others ≡ found → buffer.deadline ≤ now → sooner buffer found ≡ ended
      → ((other : Buffer C) → found ≡ Some other → IsDue now others other)
      → IsDue now (buffer ∷ others) ended
  due_by now buffer others ended None e has_ended is ih =
      subst (IsDue now (buffer ∷ others)) is
      (stands_first now buffer others has_ended
      (All-weaker (λ (b : Buffer C). now < b.deadline) (λ (b : Buffer C). buffer.deadline ≤ b.deadline) (λ b later. omega arith)
      others (none_due now others e)))
  due_by now buffer others ended (Some other) e has_ended is ih =
      elim (cases_Bool (nat_le buffer.deadline other.deadline)) [
        | inl first ↦
            subst (IsDue now (buffer ∷ others)) (rw first at is)
            (stands_first now buffer others has_ended
            (All-weaker (λ (b : Buffer C). other.deadline ≤ b.deadline) (λ (b : Buffer C). buffer.deadline ≤ b.deadline)
            (λ b later. let l = leb-true buffer.deadline other.deadline first in omega arith)
            others (ih other refl).soonest))
        | inr later ↦
            subst (IsDue now (buffer ∷ others)) (rw later at is)
            (put_before now buffer others other (leb-false buffer.deadline other.deadline later) (ih other refl))
      ]

  pub due_is : (now : ℕ) (buffers : List (Buffer C)) (ended : Buffer C) → due now buffers ≡ Some ended → IsDue now buffers ended
  due_is now [] ended e = absurd (cc)
  due_is now (buffer ∷ others) ended e =
      elim (cases_Bool (nat_le buffer.deadline now)) [
        | inl is ↦
            due_by now buffer others ended (due now others) refl (leb-true buffer.deadline now is)
            (same_Some (sooner buffer (due now others)) ended (sym (due_here now buffer others is) ∙ e))
            (λ other f. due_is now others other f)
        | inr lasts ↦
            let is = due_is now others ended (sym (due_later now buffer others lasts) ∙ e) in
            put_before now buffer others ended
            (let l = leb-false buffer.deadline now lasts in let h = is.has_ended in omega arith) is
      ]
