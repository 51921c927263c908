-- Parts that are played one after another.
use Rattle.std.proofs.Common.{◌≡◌, Bool, true, false, List, [], ◌++◌, refl, sym, ap, ◌∙◌, append_assoc}
use Rattle.std.specs.Prelude.{if◌then◌else◌}
use Rattle.clnp_machine.specs.LiveModel.Lines.{NodeLine}
use Rattle.clnp_machine.specs.LiveModel.Node.{Node, Outcome, Played, Goes, Ends, Strays, and_then, behind}

pub behind_nothing : (p : Played) → behind [] p ≡ p
behind_nothing (Goes node left lines) = refl
behind_nothing (Ends node lines) = refl
behind_nothing Strays = refl

pub behind_both : (a b : List NodeLine) (p : Played) → behind a (behind b p) ≡ behind (a ++ b) p
behind_both a b (Goes node left lines) = ap (λ ls. Goes node left ls) (sym (append_assoc a b lines))
behind_both a b (Ends node lines) = ap (λ ls. Ends node ls) (sym (append_assoc a b lines))
behind_both a b Strays = refl

behind_then : (lines : List NodeLine) (p : Played) (next : Node → List Outcome → Played)
    → and_then (behind lines p) next ≡ behind lines (and_then p next)
behind_then lines (Goes node left others) next = sym (behind_both lines others (next node left))
behind_then lines (Ends node others) next = refl
behind_then lines Strays next = refl

-- it doesn't matter which parts are taken together
pub then_then : (p : Played) (next last : Node → List Outcome → Played)
    → and_then (and_then p next) last ≡ and_then p (λ node left. and_then (next node left) last)
then_then (Goes node left lines) next last = behind_then lines (next node left) last
then_then (Ends node lines) next last = refl
then_then Strays next last = refl

-- What holds of a part that is over, of what comes of it; and of one that is over or ends with its outcomes.

abbrev pub OnGoes : Played → (Node → List Outcome → List NodeLine → Type 0) → Type 0
OnGoes (Goes node left lines) P = P node left lines
OnGoes (Ends node lines) P = Unit {0}
OnGoes Strays P = Unit {0}

abbrev pub OnPlayed : Played → (Node → List Outcome → List NodeLine → Type 0) → Type 0
OnPlayed (Goes node left lines) P = P node left lines
OnPlayed (Ends node lines) P = P node [] lines
OnPlayed Strays P = Unit {0}

-- some of the outcomes were used, and this holds of them
pub record By (R : List Outcome → Node → List NodeLine → Type 0) (outcomes : List Outcome) (node : Node) (left : List Outcome) (lines : List NodeLine) : Type 0 where
  pub used : List Outcome
  pub whole : outcomes ≡ used ++ left
  pub holds : R used node lines

pub goes_if : (b : Bool) (p q : Played) (P : Node → List Outcome → List NodeLine → Type 0) → (b ≡ true → OnGoes p P) → (b ≡ false → OnGoes q P)
    → OnGoes (if b then p else q) P
goes_if true p q P h k = h refl
goes_if false p q P h k = k refl

pub played_if : (b : Bool) (p q : Played) (P : Node → List Outcome → List NodeLine → Type 0) → (b ≡ true → OnPlayed p P) → (b ≡ false → OnPlayed q P)
    → OnPlayed (if b then p else q) P
played_if true p q P h k = h refl
played_if false p q P h k = k refl

used_both : (outcomes us left vs rest : List Outcome) → outcomes ≡ us ++ left → left ≡ vs ++ rest → outcomes ≡ (us ++ vs) ++ rest
used_both outcomes us left vs rest e f = e ∙ (ap (λ ws. us ++ ws) f ∙ sym (append_assoc us vs rest))

module _ (R T : List Outcome → Node → List NodeLine → Type 0) (S : Node → List Outcome → Node → List NodeLine → Type 0)
    (joins : (us : List Outcome) (b : Node) (ls : List NodeLine) (vs : List Outcome) (c : Node) (ms : List NodeLine)
    → R us b ls → S b vs c ms → T (us ++ vs) c (ls ++ ms)) where
  by_behind : (outcomes left : List Outcome) (b : Node) (ls : List NodeLine) → By R outcomes b left ls
      → (q : Played) → OnGoes q (By (S b) left) → OnGoes (behind ls q) (By T outcomes)
  by_behind outcomes left b ls h (Goes c rest ms) k =
      record {
        used = h.used ++ k.used;
        whole = used_both outcomes h.used left k.used rest h.whole k.whole;
        holds = joins h.used b ls k.used c ms h.holds k.holds;
      }
  by_behind outcomes left b ls h (Ends c ms) k = tt
  by_behind outcomes left b ls h Strays k = tt

  -- one part, and then the next
  pub by_then : (outcomes : List Outcome) (p : Played) (next : Node → List Outcome → Played) → OnGoes p (By R outcomes)
      → ((b : Node) (left : List Outcome) → OnGoes (next b left) (By (S b) left)) → OnGoes (and_then p next) (By T outcomes)
  by_then outcomes (Goes b left ls) next h k = by_behind outcomes left b ls h (next b left) (k b left)
  by_then outcomes (Ends b ls) next h k = tt
  by_then outcomes Strays next h k = tt

-- the same of what holds of parts that are played in part, too
module _ (R : Node → List Outcome → Node → List NodeLine → Type 0)
    (joins : (a : Node) (us : List Outcome) (b : Node) (ls : List NodeLine) (vs : List Outcome) (c : Node) (ms : List NodeLine)
    → R a us b ls → R b vs c ms → R a (us ++ vs) c (ls ++ ms)) where
  played_behind : (a : Node) (outcomes left : List Outcome) (b : Node) (ls : List NodeLine) → By (R a) outcomes b left ls
      → (q : Played) → OnPlayed q (By (R b) left) → OnPlayed (behind ls q) (By (R a) outcomes)
  played_behind a outcomes left b ls h (Goes c rest ms) k =
      record {
        used = h.used ++ k.used;
        whole = used_both outcomes h.used left k.used rest h.whole k.whole;
        holds = joins a h.used b ls k.used c ms h.holds k.holds;
      }
  played_behind a outcomes left b ls h (Ends c ms) k =
      record {
        used = h.used ++ k.used;
        whole = used_both outcomes h.used left k.used [] h.whole k.whole;
        holds = joins a h.used b ls k.used c ms h.holds k.holds;
      }
  played_behind a outcomes left b ls h Strays k = tt

  pub played_then : (a : Node) (outcomes : List Outcome) (p : Played) (next : Node → List Outcome → Played) → OnPlayed p (By (R a) outcomes)
      → ((b : Node) (left : List Outcome) → OnPlayed (next b left) (By (R b) left)) → OnPlayed (and_then p next) (By (R a) outcomes)
  played_then a outcomes (Goes b left ls) next h k = played_behind a outcomes left b ls h (next b left) (k b left)
  played_then a outcomes (Ends b ls) next h k = h
  played_then a outcomes Strays next h k = tt
