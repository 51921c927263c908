-- The echo requests that are noted, and those that the model's system still has.
use Rattle.std.proofs.Common.{◌≡◌, ◌∙◌, sym, ap, refl, subst, ℕ, suc, ◌+◌, ◌≤◌, ◌<◌, true, false, Bool, inl, inr, List, [], ◌∷◌, ◌++◌, Some, None, cond, nat_lt, length, length-append, slice_get, drop, arith}
use Rattle.std.specs.Prelude.{◌&&◌, option_map}
use Rattle.std.specs.List.{find, position_from, remove}
use Rattle.std.specs.Str.{bytes_eq}
use Rattle.std.proofs.lemmas.Bool.{cases_Bool, ltb-false, ltb-true}
use Rattle.clnp_machine.specs.ClnpViews.Extent.{seen}
use Rattle.clnp_machine.specs.Pdus.declared.pdu_header.kind.Kind.{Kind}
use Rattle.clnp_machine.specs.Pdus.declared.pdu_header.kind.Kind.TheVariants.{Dt, Er, Erq, Erp}
use Rattle.clnp_machine.specs.MadePdus.Match.{echoes}
use Rattle.clnp_machine.specs.Unit.{DataUnit}
use Rattle.clnp_machine.specs.Local.{is_answer, with_made, within_most, without_answered}
use Rattle.clnp_systems.specs.declared.pending.Request.{Request}
use Rattle.clnp_systems.specs.Local.{AreRequests, IsRequest}
use Rattle.clnp_systems.specs.Pending.{answers, request_of}

-- ---- noted

pub length_same : (requests : List Request) (units : List DataUnit) → AreRequests requests units → length requests ≡ length units
length_same [] [] are = refl
length_same [] (u ∷ units) are = absurd are
length_same (request ∷ requests) [] are = absurd are
length_same (request ∷ requests) (u ∷ units) are = ap suc (length_same requests units are.1)

pushed : (requests : List Request) (units : List DataUnit) (request : Request) (u : DataUnit) → AreRequests requests units → IsRequest request u
    → AreRequests (requests ++ request ∷ []) (units ++ u ∷ [])
pushed [] [] request u are is = (is, tt)
pushed [] (other ∷ units) request u are is = absurd are
pushed (first ∷ requests) [] request u are is = absurd are
pushed (first ∷ requests) (other ∷ units) request u are is = (are.0, pushed requests units request u are.1 is)

within : (units : List DataUnit) (u : DataUnit) → length units < 8 → within_most (units ++ u ∷ []) ≡ units ++ u ∷ []
within units u few = (let e : length (units ++ u ∷ []) ≡ length units + 1 = length-append units (u ∷ []) in
    by (nat_lt 8 (length (units ++ u ∷ []))) refl e)
  where
    by : (b : Bool) → nat_lt 8 (length (units ++ u ∷ [])) ≡ b → length (units ++ u ∷ []) ≡ length units + 1
        → within_most (units ++ u ∷ []) ≡ units ++ u ∷ []
    by true t e = absurd (let l = ltb-true 8 (length (units ++ u ∷ [])) t in omega arith)
    by false f e = ap (λ (b : Bool). cond b (drop 1 (units ++ u ∷ [])) (units ++ u ∷ [])) f

beyond : (units : List DataUnit) (u : DataUnit) → 8 ≤ length units → within_most (units ++ u ∷ []) ≡ drop 1 (units ++ u ∷ [])
beyond units u many = (let e : length (units ++ u ∷ []) ≡ length units + 1 = length-append units (u ∷ []) in
    by (nat_lt 8 (length (units ++ u ∷ []))) refl e)
  where
    by : (b : Bool) → nat_lt 8 (length (units ++ u ∷ [])) ≡ b → length (units ++ u ∷ []) ≡ length units + 1
        → within_most (units ++ u ∷ []) ≡ drop 1 (units ++ u ∷ [])
    by true t e = ap (λ (b : Bool). cond b (drop 1 (units ++ u ∷ [])) (units ++ u ∷ [])) t
    by false f e = absurd (let l = ltb-false 8 (length (units ++ u ∷ [])) f in omega arith)

noted_within : (requests : List Request) (units : List DataUnit) (request : Request) (u : DataUnit) → AreRequests requests units → IsRequest request u
    → length requests < 8 → AreRequests (requests ++ request ∷ []) (within_most (units ++ u ∷ []))
noted_within requests units request u are is few =
    let same = length_same requests units are in
    subst (AreRequests (requests ++ request ∷ [])) (sym (within units u (omega arith))) (pushed requests units request u are is)

noted_beyond : (requests : List Request) (units : List DataUnit) (request : Request) (u : DataUnit) → AreRequests requests units → IsRequest request u
    → 8 ≤ length requests → AreRequests (remove requests 0 ++ request ∷ []) (within_most (units ++ u ∷ []))
noted_beyond [] units request u are is many = absurd (omega arith)
noted_beyond (first ∷ requests) [] request u are is many = absurd are
noted_beyond (first ∷ requests) (other ∷ units) request u are is many =
    let same = length_same requests units are.1 in
    subst (AreRequests (requests ++ request ∷ [])) (sym (beyond (other ∷ units) u (omega arith))) (pushed requests units request u are.1 is)

-- a request is noted, and what is none isn't
pub noted_few : (kind : Kind) (requests : List Request) (units : List DataUnit) (request given : Request) (u : DataUnit) → Some request ≡ request_of kind given
    → AreRequests requests units → IsRequest given u → length requests < 8 → AreRequests (requests ++ request ∷ []) (with_made kind units u)
noted_few Erq requests units request given u e are is few =
    let same : given ≡ request = cc in noted_within requests units request u are (subst (λ (r : Request). IsRequest r u) same is) few
noted_few Dt requests units request given u e are is few = absurd (cc)
noted_few Er requests units request given u e are is few = absurd (cc)
noted_few Erp requests units request given u e are is few = absurd (cc)

pub noted_many : (kind : Kind) (requests : List Request) (units : List DataUnit) (request given : Request) (u : DataUnit) → Some request ≡ request_of kind given
    → AreRequests requests units → IsRequest given u → 8 ≤ length requests → AreRequests (remove requests 0 ++ request ∷ []) (with_made kind units u)
noted_many Erq requests units request given u e are is many =
    let same : given ≡ request = cc in noted_beyond requests units request u are (subst (λ (r : Request). IsRequest r u) same is) many
noted_many Dt requests units request given u e are is many = absurd (cc)
noted_many Er requests units request given u e are is many = absurd (cc)
noted_many Erp requests units request given u e are is many = absurd (cc)

-- ---- taken

module _ (source destination octets : List ℕ) where
  same_test : (request : Request) (u : DataUnit) → IsRequest request u → answers source destination octets request ≡ is_answer source destination octets u
  same_test request u is =
      ap (λ (to : List ℕ). bytes_eq to source && (bytes_eq request.from destination && echoes (seen request.body) octets)) is.destination
      ∙ ap (λ (from : List ℕ). bytes_eq u.destination source && (bytes_eq from destination && echoes (seen request.body) octets)) is.source
      ∙ ap (λ (held : List ℕ). bytes_eq u.destination source && (bytes_eq u.source destination && echoes held octets)) is.shown

  -- none is answered
  pub record NoneTaken (units : List DataUnit) : Type 0 where
    pub none : find (is_answer source destination octets) units ≡ None
    pub left : without_answered (is_answer source destination octets) units ≡ units

  pub none_taken : (k : ℕ) (requests : List Request) (units : List DataUnit) → AreRequests requests units
      → position_from (answers source destination octets) k requests ≡ None → NoneTaken units
  none_taken k [] [] are e = record { none = refl; left = refl }
  none_taken k [] (u ∷ units) are e = absurd are
  none_taken k (request ∷ requests) [] are e = absurd are
  none_taken k (request ∷ requests) (u ∷ units) are e =
      elim (cases_Bool (answers source destination octets request)) [
        | inl is_so ↦ absurd (let f : Some k ≡ None = rw is_so at e in cc)
        | inr isnt ↦
            let rest = none_taken (k + 1) requests units are.1 (rw isnt at e) in
            let not : is_answer source destination octets u ≡ false = sym (same_test request u are.0) ∙ isnt in
            record { none = rw not rest.none; left = rw not (ap (λ (l : List DataUnit). u ∷ l) rest.left) }
      ]

  -- the place of one that is answered lies in the list
  pub placed : (k i : ℕ) (requests : List Request) → position_from (answers source destination octets) k requests ≡ Some i → i < k + length requests
  placed k i [] e = absurd (cc)
  placed k i (request ∷ requests) e =
      elim (cases_Bool (answers source destination octets request)) [
        | inl is_so ↦ (let f : Some k ≡ Some i = rw is_so at e in let here : k ≡ i = cc in omega arith)
        | inr isnt ↦ (let later = placed (k + 1) i requests (rw isnt at e) in omega arith)
      ]

  -- the one at a place is answered
  pub record IsTaken (requests : List Request) (units : List DataUnit) (place : ℕ) : Type 0 where
    pub request : Request
    pub there : slice_get requests place ≡ Some request
    pub number : option_map (λ (u : DataUnit). u.number) (find (is_answer source destination octets) units) ≡ Some request.unit
    pub left : AreRequests (remove requests place) (without_answered (is_answer source destination octets) units)

  taken_from : (k i : ℕ) (requests : List Request) (units : List DataUnit) → AreRequests requests units
      → position_from (answers source destination octets) k requests ≡ Some i → (place : ℕ) × (i ≡ k + place) × IsTaken requests units place
  taken_from k i [] [] are e = absurd (cc)
  taken_from k i [] (u ∷ units) are e = absurd are
  taken_from k i (request ∷ requests) [] are e = absurd are
  taken_from k i (request ∷ requests) (u ∷ units) are e =
      elim (cases_Bool (answers source destination octets request)) [
        | inl is_so ↦
            let f : Some k ≡ Some i = rw is_so at e in
            let here : k ≡ i = cc in
            let is : is_answer source destination octets u ≡ true = sym (same_test request u are.0) ∙ is_so in (
              0,
              omega arith,
              record { request = request; there = refl; number = rw is (ap (λ (n : ℕ). Some n) (sym are.0.number)); left = rw is are.1 },
            )
        | inr isnt ↦
            let (place, at, rest) = taken_from (k + 1) i requests units are.1 (rw isnt at e) in
            let not : is_answer source destination octets u ≡ false = sym (same_test request u are.0) ∙ isnt in (
              suc place,
              omega arith,
              record { request = rest.request; there = rest.there; number = rw not rest.number; left = rw not (are.0, rest.left) },
            )
      ]

  pub taken : (place : ℕ) (requests : List Request) (units : List DataUnit) → AreRequests requests units
      → position_from (answers source destination octets) 0 requests ≡ Some place → IsTaken requests units place
  taken place requests units are e =
      let (at, same, is) = taken_from 0 place requests units are e in
      let here : place ≡ at = omega arith in
      subst (IsTaken requests units) (sym here) is

-- where none is answered, none is taken out
pub none_left : (test : DataUnit → Bool) (units : List DataUnit) → find test units ≡ None → without_answered test units ≡ units
none_left test [] e = refl
none_left test (u ∷ units) e =
    elim (cases_Bool (test u)) [
      | inl is_so ↦ absurd (let f : Some u ≡ None = rw is_so at e in cc)
      | inr isnt ↦ rw isnt (ap (λ (l : List DataUnit). u ∷ l) (none_left test units (rw isnt at e)))
    ]
