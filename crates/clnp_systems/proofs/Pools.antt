-- A pool after a use.
use Rattle.std.proofs.Common.{◌≡◌, ℕ, ◌+◌, ◌-◌, ◌<◌, ◌≤◌, ◌%◌, ◌^◌, inl, inr, List, [], ◌∷◌, ◌++◌, length, Some, slice_get, slice_set, refl, sym, ap, subst, ◌∙◌, arith, length-append}
use Rattle.std.proofs.lemmas.Bool.Decides.{eqb_tells, leb_tells}
use Rattle.std.proofs.lemmas.Option.{slice_get_within}
use Rattle.clnp_machine.specs.Identifiers.{Use, Identifiers, last_use, next, after_use}
use Rattle.clnp_systems.specs.LocalState.{PoolState}
use Rattle.clnp_systems.specs.Pool.{Stands}
use Rattle.clnp_machine.proofs.ClnpBase.Lists.{slice_get-set, slice_get-set_other, slice_get-push, slice_get-push_other, slice_get_some}
use Rattle.clnp_systems.proofs.Uses.{last_use_there, last_use_elsewhere, has_last_use}

-- the uses went round
abbrev pub WentRound : List Use → Type 0
WentRound uses = (i : ℕ) (given : Use) → slice_get uses i ≡ Some given → given.identifier ≡ i % 2 ^ 16

pub went_round-push : (uses : List Use) (latest : Use) → WentRound uses → latest.identifier ≡ length uses % 2 ^ 16 → WentRound (uses ++ latest ∷ [])
went_round-push uses latest before here i given there =
    elim (eqb_tells (length uses) i) [
      | inl same ↦
          let is_latest : Some latest ≡ Some given = sym (slice_get-push uses i latest same.1) ∙ there in
          let e : latest ≡ given = cc in
          sym (ap (λ (g : Use). g.identifier) e) ∙ here ∙ ap (λ n. n % 2 ^ 16) same.1
      | inr other ↦ before i given (sym (slice_get-push_other uses i latest other.1) ∙ there)
    ]

-- the moments are those of the last uses
abbrev pub KeepsLast : List ℕ → List Use → Type 0
KeepsLast moments uses = (identifier : ℕ) → slice_get moments identifier ≡ last_use identifier uses

-- each identifier that was used has a moment
pub has_moment : (moments : List ℕ) (uses : List Use) → WentRound uses → KeepsLast moments uses → (i : ℕ) → i < length uses → i % 2 ^ 16 < length moments
has_moment moments uses round last i within =
    let (given, there) = slice_get_some uses i within in
    let (moment, found) = has_last_use uses i given there in
    let is_last : slice_get moments given.identifier ≡ Some moment = last given.identifier ∙ found in
    let below : given.identifier < length moments = slice_get_within moments given.identifier moment is_last in
    let here : given.identifier ≡ i % 2 ^ 16 = round i given there in
    let P : ℕ → Type 0 = λ n. n < length moments in subst P here below

first_round_of : (moments uses : ℕ) → moments ≤ uses % 2 ^ 16 → (moments < uses → moments % 2 ^ 16 < moments)
    → (uses - 2 ^ 16 < uses → (uses - 2 ^ 16) % 2 ^ 16 < moments) → moments ≡ uses % 2 ^ 16
first_round_of moments uses few next_moment a_round_ago = grind arith

-- where the next identifier has no moment, those before it have one
pub first_round : (moments : List ℕ) (uses : List Use) → WentRound uses → KeepsLast moments uses → length moments ≤ length uses % 2 ^ 16
    → length moments ≡ length uses % 2 ^ 16
first_round moments uses round last few =
    first_round_of (length moments) (length uses) few (has_moment moments uses round last (length moments))
    (has_moment moments uses round last (length uses - 2 ^ 16))

pub keeps_last-set : (moments : List ℕ) (uses : List Use) (latest : Use) → KeepsLast moments uses → latest.identifier < length moments
    → KeepsLast (slice_set moments latest.identifier latest.moment) (uses ++ latest ∷ [])
keeps_last-set moments uses latest last within i =
    elim (eqb_tells latest.identifier i) [
      | inl same ↦
          let P : ℕ → Type 0 = λ n. slice_get (slice_set moments latest.identifier latest.moment) n ≡ Some latest.moment in
          subst P same.1 (slice_get-set moments latest.identifier latest.moment within) ∙ sym (last_use_there i uses latest same.1)
      | inr other ↦ slice_get-set_other moments latest.identifier i latest.moment other.1 ∙ last i ∙ sym (last_use_elsewhere i uses latest other.1)
    ]

pub keeps_last-push : (moments : List ℕ) (uses : List Use) (latest : Use) → KeepsLast moments uses → length moments ≡ latest.identifier
    → KeepsLast (moments ++ latest.moment ∷ []) (uses ++ latest ∷ [])
keeps_last-push moments uses latest last here i =
    elim (eqb_tells latest.identifier i) [
      | inl same ↦ slice_get-push moments i latest.moment (here ∙ same.1) ∙ sym (last_use_there i uses latest same.1)
      | inr other ↦ slice_get-push_other moments i latest.moment (λ e. other.1 (sym here ∙ e)) ∙ last i ∙ sym (last_use_elsewhere i uses latest other.1)
    ]

pub next-push : (uses : List Use) (latest : Use) (n : ℕ) → n ≡ length uses % 2 ^ 16 → (n + 1) % 2 ^ 16 ≡ length (uses ++ latest ∷ []) % 2 ^ 16
next-push uses latest n here = let e : length (uses ++ latest ∷ []) ≡ length uses + 1 = length-append uses (latest ∷ []) in omega arith

-- a pool with one more use stands for the identifiers with one more use
pub stands_after : (pool : PoolState) (ids : Identifiers) (now : ℕ) (moments : List ℕ) → Stands pool ids
    → KeepsLast moments (after_use now ids).uses
    → Stands (record pool { moments = moments; next = (pool.next + 1) % 2 ^ 16 }) (after_use now ids)
stands_after pool ids now moments stands last =
    let latest : Use = record { identifier = next ids; moment = now } in
    record {
      reuse = stands.reuse;
      quiet = stands.quiet;
      went_round = went_round-push ids.uses latest stands.went_round refl;
      next = next-push ids.uses latest pool.next stands.next;
      moments = last;
    }

stands-set : (pool : PoolState) (ids : Identifiers) (now : ℕ) → Stands pool ids → pool.next < length pool.moments
    → Stands (record pool { moments = slice_set pool.moments pool.next now; next = (pool.next + 1) % 2 ^ 16 }) (after_use now ids)
stands-set pool ids now stands within =
    let latest : Use = record { identifier = next ids; moment = now } in
    let P : ℕ → Type 0 = λ n. n < length pool.moments in
    let Q : ℕ → Type 0 = λ n. KeepsLast (slice_set pool.moments n now) (ids.uses ++ latest ∷ []) in
    let kept : KeepsLast (slice_set pool.moments (next ids) now) (ids.uses ++ latest ∷ []) =
    keeps_last-set pool.moments ids.uses latest stands.moments (subst P stands.next within) in
    stands_after pool ids now (slice_set pool.moments pool.next now) stands (subst Q (sym stands.next) kept)

stands-push : (pool : PoolState) (ids : Identifiers) (now : ℕ) → Stands pool ids → length pool.moments ≤ pool.next
    → Stands (record pool { moments = pool.moments ++ now ∷ []; next = (pool.next + 1) % 2 ^ 16 }) (after_use now ids)
stands-push pool ids now stands past =
    let latest : Use = record { identifier = next ids; moment = now } in
    let P : ℕ → Type 0 = λ n. length pool.moments ≤ n in
    let here : length pool.moments ≡ next ids = first_round pool.moments ids.uses stands.went_round stands.moments (subst P stands.next past) in
    stands_after pool ids now (pool.moments ++ now ∷ []) stands (keeps_last-push pool.moments ids.uses latest stands.moments here)

-- a pool that noted a use stands for the identifiers with one more use
pub stands_noted : (pool noted : PoolState) (ids : Identifiers) (now : ℕ)
    → (pool.next < length pool.moments
    → noted ≡ record pool { moments = slice_set pool.moments pool.next now; next = (pool.next + 1) % 2 ^ 16 })
    → (length pool.moments ≤ pool.next
    → noted ≡ record pool { moments = pool.moments ++ now ∷ []; next = (pool.next + 1) % 2 ^ 16 })
    → Stands pool ids → Stands noted (after_use now ids)
stands_noted pool noted ids now again first stands =
    let P : PoolState → Type 0 = λ one. Stands one (after_use now ids) in
    elim (leb_tells (length pool.moments) pool.next) [
      | inl past ↦ subst P (sym (first past.1)) (stands-push pool ids now stands past.1)
      | inr within ↦ subst P (sym (again within.1)) (stands-set pool ids now stands within.1)
    ]
