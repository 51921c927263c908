-- The unit that is asked for, where it isn't refused.
use Rattle.std.proofs.Common.{◌≡◌, ℕ, ◌+◌, ◌≤◌, Bool, true, not, if◌then◌else◌, nat_lt, List, ◌++◌, length, Option, None, Some, option_map, refl, sym, ap, ◌∙◌, arith, length-append}
use Rattle.std.proofs.lemmas.Bool.Decides.{nat_tests}
use Rattle.clnp_plan.specs.ClnpOptions.Parameter.{Parameter, parameters, spelled}
use Rattle.clnp_plan.specs.Pdus.declared.pdu_header.kind.Kind.{Kind}
use Rattle.clnp_plan.specs.PduHeader.Spelling.{counted, segmentation_octets}
use Rattle.clnp_plan.specs.declared.ask.Ask.{Ask}
use Rattle.clnp_plan.specs.declared.note.Note.{Note}
use Rattle.clnp_machine.specs.Unit.{DataUnit}
use Rattle.clnp_machine.specs.System.{SystemState}
use Rattle.clnp_machine.specs.Identifiers.{Identifiers, IsBusy, IsQuiet, busy, last_use, next, not_drawn}
use Rattle.clnp_machine.specs.Told.{IsAllowed, LeavesRefused, MayBeDrawn}
use Rattle.clnp_machine.proofs.Resting.{busy_rested, past_quiet}
use Rattle.clnp_plan.proofs.ClnpBase.Choices.{below_not}
use Rattle.std.proofs.lemmas.Bool.{cond-false}
use Rattle.clnp_machine.specs.Local.{is_own, most_octets, identifier_for, unit_of, unit_with, header_size, identifier_refusal, make, makes, refusal, unless_refused}

allowed_of : (own : Bool) (len size : ℕ) (first second third : Note) (last : Option Note)
    → (if not own then Some first else if nat_lt most_octets len then Some second else if nat_lt 254 size then Some third else last) ≡ None
    → (own ≡ true) × (len ≤ most_octets) × (size ≤ 254) × (last ≡ None)
allowed_of own len size first second third last none = grind (arith, nat_tests)

allowing_of : (own : Bool) (len size : ℕ) (first second third : Note) (last : Option Note) → own ≡ true → len ≤ most_octets → size ≤ 254 → last ≡ None
    → (if not own then Some first else if nat_lt most_octets len then Some second else if nat_lt 254 size then Some third else last) ≡ None
allowing_of own len size first second third last is few short none = grind (arith, nat_tests)

pub allowing : (s : SystemState) (u : DataUnit) → IsAllowed s u → refusal s u ≡ None
allowing s u h = allowing_of (is_own s u.source) (length u.octets) (header_size u) _ _ _ (identifier_refusal s u.identifier) h.own h.octets h.header h.identifier

pub allowed : (s : SystemState) (u : DataUnit) → refusal s u ≡ None → IsAllowed s u
allowed s u none =
    let (own, octets, header, identifier) = allowed_of (is_own s u.source) (length u.octets) (header_size u) _ _ _ (identifier_refusal s u.identifier) none in
    record { own = own; octets = octets; header = header; identifier = identifier }

-- How many octets a header has doesn't go by the total length that it says.

abbrev header_with : DataUnit → ℕ → Option ℕ → ℕ
header_with u total identifier =
    9 + length (counted u.destination ++ (counted u.source ++
    (segmentation_octets (option_map (λ i. record { identifier = i; offset = 0; total = total }) identifier) ++ spelled u.options)))

same_header : (u : DataUnit) (a b : ℕ) (identifier : Option ℕ) → header_with u a identifier ≡ header_with u b identifier
same_header u a b None = refl
same_header u a b (Some identifier) = simp length-append

pub total_with : (s : SystemState) (kind : Kind) (from to octets : List ℕ) (life : ℕ) (report segment : Bool) (options : List Parameter)
    → (unit_with s kind from to octets life report segment options).total
    ≡ header_size (unit_with s kind from to octets life report segment options) + length octets
total_with s kind from to octets life report segment options =
    let u = unit_with s kind from to octets life report segment options in
    ap (λ n. n + length octets) (same_header u 0 u.total (identifier_for s segment))

pub total_is : (s : SystemState) (kind : Kind) (from to octets : List ℕ) (ask : Ask)
    → (unit_of s kind from to octets ask).total ≡ header_size (unit_of s kind from to octets ask) + length octets
total_is s kind from to octets ask = total_with s kind from to octets ask.life ask.report ask.segment (parameters ask.options)

-- What is made of what is asked for.

pub made_where_allowed : (s : SystemState) (kind : Kind) (from to octets : List ℕ) (ask : Ask) → IsAllowed s (unit_of s kind from to octets ask)
    → make s kind from to octets ask ≡ makes s (unit_of s kind from to octets ask)
made_where_allowed s kind from to octets ask h =
    let u = unit_of s kind from to octets ask in ap (λ (refused : Option Note). unless_refused refused s u) (allowing s u h)

pub unmade_elsewhere : (s : SystemState) (kind : Kind) (from to octets : List ℕ) (ask : Ask) → ¬ (IsAllowed s (unit_of s kind from to octets ask))
    → LeavesRefused s (make s kind from to octets ask)
unmade_elsewhere s kind from to octets ask h = go (refusal s u) refl
  where
    u : DataUnit
    u = unit_of s kind from to octets ask

    go : (refused : Option Note) → refusal s u ≡ refused → LeavesRefused s (unless_refused refused s u)
    go None e = absurd (h (allowed s u e))
    go (Some told) e = record { same = refl; units = refl }

-- Identifiers.

pub drawn_where_rested : (now : ℕ) (ids : Identifiers) → not_drawn now ids ≡ None → MayBeDrawn now ids
drawn_where_rested now ids none =
    let both = past_quiet now ids.quiet (busy now ids.reuse (last_use (next ids) ids.uses)) none in
    record {
      quiet = both.0;
      rested = λ used e. busy_rested now ids.reuse used (ap (busy now ids.reuse) (sym e) ∙ both.1);
    }

pub rested_is_drawn : (now : ℕ) (ids : Identifiers) → MayBeDrawn now ids → not_drawn now ids ≡ None
rested_is_drawn now ids h = cond-false (nat_lt now ids.quiet) (Some (IsQuiet ids.quiet)) (busy now ids.reuse used) (below_not now ids.quiet h.quiet) ∙ go used refl
  where
    used : Option ℕ
    used = last_use (next ids) ids.uses

    go : (found : Option ℕ) → last_use (next ids) ids.uses ≡ found → busy now ids.reuse found ≡ None
    go None e = refl
    go (Some moment) e =
        cond-false (nat_lt now (moment + ids.reuse)) (Some (IsBusy moment)) None (below_not now (moment + ids.reuse) (h.rested moment e))
