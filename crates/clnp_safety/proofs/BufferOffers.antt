-- A segment that is offered belongs to the unit whose buffer has its key.
use Rattle.clnp_machine.proofs.ClnpBase.Lists.{AllByRecursion-find, AllByRecursion-push}
use Rattle.std.proofs.Common.{◌≡◌, ◌∙◌, sym, ap, subst, refl, ℕ, ◌+◌, ◌<◌, ◌≤◌, inl, inr, Bool, true, false, not, List, [], ◌∷◌, ◌++◌, Option, None, Some, arith}
use Rattle.std.specs.Prelude.{◌==◌, ◌&&◌}
use Rattle.std.specs.List.{AllByRecursion, Contains}
use Rattle.std.proofs.lemmas.Bool.{and_from, eq-eqb}
use Rattle.std.proofs.lemmas.List.Elements.{All-contains, All-from_recursion}
use Rattle.clnp_machine.specs.ScenarioPlan.Plan.{IsFit, Plan}
use Rattle.clnp_machine.specs.PduHeader.Spelling.{type_code}
use Rattle.clnp_machine.specs.SystemTables.declared.reassembly.segment.Shape.{Shape}
use Rattle.clnp_machine.specs.SystemTables.declared.reassembly.table.TableLimits.{TableLimits}
use Rattle.clnp_machine.specs.Reassembly.Arrival.{same_key, same_shape}
use Rattle.clnp_machine.specs.Reassembly.Buffer.{Buffer, buffer_of, clashes, opened_by}
use Rattle.clnp_machine.specs.Unit.{DataUnit, DeclaredAt, IsCarriable, Packet}
use Rattle.clnp_machine.specs.Local.{header_size, identifier_in, offered}
use Rattle.clnp_machine.specs.EveryStep.{IsRangeOf}
use Rattle.clnp_machine.specs.ClnpNetwork.Run.{Entry}
use Rattle.clnp_safety.specs.Invariant.{BufferIsSound, IsOfUnit, Owns, UnitIsSound, UnitsAreSound}
use Rattle.clnp_safety.specs.StepLaws.{StepLaws}
use Rattle.clnp_safety.proofs.Units.{different_makers, same_unit}
use Rattle.clnp_safety.proofs.Kept.{KeptIn, find_passes, same_key-true}

pub unit_sound : (plan : Plan) (past : List Entry) (units : List DataUnit) (u : DataUnit) → UnitsAreSound plan past units → Contains units u
    → UnitIsSound plan past units u
unit_sound plan past units u sound within =
    All-contains (UnitIsSound plan past units) units u (All-from_recursion (UnitIsSound plan past units) units sound.each) within

same_shape-like : (a b : Shape) → a ≡ b → same_shape a b ≡ true
same_shape-like a b e =
    and_from (a.total == b.total) (a.head_len == b.head_len && (a.kind == b.kind)) (eq-eqb a.total b.total (ap (λ shape. shape.total) e))
    (and_from (a.head_len == b.head_len) (a.kind == b.kind) (eq-eqb a.head_len b.head_len (ap (λ shape. shape.head_len) e))
    (eq-eqb a.kind b.kind (ap (λ shape. shape.kind) e)))

-- the shape of a unit
abbrev unit_shape : DataUnit → Shape
unit_shape u = record { total = u.total; head_len = header_size u; kind = type_code u.kind }

shape_offered : StepLaws → (units : List DataUnit) (p : Packet) → IsRangeOf units p → (offered p []).shape ≡ unit_shape p.unit
shape_offered laws units p range = ap (λ n. record { total = p.unit.total; head_len = n; kind = type_code p.unit.kind }) (laws.headers.header p range.options)

-- a buffer that is sound, and isn't due at a moment
pub record IsLive (plan : Plan) (units : List DataUnit) (here : ℕ) (buffer : Buffer Packet) : Type 0 where
  pub sound : BufferIsSound plan units buffer
  pub lasts : here < buffer.deadline

-- A packet comes to a system at its moment, here, while the clock of its unit's maker is there, and the two don't stand too far apart;
-- all units of that maker were made until then, and this one not too long before.
pub record ComesInTime (plan : Plan) (units : List DataUnit) (here : ℕ) (p : Packet) : Type 0 where
  pub there : ℕ
  pub near : here ≤ there + plan.limits.skew
  pub far : there ≤ here + plan.limits.skew
  pub until : (v : DataUnit) → Contains units v → v.maker ≡ p.unit.maker → v.made ≤ there
  pub young : there ≤ p.unit.made + plan.limits.age

module _ (laws : StepLaws) (plan : Plan) (fit : IsFit plan) (past : List Entry) (units : List DataUnit) (made : UnitsAreSound plan past units)
    (p : Packet) (packet : IsRangeOf units p) (carriable : IsCarriable p) (here : ℕ) (time : ComesInTime plan units here p)
    (identifier : ℕ) (identified : p.unit.identifier ≡ Some identifier) where
  -- a unit of that maker that was made so long before or after it isn't that of a buffer that lasts
  not_another : (buffer : Buffer Packet) (v : DataUnit) → Contains units v → v.maker ≡ p.unit.maker → here < buffer.deadline
      → buffer.opened ≤ v.made + plan.limits.age + plan.limits.skew → buffer.deadline ≤ buffer.opened + plan.limits.hold
      → (p.unit.made + plan.limits.reuse ≤ v.made → ⊥) × (v.made + plan.limits.reuse ≤ p.unit.made → ⊥)
  not_another buffer v within maker lasts opened deadline =
      let rests = fit.limits.rests in
      let hold = fit.limits.hold.least in
      let before = time.until p.unit packet.unit refl in
      let other = time.until v within maker in
      let young = time.young in
      let far = time.far in
      ((λ e. omega arith), (λ e. omega arith))

  pub unit_in : (buffer : Buffer Packet) (live : IsLive plan units here buffer) → same_key buffer.key (offered p []).key ≡ true
      → live.sound.unit ≡ p.unit
  unit_in buffer live same =
      let v = live.sound.unit in
      let keys : record { from = v.source; to = v.destination; id = live.sound.identifier } ≡ (offered p []).key
      = sym live.sound.key ∙ same_key-true buffer.key (offered p []).key same in
      let number : live.sound.identifier ≡ identifier = ap (λ key. key.id) keys ∙ ap identifier_in identified in
      let first = unit_sound plan past units v made live.sound.made in
      let second = unit_sound plan past units p.unit made packet.unit in
      let owner : Owns plan second.place v.source = subst (Owns plan second.place) (sym (ap (λ key. key.from) keys)) second.owner in
      let one_place : first.place ≡ second.place = different_makers plan first.place second.place v.source fit first.owner owner in
      let maker : v.maker ≡ p.unit.maker = first.maker ∙ ap DeclaredAt one_place ∙ sym second.maker in
      let apart = not_another buffer v live.sound.made maker live.lasts live.sound.opened live.sound.deadline in
      elim (same_unit plan.limits.reuse units v p.unit identifier made.rest live.sound.made packet.unit maker (live.sound.identified ∙ ap Some number) identified) [
        | inl one ↦ one
        | inr (inl before) ↦ absurd (apart.1 before)
        | inr (inr behind) ↦ absurd (apart.0 behind)
      ]

  shape_in_buffer : (buffer : Buffer Packet) → IsLive plan units here buffer → same_key buffer.key (offered p []).key ≡ true
      → buffer.shape ≡ (offered p []).shape
  shape_in_buffer buffer live same =
      live.sound.shape ∙ ap unit_shape (unit_in buffer live same) ∙ sym (shape_offered laws units p packet)

  clashes_not : (found : Option (Buffer Packet))
      → ((buffer : Buffer Packet) → found ≡ Some buffer → buffer.shape ≡ (offered p []).shape) → clashes found (offered p []).shape ≡ false
  clashes_not None shapes = refl
  clashes_not (Some buffer) shapes =
      ap not (same_shape-like buffer.shape (offered p []).shape (shapes buffer refl))

  -- the buffer of its key is one of its shape
  pub clashes_with_none : (buffers : List (Buffer Packet)) → AllByRecursion (IsLive plan units here) buffers
      → clashes (buffer_of (offered p []).key buffers) (offered p []).shape ≡ false
  clashes_with_none buffers live =
      let has_key : Buffer Packet → Bool = λ buffer. same_key buffer.key (offered p []).key in
      clashes_not (buffer_of (offered p []).key buffers)
      (λ buffer found. shape_in_buffer buffer (AllByRecursion-find (IsLive plan units here) has_key buffers buffer found live) (find_passes has_key buffers buffer found))

  of_unit : (v : DataUnit) → v ≡ p.unit → IsOfUnit units v (offered p [])
  of_unit v same = record { packet = packet; carriable = carriable; unit = sym same; offered = refl }

  module _ (table : TableLimits) (hold : table.hold ≡ plan.limits.hold) (alive : 1 ≤ p.lifetime) where
    opened_is_live : IsLive plan units here (opened_by table here (offered p []))
    opened_is_live = record {
      sound = record {
        unit = p.unit;
        made = packet.unit;
        identifier = identifier;
        identified = identified;
        key = ap (λ n. record { from = p.unit.source; to = p.unit.destination; id = n }) (ap identifier_in identified);
        shape = shape_offered laws units p packet;
        opened = let near = time.near in let young = time.young in omega arith;
        deadline = omega arith;
        kept = (of_unit p.unit refl, tt);
      };
      lasts = let least = fit.limits.hold.least in omega arith;
    }

    more_is_live : (buffer : Buffer Packet) → IsLive plan units here buffer → same_key buffer.key (offered p []).key ≡ true
        → IsLive plan units here (record buffer { kept = buffer.kept ++ offered p [] ∷ [] })
    more_is_live buffer live same = record {
      sound = record {
        unit = live.sound.unit;
        made = live.sound.made;
        identifier = live.sound.identifier;
        identified = live.sound.identified;
        key = live.sound.key;
        shape = live.sound.shape;
        opened = live.sound.opened;
        deadline = live.sound.deadline;
        kept = AllByRecursion-push (IsOfUnit units live.sound.unit) buffer.kept (offered p []) live.sound.kept
            (of_unit live.sound.unit (unit_in buffer live same));
      };
      lasts = live.lasts;
    }

    pub stay_live : KeptIn table here (offered p []) (IsLive plan units here)
    stay_live = record { new = opened_is_live; more = more_is_live }
