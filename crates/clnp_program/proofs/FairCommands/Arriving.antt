-- What comes of the PDU of a frame, and of the frame.
use Rattle.std.proofs.Common.{◌≡◌, ℕ, ◌<◌, ◌≤◌, ◌==◌, Bool, true, false, cond, List, [], ◌∷◌, ◌++◌, length, Option, Some, None, sym, ap, ◌∙◌, subst, inl, inr, append-nil, arith}
use Rattle.std.specs.Prelude.{slice_get, is_none}
use Rattle.std.proofs.lemmas.Bool.{cases_Bool}
use Rattle.std.proofs.lemmas.Option.{same_Some, slice_get_within}
use Rattle.scenario.specs.ClnpPlan.ClnpViews.Extent.{Extent, whole}
use Rattle.scenario.specs.PduHeader.Value.{PduValue, SegmentationPart}
use Rattle.scenario.specs.PduHeader.View.{why_refused}
use Rattle.scenario.specs.Pdus.declared.pdu_header.pdu.Refusal.{Refusal}
use Rattle.scenario.proofs.ClnpBase.Choices.{is_equal}
use Rattle.clnp_program.specs.FairCommands.Output.{account_text, told_line}
use Rattle.system_tables.specs.declared.fair_reassembly.came.Came.{Came}
use Rattle.system_tables.specs.declared.fair_reassembly.fair.Took.TheVariants as took
use Rattle.system_tables.specs.declared.reassembly.segment.Segment.{Segment}
use Rattle.system_tables.specs.declared.reassembly.table.Accept.{Accept}
use Rattle.system_tables.specs.declared.reassembly.table.Accept.TheVariants as accept
use Rattle.system_tables.specs.declared.reassembly.table.SlotNo.{SlotNo}
use Rattle.system_tables.specs.declared.reassembly.table.TableLimits.{TableLimits}
use Rattle.system_tables.specs.Reassembly.Buffer.{Buffer}
use Rattle.system_tables.specs.Reassembly.State.{IsWholeSlot, TableState}
use Rattle.system_tables.specs.FairReassembly.Behind.{StandBehind, Undergoes}
use Rattle.system_tables.specs.FairReassembly.Calls.{Accepts, IsOffered, Takes}
use Rattle.system_tables.specs.FairReassembly.Classes.{Dead, Effect, Joined, Shares, Told, Unread, account_behind, arrives, class_buffers, class_of, comes, expire_all, offers, takes, tells, told_in}
use Rattle.system_tables.specs.FairReassembly.Coming.{part_of, segment_in, value_in}
use Rattle.system_tables.specs.FairReassembly.Tables.{ChangesTable, FairState, IsAt, place_of, sources_of}
use Rattle.system_tables.proofs.FairReassembly.Changed.{changed_as, changed_then, stands_then, unchanged}
use Rattle.clnp_program.specs.FairCommands.Frames.{GoesOn, Tells}
use Rattle.clnp_program.proofs.FairCommands.Frames.{lines, tells_as, tells_one, tells_then}

-- ---- a PDU

is_alive : (lifetime : ℕ) → 1 ≤ lifetime → (lifetime == 0) ≡ false
is_alive lifetime alive =
    elim (cases_Bool (lifetime == 0)) [ inl t ↦ absurd (let none = is_equal lifetime 0 t in omega arith) | inr f ↦ f ]

module _ (came : Came) (v : PduValue) where
  abbrev pub comes_of : TableLimits → List (Buffer Extent) → Effect
  comes_of limits buffers = arrives limits came v buffers

  picked : (b : Bool) (limits : TableLimits) (buffers : List (Buffer Extent)) → (v.lifetime == 0) ≡ b
      → arrives limits came v buffers ≡ cond b (tells (Dead v.source) buffers) (takes limits came v (part_of v) buffers)
  picked b limits buffers e = ap (λ (x : Bool). cond x (tells (Dead v.source) buffers) (takes limits came v (part_of v) buffers)) e

  taken : (limits : TableLimits) (buffers : List (Buffer Extent)) (part : Option SegmentationPart) → 1 ≤ v.lifetime → part_of v ≡ part
      → arrives limits came v buffers ≡ takes limits came v part buffers
  taken limits buffers part alive is =
      picked false limits buffers (is_alive v.lifetime alive) ∙ ap (λ (p : Option SegmentationPart). takes limits came v p buffers) is

  -- one line, and nothing changed
  one_line : (told : Told) (place : ℕ) (state : FairState) (table : TableState) (x y : List ℕ) → slice_get state.tables place ≡ Some table
      → ((limits : TableLimits) (buffers : List (Buffer Extent)) → tells told buffers ≡ arrives limits came v buffers)
      → y ≡ x ++ told_line came.moment told → ChangesTable place state state (Tells comes_of came.moment x y)
  one_line told place state table x y at same line =
      let Done : TableState → TableState → Type 0 = Tells comes_of came.moment x y in
      unchanged place Done Done Done state table at
      (tells_as came.moment (λ limits buffers. tells told buffers) comes_of x y table table (λ buffers h. same table.limits buffers)
      (tells_one came.moment told x y table line))

  -- its lifetime is over
  pub is_dead : (place : ℕ) (state : FairState) (table : TableState) (x y : List ℕ) → slice_get state.tables place ≡ Some table
      → v.lifetime ≡ 0 → y ≡ x ++ told_line came.moment (Dead v.source) → ChangesTable place state state (Tells comes_of came.moment x y)
  is_dead place state table x y at over line =
      let zero : (v.lifetime == 0) ≡ true = ap (λ (n : ℕ). n == 0) over in
      one_line (Dead v.source) place state table x y at (λ limits buffers. sym (picked true limits buffers zero)) line

  -- it is all of its unit
  pub is_alone : (place : ℕ) (state : FairState) (table : TableState) (x y : List ℕ) → slice_get state.tables place ≡ Some table
      → 1 ≤ v.lifetime → part_of v ≡ None → y ≡ x ++ told_line came.moment (Joined v.source v.destination v.kind v.body)
      → ChangesTable place state state (Tells comes_of came.moment x y)
  is_alone place state table x y at alive whole line =
      one_line (Joined v.source v.destination v.kind v.body) place state table x y at
      (λ limits buffers. sym (taken limits buffers None alive whole)) line

  -- it was offered
  pub is_offered : (place : ℕ) (before after : FairState) (part : SegmentationPart) (x y : List ℕ) → 1 ≤ v.lifetime → part_of v ≡ Some part
      → ChangesTable place before after (Tells (λ limits buffers. offers limits came.moment v part (segment_in came.frame v part) buffers) came.moment x y)
      → ChangesTable place before after (Tells comes_of came.moment x y)
  is_offered place before after part x y alive is changed =
      let Offers : TableLimits → List (Buffer Extent) → Effect = λ limits buffers. offers limits came.moment v part (segment_in came.frame v part) buffers in
      let Before : TableState → TableState → Type 0 = Tells Offers came.moment x y in
      let Done : TableState → TableState → Type 0 = Tells comes_of came.moment x y in
      changed_as place Before Before Done before after
      (λ old new at told. tells_as came.moment Offers comes_of x y old new (λ buffers h. sym (taken old.limits buffers (Some part) alive is)) told)
      changed

-- the same of what `offer` says, where the view is that of the whole frame and the value that at its front
module _ (came : Came) (v : PduValue) (view : Extent) (value : v ≡ value_in came.frame) (whole_is : view ≡ whole came.frame) where
  value_there : v ≡ value_in view.frame
  value_there = value ∙ ap (λ (e : Extent). value_in e.frame) (sym whole_is)

  pub dead_arrived : (place : ℕ) (before after : FairState) (R : TableState → Type 0) (x y : List ℕ) → IsAt before place R
      → Takes came.moment view.frame (value_in view.frame) before after took.Dead → y ≡ x ++ told_line came.moment (Dead v.source)
      → ChangesTable place before after (Tells (comes_of came v) came.moment x y)
  dead_arrived place before after R x y at taken line =
      subst (λ (s : FairState). ChangesTable place before s (Tells (comes_of came v) came.moment x y)) (sym taken.1)
      (is_dead came v place before at.table x y at.stands_at (ap (λ (w : PduValue). w.lifetime) value_there ∙ taken.0) line)

  pub alone_arrived : (place : ℕ) (before after : FairState) (R : TableState → Type 0) (x y : List ℕ) → IsAt before place R
      → Takes came.moment view.frame (value_in view.frame) before after took.Alone
      → y ≡ x ++ told_line came.moment (Joined v.source v.destination v.kind v.body)
      → ChangesTable place before after (Tells (comes_of came v) came.moment x y)
  alone_arrived place before after R x y at taken line =
      subst (λ (s : FairState). ChangesTable place before s (Tells (comes_of came v) came.moment x y)) (sym taken.2)
      (is_alone came v place before at.table x y at.stands_at (subst (λ (w : PduValue). 1 ≤ w.lifetime) (sym value_there) taken.0)
      (ap part_of value_there ∙ taken.1) line)

  module _ (before mid : FairState) (table : ℕ) (told : Accept) (offered : IsOffered came.moment view.frame (value_in view.frame) before mid table told) where
    abbrev own : IsOffered came.moment came.frame v before mid table told
    own = subst (λ (w : PduValue). IsOffered came.moment came.frame w before mid table told) (sym value)
        (subst (λ (e : Extent). IsOffered came.moment e.frame (value_in e.frame) before mid table told) whole_is offered)

    pub table_within : table < length mid.tables
    table_within =
        let R : TableState → TableState → Type 0 = Accepts came.moment (segment_in view.frame (value_in view.frame) offered.found) told in
        slice_get_within mid.tables table offered.offered.new (stands_then table R R R before mid offered.offered)

    pub whole_there : (slot : SlotNo) → told ≡ accept.Whole slot → IsAt mid table (λ one. IsWholeSlot one slot.0)
    whole_there slot is =
        let R : TableState → TableState → Type 0 = Accepts came.moment (segment_in view.frame (value_in view.frame) offered.found) told in
        record {
          table = offered.offered.new;
          stands_at = stands_then table R R R before mid offered.offered;
          holds = offered.offered.changes.whole slot is;
        }

    pub offer_arrived : (after : FairState) (part : SegmentationPart) (x y : List ℕ) → v.segmentation ≡ Some part
        → ((first : FairState) (segment : Segment) → ChangesTable table first mid (Accepts came.moment segment told)
        → ChangesTable table first after (Tells (λ limits buffers. offers limits came.moment v part segment buffers) came.moment x y))
        → ChangesTable (place_of before.sources v.source) before after (Tells (comes_of came v) came.moment x y)
    offer_arrived after part x y stands answered =
        let o = own in
        let same : o.found ≡ part = same_Some o.found part (sym o.stands_in ∙ stands) in
        let is : part_of v ≡ Some part = o.is_part ∙ ap (λ (p : SegmentationPart). Some p) same in
        let offered : ChangesTable table before mid (Accepts came.moment (segment_in came.frame v part) told)
        = subst (λ (p : SegmentationPart). ChangesTable table before mid (Accepts came.moment (segment_in came.frame v p) told)) same o.offered in
        subst (λ (n : ℕ). ChangesTable n before after (Tells (comes_of came v) came.moment x y)) o.place_is
        (is_offered came v table before after part x y o.alive is (answered before (segment_in came.frame v part) offered))

-- the buffers of a source's table end, and then comes a PDU
pub pdu_comes : (came : Came) (v : PduValue) (from : List ℕ) (old mid new : FairState) (x y z : List ℕ) → v ≡ value_in came.frame
    → ChangesTable (place_of old.sources from) old mid (Tells (λ limits buffers. expire_all came.moment buffers) came.moment x y)
    → ChangesTable (place_of mid.sources from) mid new (Tells (comes_of came v) came.moment y z)
    → ChangesTable (place_of old.sources from) old new (Tells (λ limits buffers. comes limits came buffers) came.moment x z)
pdu_comes came v from old mid new x y z value ended arrived =
    let place : ℕ = place_of old.sources from in
    let Ended : TableState → TableState → Type 0 = Tells (λ limits buffers. expire_all came.moment buffers) came.moment x y in
    let Arrived : PduValue → TableState → TableState → Type 0 = λ w. Tells (comes_of came w) came.moment y z in
    let Both : TableState → TableState → Type 0 = Tells (λ limits buffers. comes limits came buffers) came.moment x z in
    let there : ChangesTable place mid new (Arrived (value_in came.frame))
    = subst (λ (w : PduValue). ChangesTable place mid new (Arrived w)) value
    (subst (λ (n : ℕ). ChangesTable n mid new (Arrived v)) (ap (λ (s : FairState). place_of s.sources from) ended.rest) arrived) in
    changed_then place Ended (Arrived (value_in came.frame)) Both old mid new
    (λ a b c at p q.
    tells_then came.moment (λ limits buffers. expire_all came.moment buffers) (comes_of came (value_in came.frame)) x y z a b c p q)
    ended there

-- ---- a frame

pub class_is : (s : Shares) (came : Came) (state : FairState) → why_refused came.frame ≡ None → state.sources ≡ sources_of s.shares
    → class_of s came ≡ Some (place_of state.sources (value_in came.frame).source)
class_is s came state accepted sources =
    let place : List (List ℕ) → ℕ = λ sources. place_of sources (value_in came.frame).source in
    ap (λ (refused : Option Refusal). cond (is_none refused) (Some (place (sources_of s.shares))) None) accepted
    ∙ ap (λ (sources : List (List ℕ)). Some (place sources)) (sym sources)

pub class_none : (s : Shares) (came : Came) (refusal : Refusal) → why_refused came.frame ≡ Some refusal → class_of s came ≡ None
class_none s came refusal refused =
    ap (λ (refused : Option Refusal). cond (is_none refused) (Some (place_of (sources_of s.shares) (value_in came.frame).source)) None) refused

-- the laws of tables behind frames
abbrev pub StandUnread : Type 0
StandUnread =
    (s : Shares) (before : List Came) (came : Came) (state : FairState) → class_of s came ≡ None
    → StandBehind s before state → StandBehind s (before ++ came ∷ []) state

abbrev pub StandNext : Type 0
StandNext =
    (s : Shares) (place : ℕ) (before : List Came) (came : Came) (old new : FairState) → class_of s came ≡ Some place
    → StandBehind s before old → ChangesTable place old new (Undergoes (λ limits buffers. comes limits came buffers))
    → StandBehind s (before ++ came ∷ []) new

module _ (s : Shares) (before : List Came) (came : Came) (x y : List ℕ) where
  line_of_class : (class : Option ℕ) → class_of s came ≡ class → y ≡ x ++ lines came.moment (told_in s class before came)
      → y ≡ x ++ account_text (account_behind s before came)
  line_of_class class is line = line ∙ ap (λ (found : Option ℕ). x ++ lines came.moment (told_in s found before came)) (sym is)

  pub goes_on_unread : StandUnread → (state : FairState) (refusal : Refusal) → why_refused came.frame ≡ Some refusal
      → y ≡ x ++ told_line came.moment Unread → StandBehind s before state → GoesOn s before came state x y
  goes_on_unread law state refusal refused line behind =
      let none = class_none s came refusal refused in
      record {
        behind = law s before came state none behind;
        told = line_of_class None none (line ∙ ap (λ (text : List ℕ). x ++ text) (sym (append-nil (told_line came.moment Unread))));
      }

  pub goes_on_pdu : StandNext → (place : ℕ) (old new : FairState) → place ≡ place_of old.sources (value_in came.frame).source
      → why_refused came.frame ≡ None → ChangesTable place old new (Tells (λ limits buffers. comes limits came buffers) came.moment x y)
      → StandBehind s before old → GoesOn s before came new x y
  goes_on_pdu law place old new place_is accepted changed behind =
      let Done : TableState → TableState → Type 0 = Tells (λ limits buffers. comes limits came buffers) came.moment x y in
      let Under : TableState → TableState → Type 0 = Undergoes (λ limits buffers. comes limits came buffers) in
      let class : class_of s came ≡ Some place = class_is s came old accepted behind.sources ∙ ap (λ (n : ℕ). Some n) (sym place_is) in
      let kept = behind.each place changed.old changed.stood in
      record {
        behind = law s place before came old new class behind (changed_as place Done Done Under old new (λ a b at told. told.undergoes) changed);
        told = line_of_class (Some place) class
            (subst (λ (limits : TableLimits). y ≡ x ++ lines came.moment (comes limits came (class_buffers s place before)).told) kept.limits_are
            (changed.changes.told (class_buffers s place before) kept.stands));
      }
