-- What comes over a table, one effect behind another, and the lines that tell of it.
use Rattle.std.proofs.Common.{◌≡◌, ℕ, List, [], ◌∷◌, ◌++◌, Some, Result, Ok, Err, OnOk, refl, sym, ap, ◌∙◌, subst, append_assoc, append-nil}
use Rattle.std.specs.List.{flat_map}
use Rattle.std.proofs.lemmas.Grind.{flat_map-append}
use Rattle.scenario.specs.ClnpPlan.ClnpViews.Extent.{Extent}
use Rattle.scenario.specs.PduHeader.Value.{PduValue, SegmentationPart}
use Rattle.clnp_program.specs.FairCommands.Output.{told_line}
use Rattle.system_tables.specs.declared.reassembly.segment.Segment.{Segment}
use Rattle.system_tables.specs.declared.reassembly.table.Accept.{Accept}
use Rattle.system_tables.specs.declared.reassembly.table.Accept.TheVariants as accept
use Rattle.system_tables.specs.declared.reassembly.table.SlotNo.{SlotNo}
use Rattle.system_tables.specs.declared.reassembly.table.TableLimits.{TableLimits}
use Rattle.system_tables.specs.Reassembly.Arrival.{arrival_of, octet_in}
use Rattle.system_tables.specs.Reassembly.Buffer as buffer
use Rattle.system_tables.specs.Reassembly.Buffer.{Answer, Buffer, after, answer, buffer_of, data_of, without}
use Rattle.system_tables.specs.Reassembly.State.{Names, Stands, TableState, said}
use Rattle.system_tables.specs.FairReassembly.Calls.{Accepts, Releases}
use Rattle.system_tables.specs.FairReassembly.Classes.{Effect, Told, Joined, and_then, data_in, offers, takes_in, tells}
use Rattle.system_tables.proofs.ReassemblyFacts.Shared.{key_found, made_whole}
use Rattle.clnp_program.specs.FairCommands.Frames.{Tells}

-- what is told, as lines
abbrev pub lines : ℕ → List Told → List ℕ
lines moment told = flat_map (told_line moment) told

module _ (moment : ℕ) where
  -- one effect behind another
  pub tells_then : (f g : TableLimits → List (Buffer Extent) → Effect) (x y z : List ℕ) (old mid new : TableState)
      → Tells f moment x y old mid → Tells g moment y z mid new
      → Tells (λ limits buffers. and_then (f limits buffers) (g limits)) moment x z old new
  tells_then f g x y z old mid new p q =
      let first : TableLimits → List (Buffer Extent) → Effect = λ limits buffers. and_then (f old.limits buffers) (g limits) in
      record {
        undergoes = record {
          stands = λ buffers h.
              subst (λ (limits : TableLimits). Stands new (first limits buffers).buffers) p.undergoes.limits
              (q.undergoes.stands (f old.limits buffers).buffers (p.undergoes.stands buffers h));
          none_whole = λ none. q.undergoes.none_whole (p.undergoes.none_whole none);
          limits = q.undergoes.limits ∙ p.undergoes.limits;
        };
        told = λ buffers h.
            let later = (g mid.limits (f old.limits buffers).buffers).told in
            subst (λ (limits : TableLimits). z ≡ x ++ lines moment (first limits buffers).told) p.undergoes.limits
            (q.told (f old.limits buffers).buffers (p.undergoes.stands buffers h)
            ∙ ap (λ (front : List ℕ). front ++ lines moment later) (p.told buffers h)
            ∙ append_assoc x (lines moment (f old.limits buffers).told) (lines moment later)
            ∙ ap (λ (text : List ℕ). x ++ text) (sym (flat_map-append (told_line moment) (f old.limits buffers).told later)));
      }

  -- the same effect on what a table stands for
  pub tells_as : (f g : TableLimits → List (Buffer Extent) → Effect) (x y : List ℕ) (old new : TableState)
      → ((buffers : List (Buffer Extent)) → Stands old buffers → f old.limits buffers ≡ g old.limits buffers)
      → Tells f moment x y old new → Tells g moment x y old new
  tells_as f g x y old new same p = record {
    undergoes = record {
      stands = λ buffers h. subst (λ (effect : Effect). Stands new effect.buffers) (same buffers h) (p.undergoes.stands buffers h);
      none_whole = p.undergoes.none_whole;
      limits = p.undergoes.limits;
    };
    told = λ buffers h. subst (λ (effect : Effect). y ≡ x ++ lines moment effect.told) (same buffers h) (p.told buffers h);
  }

  one_line : (x y : List ℕ) (told : Told) → y ≡ x ++ told_line moment told → y ≡ x ++ lines moment (told ∷ [])
  one_line x y told line = line ∙ ap (λ (text : List ℕ). x ++ text) (sym (append-nil (told_line moment told)))

  -- something is told, and nothing changed
  pub tells_one : (told : Told) (x y : List ℕ) (table : TableState) → y ≡ x ++ told_line moment told
      → Tells (λ limits buffers. tells told buffers) moment x y table table
  tells_one told x y table line = record {
    undergoes = record { stands = λ buffers h. h; none_whole = λ none. none; limits = refl };
    told = λ buffers h. one_line x y told line;
  }

  -- a segment was offered that doesn't make its unit whole
  pub tells_answer : (v : PduValue) (part : SegmentationPart) (segment : Segment) (told : Accept) (line : Told) (held : ℕ) (x y : List ℕ) (old new : TableState)
      → Accepts moment segment told old new → ((slot : SlotNo) → told ≡ accept.Whole slot → ⊥)
      → ((buffers : List (Buffer Extent)) → Stands new buffers → held ≡ buffer.held buffers)
      → ((buffers : List (Buffer Extent)) → held ≡ buffer.held buffers → takes_in v part segment.key (said told) buffers ≡ tells line buffers)
      → y ≡ x ++ told_line moment line
      → Tells (λ limits buffers. offers limits moment v part segment buffers) moment x y old new
  tells_answer v part segment told line held x y old new accepts not_whole holds is appended =
      let left : List (Buffer Extent) → List (Buffer Extent) = λ buffers. after old.limits moment (arrival_of segment) buffers in
      let comes : (buffers : List (Buffer Extent)) → Stands old buffers → offers old.limits moment v part segment buffers ≡ tells line (left buffers)
      = λ buffers h.
      ap (λ (a : Answer). takes_in v part segment.key a (left buffers)) (sym (accepts.answered buffers h))
      ∙ is (left buffers) (holds (left buffers) (accepts.stands buffers h)) in
      record {
        undergoes = record {
          stands = λ buffers h. subst (λ (effect : Effect). Stands new effect.buffers) (sym (comes buffers h)) (accepts.stands buffers h);
          none_whole = λ none. accepts.none_whole not_whole;
          limits = accepts.limits;
        };
        told = λ buffers h.
            subst (λ (effect : Effect). y ≡ x ++ lines moment effect.told) (sym (comes buffers h)) (one_line x y line appended);
      }

  -- a segment made its unit whole, whose buffer was taken out
  pub tells_joined : (v : PduValue) (part : SegmentationPart) (segment : Segment) (slot : SlotNo) (x y : List ℕ) (old mid new : TableState)
      → Accepts moment segment (accept.Whole slot) old mid → Releases slot.0 mid new
      → ((buffers : List (Buffer Extent)) (whole : Buffer Extent) → Stands mid buffers → buffer_of whole.key buffers ≡ Some whole
      → Names mid slot.0 whole.key → y ≡ x ++ told_line moment (Joined v.source v.destination v.kind (data_of octet_in whole)))
      → Tells (λ limits buffers. offers limits moment v part segment buffers) moment x y old new
  tells_joined v part segment slot x y old mid new accepts releases appended =
      let left : List (Buffer Extent) → List (Buffer Extent) = λ buffers. after old.limits moment (arrival_of segment) buffers in
      let named : Names mid slot.0 segment.key = accepts.slot slot refl in
      let comes : (buffers : List (Buffer Extent)) → Stands old buffers
      → offers old.limits moment v part segment buffers ≡ takes_in v part segment.key buffer.Whole (left buffers)
      = λ buffers h. ap (λ (a : Answer). takes_in v part segment.key a (left buffers)) (sym (accepts.answered buffers h)) in
      record {
        undergoes = record {
          stands = λ buffers h.
              subst (λ (effect : Effect). Stands new effect.buffers) (sym (comes buffers h))
              (releases.stands (left buffers) segment.key (accepts.stands buffers h) named);
          none_whole = λ none. releases.none_whole (accepts.completed slot refl);
          limits = releases.limits ∙ accepts.limits;
        };
        told = λ buffers h.
            let made = made_whole old.limits moment (arrival_of segment) buffers (sym (accepts.answered buffers h)) in
            let key : made.buffer.key ≡ segment.key = key_found segment.key (left buffers) made.buffer made.found in
            let there : buffer_of made.buffer.key (left buffers) ≡ Some made.buffer
            = ap (λ k. buffer_of k (left buffers)) key ∙ made.found in
            let line = appended (left buffers) made.buffer (accepts.stands buffers h) there (subst (Names mid slot.0) (sym key) named) in
            subst (λ (effect : Effect). y ≡ x ++ lines moment effect.told) (sym (comes buffers h))
            (one_line x y (Joined v.source v.destination v.kind (data_in (buffer_of segment.key (left buffers))))
            (line ∙ ap (λ found. x ++ told_line moment (Joined v.source v.destination v.kind (data_in found))) (sym made.found)));
      }

-- what holds of a good result
pub on_ok : {A E : Type 0} (r : Result A E) (P Q : Type 0) → (P → Q) → OnOk r P → OnOk r Q
on_ok (Ok x) P Q then p = then p
on_ok (Err e) P Q then p = tt

pub on_both : {A E : Type 0} (r : Result A E) (P Q R : Type 0) → (P → Q → R) → OnOk r P → OnOk r Q → OnOk r R
on_both (Ok x) P Q R then p q = then p q
on_both (Err e) P Q R then p q = tt
