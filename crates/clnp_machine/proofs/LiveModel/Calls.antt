-- Of which call each outcome is.
use Rattle.std.proofs.Common.{◌≡◌, ◌∙◌, sym, ap, subst, refl, ℕ, Bool, true, false, List, [], ◌∷◌, ◌++◌, Option, Some, None, inl, inr}
use Rattle.std.specs.Prelude.{◌==◌, if◌then◌else◌}
use Rattle.std.proofs.lemmas.Bool.{cases_Bool}
use Rattle.clnp_plan.proofs.ClnpBase.Choices.{is_equal}
use Rattle.pdus.specs.EsisPdus.Spelling.{spelling}
use Rattle.clnp_machine.specs.Step.{step}
use Rattle.clnp_machine.specs.System.{Input, Output, Transmits, SendsEsis, Notes, number_behind}
use Rattle.clnp_machine.specs.Unit.{wire}
use Rattle.frame_links.specs.LinkBoard.Links.{CameFrame}
use Rattle.clnp_machine.specs.LiveModel.Lines.{NodeLine}
use Rattle.clnp_machine.specs.LiveModel.Node.{Node, Outcome, Saw, LookFailed, Took, SendFailed, Sending, Played, Goes, Ends, Strays, and_then, behind, come_all, comes, counted, detached, frame_at, gives, goes_out, has_link, looks_at, looks_at_each, looks_by, loss, polls, ports_of, puts_all_out, puts_out, sees, transmission, transmits}
use Rattle.clnp_machine.specs.LiveModel.Turn.{takes_turn}
use Rattle.clnp_machine.specs.LiveModel.Parts.{Call, LooksAt, SendsOn, HasNextCall, IsLonger, IsUnfinished, UsesAll, call_of, is_of}
use Rattle.clnp_machine.proofs.LiveModel.Longer.{inputs_longer, output_longer, comes_longer, look_longer, turn_longer}

-- without outcomes a part never strays

uses_behind : (ls : List NodeLine) (p : Played) → UsesAll p → UsesAll (behind ls p)
uses_behind ls (Goes node [] lines) h = tt
uses_behind ls (Goes node (outcome ∷ left) lines) h = absurd h
uses_behind ls (Ends node lines) h = tt
uses_behind ls Strays h = absurd h

uses_then : (p : Played) (next : Node → List Outcome → Played) → UsesAll p → ((node : Node) → UsesAll (next node [])) → UsesAll (and_then p next)
uses_then (Goes node [] lines) next h k = uses_behind lines (next node []) (k node)
uses_then (Goes node (outcome ∷ left) lines) next h k = absurd h
uses_then (Ends node lines) next h k = tt
uses_then Strays next h k = absurd h

uses_if : (b : Bool) (p q : Played) → UsesAll p → UsesAll q → UsesAll (if b then p else q)
uses_if true p q h k = h
uses_if false p q h k = k

transmits_idle : (node : Node) (sending : Sending) → UsesAll (transmits node sending [])
transmits_idle node sending =
    uses_if (has_link node sending.port) (goes_out node sending []) (Goes (counted node) [] (transmission node sending ∷ [])) tt tt

output_idle : (output : Output) (node : Node) → UsesAll (puts_out node output [])
output_idle (Notes note) node = tt
output_idle (Transmits port target packet) node =
    transmits_idle node (record { port = port; frame = record { target = target; octets = wire packet } })
output_idle (SendsEsis port target value) node =
    transmits_idle node (record { port = port; frame = record { target = target; octets = spelling value } })

outputs_idle : (outputs : List Output) (node : Node) → UsesAll (puts_all_out node outputs [])
outputs_idle [] node = tt
outputs_idle (output ∷ outputs) node =
    uses_then (puts_out node output []) (λ other left. puts_all_out other outputs left) (output_idle output node) (λ other. outputs_idle outputs other)

pub comes_idle : (node : Node) (input : Input) → UsesAll (comes node input [])
comes_idle node input = outputs_idle (step node.system input).outputs (record node { system = (step node.system input).after })

inputs_idle : (inputs : List Input) (node : Node) → UsesAll (come_all node inputs [])
inputs_idle [] node = tt
inputs_idle (input ∷ inputs) node =
    uses_then (comes node input []) (λ other left. come_all other inputs left) (comes_idle node input) (λ other. inputs_idle inputs other)

sees_idle : (node : Node) (port : ℕ) (look : Option CameFrame) → UsesAll (sees node port look [])
sees_idle node port None = tt
sees_idle node port (Some frame) = comes_idle (polls node) (frame_at (number_behind node.polled) node.system.moment port frame)

looks_idle : (ports : List ℕ) (node : Node) → UsesAll (looks_at_each node ports [])
looks_idle [] node = tt
looks_idle (port ∷ ports) node =
    uses_then (looks_at node port []) (λ other left. looks_at_each other ports left)
    (uses_if (has_link node port) (looks_by node port []) (Goes node [] []) tt tt) (λ other. looks_idle ports other)

-- ---- the next call

abbrev OnEnds : Played → Type 0 → Type 0
OnEnds (Goes node left lines) P = Unit {0}
OnEnds (Ends node lines) P = P
OnEnds Strays P = Unit {0}

ends_if : (b : Bool) (p q : Played) (P : Type 0) → (b ≡ true → OnEnds p P) → (b ≡ false → OnEnds q P) → OnEnds (if b then p else q) P
ends_if true p q P h k = h refl
ends_if false p q P h k = k refl

ends_map : (p : Played) (P Q : Type 0) → OnEnds p P → (P → Q) → OnEnds p Q
ends_map (Goes node left lines) P Q h f = tt
ends_map (Ends node lines) P Q h f = f h
ends_map Strays P Q h f = tt

ends_behind : (ls : List NodeLine) (p : Played) (P : Type 0) → OnEnds p P → OnEnds (behind ls p) P
ends_behind ls (Goes node left lines) P h = tt
ends_behind ls (Ends node lines) P h = h
ends_behind ls Strays P h = tt

needs_then : (first : List Outcome → Played) (next : Node → List Outcome → Played) (outcomes : List Outcome) (p : Played)
    → OnEnds p (HasNextCall first outcomes) → ((later : List Outcome) → IsLonger later p (first (outcomes ++ later)))
    → ((node : Node) → UsesAll (next node []))
    → ((node : Node) (left : List Outcome) → OnEnds (next node left) (HasNextCall (λ us. next node us) left))
    → OnEnds (and_then p next) (HasNextCall (λ us. and_then (first us) next) outcomes)
needs_then first next outcomes (Goes node left lines) h longer idle k =
    ends_behind lines (next node left) (HasNextCall (λ us. and_then (first us) next) outcomes)
    (ends_map (next node left) (HasNextCall (λ us. next node us) left) (HasNextCall (λ us. and_then (first us) next) outcomes) (k node left)
    (λ n. record {
      call = n.call;
      follows = λ outcome e.
          subst (λ (q : Played). UsesAll (and_then q next)) (sym (longer (outcome ∷ [])))
          (uses_behind lines (next node (left ++ outcome ∷ [])) (n.follows outcome e));
      strays = λ outcome rest e. ap (λ q. and_then q next) (longer (outcome ∷ rest)) ∙ ap (behind lines) (n.strays outcome rest e);
    }))
needs_then first next outcomes (Ends node lines) h longer idle k =
    record {
      call = h.call;
      follows = λ outcome e. uses_then (first (outcomes ++ outcome ∷ [])) next (h.follows outcome e) idle;
      strays = λ outcome rest e. ap (λ q. and_then q next) (h.strays outcome rest e);
    }
needs_then first next outcomes Strays h longer idle k = tt

-- a frame goes out

out_strays : (node : Node) (sending : Sending) (outcome : Outcome) (rest : List Outcome) → is_of (SendsOn sending.port) outcome ≡ false
    → goes_out node sending (outcome ∷ rest) ≡ Strays
out_strays node sending (Saw at look) rest e = refl
out_strays node sending (LookFailed at) rest e = refl
out_strays node sending (Took at) rest e =
    ap (λ (b : Bool). if b then Goes (gives (counted node) sending) rest (transmission node sending ∷ []) else Strays) e
out_strays node sending (SendFailed at) rest e =
    ap (λ (b : Bool). if b then Goes (detached (counted node) sending.port) rest (transmission node sending ∷ loss node sending.port ∷ []) else Strays) e

out_follows : (node : Node) (sending : Sending) (outcome : Outcome) → is_of (SendsOn sending.port) outcome ≡ true → UsesAll (goes_out node sending (outcome ∷ []))
out_follows node sending (Saw at look) e = absurd (cc)
out_follows node sending (LookFailed at) e = absurd (cc)
out_follows node sending (Took at) e =
    subst (λ (b : Bool). UsesAll (if b then Goes (gives (counted node) sending) [] (transmission node sending ∷ []) else Strays)) (sym e) tt
out_follows node sending (SendFailed at) e =
    subst (λ (b : Bool). UsesAll (if b then Goes (detached (counted node) sending.port) [] (transmission node sending ∷ loss node sending.port ∷ []) else Strays)) (sym e) tt

out_needs : (node : Node) (sending : Sending) (outcomes : List Outcome) → OnEnds (goes_out node sending outcomes) (HasNextCall (λ us. goes_out node sending us) outcomes)
out_needs node sending [] = record { call = SendsOn sending.port; follows = out_follows node sending; strays = out_strays node sending }
out_needs node sending (Saw at look ∷ left) = tt
out_needs node sending (LookFailed at ∷ left) = tt
out_needs node sending (Took at ∷ left) =
    ends_if (at == sending.port) (Goes (gives (counted node) sending) left (transmission node sending ∷ [])) Strays
    (HasNextCall (λ us. goes_out node sending us) (Took at ∷ left)) (λ e. tt) (λ e. tt)
out_needs node sending (SendFailed at ∷ left) =
    ends_if (at == sending.port) (Goes (detached (counted node) sending.port) left (transmission node sending ∷ loss node sending.port ∷ [])) Strays
    (HasNextCall (λ us. goes_out node sending us) (SendFailed at ∷ left)) (λ e. tt) (λ e. tt)

transmits_needs : (node : Node) (sending : Sending) (outcomes : List Outcome) → OnEnds (transmits node sending outcomes) (HasNextCall (λ us. transmits node sending us) outcomes)
transmits_needs node sending outcomes =
    ends_if (has_link node sending.port) (goes_out node sending outcomes) (Goes (counted node) outcomes (transmission node sending ∷ []))
    (HasNextCall (λ us. transmits node sending us) outcomes)
    (λ on. ends_map (goes_out node sending outcomes) (HasNextCall (λ us. goes_out node sending us) outcomes) (HasNextCall (λ us. transmits node sending us) outcomes)
    (out_needs node sending outcomes)
    (λ n. record {
      call = n.call;
      follows = λ outcome e.
          subst (λ (b : Bool). UsesAll (if b then goes_out node sending (outcomes ++ outcome ∷ []) else Goes (counted node) (outcomes ++ outcome ∷ []) (transmission node sending ∷ []))) (sym on)
          (n.follows outcome e);
      strays = λ outcome rest e.
          ap (λ (b : Bool). if b then goes_out node sending (outcomes ++ outcome ∷ rest) else Goes (counted node) (outcomes ++ outcome ∷ rest) (transmission node sending ∷ [])) on
          ∙ n.strays outcome rest e;
    }))
    (λ off. tt)

output_needs : (node : Node) (output : Output) (outcomes : List Outcome) → OnEnds (puts_out node output outcomes) (HasNextCall (λ us. puts_out node output us) outcomes)
output_needs node (Notes note) outcomes = tt
output_needs node (Transmits port target packet) outcomes =
    transmits_needs node (record { port = port; frame = record { target = target; octets = wire packet } }) outcomes
output_needs node (SendsEsis port target value) outcomes =
    transmits_needs node (record { port = port; frame = record { target = target; octets = spelling value } }) outcomes

outputs_need : (outputs : List Output) (node : Node) (outcomes : List Outcome)
    → OnEnds (puts_all_out node outputs outcomes) (HasNextCall (λ us. puts_all_out node outputs us) outcomes)
outputs_need [] node outcomes = tt
outputs_need (output ∷ outputs) node outcomes =
    needs_then (λ us. puts_out node output us) (λ other left. puts_all_out other outputs left) outcomes (puts_out node output outcomes)
    (output_needs node output outcomes) (output_longer node output outcomes) (λ other. outputs_idle outputs other) (λ other left. outputs_need outputs other left)

comes_needs : (node : Node) (input : Input) (outcomes : List Outcome) → OnEnds (comes node input outcomes) (HasNextCall (λ us. comes node input us) outcomes)
comes_needs node input outcomes =
    outputs_need (step node.system input).outputs (record node { system = (step node.system input).after }) outcomes

inputs_need : (inputs : List Input) (node : Node) (outcomes : List Outcome)
    → OnEnds (come_all node inputs outcomes) (HasNextCall (λ us. come_all node inputs us) outcomes)
inputs_need [] node outcomes = tt
inputs_need (input ∷ inputs) node outcomes =
    needs_then (λ us. comes node input us) (λ other left. come_all other inputs left) outcomes (comes node input outcomes)
    (comes_needs node input outcomes) (comes_longer node input outcomes) (λ other. inputs_idle inputs other) (λ other left. inputs_need inputs other left)

-- a look

sees_needs : (node : Node) (port : ℕ) (look : Option CameFrame) (outcomes : List Outcome)
    → OnEnds (sees node port look outcomes) (HasNextCall (λ us. sees node port look us) outcomes)
sees_needs node port None outcomes = tt
sees_needs node port (Some frame) outcomes =
    comes_needs (polls node) (frame_at (number_behind node.polled) node.system.moment port frame) outcomes

look_strays : (node : Node) (port : ℕ) (outcome : Outcome) (rest : List Outcome) → is_of (LooksAt port) outcome ≡ false
    → looks_by node port (outcome ∷ rest) ≡ Strays
look_strays node port (Saw at look) rest e = ap (λ (b : Bool). if b then sees node port look rest else Strays) e
look_strays node port (LookFailed at) rest e = ap (λ (b : Bool). if b then Goes (detached node port) rest (loss node port ∷ []) else Strays) e
look_strays node port (Took at) rest e = refl
look_strays node port (SendFailed at) rest e = refl

look_follows : (node : Node) (port : ℕ) (outcome : Outcome) → is_of (LooksAt port) outcome ≡ true → UsesAll (looks_by node port (outcome ∷ []))
look_follows node port (Saw at look) e =
    subst (λ (b : Bool). UsesAll (if b then sees node port look [] else Strays)) (sym e) (sees_idle node port look)
look_follows node port (LookFailed at) e =
    subst (λ (b : Bool). UsesAll (if b then Goes (detached node port) [] (loss node port ∷ []) else Strays)) (sym e) tt
look_follows node port (Took at) e = absurd (cc)
look_follows node port (SendFailed at) e = absurd (cc)

look_needs : (node : Node) (port : ℕ) (outcomes : List Outcome) → OnEnds (looks_by node port outcomes) (HasNextCall (λ us. looks_by node port us) outcomes)
look_needs node port [] = record { call = LooksAt port; follows = look_follows node port; strays = look_strays node port }
look_needs node port (Saw at look ∷ left) =
    ends_if (at == port) (sees node port look left) Strays (HasNextCall (λ us. looks_by node port us) (Saw at look ∷ left))
    (λ here. ends_map (sees node port look left) (HasNextCall (λ us. sees node port look us) left) (HasNextCall (λ us. looks_by node port us) (Saw at look ∷ left))
    (sees_needs node port look left)
    (λ n. record {
      call = n.call;
      follows = λ outcome e.
          subst (λ (b : Bool). UsesAll (if b then sees node port look (left ++ outcome ∷ []) else Strays)) (sym here) (n.follows outcome e);
      strays = λ outcome rest e.
          ap (λ (b : Bool). if b then sees node port look (left ++ outcome ∷ rest) else Strays) here ∙ n.strays outcome rest e;
    }))
    (λ other. tt)
look_needs node port (LookFailed at ∷ left) =
    ends_if (at == port) (Goes (detached node port) left (loss node port ∷ [])) Strays (HasNextCall (λ us. looks_by node port us) (LookFailed at ∷ left)) (λ e. tt) (λ e. tt)
look_needs node port (Took at ∷ left) = tt
look_needs node port (SendFailed at ∷ left) = tt

look_at_needs : (node : Node) (port : ℕ) (outcomes : List Outcome) → OnEnds (looks_at node port outcomes) (HasNextCall (λ us. looks_at node port us) outcomes)
look_at_needs node port outcomes =
    ends_if (has_link node port) (looks_by node port outcomes) (Goes node outcomes []) (HasNextCall (λ us. looks_at node port us) outcomes)
    (λ on. ends_map (looks_by node port outcomes) (HasNextCall (λ us. looks_by node port us) outcomes) (HasNextCall (λ us. looks_at node port us) outcomes)
    (look_needs node port outcomes)
    (λ n. record {
      call = n.call;
      follows = λ outcome e.
          subst (λ (b : Bool). UsesAll (if b then looks_by node port (outcomes ++ outcome ∷ []) else Goes node (outcomes ++ outcome ∷ []) [])) (sym on)
          (n.follows outcome e);
      strays = λ outcome rest e.
          ap (λ (b : Bool). if b then looks_by node port (outcomes ++ outcome ∷ rest) else Goes node (outcomes ++ outcome ∷ rest) []) on
          ∙ n.strays outcome rest e;
    }))
    (λ off. tt)

looks_need : (ports : List ℕ) (node : Node) (outcomes : List Outcome)
    → OnEnds (looks_at_each node ports outcomes) (HasNextCall (λ us. looks_at_each node ports us) outcomes)
looks_need [] node outcomes = tt
looks_need (port ∷ ports) node outcomes =
    needs_then (λ us. looks_at node port us) (λ other left. looks_at_each other ports left) outcomes (looks_at node port outcomes)
    (look_at_needs node port outcomes) (look_longer node port outcomes) (λ other. looks_idle ports other) (λ other left. looks_need ports other left)

turn_needs : (inputs : List Input) (node : Node) (outcomes : List Outcome)
    → OnEnds (takes_turn inputs node outcomes) (HasNextCall (λ us. takes_turn inputs node us) outcomes)
turn_needs inputs node outcomes =
    needs_then (λ us. come_all node inputs us) (λ other left. looks_at_each other (ports_of other.attached) left) outcomes (come_all node inputs outcomes)
    (inputs_need inputs node outcomes) (inputs_longer inputs node outcomes) (λ other. looks_idle (ports_of other.attached) other) (λ other left. looks_need (ports_of other.attached) other left)

-- What it says of two transcripts.

abbrev left_of : Played → List Outcome
left_of (Goes node left lines) = left
left_of (Ends node lines) = []
left_of Strays = []

some_left : (left : List Outcome) (outcome : Outcome) (rest : List Outcome) → left ++ outcome ∷ rest ≡ [] → ⊥
some_left [] outcome rest e = absurd (cc)
some_left (other ∷ left) outcome rest e = absurd (cc)

unfinished_by : (p full : Played) (outcome : Outcome) (rest : List Outcome) (last : Node) (lines : List NodeLine)
    → IsLonger (outcome ∷ rest) p full → full ≡ Goes last [] lines → IsUnfinished p
unfinished_by (Goes node left ls) full outcome rest last lines h e = absurd (some_left left outcome rest (ap left_of (sym h ∙ e)))
unfinished_by (Ends node ls) full outcome rest last lines h e = tt
unfinished_by Strays full outcome rest last lines h e = let both : Strays ≡ Goes last [] lines = sym h ∙ e in absurd (cc)

needs_of : (p : Played) (P : Type 0) → OnEnds p P → IsUnfinished p → P
needs_of (Goes node left lines) P h u = absurd u
needs_of (Ends node lines) P h u = h
needs_of Strays P h u = absurd u

same_call : (call : Call) (outcome other : Outcome) → is_of call outcome ≡ true → is_of call other ≡ is_of (call_of outcome) other
same_call (LooksAt port) (Saw at look) other e = ap (λ p. is_of (LooksAt p) other) (sym (is_equal at port e))
same_call (LooksAt port) (LookFailed at) other e = ap (λ p. is_of (LooksAt p) other) (sym (is_equal at port e))
same_call (LooksAt port) (Took at) other e = absurd (cc)
same_call (LooksAt port) (SendFailed at) other e = absurd (cc)
same_call (SendsOn port) (Saw at look) other e = absurd (cc)
same_call (SendsOn port) (LookFailed at) other e = absurd (cc)
same_call (SendsOn port) (Took at) other e = ap (λ p. is_of (SendsOn p) other) (sym (is_equal at port e))
same_call (SendsOn port) (SendFailed at) other e = ap (λ p. is_of (SendsOn p) other) (sym (is_equal at port e))

pub next_call : (inputs : List Input) (node : Node) (front : List Outcome) → IsUnfinished (takes_turn inputs node front)
    → HasNextCall (λ us. takes_turn inputs node us) front
next_call inputs node front u = needs_of (takes_turn inputs node front) (HasNextCall (λ us. takes_turn inputs node us) front) (turn_needs inputs node front) u

module _ (inputs : List Input) (node : Node) (front : List Outcome) (outcome : Outcome) (rest : List Outcome) (last : Node) (lines : List NodeLine)
    (e : takes_turn inputs node (front ++ outcome ∷ rest) ≡ Goes last [] lines) where
  pub front_is_unfinished : IsUnfinished (takes_turn inputs node front)
  front_is_unfinished =
      unfinished_by (takes_turn inputs node front) (takes_turn inputs node (front ++ outcome ∷ rest)) outcome rest last lines
      (turn_longer inputs node front (outcome ∷ rest)) e

  there : HasNextCall (λ us. takes_turn inputs node us) front
  there = next_call inputs node front front_is_unfinished

  pub others_stray : (other : Outcome) (others : List Outcome) → is_of (call_of outcome) other ≡ false
      → takes_turn inputs node (front ++ other ∷ others) ≡ Strays
  others_stray other others differs =
      elim (cases_Bool (is_of there.call outcome)) [
        | inl t ↦ there.strays other others (same_call there.call outcome other t ∙ differs)
        | inr f ↦ let both : Strays ≡ Goes last [] lines = sym (there.strays outcome rest f) ∙ e in absurd (cc)
      ]
