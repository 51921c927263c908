-- What more outcomes change.
use Rattle.std.proofs.Common.{ℕ, Bool, true, false, List, [], ◌∷◌, ◌++◌, Option, Some, None, refl, sym, ap, ◌∙◌, subst, append_assoc}
use Rattle.std.specs.Prelude.{◌==◌, if◌then◌else◌}
use Rattle.pdus.specs.EsisPdus.Spelling.{spelling}
use Rattle.clnp_machine.specs.Step.{step}
use Rattle.clnp_machine.specs.System.{Input, Output, Transmits, SendsEsis, Notes, Effect, number_behind}
use Rattle.clnp_machine.specs.Unit.{wire}
use Rattle.frame_links.specs.LinkBoard.Links.{CameFrame}
use Rattle.clnp_machine.specs.LiveModel.Lines.{NodeLine}
use Rattle.clnp_machine.specs.LiveModel.Node.{Node, Outcome, Saw, LookFailed, Took, SendFailed, Sending, Played, Goes, Ends, Strays, and_then, behind, come_all, comes, counted, detached, frame_at, gives, goes_out, has_link, looks_at, looks_at_each, looks_by, loss, polls, ports_of, puts_all_out, puts_out, sees, takes_effect, transmission, transmits}
use Rattle.clnp_machine.specs.LiveModel.Turn.{takes_turn}
use Rattle.clnp_machine.specs.LiveModel.Parts.{BeginsWith, IsLonger}

begins_nothing : (p : Played) → BeginsWith [] p
begins_nothing (Goes node left lines) = (lines, refl)
begins_nothing (Ends node lines) = (lines, refl)
begins_nothing Strays = tt

begins_behind : (ls ms : List NodeLine) (p : Played) → BeginsWith ms p → BeginsWith (ls ++ ms) (behind ls p)
begins_behind ls ms (Goes node left others) h = (h.0, ap (λ xs. ls ++ xs) h.1 ∙ sym (append_assoc ls ms h.0))
begins_behind ls ms (Ends node others) h = (h.0, ap (λ xs. ls ++ xs) h.1 ∙ sym (append_assoc ls ms h.0))
begins_behind ls ms Strays h = tt

begins_more : (ls more : List NodeLine) (p : Played) → BeginsWith ls (behind (ls ++ more) p)
begins_more ls more (Goes node left others) = (more ++ others, append_assoc ls more others)
begins_more ls more (Ends node others) = (more ++ others, append_assoc ls more others)
begins_more ls more Strays = tt

begins_then : (ls : List NodeLine) (p : Played) (next : Node → List Outcome → Played) → BeginsWith ls p → BeginsWith ls (and_then p next)
begins_then ls (Goes node left others) next h =
    subst (λ (xs : List NodeLine). BeginsWith ls (behind xs (next node left))) (sym h.1) (begins_more ls h.0 (next node left))
begins_then ls (Ends node others) next h = h
begins_then ls Strays next h = tt

begins_if : (ls : List NodeLine) (b : Bool) (p q : Played) → BeginsWith ls p → BeginsWith ls q → BeginsWith ls (if b then p else q)
begins_if ls true p q h k = h
begins_if ls false p q h k = k

longer_behind : (later : List Outcome) (ls : List NodeLine) (p q : Played) → IsLonger later p q → IsLonger later (behind ls p) (behind ls q)
longer_behind later ls (Goes node left lines) q h = ap (behind ls) h
longer_behind later ls (Ends node lines) q h = begins_behind ls lines q h
longer_behind later ls Strays q h = ap (behind ls) h

pub longer_then : (later : List Outcome) (p q : Played) (next : Node → List Outcome → Played) → IsLonger later p q
    → ((node : Node) (left : List Outcome) → IsLonger later (next node left) (next node (left ++ later)))
    → IsLonger later (and_then p next) (and_then q next)
longer_then later (Goes node left lines) q next h k =
    subst (λ (r : Played). IsLonger later (behind lines (next node left)) (and_then r next)) (sym h)
    (longer_behind later lines (next node left) (next node (left ++ later)) (k node left))
longer_then later (Ends node lines) q next h k = begins_then lines q next h
longer_then later Strays q next h k = ap (λ r. and_then r next) h

longer_if : (later : List Outcome) (b : Bool) (p q r s : Played) → IsLonger later p r → IsLonger later q s
    → IsLonger later (if b then p else q) (if b then r else s)
longer_if later true p q r s h k = h
longer_if later false p q r s h k = k

-- a frame goes out

out_begins : (node : Node) (sending : Sending) (outcomes : List Outcome) → BeginsWith (transmission node sending ∷ []) (goes_out node sending outcomes)
out_begins node sending [] = ([], refl)
out_begins node sending (Saw at look ∷ left) = tt
out_begins node sending (LookFailed at ∷ left) = tt
out_begins node sending (Took at ∷ left) =
    begins_if (transmission node sending ∷ []) (at == sending.port) (Goes (gives (counted node) sending) left (transmission node sending ∷ [])) Strays ([], refl) tt
out_begins node sending (SendFailed at ∷ left) =
    begins_if (transmission node sending ∷ []) (at == sending.port)
    (Goes (detached (counted node) sending.port) left (transmission node sending ∷ loss node sending.port ∷ [])) Strays (loss node sending.port ∷ [], refl) tt

out_longer : (node : Node) (sending : Sending) (outcomes later : List Outcome) → IsLonger later (goes_out node sending outcomes) (goes_out node sending (outcomes ++ later))
out_longer node sending [] later = out_begins node sending later
out_longer node sending (Saw at look ∷ left) later = refl
out_longer node sending (LookFailed at ∷ left) later = refl
out_longer node sending (Took at ∷ left) later =
    longer_if later (at == sending.port) (Goes (gives (counted node) sending) left (transmission node sending ∷ [])) Strays
    (Goes (gives (counted node) sending) (left ++ later) (transmission node sending ∷ [])) Strays refl refl
out_longer node sending (SendFailed at ∷ left) later =
    longer_if later (at == sending.port) (Goes (detached (counted node) sending.port) left (transmission node sending ∷ loss node sending.port ∷ [])) Strays
    (Goes (detached (counted node) sending.port) (left ++ later) (transmission node sending ∷ loss node sending.port ∷ [])) Strays refl refl

transmits_longer : (node : Node) (sending : Sending) (outcomes later : List Outcome)
    → IsLonger later (transmits node sending outcomes) (transmits node sending (outcomes ++ later))
transmits_longer node sending outcomes later =
    longer_if later (has_link node sending.port) (goes_out node sending outcomes) (Goes (counted node) outcomes (transmission node sending ∷ []))
    (goes_out node sending (outcomes ++ later)) (Goes (counted node) (outcomes ++ later) (transmission node sending ∷ []))
    (out_longer node sending outcomes later) refl

pub output_longer : (node : Node) (output : Output) (outcomes later : List Outcome)
    → IsLonger later (puts_out node output outcomes) (puts_out node output (outcomes ++ later))
output_longer node (Notes note) outcomes later = refl
output_longer node (Transmits port target packet) outcomes later =
    transmits_longer node (record { port = port; frame = record { target = target; octets = wire packet } }) outcomes later
output_longer node (SendsEsis port target value) outcomes later =
    transmits_longer node (record { port = port; frame = record { target = target; octets = spelling value } }) outcomes later

pub outputs_longer : (outputs : List Output) (node : Node) (outcomes later : List Outcome)
    → IsLonger later (puts_all_out node outputs outcomes) (puts_all_out node outputs (outcomes ++ later))
outputs_longer [] node outcomes later = refl
outputs_longer (output ∷ outputs) node outcomes later =
    longer_then later (puts_out node output outcomes) (puts_out node output (outcomes ++ later)) (λ other left. puts_all_out other outputs left)
    (output_longer node output outcomes later) (λ other left. outputs_longer outputs other left later)

pub effect_longer : (effect : Effect) (node : Node) (outcomes later : List Outcome)
    → IsLonger later (takes_effect node effect outcomes) (takes_effect node effect (outcomes ++ later))
effect_longer effect node outcomes later = outputs_longer effect.outputs (record node { system = effect.after }) outcomes later

pub comes_longer : (node : Node) (input : Input) (outcomes later : List Outcome)
    → IsLonger later (comes node input outcomes) (comes node input (outcomes ++ later))
comes_longer node input outcomes later = effect_longer (step node.system input) node outcomes later

pub inputs_longer : (inputs : List Input) (node : Node) (outcomes later : List Outcome)
    → IsLonger later (come_all node inputs outcomes) (come_all node inputs (outcomes ++ later))
inputs_longer [] node outcomes later = refl
inputs_longer (input ∷ inputs) node outcomes later =
    longer_then later (comes node input outcomes) (comes node input (outcomes ++ later)) (λ other left. come_all other inputs left)
    (comes_longer node input outcomes later) (λ other left. inputs_longer inputs other left later)

-- a look

sees_longer : (node : Node) (port : ℕ) (look : Option CameFrame) (outcomes later : List Outcome)
    → IsLonger later (sees node port look outcomes) (sees node port look (outcomes ++ later))
sees_longer node port None outcomes later = refl
sees_longer node port (Some frame) outcomes later =
    comes_longer (polls node) (frame_at (number_behind node.polled) node.system.moment port frame) outcomes later

look_by_longer : (node : Node) (port : ℕ) (outcomes later : List Outcome) → IsLonger later (looks_by node port outcomes) (looks_by node port (outcomes ++ later))
look_by_longer node port [] later = begins_nothing (looks_by node port later)
look_by_longer node port (Saw at look ∷ left) later =
    longer_if later (at == port) (sees node port look left) Strays (sees node port look (left ++ later)) Strays (sees_longer node port look left later) refl
look_by_longer node port (LookFailed at ∷ left) later =
    longer_if later (at == port) (Goes (detached node port) left (loss node port ∷ [])) Strays
    (Goes (detached node port) (left ++ later) (loss node port ∷ [])) Strays refl refl
look_by_longer node port (Took at ∷ left) later = refl
look_by_longer node port (SendFailed at ∷ left) later = refl

pub look_longer : (node : Node) (port : ℕ) (outcomes later : List Outcome) → IsLonger later (looks_at node port outcomes) (looks_at node port (outcomes ++ later))
look_longer node port outcomes later =
    longer_if later (has_link node port) (looks_by node port outcomes) (Goes node outcomes []) (looks_by node port (outcomes ++ later)) (Goes node (outcomes ++ later) [])
    (look_by_longer node port outcomes later) refl

pub looks_longer : (ports : List ℕ) (node : Node) (outcomes later : List Outcome)
    → IsLonger later (looks_at_each node ports outcomes) (looks_at_each node ports (outcomes ++ later))
looks_longer [] node outcomes later = refl
looks_longer (port ∷ ports) node outcomes later =
    longer_then later (looks_at node port outcomes) (looks_at node port (outcomes ++ later)) (λ other left. looks_at_each other ports left)
    (look_longer node port outcomes later) (λ other left. looks_longer ports other left later)

pub turn_longer : (inputs : List Input) (node : Node) (outcomes later : List Outcome)
    → IsLonger later (takes_turn inputs node outcomes) (takes_turn inputs node (outcomes ++ later))
turn_longer inputs node outcomes later =
    longer_then later (come_all node inputs outcomes) (come_all node inputs (outcomes ++ later)) (λ other left. looks_at_each other (ports_of other.attached) left)
    (inputs_longer inputs node outcomes later) (λ other left. looks_longer (ports_of other.attached) other left later)
