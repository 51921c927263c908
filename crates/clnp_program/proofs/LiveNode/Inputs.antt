-- What comes to a node's system before it looks.
use Rattle.std.proofs.Common.{◌≡◌, ◌∙◌, ap, refl, sym, ℕ, List, [], ◌∷◌, ◌++◌, append-nil}
use Rattle.clnp_machine.specs.System.{Input}
use Rattle.clnp_systems.specs.Stands as clnp_systems
use Rattle.frame_links.specs.LinkBoard.Ports.{PortState}
use Rattle.clnp_machine.specs.LiveModel.Node.{Node, Outcome, Played, Goes, Ends, Strays, and_then, behind, come_all, comes}
use Rattle.clnp_machine.proofs.LiveModel.Parts.{behind_nothing, then_then}
use Rattle.clnp_program.specs.declared.live_node.node.LiveNode.{LiveNode}
use Rattle.clnp_program.specs.LiveNode.Plays.{Stands}

then_nothing : (p : Played) → and_then p (λ node left. Goes node left []) ≡ p
then_nothing (Goes node left lines) = ap (λ ls. Goes node left ls) (append-nil lines)
then_nothing (Ends node lines) = refl
then_nothing Strays = refl

then_same : (p : Played) (next other : Node → List Outcome → Played) → ((node : Node) (left : List Outcome) → next node left ≡ other node left)
    → and_then p next ≡ and_then p other
then_same (Goes node left lines) next other e = ap (λ played. behind lines played) (e node left)
then_same (Ends node lines) next other e = refl
then_same Strays next other e = refl

-- one thing comes
pub comes_alone : (input : Input) (node : Node) (outcomes : List Outcome) → come_all node (input ∷ []) outcomes ≡ comes node input outcomes
comes_alone input node outcomes = then_nothing (comes node input outcomes)

-- an ask for octets comes, whichever way they are said
pub comes_as : (ask : List ℕ → Input) (node : Node) (outcomes : List Outcome) {octets said : List ℕ} → octets ≡ said
    → come_all node (ask said ∷ []) outcomes ≡ comes node (ask octets) outcomes
comes_as ask node outcomes {octets} {said} e =
    comes_alone (ask said) node outcomes ∙ ap (λ (os : List ℕ). comes node (ask os) outcomes) (sym e)

-- some things come, and then others
pub come_both : (inputs others : List Input) (node : Node) (outcomes : List Outcome)
    → come_all node (inputs ++ others) outcomes ≡ and_then (come_all node inputs outcomes) (λ other left. come_all other others left)
come_both [] others node outcomes = sym (behind_nothing (come_all node others outcomes))
come_both (input ∷ inputs) others node outcomes =
    then_same (comes node input outcomes) (λ other left. come_all other (inputs ++ others) left)
    (λ other left. and_then (come_all other inputs left) (λ last rest. come_all last others rest))
    (λ other left. come_both inputs others other left)
    ∙ sym (then_then (comes node input outcomes) (λ other left. come_all other inputs left) (λ other left. come_all other others left))

pub come_next : (inputs first rest : List Input) (node : Node) (outcomes : List Outcome) → inputs ≡ first ++ rest
    → come_all node inputs outcomes ≡ and_then (come_all node first outcomes) (λ other left. come_all other rest left)
come_next inputs first rest node outcomes e = ap (λ (is : List Input). come_all node is outcomes) e ∙ come_both first rest node outcomes

-- the code's node has the configuration of the model's
pub configured : (live : LiveNode) (ports : List PortState) (node : Node) → Stands live ports node
    → clnp_systems.configuration_of live.system ≡ node.system.configuration
configured live ports node h = h.system.parts.local.configuration
