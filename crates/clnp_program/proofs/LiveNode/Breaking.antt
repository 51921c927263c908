-- Parts that are broken off.
use Rattle.std.proofs.Common.{◌≡◌, ◌<◌, ℕ, Bool, true, false, List, [], ◌∷◌, ◌++◌, arith, inl, inr, length, length-append, Option, Some, None, refl, sym, ap, ◌∙◌, subst, append_assoc, append-nil, take, drop, take-append-drop}
use Rattle.std.proofs.KnownBytes.{Appends-nil, Appends-trans}
use Rattle.std.proofs.lemmas.Bool.{cases_Bool}
use Rattle.std.specs.Fmt.{decimal}
use Rattle.std.specs.List.{flat_map, list_any}
use Rattle.std.specs.Prelude.{if◌then◌else◌, ◌⊎◌, codes, Result, Ok, Err, IfErr, OnErr, OnOk}
use Rattle.std.specs.Result.{is_err}
use Rattle.std.specs.Io.KnownBytes.{Appends}
use Rattle.clnp_plan.specs.Journal.{Noted, Transmitted, behind_space, line_of, note_words, octets_word, target_text}
use Rattle.clnp_plan.specs.Pdus.declared.nsap.target.Target.{Target}
use Rattle.clnp_plan.specs.Pdus.declared.pdu_header.kind.Kind.TheVariants.{Dt}
use Rattle.clnp_plan.specs.declared.ask.Ask.{Ask}
use Rattle.clnp_plan.specs.declared.note.Note.{Note}
use Rattle.clnp_machine.specs.Local.{refusal, request_unit, unit_of, unless_refused}
use Rattle.clnp_machine.specs.Step.{effect_of, step}
use Rattle.clnp_machine.specs.System.{AsksForEcho, AsksToSend, Effect, Input, Output, Notes, Transmits, SendsEsis, SystemState, number_behind}
use Rattle.clnp_machine.specs.EsisPdus.Spelling.{spelling}
use Rattle.clnp_machine.specs.Unit.{DataUnit, wire}
use Rattle.frame_links.specs.ClnpBase.Streams.{AppendsFront}
use Rattle.frame_links.specs.LinkBoard.Links.{CameFrame}
use Rattle.frame_links.specs.LinkBoard.Ports.{PortState}
use Rattle.clnp_machine.specs.LiveModel.Lines.{LinkGone, NodeLine, Says, lines_text, node_line_text}
use Rattle.clnp_machine.specs.LiveModel.Node.{Node, Outcome, Played, Goes, Ends, Strays, Sending, and_then, behind, come_all, comes, counted, frame_at, goes_out, has_link, looks_at, looks_at_each, polls, ports_of, puts_all_out, puts_out, sees, transmission, transmits}
use Rattle.clnp_machine.specs.LiveModel.Course.{has_any_link}
use Rattle.clnp_machine.specs.LiveModel.Parts.{UsesAll}
use Rattle.clnp_machine.specs.LiveModel.Turn.{takes_turn}
use Rattle.clnp_program.specs.declared.live_node.node.LiveNode.{LiveNode}
use Rattle.clnp_program.specs.LiveNode.Links.{PortsWent}
use Rattle.clnp_program.specs.LiveNode.Plays.{Breaks, HasMore, IsUnnoticed, Plays, PlaysTo, Stands, attached_by_then, attached_of, lines_by, taken_by_then}
use Rattle.clnp_program.specs.LiveNode.Ran.{has_any_attached}
use Rattle.clnp_program.proofs.LiveNode.Playing.{plays_to_then, text_both, text_line}
use Rattle.clnp_program.proofs.LiveNode.Ports.{ports_both, ports_same}

-- ---- behind lines

uses_behind : (lines : List NodeLine) (p : Played) → UsesAll p → UsesAll (behind lines p)
uses_behind lines (Goes node [] others) h = tt
uses_behind lines (Goes node (outcome ∷ left) others) h = absurd h
uses_behind lines (Ends node others) h = tt
uses_behind lines Strays h = absurd h

text_behind : (lines : List NodeLine) (p : Played) → UsesAll p → lines_text (lines_by (behind lines p)) ≡ lines_text lines ++ lines_text (lines_by p)
text_behind lines (Goes node left others) h = text_both lines others
text_behind lines (Ends node others) h = text_both lines others
text_behind lines Strays h = absurd h

taken_behind : (lines : List NodeLine) (a b : Node) (p : Played) → UsesAll p → taken_by_then a (behind lines p) ≡ taken_by_then b p
taken_behind lines a b (Goes node left others) h = refl
taken_behind lines a b (Ends node others) h = refl
taken_behind lines a b Strays h = absurd h

attached_behind : (lines : List NodeLine) (a b : Node) (p : Played) → UsesAll p → attached_by_then a (behind lines p) ≡ attached_by_then b p
attached_behind lines a b (Goes node left others) h = refl
attached_behind lines a b (Ends node others) h = refl
attached_behind lines a b Strays h = absurd h

attached_same : (a b : Node) (p : Played) → UsesAll p → attached_by_then a p ≡ attached_by_then b p
attached_same a b (Goes node left lines) h = refl
attached_same a b (Ends node lines) h = refl
attached_same a b Strays h = absurd h

taken_same : (a b : Node) (p : Played) → UsesAll p → taken_by_then a p ≡ taken_by_then b p
taken_same a b (Goes node left lines) h = refl
taken_same a b (Ends node lines) h = refl
taken_same a b Strays h = absurd h

-- ---- without outcomes

-- what is played without outcomes stops at once, and no link takes a frame
pub record IsIdle (node : Node) (p : Played) : Type 0 where
  pub uses : UsesAll p
  pub takes : taken_by_then node p ≡ node.taken
  pub stays : attached_by_then node p ≡ node.attached

idle_then : (node : Node) (p : Played) (next : Node → List Outcome → Played) → IsIdle node p → ((other : Node) → IsIdle other (next other [])) → IsIdle node (and_then p next)
idle_then node (Goes other [] lines) next h k =
    let i = k other in
    record {
      uses = uses_behind lines (next other []) i.uses;
      takes = taken_behind lines node other (next other []) i.uses ∙ (i.takes ∙ h.takes);
      stays = attached_behind lines node other (next other []) i.uses ∙ (i.stays ∙ h.stays);
    }
idle_then node (Goes other (outcome ∷ left) lines) next h k = absurd h.uses
idle_then node (Ends other lines) next h k = record { uses = tt; takes = h.takes; stays = h.stays }
idle_then node Strays next h k = absurd h.uses

idle_choice : (node : Node) (b : Bool) (p q : Played) → IsIdle node p → IsIdle node q → IsIdle node (if b then p else q)
idle_choice node true p q h k = h
idle_choice node false p q h k = k

-- of another node by which links took the same and are attached alike
idle_from : (node other : Node) (p : Played) → other.taken ≡ node.taken → other.attached ≡ node.attached → IsIdle other p → IsIdle node p
idle_from node other p e a i = record {
  uses = i.uses;
  takes = taken_same node other p i.uses ∙ (i.takes ∙ e);
  stays = attached_same node other p i.uses ∙ (i.stays ∙ a);
}

pub idle_transmits : (sending : Sending) (node : Node) → IsIdle node (transmits node sending [])
idle_transmits sending node =
    idle_choice node (has_link node sending.port) _ _ (record { uses = tt; takes = refl; stays = refl }) (record { uses = tt; takes = refl; stays = refl })

pub idle_output : (output : Output) (node : Node) → IsIdle node (puts_out node output [])
idle_output (Notes note) node = record { uses = tt; takes = refl; stays = refl }
idle_output (Transmits port target packet) node =
    idle_transmits (record { port = port; frame = record { target = target; octets = wire packet } }) node
idle_output (SendsEsis port target value) node =
    idle_transmits (record { port = port; frame = record { target = target; octets = spelling value } }) node

pub idle_outputs : (outputs : List Output) (node : Node) → IsIdle node (puts_all_out node outputs [])
idle_outputs [] node = record { uses = tt; takes = refl; stays = refl }
idle_outputs (output ∷ outputs) node =
    idle_then node (puts_out node output []) (λ other left. puts_all_out other outputs left) (idle_output output node) (idle_outputs outputs)

pub idle_comes : (input : Input) (node : Node) → IsIdle node (comes node input [])
idle_comes input node =
    let effect = step node.system input in
    let other : Node = record node { system = effect.after } in
    idle_from node other (puts_all_out other effect.outputs []) refl refl (idle_outputs effect.outputs other)

pub idle_come_all : (inputs : List Input) (node : Node) → IsIdle node (come_all node inputs [])
idle_come_all [] node = record { uses = tt; takes = refl; stays = refl }
idle_come_all (input ∷ inputs) node =
    idle_then node (comes node input []) (λ other left. come_all other inputs left) (idle_comes input node) (idle_come_all inputs)

pub idle_sees : (port : ℕ) (look : Option CameFrame) (node : Node) → IsIdle node (sees node port look [])
idle_sees port None node = record { uses = tt; takes = refl; stays = refl }
idle_sees port (Some frame) node =
    let input = frame_at (number_behind node.polled) node.system.moment port frame in
    idle_from node (polls node) (comes (polls node) input []) refl refl (idle_comes input (polls node))

idle_look : (port : ℕ) (node : Node) → IsIdle node (looks_at node port [])
idle_look port node =
    idle_choice node (has_link node port) _ _ (record { uses = tt; takes = refl; stays = refl }) (record { uses = tt; takes = refl; stays = refl })

pub idle_looks : (ports : List ℕ) (node : Node) → IsIdle node (looks_at_each node ports [])
idle_looks [] node = record { uses = tt; takes = refl; stays = refl }
idle_looks (port ∷ ports) node =
    idle_then node (looks_at node port []) (λ other left. looks_at_each other ports left) (idle_look port node) (idle_looks ports)

pub idle_turn : (inputs : List Input) (node : Node) → IsIdle node (takes_turn inputs node [])
idle_turn inputs node =
    idle_then node (come_all node inputs []) (λ other left. looks_at_each other (ports_of other.attached) left)
    (idle_come_all inputs node) (λ other. idle_looks (ports_of other.attached) other)

-- ---- what is left to be done

more_behind : (lines : List NodeLine) (p : Played) (rest : List ℕ) → HasMore p rest → HasMore (behind lines p) rest
more_behind lines (Goes node left others) rest h = h
more_behind lines (Ends node others) rest h = tt
more_behind lines Strays rest h = absurd h

-- lines are left to be written
more_lines : (p : Played) (rest : List ℕ) → UsesAll p → 0 < length rest → HasMore p rest
more_lines (Goes node left lines) rest u h = inr h
more_lines (Ends node lines) rest u h = tt
more_lines Strays rest u h = absurd u

linked_as : (node other : Node) → other.attached ≡ node.attached → has_any_link other ≡ has_any_link node
linked_as node other e = ap (λ (attached : List Bool). list_any (λ (on : Bool). on) attached) e

-- what stops at once with a link attached has more to do
pub more_linked : (node : Node) (p : Played) (rest : List ℕ) → IsIdle node p → has_any_link node ≡ true → HasMore p rest
more_linked node (Goes other left lines) rest i on = inl (linked_as node other i.stays ∙ on)
more_linked node (Ends other lines) rest i on = tt
more_linked node Strays rest i on = absurd i.uses

more_idle : (node : Node) (p : Played) (rest others : List ℕ) → IsIdle node p
    → (has_any_link node ≡ true) ⊎ (0 < length rest) → HasMore p (rest ++ others)
more_idle node p rest others i (inl on) = more_linked node p (rest ++ others) i on
more_idle node p rest others i (inr some) = more_lines p (rest ++ others) i.uses (omega (arith, some, length-append rest others))

line_some : (first : List ℕ) (others : List (List ℕ)) → 0 < length (line_of first others)
line_some first others =
    omega (arith, length-append first (flat_map behind_space others ++ codes "\n"), length-append (flat_map behind_space others) (codes "\n"))

-- the lines of a node's journal aren't empty
pub noted_some : (now : ℕ) (name : List ℕ) (note : Note) → 0 < length (node_line_text (Says (Noted now name note)))
noted_some now name note = line_some (decimal now) (name ∷ note_words note)

pub transmitted_some : (now : ℕ) (name : List ℕ) (copy port : ℕ) (target : Target) (frame : List ℕ)
    → 0 < length (node_line_text (Says (Transmitted now name copy port target frame)))
transmitted_some now name copy port target frame =
    line_some (decimal now) (name ∷ codes "tx" ∷ decimal copy ∷ decimal port ∷ target_text target ∷ octets_word frame ∷ [])

pub loss_some : (now : ℕ) (name : List ℕ) (port : ℕ) → 0 < length (node_line_text (LinkGone now name port))
loss_some now name port = line_some (decimal now) (name ∷ codes "link" ∷ decimal port ∷ codes "gone" ∷ [])

-- behind a line that wasn't written there is more
more_told : (line : NodeLine) (p : Played) → UsesAll p → 0 < length (node_line_text line)
    → HasMore (behind (line ∷ []) p) (lines_text (lines_by (behind (line ∷ []) p)))
more_told line p u some =
    let others = lines_text (lines_by p) in
    let text : lines_text (lines_by (behind (line ∷ []) p)) ≡ node_line_text line ++ others =
    text_behind (line ∷ []) p u ∙ ap (λ (t : List ℕ). t ++ others) (text_line line) in
    more_lines (behind (line ∷ []) p) (lines_text (lines_by (behind (line ∷ []) p))) (uses_behind (line ∷ []) p u)
    (subst (λ (t : List ℕ). 0 < length t) (sym text) (omega (arith, some, length-append (node_line_text line) others)))

-- what is given out is told, or a call is to be made for it
more_sent : (on : Bool) (sending : Sending) (node : Node) (outputs : List Output)
    → let p = and_then (if on then goes_out node sending [] else Goes (counted node) [] (transmission node sending ∷ []))
    (λ other left. puts_all_out other outputs left) in HasMore p (lines_text (lines_by p))
more_sent true sending node outputs = tt
more_sent false sending node outputs =
    more_told (transmission node sending) (puts_all_out (counted node) outputs []) (idle_outputs outputs (counted node)).uses
    (transmitted_some node.system.moment node.system.configuration.name (number_behind node.copies) sending.port sending.frame.target sending.frame.octets)

pub more_outputs : (node : Node) (output : Output) (outputs : List Output)
    → HasMore (puts_all_out node (output ∷ outputs) []) (lines_text (lines_by (puts_all_out node (output ∷ outputs) [])))
more_outputs node (Notes note) outputs =
    more_told (Says (Noted node.system.moment node.system.configuration.name note)) (puts_all_out node outputs []) (idle_outputs outputs node).uses
    (noted_some node.system.moment node.system.configuration.name note)
more_outputs node (Transmits port target packet) outputs =
    let sending : Sending = record { port = port; frame = record { target = target; octets = wire packet } } in
    more_sent (has_link node port) sending node outputs
more_outputs node (SendsEsis port target value) outputs =
    let sending : Sending = record { port = port; frame = record { target = target; octets = spelling value } } in
    more_sent (has_link node port) sending node outputs

more_by : (node : Node) (input : Input) (outputs : List Output) → (step node.system input).outputs ≡ outputs
    → (IsUnnoticed node input) ⊎ (HasMore (comes node input []) (lines_text (lines_by (comes node input []))) ⊎ (has_any_link node ≡ true))
more_by node input [] e = elim (cases_Bool (has_any_link node)) [
  | inl on ↦ inr (inr on)
  | inr off ↦ inl (record { alone = off; silent = e })
]
more_by node input (output ∷ outputs) e =
    let next : Node = record node { system = (step node.system input).after } in
    inr (inl (subst (λ (os : List Output). HasMore (puts_all_out next os []) (lines_text (lines_by (puts_all_out next os [])))) (sym e)
    (more_outputs next output outputs)))

-- what comes to a node has more to it, but for what goes unnoticed
pub more_comes : (node : Node) (input : Input)
    → (IsUnnoticed node input) ⊎ (HasMore (comes node input []) (lines_text (lines_by (comes node input []))))
more_comes node input = elim (more_by node input (step node.system input).outputs refl) [
  | inl unnoticed ↦ inl unnoticed
  | inr more ↦ elim more [
    | inl there ↦ inr there
    | inr on ↦ inr (more_linked node (comes node input []) (lines_text (lines_by (comes node input []))) (idle_comes input node) on)
  ]
]

-- a unit that is asked for is told of, made or not
make_told : (refused : Option Note) (s : SystemState) (u : DataUnit) (input : Input)
    → (step s input) ≡ effect_of (unless_refused refused s u) → (step s input).outputs ≡ [] → ⊥
make_told (Some note) s u input e none = let bad = sym (ap (λ (effect : Effect). effect.outputs) e) ∙ none in absurd (cc)
make_told None s u input e none = let bad = sym (ap (λ (effect : Effect). effect.outputs) e) ∙ none in absurd (cc)

pub send_noticed : (node : Node) (from to octets : List ℕ) (ask : Ask) → IsUnnoticed node (AsksToSend from to octets ask) → ⊥
send_noticed node from to octets ask h =
    let u = unit_of node.system Dt from to octets ask in
    make_told (refusal node.system u) node.system u (AsksToSend from to octets ask) refl h.silent

pub echo_noticed : (node : Node) (from to octets : List ℕ) → IsUnnoticed node (AsksForEcho from to octets) → ⊥
echo_noticed node from to octets h =
    let u = request_unit node.system from to octets in
    make_told (refusal node.system u) node.system u (AsksForEcho from to octets) refl h.silent

pub noticed : {P U : Type 0} → (U → ⊥) → P ⊎ U → P
noticed never (inl p) = p
noticed never (inr u) = absurd (never u)

pub unless_noticed : {P U M : Type 0} → U ⊎ M → (P ⊎ U) ⊎ M
unless_noticed (inl u) = inl (inr u)
unless_noticed (inr m) = inr m

pub linked_noticed : (node : Node) (input : Input) → has_any_link node ≡ true → IsUnnoticed node input → ⊥
linked_noticed node input on h = let bad = sym on ∙ h.alone in absurd (cc)

pub same_links : (live : LiveNode) (ports : List PortState) (node : Node) → Stands live ports node → has_any_link node ≡ has_any_attached ports
same_links live ports node h = ap (λ (attached : List Bool). list_any (λ (on : Bool). on) attached) h.attached

pub alone_excused : {P : Type 0} (live : LiveNode) (ports : List PortState) (node : Node) → Stands live ports node → (input : Input)
    → P ⊎ IsUnnoticed node input → P ⊎ (has_any_attached ports ≡ false)
alone_excused live ports node h input (inl p) = inl p
alone_excused live ports node h input (inr u) = inr (sym (same_links live ports node h) ∙ u.alone)

more_alone : (p : Played) → HasMore p (lines_text (lines_by p))
    → let q = and_then p (λ other left. Goes other left []) in HasMore q (lines_text (lines_by q))
more_alone (Goes node left lines) (inl on) = inl on
more_alone (Goes node left lines) (inr some) =
    inr (subst (λ (ls : List NodeLine). 0 < length (lines_text ls)) (sym (append-nil lines)) some)
more_alone (Ends node lines) h = tt
more_alone Strays h = absurd h

-- what is asked of a node has more to it, where it is noticed
pub more_asked : (node : Node) (asked : Input) → (IsUnnoticed node asked → ⊥)
    → HasMore (come_all node (asked ∷ []) []) (lines_text (lines_by (come_all node (asked ∷ []) [])))
more_asked node asked never = more_alone (comes node asked []) (elim (more_comes node asked) [ inl u ↦ absurd (never u) | inr more ↦ more ])

-- ---- parts that are broken off

-- it is excused by something else
pub breaks_for : (P Q : Type 0) (play : List Outcome → Played) (model : Node) (before after : List PortState) (old new : Option (List ℕ))
    → (P → Q) → Breaks P play model before after old new → Breaks Q play model before after old new
breaks_for P Q play model before after old new f b =
    record {
      used = b.used;
      taken = b.taken;
      front = b.front;
      rest = b.rest;
      uses = b.uses;
      text = b.text;
      takes = b.takes;
      attached = b.attached;
      more = elim b.more [ inl p ↦ inl (f p) | inr more ↦ inr more ];
      ports = b.ports;
      written = b.written;
    }

-- a part was played to its end, and what comes behind it is broken off
pub breaks_next : (P : Type 0) (play : List Outcome → Played) (rest : Node → List Outcome → Played) (model : Node) (live : LiveNode)
    → (before between after : List PortState) (old mid new : Option (List ℕ))
    → PlaysTo play rest model live before between old mid
    → ((node : Node) → Stands live between node → Breaks P (rest node) node between after mid new)
    → Breaks P play model before after old new
breaks_next P play rest model live before between after old mid new h k =
    let b = k h.node h.stands in
    let e = h.goes b.used in
    record {
      used = h.used ++ b.used;
      taken = h.taken ++ b.taken;
      front = lines_text h.lines ++ b.front;
      rest = b.rest;
      uses = subst UsesAll (sym e) (uses_behind h.lines (rest h.node b.used) b.uses);
      text = ap (λ p. lines_text (lines_by p)) e
          ∙ (text_behind h.lines (rest h.node b.used) b.uses
          ∙ (ap (λ text. lines_text h.lines ++ text) b.text ∙ sym (append_assoc (lines_text h.lines) b.front b.rest)));
      takes = ap (λ p. taken_by_then model p) e
          ∙ (taken_behind h.lines model h.node (rest h.node b.used) b.uses
          ∙ (b.takes ∙ (ap (λ sent. sent ++ b.taken) h.takes ∙ append_assoc model.taken h.taken b.taken)));
      attached = ap (λ p. attached_by_then model p) e
          ∙ (attached_behind h.lines model h.node (rest h.node b.used) b.uses ∙ b.attached);
      more = elim b.more [
        | inl p ↦ inl p
        | inr more ↦ inr (subst (λ (p : Played). HasMore p b.rest) (sym e) (more_behind h.lines (rest h.node b.used) b.rest more))
      ];
      ports = ports_both 0 before between after h.used b.used h.taken b.taken h.ports b.ports;
      written = Appends-trans old mid new (lines_text h.lines) b.front h.written b.written;
    }

-- so is the second of two parts
pub breaks_then : (P : Type 0) (first : List Outcome → Played) (next : Node → List Outcome → Played) (model : Node) (live : LiveNode)
    → (before between after : List PortState) (old mid new : Option (List ℕ))
    → Plays first model live before between old mid
    → ((node : Node) → Stands live between node → Breaks P (next node) node between after mid new)
    → Breaks P (λ outcomes. and_then (first outcomes) next) model before after old new
breaks_then P first next model live before between after old mid new h k =
    breaks_next P (λ outcomes. and_then (first outcomes) next) next model live before between after old mid new
    (plays_to_then first next model live before between old mid h) k

-- what is so of a part that is broken off, beside its ports and the sink
record BrokenBy (P : Type 0) (p : Played) (model : Node) (taken : List Sending) (attached : List Bool) (front : List ℕ) : Type 0 where
  rest : List ℕ
  uses : UsesAll p
  text : lines_text (lines_by p) ≡ front ++ rest
  takes : taken_by_then model p ≡ model.taken ++ taken
  stays : attached_by_then model p ≡ attached
  more : P ⊎ HasMore p rest

broken_by : (P : Type 0) (p : Played) (next : Node → List Outcome → Played) (model : Node) (taken : List Sending) (attached : List Bool)
    → (front rest : List ℕ) → UsesAll p → lines_text (lines_by p) ≡ front ++ rest
    → taken_by_then model p ≡ model.taken ++ taken → attached_by_then model p ≡ attached → P ⊎ HasMore p rest
    → ((node : Node) → IsIdle node (next node []))
    → BrokenBy P (and_then p next) model taken attached front
broken_by P (Goes node [] lines) next model taken attached front rest u l t a m idle =
    let i = idle node in
    let others = lines_text (lines_by (next node [])) in
    record {
      rest = rest ++ others;
      uses = uses_behind lines (next node []) i.uses;
      text = text_behind lines (next node []) i.uses ∙ (ap (λ text. text ++ others) l ∙ append_assoc front rest others);
      takes = taken_behind lines model node (next node []) i.uses ∙ (i.takes ∙ t);
      stays = attached_behind lines model node (next node []) i.uses ∙ (i.stays ∙ a);
      more = elim m [
        | inl p ↦ inl p
        | inr more ↦ inr (more_behind lines (next node []) (rest ++ others) (more_idle node (next node []) rest others i more))
      ];
    }
broken_by P (Goes node (outcome ∷ left) lines) next model taken attached front rest u l t a m idle = absurd u
broken_by P (Ends node lines) next model taken attached front rest u l t a m idle =
    record { rest = rest; uses = tt; text = l; takes = t; stays = a; more = inr tt }
broken_by P Strays next model taken attached front rest u l t a m idle = absurd u

-- the first of two parts is broken off, and the next one isn't played
pub breaks_first : (P : Type 0) (part : List Outcome → Played) (next : Node → List Outcome → Played) (model : Node) (before after : List PortState) (old new : Option (List ℕ))
    → ((node : Node) → IsIdle node (next node []))
    → Breaks P part model before after old new → Breaks P (λ outcomes. and_then (part outcomes) next) model before after old new
breaks_first P part next model before after old new idle b =
    let f = broken_by P (part b.used) next model b.taken (attached_of after) b.front b.rest b.uses b.text b.takes b.attached b.more idle in
    record {
      used = b.used;
      taken = b.taken;
      front = b.front;
      rest = f.rest;
      uses = f.uses;
      text = f.text;
      takes = f.takes;
      attached = f.stays;
      more = f.more;
      ports = b.ports;
      written = b.written;
    }

-- nothing was played
pub breaks_nothing : (P : Type 0) (play : List Outcome → Played) (model : Node) (board : List PortState) (old : Option (List ℕ)) → IsIdle model (play [])
    → model.attached ≡ attached_of board → P ⊎ HasMore (play []) (lines_text (lines_by (play [])))
    → Breaks P play model board board old old
breaks_nothing P play model board old i a m =
    record {
      used = [];
      taken = [];
      front = [];
      rest = lines_text (lines_by (play []));
      uses = i.uses;
      text = refl;
      takes = i.takes ∙ sym (append-nil model.taken);
      attached = i.stays ∙ a;
      more = m;
      ports = ports_same 0 board;
      written = Appends-nil old;
    }

-- its first line was broken off, or nothing of it was written
pub breaks_line : (P : Type 0) (play : List Outcome → Played) (model : Node) (board : List PortState) (old new : Option (List ℕ)) (line : NodeLine) → IsIdle model (play [])
    → lines_by (play []) ≡ line ∷ [] → model.attached ≡ attached_of board → 0 < length (node_line_text line)
    → AppendsFront old new (node_line_text line) → P ⊎ (new ≡ old)
    → Breaks P play model board board old new
breaks_line P play model board old new line i e a some h (inl p) =
    record {
      used = [];
      taken = [];
      front = take h.count (node_line_text line);
      rest = drop h.count (node_line_text line);
      uses = i.uses;
      text = ap lines_text e ∙ (text_line line ∙ sym (take-append-drop h.count (node_line_text line)));
      takes = i.takes ∙ sym (append-nil model.taken);
      attached = i.stays ∙ a;
      more = inl p;
      ports = ports_same 0 board;
      written = h.appends;
    }
breaks_line P play model board old new line i e a some h (inr same) =
    record {
      used = [];
      taken = [];
      front = [];
      rest = node_line_text line;
      uses = i.uses;
      text = ap lines_text e ∙ text_line line;
      takes = i.takes ∙ sym (append-nil model.taken);
      attached = i.stays ∙ a;
      more = inr (more_lines (play []) (node_line_text line) i.uses some);
      ports = ports_same 0 board;
      written = subst (λ (there : Option (List ℕ)). Appends old there []) (sym same) (Appends-nil old);
    }

-- all was played, and its last line was broken off, or nothing of it was written
pub breaks_last : (P : Type 0) (play : List Outcome → Played) (model node : Node) (before after : List PortState) (old mid new : Option (List ℕ)) (used : List Outcome) (taken : List Sending)
    → (lines : List NodeLine) (last : NodeLine) → play used ≡ Goes node [] (lines ++ last ∷ []) → node.taken ≡ model.taken ++ taken
    → node.attached ≡ attached_of after → PortsWent 0 before after used taken → Appends old mid (lines_text lines)
    → 0 < length (node_line_text last) → AppendsFront mid new (node_line_text last) → P ⊎ (new ≡ mid)
    → Breaks P play model before after old new
breaks_last P play model node before after old mid new used taken lines last e t a ports h some k (inl p) =
    let text = node_line_text last in
    record {
      used = used;
      taken = taken;
      front = lines_text lines ++ take k.count text;
      rest = drop k.count text;
      uses = subst UsesAll (sym e) tt;
      text = ap (λ p. lines_text (lines_by p)) e
          ∙ (text_both lines (last ∷ [])
          ∙ (ap (λ others. lines_text lines ++ others) (text_line last ∙ sym (take-append-drop k.count text))
          ∙ sym (append_assoc (lines_text lines) (take k.count text) (drop k.count text))));
      takes = ap (λ p. taken_by_then model p) e ∙ t;
      attached = ap (λ p. attached_by_then model p) e ∙ a;
      more = inl p;
      ports = ports;
      written = Appends-trans old mid new (lines_text lines) (take k.count text) h k.appends;
    }
breaks_last P play model node before after old mid new used taken lines last e t a ports h some k (inr same) =
    let text = node_line_text last in
    record {
      used = used;
      taken = taken;
      front = lines_text lines;
      rest = text;
      uses = subst UsesAll (sym e) tt;
      text = ap (λ p. lines_text (lines_by p)) e
          ∙ (text_both lines (last ∷ []) ∙ ap (λ others. lines_text lines ++ others) (text_line last));
      takes = ap (λ p. taken_by_then model p) e ∙ t;
      attached = ap (λ p. attached_by_then model p) e ∙ a;
      more = inr (more_lines (play used) text (subst UsesAll (sym e) tt) some);
      ports = ports;
      written = subst (λ (there : Option (List ℕ)). Appends old there (lines_text lines)) (sym same) h;
    }

-- the same part, said in another way, from a node by which links took the same
pub breaks_as : (P : Type 0) (play other : List Outcome → Played) (model node : Node) (before after : List PortState) (old new : Option (List ℕ))
    → ((outcomes : List Outcome) → other outcomes ≡ play outcomes) → node.taken ≡ model.taken
    → Breaks P play model before after old new → Breaks P other node before after old new
breaks_as P play other model node before after old new e t b =
    let same = e b.used in
    record {
      used = b.used;
      taken = b.taken;
      front = b.front;
      rest = b.rest;
      uses = subst UsesAll (sym same) b.uses;
      text = ap (λ p. lines_text (lines_by p)) same ∙ b.text;
      takes = ap (λ p. taken_by_then node p) same
          ∙ (taken_same node model (play b.used) b.uses ∙ (b.takes ∙ ap (λ sent. sent ++ b.taken) (sym t)));
      attached = ap (λ p. attached_by_then node p) same ∙ (attached_same node model (play b.used) b.uses ∙ b.attached);
      more = elim b.more [ inl p ↦ inl p | inr more ↦ inr (subst (λ (p : Played). HasMore p b.rest) (sym same) more) ];
      ports = b.ports;
      written = b.written;
    }

pub if_err_with : {T E P : Type 0} {Q R : E → Type 0} (r : Result T E) → ((e : E) → P → Q e → R e) → OnErr r P → IfErr r Q → IfErr r R
if_err_with (Ok x) f p q = tt
if_err_with (Err e) f p q = f e p q

pub on_ok_there : {T E P : Type 0} (r : Result T E) → is_err r ≡ false → OnOk r P → P
on_ok_there (Ok x) e p = p
on_ok_there (Err y) e p = let no : true ≡ false = e in absurd (cc)
