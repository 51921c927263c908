-- Parts that are played with ports and a sink, one after another.
use Rattle.std.proofs.Common.{◌≡◌, ℕ, List, [], ◌∷◌, ◌++◌, Option, refl, sym, ap, ◌∙◌, subst, append_assoc, append-nil}
use Rattle.std.proofs.KnownBytes.{Appends-nil, Appends-trans}
use Rattle.std.proofs.lemmas.Grind.{flat_map-append}
use Rattle.std.specs.Io.KnownBytes.{Appends}
use Rattle.frame_links.specs.LinkBoard.Ports.{PortState}
use Rattle.clnp_machine.specs.LiveModel.Lines.{NodeLine, lines_text, node_line_text}
use Rattle.clnp_machine.specs.LiveModel.Node.{Node, Outcome, Played, Goes, and_then, behind}
use Rattle.clnp_machine.proofs.LiveModel.Parts.{behind_both, behind_nothing}
use Rattle.clnp_program.specs.declared.live_node.node.LiveNode.{LiveNode}
use Rattle.clnp_program.specs.LiveNode.Plays.{Plays, PlaysTo, Stands}
use Rattle.clnp_program.proofs.LiveNode.Ports.{ports_both, ports_same}

-- ---- the text of lines

pub text_both : (a b : List NodeLine) → lines_text (a ++ b) ≡ lines_text a ++ lines_text b
text_both a b = flat_map-append node_line_text a b

pub text_line : (line : NodeLine) → lines_text (line ∷ []) ≡ node_line_text line
text_line line = append-nil (node_line_text line)

pub appends_both : (old mid new : Option (List ℕ)) (a b : List NodeLine) → Appends old mid (lines_text a) → Appends mid new (lines_text b)
    → Appends old new (lines_text (a ++ b))
appends_both old mid new a b h k =
    subst (λ (text : List ℕ). Appends old new text) (sym (text_both a b)) (Appends-trans old mid new (lines_text a) (lines_text b) h k)

pub appends_line : (old new : Option (List ℕ)) (line : NodeLine) → Appends old new (node_line_text line) → Appends old new (lines_text (line ∷ []))
appends_line old new line h = subst (λ (text : List ℕ). Appends old new text) (sym (text_line line)) h

-- ---- parts that are over

-- nothing is played
pub plays_nothing : (model : Node) (live : LiveNode) (board : List PortState) (old : Option (List ℕ)) → Stands live board model
    → Plays (λ outcomes. Goes model outcomes []) model live board board old old
plays_nothing model live board old h =
    record {
      used = [];
      node = model;
      lines = [];
      taken = [];
      goes = λ later. refl;
      stands = h;
      takes = sym (append-nil model.taken);
      ports = ports_same 0 board;
      written = Appends-nil old;
    }

-- a line is written alone
pub plays_line : (play : List Outcome → Played) (model : Node) (live : LiveNode) (board : List PortState) (old new : Option (List ℕ)) (line : NodeLine)
    → ((outcomes : List Outcome) → play outcomes ≡ Goes model outcomes (line ∷ [])) → Stands live board model → Appends old new (node_line_text line)
    → Plays play model live board board old new
plays_line play model live board old new line e h written =
    record {
      used = [];
      node = model;
      lines = line ∷ [];
      taken = [];
      goes = e;
      stands = h;
      takes = sym (append-nil model.taken);
      ports = ports_same 0 board;
      written = appends_line old new line written;
    }

-- the same part, said in another way, from a node by which links took the same
pub plays_as : (play other : List Outcome → Played) (model node : Node) (live : LiveNode) (before after : List PortState) (old new : Option (List ℕ))
    → ((outcomes : List Outcome) → other outcomes ≡ play outcomes) → node.taken ≡ model.taken
    → Plays play model live before after old new → Plays other node live before after old new
plays_as play other model node live before after old new e t h =
    record {
      used = h.used;
      node = h.node;
      lines = h.lines;
      taken = h.taken;
      goes = λ later. e (h.used ++ later) ∙ h.goes later;
      stands = h.stands;
      takes = h.takes ∙ ap (λ sent. sent ++ h.taken) (sym t);
      ports = h.ports;
      written = h.written;
    }

-- ---- parts behind which others come

-- before anything is played
pub plays_to_start : (rest : Node → List Outcome → Played) (model : Node) (live : LiveNode) (board : List PortState) (old : Option (List ℕ)) → Stands live board model
    → PlaysTo (rest model) rest model live board board old old
plays_to_start rest model live board old h =
    record {
      used = [];
      node = model;
      lines = [];
      taken = [];
      goes = λ later. sym (behind_nothing (rest model later));
      stands = h;
      takes = sym (append-nil model.taken);
      ports = ports_same 0 board;
      written = Appends-nil old;
    }

-- the next part is played
pub plays_to_next : (play : List Outcome → Played) (rest next : Node → List Outcome → Played) (part : Node → List Outcome → Played) (model : Node) (live other : LiveNode)
    → (before between after : List PortState) (old mid new : Option (List ℕ))
    → ((node : Node) (outcomes : List Outcome) → rest node outcomes ≡ and_then (part node outcomes) next)
    → PlaysTo play rest model live before between old mid
    → ((node : Node) → Stands live between node → Plays (part node) node other between after mid new)
    → PlaysTo play next model other before after old new
plays_to_next play rest next part model live other before between after old mid new e h k =
    let p = k h.node h.stands in
    record {
      used = h.used ++ p.used;
      node = p.node;
      lines = h.lines ++ p.lines;
      taken = h.taken ++ p.taken;
      goes = λ later.
          ap play (append_assoc h.used p.used later)
          ∙ (h.goes (p.used ++ later)
          ∙ (ap (behind h.lines) (e h.node (p.used ++ later) ∙ ap (λ played. and_then played next) (p.goes later))
          ∙ behind_both h.lines p.lines (next p.node later)));
      stands = p.stands;
      takes = p.takes ∙ (ap (λ sent. sent ++ p.taken) h.takes ∙ append_assoc model.taken h.taken p.taken);
      ports = ports_both 0 before between after h.used p.used h.taken p.taken h.ports p.ports;
      written = appends_both old mid new h.lines p.lines h.written p.written;
    }

-- and nothing is left
pub plays_to_end : (play : List Outcome → Played) (rest : Node → List Outcome → Played) (model : Node) (live : LiveNode) (before after : List PortState) (old new : Option (List ℕ))
    → ((node : Node) (outcomes : List Outcome) → rest node outcomes ≡ Goes node outcomes [])
    → PlaysTo play rest model live before after old new → Plays play model live before after old new
plays_to_end play rest model live before after old new e h =
    record {
      used = h.used;
      node = h.node;
      lines = h.lines;
      taken = h.taken;
      goes = λ later. h.goes later ∙ (ap (behind h.lines) (e h.node later) ∙ ap (λ lines. Goes h.node later lines) (append-nil h.lines));
      stands = h.stands;
      takes = h.takes;
      ports = h.ports;
      written = h.written;
    }

-- the rest is played in one
pub plays_to_last : (play : List Outcome → Played) (rest : Node → List Outcome → Played) (model : Node) (live other : LiveNode)
    → (before between after : List PortState) (old mid new : Option (List ℕ))
    → PlaysTo play rest model live before between old mid
    → ((node : Node) → Stands live between node → Plays (rest node) node other between after mid new)
    → Plays play model other before after old new
plays_to_last play rest model live other before between after old mid new h k =
    let p = k h.node h.stands in
    record {
      used = h.used ++ p.used;
      node = p.node;
      lines = h.lines ++ p.lines;
      taken = h.taken ++ p.taken;
      goes = λ later.
          ap play (append_assoc h.used p.used later)
          ∙ (h.goes (p.used ++ later)
          ∙ ap (behind h.lines) (p.goes later));
      stands = p.stands;
      takes = p.takes ∙ (ap (λ sent. sent ++ p.taken) h.takes ∙ append_assoc model.taken h.taken p.taken);
      ports = ports_both 0 before between after h.used p.used h.taken p.taken h.ports p.ports;
      written = appends_both old mid new h.lines p.lines h.written p.written;
    }

-- a first part is played
pub plays_to_then : (first : List Outcome → Played) (next : Node → List Outcome → Played) (model : Node) (live : LiveNode)
    → (before after : List PortState) (old new : Option (List ℕ)) → Plays first model live before after old new
    → PlaysTo (λ outcomes. and_then (first outcomes) next) next model live before after old new
plays_to_then first next model live before after old new h =
    record {
      used = h.used;
      node = h.node;
      lines = h.lines;
      taken = h.taken;
      goes = λ later. ap (λ played. and_then played next) (h.goes later);
      stands = h.stands;
      takes = h.takes;
      ports = h.ports;
      written = h.written;
    }

-- one part is played, and then the next
pub plays_then : (first : List Outcome → Played) (next : Node → List Outcome → Played) (model : Node) (live other : LiveNode)
    → (before between after : List PortState) (old mid new : Option (List ℕ))
    → Plays first model live before between old mid
    → ((node : Node) → Stands live between node → Plays (next node) node other between after mid new)
    → Plays (λ outcomes. and_then (first outcomes) next) model other before after old new
plays_then first next model live other before between after old mid new h k =
    plays_to_last (λ outcomes. and_then (first outcomes) next) next model live other before between after old mid new
    (plays_to_then first next model live before between old mid h) k
