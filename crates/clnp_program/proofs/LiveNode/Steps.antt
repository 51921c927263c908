-- What one call on a port's link comes to, one output, and one thing that comes to the system.
use Rattle.std.proofs.Common.{◌≡◌, ◌≢◌, inl, inr, ℕ, zero, suc, ◌+◌, ◌<◌, ◌≤◌, Bool, true, false, List, [], ◌∷◌, ◌++◌, length, drop, get_or, add-one, Option, Some, None, refl, sym, ap, ◌∙◌, subst, append-nil, arith}
use Rattle.std.proofs.KnownBytes.{Appends-nil}
use Rattle.std.proofs.lemmas.List.{length-map}
use Rattle.std.proofs.lemmas.Option.{slice_get_past}
use Rattle.std.specs.Prelude.{◌==◌, ◌-◌, ◌⊎◌, slice_get, slice_set, if◌then◌else◌}
use Rattle.std.specs.Io.KnownBytes.{Appends}
use Rattle.std.specs.List.{list_any, range_with_len}
use Rattle.clnp_machine.proofs.ClnpBase.ListSteps.{map_set}
use Rattle.clnp_machine.specs.ClnpPlan.Journal.{Noted, Transmitted}
use Rattle.clnp_machine.specs.ClnpPlan.Configuration.{SystemConfiguration}
use Rattle.clnp_machine.specs.ClnpPlan.declared.config.Role.{Role}
use Rattle.clnp_machine.specs.ClnpPlan.declared.note.Note.{Note as Told}
use Rattle.clnp_machine.specs.ClnpPlan.declared.output.Output.{Output}
use Rattle.clnp_machine.specs.ClnpPlan.declared.output.Output.TheVariants.{Transmit, Note}
use Rattle.clnp_machine.specs.ClnpPlan.declared.output.Sending as plan_sending
use Rattle.clnp_machine.specs.Content.{Content}
use Rattle.clnp_machine.specs.Step.{step}
use Rattle.clnp_machine.specs.EsisPdus.Spelling.{spelling}
use Rattle.clnp_machine.specs.Pdus.declared.nsap.target.Target.{Target}
use Rattle.clnp_machine.specs.Unit.{wire}
use Rattle.clnp_machine.specs.System as machine
use Rattle.clnp_machine.specs.System.{number_behind}
use Rattle.clnp_systems.specs.Stands as clnp_systems
use Rattle.clnp_systems.specs.Steps.{TakesStep, input_with, moment_at}
use Rattle.clnp_systems.specs.declared.input.Input.{Input}
use Rattle.clnp_systems.specs.declared.system.System.{System}
use Rattle.frame_links.specs.ClnpBase.Streams.{AppendsFront}
use Rattle.frame_links.specs.LinkBoard.Links.{CameFrame, FailedOnce, LinkState, Looked, SentFrame, SentOne}
use Rattle.frame_links.specs.LinkBoard.Ports.{ChangesPort, Detaches, LooksAt, PortState, SendsOn, is_attached, is_attached_at}
use Rattle.clnp_machine.specs.LiveModel.Lines.{LinkGone, NodeLine, Says, lines_text, node_line_text}
use Rattle.clnp_machine.specs.LiveModel.Node.{Node, Outcome, Saw, LookFailed, Took, SendFailed, Played, Goes, Ends, Strays, Sending, counted, detached, gives, has_link, is_on, looks_at, looks_by, loss, polls, ports_of, puts_out, sees, transmission, transmits}
use Rattle.clnp_machine.specs.LiveModel.Parts.{UsesAll}
use Rattle.clnp_program.specs.declared.live_node.node.LiveNode.{LiveNode}
use Rattle.clnp_program.specs.LiveNode.Links.{LinkGoes, LinkWent, PortWent, PortsWent, looks_in}
use Rattle.clnp_program.specs.LiveNode.Outputs.{GoesOut, PutAllOut, PutsOut}
use Rattle.clnp_program.specs.LiveNode.Plays.{Breaks, HasMore, Plays, Stands, attached_by_then, attached_of, lines_by, taken_by_then}
use Rattle.clnp_program.specs.LiveNode.Ran.{has_any_attached}
use Rattle.clnp_program.proofs.LiveNode.Attached.{any_there}
use Rattle.clnp_program.proofs.LiveNode.Breaking.{breaks_last, breaks_line, idle_output, idle_transmits, loss_some, noted_some, transmitted_some}
use Rattle.clnp_program.proofs.LiveNode.Given.{gave_out}
use Rattle.clnp_program.proofs.LiveNode.Playing.{appends_both, appends_line, plays_line}
use Rattle.clnp_program.proofs.LiveNode.Ports.{OnlyAt, port_changed, ports_both, ports_same}

-- ---- numbers and places

-- a number is itself
same : (n : ℕ) → (n == n) ≡ true
same n = grind (arith)

-- and no other
differs : (n m : ℕ) → m ≢ n → (n == m) ≡ false
differs n m h = grind (arith, h)

-- behind the last port there is no link
pub past_end : (board : List PortState) (port : ℕ) → length board ≤ port → is_attached_at port board ≡ false
past_end board port h = ap is_attached (slice_get_past board port h)

pub range_here : (n p : ℕ) → p < n → range_with_len p (n - p) ≡ p ∷ range_with_len (p + 1) (n - (p + 1))
range_here n p h =
    let e : n - p ≡ suc (n - (p + 1)) = omega (arith, h) in
    rw e refl

pub range_end : (n p : ℕ) → n ≤ p → range_with_len p (n - p) ≡ []
range_end n p h =
    let e : n - p ≡ 0 = omega (arith, h) in
    rw e refl

-- ---- outputs, gone over by an index

-- the output at a place is one of the model's
pub record GoesNext (i : ℕ) (output : Output) (others : List machine.Output) : Type 0 where
  pub other : machine.Output
  pub whole : drop i others ≡ other ∷ drop (i + 1) others
  pub puts : PutsOut output other

pub goes_next : (outputs : List Output) (others : List machine.Output) (i : ℕ) (output : Output) → PutAllOut outputs others
    → output ≡ get_or outputs i output → i < length outputs → GoesNext i output others
goes_next [] others i output h e l = absurd (omega (arith, l))
goes_next (x ∷ outputs) [] i output h e l = absurd h
goes_next (x ∷ outputs) (y ∷ others) zero output h e l =
    record { other = y; whole = refl; puts = subst (λ (o : Output). PutsOut o y) (sym e) h.0 }
goes_next (x ∷ outputs) (y ∷ others) (suc i) output h e l =
    let next = goes_next outputs others i output h.1 e (omega (arith, l)) in
    record { other = next.other; whole = rw add-one (rw add-one at next.whole); puts = next.puts }

-- behind the last output there is none
pub goes_no_more : (outputs : List Output) (others : List machine.Output) (i : ℕ) → PutAllOut outputs others → length outputs ≤ i → drop i others ≡ []
goes_no_more [] [] zero h l = refl
goes_no_more [] [] (suc i) h l = refl
goes_no_more [] (y ∷ others) i h l = absurd h
goes_no_more (x ∷ outputs) [] i h l = absurd h
goes_no_more (x ∷ outputs) (y ∷ others) zero h l = absurd (omega (arith, l))
goes_no_more (x ∷ outputs) (y ∷ others) (suc i) h l = goes_no_more outputs others i h.1 (omega (arith, l))

-- ---- which ports have their links

on_at : (board : List PortState) (port : ℕ) → is_on (slice_get (attached_of board) port) ≡ is_attached_at port board
on_at [] port = refl
on_at (p ∷ board) zero = refl
on_at (p ∷ board) (suc port) = on_at board port

link_of : (live : LiveNode) (board : List PortState) (model : Node) (port : ℕ) → Stands live board model → has_link model port ≡ is_attached_at port board
link_of live board model port h = ap (λ bs. is_on (slice_get bs port)) h.attached ∙ on_at board port

attached_there : (board : List PortState) (port : ℕ) (old : PortState) → slice_get board port ≡ Some old → is_attached_at port board ≡ true → old.attached ≡ true
attached_there board port old there on = sym (ap is_attached there) ∙ on

-- a port changes, and keeps its link
still_attached : (board : List PortState) (port : ℕ) (old new : PortState) → slice_get board port ≡ Some old → old.attached ≡ true → new.attached ≡ true
    → attached_of (slice_set board port new) ≡ attached_of board
still_attached board port old new there on still = map_set (λ (p : PortState). p.attached) board port old new there (still ∙ sym on)

-- or it loses that
now_detached : (board : List PortState) (port : ℕ) (new : PortState) → new.attached ≡ false
    → attached_of (slice_set board port new) ≡ slice_set (attached_of board) port false
now_detached [] port new off = refl
now_detached (p ∷ board) zero new off = ap (λ b. b ∷ attached_of board) off
now_detached (p ∷ board) (suc port) new off = ap (λ bs. p.attached ∷ bs) (now_detached board port new off)

-- all ports, from the first one on
pub all_ports : (live : LiveNode) (board : List PortState) (model : Node) (ports : ℕ) → Stands live board model → ports ≡ length board
    → ports_of model.attached ≡ range_with_len 0 (ports - 0)
all_ports live board model ports h e =
    let none : ports ≡ ports - 0 = omega arith in
    ap (λ n. range_with_len 0 n) (ap length h.attached ∙ (length-map board (λ (p : PortState). p.attached) ∙ (sym e ∙ none)))

-- ---- links and ports after one call

sent_went : (before after : LinkState) (frame : SentFrame) → SentOne before after frame → LinkWent before after [] (frame ∷ [])
sent_went before after frame h =
    record { looks_are = h.looks; sent_are = h.sent; faults = h.faults; empties = h.empties; empty = λ e. absurd (cc) }

failed_went : (before after : LinkState) → FailedOnce before after → LinkWent before after [] []
failed_went before after h =
    record { looks_are = h.looks; sent_are = h.sent; faults = h.faults; empties = h.empties; empty = λ e. absurd (cc) }

looked_went : (before after : LinkState) (look : Option CameFrame) → Looked before after look → LinkWent before after (look ∷ []) []
looked_went before after None h =
    record { looks_are = h.looks; sent_are = h.sent; faults = h.faults; empties = h.empties; empty = λ e. h.empty refl }
looked_went before after (Some frame) h =
    record { looks_are = h.looks; sent_are = h.sent; faults = h.faults; empties = h.empties; empty = λ e. absurd (cc) }

went_by : (old new : PortState) (a b : LinkState) (looks : List (Option CameFrame)) (sent : List SentFrame)
    → old.link ≡ Some a → new.link ≡ Some b → LinkWent a b looks sent → LinkGoes old.link new.link looks sent
went_by old new a b looks sent was is h = rw (was, is) h

port_sent : (old new : PortState) (frame : SentFrame) → old.attached ≡ true → SendsOn old new frame → PortWent old new [] (frame ∷ [])
port_sent old new frame on h =
    record {
      link = went_by old new h.old h.new [] (frame ∷ []) h.was h.is (sent_went h.old h.new frame h.sent);
      broke = λ was off. absurd (cc);
      stays = λ off. absurd (cc);
    }

port_looked : (old new : PortState) (look : Option CameFrame) → old.attached ≡ true → LooksAt old new look → PortWent old new (look ∷ []) []
port_looked old new look on h =
    record {
      link = went_by old new h.old h.new (look ∷ []) [] h.was h.is (looked_went h.old h.new look h.looked);
      broke = λ was off. absurd (cc);
      stays = λ off. absurd (cc);
    }

port_broke : (old new : PortState) → old.attached ≡ true → Detaches old new → PortWent old new [] []
port_broke old new on h =
    record {
      link = went_by old new h.old h.new [] [] h.was h.is (failed_went h.old h.new h.failed);
      broke = λ was off. rw (h.was, h.is) h.failed.failed;
      stays = λ off. absurd (cc);
    }

only_took : (sending : Sending) → OnlyAt sending.port (Took sending.port ∷ []) (sending ∷ [])
only_took sending other h = (refl, rw (differs sending.port other h) refl)

only_saw : (port : ℕ) (look : Option CameFrame) → OnlyAt port (Saw port look ∷ []) []
only_saw port look other h = (rw (differs port other h) refl, refl)

only_failed : (port : ℕ) (outcome : Outcome) → ((other : ℕ) → looks_in other (outcome ∷ []) ≡ []) → OnlyAt port (outcome ∷ []) []
only_failed port outcome none other h = (none other, refl)

-- the port of a call changed, whose link was attached
module _ (board after : List PortState) (port : ℕ) (on : is_attached_at port board ≡ true) where
  ports_sent : (sending : Sending) → sending.port ≡ port → ChangesPort port board after (λ (a b : PortState). SendsOn a b sending.frame)
      → PortsWent 0 board after (Took port ∷ []) (sending ∷ [])
  ports_sent sending at change =
      rw change.others (port_changed 0 port port board change.old change.new (Took port ∷ []) (sending ∷ []) (omega arith)
      (subst (λ (p : ℕ). OnlyAt p (Took p ∷ []) (sending ∷ [])) at (only_took sending)) change.was
      (rw (at, same port) (port_sent change.old change.new sending.frame (attached_there board port change.old change.was on) change.changed)))

  ports_looked : (look : Option CameFrame) → ChangesPort port board after (λ (a b : PortState). LooksAt a b look)
      → PortsWent 0 board after (Saw port look ∷ []) []
  ports_looked look change =
      rw change.others (port_changed 0 port port board change.old change.new (Saw port look ∷ []) [] (omega arith) (only_saw port look) change.was
      (rw (same port) (port_looked change.old change.new look (attached_there board port change.old change.was on) change.changed)))

  ports_broke : (outcome : Outcome) → ((other : ℕ) → looks_in other (outcome ∷ []) ≡ []) → ChangesPort port board after Detaches
      → PortsWent 0 board after (outcome ∷ []) []
  ports_broke outcome none change =
      rw change.others (port_changed 0 port port board change.old change.new (outcome ∷ []) [] (omega arith) (only_failed port outcome none) change.was
      (rw (none port) (port_broke change.old change.new (attached_there board port change.old change.was on) change.changed)))

-- ---- the lines of the code are those of the model

pub name_of : (live : LiveNode) (board : List PortState) (model : Node) (name : List ℕ) → Stands live board model
    → name ≡ (clnp_systems.configuration_of live.system).name → name ≡ model.system.configuration.name
name_of live board model name h e = e ∙ ap (λ (s : SystemConfiguration). s.name) h.system.parts.local.configuration

loss_is : (live : LiveNode) (board : List PortState) (model : Node) (name : List ℕ) (port : ℕ) → Stands live board model
    → name ≡ (clnp_systems.configuration_of live.system).name → LinkGone live.now name port ≡ loss model port
loss_is live board model name port h e = rw (h.now, name_of live board model name h e) refl

-- ---- a frame goes out

-- the line of a frame that the code transmits as the copy with a number
abbrev pub sent_line : LiveNode → (name : List ℕ) → (copies : ℕ) → Sending → NodeLine
sent_line live name copies sending = Says (Transmitted live.now name copies sending.port sending.frame.target sending.frame.octets)

-- the code's node, which counts so many copies
abbrev pub with_copies : LiveNode → (copies : ℕ) → LiveNode
with_copies live copies = record live { copies = copies }

one_line : (b : Bool) (node : Node) (line : NodeLine) → lines_by (if b then Ends node (line ∷ []) else Goes node [] (line ∷ [])) ≡ line ∷ []
one_line true node line = refl
one_line false node line = refl

module _ (live : LiveNode) (board after : List PortState) (model : Node) (stands : Stands live board model) (sending : Sending) (name own : List ℕ) (copies : ℕ)
    (named : name ≡ (clnp_systems.configuration_of live.system).name) (owned : own ≡ (clnp_systems.configuration_of live.system).name)
    (number : copies ≡ number_behind live.copies) (old mid new : Option (List ℕ)) where
  count_is : copies ≡ number_behind model.copies
  count_is = number ∙ ap number_behind stands.copies

  line_is : sent_line live name copies sending ≡ transmission model sending
  line_is = rw (stands.now, name_of live board model name stands named, count_is) refl

  line_written : (last : Option (List ℕ)) → Appends old last (node_line_text (sent_line live name copies sending)) → Appends old last (node_line_text (transmission model sending))
  line_written last h = subst (λ (line : NodeLine). Appends old last (node_line_text line)) line_is h

  counted_stands : Stands (with_copies live copies) board (counted model)
  counted_stands =
      record { system = stands.system; now = stands.now; copies = count_is; polled = stands.polled; attached = stands.attached }

  -- the port has no link
  pub transmits_alone : is_attached_at sending.port board ≡ false → Appends old new (node_line_text (sent_line live name copies sending))
      → Plays (transmits model sending) model (with_copies live copies) board board old new
  transmits_alone off written =
      record {
        used = [];
        node = counted model;
        lines = transmission model sending ∷ [];
        taken = [];
        goes = λ later. rw (link_of live board model sending.port stands, off) refl;
        stands = counted_stands;
        takes = sym (append-nil model.taken);
        ports = ports_same 0 board;
        written = appends_line old new (transmission model sending) (line_written new written);
      }

  -- it is taken by the port's link
  pub transmits_taken : is_attached_at sending.port board ≡ true → ChangesPort sending.port board after (λ (a b : PortState). SendsOn a b sending.frame)
      → Appends old new (node_line_text (sent_line live name copies sending))
      → Plays (transmits model sending) model (with_copies live copies) board after old new
  transmits_taken on change written =
      record {
        used = Took sending.port ∷ [];
        node = gives (counted model) sending;
        lines = transmission model sending ∷ [];
        taken = sending ∷ [];
        goes = λ later. rw (link_of live board model sending.port stands, on, same sending.port) refl;
        stands = record {
          system = stands.system;
          now = stands.now;
          copies = count_is;
          polled = stands.polled;
          attached = stands.attached ∙ sym (ap attached_of change.others
              ∙ still_attached board sending.port change.old change.new change.was (attached_there board sending.port change.old change.was on) change.changed.attached);
        };
        takes = refl;
        ports = ports_sent board after sending.port on sending refl change;
        written = appends_line old new (transmission model sending) (line_written new written);
      }

  -- or the link fails
  failed_play : is_attached_at sending.port board ≡ true → (later : List Outcome)
      → transmits model sending (SendFailed sending.port ∷ later)
      ≡ Goes (detached (counted model) sending.port) later ((transmission model sending ∷ []) ++ loss model sending.port ∷ [])
  failed_play on later = rw (link_of live board model sending.port stands, on, same sending.port) refl

  attached_behind_loss : is_attached_at sending.port board ≡ true → ChangesPort sending.port board after Detaches
      → (detached (counted model) sending.port).attached ≡ attached_of after
  attached_behind_loss on change =
      ap (λ bs. slice_set bs sending.port false) stands.attached
      ∙ sym (ap attached_of change.others ∙ now_detached board sending.port change.new change.changed.attached)

  pub transmits_broken : is_attached_at sending.port board ≡ true → ChangesPort sending.port board after Detaches
      → Appends old mid (node_line_text (sent_line live name copies sending)) → Appends mid new (node_line_text (LinkGone live.now own sending.port))
      → Plays (transmits model sending) model (with_copies live copies) board after old new
  transmits_broken on change first second =
      record {
        used = SendFailed sending.port ∷ [];
        node = detached (counted model) sending.port;
        lines = (transmission model sending ∷ []) ++ loss model sending.port ∷ [];
        taken = [];
        goes = failed_play on;
        stands = record {
          system = stands.system;
          now = stands.now;
          copies = count_is;
          polled = stands.polled;
          attached = attached_behind_loss on change;
        };
        takes = sym (append-nil model.taken);
        ports = ports_broke board after sending.port on (SendFailed sending.port) (λ other. refl) change;
        written = appends_both old mid new (transmission model sending ∷ []) (loss model sending.port ∷ [])
            (appends_line old mid (transmission model sending) (line_written mid first))
            (appends_line mid new (loss model sending.port)
            (subst (λ (line : NodeLine). Appends mid new (node_line_text line)) (loss_is live board model own sending.port stands owned) second));
      }

  -- its line is broken off
  pub transmits_cut : (P : Type 0) → AppendsFront old new (node_line_text (sent_line live name copies sending)) → P ⊎ (new ≡ old) → Breaks P (transmits model sending) model board board old new
  transmits_cut P written left =
      breaks_line P (transmits model sending) model board old new (transmission model sending) (idle_transmits sending model)
      (one_line (has_link model sending.port) (counted model) (transmission model sending)) stands.attached
      (transmitted_some model.system.moment model.system.configuration.name (number_behind model.copies) sending.port sending.frame.target sending.frame.octets)
      (subst (λ (line : NodeLine). AppendsFront old new (node_line_text line)) line_is written) left

  -- or that of the link's loss
  pub transmits_lost : (P : Type 0) → is_attached_at sending.port board ≡ true → ChangesPort sending.port board after Detaches
      → Appends old mid (node_line_text (sent_line live name copies sending)) → AppendsFront mid new (node_line_text (LinkGone live.now own sending.port))
      → P ⊎ (new ≡ mid) → Breaks P (transmits model sending) model board after old new
  transmits_lost P on change first second left =
      breaks_last P (transmits model sending) model (detached (counted model) sending.port) board after old mid new (SendFailed sending.port ∷ []) []
      (transmission model sending ∷ []) (loss model sending.port) (failed_play on []) (sym (append-nil model.taken))
      (attached_behind_loss on change)
      (ports_broke board after sending.port on (SendFailed sending.port) (λ other. refl) change)
      (appends_line old mid (transmission model sending) (line_written mid first))
      (loss_some model.system.moment model.system.configuration.name sending.port)
      (subst (λ (line : NodeLine). AppendsFront mid new (node_line_text line)) (loss_is live board model own sending.port stands owned) second) left

-- ---- an output goes out

-- the frame that goes out for an output of the code
abbrev pub sending_of : plan_sending.Sending → Sending
sending_of sending = record { port = sending.port; frame = record { target = sending.to; octets = sending.frame } }

-- a frame that goes out is that of the model
same_sending : (sending : plan_sending.Sending) (port : ℕ) (target : Target) (octets : List ℕ) → GoesOut sending port target octets
    → sending_of sending ≡ record { port = port; frame = record { target = target; octets = octets } }
same_sending sending port target octets h = rw (h.port_is, h.target_is, h.octets_are) refl

-- what holds of a frame that goes out holds of its output
pub puts_frame : (P : (List Outcome → Played) → Type 0) (sending : plan_sending.Sending) (other : machine.Output) (model : Node) → PutsOut (Transmit sending) other
    → P (transmits model (sending_of sending)) → P (puts_out model other)
puts_frame P sending (machine.Notes told) model h p = absurd h
puts_frame P sending (machine.Transmits port target packet) model h p =
    subst (λ (s : Sending). P (transmits model s)) (same_sending sending port target (wire packet) h) p
puts_frame P sending (machine.SendsEsis port target value) model h p =
    subst (λ (s : Sending). P (transmits model s)) (same_sending sending port target (spelling value) h) p

module _ (live : LiveNode) (board : List PortState) (model : Node) (stands : Stands live board model) (name : List ℕ)
    (named : name ≡ (clnp_systems.configuration_of live.system).name) (old new : Option (List ℕ)) where
  note_is : (note : Told) → Says (Noted live.now name note) ≡ Says (Noted model.system.moment model.system.configuration.name note)
  note_is note = rw (stands.now, name_of live board model name stands named) refl

  -- a note is written
  pub puts_note : (note : Told) (other : machine.Output) → PutsOut (Note note) other → Appends old new (node_line_text (Says (Noted live.now name note)))
      → Plays (puts_out model other) model live board board old new
  puts_note note (machine.Transmits port target packet) h written = absurd h
  puts_note note (machine.SendsEsis port target value) h written = absurd h
  puts_note note (machine.Notes told) h written =
      plays_line (puts_out model (machine.Notes told)) model live board old new (Says (Noted model.system.moment model.system.configuration.name told))
      (λ outcomes. refl) stands
      (subst (λ (line : NodeLine). Appends old new (node_line_text line)) (ap (λ n. Says (Noted live.now name n)) h ∙ note_is told) written)

  -- or it is broken off
  pub note_cut : (P : Type 0) (note : Told) (other : machine.Output) → PutsOut (Note note) other → AppendsFront old new (node_line_text (Says (Noted live.now name note)))
      → P ⊎ (new ≡ old) → Breaks P (puts_out model other) model board board old new
  note_cut P note (machine.Transmits port target packet) h written left = absurd h
  note_cut P note (machine.SendsEsis port target value) h written left = absurd h
  note_cut P note (machine.Notes told) h written left =
      breaks_line P (puts_out model (machine.Notes told)) model board old new (Says (Noted model.system.moment model.system.configuration.name told))
      (idle_output (machine.Notes told) model) refl stands.attached
      (noted_some model.system.moment model.system.configuration.name told)
      (subst (λ (line : NodeLine). AppendsFront old new (node_line_text line)) (ap (λ n. Says (Noted live.now name n)) h ∙ note_is told) written) left

-- ---- a look

-- a port that was looked at still has its link
pub looked_linked : (board after : List PortState) (port : ℕ) (look : Option CameFrame) → is_attached_at port board ≡ true
    → ChangesPort port board after (λ (a b : PortState). LooksAt a b look) → has_any_attached after ≡ true
looked_linked board after port look on change =
    ap (λ (attached : List Bool). list_any (λ (on : Bool). on) attached) (ap attached_of change.others
    ∙ still_attached board port change.old change.new change.was (attached_there board port change.old change.was on) change.changed.attached)
    ∙ any_there port board on

-- a look at a port by an outcome of its own
look_taken : (model : Node) (port : ℕ) → has_link model port ≡ true → (look : Option CameFrame) (later : List Outcome)
    → looks_at model port (Saw port look ∷ later) ≡ sees model port look later
look_taken model port on look later =
    ap (λ (b : Bool). if b then looks_by model port (Saw port look ∷ later) else Goes model (Saw port look ∷ later) []) on
    ∙ ap (λ (b : Bool). if b then sees model port look later else Strays) (same port)

module _ (live : LiveNode) (board : List PortState) (model : Node) (port : ℕ) (stands : Stands live board model) where
  -- a port without its link isn't looked at
  pub looks_nowhere : (old : Option (List ℕ)) → is_attached_at port board ≡ false → Plays (looks_at model port) model live board board old old
  looks_nowhere old off =
      record {
        used = [];
        node = model;
        lines = [];
        taken = [];
        goes = λ later. rw (link_of live board model port stands, off) refl;
        stands = stands;
        takes = sym (append-nil model.taken);
        ports = ports_same 0 board;
        written = Appends-nil old;
      }

  module _ (after : List PortState) (on : is_attached_at port board ≡ true) where
    stands_on : (look : Option CameFrame) → ChangesPort port board after (λ (a b : PortState). LooksAt a b look) → Stands live after model
    stands_on look change =
        record {
          system = stands.system;
          now = stands.now;
          copies = stands.copies;
          polled = stands.polled;
          attached = stands.attached ∙ sym (ap attached_of change.others
              ∙ still_attached board port change.old change.new change.was (attached_there board port change.old change.was on) change.changed.attached);
        }

    -- nothing came
    pub looks_empty : (old : Option (List ℕ)) → ChangesPort port board after (λ (a b : PortState). LooksAt a b None) → Plays (looks_at model port) model live board after old old
    looks_empty old change =
        record {
          used = Saw port None ∷ [];
          node = model;
          lines = [];
          taken = [];
          goes = look_taken model port (link_of live board model port stands ∙ on) None;
          stands = stands_on None change;
          takes = sym (append-nil model.taken);
          ports = ports_looked board after port on None change;
          written = Appends-nil old;
        }

    -- the look failed
    failed_look : (later : List Outcome) → looks_at model port (LookFailed port ∷ later) ≡ Goes (detached model port) later ([] ++ loss model port ∷ [])
    failed_look later = rw (link_of live board model port stands, on, same port) refl

    attached_behind_failure : ChangesPort port board after Detaches → (detached model port).attached ≡ attached_of after
    attached_behind_failure change =
        ap (λ bs. slice_set bs port false) stands.attached
        ∙ sym (ap attached_of change.others ∙ now_detached board port change.new change.changed.attached)

    pub looks_broken : (old new : Option (List ℕ)) (name : List ℕ) → name ≡ (clnp_systems.configuration_of live.system).name
        → ChangesPort port board after Detaches → Appends old new (node_line_text (LinkGone live.now name port)) → Plays (looks_at model port) model live board after old new
    looks_broken old new name named change written =
        record {
          used = LookFailed port ∷ [];
          node = detached model port;
          lines = loss model port ∷ [];
          taken = [];
          goes = failed_look;
          stands = record {
            system = stands.system;
            now = stands.now;
            copies = stands.copies;
            polled = stands.polled;
            attached = attached_behind_failure change;
          };
          takes = sym (append-nil model.taken);
          ports = ports_broke board after port on (LookFailed port) (λ other. refl) change;
          written = appends_line old new (loss model port)
              (subst (λ (line : NodeLine). Appends old new (node_line_text line)) (loss_is live board model name port stands named) written);
        }

    -- and its line is broken off
    pub looks_lost : (P : Type 0) (old new : Option (List ℕ)) (name : List ℕ) → name ≡ (clnp_systems.configuration_of live.system).name
        → ChangesPort port board after Detaches → AppendsFront old new (node_line_text (LinkGone live.now name port)) → P ⊎ (new ≡ old) → Breaks P (looks_at model port) model board after old new
    looks_lost P old new name named change written left =
        breaks_last P (looks_at model port) model (detached model port) board after old old new (LookFailed port ∷ []) [] [] (loss model port)
        (failed_look []) (sym (append-nil model.taken)) (attached_behind_failure change) (ports_broke board after port on (LookFailed port) (λ other. refl) change) (Appends-nil old)
        (loss_some model.system.moment model.system.configuration.name port)
        (subst (λ (line : NodeLine). AppendsFront old new (node_line_text line)) (loss_is live board model name port stands named) written) left

    -- what is seen is handed on
    pub looks_seen : (other : LiveNode) (last : List PortState) (old new : Option (List ℕ)) (frame : CameFrame)
        → ChangesPort port board after (λ (a b : PortState). LooksAt a b (Some frame))
        → (Stands live after model → Plays (sees model port (Some frame)) model other after last old new)
        → Plays (looks_at model port) model other board last old new
    looks_seen other last old new frame change k =
        let p = k (stands_on (Some frame) change) in
        record {
          used = Saw port (Some frame) ∷ p.used;
          node = p.node;
          lines = p.lines;
          taken = p.taken;
          goes = λ later. look_taken model port (link_of live board model port stands ∙ on) (Some frame) (p.used ++ later) ∙ p.goes later;
          stands = p.stands;
          takes = p.takes;
          ports = ports_both 0 board after last (Saw port (Some frame) ∷ []) p.used [] p.taken (ports_looked board after port on (Some frame) change) p.ports;
          written = p.written;
        }

    pub looks_seen_breaks : (P : Type 0) (last : List PortState) (old new : Option (List ℕ)) (frame : CameFrame)
        → ChangesPort port board after (λ (a b : PortState). LooksAt a b (Some frame))
        → (Stands live after model → Breaks P (sees model port (Some frame)) model after last old new)
        → Breaks P (looks_at model port) model board last old new
    looks_seen_breaks P last old new frame change k =
        let b = k (stands_on (Some frame) change) in
        let same_play : sees model port (Some frame) b.used ≡ looks_at model port (Saw port (Some frame) ∷ b.used) =
        sym (look_taken model port (link_of live board model port stands ∙ on) (Some frame) b.used) in
        record {
          used = Saw port (Some frame) ∷ b.used;
          taken = b.taken;
          front = b.front;
          rest = b.rest;
          uses = subst UsesAll same_play b.uses;
          text = sym (ap (λ p. lines_text (lines_by p)) same_play) ∙ b.text;
          takes = sym (ap (λ p. taken_by_then model p) same_play) ∙ b.takes;
          attached = sym (ap (λ p. attached_by_then model p) same_play) ∙ b.attached;
          more = elim b.more [ inl p ↦ inl p | inr more ↦ inr (subst (λ (p : Played). HasMore p b.rest) same_play more) ];
          ports = ports_both 0 board after last (Saw port (Some frame) ∷ []) b.used [] b.taken (ports_looked board after port on (Some frame) change) b.ports;
          written = b.written;
        }

-- ---- what comes to the system

-- one frame more was seen
pub polls_stands : (live : LiveNode) (board : List PortState) (model : Node) (polled : ℕ) → Stands live board model → polled ≡ number_behind live.polled
    → Stands (record live { polled = polled }) board (polls model)
polls_stands live board model polled h e =
    record {
      system = h.system;
      now = h.now;
      copies = h.copies;
      polled = e ∙ ap number_behind h.polled;
      attached = h.attached;
    }

-- the system took a step
pub step_stands : (live : LiveNode) (system : System) (now : ℕ) (board : List PortState) (model : Node) (role : Role) (input : machine.Input) (before after : List Output)
    → Stands live board model → TakesStep role input (clnp_systems.entity_of live.system) (clnp_systems.entity_of system) before after
    → now ≡ moment_at input live.now
    → Stands (record live { system = system; now = now }) board (record model { system = (step model.system input).after })
step_stands live system now board model role input before after h took e =
    let stood = took.stands model.system h.system in
    record {
      system = stood;
      now = e ∙ (ap (λ t. moment_at input t) (h.now ∙ sym h.system.parts.moment) ∙ (sym took.moment ∙ stood.parts.moment));
      copies = h.copies;
      polled = h.polled;
      attached = h.attached;
    }

-- and gave out what goes out
pub step_gave : (live : LiveNode) (system : System) (model : Node) (role : Role) (content : Content) (input : Input) (before after : List Output)
    → clnp_systems.Stands live.system model.system → before ≡ []
    → TakesStep role (input_with content input) (clnp_systems.entity_of live.system) (clnp_systems.entity_of system) before after
    → PutAllOut after (step model.system (input_with content input)).outputs
step_gave live system model role content input before after h none took =
    gave_out input role content (moment_at (input_with content input) model.system.moment) before after (step model.system (input_with content input)).outputs none
    (took.outputs model.system h)
