-- The machine's steps of which a turn is made, and its looks.
use Rattle.std.proofs.Common.{◌≡◌, ◌∙◌, sym, ap, subst, refl, append_assoc, append-nil, ℕ, Bool, true, false, List, [], ◌∷◌, ◌++◌, Option, Some, None}
use Rattle.std.specs.Prelude.{◌==◌, slice_set}
use Rattle.std.specs.List.{AllByRecursion}
use Rattle.std.proofs.lemmas.Grind.{flat_map-append}
use Rattle.clnp_plan.proofs.ClnpBase.Choices.{is_equal}
use Rattle.clnp_plan.proofs.ClnpBase.Lists.{AllByRecursion-append}
use Rattle.clnp_machine.proofs.Deeds.{step_itself, step_moment}
use Rattle.pdus.specs.EsisPdus.Spelling.{spelling}
use Rattle.clnp_machine.specs.Step.{step}
use Rattle.clnp_machine.specs.System.{SystemState, Input, Output, Transmits, SendsEsis, Notes, Effect, number_behind}
use Rattle.clnp_machine.specs.Unit.{wire}
use Rattle.frame_links.specs.LinkBoard.Links.{CameFrame}
use Rattle.clnp_machine.specs.LiveModel.Lines.{NodeLine}
use Rattle.clnp_machine.specs.LiveModel.Node.{Node, Outcome, Saw, LookFailed, Took, SendFailed, Sending, Played, Goes, Ends, Strays, come_all, comes, counted, detached, frame_at, gives, goes_out, has_link, looks_at, looks_at_each, looks_by, loss, polls, ports_of, puts_all_out, puts_out, sees, transmission, transmits}
use Rattle.clnp_machine.specs.LiveModel.Turn.{takes_turn}
use Rattle.clnp_machine.specs.LiveModel.Ports.{IsSent, LooksFirst, LooksInOrder, LooksOnce, WhereOn, detached_by, is_sent, port_of}
use Rattle.clnp_machine.specs.LiveModel.Steps.{TakesSteps, copies_of_steps, copies_out, frames_in, frame_of, lines_of_steps, lines_out, said_at, said_in, seen_by, seen_in, state_behind}
use Rattle.clnp_machine.proofs.LiveModel.Parts.{By, OnGoes, by_then, goes_if}
use Rattle.clnp_machine.proofs.LiveModel.Reached.{detached_both}

-- ---- what comes to a system, one thing after another

pub state_both : (s : SystemState) (inputs others : List Input) → state_behind s (inputs ++ others) ≡ state_behind (state_behind s inputs) others
state_both s [] others = refl
state_both s (input ∷ inputs) others = state_both (step s input).after inputs others

copies_both : (copies : ℕ) (s : SystemState) (inputs others : List Input)
    → copies_of_steps copies s (inputs ++ others) ≡ copies_of_steps (copies_of_steps copies s inputs) (state_behind s inputs) others
copies_both copies s [] others = refl
copies_both copies s (input ∷ inputs) others = copies_both (copies_out copies (step s input).outputs) (step s input).after inputs others

lines_both : (copies : ℕ) (s : SystemState) (inputs others : List Input)
    → lines_of_steps copies s (inputs ++ others)
    ≡ lines_of_steps copies s inputs ++ lines_of_steps (copies_of_steps copies s inputs) (state_behind s inputs) others
lines_both copies s [] others = refl
lines_both copies s (input ∷ inputs) others =
    ap (λ ls. lines_out (step s input).after copies (step s input).outputs ++ ls)
    (lines_both (copies_out copies (step s input).outputs) (step s input).after inputs others)
    ∙ sym (append_assoc (lines_out (step s input).after copies (step s input).outputs)
    (lines_of_steps (copies_out copies (step s input).outputs) (step s input).after inputs)
    (lines_of_steps (copies_of_steps (copies_out copies (step s input).outputs) (step s input).after inputs) (state_behind (step s input).after inputs) others))

-- it is still the same system
pub behind_itself : (s : SystemState) (inputs : List Input) → (state_behind s inputs).configuration ≡ s.configuration
behind_itself s [] = refl
behind_itself s (input ∷ inputs) = behind_itself (step s input).after inputs ∙ (step_itself s input).configuration

pub steps_both : (a b c : Node) (inputs others : List Input) (ls ms : List NodeLine)
    → TakesSteps a b inputs ls → TakesSteps b c others ms → TakesSteps a c (inputs ++ others) (ls ++ ms)
steps_both a b c inputs others ls ms h k =
    record {
      said =
          flat_map-append said_at ls ms
          ∙ (ap (λ x. x ++ said_in ms) h.said
          ∙ (ap (λ x. lines_of_steps a.copies a.system inputs ++ x)
          (k.said ∙ (ap (λ n. lines_of_steps n b.system others) h.copies ∙ ap (λ s. lines_of_steps (copies_of_steps a.copies a.system inputs) s others) h.system))
          ∙ sym (lines_both a.copies a.system inputs others)));
      system = k.system ∙ (ap (λ s. state_behind s others) h.system ∙ sym (state_both a.system inputs others));
      copies =
          k.copies ∙ (ap (λ n. copies_of_steps n b.system others) h.copies
          ∙ (ap (λ s. copies_of_steps (copies_of_steps a.copies a.system inputs) s others) h.system ∙ sym (copies_both a.copies a.system inputs others)));
    }

pub steps_nothing : (a : Node) → TakesSteps a a [] []
steps_nothing a = record { said = refl; system = refl; copies = refl }

-- ---- what looks saw

seen_both : (polled : ℕ) (us vs : List Outcome) → seen_in polled (us ++ vs) ≡ seen_in (seen_in polled us) vs
seen_both polled [] vs = refl
seen_both polled (outcome ∷ us) vs = seen_both (seen_by polled outcome) us vs

frames_both : (moment polled : ℕ) (us vs : List Outcome)
    → frames_in moment polled (us ++ vs) ≡ frames_in moment polled us ++ frames_in moment (seen_in polled us) vs
frames_both moment polled [] vs = refl
frames_both moment polled (outcome ∷ us) vs =
    ap (λ fs. frame_of moment polled outcome ++ fs) (frames_both moment (seen_by polled outcome) us vs)
    ∙ sym (append_assoc (frame_of moment polled outcome) (frames_in moment (seen_by polled outcome) us) (frames_in moment (seen_in (seen_by polled outcome) us) vs))

-- nothing is seen where frames are sent
sent_seen : (polled : ℕ) (us : List Outcome) → AllByRecursion IsSent us → seen_in polled us ≡ polled
sent_seen polled [] h = refl
sent_seen polled (Saw port look ∷ us) h = let no : false ≡ true = h.0 in absurd (cc)
sent_seen polled (LookFailed port ∷ us) h = let no : false ≡ true = h.0 in absurd (cc)
sent_seen polled (Took port ∷ us) h = sent_seen polled us h.1
sent_seen polled (SendFailed port ∷ us) h = sent_seen polled us h.1

sent_frames : (moment polled : ℕ) (us : List Outcome) → AllByRecursion IsSent us → frames_in moment polled us ≡ []
sent_frames moment polled [] h = refl
sent_frames moment polled (Saw port look ∷ us) h = let no : false ≡ true = h.0 in absurd (cc)
sent_frames moment polled (LookFailed port ∷ us) h = let no : false ≡ true = h.0 in absurd (cc)
sent_frames moment polled (Took port ∷ us) h = sent_frames moment polled us h.1
sent_frames moment polled (SendFailed port ∷ us) h = sent_frames moment polled us h.1

-- ---- outputs

record Gave (before : Node) (outputs : List Output) (used : List Outcome) (after : Node) (lines : List NodeLine) : Type 0 where
  said : said_in lines ≡ lines_out before.system before.copies outputs
  system_is : after.system ≡ before.system
  copies_are : after.copies ≡ copies_out before.copies outputs
  polled_is : after.polled ≡ before.polled
  are_sent : AllByRecursion IsSent used
  attached_is : after.attached ≡ detached_by used before.attached

lines_out_then : (s : SystemState) (copies : ℕ) (output : Output) (outputs : List Output)
    → lines_out s copies (output ∷ []) ++ lines_out s (copies_out copies (output ∷ [])) outputs ≡ lines_out s copies (output ∷ outputs)
lines_out_then s copies (Notes note) outputs = refl
lines_out_then s copies (Transmits port target packet) outputs = refl
lines_out_then s copies (SendsEsis port target value) outputs = refl

copies_out_then : (copies : ℕ) (output : Output) (outputs : List Output) → copies_out (copies_out copies (output ∷ [])) outputs ≡ copies_out copies (output ∷ outputs)
copies_out_then copies (Notes note) outputs = refl
copies_out_then copies (Transmits port target packet) outputs = refl
copies_out_then copies (SendsEsis port target value) outputs = refl

gave_joins : (a : Node) (output : Output) (outputs : List Output) (us : List Outcome) (b : Node) (ls : List NodeLine) (vs : List Outcome) (c : Node) (ms : List NodeLine)
    → Gave a (output ∷ []) us b ls → Gave b outputs vs c ms → Gave a (output ∷ outputs) (us ++ vs) c (ls ++ ms)
gave_joins a output outputs us b ls vs c ms h k =
    record {
      said =
          flat_map-append said_at ls ms
          ∙ (ap (λ x. x ++ said_in ms) h.said
          ∙ (ap (λ x. lines_out a.system a.copies (output ∷ []) ++ x)
          (k.said ∙ (ap (λ s. lines_out s b.copies outputs) h.system_is ∙ ap (λ n. lines_out a.system n outputs) h.copies_are))
          ∙ lines_out_then a.system a.copies output outputs));
      system_is = k.system_is ∙ h.system_is;
      copies_are = k.copies_are ∙ (ap (λ n. copies_out n outputs) h.copies_are ∙ copies_out_then a.copies output outputs);
      polled_is = k.polled_is ∙ h.polled_is;
      are_sent = AllByRecursion-append IsSent us vs h.are_sent k.are_sent;
      attached_is = k.attached_is ∙ (ap (λ bs. detached_by vs bs) h.attached_is ∙ sym (detached_both us vs a.attached));
    }

-- a frame that goes out, as an output whose line is this
record Sends (before : Node) (sending : Sending) (used : List Outcome) (after : Node) (lines : List NodeLine) : Type 0 where
  said : said_in lines ≡ said_at (transmission before sending)
  system_is : after.system ≡ before.system
  copies_are : after.copies ≡ number_behind before.copies
  polled_is : after.polled ≡ before.polled
  are_sent : AllByRecursion IsSent used
  attached_is : after.attached ≡ detached_by used before.attached

out_sends : (node : Node) (sending : Sending) (outcomes : List Outcome) → OnGoes (goes_out node sending outcomes) (By (Sends node sending) outcomes)
out_sends node sending [] = tt
out_sends node sending (Saw at look ∷ left) = tt
out_sends node sending (LookFailed at ∷ left) = tt
out_sends node sending (Took at ∷ left) =
    goes_if (at == sending.port) (Goes (gives (counted node) sending) left (transmission node sending ∷ [])) Strays (By (Sends node sending) (Took at ∷ left))
    (λ t. record {
      used = Took at ∷ [];
      whole = refl;
      holds = record { said = refl; system_is = refl; copies_are = refl; polled_is = refl; are_sent = (refl, tt); attached_is = refl };
    })
    (λ f. tt)
out_sends node sending (SendFailed at ∷ left) =
    goes_if (at == sending.port) (Goes (detached (counted node) sending.port) left (transmission node sending ∷ loss node sending.port ∷ [])) Strays
    (By (Sends node sending) (SendFailed at ∷ left))
    (λ t. record {
      used = SendFailed at ∷ [];
      whole = refl;
      holds = record {
        said = refl;
        system_is = refl;
        copies_are = refl;
        polled_is = refl;
        are_sent = (refl, tt);
        attached_is = ap (λ (p : ℕ). slice_set node.attached p false) (sym (is_equal at sending.port t));
      };
    })
    (λ f. tt)

transmits_sends : (node : Node) (sending : Sending) (outcomes : List Outcome) → OnGoes (transmits node sending outcomes) (By (Sends node sending) outcomes)
transmits_sends node sending outcomes =
    goes_if (has_link node sending.port) (goes_out node sending outcomes) (Goes (counted node) outcomes (transmission node sending ∷ []))
    (By (Sends node sending) outcomes) (λ on. out_sends node sending outcomes)
    (λ off. record {
      used = [];
      whole = refl;
      holds = record { said = refl; system_is = refl; copies_are = refl; polled_is = refl; are_sent = tt; attached_is = refl };
    })

pub goes_map : (p : Played) (P Q : Node → List Outcome → List NodeLine → Type 0) → OnGoes p P
    → ((b : Node) (left : List Outcome) (ls : List NodeLine) → P b left ls → Q b left ls) → OnGoes p Q
goes_map (Goes b left ls) P Q h f = f b left ls h
goes_map (Ends b ls) P Q h f = tt
goes_map Strays P Q h f = tt

gave_by : (node : Node) (output : Output) (sending : Sending) (outcomes : List Outcome)
    → said_at (transmission node sending) ≡ lines_out node.system node.copies (output ∷ []) → copies_out node.copies (output ∷ []) ≡ number_behind node.copies
    → OnGoes (transmits node sending outcomes) (By (Gave node (output ∷ [])) outcomes)
gave_by node output sending outcomes line number =
    goes_map (transmits node sending outcomes) (By (Sends node sending) outcomes) (By (Gave node (output ∷ [])) outcomes) (transmits_sends node sending outcomes)
    (λ b left ls h. record {
      used = h.used;
      whole = h.whole;
      holds = record {
        said = h.holds.said ∙ line;
        system_is = h.holds.system_is;
        copies_are = h.holds.copies_are ∙ sym number;
        polled_is = h.holds.polled_is;
        are_sent = h.holds.are_sent;
        attached_is = h.holds.attached_is;
      };
    })

output_gave : (node : Node) (output : Output) (outcomes : List Outcome) → OnGoes (puts_out node output outcomes) (By (Gave node (output ∷ [])) outcomes)
output_gave node (Notes note) outcomes =
    record {
      used = [];
      whole = refl;
      holds = record { said = refl; system_is = refl; copies_are = refl; polled_is = refl; are_sent = tt; attached_is = refl };
    }
output_gave node (Transmits port target packet) outcomes =
    gave_by node (Transmits port target packet) (record { port = port; frame = record { target = target; octets = wire packet } }) outcomes refl refl
output_gave node (SendsEsis port target value) outcomes =
    gave_by node (SendsEsis port target value) (record { port = port; frame = record { target = target; octets = spelling value } }) outcomes refl refl

outputs_gave : (outputs : List Output) (node : Node) (outcomes : List Outcome) → OnGoes (puts_all_out node outputs outcomes) (By (Gave node outputs) outcomes)
outputs_gave [] node outcomes =
    record {
      used = [];
      whole = refl;
      holds = record { said = refl; system_is = refl; copies_are = refl; polled_is = refl; are_sent = tt; attached_is = refl };
    }
outputs_gave (output ∷ outputs) node outcomes =
    by_then (Gave node (output ∷ [])) (Gave node (output ∷ outputs)) (λ b. Gave b outputs) (gave_joins node output outputs) outcomes
    (puts_out node output outcomes) (λ other left. puts_all_out other outputs left) (output_gave node output outcomes) (λ other left. outputs_gave outputs other left)

-- ---- inputs

record Came (before : Node) (inputs : List Input) (used : List Outcome) (after : Node) (lines : List NodeLine) : Type 0 where
  steps : TakesSteps before after inputs lines
  polled_is : after.polled ≡ before.polled
  are_sent : AllByRecursion IsSent used
  attached_is : after.attached ≡ detached_by used before.attached

came_by : (node : Node) (input : Input) (effect : Effect) → effect ≡ step node.system input → (used : List Outcome) (after : Node) (lines : List NodeLine)
    → Gave (record node { system = effect.after }) effect.outputs used after lines → Came node (input ∷ []) used after lines
came_by node input effect e used after lines h =
    record {
      steps = record {
        said =
            h.said
            ∙ (ap (λ (f : Effect). lines_out f.after node.copies f.outputs) e
            ∙ sym (append-nil (lines_out (step node.system input).after node.copies (step node.system input).outputs)));
        system = h.system_is ∙ ap (λ (f : Effect). f.after) e;
        copies = h.copies_are ∙ ap (λ (f : Effect). copies_out node.copies f.outputs) e;
      };
      polled_is = h.polled_is;
      are_sent = h.are_sent;
      attached_is = h.attached_is;
    }

comes_came : (node : Node) (input : Input) (outcomes : List Outcome) → OnGoes (comes node input outcomes) (By (Came node (input ∷ [])) outcomes)
comes_came node input outcomes =
    goes_map (comes node input outcomes) (By (Gave (record node { system = (step node.system input).after }) (step node.system input).outputs) outcomes)
    (By (Came node (input ∷ [])) outcomes)
    (outputs_gave (step node.system input).outputs (record node { system = (step node.system input).after }) outcomes)
    (λ b left ls h. record { used = h.used; whole = h.whole; holds = came_by node input (step node.system input) refl h.used b ls h.holds })

came_joins : (a : Node) (input : Input) (inputs : List Input) (us : List Outcome) (b : Node) (ls : List NodeLine) (vs : List Outcome) (c : Node) (ms : List NodeLine)
    → Came a (input ∷ []) us b ls → Came b inputs vs c ms → Came a (input ∷ inputs) (us ++ vs) c (ls ++ ms)
came_joins a input inputs us b ls vs c ms h k =
    record {
      steps = steps_both a b c (input ∷ []) inputs ls ms h.steps k.steps;
      polled_is = k.polled_is ∙ h.polled_is;
      are_sent = AllByRecursion-append IsSent us vs h.are_sent k.are_sent;
      attached_is = k.attached_is ∙ (ap (λ bs. detached_by vs bs) h.attached_is ∙ sym (detached_both us vs a.attached));
    }

inputs_came : (inputs : List Input) (node : Node) (outcomes : List Outcome) → OnGoes (come_all node inputs outcomes) (By (Came node inputs) outcomes)
inputs_came [] node outcomes =
    record {
      used = [];
      whole = refl;
      holds = record { steps = steps_nothing node; polled_is = refl; are_sent = tt; attached_is = refl };
    }
inputs_came (input ∷ inputs) node outcomes =
    by_then (Came node (input ∷ [])) (Came node (input ∷ inputs)) (λ b. Came b inputs) (came_joins node input inputs) outcomes
    (comes node input outcomes) (λ other left. come_all other inputs left) (comes_came node input outcomes) (λ other left. inputs_came inputs other left)

-- ---- one look

record IsOneLook (port : ℕ) (used : List Outcome) : Type 0 where
  look : Outcome
  sent : List Outcome
  whole : used ≡ look ∷ sent
  is_look : is_sent look ≡ false
  at_port : port_of look ≡ port
  are_sent : AllByRecursion IsSent sent

record SawOne (before : Node) (port : ℕ) (used : List Outcome) (after : Node) (lines : List NodeLine) : Type 0 where
  steps : TakesSteps before after (frames_in before.system.moment before.polled used) lines
  polled_is : after.polled ≡ seen_in before.polled used
  moment_is : after.system.moment ≡ before.system.moment
  looks : WhereOn (has_link before port) (IsOneLook port used) (used ≡ [])
  attached_is : after.attached ≡ detached_by used before.attached

where_on : (b : Bool) (P Q : Type 0) → b ≡ true → P → WhereOn b P Q
where_on true P Q on p = p
where_on false P Q on p = absurd (cc)

where_off : (b : Bool) (P Q : Type 0) → b ≡ false → Q → WhereOn b P Q
where_off true P Q off q = absurd (cc)
where_off false P Q off q = q

module _ (node : Node) (port : ℕ) (on : has_link node port ≡ true) where
  saw_nothing : (at : ℕ) → (at == port) ≡ true → SawOne node port (Saw at None ∷ []) node []
  saw_nothing at t =
      record {
        steps = steps_nothing node;
        polled_is = refl;
        moment_is = refl;
        looks = where_on (has_link node port) (IsOneLook port (Saw at None ∷ [])) ((Saw at None ∷ []) ≡ []) on
            (record { look = Saw at None; sent = []; whole = refl; is_look = refl; at_port = is_equal at port t; are_sent = tt });
        attached_is = refl;
      }

  look_lost : (at : ℕ) → (at == port) ≡ true → SawOne node port (LookFailed at ∷ []) (detached node port) (loss node port ∷ [])
  look_lost at t =
      record {
        steps = record { said = refl; system = refl; copies = refl };
        polled_is = refl;
        moment_is = refl;
        looks = where_on (has_link node port) (IsOneLook port (LookFailed at ∷ [])) ((LookFailed at ∷ []) ≡ []) on
            (record { look = LookFailed at; sent = []; whole = refl; is_look = refl; at_port = is_equal at port t; are_sent = tt });
        attached_is = ap (λ (p : ℕ). slice_set node.attached p false) (sym (is_equal at port t));
      }

  saw_frame : (at : ℕ) → (at == port) ≡ true → (frame : CameFrame) (used : List Outcome) (after : Node) (lines : List NodeLine)
      → Came (polls node) (frame_at (number_behind node.polled) node.system.moment port frame ∷ []) used after lines
      → SawOne node port (Saw at (Some frame) ∷ used) after lines
  saw_frame at t frame used after lines h =
      let input = frame_at (number_behind node.polled) node.system.moment port frame in
      let same : frame_at (number_behind node.polled) node.system.moment port frame ∷ []
      ≡ frames_in node.system.moment node.polled (Saw at (Some frame) ∷ used) =
      ap (λ (p : ℕ). frame_at (number_behind node.polled) node.system.moment p frame ∷ []) (sym (is_equal at port t))
      ∙ ap (λ fs. frame_at (number_behind node.polled) node.system.moment at frame ∷ fs) (sym (sent_frames node.system.moment (number_behind node.polled) used h.are_sent)) in
      record {
        steps = subst (λ (is : List Input). TakesSteps node after is lines) same
            (record { said = h.steps.said; system = h.steps.system; copies = h.steps.copies });
        polled_is = h.polled_is ∙ sym (sent_seen (number_behind node.polled) used h.are_sent);
        moment_is = ap (λ (s : SystemState). s.moment) h.steps.system ∙ step_moment node.system input;
        looks = where_on (has_link node port) (IsOneLook port (Saw at (Some frame) ∷ used)) ((Saw at (Some frame) ∷ used) ≡ []) on
            (record { look = Saw at (Some frame); sent = used; whole = refl; is_look = refl; at_port = is_equal at port t; are_sent = h.are_sent });
        attached_is = h.attached_is;
      }

  sees_one : (at : ℕ) → (at == port) ≡ true → (look : Option CameFrame) (left : List Outcome)
      → OnGoes (sees node port look left) (By (SawOne node port) (Saw at look ∷ left))
  sees_one at t None left = record { used = Saw at None ∷ []; whole = refl; holds = saw_nothing at t }
  sees_one at t (Some frame) left =
      let input = frame_at (number_behind node.polled) node.system.moment port frame in
      goes_map (comes (polls node) input left) (By (Came (polls node) (input ∷ [])) left) (By (SawOne node port) (Saw at (Some frame) ∷ left))
      (comes_came (polls node) input left)
      (λ b rest ls h. record {
        used = Saw at (Some frame) ∷ h.used;
        whole = ap (λ ws. Saw at (Some frame) ∷ ws) h.whole;
        holds = saw_frame at t frame h.used b ls h.holds;
      })

  look_by_one : (outcomes : List Outcome) → OnGoes (looks_by node port outcomes) (By (SawOne node port) outcomes)
  look_by_one [] = tt
  look_by_one (Saw at look ∷ left) =
      goes_if (at == port) (sees node port look left) Strays (By (SawOne node port) (Saw at look ∷ left)) (λ t. sees_one at t look left) (λ f. tt)
  look_by_one (LookFailed at ∷ left) =
      goes_if (at == port) (Goes (detached node port) left (loss node port ∷ [])) Strays (By (SawOne node port) (LookFailed at ∷ left))
      (λ t. record { used = LookFailed at ∷ []; whole = refl; holds = look_lost at t }) (λ f. tt)
  look_by_one (Took at ∷ left) = tt
  look_by_one (SendFailed at ∷ left) = tt

look_one : (node : Node) (port : ℕ) (outcomes : List Outcome) → OnGoes (looks_at node port outcomes) (By (SawOne node port) outcomes)
look_one node port outcomes =
    goes_if (has_link node port) (looks_by node port outcomes) (Goes node outcomes []) (By (SawOne node port) outcomes)
    (λ on. look_by_one node port on outcomes)
    (λ off. record {
      used = [];
      whole = refl;
      holds = record {
        steps = steps_nothing node;
        polled_is = refl;
        moment_is = refl;
        looks = where_off (has_link node port) (IsOneLook port []) ([] ≡ []) off refl;
        attached_is = refl;
      };
    })

-- ---- looks

record SawAll (before : Node) (ports : List ℕ) (used : List Outcome) (after : Node) (lines : List NodeLine) : Type 0 where
  steps : TakesSteps before after (frames_in before.system.moment before.polled used) lines
  polled_is : after.polled ≡ seen_in before.polled used
  moment_is : after.system.moment ≡ before.system.moment
  looks : LooksInOrder ports before.attached used
  attached_is : after.attached ≡ detached_by used before.attached

in_order : (x : Bool) (port : ℕ) (ports : List ℕ) (attached between : List Bool) (us vs : List Outcome)
    → WhereOn x (IsOneLook port us) (us ≡ []) → between ≡ detached_by us attached → LooksInOrder ports between vs
    → WhereOn x (LooksFirst port attached (us ++ vs) (LooksInOrder ports)) (LooksInOrder ports attached (us ++ vs))
in_order true port ports attached between us vs h e k =
    record {
      look = h.look;
      sent = h.sent;
      others = vs;
      whole = ap (λ ws. ws ++ vs) h.whole;
      is_look = h.is_look;
      at_port = h.at_port;
      are_sent = h.are_sent;
      rest = subst (λ (bs : List Bool). LooksInOrder ports bs vs) (e ∙ ap (λ ws. detached_by ws attached) h.whole) k;
    }
in_order false port ports attached between us vs h e k =
    subst (λ (ws : List Outcome). LooksInOrder ports attached (ws ++ vs)) (sym h)
    (subst (λ (bs : List Bool). LooksInOrder ports bs vs) (e ∙ ap (λ ws. detached_by ws attached) h) k)

frames_behind : (a b : Node) (us vs : List Outcome) → b.system.moment ≡ a.system.moment → b.polled ≡ seen_in a.polled us
    → frames_in a.system.moment a.polled us ++ frames_in b.system.moment b.polled vs ≡ frames_in a.system.moment a.polled (us ++ vs)
frames_behind a b us vs m p =
    ap (λ fs. frames_in a.system.moment a.polled us ++ fs)
    (ap (λ now. frames_in now b.polled vs) m ∙ ap (λ n. frames_in a.system.moment n vs) p)
    ∙ sym (frames_both a.system.moment a.polled us vs)

saw_joins : (a : Node) (port : ℕ) (ports : List ℕ) (us : List Outcome) (b : Node) (ls : List NodeLine) (vs : List Outcome) (c : Node) (ms : List NodeLine)
    → SawOne a port us b ls → SawAll b ports vs c ms → SawAll a (port ∷ ports) (us ++ vs) c (ls ++ ms)
saw_joins a port ports us b ls vs c ms h k =
    record {
      steps = subst (λ (is : List Input). TakesSteps a c is (ls ++ ms)) (frames_behind a b us vs h.moment_is h.polled_is)
          (steps_both a b c (frames_in a.system.moment a.polled us) (frames_in b.system.moment b.polled vs) ls ms h.steps k.steps);
      polled_is = k.polled_is ∙ (ap (λ n. seen_in n vs) h.polled_is ∙ sym (seen_both a.polled us vs));
      moment_is = k.moment_is ∙ h.moment_is;
      looks = in_order (has_link a port) port ports a.attached b.attached us vs h.looks h.attached_is k.looks;
      attached_is = k.attached_is ∙ (ap (λ bs. detached_by vs bs) h.attached_is ∙ sym (detached_both us vs a.attached));
    }

looks_all : (ports : List ℕ) (node : Node) (outcomes : List Outcome) → OnGoes (looks_at_each node ports outcomes) (By (SawAll node ports) outcomes)
looks_all [] node outcomes =
    record {
      used = [];
      whole = refl;
      holds = record { steps = steps_nothing node; polled_is = refl; moment_is = refl; looks = refl; attached_is = refl };
    }
looks_all (port ∷ ports) node outcomes =
    by_then (SawOne node port) (SawAll node (port ∷ ports)) (λ b. SawAll b ports) (saw_joins node port ports) outcomes
    (looks_at node port outcomes) (λ other left. looks_at_each other ports left) (look_one node port outcomes) (λ other left. looks_all ports other left)

-- ---- a turn

pub record Turned (before : Node) (inputs : List Input) (used : List Outcome) (after : Node) (lines : List NodeLine) : Type 0 where
  pub steps : TakesSteps before after (inputs ++ frames_in (state_behind before.system inputs).moment before.polled used) lines
  pub polled_is : after.polled ≡ seen_in before.polled used
  pub moment_is : after.system.moment ≡ (state_behind before.system inputs).moment
  pub looks : LooksOnce before.attached used
  pub attached_is : after.attached ≡ detached_by used before.attached

turn_joins : (a : Node) (inputs : List Input) (us : List Outcome) (b : Node) (ls : List NodeLine) (vs : List Outcome) (c : Node) (ms : List NodeLine)
    → Came a inputs us b ls → SawAll b (ports_of b.attached) vs c ms → Turned a inputs (us ++ vs) c (ls ++ ms)
turn_joins a inputs us b ls vs c ms h k =
    let now : b.system.moment ≡ (state_behind a.system inputs).moment = ap (λ (s : SystemState). s.moment) h.steps.system in
    let frames : frames_in b.system.moment b.polled vs ≡ frames_in (state_behind a.system inputs).moment a.polled (us ++ vs) =
    ap (λ (n : ℕ). frames_in n b.polled vs) now
    ∙ (ap (λ (n : ℕ). frames_in (state_behind a.system inputs).moment n vs) (h.polled_is ∙ sym (sent_seen a.polled us h.are_sent))
    ∙ (ap (λ fs. fs ++ frames_in (state_behind a.system inputs).moment (seen_in a.polled us) vs) (sym (sent_frames (state_behind a.system inputs).moment a.polled us h.are_sent))
    ∙ sym (frames_both (state_behind a.system inputs).moment a.polled us vs))) in
    record {
      steps = subst (λ (is : List Input). TakesSteps a c is (ls ++ ms)) (ap (λ fs. inputs ++ fs) frames)
          (steps_both a b c inputs (frames_in b.system.moment b.polled vs) ls ms h.steps k.steps);
      polled_is = k.polled_is ∙ (ap (λ n. seen_in n vs) (h.polled_is ∙ sym (sent_seen a.polled us h.are_sent)) ∙ sym (seen_both a.polled us vs));
      moment_is = k.moment_is ∙ now;
      looks = record {
        sent = us;
        others = vs;
        whole = refl;
        are_sent = h.are_sent;
        looks = subst (λ (bs : List Bool). LooksInOrder (ports_of bs) bs vs) h.attached_is k.looks;
      };
      attached_is = k.attached_is ∙ (ap (λ bs. detached_by vs bs) h.attached_is ∙ sym (detached_both us vs a.attached));
    }

pub turn_turned : (inputs : List Input) (node : Node) (outcomes : List Outcome) → OnGoes (takes_turn inputs node outcomes) (By (Turned node inputs) outcomes)
turn_turned inputs node outcomes =
    by_then (Came node inputs) (Turned node inputs) (λ b. SawAll b (ports_of b.attached)) (turn_joins node inputs) outcomes
    (come_all node inputs outcomes) (λ other left. looks_at_each other (ports_of other.attached) left)
    (inputs_came inputs node outcomes) (λ other left. looks_all (ports_of other.attached) other left)
