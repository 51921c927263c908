-- What outcomes do to ports, and which frames links take, one part after another.
use Rattle.std.proofs.Common.{◌≡◌, ◌≢◌, ◌∙◌, sym, ap, subst, refl, append_assoc, append-nil, ℕ, zero, suc, Bool, true, false, List, [], ◌∷◌, ◌++◌, map, Option, Some, None, inl, inr}
use Rattle.std.specs.Prelude.{◌==◌, slice_get, slice_set}
use Rattle.std.proofs.lemmas.Bool.{cases_Bool}
use Rattle.std.proofs.lemmas.Grind.{flat_map-append}
use Rattle.std.proofs.lemmas.List.{map-append}
use Rattle.std.proofs.lemmas.List.Elements.{filter-append}
use Rattle.clnp_plan.proofs.ClnpBase.Choices.{is_equal, not_equal}
use Rattle.clnp_plan.proofs.ClnpBase.Lists.{AllByRecursion-append, slice_get-set_other}
use Rattle.pdus.specs.EsisPdus.Spelling.{spelling}
use Rattle.clnp_machine.specs.Step.{step}
use Rattle.clnp_machine.specs.System.{Input, Output, Transmits, SendsEsis, Notes, number_behind}
use Rattle.clnp_machine.specs.Unit.{wire}
use Rattle.frame_links.specs.LinkBoard.Links.{CameFrame}
use Rattle.clnp_plan.specs.Journal.{Noted}
use Rattle.clnp_machine.specs.LiveModel.Lines.{NodeLine, Says}
use Rattle.clnp_machine.specs.LiveModel.Node.{Node, Outcome, Saw, LookFailed, Took, SendFailed, Sending, Played, Goes, Ends, Strays, come_all, comes, counted, detached, frame_at, gives, goes_out, has_link, is_on, looks_at, looks_at_each, looks_by, loss, polls, ports_of, puts_all_out, puts_out, sees, transmission, transmits}
use Rattle.clnp_machine.specs.LiveModel.Turn.{takes_turn}
use Rattle.clnp_machine.specs.LiveModel.Ports.{PortGoes, PortsGo, IsAmong, Succeeds, TakesWritten, detached_at, detached_by, failed_at, failed_in, fails, gone_at, gone_in, is_at, outcomes_at, port_of, sent_at, sent_in, took_at, took_in}
use Rattle.clnp_machine.proofs.LiveModel.Parts.{By, OnPlayed, played_if, played_then}

pub detached_both : (us vs : List Outcome) (attached : List Bool) → detached_by (us ++ vs) attached ≡ detached_by vs (detached_by us attached)
detached_both [] vs attached = refl
detached_both (outcome ∷ us) vs attached = detached_both us vs (detached_at outcome attached)

-- ---- one port

port_both : (a b c : Bool) (us vs : List Outcome) → PortGoes a b us → PortGoes b c vs → PortGoes a c (us ++ vs)
port_both a b c us vs h k =
    record {
      stays = λ off. let first = h.stays off in let next = k.stays first.0 in (next.0, ap (λ ws. ws ++ vs) first.1 ∙ next.1);
      holds = λ on. elim (cases_Bool b) [
        | inl t ↦ AllByRecursion-append Succeeds us vs (h.holds t) (k.holds on)
        | inr f ↦ let both : true ≡ false = sym on ∙ (k.stays f).0 in absurd (cc)
      ];
      breaks = λ on off. elim (cases_Bool b) [
        | inl t ↦
            let l = k.breaks t off in
            record {
              others = us ++ l.others;
              last = l.last;
              whole = ap (λ ws. us ++ ws) l.whole ∙ sym (append_assoc us l.others (l.last ∷ []));
              succeed = AllByRecursion-append Succeeds us l.others (h.holds t) l.succeed;
              fails = l.fails;
            }
        | inr f ↦
            let l = h.breaks on f in
            record {
              others = l.others;
              last = l.last;
              whole = ap (λ ws. us ++ ws) (k.stays f).1 ∙ (append-nil us ∙ l.whole);
              succeed = l.succeed;
              fails = l.fails;
            }
      ];
    }

port_same : (b : Bool) → PortGoes b b []
port_same b =
    record {
      stays = λ off. (off, refl);
      holds = λ on. tt;
      breaks = λ on off. let both : true ≡ false = sym on ∙ off in absurd (cc);
    }

port_quiet : (a b : Bool) → b ≡ a → PortGoes a b []
port_quiet a b e = subst (λ (x : Bool). PortGoes a x []) (sym e) (port_same a)

port_succeeds : (outcome : Outcome) → fails outcome ≡ false → PortGoes true true (outcome ∷ [])
port_succeeds outcome s =
    record {
      stays = λ off. absurd (cc);
      holds = λ on. (s, tt);
      breaks = λ on off. absurd (cc);
    }

port_fails : (outcome : Outcome) → fails outcome ≡ true → PortGoes true false (outcome ∷ [])
port_fails outcome s =
    record {
      stays = λ off. absurd (cc);
      holds = λ on. absurd (cc);
      breaks = λ on off. record { others = []; last = outcome; whole = refl; succeed = tt; fails = s };
    }

-- ---- ports

ports_both : (a b c : List Bool) (us vs : List Outcome) → PortsGo a b us → PortsGo b c vs → PortsGo a c (us ++ vs)
ports_both a b c us vs h k port =
    subst (λ (os : List Outcome). PortGoes (is_on (slice_get a port)) (is_on (slice_get c port)) os) (sym (filter-append (is_at port) us vs))
    (port_both (is_on (slice_get a port)) (is_on (slice_get b port)) (is_on (slice_get c port)) (outcomes_at port us) (outcomes_at port vs) (h port) (k port))

ports_quiet : (a b : List Bool) → b ≡ a → PortsGo a b []
ports_quiet a b e port = port_quiet (is_on (slice_get a port)) (is_on (slice_get b port)) (ap (λ bs. is_on (slice_get bs port)) e)

-- an outcome at a port, and at every other port nothing changed
ports_one : (outcome : Outcome) (a b : List Bool)
    → PortGoes (is_on (slice_get a (port_of outcome))) (is_on (slice_get b (port_of outcome))) (outcome ∷ [])
    → ((port : ℕ) → port_of outcome ≢ port → is_on (slice_get b port) ≡ is_on (slice_get a port))
    → PortsGo a b (outcome ∷ [])
ports_one outcome a b here others port =
    elim (cases_Bool (is_at port outcome)) [
      | inl t ↦
          rw t (subst (λ (p : ℕ). PortGoes (is_on (slice_get a p)) (is_on (slice_get b p)) (outcome ∷ [])) (is_equal (port_of outcome) port t) here)
      | inr f ↦
          rw f (port_quiet (is_on (slice_get a port)) (is_on (slice_get b port)) (others port (not_equal (port_of outcome) port f)))
    ]

off_here : (attached : List Bool) (port : ℕ) → is_on (slice_get (slice_set attached port false) port) ≡ false
off_here [] port = refl
off_here (b ∷ attached) zero = refl
off_here (b ∷ attached) (suc port) = off_here attached port

-- ---- frames among those that were written

among_more : {A : Type 0} (y : A) (xs ys : List A) → IsAmong xs ys → IsAmong xs (y ∷ ys)
among_more y [] ys h = tt
among_more y (x ∷ xs) ys h = inr h

among_both : {A : Type 0} (ys ws xs zs : List A) → IsAmong xs ys → IsAmong zs ws → IsAmong (xs ++ zs) (ys ++ ws)
among_both [] ws [] zs h k = k
among_both [] ws (x ∷ xs) zs h k = absurd h
among_both (y ∷ ys) ws [] zs h k = among_more y zs (ys ++ ws) (among_both ys ws [] zs tt k)
among_both (y ∷ ys) ws (x ∷ xs) zs h k =
    elim h [
      | inl e ↦ inl (e.0, among_both ys ws xs zs e.1 k)
      | inr m ↦ inr (among_both ys ws (x ∷ xs) zs m k)
    ]

-- ---- what a part comes to, by the outcomes that it used

pub record Went (attached : List Bool) (taken : List Sending) (used : List Outcome) (after : Node) (lines : List NodeLine) : Type 0 where
  pub attached_is : after.attached ≡ detached_by used attached
  pub ports : PortsGo attached after.attached used
  pub gone : gone_in lines ≡ failed_in used
  pub takes : TakesWritten taken after.taken used lines

takes_both : (a b c : List Sending) (us vs : List Outcome) (ls ms : List NodeLine) → TakesWritten a b us ls → TakesWritten b c vs ms → TakesWritten a c (us ++ vs) (ls ++ ms)
takes_both a b c us vs ls ms h k =
    record {
      more = h.more ++ k.more;
      taken = k.taken ∙ (ap (λ t. t ++ k.more) h.taken ∙ append_assoc a h.more k.more);
      ports =
          map-append (λ (sending : Sending). sending.port) h.more k.more
          ∙ (ap (λ ps. ps ++ map (λ (sending : Sending). sending.port) k.more) h.ports
          ∙ (ap (λ ps. took_in us ++ ps) k.ports ∙ sym (flat_map-append took_at us vs)));
      written =
          subst (λ (ss : List Sending). IsAmong (h.more ++ k.more) ss) (sym (flat_map-append sent_at ls ms))
          (among_both (sent_in ls) (sent_in ms) h.more k.more h.written k.written);
    }

pub went_joins : (attached : List Bool) (taken : List Sending) (us : List Outcome) (b : Node) (ls : List NodeLine) (vs : List Outcome) (c : Node) (ms : List NodeLine)
    → Went attached taken us b ls → Went b.attached b.taken vs c ms → Went attached taken (us ++ vs) c (ls ++ ms)
went_joins attached taken us b ls vs c ms h k =
    record {
      attached_is = k.attached_is ∙ (ap (λ bs. detached_by vs bs) h.attached_is ∙ sym (detached_both us vs attached));
      ports = ports_both attached b.attached c.attached us vs h.ports k.ports;
      gone =
          flat_map-append gone_at ls ms
          ∙ (ap (λ ps. ps ++ gone_in ms) h.gone ∙ (ap (λ ps. failed_in us ++ ps) k.gone ∙ sym (flat_map-append failed_at us vs)));
      takes = takes_both taken b.taken c.taken us vs ls ms h.takes k.takes;
    }

-- no link was called
pub went_quietly : (attached : List Bool) (taken : List Sending) (b : Node) (ls : List NodeLine) → b.attached ≡ attached → b.taken ≡ taken → gone_in ls ≡ []
    → Went attached taken [] b ls
went_quietly attached taken b ls e t g =
    record {
      attached_is = e;
      ports = ports_quiet attached b.attached e;
      gone = g;
      takes = record { more = []; taken = t ∙ sym (append-nil taken); ports = refl; written = tt };
    }

same_at : (outcome : Outcome) (x : Bool) → x ≡ true → fails outcome ≡ false → PortGoes x x (outcome ∷ [])
same_at outcome x on s = subst (λ (y : Bool). PortGoes y y (outcome ∷ [])) (sym on) (port_succeeds outcome s)

lost_at : (outcome : Outcome) (x y : Bool) → x ≡ true → y ≡ false → fails outcome ≡ true → PortGoes x y (outcome ∷ [])
lost_at outcome x y on off s =
    subst (λ (z : Bool). PortGoes z y (outcome ∷ [])) (sym on) (subst (λ (z : Bool). PortGoes true z (outcome ∷ [])) (sym off) (port_fails outcome s))

module _ (a : Node) where
  went_took : (s : Sending) → has_link a s.port ≡ true → Went a.attached a.taken (Took s.port ∷ []) (gives (counted a) s) (transmission a s ∷ [])
  went_took s on =
      record {
        attached_is = refl;
        ports = ports_one (Took s.port) a.attached a.attached (same_at (Took s.port) (has_link a s.port) on refl) (λ port other. refl);
        gone = refl;
        takes = record { more = s ∷ []; taken = refl; ports = refl; written = inl (refl, tt) };
      }

  lost_ports : (outcome : Outcome) → fails outcome ≡ true → has_link a (port_of outcome) ≡ true
      → PortsGo a.attached (slice_set a.attached (port_of outcome) false) (outcome ∷ [])
  lost_ports outcome s on =
      ports_one outcome a.attached (slice_set a.attached (port_of outcome) false)
      (lost_at outcome (has_link a (port_of outcome)) (is_on (slice_get (slice_set a.attached (port_of outcome) false) (port_of outcome))) on (off_here a.attached (port_of outcome)) s)
      (λ port other. ap is_on (slice_get-set_other a.attached (port_of outcome) port false other))

  went_send_failed : (s : Sending) → has_link a s.port ≡ true
      → Went a.attached a.taken (SendFailed s.port ∷ []) (detached (counted a) s.port) (transmission a s ∷ loss a s.port ∷ [])
  went_send_failed s on =
      record {
        attached_is = refl;
        ports = lost_ports (SendFailed s.port) refl on;
        gone = refl;
        takes = record { more = []; taken = sym (append-nil a.taken); ports = refl; written = tt };
      }

  went_saw : (port : ℕ) (look : Option CameFrame) → has_link a port ≡ true → Went a.attached a.taken (Saw port look ∷ []) a []
  went_saw port look on =
      record {
        attached_is = refl;
        ports = ports_one (Saw port look) a.attached a.attached (same_at (Saw port look) (has_link a port) on refl) (λ other differs. refl);
        gone = refl;
        takes = record { more = []; taken = sym (append-nil a.taken); ports = refl; written = tt };
      }

  went_look_failed : (port : ℕ) → has_link a port ≡ true → Went a.attached a.taken (LookFailed port ∷ []) (detached a port) (loss a port ∷ [])
  went_look_failed port on =
      record {
        attached_is = refl;
        ports = lost_ports (LookFailed port) refl on;
        gone = refl;
        takes = record { more = []; taken = sym (append-nil a.taken); ports = refl; written = tt };
      }

-- ---- parts

abbrev Wents : Node → List Outcome → Node → List NodeLine → Type 0
Wents a used after lines = Went a.attached a.taken used after lines

wents_join : (a : Node) (us : List Outcome) (b : Node) (ls : List NodeLine) (vs : List Outcome) (c : Node) (ms : List NodeLine)
    → Wents a us b ls → Wents b vs c ms → Wents a (us ++ vs) c (ls ++ ms)
wents_join a us b ls vs c ms h k = went_joins a.attached a.taken us b ls vs c ms h k

nothing_used : (a b : Node) (outcomes : List Outcome) (ls : List NodeLine) → b.attached ≡ a.attached → b.taken ≡ a.taken → gone_in ls ≡ []
    → By (Wents a) outcomes b outcomes ls
nothing_used a b outcomes ls e t g = record { used = []; whole = refl; holds = went_quietly a.attached a.taken b ls e t g }

out_went : (node : Node) (sending : Sending) → has_link node sending.port ≡ true → (outcomes : List Outcome)
    → OnPlayed (goes_out node sending outcomes) (By (Wents node) outcomes)
out_went node sending on [] = nothing_used node (counted node) [] (transmission node sending ∷ []) refl refl refl
out_went node sending on (Saw at look ∷ left) = tt
out_went node sending on (LookFailed at ∷ left) = tt
out_went node sending on (Took at ∷ left) =
    played_if (at == sending.port) (Goes (gives (counted node) sending) left (transmission node sending ∷ [])) Strays (By (Wents node) (Took at ∷ left))
    (λ t. record {
      used = Took at ∷ [];
      whole = refl;
      holds = subst (λ (p : ℕ). Went node.attached node.taken (Took p ∷ []) (gives (counted node) sending) (transmission node sending ∷ []))
          (sym (is_equal at sending.port t)) (went_took node sending on);
    })
    (λ f. tt)
out_went node sending on (SendFailed at ∷ left) =
    played_if (at == sending.port) (Goes (detached (counted node) sending.port) left (transmission node sending ∷ loss node sending.port ∷ [])) Strays
    (By (Wents node) (SendFailed at ∷ left))
    (λ t. record {
      used = SendFailed at ∷ [];
      whole = refl;
      holds = subst (λ (p : ℕ). Went node.attached node.taken (SendFailed p ∷ []) (detached (counted node) sending.port) (transmission node sending ∷ loss node sending.port ∷ []))
          (sym (is_equal at sending.port t)) (went_send_failed node sending on);
    })
    (λ f. tt)

transmits_went : (node : Node) (sending : Sending) (outcomes : List Outcome) → OnPlayed (transmits node sending outcomes) (By (Wents node) outcomes)
transmits_went node sending outcomes =
    played_if (has_link node sending.port) (goes_out node sending outcomes) (Goes (counted node) outcomes (transmission node sending ∷ []))
    (By (Wents node) outcomes) (λ on. out_went node sending on outcomes)
    (λ off. nothing_used node (counted node) outcomes (transmission node sending ∷ []) refl refl refl)

output_went : (node : Node) (output : Output) (outcomes : List Outcome) → OnPlayed (puts_out node output outcomes) (By (Wents node) outcomes)
output_went node (Notes note) outcomes = record { used = []; whole = refl; holds = went_quietly node.attached node.taken node (Says (Noted node.system.moment node.system.configuration.name note) ∷ []) refl refl refl }
output_went node (Transmits port target packet) outcomes =
    transmits_went node (record { port = port; frame = record { target = target; octets = wire packet } }) outcomes
output_went node (SendsEsis port target value) outcomes =
    transmits_went node (record { port = port; frame = record { target = target; octets = spelling value } }) outcomes

outputs_went : (outputs : List Output) (node : Node) (outcomes : List Outcome) → OnPlayed (puts_all_out node outputs outcomes) (By (Wents node) outcomes)
outputs_went [] node outcomes = nothing_used node node outcomes [] refl refl refl
outputs_went (output ∷ outputs) node outcomes =
    played_then Wents wents_join node outcomes (puts_out node output outcomes) (λ other left. puts_all_out other outputs left)
    (output_went node output outcomes) (λ other left. outputs_went outputs other left)

comes_went : (node : Node) (input : Input) (outcomes : List Outcome) → OnPlayed (comes node input outcomes) (By (Wents node) outcomes)
comes_went node input outcomes =
    outputs_went (step node.system input).outputs (record node { system = (step node.system input).after }) outcomes

inputs_went : (inputs : List Input) (node : Node) (outcomes : List Outcome) → OnPlayed (come_all node inputs outcomes) (By (Wents node) outcomes)
inputs_went [] node outcomes = nothing_used node node outcomes [] refl refl refl
inputs_went (input ∷ inputs) node outcomes =
    played_then Wents wents_join node outcomes (comes node input outcomes) (λ other left. come_all other inputs left)
    (comes_went node input outcomes) (λ other left. inputs_went inputs other left)

sees_went : (node : Node) (port : ℕ) (look : Option CameFrame) (outcomes : List Outcome) → OnPlayed (sees node port look outcomes) (By (Wents node) outcomes)
sees_went node port None outcomes = nothing_used node node outcomes [] refl refl refl
sees_went node port (Some frame) outcomes = comes_went (polls node) (frame_at (number_behind node.polled) node.system.moment port frame) outcomes

-- behind an outcome
behind_one : (node : Node) (outcome : Outcome) → Went node.attached node.taken (outcome ∷ []) node [] → (left : List Outcome) (p : Played)
    → OnPlayed p (By (Wents node) left) → OnPlayed p (By (Wents node) (outcome ∷ left))
behind_one node outcome one left (Goes b rest ls) h =
    record {
      used = outcome ∷ h.used;
      whole = ap (λ ws. outcome ∷ ws) h.whole;
      holds = went_joins node.attached node.taken (outcome ∷ []) node [] h.used b ls one h.holds;
    }
behind_one node outcome one left (Ends b ls) h =
    record {
      used = outcome ∷ h.used;
      whole = ap (λ ws. outcome ∷ ws) h.whole;
      holds = went_joins node.attached node.taken (outcome ∷ []) node [] h.used b ls one h.holds;
    }
behind_one node outcome one left Strays h = tt

look_by_went : (node : Node) (port : ℕ) → has_link node port ≡ true → (outcomes : List Outcome)
    → OnPlayed (looks_by node port outcomes) (By (Wents node) outcomes)
look_by_went node port on [] = nothing_used node node [] [] refl refl refl
look_by_went node port on (Saw at look ∷ left) =
    played_if (at == port) (sees node port look left) Strays (By (Wents node) (Saw at look ∷ left))
    (λ t. behind_one node (Saw at look)
    (subst (λ (p : ℕ). Went node.attached node.taken (Saw p look ∷ []) node []) (sym (is_equal at port t)) (went_saw node port look on))
    left (sees node port look left) (sees_went node port look left))
    (λ f. tt)
look_by_went node port on (LookFailed at ∷ left) =
    played_if (at == port) (Goes (detached node port) left (loss node port ∷ [])) Strays (By (Wents node) (LookFailed at ∷ left))
    (λ t. record {
      used = LookFailed at ∷ [];
      whole = refl;
      holds = subst (λ (p : ℕ). Went node.attached node.taken (LookFailed p ∷ []) (detached node port) (loss node port ∷ []))
          (sym (is_equal at port t)) (went_look_failed node port on);
    })
    (λ f. tt)
look_by_went node port on (Took at ∷ left) = tt
look_by_went node port on (SendFailed at ∷ left) = tt

look_went : (node : Node) (port : ℕ) (outcomes : List Outcome) → OnPlayed (looks_at node port outcomes) (By (Wents node) outcomes)
look_went node port outcomes =
    played_if (has_link node port) (looks_by node port outcomes) (Goes node outcomes []) (By (Wents node) outcomes)
    (λ on. look_by_went node port on outcomes) (λ off. nothing_used node node outcomes [] refl refl refl)

looks_went : (ports : List ℕ) (node : Node) (outcomes : List Outcome) → OnPlayed (looks_at_each node ports outcomes) (By (Wents node) outcomes)
looks_went [] node outcomes = nothing_used node node outcomes [] refl refl refl
looks_went (port ∷ ports) node outcomes =
    played_then Wents wents_join node outcomes (looks_at node port outcomes) (λ other left. looks_at_each other ports left)
    (look_went node port outcomes) (λ other left. looks_went ports other left)

pub turn_went : (inputs : List Input) (node : Node) (outcomes : List Outcome) → OnPlayed (takes_turn inputs node outcomes) (By (λ used after lines. Went node.attached node.taken used after lines) outcomes)
turn_went inputs node outcomes =
    played_then Wents wents_join node outcomes (come_all node inputs outcomes) (λ other left. looks_at_each other (ports_of other.attached) left)
    (inputs_went inputs node outcomes) (λ other left. looks_went (ports_of other.attached) other left)
