-- What ports go through, one part of a run after another.
use Rattle.std.proofs.Common.{◌≡◌, ◌≢◌, ℕ, zero, suc, ◌+◌, ◌<◌, ◌≤◌, ◌⊎◌, inl, inr, Bool, true, false, List, [], ◌∷◌, ◌++◌, length, Option, None, Some, refl, sym, ap, ◌∙◌, append_assoc, append-nil, arith}
use Rattle.std.specs.Prelude.{◌==◌, slice_get, slice_set, if◌then◌else◌}
use Rattle.frame_links.specs.ClnpBase.Streams.{Rose}
use Rattle.frame_links.specs.LinkBoard.Links.{CameFrame, SentFrame, LinkState, Grows}
use Rattle.frame_links.specs.LinkBoard.Ports.{PortState}
use Rattle.clnp_machine.specs.LiveModel.Node.{Outcome, Saw, LookFailed, Took, SendFailed, Sending}
use Rattle.clnp_program.specs.LiveNode.Links.{LinkGoes, LinkWent, PortWent, PortsWent, faults_of, has_empty, looks_in, taken_by}

-- ---- outcomes and frames, one part and then the next

looks_in_both : (port : ℕ) (a b : List Outcome) → looks_in port (a ++ b) ≡ looks_in port a ++ looks_in port b
looks_in_both port [] b = refl
looks_in_both port (Saw at look ∷ a) b =
    elim (at == port) as (λ (here : Bool). (if here then look ∷ looks_in port (a ++ b) else looks_in port (a ++ b)) ≡ (if here then look ∷ looks_in port a else looks_in port a) ++ looks_in port b) [
      | true ↦ ap (λ ls. look ∷ ls) (looks_in_both port a b)
      | false ↦ looks_in_both port a b
    ]
looks_in_both port (LookFailed at ∷ a) b = looks_in_both port a b
looks_in_both port (Took at ∷ a) b = looks_in_both port a b
looks_in_both port (SendFailed at ∷ a) b = looks_in_both port a b

taken_by_both : (port : ℕ) (a b : List Sending) → taken_by port (a ++ b) ≡ taken_by port a ++ taken_by port b
taken_by_both port [] b = refl
taken_by_both port (sending ∷ a) b =
    elim (sending.port == port) as (λ (here : Bool). (if here then sending.frame ∷ taken_by port (a ++ b) else taken_by port (a ++ b)) ≡ (if here then sending.frame ∷ taken_by port a else taken_by port a) ++ taken_by port b) [
      | true ↦ ap (λ fs. sending.frame ∷ fs) (taken_by_both port a b)
      | false ↦ taken_by_both port a b
    ]

grows_both : {A : Type 0} (a b c : Option (List A)) (xs ys : List A) → Grows a b xs → Grows b c ys → Grows a c (xs ++ ys)
grows_both a b None xs ys h k = tt
grows_both a None (Some c) xs ys h k = absurd k
grows_both None (Some b) (Some c) xs ys h k = absurd h
grows_both (Some a) (Some b) (Some c) xs ys h k = k ∙ (ap (λ zs. zs ++ ys) h ∙ append_assoc a xs ys)

grows_nothing : {A : Type 0} (a : Option (List A)) → Grows a a []
grows_nothing None = tt
grows_nothing (Some xs) = sym (append-nil xs)

rose_later : (a b c : ℕ) → Rose a b → b ≤ c → Rose a c
rose_later a b c h k = omega (arith, h, k)

pub later_rose : (a b c : ℕ) → a ≤ b → Rose b c → Rose a c
later_rose a b c h k = omega (arith, h, k)

has_empty_both : (a b : List (Option CameFrame)) → has_empty (a ++ b) ≡ true → (has_empty a ≡ true) ⊎ (has_empty b ≡ true)
has_empty_both [] b h = inr h
has_empty_both (None ∷ a) b h = inl refl
has_empty_both (Some frame ∷ a) b h = has_empty_both a b h

-- ---- links and ports

module _ (a b c : LinkState) (looks others : List (Option CameFrame)) (sent more : List SentFrame) (h : LinkWent a b looks sent) (k : LinkWent b c others more) where
  link_both : LinkWent a c (looks ++ others) (sent ++ more)
  link_both =
      record {
        looks_are = grows_both a.looks b.looks c.looks looks others h.looks_are k.looks_are;
        sent_are = grows_both a.sent b.sent c.sent sent more h.sent_are k.sent_are;
        faults = omega (arith, h.faults, k.faults);
        empties = omega (arith, h.empties, k.empties);
        empty = λ e. elim (has_empty_both looks others e) [
          | inl x ↦ rose_later a.empties b.empties c.empties (h.empty x) k.empties
          | inr y ↦ later_rose a.empties b.empties c.empties h.empties (k.empty y)
        ];
      }

link_same : (a : LinkState) → LinkWent a a [] []
link_same a =
    record {
      looks_are = grows_nothing a.looks;
      sent_are = grows_nothing a.sent;
      faults = omega arith;
      empties = omega arith;
      empty = λ e. absurd (cc);
    }

goes_both : (a b c : Option LinkState) (looks others : List (Option CameFrame)) (sent more : List SentFrame)
    → LinkGoes a b looks sent → LinkGoes b c others more → LinkGoes a c (looks ++ others) (sent ++ more)
goes_both None None None looks others sent more h k = (rw (h.0, k.0) refl, rw (h.1, k.1) refl)
goes_both None None (Some c) looks others sent more h k = absurd k
goes_both None (Some b) c looks others sent more h k = absurd h
goes_both (Some a) None c looks others sent more h k = absurd h
goes_both (Some a) (Some b) None looks others sent more h k = absurd k
goes_both (Some a) (Some b) (Some c) looks others sent more h k = link_both a b c looks others sent more h k

goes_nothing : (a : Option LinkState) → LinkGoes a a [] []
goes_nothing None = (refl, refl)
goes_nothing (Some a) = link_same a

faults_grow : (a b : Option LinkState) (looks : List (Option CameFrame)) (sent : List SentFrame) → LinkGoes a b looks sent → faults_of a ≤ faults_of b
faults_grow None None looks sent h = omega arith
faults_grow None (Some b) looks sent h = absurd h
faults_grow (Some a) None looks sent h = absurd h
faults_grow (Some a) (Some b) looks sent h = h.faults

broke_both : (a b c : PortState) (looks others : List (Option CameFrame)) (sent more : List SentFrame)
    → PortWent a b looks sent → PortWent b c others more → a.attached ≡ true → c.attached ≡ false
    → (between : Bool) → b.attached ≡ between → Rose (faults_of a.link) (faults_of c.link)
broke_both a b c looks others sent more h k on off true e =
    later_rose _ _ _ (faults_grow a.link b.link looks sent h.link) (k.broke e off)
broke_both a b c looks others sent more h k on off false e =
    rose_later _ _ _ (h.broke on e) (faults_grow b.link c.link others more k.link)

port_both : (a b c : PortState) (looks others : List (Option CameFrame)) (sent more : List SentFrame)
    → PortWent a b looks sent → PortWent b c others more → PortWent a c (looks ++ others) (sent ++ more)
port_both a b c looks others sent more h k =
    record {
      link = goes_both a.link b.link c.link looks others sent more h.link k.link;
      broke = λ on off. broke_both a b c looks others sent more h k on off b.attached refl;
      stays = λ off. k.stays (ap (λ (p : PortState). p.attached) (h.stays off) ∙ off) ∙ h.stays off;
    }

port_same : (a : PortState) → PortWent a a [] []
port_same a =
    record {
      link = goes_nothing a.link;
      broke = λ on off. absurd (cc);
      stays = λ off. refl;
    }

-- one part, and then the next
pub ports_both : (place : ℕ) (xs ys zs : List PortState) (used more : List Outcome) (sent others : List Sending)
    → PortsWent place xs ys used sent → PortsWent place ys zs more others → PortsWent place xs zs (used ++ more) (sent ++ others)
ports_both place [] [] [] used more sent others h k = tt
ports_both place [] [] (c ∷ zs) used more sent others h k = absurd k
ports_both place [] (b ∷ ys) zs used more sent others h k = absurd h
ports_both place (a ∷ xs) [] zs used more sent others h k = absurd h
ports_both place (a ∷ xs) (b ∷ ys) [] used more sent others h k = absurd k
ports_both place (a ∷ xs) (b ∷ ys) (c ∷ zs) used more sent others h k = (
  rw (looks_in_both place used more, taken_by_both place sent others) (port_both a b c _ _ _ _ h.0 k.0),
  ports_both (suc place) xs ys zs used more sent others h.1 k.1,
)

-- nothing happens
pub ports_same : (place : ℕ) (xs : List PortState) → PortsWent place xs xs [] []
ports_same place [] = tt
ports_same place (a ∷ xs) = (port_same a, ports_same (suc place) xs)

-- no port comes or goes
pub ports_length : (place : ℕ) (xs ys : List PortState) (used : List Outcome) (sent : List Sending) → PortsWent place xs ys used sent → length ys ≡ length xs
ports_length place [] [] used sent h = refl
ports_length place [] (b ∷ ys) used sent h = absurd h
ports_length place (a ∷ xs) [] used sent h = absurd h
ports_length place (a ∷ xs) (b ∷ ys) used sent h = ap suc (ports_length (suc place) xs ys used sent h.1)

-- ---- one port alone: what the others see of outcomes at this port is nothing

abbrev pub OnlyAt : ℕ → List Outcome → List Sending → Type 0
OnlyAt port used sent = (other : ℕ) → other ≢ port → (looks_in other used ≡ []) × (taken_by other sent ≡ [])

ports_kept : (place port : ℕ) (xs : List PortState) (used : List Outcome) (sent : List Sending)
    → OnlyAt port used sent → port < place → PortsWent place xs xs used sent
ports_kept place port [] used sent only less = tt
ports_kept place port (a ∷ xs) used sent only less =
    let none = only place (λ e. omega (arith, e, less)) in
    (rw (none.0, none.1) (port_same a), ports_kept (suc place) port xs used sent only (omega arith))

-- the port at a place from a number on changed, and no other
pub port_changed : (place at port : ℕ) (xs : List PortState) (old new : PortState) (used : List Outcome) (sent : List Sending)
    → port ≡ place + at → OnlyAt port used sent → slice_get xs at ≡ Some old
    → PortWent old new (looks_in port used) (taken_by port sent)
    → PortsWent place xs (slice_set xs at new) used sent
port_changed place at port [] old new used sent e only there went = absurd (cc)
port_changed place zero port (x ∷ xs) old new used sent e only there went =
    let same : x ≡ old = cc in
    let here : port ≡ place = omega (arith, e) in
    (rw (same, ← here) went, ports_kept (suc place) port xs used sent only (omega (arith, here)))
port_changed place (suc at) port (x ∷ xs) old new used sent e only there went =
    let none = only place (λ h. omega (arith, h, e)) in (
      rw (none.0, none.1) (port_same x),
      port_changed (suc place) at port xs old new used sent (omega (arith, e)) only there went,
    )
