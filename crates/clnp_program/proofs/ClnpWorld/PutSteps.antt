-- What a network of the code shows after a note was written or a frame put on a subnetwork.
use Rattle.std.proofs.Common.{◌≡◌, ℕ, ◌+◌, ◌<◌, ◌≤◌, inl, inr, cond, Bool, List, [], ◌∷◌, ◌++◌, length, map, get_or, Option, Some, None, refl, sym, ap, ◌∙◌, subst, append-nil, length-append, arith}
use Rattle.std.specs.Prelude.{slice_get, sum}
use Rattle.std.specs.List.{AllByRecursion}
use Rattle.std.proofs.lemmas.List.{length-map, map-append}
use Rattle.std.proofs.lemmas.List.Sums.{sum_by-append}
use Rattle.std.proofs.lemmas.Option.{slice_get_past, slice_get_read}
use Rattle.clnp_machine.specs.Pdus.declared.nsap.target.Target.{Target}
use Rattle.clnp_machine.specs.PduHeader.Spelling.{header}
use Rattle.clnp_machine.proofs.PduHeader.Written.{length-header}
use Rattle.clnp_machine.specs.EsisPdus.Grammar.{IsPdu}
use Rattle.clnp_machine.specs.EsisPdus.Spelling.{spelling}
use Rattle.clnp_machine.specs.EsisPdus.Value.{EsisValue}
use Rattle.clnp_machine.proofs.EsisPdus.Frames.{laid_out}
use Rattle.clnp_machine.specs.ClnpPlan.declared.config.PortConfig.{PortConfig}
use Rattle.clnp_machine.specs.ClnpPlan.declared.note.Note.{Note}
use Rattle.clnp_machine.specs.ClnpPlan.declared.output.Output as output
use Rattle.clnp_machine.specs.ClnpPlan.declared.output.Output.TheVariants.{Transmit, Note as Told}
use Rattle.clnp_machine.specs.ClnpPlan.declared.output.Sending.{Sending}
use Rattle.clnp_machine.specs.ClnpPlan.Journal.{Noted, Transmitted, Line}
use Rattle.clnp_machine.specs.Unit.{DataUnit, DeclaredAt, Maker, Packet, value_of, wire, IsCarriable}
use Rattle.clnp_machine.specs.Content.{Content, Esis, IsCarried, Labelled, Unlabelled, frame_of}
use Rattle.clnp_machine.specs.System.{SystemState, Output, Transmits, SendsEsis, Notes}
use Rattle.clnp_machine.specs.Ways.{IsOwnWhereFirst}
use Rattle.clnp_machine.specs.ClnpNetwork.LabelledNetwork as network
use Rattle.clnp_systems.specs.declared.system.System.{System}
use Rattle.clnp_machine.specs.Given.{CarriesUnit, GiveAll, Gives}
use Rattle.clnp_program.specs.ClnpWorld.Lines.{Gains, Taken}
use Rattle.clnp_program.specs.ClnpWorld.Seen.{frame_copy, frame_copies, frames_weight, origin_of}
use Rattle.clnp_program.specs.ClnpWorld.Stands.{IsMadeWithUnit, StandEach}
use Rattle.clnp_program.specs.ClnpWorld.Parts.{Shows, Puts, PutsCopies}
use Rattle.clnp_program.specs.declared.clnp_world.network.Network.{Network}
use Rattle.clnp_program.specs.declared.clnp_world.copy.FrameCopy.{FrameCopy}
use Rattle.clnp_program.specs.declared.clnp_world.copy.Origin.{Origin}
use Rattle.clnp_machine.proofs.ClnpBase.Lists.{AllByRecursion-append}
use Rattle.clnp_program.proofs.ClnpWorld.LineSteps.{gains_nothing, gains_more}
use Rattle.clnp_program.proofs.ClnpWorld.ModelSteps.{put_all_out-push, systems-put_all_out}

-- nothing happens
pub puts_nothing : (code : Network) (model : network.LabelledNetwork) (lines : Taken) → Shows code model → Puts code lines lines (network.nothing model)
puts_nothing code model lines h = record { shows = h; lines = gains_nothing lines }

-- one part, and then the next
pub puts_then : (code : Network) (before between after : Taken) (part : network.Step) (next : network.LabelledNetwork → network.Step)
    → Gains before between part.lines → Puts code between after (next part.world)
    → Puts code before after (network.followed_by part next)
puts_then code before between after part next e h =
    record { shows = h.shows; lines = gains_more before between after part.lines (next part.world).lines e h.lines }

-- nothing changes but that a line is written
pub puts_line : (code : Network) (before after : Taken) (model : network.LabelledNetwork) (line : Line) → Shows code model → Gains before after (line ∷ [])
    → Puts code before after (network.writes model line)
puts_line code before after model line h e = record { shows = h; lines = e }

-- Weights.

sum_append : (xs ys : List ℕ) → sum (xs ++ ys) ≡ sum xs + sum ys
sum_append xs ys = sum_by-append (λ (n : ℕ). n) xs ys

pub weight_append : (model : network.LabelledNetwork) (copies : List network.Copy)
    → sum (map network.copy_weight (model.copies ++ copies)) ≡ network.weight model + sum (map network.copy_weight copies)
weight_append model copies =
    ap sum (map-append network.copy_weight model.copies copies) ∙ sum_append (map network.copy_weight model.copies) (map network.copy_weight copies)

weights_are : (copies : List network.Copy)
    → map (λ (copy : FrameCopy). length copy.frame + 64) (map frame_copy copies) ≡ map network.copy_weight copies
weights_are [] = refl
weights_are (copy ∷ copies) = ap (λ (ns : List ℕ). network.copy_weight copy ∷ ns) (weights_are copies)

frames_weight_is : (copies : List network.Copy) → frames_weight (map frame_copy copies) ≡ sum (map network.copy_weight copies)
frames_weight_is copies = ap sum (weights_are copies)

-- The copy of a frame.

-- the code's copy is the model's
copy_seen : (port : Option PortConfig) (target : Target) (maker : Maker) (birth : ℕ) (content : Content)
    → frame_copies port target (origin_of maker birth) (frame_of content) ≡ map frame_copy (network.copy_from port target maker birth content)
copy_seen None target maker birth content = refl
copy_seen (Some port) target maker birth content = refl

-- a PDU has fewer than 65,536 octets
wire_short : (packet : Packet) → IsCarriable packet → length (wire packet) ≤ 70000
wire_short packet h =
    let split = length-append (header (value_of packet)) (value_of packet).body in
    let head = length-header (value_of packet) in
    let fits = h.pdu.segment_fits in
    omega (arith, split, head, fits)

-- an ES-IS PDU has at most 254
esis_short : (value : EsisValue) → IsPdu value → length (spelling value) ≤ 70000
esis_short value h = omega (arith, ap length (laid_out value).layout, h.header_fits)

abbrev pub Carried : network.Copy → Type 0
Carried copy = IsCarried copy.content

abbrev pub Short : FrameCopy → Type 0
Short copy = length copy.frame ≤ 70000

copy_carried : (port : Option PortConfig) (target : Target) (maker : Maker) (birth : ℕ) (content : Content) → IsCarried content
    → AllByRecursion Carried (network.copy_from port target maker birth content)
copy_carried None target maker birth content good = tt
copy_carried (Some port) target maker birth content good = (good, tt)

abbrev pub Born : network.Copy → Type 0
Born copy = IsMadeWithUnit (origin_of copy.maker copy.birth) copy.content

copy_born : (port : Option PortConfig) (target : Target) (maker : Maker) (birth : ℕ) (content : Content)
    → IsMadeWithUnit (origin_of maker birth) content
    → AllByRecursion Born (network.copy_from port target maker birth content)
copy_born None target maker birth content born = tt
copy_born (Some port) target maker birth content born = (born, tt)

copy_short : (port : Option PortConfig) (target : Target) (origin : Origin) (frame : List ℕ) → length frame ≤ 70000
    → AllByRecursion Short (frame_copies port target origin frame)
copy_short None target origin frame short = tt
copy_short (Some port) target origin frame short = (short, tt)

-- some copies are put behind the others
pub shows_more : (old code : Network) (made : List network.Copy) (frames : List FrameCopy) → frames ≡ map frame_copy made
    → AllByRecursion Carried made → AllByRecursion Born made → AllByRecursion Short frames
    → PutsCopies old code frames → code ≡ record old { copies = code.copies; weight = code.weight }
    → (model : network.LabelledNetwork) → Shows old model → Shows code (record model { copies = model.copies ++ made })
shows_more old code made frames seen good born short put others model h = record {
  clock = ap (λ (w : Network). w.clock) others ∙ h.clock;
  systems = subst (λ (nodes : List System). StandEach nodes model.systems) (ap (λ (w : Network). w.systems.items) (sym others)) h.systems;
  mtus = ap (λ (w : Network). w.mtus.items) others ∙ h.mtus;
  wide = h.wide;
  copies = put.copies ∙ ap (λ (cs : List FrameCopy). cs ++ frames) h.copies
      ∙ ap (λ (cs : List FrameCopy). map frame_copy model.copies ++ cs) seen
      ∙ sym (map-append frame_copy model.copies made);
  cursor = ap (λ (w : Network). w.cursor) others ∙ h.cursor;
  carried = AllByRecursion-append Carried model.copies made h.carried good;
  born = AllByRecursion-append Born model.copies made h.born born;
  short = subst (λ (cs : List FrameCopy). AllByRecursion Short cs) (sym put.copies)
      (AllByRecursion-append Short old.copies.items frames h.short short);
  placed = h.placed;
  weight = put.weight ∙ ap (λ (n : ℕ). n + frames_weight frames) h.weight
      ∙ ap (λ (cs : List FrameCopy). network.weight model + frames_weight cs) seen
      ∙ ap (λ (n : ℕ). network.weight model + n) (frames_weight_is made)
      ∙ sym (weight_append model made);
}

-- a frame that stands for what it carries
puts_frame : (old code : Network) (before after : Taken) (port : ℕ) (target : Target) (maker : Maker) (birth : ℕ) (content : Content) (system : SystemState)
    → (model : network.LabelledNetwork) → Shows old model → IsCarried content → IsMadeWithUnit (origin_of maker birth) content → length (frame_of content) ≤ 70000
    → Gains before after (Transmitted system.moment system.configuration.name (length model.copies + 1) port target (frame_of content) ∷ [])
    → PutsCopies old code (frame_copies (slice_get system.attached.ports port) target (origin_of maker birth) (frame_of content))
    → code ≡ record old { copies = code.copies; weight = code.weight }
    → Puts code before after (network.sends_frame system model port target maker birth content)
puts_frame old code before after port target maker birth content system model h good born few line put others =
    let at = slice_get system.attached.ports port in
    record {
      shows = shows_more old code (network.copy_from at target maker birth content) (frame_copies at target (origin_of maker birth) (frame_of content))
          (copy_seen at target maker birth content) (copy_carried at target maker birth content good)
          (copy_born at target maker birth content born) (copy_short at target (origin_of maker birth) (frame_of content) few) put others model h;
      lines = line;
    }

-- the origin of the frame that the system at a place sends, where what came has another
abbrev pub sent_origin : Sending → (came : Origin) → (place moment : ℕ) → Origin
sent_origin sending came place moment = cond sending.forwarded came (record { maker = Some place; birth = moment })

-- what a system itself makes has the origin of what it made
own_origin : (maker : Maker) (made place moment : ℕ) → maker ≡ DeclaredAt place → made ≡ moment
    → (let own : Origin = record { maker = Some place; birth = moment } in own) ≡ origin_of maker made
own_origin maker made place moment by at = sym (ap (λ (m : Maker). origin_of m made) by ∙ ap (origin_of (DeclaredAt place)) at)

-- a frame that goes on is as old as the unit of the one that came
as_old : (came : Origin) (content : Content) (u : DataUnit) → IsMadeWithUnit came content → CarriesUnit content u
    → came ≡ origin_of u.maker u.made
as_old came (Labelled packet following) u born same = born ∙ ap (λ (v : DataUnit). origin_of v.maker v.made) same
as_old came (Esis value following) u born same = absurd same
as_old came (Unlabelled octets) u born same = absurd same

-- the frame of a packet
sends_packet : (old code : Network) (before after : Taken) (sending : Sending) (frame : List ℕ) (origin : Origin) (port : ℕ) (target : Target) (packet : Packet)
    → frame ≡ sending.frame
    → (model : network.LabelledNetwork) (system : SystemState) → Shows old model
    → Gains before after (Transmitted system.moment system.configuration.name (length model.copies + 1) sending.port sending.to frame ∷ [])
    → PutsCopies old code (frame_copies (slice_get system.attached.ports sending.port) sending.to origin frame)
    → code ≡ record old { copies = code.copies; weight = code.weight }
    → sending.port ≡ port → sending.to ≡ target → sending.frame ≡ wire packet → IsCarriable packet
    → origin ≡ origin_of packet.unit.maker packet.unit.made
    → Puts code before after (network.put_out system model (Transmits port target packet))
sends_packet old code before after sending frame origin port target packet frame_is model system h line put others port_is target_is spelled carriable made =
    let octets : frame ≡ wire packet ++ [] = frame_is ∙ spelled ∙ sym (append-nil (wire packet)) in
    let few : length (wire packet ++ []) ≤ 70000 = omega (arith, wire_short packet carriable, ap length (append-nil (wire packet))) in
    let line' = rw (port_is, target_is, octets) at line in
    let put' = subst (λ (o : Origin). PutsCopies old code (frame_copies (slice_get system.attached.ports port) target o (wire packet ++ []))) made
    (rw (port_is, target_is, octets) at put) in
    puts_frame old code before after port target packet.unit.maker packet.unit.made (Labelled packet []) system model h carriable refl few line' put' others

-- the frame that a sending is stands for an output of the model
sends : (old code : Network) (before after : Taken) (place : ℕ) (came origin : Origin) (content : Content) (sending : Sending) (frame : List ℕ) (other : Output)
    → frame ≡ sending.frame
    → (model : network.LabelledNetwork) (system : SystemState) → Shows old model → system.place ≡ place → origin ≡ sent_origin sending came place system.moment
    → Gains before after (Transmitted system.moment system.configuration.name (length model.copies + 1) sending.port sending.to frame ∷ [])
    → PutsCopies old code (frame_copies (slice_get system.attached.ports sending.port) sending.to origin frame)
    → code ≡ record old { copies = code.copies; weight = code.weight } → IsMadeWithUnit came content → IsOwnWhereFirst system other
    → Gives system.moment (Some content) (Transmit sending) other → Puts code before after (network.put_out system model other)
sends old code before after place came origin content sending frame (Notes note) frame_is model system h here origin_is line put others born own gives = absurd gives
sends old code before after place came origin content sending frame (Transmits port target packet) frame_is model system h here origin_is line put others born own (inl first) =
    let itself = own_origin packet.unit.maker packet.unit.made place system.moment (own first.hops ∙ ap DeclaredAt here) first.made in
    let now = origin_is ∙ ap (λ (b : Bool). cond b came (record { maker = Some place; birth = system.moment })) first.first ∙ itself in
    sends_packet old code before after sending frame origin port target packet frame_is model system h line put others
    first.port_is first.target_is first.octets first.carriable now
sends old code before after place came origin content sending frame (Transmits port target packet) frame_is model system h here origin_is line put others born own (inr on) =
    let before_now = origin_is ∙ ap (λ (b : Bool). cond b came (record { maker = Some place; birth = system.moment })) on.forwarded in
    sends_packet old code before after sending frame origin port target packet frame_is model system h line put others
    on.port_is on.target_is on.octets on.carriable (before_now ∙ as_old came content packet.unit born on.unit)
sends old code before after place came origin content sending frame (SendsEsis port target value) frame_is model system h here origin_is line put others born own gives =
    let octets : frame ≡ spelling value ++ [] = frame_is ∙ gives.octets ∙ sym (append-nil (spelling value)) in
    let port_is : sending.port ≡ port = gives.port_is in
    let target_is : sending.to ≡ target = gives.target_is in
    let now : origin ≡ origin_of (DeclaredAt system.place) system.moment
    = origin_is ∙ ap (λ (b : Bool). cond b came (record { maker = Some place; birth = system.moment })) gives.first
    ∙ own_origin (DeclaredAt system.place) system.moment place system.moment (ap DeclaredAt here) refl in
    let few : length (spelling value ++ []) ≤ 70000 = omega (arith, esis_short value gives.pdu, ap length (append-nil (spelling value))) in
    let line' = rw (port_is, target_is, octets) at line in
    let put' = subst (λ (o : Origin). PutsCopies old code (frame_copies (slice_get system.attached.ports port) target o (spelling value ++ []))) now
    (rw (port_is, target_is, octets) at put) in
    puts_frame old code before after port target (DeclaredAt system.place) system.moment (Esis value []) system model h gives.pdu tt few line' put' others

-- an output that is a frame stands for one of the model
pub puts_transmission : (old code : Network) (before after : Taken) (place : ℕ) (came origin : Origin) (sending : Sending) (frame : List ℕ) (out : output.Output)
    → out ≡ Transmit sending → frame ≡ sending.frame
    → ((model : network.LabelledNetwork) (system : SystemState) → Shows old model → slice_get model.systems place ≡ Some system
    → origin ≡ sent_origin sending came place system.moment)
    → ((model : network.LabelledNetwork) (system : SystemState) → Shows old model → slice_get model.systems place ≡ Some system
    → Gains before after (Transmitted system.moment system.configuration.name (length model.copies + 1) sending.port sending.to frame ∷ []))
    → ((model : network.LabelledNetwork) (system : SystemState) → Shows old model → slice_get model.systems place ≡ Some system
    → PutsCopies old code (frame_copies (slice_get system.attached.ports sending.port) sending.to origin frame))
    → code ≡ record old { copies = code.copies; weight = code.weight }
    → (model : network.LabelledNetwork) (system : SystemState) (content : Content) (other : Output) → Shows old model
    → slice_get model.systems place ≡ Some system → IsMadeWithUnit came content → IsOwnWhereFirst system other
    → Gives system.moment (Some content) out other → Puts code before after (network.put_out system model other)
puts_transmission old code before after place came origin sending frame out is frame_is origin_is line copies others model system content other h there born own gives =
    sends old code before after place came origin content sending frame other frame_is model system h (h.placed place system there)
    (origin_is model system h there) (line model system h there) (copies model system h there) others born own
    (subst (λ (o : output.Output). Gives system.moment (Some content) o other) is gives)

-- an output that is a note stands for one of the model
tells : (code : Network) (before after : Taken) (content : Content) (note : Note) (other : Output) (model : network.LabelledNetwork) (system : SystemState) → Shows code model
    → Gains before after (Noted system.moment system.configuration.name note ∷ [])
    → Gives system.moment (Some content) (Told note) other → Puts code before after (network.put_out system model other)
tells code before after content note (Transmits port target packet) model system h line gives = absurd gives
tells code before after content note (SendsEsis port target value) model system h line gives = absurd gives
tells code before after content note (Notes told) model system h line gives =
    puts_line code before after model (Noted system.moment system.configuration.name told) h (rw gives at line)

pub puts_note : (code : Network) (before after : Taken) (place : ℕ) (came : Origin) (note : Note) (out : output.Output) → out ≡ Told note
    → ((model : network.LabelledNetwork) (system : SystemState) → Shows code model → slice_get model.systems place ≡ Some system
    → Gains before after (Noted system.moment system.configuration.name note ∷ []))
    → (model : network.LabelledNetwork) (system : SystemState) (content : Content) (other : Output) → Shows code model
    → slice_get model.systems place ≡ Some system → IsMadeWithUnit came content → IsOwnWhereFirst system other
    → Gives system.moment (Some content) out other → Puts code before after (network.put_out system model other)
puts_note code before after place came note out is line model system content other h there born own gives =
    tells code before after content note other model system h (line model system h there)
    (subst (λ (o : output.Output). Gives system.moment (Some content) o other) is gives)

-- Many outputs.

-- the last of the outputs that the code has
split_last : (moment : ℕ) (content : Content) (xs : List output.Output) (x : output.Output) (others : List Output) → GiveAll moment (Some content) (xs ++ x ∷ []) others
    → (front : List Output) × (last : Output) × (others ≡ front ++ last ∷ []) × GiveAll moment (Some content) xs front × Gives moment (Some content) x last
split_last moment content [] x [] h = absurd h
split_last moment content [] x (other ∷ []) h = ([], other, refl, tt, h.0)
split_last moment content [] x (other ∷ (more ∷ others)) h = absurd h.1
split_last moment content (y ∷ ys) x [] h = absurd h
split_last moment content (y ∷ ys) x (other ∷ others) h =
    let r = split_last moment content ys x others h.1 in
    (other ∷ r.0, r.1, ap (λ (os : List Output). other ∷ os) r.2, (h.0, r.3), r.4)

no_outputs : (moment : ℕ) (content : Content) (others : List Output) → GiveAll moment (Some content) [] others → others ≡ []
no_outputs moment content [] h = refl
no_outputs moment content (other ∷ others) h = absurd h

all_parts : {X : Type 0} (P : X → Type 0) (xs ys : List X) → AllByRecursion P (xs ++ ys) → AllByRecursion P xs × AllByRecursion P ys
all_parts P [] ys h = (tt, h)
all_parts P (x ∷ xs) ys h = let r = all_parts P xs ys h.1 in ((h.0, r.0), r.1)

-- what the code has put out of a system's outputs is what the model has, where the system was given what has an origin
abbrev pub PutsOut : Network → Network → Taken → Taken → (place : ℕ) → (came : Origin) → List output.Output → Type 0
PutsOut start code before after place came outputs =
    (model : network.LabelledNetwork) (system : SystemState) (content : Content) (others : List Output) → Shows start model
    → slice_get model.systems place ≡ Some system → IsMadeWithUnit came content → AllByRecursion (IsOwnWhereFirst system) others
    → GiveAll system.moment (Some content) outputs others → Puts code before after (network.put_all_out system model others)

pub puts_none : (code : Network) (lines : Taken) (place : ℕ) (came : Origin) → PutsOut code code lines lines place came []
puts_none code lines place came model system content others h there born own gives =
    subst (λ (os : List Output). Puts code lines lines (network.put_all_out system model os)) (sym (no_outputs system.moment content others gives))
    (puts_nothing code model lines h)

pub puts_more : (start mid code : Network) (before between after : Taken) (place : ℕ) (came : Origin) (outputs : List output.Output) (out : output.Output)
    → PutsOut start mid before between place came outputs
    → ((model : network.LabelledNetwork) (system : SystemState) (content : Content) (other : Output) → Shows mid model
    → slice_get model.systems place ≡ Some system → IsMadeWithUnit came content → IsOwnWhereFirst system other
    → Gives system.moment (Some content) out other → Puts code between after (network.put_out system model other))
    → PutsOut start code before after place came (outputs ++ out ∷ [])
puts_more start mid code before between after place came outputs out so_far next model system content others h there born own gives =
    let r = split_last system.moment content outputs out others gives in
    let each = all_parts (IsOwnWhereFirst system) r.0 (r.1 ∷ []) (subst (λ (os : List Output). AllByRecursion (IsOwnWhereFirst system) os) r.2 own) in
    let front = so_far model system content r.0 h there born each.0 r.3 in
    let w = network.put_all_out system model r.0 in
    let there' : slice_get w.world.systems place ≡ Some system
    = subst (λ (ss : List SystemState). slice_get ss place ≡ Some system) (sym (systems-put_all_out system model r.0)) there in
    let last = next w.world system content r.1 front.shows there' born each.1.0 r.4 in
    subst (λ (s : network.Step). Puts code before after s)
    (sym (put_all_out-push system model r.0 r.1) ∙ ap (λ (os : List Output). network.put_all_out system model os) (sym r.2))
    (puts_then code before between after w (λ v. network.put_out system v r.1) front.lines last)

-- The port of a copy is read, or there is none at its number.

pub copies_past : (old : Network) (ports own : List PortConfig) (i port : ℕ) (target : Target) (origin : Origin) (frame : List ℕ)
    → ports ≡ own → i ≡ port → length ports ≤ i → PutsCopies old old (frame_copies (slice_get own port) target origin frame)
copies_past old ports own i port target origin frame e n past =
    let none : slice_get own port ≡ None
    = subst (λ (ps : List PortConfig). slice_get ps port ≡ None) e (subst (λ (k : ℕ). slice_get ports k ≡ None) n (slice_get_past ports i past)) in
    subst (λ (p : Option PortConfig). PutsCopies old old (frame_copies p target origin frame)) (sym none)
    record { copies = sym (append-nil old.copies.items); weight = omega arith }

pub copies_read : (old code : Network) (ports own : List PortConfig) (i port : ℕ) (at : PortConfig) (target : Target) (origin : Origin) (frame : List ℕ)
    → ports ≡ own → i ≡ port → i < length ports → at ≡ get_or ports i at
    → PutsCopies old code (record { subnet = at.subnet; sender = at.snpa; target = target; origin = origin; frame = frame } ∷ [])
    → PutsCopies old code (frame_copies (slice_get own port) target origin frame)
copies_read old code ports own i port at target origin frame e n within read put =
    let one : slice_get own port ≡ Some at
    = subst (λ (ps : List PortConfig). slice_get ps port ≡ Some at) e
    (subst (λ (k : ℕ). slice_get ports k ≡ Some at) n (slice_get_read ports _ i at refl within read)) in
    subst (λ (p : Option PortConfig). PutsCopies old code (frame_copies p target origin frame)) (sym one) put

-- A line of the code's words is the one of the model's.

pub same_transmission : (before after : Taken) (t u : ℕ) (name own : List ℕ) (n m port : ℕ) (target : Target) (frame octets : List ℕ)
    → t ≡ u → name ≡ own → n ≡ m → octets ≡ frame → Gains before after (Transmitted t name (n + 1) port target octets ∷ [])
    → Gains before after (Transmitted u own (m + 1) port target frame ∷ [])
same_transmission before after t u name own n m port target frame octets a b c d e =
    subst (λ (l : Line). Gains before after (l ∷ [])) (same a b c d) e
  where
    same : t ≡ u → name ≡ own → n ≡ m → octets ≡ frame → Transmitted t name (n + 1) port target octets ≡ Transmitted u own (m + 1) port target frame
    same a b c d = cc

pub counted : (code : Network) (model : network.LabelledNetwork) → Shows code model → length code.copies.items ≡ length model.copies
counted code model h = ap length h.copies ∙ length-map model.copies frame_copy
