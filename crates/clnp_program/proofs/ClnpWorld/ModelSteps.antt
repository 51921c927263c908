-- One more output, addressee, tick or system at the end of a list, and what the parts of a move leave as it was.
use Rattle.std.proofs.Common.{◌≡◌, ℕ, zero, suc, ◌+◌, List, [], ◌∷◌, ◌++◌, ◌≤◌, length, take, map, cond, Bool, true, false, Option, None, Some, refl, sym, ap, ◌∙◌, subst, arith, inl, inr, append-nil, append_assoc, add-zero, zero-add}
use Rattle.std.specs.Prelude.{nat_lt, slice_get}
use Rattle.std.specs.List.{AllByRecursion, list_any, position, position_or_len, range_with_len}
use Rattle.std.proofs.lemmas.Bool.{cases_Bool, ltb-true, ltb-false, lt-ltb, le-ltb}
use Rattle.std.proofs.lemmas.List.Recursion.{is_position_or_len}
use Rattle.std.proofs.lemmas.List.Concat.{flat_map-append}
use Rattle.clnp_machine.specs.Attachment.{Attachment}
use Rattle.clnp_machine.specs.ClnpPlan.Configuration.{SystemConfiguration}
use Rattle.clnp_machine.specs.ClnpPlan.Journal.{Line, Late, told_text}
use Rattle.clnp_machine.specs.ClnpPlan.declared.journal.Telling.{Telling}
use Rattle.clnp_machine.specs.ClnpPlan.declared.config.Limits.{Limits}
use Rattle.clnp_machine.specs.ClnpPlan.declared.config.PortConfig.{PortConfig}
use Rattle.clnp_machine.specs.ClnpPlan.declared.config.Role.{Role}
use Rattle.clnp_machine.specs.Pdus.declared.nsap.target.Target.{Target}
use Rattle.clnp_machine.specs.Content.{Content, Esis, Labelled}
use Rattle.clnp_machine.specs.Unit.{DeclaredAt, Maker, Outside}
use Rattle.clnp_machine.specs.System.{SystemState, Output, Transmits, SendsEsis, Notes, Effect, first_state}
use Rattle.clnp_machine.specs.Step.{step}
use Rattle.clnp_machine.specs.ClnpNetwork.Clocks.{NoneIsAhead}
use Rattle.clnp_machine.specs.ClnpNetwork.LabelledNetwork as network
use Rattle.clnp_machine.specs.ClnpNetwork.Run.{told_lines}
use Rattle.clnp_program.specs.ClnpWorld.Seen.{IsPortFor}
use Rattle.clnp_machine.proofs.ClnpBase.ListSteps.{slice_get_front, take_push, map_set, all_set, range_push}
pub use Rattle.clnp_machine.proofs.Deeds.{step_attached, step_itself, step_moment}

pub told_lines-append : (telling : Telling) (xs ys : List Line) → told_lines telling (xs ++ ys) ≡ told_lines telling xs ++ told_lines telling ys
told_lines-append telling xs ys = flat_map-append (told_text telling) xs ys

pub step_same : (w : network.LabelledNetwork) (xs ys : List Line) → xs ≡ ys
    → (let s : network.Step = record { world = w; lines = xs } in s) ≡ (let s : network.Step = record { world = w; lines = ys } in s)
step_same w xs ys e = ap (λ (ls : List Line). (let s : network.Step = record { world = w; lines = ls } in s)) e

pub followed_by-nothing : (step : network.Step) → network.followed_by step network.nothing ≡ step
followed_by-nothing step = step_same step.world (step.lines ++ []) step.lines (append-nil step.lines)

pub followed_by-followed_by : (step : network.Step) (f g : network.LabelledNetwork → network.Step)
    → network.followed_by (network.followed_by step f) g ≡ network.followed_by step (λ w. network.followed_by (f w) g)
followed_by-followed_by step f g =
    step_same (g (f step.world).world).world ((step.lines ++ (f step.world).lines) ++ (g (f step.world).world).lines)
    (step.lines ++ ((f step.world).lines ++ (g (f step.world).world).lines))
    (append_assoc step.lines (f step.world).lines (g (f step.world).world).lines)

pub put_all_out-push : (system : SystemState) (w : network.LabelledNetwork) (outs : List Output) (out : Output)
    → network.put_all_out system w (outs ++ out ∷ []) ≡ network.followed_by (network.put_all_out system w outs) (λ v. network.put_out system v out)
put_all_out-push system w [] out = followed_by-nothing (network.put_out system w out)
put_all_out-push system w (first ∷ outs) out =
    ap (λ (s : network.Step). (let r : network.Step = record { world = s.world; lines = (network.put_out system w first).lines ++ s.lines } in r))
    (put_all_out-push system (network.put_out system w first).world outs out)
    ∙ sym (followed_by-followed_by (network.put_out system w first) (λ v. network.put_all_out system v outs) (λ v. network.put_out system v out))

-- What is put out leaves the systems and the clock as they were, and each copy where it is.

systems-put_out : (system : SystemState) (w : network.LabelledNetwork) (out : Output) → (network.put_out system w out).world.systems ≡ w.systems
systems-put_out system w (Notes note) = refl
systems-put_out system w (Transmits port target packet) = refl
systems-put_out system w (SendsEsis port target value) = refl

clock-put_out : (system : SystemState) (w : network.LabelledNetwork) (out : Output) → (network.put_out system w out).world.clock ≡ w.clock
clock-put_out system w (Notes note) = refl
clock-put_out system w (Transmits port target packet) = refl
clock-put_out system w (SendsEsis port target value) = refl

pub systems-put_all_out : (system : SystemState) (w : network.LabelledNetwork) (outs : List Output)
    → (network.put_all_out system w outs).world.systems ≡ w.systems
systems-put_all_out system w [] = refl
systems-put_all_out system w (first ∷ outs) = systems-put_all_out system (network.put_out system w first).world outs ∙ systems-put_out system w first

pub clock-put_all_out : (system : SystemState) (w : network.LabelledNetwork) (outs : List Output)
    → (network.put_all_out system w outs).world.clock ≡ w.clock
clock-put_all_out system w [] = refl
clock-put_all_out system w (first ∷ outs) = clock-put_all_out system (network.put_out system w first).world outs ∙ clock-put_out system w first

-- the copy that a frame of a system makes on a port's subnetwork, where it has that port
abbrev pub made_by : SystemState → (port : ℕ) → Target → Maker → (birth : ℕ) → Content → List network.Copy
made_by system port target maker birth content = network.copy_from (slice_get system.attached.ports port) target maker birth content

copy-put_out : (system : SystemState) (w : network.LabelledNetwork) (out : Output) (i : ℕ) (copy : network.Copy)
    → slice_get w.copies i ≡ Some copy → slice_get (network.put_out system w out).world.copies i ≡ Some copy
copy-put_out system w (Notes note) i copy e = e
copy-put_out system w (Transmits port target packet) i copy e =
    slice_get_front w.copies (made_by system port target packet.unit.maker packet.unit.made (Labelled packet [])) i copy e
copy-put_out system w (SendsEsis port target value) i copy e =
    slice_get_front w.copies (made_by system port target (DeclaredAt system.place) system.moment (Esis value [])) i copy e

copy-put_all_out : (system : SystemState) (w : network.LabelledNetwork) (outs : List Output) (i : ℕ) (copy : network.Copy)
    → slice_get w.copies i ≡ Some copy → slice_get (network.put_all_out system w outs).world.copies i ≡ Some copy
copy-put_all_out system w [] i copy e = e
copy-put_all_out system w (first ∷ outs) i copy e =
    copy-put_all_out system (network.put_out system w first).world outs i copy (copy-put_out system w first i copy e)

copy-takes_effect : (w : network.LabelledNetwork) (place : ℕ) (effect : Effect) (i : ℕ) (copy : network.Copy)
    → slice_get w.copies i ≡ Some copy → slice_get (network.takes_effect w place effect).world.copies i ≡ Some copy
copy-takes_effect w place effect i copy e =
    copy-put_all_out effect.after (network.with_effect w place effect) effect.outputs i copy e

-- a step that leaves its system's clock where it isn't ahead of the network's leaves all so
pub behind-takes_effect : (w : network.LabelledNetwork) (place : ℕ) (effect : Effect) → NoneIsAhead w → effect.after.moment ≤ w.clock
    → NoneIsAhead (network.takes_effect w place effect).world
behind-takes_effect w place effect h now =
    let v = network.with_effect w place effect in
    let set : AllByRecursion (λ (s : SystemState). s.moment ≤ w.clock) v.systems
    = all_set (λ (s : SystemState). s.moment ≤ w.clock) w.systems place effect.after h now in
    subst (λ (t : ℕ). AllByRecursion (λ (s : SystemState). s.moment ≤ t) (network.put_all_out effect.after v effect.outputs).world.systems)
    (sym (clock-put_all_out effect.after v effect.outputs))
    (subst (λ (ss : List SystemState). AllByRecursion (λ (s : SystemState). s.moment ≤ w.clock) ss)
    (sym (systems-put_all_out effect.after v effect.outputs)) set)

-- Where a copy is given, what the scenario says of the systems isn't changed, nor what they are attached to, nor their clocks: so
-- whom it is for and whether it is late is the same before the first is given it and behind that.

pub record Seat : Type 0 where
  pub configuration : SystemConfiguration
  pub attached : Attachment
  pub moment : ℕ

abbrev pub seat : SystemConfiguration → Attachment → (moment : ℕ) → Seat
seat configuration attached moment = record { configuration = configuration; attached = attached; moment = moment }

abbrev pub seat_of : SystemState → Seat
seat_of s = seat s.configuration s.attached s.moment

-- a frame that comes to a system leaves it where it is
frame_leaves : (s : SystemState) (copy : network.Copy) → seat_of (step s (network.frame_to s copy)).after ≡ seat_of s
frame_leaves s copy =
    let comes = network.frame_to s copy in
    ap (λ (c : SystemConfiguration). seat c (step s comes).after.attached (step s comes).after.moment) (step_itself s comes).configuration
    ∙ ap (λ (a : Attachment). seat s.configuration a (step s comes).after.moment) (step_attached s comes)
    ∙ ap (seat s.configuration s.attached) (step_moment s comes)

seats-takes_effect : (w : network.LabelledNetwork) (place : ℕ) (system : SystemState) (effect : Effect) → slice_get w.systems place ≡ Some system
    → seat_of effect.after ≡ seat_of system
    → map seat_of (network.takes_effect w place effect).world.systems ≡ map seat_of w.systems
seats-takes_effect w place system effect e same =
    ap (λ (ss : List SystemState). map seat_of ss)
    (systems-put_all_out effect.after (network.with_effect w place effect) effect.outputs)
    ∙ map_set seat_of w.systems place system effect.after e same

abbrev given_to : Limits → network.Numbered → network.LabelledNetwork → ℕ → SystemState → Bool → network.Step
given_to limits given w place system late =
    cond late (network.writes w (Late system.moment system.configuration.name given.number)) (network.hand_to given w place system)

seats-given : (limits : Limits) (given : network.Numbered) (w : network.LabelledNetwork) (place : ℕ) (system : SystemState) (late : Bool)
    → slice_get w.systems place ≡ Some system
    → map seat_of (given_to limits given w place system late).world.systems ≡ map seat_of w.systems
seats-given limits given w place system true e = refl
seats-given limits given w place system false e =
    seats-takes_effect w place system (step system (network.frame_to system given.copy)) e (frame_leaves system given.copy)

seats-give_to : (limits : Limits) (given : network.Numbered) (w : network.LabelledNetwork) (place : ℕ) (s : Option SystemState) → slice_get w.systems place ≡ s
    → map seat_of (network.give_to limits given w place s).world.systems ≡ map seat_of w.systems
seats-give_to limits given w place None e = refl
seats-give_to limits given w place (Some system) e = seats-given limits given w place system (network.is_late limits w given.copy) e

pub seats-give : (limits : Limits) (given : network.Numbered) (w : network.LabelledNetwork) (place : ℕ)
    → map seat_of (network.give limits given w place).world.systems ≡ map seat_of w.systems
seats-give limits given w place = seats-give_to limits given w place (slice_get w.systems place) refl

-- the clock by which a copy grows old is the same where all clocks are
same_clock : (now : ℕ) (xs ys : List SystemState) (i : ℕ) → map seat_of xs ≡ map seat_of ys
    → network.clock_at now (slice_get xs i) ≡ network.clock_at now (slice_get ys i)
same_clock now [] [] i e = refl
same_clock now [] (y ∷ ys) i e = absurd (cc)
same_clock now (x ∷ xs) [] i e = absurd (cc)
same_clock now (x ∷ xs) (y ∷ ys) zero e = let head : seat_of x ≡ seat_of y = cc in ap (λ (s : Seat). s.moment) head
same_clock now (x ∷ xs) (y ∷ ys) (suc i) e = let tail : map seat_of xs ≡ map seat_of ys = cc in same_clock now xs ys i tail

clock_same : (maker : Maker) (v w : network.LabelledNetwork) → map seat_of v.systems ≡ map seat_of w.systems → v.clock ≡ w.clock
    → network.clock_of v maker ≡ network.clock_of w maker
clock_same Outside v w seated now = now
clock_same (DeclaredAt place) v w seated now =
    ap (λ (t : ℕ). network.clock_at t (slice_get v.systems place)) now ∙ same_clock w.clock v.systems w.systems place seated

-- so it is late or not alike
pub same_age : (limits : Limits) (copy : network.Copy) (v w : network.LabelledNetwork) → map seat_of v.systems ≡ map seat_of w.systems → v.clock ≡ w.clock
    → network.is_late limits v copy ≡ network.is_late limits w copy
same_age limits copy v w seated now = ap (nat_lt (copy.birth + limits.age)) (clock_same copy.maker v w seated now)

pub seats-give_each : (limits : Limits) (given : network.Numbered) (w : network.LabelledNetwork) (places : List ℕ)
    → map seat_of (network.give_each limits given w places).world.systems ≡ map seat_of w.systems
seats-give_each limits given w [] = refl
seats-give_each limits given w (place ∷ places) =
    seats-give_each limits given (network.give limits given w place).world places ∙ seats-give limits given w place

-- a copy is for a system wherever it is for one of the same configuration that is attached alike
pub same_addressee : (copy : network.Copy) (x y : SystemState) → seat_of x ≡ seat_of y
    → network.is_addressee copy x ≡ network.is_addressee copy y
same_addressee copy x y e = ap (λ (s : Seat). list_any (network.enters copy s.configuration.role) s.attached.ports) e

-- what is attached where at a place, where it is the same of all
pub same_seat : (xs ys : List SystemState) (i : ℕ) (y : SystemState) → map seat_of xs ≡ map seat_of ys → slice_get ys i ≡ Some y
    → (x : SystemState) × (slice_get xs i ≡ Some x) × (seat_of x ≡ seat_of y)
same_seat xs [] i y e at = absurd (cc)
same_seat [] (z ∷ ys) i y e at = absurd (cc)
same_seat (x ∷ xs) (z ∷ ys) zero y e at =
    let head : seat_of x ≡ seat_of z = cc in
    let one : z ≡ y = cc in
    (x, refl, head ∙ ap seat_of one)
same_seat (x ∷ xs) (z ∷ ys) (suc i) y e at =
    let tail : map seat_of xs ≡ map seat_of ys = cc in
    same_seat xs ys i y tail at

-- nor is the clock, nor how many copies were passed.

clock-given : (limits : Limits) (given : network.Numbered) (w : network.LabelledNetwork) (place : ℕ) (system : SystemState) (late : Bool)
    → (given_to limits given w place system late).world.clock ≡ w.clock
clock-given limits given w place system true = refl
clock-given limits given w place system false =
    let effect = step system (network.frame_to system given.copy) in
    clock-put_all_out effect.after (network.with_effect w place effect) effect.outputs

clock-give_to : (limits : Limits) (given : network.Numbered) (w : network.LabelledNetwork) (place : ℕ) (s : Option SystemState)
    → (network.give_to limits given w place s).world.clock ≡ w.clock
clock-give_to limits given w place None = refl
clock-give_to limits given w place (Some system) = clock-given limits given w place system (network.is_late limits w given.copy)

pub clock-give : (limits : Limits) (given : network.Numbered) (w : network.LabelledNetwork) (place : ℕ) → (network.give limits given w place).world.clock ≡ w.clock
clock-give limits given w place = clock-give_to limits given w place (slice_get w.systems place)

cursor-put_all_out : (system : SystemState) (w : network.LabelledNetwork) (outs : List Output) → (network.put_all_out system w outs).world.cursor ≡ w.cursor
cursor-put_all_out system w [] = refl
cursor-put_all_out system w (Notes note ∷ outs) = cursor-put_all_out system (network.put_out system w (Notes note)).world outs
cursor-put_all_out system w (Transmits port target packet ∷ outs) =
    cursor-put_all_out system (network.put_out system w (Transmits port target packet)).world outs
cursor-put_all_out system w (SendsEsis port target value ∷ outs) =
    cursor-put_all_out system (network.put_out system w (SendsEsis port target value)).world outs

cursor-given : (limits : Limits) (given : network.Numbered) (w : network.LabelledNetwork) (place : ℕ) (system : SystemState) (late : Bool)
    → (given_to limits given w place system late).world.cursor ≡ w.cursor
cursor-given limits given w place system true = refl
cursor-given limits given w place system false =
    let effect = step system (network.frame_to system given.copy) in
    cursor-put_all_out effect.after (network.with_effect w place effect) effect.outputs

cursor-give_to : (limits : Limits) (given : network.Numbered) (w : network.LabelledNetwork) (place : ℕ) (s : Option SystemState)
    → (network.give_to limits given w place s).world.cursor ≡ w.cursor
cursor-give_to limits given w place None = refl
cursor-give_to limits given w place (Some system) = cursor-given limits given w place system (network.is_late limits w given.copy)

pub cursor-give_each : (limits : Limits) (given : network.Numbered) (w : network.LabelledNetwork) (places : List ℕ)
    → (network.give_each limits given w places).world.cursor ≡ w.cursor
cursor-give_each limits given w [] = refl
cursor-give_each limits given w (place ∷ places) =
    cursor-give_each limits given (network.give limits given w place).world places ∙ cursor-give_to limits given w place (slice_get w.systems place)

copy-given : (limits : Limits) (given : network.Numbered) (w : network.LabelledNetwork) (place : ℕ) (system : SystemState) (late : Bool) (i : ℕ) (copy : network.Copy)
    → slice_get w.copies i ≡ Some copy → slice_get (given_to limits given w place system late).world.copies i ≡ Some copy
copy-given limits given w place system true i copy e = e
copy-given limits given w place system false i copy e = copy-takes_effect w place (step system (network.frame_to system given.copy)) i copy e

copy-give_to : (limits : Limits) (given : network.Numbered) (w : network.LabelledNetwork) (place : ℕ) (s : Option SystemState) (i : ℕ) (copy : network.Copy)
    → slice_get w.copies i ≡ Some copy → slice_get (network.give_to limits given w place s).world.copies i ≡ Some copy
copy-give_to limits given w place None i copy e = e
copy-give_to limits given w place (Some system) i copy e =
    copy-given limits given w place system (network.is_late limits w given.copy) i copy e

pub copy-give_each : (limits : Limits) (given : network.Numbered) (w : network.LabelledNetwork) (places : List ℕ) (i : ℕ) (copy : network.Copy)
    → slice_get w.copies i ≡ Some copy → slice_get (network.give_each limits given w places).world.copies i ≡ Some copy
copy-give_each limits given w [] i copy e = e
copy-give_each limits given w (place ∷ places) i copy e =
    copy-give_each limits given (network.give limits given w place).world places i copy
    (copy-give_to limits given w place (slice_get w.systems place) i copy e)

-- one more place at the end of those at which something is done, one after another
pub each-push : (one : network.LabelledNetwork → ℕ → network.Step) (each : network.LabelledNetwork → List ℕ → network.Step)
    → ((w : network.LabelledNetwork) → each w [] ≡ network.nothing w)
    → ((w : network.LabelledNetwork) (place : ℕ) (places : List ℕ) → each w (place ∷ places) ≡ network.followed_by (one w place) (λ v. each v places))
    → (w : network.LabelledNetwork) (places : List ℕ) (place : ℕ)
    → each w (places ++ place ∷ []) ≡ network.followed_by (each w places) (λ v. one v place)
each-push one each none more w [] place =
    more w place []
    ∙ ap (λ (s : network.Step). (let r : network.Step = record { world = s.world; lines = (one w place).lines ++ s.lines } in r))
    (none (one w place).world)
    ∙ followed_by-nothing (one w place)
    ∙ ap (λ (s : network.Step). network.followed_by s (λ v. one v place)) (sym (none w))
each-push one each none more w (first ∷ places) place =
    more w first (places ++ place ∷ [])
    ∙ ap (λ (s : network.Step). (let r : network.Step = record { world = s.world; lines = (one w first).lines ++ s.lines } in r))
    (each-push one each none more (one w first).world places place)
    ∙ sym (followed_by-followed_by (one w first) (λ v. each v places) (λ v. one v place))
    ∙ ap (λ (s : network.Step). network.followed_by s (λ v. one v place)) (sym (more w first places))

pub give_each-push : (limits : Limits) (given : network.Numbered) (w : network.LabelledNetwork) (places : List ℕ) (place : ℕ)
    → network.give_each limits given w (places ++ place ∷ [])
    ≡ network.followed_by (network.give_each limits given w places) (λ v. network.give limits given v place)
give_each-push limits given w places place =
    each-push (network.give limits given) (network.give_each limits given) (λ v. refl) (λ v first others. refl) w places place

abbrev pub tick_at : network.LabelledNetwork → ℕ → network.Step
tick_at w place = network.goes_on w place (slice_get w.systems place)

-- one more system has its tick
pub tick_each-more : (w : network.LabelledNetwork) (n : ℕ)
    → network.tick_each w (range_with_len 0 (n + 1)) ≡ network.followed_by (network.tick_each w (range_with_len 0 n)) (λ v. tick_at v n)
tick_each-more w n =
    ap (λ (places : List ℕ). network.tick_each w places)
    (range_push 0 n ∙ ap (λ (i : ℕ). range_with_len 0 n ++ i ∷ []) (zero-add n))
    ∙ each-push tick_at network.tick_each (λ v. refl) (λ v first others. refl) w (range_with_len 0 n) n

states_from-push : (limits : Limits) (k : ℕ) (systems : List SystemConfiguration) (system : SystemConfiguration)
    → network.states_from limits k (systems ++ system ∷ [])
    ≡ network.states_from limits k systems ++ first_state (k + length systems) system limits 0 0 ∷ []
states_from-push limits k [] system = rw add-zero refl
states_from-push limits k (first ∷ systems) system =
    let e : (k + 1) + length systems ≡ k + suc (length systems) = omega arith in
    let h = rw e at (states_from-push limits (k + 1) systems system) in
    ap (λ (ss : List SystemState). first_state k first limits 0 0 ∷ ss) h

-- one more system is declared
pub states_from-take : (limits : Limits) (systems : List SystemConfiguration) (i : ℕ) (system : SystemConfiguration) → slice_get systems i ≡ Some system
    → network.states_from limits 0 (take (i + 1) systems)
    ≡ network.states_from limits 0 (take i systems) ++ first_state i system limits 0 0 ∷ []
states_from-take limits systems i system e =
    let r = take_push systems i system e in
    ap (λ (cs : List SystemConfiguration). network.states_from limits 0 cs) r.0 ∙ states_from-push limits 0 (take i systems) system
    ∙ ap (λ (n : ℕ). network.states_from limits 0 (take i systems) ++ first_state n system limits 0 0 ∷ [])
    (zero-add (length (take i systems)) ∙ r.1)

-- at the start each system's clock is at 0
pub states_at_start : (limits : Limits) (k : ℕ) (systems : List SystemConfiguration)
    → AllByRecursion (λ (s : SystemState). s.moment ≤ 0) (network.states_from limits k systems)
states_at_start limits k [] = tt
states_at_start limits k (system ∷ systems) = (omega arith, states_at_start limits (k + 1) systems)

-- and each knows its place
states_placed : (limits : Limits) (k : ℕ) (systems : List SystemConfiguration) (place : ℕ) (s : SystemState)
    → slice_get (network.states_from limits k systems) place ≡ Some s → s.place ≡ k + place
states_placed limits k [] place s there = absurd (cc)
states_placed limits k (system ∷ systems) zero s there =
    let same : first_state k system limits 0 0 ≡ s = cc in
    sym (ap (λ (t : SystemState). t.place) same) ∙ (let first : k ≡ k + 0 = omega arith in first)
states_placed limits k (system ∷ systems) (suc place) s there =
    states_placed limits (k + 1) systems place s there ∙ (let next : k + 1 + place ≡ k + suc place = omega arith in next)

pub placed_at_start : (limits : Limits) (systems : List SystemConfiguration) (place : ℕ) (s : SystemState)
    → slice_get (network.states_from limits 0 systems) place ≡ Some s → s.place ≡ place
placed_at_start limits systems place s there = states_placed limits 0 systems place s there ∙ zero-add place

-- the first port by which a copy comes in, as the code looks for it
first_port_is : (copy : network.Copy) (role : Role) (ports : List PortConfig)
    → network.first_port copy role ports ≡ position_or_len (network.enters copy role) ports
first_port_is copy role ports =
    is_position_or_len (network.first_port copy role) (network.enters copy role) refl
    (λ port others. ap (λ (n : ℕ). cond (network.enters copy role port) 0 n) (omega arith)) ports

shifted : (n m : ℕ) → nat_lt n m ≡ nat_lt (1 + n) (suc m)
shifted n m = elim (cases_Bool (nat_lt n m)) [
  | inl t ↦ let within = ltb-true n m t in t ∙ sym (lt-ltb (1 + n) (suc m) (omega (arith, within)))
  | inr f ↦ let past = ltb-false n m f in f ∙ sym (le-ltb (1 + n) (suc m) (omega (arith, past)))
]

-- one of some elements passes a test exactly where the first that does stands before their end
any_before : {X : Type 0} (p : X → Bool) (xs : List X) → list_any p xs ≡ nat_lt (position_or_len p xs) (length xs)
any_before p [] = refl
any_before p (x ∷ xs) = by_test (any_before p xs) (p x) refl
  where
    by_test : list_any p xs ≡ nat_lt (position_or_len p xs) (length xs) → (b : Bool) → p x ≡ b
        → list_any p (x ∷ xs) ≡ nat_lt (position_or_len p (x ∷ xs)) (length (x ∷ xs))
    by_test rest true is = rw is (sym (lt-ltb 0 (suc (length xs)) (omega arith)))
    by_test rest false is = rw is (rest ∙ shifted (position_or_len p xs) (length xs))

-- what the code finds is the first port by which a copy comes in, or that the copy isn't for the system
pub port_found : (copy : network.Copy) (system : SystemState)
    → IsPortFor copy system (position (network.enters copy system.configuration.role) system.attached.ports)
port_found copy system =
    by_test (nat_lt (position_or_len (network.enters copy system.configuration.role) system.attached.ports) (length system.attached.ports))
    (any_before (network.enters copy system.configuration.role) system.attached.ports)
  where
    by_test : (b : Bool) → network.is_addressee copy system ≡ b
        → IsPortFor copy system (cond b (Some (position_or_len (network.enters copy system.configuration.role) system.attached.ports)) None)
    by_test true is = (sym is, sym (first_port_is copy system.configuration.role system.attached.ports))
    by_test false is = sym is
