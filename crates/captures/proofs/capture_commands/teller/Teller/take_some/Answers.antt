use Rattle.std.proofs.Common.{◌≡◌, ◌≢◌, Result, Ok, Err, ◌+◌, [], ◌++◌, List, take, refl, sym, ◌∙◌, subst, arith, length-take-le}
use Rattle.std.specs.Option.{option_to_list}
use Rattle.hex.specs.Hex.{IsBytes}
use Rattle.clnp_base.specs.declared.command_base.status.Status.{Status}
use Rattle.clnp_base.proofs.ListSteps.{bytes_of_take}
use Rattle.frame_links.specs.PcapFrames.File.{Captured}
use Rattle.frame_links.specs.PcapFrames.Reading.{current_of}
use Rattle.captures.specs.declared.capture_commands.teller.Teller.{Teller}
use Rattle.captures.specs.CaptureCommands.Underway.{Underway}
use Rattle.captures.proofs.CaptureCommands.Steps.{broken_piece, fed, none_came, one_came, still_going, stopped_within}
use Rattle.captures.proofs.capture_commands.teller.Teller.take_some.Goals as goal

pub returns-else-took-clause-takes : goal.returns-else-took-clause-takes
returns-else-took-clause-takes g c = λ taken before w.
    let t : Teller = c.args.self.now in
    let n : Teller = record t { reader = c.feed.new.self; size = t.size + c.in-Ok.took.octets } in
    let bytes : IsBytes c.args.piece.now = λ i. omega (arith, c.type_inv.piece i) in
    let front = take c.in-Ok.took.octets c.args.piece.now in
    let size = length-take-le c.in-Ok.took.octets c.args.piece.now c.in-Ok.ensures.front in
    let none : option_to_list (current_of c.feed.new.self) ≡ [] = none_came (current_of c.feed.new.self) (sym c.in-Ok.ensures.whole ∙ c.if-took.false) in
    subst (λ (u : List Captured). Underway u n (taken ++ front) before (g.K.Sink.written c.args.sink.now)) none
    (fed t n taken front before (g.K.Sink.written c.args.sink.now) w refl c.in-Ok.ensures.takes refl (omega arith) refl
    (bytes_of_take c.args.piece.now c.in-Ok.took.octets bytes)
    (still_going c.feed.new.self c.feed.result c.in-Ok.took c.in-Ok.is c.feed.ensures.fault))

pub returns-in-Ok-tell_current-clause-takes : goal.returns-in-Ok-tell_current-clause-takes
returns-in-Ok-tell_current-clause-takes g c = λ taken before w.
    let t : Teller = c.args.self.now in
    let n : Teller = record t { reader = c.feed.new.self; size = t.size + c.in-Ok.took.octets } in
    let bytes : IsBytes c.args.piece.now = λ i. omega (arith, c.type_inv.piece i) in
    let front = take c.in-Ok.took.octets c.args.piece.now in
    let size = length-take-le c.in-Ok.took.octets c.args.piece.now c.in-Ok.ensures.front in
    let one = one_came (current_of c.feed.new.self) (sym c.in-Ok.ensures.whole ∙ c.if-took.true) in
    c.in-Ok-tell_current.ensures.told (taken ++ front) one.0 before one.1.0
    (subst (λ (u : List Captured). Underway u n (taken ++ front) before (g.K.Sink.written c.args.sink.now)) one.1.1
    (fed t n taken front before (g.K.Sink.written c.args.sink.now) w refl c.in-Ok.ensures.takes refl (omega arith) refl
    (bytes_of_take c.args.piece.now c.in-Ok.took.octets bytes)
    (still_going c.feed.new.self c.feed.result c.in-Ok.took c.in-Ok.is c.feed.ensures.fault)))

pub returns-in-Err-tell_current-clause-takes : goal.returns-in-Err-tell_current-clause-takes
returns-in-Err-tell_current-clause-takes g c = λ taken before w.
    let t : Teller = c.args.self.now in
    let n : Teller = record t { reader = c.feed.new.self; size = t.size + c.in-Ok.took.octets } in
    let bytes : IsBytes c.args.piece.now = λ i. omega (arith, c.type_inv.piece i) in
    let front = take c.in-Ok.took.octets c.args.piece.now in
    let size = length-take-le c.in-Ok.took.octets c.args.piece.now c.in-Ok.ensures.front in
    let one = one_came (current_of c.feed.new.self) (sym c.in-Ok.ensures.whole ∙ c.if-took.true) in
    stopped_within t.form taken c.args.piece.now c.in-Ok.took.octets before (g.K.Sink.written c.tell_current.new.sink) c.in-Err-tell_current.answer bytes
    (c.in-Err-tell_current.ensures.told (taken ++ front) one.0 before one.1.0
    (subst (λ (u : List Captured). Underway u n (taken ++ front) before (g.K.Sink.written c.args.sink.now)) one.1.1
    (fed t n taken front before (g.K.Sink.written c.args.sink.now) w refl c.in-Ok.ensures.takes refl (omega arith) refl
    (bytes_of_take c.args.piece.now c.in-Ok.took.octets bytes)
    (still_going c.feed.new.self c.feed.result c.in-Ok.took c.in-Ok.is c.feed.ensures.fault))))

pub returns-in-Err-clause-takes : goal.returns-in-Err-clause-takes
returns-in-Err-clause-takes g c = λ taken before w.
    let bytes : IsBytes c.args.piece.now = λ i. omega (arith, c.type_inv.piece i) in
    let took = c.in-Err.ensures.breaks in
    broken_piece c.args.self.now taken c.args.piece.now took.0 c.feed.new.self c.in-Err.fault before (g.K.Sink.written c.args.sink.now)
    (g.K.Sink.written c.finish.new.sink) c.fault_answer-answer.result c.finish.result w took.2 ((c.feed.ensures.fault c.in-Err.fault).0 c.in-Err.is) bytes
    c.fault_answer-answer.ensures.told c.finish.ensures.wrote

-- what was taken is no refusal
taken_well : {A : Type 0} (r : Result A Status) (x : A) (answer : Status) → r ≡ Ok x → r ≢ Err answer
taken_well r x answer is = λ h. cc

-- a refusal passed on
passed_on : {A B : Type 0} (r : Result A Status) (s : Result B Status) (answer other : Status) → r ≡ Err answer → s ≡ Err answer
    → r ≡ Err other → s ≡ Err other
passed_on r s answer other is same h = cc

refused_so : {A : Type 0} (r : Result A Status) (answer other : Status) → r ≡ Err answer → r ≡ Err other → answer ≡ other
refused_so r answer other is h = cc

pub returns-else-took-clause-front : goal.returns-else-took-clause-front
returns-else-took-clause-front g c = (c.in-Ok.ensures.some c.requires.some, c.in-Ok.ensures.front)

pub returns-else-took-clause-later : goal.returns-else-took-clause-later
returns-else-took-clause-later g c = omega arith

pub returns-else-took-clause-size : goal.returns-else-took-clause-size
returns-else-took-clause-size g c = refl

pub returns-else-took-clause-form : goal.returns-else-took-clause-form
returns-else-took-clause-form g c = refl

pub returns-else-took-clause-counted : goal.returns-else-took-clause-counted
returns-else-took-clause-counted g c = omega (arith, c.requires.counted)

pub returns-else-took-clause-read_fault : goal.returns-else-took-clause-read_fault
returns-else-took-clause-read_fault g c = taken_well _ _ _ refl

pub returns-else-took-clause-failed : goal.returns-else-took-clause-failed
returns-else-took-clause-failed g c = λ h. absurd (taken_well _ _ _ refl h)

pub returns-in-Ok-tell_current-clause-front : goal.returns-in-Ok-tell_current-clause-front
returns-in-Ok-tell_current-clause-front g c = (c.in-Ok.ensures.some c.requires.some, c.in-Ok.ensures.front)

pub returns-in-Ok-tell_current-clause-later : goal.returns-in-Ok-tell_current-clause-later
returns-in-Ok-tell_current-clause-later g c = c.tell_current.ensures.later

pub returns-in-Ok-tell_current-clause-size : goal.returns-in-Ok-tell_current-clause-size
returns-in-Ok-tell_current-clause-size g c = c.in-Ok-tell_current.ensures.size

pub returns-in-Ok-tell_current-clause-form : goal.returns-in-Ok-tell_current-clause-form
returns-in-Ok-tell_current-clause-form g c = c.in-Ok-tell_current.ensures.form

pub returns-in-Ok-tell_current-clause-counted : goal.returns-in-Ok-tell_current-clause-counted
returns-in-Ok-tell_current-clause-counted g c =
    let some = c.in-Ok.ensures.some c.requires.some in
    omega (arith, c.in-Ok-tell_current.ensures.size, c.in-Ok-tell_current.ensures.number, some, c.requires.counted)

pub returns-in-Ok-tell_current-clause-read_fault : goal.returns-in-Ok-tell_current-clause-read_fault
returns-in-Ok-tell_current-clause-read_fault g c = taken_well _ _ _ refl

pub returns-in-Ok-tell_current-clause-failed : goal.returns-in-Ok-tell_current-clause-failed
returns-in-Ok-tell_current-clause-failed g c = λ h. absurd (taken_well _ _ _ refl h)

pub returns-in-Err-tell_current-clause-later : goal.returns-in-Err-tell_current-clause-later
returns-in-Err-tell_current-clause-later g c = c.tell_current.ensures.later

pub returns-in-Err-tell_current-clause-read_fault : goal.returns-in-Err-tell_current-clause-read_fault
returns-in-Err-tell_current-clause-read_fault g c = λ h.
    c.tell_current.ensures.read_fault (passed_on _ c.tell_current.result c.in-Err-tell_current.answer _ refl c.in-Err-tell_current.is h)

pub returns-in-Err-tell_current-clause-failed : goal.returns-in-Err-tell_current-clause-failed
returns-in-Err-tell_current-clause-failed g c = λ h.
    c.tell_current.ensures.failed (passed_on _ c.tell_current.result c.in-Err-tell_current.answer _ refl c.in-Err-tell_current.is h)

pub returns-in-Err-clause-later : goal.returns-in-Err-clause-later
returns-in-Err-clause-later g c = c.finish.ensures.later

pub returns-in-Err-clause-read_fault : goal.returns-in-Err-clause-read_fault
returns-in-Err-clause-read_fault g c = λ h. c.finish.ensures.read_fault c.fault_answer-answer.ensures.no_fault.0 (refused_so _ c.finish.result _ refl h)

pub returns-in-Err-clause-failed : goal.returns-in-Err-clause-failed
returns-in-Err-clause-failed g c = λ h. c.finish.ensures.failed c.fault_answer-answer.ensures.no_fault.1 (refused_so _ c.finish.result _ refl h)
