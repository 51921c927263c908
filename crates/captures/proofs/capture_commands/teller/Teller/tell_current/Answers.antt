use Rattle.std.proofs.Common.{arith, ◌≡◌, ◌≢◌, ℕ, [], ◌∷◌, ◌+◌, List, Option, Result, Ok, Err, refl}
use Rattle.clnp_base.specs.CommandBase.ByLine.{BlockOf}
use Rattle.clnp_base.specs.declared.command_base.block.LineStop.{LineStop}
use Rattle.clnp_base.specs.declared.command_base.block.LineStop.TheVariants as line_stop
use Rattle.clnp_base.specs.declared.command_base.status.Status.{Status}
use Rattle.clnp_base.specs.declared.command_base.status.Status.TheVariants.{ReadFault, WriteFault, NoMemory}
use Rattle.frame_links.specs.PcapFrames.View.{captured_value}
use Rattle.captures.specs.declared.capture_commands.teller.Teller.{Teller}
use Rattle.captures.proofs.CaptureCommands.Steps.{block_cut, block_written, cut, refused, told_whole}
use Rattle.captures.proofs.capture_commands.teller.Teller.tell_current.Goals as goal

pub returns-in_default-clause-told : goal.returns-in_default-clause-told
returns-in_default-clause-told g c = λ taken cap before is w.
    refused (cap ∷ []) c.args.self.now c.args.self.now.form taken before (g.K.Sink.written c.args.sink.now) w refl

pub returns-in-Ok-write_full_block-clause-told : goal.returns-in-Ok-write_full_block-clause-told
returns-in-Ok-write_full_block-clause-told g c = λ taken cap before is w.
    let t : Teller = c.args.self.now in
    let m : Teller = record t { number = t.number + 1; block = c.push_record.new.out } in
    let n : Teller = record m { block = c.write_full_block.new.block } in
    let told = c.in-Ok.ensures in
    block_written [] m n taken before (g.K.Sink.written c.args.sink.now) (g.K.Sink.written c.write_full_block.new.sink)
    (told_whole cap (captured_value c.current-record.result) t m taken told.0 before (g.K.Sink.written c.args.sink.now) w is
    c.current-record.ensures refl refl refl refl told.2 told.1)
    refl refl refl refl c.in-Ok-write_full_block.ensures.written

pub returns-in-Err-clause-told : goal.returns-in-Err-clause-told
returns-in-Err-clause-told g c = λ taken cap before is w.
    let t : Teller = c.args.self.now in
    let m : Teller = record t { number = t.number + 1; block = c.push_record.new.out } in
    let told = c.in-Ok.ensures in
    cut m t.form taken before (g.K.Sink.written c.args.sink.now) (g.K.Sink.written c.write_full_block.new.sink)
    (told_whole cap (captured_value c.current-record.result) t m taken told.0 before (g.K.Sink.written c.args.sink.now) w is
    c.current-record.ensures refl refl refl refl told.2 told.1)
    refl
    (block_cut (Unit {0}) c.push_record.new.out.items c.write_full_block.new.block.items (g.K.Sink.written c.args.sink.now)
    (g.K.Sink.written c.write_full_block.new.sink) c.in-Err.field-0 c.in-Err.ensures.written)

told_well : {A : Type 0} (r : Result A Status) (x : A) (answer : Status) → r ≡ Ok x → r ≢ Err answer
told_well r x answer is = λ h. cc

no_memory : {A : Type 0} (r : Result A Status) → r ≡ Err NoMemory → (r ≢ Err ReadFault) × (r ≢ Err WriteFault)
no_memory r is = (λ h. cc, λ h. cc)

no_read_fault : {A : Type 0} (r : Result A Status) → r ≡ Err WriteFault → r ≢ Err ReadFault
no_read_fault r is = λ h. cc

pub returns-in_default-clause-later : goal.returns-in_default-clause-later
returns-in_default-clause-later g c = omega arith

pub returns-in_default-clause-read_fault : goal.returns-in_default-clause-read_fault
returns-in_default-clause-read_fault g c = λ h. (no_memory _ refl).0 h

pub returns-in_default-clause-failed : goal.returns-in_default-clause-failed
returns-in_default-clause-failed g c = λ h. absurd ((no_memory _ refl).1 h)

pub returns-in-Ok-write_full_block-clause-later : goal.returns-in-Ok-write_full_block-clause-later
returns-in-Ok-write_full_block-clause-later g c = c.write_full_block.ensures.later

pub returns-in-Ok-write_full_block-clause-size : goal.returns-in-Ok-write_full_block-clause-size
returns-in-Ok-write_full_block-clause-size g c = refl

pub returns-in-Ok-write_full_block-clause-number : goal.returns-in-Ok-write_full_block-clause-number
returns-in-Ok-write_full_block-clause-number g c = refl

pub returns-in-Ok-write_full_block-clause-form : goal.returns-in-Ok-write_full_block-clause-form
returns-in-Ok-write_full_block-clause-form g c = refl

pub returns-in-Ok-write_full_block-clause-read_fault : goal.returns-in-Ok-write_full_block-clause-read_fault
returns-in-Ok-write_full_block-clause-read_fault g c = told_well _ _ _ refl

pub returns-in-Ok-write_full_block-clause-failed : goal.returns-in-Ok-write_full_block-clause-failed
returns-in-Ok-write_full_block-clause-failed g c = λ h. absurd (told_well _ _ _ refl h)

pub returns-in-Err-clause-later : goal.returns-in-Err-clause-later
returns-in-Err-clause-later g c = c.write_full_block.ensures.later

pub returns-in-Err-clause-read_fault : goal.returns-in-Err-clause-read_fault
returns-in-Err-clause-read_fault g c = no_read_fault _ refl

-- the block stops at a fault of the sink alone
by_fault : {A : Type 0} (R : Type 0) (r : Result A LineStop) (old new : List ℕ) (b c : Option (List ℕ)) (stop : LineStop) → r ≡ Err stop
    → BlockOf {A = A} old new b c (Err stop) → (r ≡ Err line_stop.WriteFault → R) → R
by_fault R r old new b c line_stop.WriteFault is p told = told is
by_fault R r old new b c (line_stop.BadLine code) is p told = absurd p
by_fault R r old new b c line_stop.NoMemory is p told = absurd p

pub returns-in-Err-clause-failed : goal.returns-in-Err-clause-failed
returns-in-Err-clause-failed g c = λ h.
    by_fault _ c.write_full_block.result c.push_record.new.out.items c.write_full_block.new.block.items (g.K.Sink.written c.args.sink.now)
    (g.K.Sink.written c.write_full_block.new.sink) c.in-Err.field-0 c.in-Err.is c.in-Err.ensures.written c.write_full_block.ensures.failed
