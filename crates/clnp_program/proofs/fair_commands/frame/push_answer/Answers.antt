use Rattle.std.proofs.Common.{◌≡◌, rules, subst}
use Rattle.scenario.specs.PduHeader.View.{part_value, pdu_value}
use Rattle.clnp_program.specs.FairCommands.Telling.{told_by}
use Rattle.system_tables.specs.declared.reassembly.table.Accept.TheVariants as accept
use Rattle.system_tables.specs.declared.reassembly.table.SlotNo.{SlotNo}
use Rattle.system_tables.specs.FairReassembly.Calls.{Accepts, Releases}
use Rattle.system_tables.specs.FairReassembly.Classes.{offers}
use Rattle.system_tables.proofs.FairReassembly.Changed.{changed_as, changed_then}
use Rattle.clnp_program.specs.FairCommands.Frames.{Tells}
use Rattle.clnp_program.proofs.FairCommands.Frames.{on_both, on_ok, tells_answer, tells_joined}
use Rattle.clnp_program.proofs.fair_commands.frame.push_answer.Goals as goal

pub push_joined-requires : goal.push_joined-requires
push_joined-requires c = c.requires.whole c.in-Whole.slot c.in-Whole.is

pub returns-in-Whole : goal.returns-in-Whole
returns-in-Whole c =
    let v = pdu_value c.args.pdu.now in
    let part = part_value c.args.part in
    on_both c.push_joined.result _ _ _ (λ released told before segment accepts.
    changed_then c.args.table (Accepts c.args.moment segment c.args.accept) (Releases c.in-Whole.slot.0)
    (Tells (λ limits buffers. offers limits c.args.moment v part segment buffers) c.args.moment c.args.out.now.items c.push_joined.new.out.items)
    before c.args.tables.now c.push_joined.new.tables
    (λ old mid new at h r.
    tells_joined c.args.moment v part segment c.in-Whole.slot c.args.out.now.items c.push_joined.new.out.items old mid new
    (subst (λ a. Accepts c.args.moment segment a old mid) c.in-Whole.is h) r (λ buffers whole s b n. told mid at buffers whole s b n))
    accepts released)
    c.push_joined.ensures.released c.push_joined.ensures.told

pub returns-in_default : goal.returns-in_default
returns-in_default c =
    let v = pdu_value c.args.pdu.now in
    let part = part_value c.args.part in
    let not_whole : (slot : SlotNo) → c.args.accept ≡ accept.Whole slot → ⊥ = search rules in
    on_ok c.push_told.result _ _ (λ line before segment accepts.
    changed_as c.args.table (Accepts c.args.moment segment c.args.accept) (Accepts c.args.moment segment c.args.accept)
    (Tells (λ limits buffers. offers limits c.args.moment v part segment buffers) c.args.moment c.args.out.now.items c.push_told.new.out.items)
    before c.args.tables.now
    (λ old new at h.
    tells_answer c.args.moment v part segment c.args.accept (told_by c.told_of.result) c.held-held.result c.args.out.now.items c.push_told.new.out.items old new h not_whole
    (c.held-held.ensures.held new at) (λ buffers e. c.told_of.ensures segment.key buffers e) line)
    accepts)
    c.push_told.ensures
