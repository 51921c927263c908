use Rattle.clnp_program.proofs.FairCommands.Expired.{ends_ready, ends_tells, next_goes_on, next_none_whole, next_smaller, next_sources}
use Rattle.clnp_program.proofs.fair_commands.frame.push_expired.Goals as goal

pub loop-ended-preserved : goal.loop-ended-preserved
loop-ended-preserved c =
    let told = c.in-Some.ended in
    let so_far = c.loop-ended.invariant in
    record {
      goes_on = next_goes_on c.args.moment c.args.from.now told c.args.tables.now c.loop-ended.tables c.expire.new.self so_far.sources c.in-Some.ensures so_far.none_whole
          c.buffers_end_until_none_is_due.ensures.next c.place-place.result c.held.result c.args.out.now.items c.loop-ended.out.items c.push_told.new.out.items
          c.place-place.ensures.place c.held.ensures.held c.in_ok-push_told.ensures so_far.goes_on;
      none_whole = next_none_whole c.args.moment c.args.from.now told c.args.tables.now c.loop-ended.tables c.expire.new.self so_far.sources c.in-Some.ensures so_far.none_whole;
      sources = next_sources c.args.moment c.args.from.now told c.args.tables.now c.loop-ended.tables c.expire.new.self so_far.sources c.in-Some.ensures so_far.none_whole;
    }

pub loop-ended-preserved-in_ok-push_told : goal.loop-ended-preserved-in_ok-push_told
loop-ended-preserved-in_ok-push_told c =
    let told = c.in-Some.ended in
    let so_far = c.loop-ended.invariant in
    record {
      goes_on = next_goes_on c.args.moment c.args.from.now told c.args.tables.now c.loop-ended.tables c.expire.new.self so_far.sources c.in-Some.ensures so_far.none_whole
          c.buffers_end_until_none_is_due.ensures.next c.place-place.result c.held.result c.args.out.now.items c.loop-ended.out.items c.push_told.new.out.items
          c.place-place.ensures.place c.held.ensures.held c.in_ok-push_told.ensures so_far.goes_on;
      none_whole = next_none_whole c.args.moment c.args.from.now told c.args.tables.now c.loop-ended.tables c.expire.new.self so_far.sources c.in-Some.ensures so_far.none_whole;
      sources = next_sources c.args.moment c.args.from.now told c.args.tables.now c.loop-ended.tables c.expire.new.self so_far.sources c.in-Some.ensures so_far.none_whole;
    }

pub loop-ended-smaller : goal.loop-ended-smaller
loop-ended-smaller c =
    next_smaller c.args.moment c.args.from.now c.in-Some.ended c.args.tables.now c.loop-ended.tables c.expire.new.self c.loop-ended.invariant.sources c.in-Some.ensures
    c.loop-ended.invariant.none_whole c.buffers_end_until_none_is_due.ensures.fewer

pub loop-ended-smaller-in_ok-push_told : goal.loop-ended-smaller-in_ok-push_told
loop-ended-smaller-in_ok-push_told c =
    next_smaller c.args.moment c.args.from.now c.in-Some.ended c.args.tables.now c.loop-ended.tables c.expire.new.self c.loop-ended.invariant.sources c.in-Some.ensures
    c.loop-ended.invariant.none_whole c.buffers_end_until_none_is_due.ensures.fewer

pub returns-clause-tells : goal.returns-clause-tells
returns-clause-tells c =
    ends_tells c.args.moment c.args.from.now c.buffers_end_until_none_is_due.ensures.none c.args.tables.now c.loop-ended.tables c.expire.new.self
    c.args.out.now.items c.loop-ended.out.items c.loop-ended.invariant.sources c.in_default.ensures c.loop-ended.invariant.goes_on

pub returns-clause-ready : goal.returns-clause-ready
returns-clause-ready c =
    ends_ready c.args.moment c.args.from.now c.args.tables.now c.loop-ended.tables c.expire.new.self c.loop-ended.invariant.sources c.in_default.ensures
    c.loop-ended.invariant.none_whole
