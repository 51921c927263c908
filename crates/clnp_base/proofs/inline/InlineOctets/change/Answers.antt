use Rattle.std.proofs.Common.{◌≤◌, ap, arith, drop, length, sym, ◌∙◌}
use Rattle.clnp_base.specs.Inline.{len_again}
use Rattle.clnp_base.proofs.Laid.{behind_front, inline-put, part_size}
use Rattle.clnp_base.proofs.Lists.{take_drop_swap}
use Rattle.clnp_base.proofs.inline.InlineOctets.change.Goals as goal

pub change_part-requires : goal.change_part-requires
change_part-requires g c = λ part shown.
    let long = len_again g.row.MOST c.self.inside.len c.self.inside.cells c.self.invariant in
    let within : c.args.start ≤ c.self.inside.len = omega (arith, c.requires.start, long, ap length c.self.view_is) in
    let few : length c.args.self.now ≤ g.row.MOST = omega (arith, c.self.invariant.within, long, ap length c.self.view_is) in
    c.requires.callable few part
    (shown ∙ take_drop_swap c.args.start c.self.inside.len c.self.inside.cells within ∙ ap (drop c.args.start) c.self.view_is)

pub invariant_of-self : goal.invariant_of-self
invariant_of-self g c =
    let within : c.args.start ≤ c.self.inside.len =
    omega (arith, c.requires.start, len_again g.row.MOST c.self.inside.len c.self.inside.cells c.self.invariant, ap length c.self.view_is) in
    inline-put g.row.MOST c.self.inside.len c.args.start c.self.inside.cells _ c.self.invariant within
    (part_size g.row.MOST c.self.inside.len c.args.start c.self.inside.cells _ c.self.invariant within c.change_part.auto.part)

pub returns-clause-changed : goal.returns-clause-changed
returns-clause-changed g c =
    let within : c.args.start ≤ c.self.inside.len =
    omega (arith, c.requires.start, len_again g.row.MOST c.self.inside.len c.self.inside.cells c.self.invariant, ap length c.self.view_is) in
    let size = part_size g.row.MOST c.self.inside.len c.args.start c.self.inside.cells c.change_part.new.part c.self.invariant within c.change_part.auto.part in
    let call = c.change_part.ensures in
    record {
      shown = call.shown;
      shows = call.shows ∙ take_drop_swap c.args.start c.self.inside.len c.self.inside.cells within ∙ ap (drop c.args.start) c.self.view_is;
      left = call.left;
      met = call.met;
      leaves = call.leaves ∙ sym (behind_front g.row.MOST c.self.inside.len c.args.start c.self.inside.cells c.change_part.new.part c.self.invariant within size);
    }
