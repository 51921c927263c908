use Rattle.clnp_machine.specs.ClnpNetwork.Run.{moves_made}
use Rattle.clnp_safety.proofs.laws.runs_are_safe.Goals as goal

pub returns : goal.returns
returns c plan fit = record {
  closed = λ closed. record {
    safe = c.handed_up_was_sent.ensures.run plan fit closed;
    apart = c.no_unit_meets_another.ensures.run plan fit closed;
    unrefused = c.no_frame_is_refused.ensures plan fit closed (moves_made plan);
    known = c.no_frame_is_alien.ensures plan fit closed (moves_made plan);
    founded = c.reports_and_echoes_are_of_its_own.ensures.together plan fit closed;
    carried = c.ranges_of_units_are_carried.ensures plan fit closed;
    unbroken = c.no_frame_breaks_a_rule.ensures plan fit closed;
    held_apart = c.units_are_held_apart.ensures.together plan fit closed;
    sound = c.networks_of_runs_are_sound.ensures.together plan fit closed;
  };
  journal_is = c.the_journal_is_the_text_of_the_run.ensures.journal plan;
  together = c.clocks_of_runs_stay_together.ensures.called plan fit;
  made_together = c.clocks_of_runs_stay_together.ensures.made plan fit;
  clocks = c.clocks_go_on_by_moves.ensures.systems plan;
  none_ahead = c.clocks_go_on_by_moves.ensures.runs plan;
  current = c.clocks_that_tick_together_are_one.ensures.current plan;
  traced = c.all_but_frames_from_outside_carry_ranges.ensures plan fit;
  obeyed = c.no_pdu_breaks_a_rule.ensures plan fit;
  made = c.copies_have_their_makers.ensures plan;
  kept = c.what_is_kept_came_in_copies.ensures plan;
  bounded = c.budgets_are_kept.ensures plan;
  rest = c.identifiers_rest.ensures plan;
  lifetimes = c.hops_are_within_lifetimes.ensures plan;
  hops = c.hops_count_copies.ensures plan;
  headers = c.headers_keep_their_length.ensures plan fit;
  told = c.transmissions_are_copies.ensures plan;
  attached = c.attachments_of_runs_are_sound.ensures plan fit;
  redirects = c.a_redirect_changes_one_next_hop.ensures plan.limits;
}
