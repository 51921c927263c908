use Rattle.std.proofs.Common.{◌≡◌, ◌<◌, ◌+◌, ◌^◌, true, length}
use Rattle.clnp_plan.specs.ClnpBase.Text.{lines_of}
use Rattle.scenario.specs.Events.{first_scene, scene_of, are_few, nothing_counted}
use Rattle.scenario.specs.Grammar.{event_for, events_from}
use Rattle.scenario.proofs.Clocks.{AreSlow}
use Rattle.scenario.proofs.Readings.{with_front}
use Rattle.scenario.proofs.reader.events_of.Given as goal

abbrev pub invariant-loop-line : goal.invariant-loop-line
invariant-loop-line l = record {
  few : l.number + length (lines_of l.left) < 2 ^ 32;
  counted : are_few l.counts ≡ true;
  slow : AreSlow l.counts.ticks l.standing.clocks;
  same : with_front l.events.items (events_from (event_for l.links) (scene_of l.version l.subnets l.systems l.standing) l.number l.counts (lines_of l.left))
      ≡ events_from (event_for l.links) (first_scene l.version l.skew l.subnets l.systems) l.fn.number nothing_counted (lines_of l.text);
}

abbrev pub decreases-loop-line : goal.decreases-loop-line
decreases-loop-line l = length l.left
