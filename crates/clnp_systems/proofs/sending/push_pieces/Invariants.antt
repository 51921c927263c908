use Rattle.std.proofs.Common.{◌≡◌, ◌++◌, map}
use Rattle.std.specs.List.{AllByRecursion}
use Rattle.clnp_machine.specs.MadePdus.Left.{IsCutOf}
use Rattle.clnp_systems.specs.Sending.{transmission}
use Rattle.clnp_systems.proofs.sending.push_pieces.Given as goal

abbrev pub invariant-loop-cut : goal.invariant-loop-cut
invariant-loop-cut l = record {
  left : AllByRecursion (IsCutOf l.body.len) l.cut-iterator;
  given : l.out.items ≡ l.initial.out.items ++ map (transmission l.forwarded l.hop l.body) l.yielded;
  all : l.initial.cut-iterator ≡ l.yielded ++ l.cut-iterator;
}
