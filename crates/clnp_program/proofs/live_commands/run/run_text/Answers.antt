-- A text has no more lines than octets.
use Rattle.std.proofs.Common.{◌≤◌, length, arith}
use Rattle.clnp_base.proofs.Reading.{lines_of-few}
use Rattle.clnp_base.specs.Text.{lines_of}
use Rattle.clnp_program.proofs.live_commands.run.run_text.Goals as goal

pub read_for_run-requires : goal.read_for_run-requires
read_for_run-requires g c =
    let lines : length (lines_of c.args.text.now) ≤ length c.args.text.now = lines_of-few c.args.text.now in
    omega (arith, lines, c.requires)
