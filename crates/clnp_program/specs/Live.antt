-- What a call does with a board of links and a clock.
use Rattle.std.specs.Prelude.{ℕ, List, Option, Result, Ok, Err}
use Rattle.captures.specs.ClnpBase.declared.command_base.status.Status.{Status}
use Rattle.frame_links.specs.LinkBoard.Ports.{PortState}
use Rattle.clnp_program.specs.LiveNode.Clocks.{ClockState}
use Rattle.clnp_program.specs.LiveCommands.Serves.{ServesRun}
use Rattle.clnp_program.specs.declared.command.Command.{Command}
use Rattle.clnp_program.specs.declared.command.Command.TheVariants.{Whole, Streamed, Run}

-- What a call comes to whose words run a node; every other one leaves the board and the clock as they are.
abbrev pub RunsAs : Result Command ℕ → (left_before left_after before after : Option (List ℕ))
    → (ports_before ports_after : List PortState) → (clock_before clock_after : ClockState)
    → (same_sink same_board same_clock read_rose write_rose : Type 0) → Status → Type 0
RunsAs (Ok (Run turns)) left_before left_after before after ports_before ports_after clock_before clock_after same_sink same_board same_clock read_rose write_rose status =
    ServesRun turns left_before left_after before after ports_before ports_after clock_before clock_after
    (same_sink × (same_board × same_clock)) read_rose write_rose status
RunsAs (Ok (Whole command)) left_before left_after before after ports_before ports_after clock_before clock_after same_sink same_board same_clock read_rose write_rose status =
    same_board × same_clock
RunsAs (Ok (Streamed command)) left_before left_after before after ports_before ports_after clock_before clock_after same_sink same_board same_clock read_rose write_rose status =
    same_board × same_clock
RunsAs (Err at) left_before left_after before after ports_before ports_after clock_before clock_after same_sink same_board same_clock read_rose write_rose status =
    same_board × same_clock
