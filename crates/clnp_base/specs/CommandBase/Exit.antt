-- The exit numbers of the program.
use Rattle.std.specs.Prelude.{ℕ}
use Rattle.clnp_base.specs.declared.command_base.status.Status.{Status}
use Rattle.clnp_base.specs.declared.command_base.status.Status.TheVariants.{Done, BadWords, TooLong, BadInput, WorldFull, ReadFault, WriteFault, LinksGone, NoMemory}

abbrev pub exit_number : Status → ℕ
exit_number Done = 0
exit_number (BadWords at) = 1
exit_number TooLong = 2
exit_number (BadInput line code) = 3
exit_number (WorldFull octets) = 4
exit_number ReadFault = 5
exit_number WriteFault = 6
exit_number (LinksGone links) = 7
exit_number NoMemory = 8
