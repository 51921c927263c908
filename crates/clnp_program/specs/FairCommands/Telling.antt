-- What is told, as the code has it.
use Rattle.system_tables.specs.FairReassembly.Classes as classes
use Rattle.clnp_program.specs.declared.fair_commands.told_line.Told.{Told}
use Rattle.clnp_program.specs.declared.fair_commands.told_line.Told.TheVariants.{Unread, Expired, Dead, Joined, Held, Repeat, Interference, NoSlot, Crowded, Many}

-- what the code tells
abbrev pub told_by : Told → classes.Told
told_by Unread = classes.Unread
told_by (Expired from to id held) = classes.Expired from.now to.now id held
told_by (Dead from) = classes.Dead from.now
told_by (Joined from to kind octets) = classes.Joined from.now to.now kind octets.now
told_by (Held from id offset held) = classes.Held from.now id offset held
told_by (Repeat from id offset) = classes.Repeat from.now id offset
told_by (Interference from id) = classes.Interference from.now id
told_by (NoSlot from live) = classes.NoSlot from.now live
told_by (Crowded from held size) = classes.Crowded from.now held size
told_by (Many from kept) = classes.Many from.now kept
