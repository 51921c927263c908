-- Which statuses are faults.
use Rattle.std.specs.Prelude.{Option, None, Some}
use Rattle.captures.specs.ClnpBase.declared.command_base.status.Status.{Status}
use Rattle.captures.specs.ClnpBase.declared.command_base.status.Status.TheVariants as status
use Rattle.clnp_program.specs.declared.fault.Fault.{Fault}
use Rattle.clnp_program.specs.declared.fault.Fault.TheVariants.{BadWords, TooLong, BadInput, WorldFull, ReadFault, WriteFault, LinksGone, NoMemory}

-- the fault of a status, if it is one
abbrev pub fault_of : Status → Option Fault
fault_of status.Done = None
fault_of (status.BadWords at) = Some (BadWords at)
fault_of status.TooLong = Some TooLong
fault_of (status.BadInput line code) = Some (BadInput line code)
fault_of (status.WorldFull octets) = Some (WorldFull octets)
fault_of status.ReadFault = Some ReadFault
fault_of status.WriteFault = Some WriteFault
fault_of (status.LinksGone links) = Some (LinksGone links)
fault_of status.NoMemory = Some NoMemory
