-- The codes of lines that are refused.
use Rattle.captures.specs.declared.capture_text.refusal.PackRefusal.{PackRefusal}
use Rattle.captures.specs.declared.capture_text.refusal.PackRefusal.TheVariants as pack_refusal
use Rattle.captures.specs.declared.capture.LineRefusal.{LineRefusal}
use Rattle.captures.specs.declared.capture.LineRefusal.TheVariants.{Syntax, Count, NoMemory}
use Rattle.clnp_base.specs.declared.command_base.block.LineFault.{LineFault}
use Rattle.clnp_base.specs.declared.command_base.block.LineFault.TheVariants as fault
use Rattle.clnp_base.specs.CommandBase.Codes.{count_code, not_packable_code, syntax_code}

-- a line of another form, and one whose frame has too many octets
abbrev pub fault_of : LineRefusal → LineFault
fault_of Syntax = fault.Bad syntax_code
fault_of Count = fault.Bad count_code
fault_of NoMemory = fault.NoMemory

-- the line of a refused frame, or of one of neither protocol; one that shows no accepted frame; and one whose frame has too
-- many octets
abbrev pub unpacked_fault : PackRefusal → LineFault
unpacked_fault pack_refusal.NotPackable = fault.Bad not_packable_code
unpacked_fault pack_refusal.NotShown = fault.Bad syntax_code
unpacked_fault pack_refusal.Count = fault.Bad count_code
unpacked_fault pack_refusal.NoMemory = fault.NoMemory
