-- The texts of faults, and the names of the codes of bad inputs.
use Rattle.std.specs.Prelude.{ℕ, List, [], ◌∷◌, ◌++◌, codes, get_or}
use Rattle.std.specs.Fmt.{decimal}
use Rattle.clnp_program.specs.declared.fault.Fault.{Fault}
use Rattle.clnp_program.specs.declared.fault.Fault.TheVariants.{BadWords, TooLong, BadInput, WorldFull, ReadFault, WriteFault, LinksGone, NoMemory, NoLink}

-- the names of the codes by their numbers, from 0, which is that of no code
abbrev pub code_names : List (List ℕ)
code_names =
    codes "other" ∷ codes "header" ∷ codes "syntax" ∷ codes "number" ∷ codes "address" ∷ codes "unknown-name"
    ∷ codes "dup-name" ∷ codes "dup-address" ∷ codes "limits" ∷ codes "mtu" ∷ codes "count" ∷ codes "magic"
    ∷ codes "version" ∷ codes "link-type" ∷ codes "record-length" ∷ codes "cut-file" ∷ codes "not-packable" ∷ []

-- the name of a code
abbrev pub code_name : ℕ → List ℕ
code_name code = get_or code_names code (codes "other")

-- what is said of a fault
abbrev pub fault_text : Fault → List ℕ
fault_text (BadWords at) = codes "bad words at " ++ decimal at
fault_text TooLong = codes "input too long"
fault_text (BadInput line code) = codes "bad input at line " ++ (decimal line ++ (codes ": " ++ code_name code))
fault_text (WorldFull octets) = codes "world full at " ++ (decimal octets ++ codes " octets")
fault_text ReadFault = codes "read fault"
fault_text WriteFault = codes "write fault"
fault_text (LinksGone links) = codes "all " ++ (decimal links ++ codes " links gone")
fault_text NoMemory = codes "no memory"
fault_text (NoLink at) = codes "no link at " ++ decimal at
