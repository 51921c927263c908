-- Worked examples, computed with the definitions: units of a source with a share beside two sources without one, the same with all
-- other frames taken out, a unit that is whole by itself, octets that are no PDU, and bad lines.
use Rattle.std.proofs.Common.{◌≡◌, ℕ, List, Result, Ok, Err, codes, refl}
use Rattle.std.specs.Fmt.{digits}
use Rattle.hex.specs.Hex.{decode_pairs, encode_with}
use Rattle.scenario.specs.ClnpOptions.Parameter.{parameters_after, spelled}
use Rattle.scenario.specs.ClnpOptions.Rules.{form_refusal, list_refusal, place_of, place_of_repeat, refusal as options_refusal}
use Rattle.scenario.specs.Nsap.Text.{octets_of}
use Rattle.scenario.specs.PduHeader.Rules.{addresses_refusal, extent_refusal, fixed_part_refusal, header_refusal, lengths_refusal, refusal}
use Rattle.system_tables.specs.FairReassembly.Coming.{value_in}
use Rattle.scenario.specs.Grammar.{BadLine}
use Rattle.clnp_program.specs.FairCommands.Grammar.{Capture, capture_at, capture_of}
use Rattle.clnp_program.specs.FairCommands.Output.{output_of}

-- the output of a text, or its bad line
abbrev called : Result Capture BadLine → Result (List ℕ) BadLine
called (Ok capture) = Ok (output_of capture)
called (Err bad) = Err bad

abbrev bad_line : (line code : ℕ) → Result (List ℕ) BadLine
bad_line line code = Err (record { line = line; code = code })

abbrev beside_others : List ℕ
beside_others = codes "clnp-reassemble 1\nothers 1 4 512 10\nshare 47002702 1 4 512\nframes\n0 8119010adc001b00000447002701044700270300010000001d6869\n0 8119010adc001b00000447002701044700270400010000001d6869\n0 8119010adc001b00000447002701044700270200010000001d6869\n0 8119010a9c001b00000447002701044700270200010002001d6869\n10 8119010a9c001b00000447002701044700270300010002001d6869\nend\n"

abbrev alone : List ℕ
alone = codes "clnp-reassemble 1\nothers 1 4 512 10\nshare 47002702 1 4 512\nframes\n0 8119010adc001b00000447002701044700270200010000001d6869\n0 8119010a9c001b00000447002701044700270200010002001d6869\nend\n"

beside_others-calls : called (capture_of beside_others) ≡ Ok (codes "0 held 47002703 0001 0 27\n0 noslot 47002704 1\n0 held 47002702 0001 0 27\n0 unit 47002702 47002701 dt 68696869\n10 expired 47002703 47002701 0001 0\n10 held 47002703 0001 2 27\nend 5\n")
unfolding capture_at value_in refusal extent_refusal header_refusal fixed_part_refusal addresses_refusal lengths_refusal options_refusal form_refusal list_refusal place_of place_of_repeat parameters_after spelled octets_of decode_pairs encode_with digits
beside_others-calls = refl

alone-calls : called (capture_of alone) ≡ Ok (codes "0 held 47002702 0001 0 27\n0 unit 47002702 47002701 dt 68696869\nend 2\n")
unfolding capture_at value_in refusal extent_refusal header_refusal fixed_part_refusal addresses_refusal lengths_refusal options_refusal form_refusal list_refusal place_of place_of_repeat parameters_after spelled octets_of decode_pairs encode_with digits
alone-calls = refl
