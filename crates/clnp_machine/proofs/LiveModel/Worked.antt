-- Worked examples of live nodes, computed with the definitions: the quiet time at the start, links that fail in a look and as a
-- frame is sent, a node whose links are all gone, and transcripts that are none of a node.
use Rattle.std.proofs.Common.{◌≡◌, ℕ, Bool, true, false, List, [], ◌∷◌, refl, Some, None, codes}
use Rattle.std.specs.Fmt.{digits}
use Rattle.hex.specs.Hex.{encode_with}
use Rattle.clnp_plan.specs.Fletcher.Checksum.{sealed, checksum_x, checksum_y}
use Rattle.clnp_plan.specs.ClnpOptions.Parameter.{spelled, parameters_after}
use Rattle.clnp_plan.specs.ClnpOptions.Edits.{edited, target_of, value_of}
use Rattle.clnp_plan.specs.ClnpOptions.Grammar.{joined}
use Rattle.clnp_plan.specs.ClnpOptions.Rules.{refusal as options_refusal, form_refusal, list_refusal, place_of, place_of_repeat}
use Rattle.clnp_plan.specs.PduHeader.Rules.{extent_refusal, fixed_part_refusal, addresses_refusal, lengths_refusal, header_refusal, refusal}
use Rattle.pdus.specs.EsisPdus.Timer.{seconds_of}
use Rattle.clnp_plan.specs.Pdus.declared.nsap.target.Target.TheVariants.{System}
use Rattle.clnp_plan.proofs.ScenarioPlan.WorkedPlans.{host_plan, router_plan}
use Rattle.clnp_machine.specs.LiveModel.Node.{Outcome, Saw, LookFailed, Took, SendFailed, Sending}
use Rattle.clnp_machine.specs.LiveModel.Course.{Course, Runs, IsOver, Breaks, IsNone, Turn, journal, node_run}

abbrev at_moment : ℕ → List Outcome → Turn
at_moment moment outcomes = record { moment = moment; outcomes = outcomes }

-- whether all links are gone at the end; whether the run ends within a turn; whether there is none
abbrev is_without_links : Course → Bool
is_without_links (Runs node lines) = false
is_without_links (IsOver node lines) = true
is_without_links (Breaks node lines) = false
is_without_links IsNone = false

abbrev is_broken : Course → Bool
is_broken (Runs node lines) = false
is_broken (IsOver node lines) = false
is_broken (Breaks node lines) = true
is_broken IsNone = false

abbrev is_none : Course → Bool
is_none (Runs node lines) = false
is_none (IsOver node lines) = false
is_none (Breaks node lines) = false
is_none IsNone = true

abbrev taken_in : Course → List Sending
taken_in (Runs node lines) = node.taken
taken_in (IsOver node lines) = node.taken
taken_in (Breaks node lines) = node.taken
taken_in IsNone = []

-- ---- a host, which is quiet at its start: nobody knows which identifiers it used before

abbrev host_ran : Course
host_ran = node_run host_plan (true ∷ [])
    (record { start = 0; turns = at_moment 0 (Saw 0 None ∷ []) ∷ at_moment 320 (Took 0 ∷ Saw 0 None ∷ []) ∷ [] })

quiet_at_first : journal host_ran ≡ codes "0 a refused quiet 320\n320 a sent dt 1 0000 47002702 47002701 2\n320 a tx 1 0 es 81190140bc001b39100447002701044700270200000000001b6869\nend 320 1\n"
unfolding parameters_after encode_with sealed checksum_x checksum_y spelled digits
quiet_at_first = refl

-- ---- a router between two subnetworks

-- a PDU of two octets of data for the host behind its second port, as it comes in at the first
abbrev came : Outcome
came = Saw 0 (Some (record {
  from = 1 ∷ [];
  to_group = false;
  octets = 0x81 ∷ 0x13 ∷ 1 ∷ 10 ∷ 0x3c ∷ 0 ∷ 0x15 ∷ 0xce ∷ 0x58 ∷ 4 ∷ 0x47 ∷ 0 ∷ 0x27 ∷ 1 ∷ 4 ∷ 0x47 ∷ 0 ∷ 0x27 ∷ 2 ∷ 0x68 ∷ 0x69 ∷ [];
}))

-- and as it goes on
abbrev went_on : Sending
went_on = record {
  port = 1;
  frame = record {
    target = System (2 ∷ []);
    octets = 0x81 ∷ 0x13 ∷ 1 ∷ 9 ∷ 0x3c ∷ 0 ∷ 0x15 ∷ 0xd3 ∷ 0x54 ∷ 4 ∷ 0x47 ∷ 0 ∷ 0x27 ∷ 1 ∷ 4 ∷ 0x47 ∷ 0 ∷ 0x27 ∷ 2 ∷ 0x68 ∷ 0x69 ∷ [];
  };
}

abbrev turns_of : List (List Outcome) → List Turn
turns_of [] = []
turns_of (outcomes ∷ others) = at_moment 0 outcomes ∷ turns_of others

-- turns at moment 0, with these outcomes in each
abbrev router_ran : List (List Outcome) → Course
router_ran turns = node_run router_plan (true ∷ true ∷ []) (record { start = 0; turns = turns_of turns })

-- the link of its second port fails as the frame is sent
abbrev failed_sending : Course
failed_sending = router_ran ((came ∷ SendFailed 1 ∷ []) ∷ (Saw 0 None ∷ []) ∷ [])

a_link_is_gone : journal failed_sending ≡ codes "0 r tx 1 1 02 811301093c0015d354044700270104470027026869\n0 r link 1 gone\nend 0 1\n"
unfolding refusal extent_refusal header_refusal fixed_part_refusal addresses_refusal lengths_refusal options_refusal form_refusal list_refusal place_of place_of_repeat target_of value_of edited joined seconds_of parameters_after encode_with sealed checksum_x checksum_y spelled digits
a_link_is_gone = refl

-- both links fail as they are looked at
abbrev no_link_left : Course
no_link_left = router_ran ((LookFailed 0 ∷ LookFailed 1 ∷ []) ∷ [])

all_links_are_gone : journal no_link_left ≡ codes "0 r link 0 gone\n0 r link 1 gone\n"
unfolding encode_with digits
all_links_are_gone = refl

then_it_is_over : is_without_links no_link_left ≡ true
then_it_is_over = refl

-- The link of its first port fails at its first call, its second, its third, or at none of three; that of its second port
-- doesn't, and takes the frame where that came.

abbrev fails_first : Course
fails_first = router_ran ((LookFailed 0 ∷ Saw 1 None ∷ []) ∷ (Saw 1 None ∷ []) ∷ (Saw 1 None ∷ []) ∷ [])

abbrev fails_second : Course
fails_second = router_ran ((came ∷ Took 1 ∷ Saw 1 None ∷ []) ∷ (LookFailed 0 ∷ Saw 1 None ∷ []) ∷ (Saw 1 None ∷ []) ∷ [])

abbrev fails_third : Course
fails_third = router_ran ((came ∷ Took 1 ∷ Saw 1 None ∷ []) ∷ (Saw 0 None ∷ Saw 1 None ∷ []) ∷ (LookFailed 0 ∷ Saw 1 None ∷ []) ∷ [])

abbrev fails_never : Course
fails_never = router_ran ((came ∷ Took 1 ∷ Saw 1 None ∷ []) ∷ (Saw 0 None ∷ Saw 1 None ∷ []) ∷ (Saw 0 None ∷ Saw 1 None ∷ []) ∷ [])

journal-first : journal fails_first ≡ codes "0 r link 0 gone\nend 0 0\n"
unfolding encode_with digits
journal-first = refl

taken-first : taken_in fails_first ≡ []
taken-first = refl

journal-second : journal fails_second ≡ codes "0 r tx 1 1 02 811301093c0015d354044700270104470027026869\n0 r link 0 gone\nend 0 1\n"
unfolding refusal extent_refusal header_refusal fixed_part_refusal addresses_refusal lengths_refusal options_refusal form_refusal list_refusal place_of place_of_repeat target_of value_of edited joined seconds_of parameters_after encode_with sealed checksum_x checksum_y spelled digits
journal-second = refl

taken-second : taken_in fails_second ≡ went_on ∷ []
unfolding refusal extent_refusal header_refusal fixed_part_refusal addresses_refusal lengths_refusal options_refusal form_refusal list_refusal place_of place_of_repeat target_of value_of edited joined seconds_of parameters_after encode_with sealed checksum_x checksum_y spelled digits
taken-second = refl

journal-third : journal fails_third ≡ codes "0 r tx 1 1 02 811301093c0015d354044700270104470027026869\n0 r link 0 gone\nend 0 1\n"
unfolding refusal extent_refusal header_refusal fixed_part_refusal addresses_refusal lengths_refusal options_refusal form_refusal list_refusal place_of place_of_repeat target_of value_of edited joined seconds_of parameters_after encode_with sealed checksum_x checksum_y spelled digits
journal-third = refl

taken-third : taken_in fails_third ≡ went_on ∷ []
unfolding refusal extent_refusal header_refusal fixed_part_refusal addresses_refusal lengths_refusal options_refusal form_refusal list_refusal place_of place_of_repeat target_of value_of edited joined seconds_of parameters_after encode_with sealed checksum_x checksum_y spelled digits
taken-third = refl

journal-never : journal fails_never ≡ codes "0 r tx 1 1 02 811301093c0015d354044700270104470027026869\nend 0 1\n"
unfolding refusal extent_refusal header_refusal fixed_part_refusal addresses_refusal lengths_refusal options_refusal form_refusal list_refusal place_of place_of_repeat target_of value_of edited joined seconds_of parameters_after encode_with sealed checksum_x checksum_y spelled digits
journal-never = refl

taken-never : taken_in fails_never ≡ went_on ∷ []
unfolding refusal extent_refusal header_refusal fixed_part_refusal addresses_refusal lengths_refusal options_refusal form_refusal list_refusal place_of place_of_repeat target_of value_of edited joined seconds_of parameters_after encode_with sealed checksum_x checksum_y spelled digits
taken-never = refl

-- ---- transcripts that are none of its

-- the look at the second port is left out: within the last turn the run ends there, with another turn behind it there is none
look_left_out : is_broken (router_ran ((Saw 0 None ∷ []) ∷ [])) ≡ true
look_left_out = refl

look_left_out_before : is_none (router_ran ((Saw 0 None ∷ []) ∷ (Saw 0 None ∷ Saw 1 None ∷ []) ∷ [])) ≡ true
look_left_out_before = refl

-- a port is looked at twice
looked_twice : is_none (router_ran ((Saw 0 None ∷ Saw 0 None ∷ Saw 1 None ∷ []) ∷ [])) ≡ true
looked_twice = refl

-- a detached port is looked at
detached_looked_at : is_none (router_ran ((LookFailed 0 ∷ Saw 1 None ∷ []) ∷ (Saw 0 None ∷ Saw 1 None ∷ []) ∷ [])) ≡ true
detached_looked_at = refl

-- a frame is taken that wasn't sent
taken_unsent : is_none (router_ran ((Saw 0 None ∷ Took 1 ∷ Saw 1 None ∷ []) ∷ [])) ≡ true
taken_unsent = refl

-- a turn follows behind one after which no link is attached
turn_too_many : is_none (router_ran ((LookFailed 0 ∷ LookFailed 1 ∷ []) ∷ [] ∷ [])) ≡ true
turn_too_many = refl
