-- Worked examples of canonical texts, and each of them read again.
use Rattle.std.proofs.Common.{◌≡◌, ℕ, true, false, List, [], ◌∷◌, ◌++◌, refl, Result, Ok, Err, codes}
use Rattle.std.specs.Fmt.{digits}
use Rattle.hex.specs.Hex.{encode_with, decode_pairs}
use Rattle.clnp_plan.specs.Nsap.Text.{octets_of}
use Rattle.clnp_plan.specs.ClnpOptions.Parameter.{parameters_after, spelled}
use Rattle.clnp_plan.specs.ClnpOptions.Rules.{refusal, form_refusal, list_refusal, place_of_repeat, place_of}
use Rattle.clnp_plan.specs.Configuration.{SystemConfiguration}
use Rattle.clnp_plan.specs.declared.config.Role.TheVariants.{Host}
use Rattle.scenario.specs.ScenarioWriting.Canonical.{system_text, belongings_text, text_of}
use Rattle.scenario.specs.Declarations.{usual_settings, limits_line, subnet_line, room_word, setting_word, system_line, address_line, port_line, route_line, declaration_line}
use Rattle.scenario.specs.Events.{wish_word, send_line, deliver_line, tick_line, ticks_line, restart_line, echo_line, count_line, congest_line, event_line}
use Rattle.scenario.specs.Grammar.{BadLine, plan_of, plan_at, plan_of_version_1, counted_event, events_from}
use Rattle.scenario.specs.ScenarioWriting.Migration.{migrated, migration_of}
use Rattle.clnp_plan.specs.ScenarioPlan.Plan.{Plan}
use Rattle.scenario.specs.ScenarioWriting.Seeds.{two_networks}
use Rattle.clnp_plan.specs.declared.scenario_plan.event.Body.TheVariants.{Hex, Pattern}
use Rattle.clnp_plan.specs.declared.scenario_plan.event.Event.TheVariants.{Send, Deliver, Settle, Lose, Tick, Restart, Echo, Congest}

a_host : (name address snpa : List ℕ) → SystemConfiguration
a_host name address snpa = record {
  name = name;
  role = Host;
  addresses = address ∷ [];
  ports = record { subnet = 0; snpa = snpa; transit = 1; mtu = 1500 } ∷ [];
  routes = [];
  settings = record usual_settings { hello = 0 };
}

two_hosts : Plan
two_hosts = record {
  version = 1;
  limits = record { age = 256; hold = 60; reuse = 320; skew = 0 };
  subnets = record { name = codes "lan"; mtu = 1500 } ∷ [];
  systems = a_host (codes "a") (0x47 ∷ 0 ∷ 0x27 ∷ 2 ∷ []) (1 ∷ []) ∷ a_host (codes "b") (0x47 ∷ 0 ∷ 0x27 ∷ 1 ∷ []) (2 ∷ []) ∷ [];
  events = Tick 1 ∷ [];
}

two_hosts_text : List ℕ
two_hosts_text = codes "clnp-sim 1\nlimits 256 60 320\nsubnet lan 1500\nsystem a host hello=0 suggest=0 rhold=120 slots=16 segments=1024 budget=262144 neighbours=64 routers=8 redirects=64 life=64 checksum=on\nsystem b host hello=0 suggest=0 rhold=120 slots=16 segments=1024 budget=262144 neighbours=64 routers=8 redirects=64 life=64 checksum=on\naddress a 47002702\nport a 0 lan 01 1\naddress b 47002701\nport b 0 lan 02 1\nevents\ntick 1\nend\n"

written : text_of two_hosts ≡ two_hosts_text
unfolding a_host two_hosts two_hosts_text digits encode_with system_text belongings_text
written = refl

read_again : plan_of two_hosts_text ≡ Ok two_hosts
unfolding a_host two_hosts two_hosts_text decode_pairs octets_of plan_at counted_event events_from limits_line subnet_line room_word setting_word system_line address_line port_line declaration_line tick_line ticks_line event_line
read_again = refl

-- an event of each kind, and a `send` with all its words
of_each_kind : Plan
of_each_kind = two_networks (
    Send 0 (0x47 ∷ 0 ∷ []) (0x48 ∷ []) (Hex (0x68 ∷ 0xff ∷ [])) (record { life = 9; report = false; segment = false; options = 0xc5 ∷ 1 ∷ 0xc0 ∷ [] })
    ∷ Send 1 (0x47 ∷ []) (0x48 ∷ []) (Hex []) (record { life = 32; report = true; segment = true; options = [] })
    ∷ Echo 2 (0x47 ∷ []) (0x48 ∷ []) (Pattern 70000 255)
    ∷ Deliver 1000000000 5
    ∷ Settle 2
    ∷ Lose 3
    ∷ Tick 65535
    ∷ Restart 3
    ∷ Congest 2 true
    ∷ Congest 3 false
    ∷ []
    )

of_each_kind_text : List ℕ
of_each_kind_text = codes "clnp-sim 1\nlimits 40 20 60\nsubnet lan1 1500\nsubnet mid 512\nsubnet lan2 1024\nsystem a host hello=60 suggest=0 rhold=120 slots=16 segments=1024 budget=262144 neighbours=64 routers=8 redirects=64 life=32 checksum=on\nsystem b host hello=60 suggest=0 rhold=120 slots=16 segments=1024 budget=262144 neighbours=64 routers=8 redirects=64 life=32 checksum=on\nsystem r1 router hello=60 suggest=0 rhold=120 slots=16 segments=1024 budget=262144 neighbours=64 routers=8 redirects=64 life=32 checksum=on\nsystem r2 router hello=60 suggest=0 rhold=120 slots=16 segments=1024 budget=262144 neighbours=64 routers=8 redirects=64 life=32 checksum=on\nsystem c host hello=60 suggest=0 rhold=120 slots=16 segments=1024 budget=262144 neighbours=64 routers=8 redirects=64 life=32 checksum=on\nsystem d host hello=60 suggest=0 rhold=120 slots=16 segments=1024 budget=262144 neighbours=64 routers=8 redirects=64 life=32 checksum=on\naddress a 4700270101\nport a 0 lan1 01 1\naddress b 4700270102\nport b 0 lan1 02 1\naddress r1 47002701ff\nport r1 0 lan1 0a 1\nport r1 1 mid 0b 1\nroute r1 47002702 1 0c 47002702ff\naddress r2 47002702ff\nport r2 0 mid 0c 1\nport r2 1 lan2 0d 1\nroute r2 47002701 0 0b 47002701ff\naddress c 4700270201\nport c 0 lan2 03 1\naddress d 4700270202\nport d 0 lan2 04 1\nevents\nsend a 4700 48 hex:68ff life=9 noreport whole opt=c501c0\nsend b 47 48 hex: life=32\necho r1 47 48 pat:70000:255\ndeliver 1000000000 d\nsettle 2\nlose 3\ntick 65535\nrestart r2\ncongest r1 on\ncongest r2 off\nend\n"

each_kind_written : text_of of_each_kind ≡ of_each_kind_text
unfolding of_each_kind of_each_kind_text digits encode_with system_text belongings_text
each_kind_written = refl

each_kind_read_again : plan_of of_each_kind_text ≡ Ok of_each_kind
unfolding of_each_kind of_each_kind_text refusal form_refusal spelled list_refusal place_of_repeat place_of parameters_after decode_pairs octets_of plan_at counted_event events_from limits_line subnet_line room_word setting_word system_line address_line port_line route_line declaration_line wish_word send_line deliver_line tick_line ticks_line restart_line echo_line count_line congest_line event_line
each_kind_read_again = refl

-- ---- version 2

-- the two hosts as a user writes them, with a header
written_by_a_user : (header : List ℕ) → List ℕ
written_by_a_user header = header ++ codes "\nsubnet lan 1500\nsystem a host hello=0\nsystem b host hello=0\naddress a 47002702\naddress b 47002701\nport a 0 lan 01\nport b 0 lan 02\nevents\ntick 1\nend\n"

two_hosts_migrated : List ℕ
two_hosts_migrated = codes "clnp-sim 2\nlimits 256 60 320 0\nsubnet lan 1500\nsystem a host hello=0 suggest=0 rhold=120 slots=16 segments=1024 budget=262144 neighbours=64 routers=8 redirects=64 life=64 checksum=on\nsystem b host hello=0 suggest=0 rhold=120 slots=16 segments=1024 budget=262144 neighbours=64 routers=8 redirects=64 life=64 checksum=on\naddress a 47002702\nport a 0 lan 01 1\naddress b 47002701\nport b 0 lan 02 1\nevents\ntick 1\nend\n"

migrates : migration_of (written_by_a_user (codes "clnp-sim 1")) ≡ Ok two_hosts_migrated
unfolding written_by_a_user two_hosts_migrated digits encode_with decode_pairs octets_of plan_at counted_event events_from limits_line subnet_line room_word setting_word system_line address_line port_line declaration_line tick_line ticks_line event_line system_text belongings_text
migrates = refl

migrated_read_again : plan_of two_hosts_migrated ≡ Ok (migrated two_hosts)
unfolding a_host two_hosts two_hosts_migrated decode_pairs octets_of plan_at counted_event events_from limits_line subnet_line room_word setting_word system_line address_line port_line declaration_line tick_line ticks_line event_line
migrated_read_again = refl

-- limits stand anywhere among the declarations
read_with_limits : plan_of (written_by_a_user (codes "clnp-sim 2\nlimits 256 60 320 0")) ≡ Ok (migrated two_hosts)
unfolding a_host two_hosts written_by_a_user decode_pairs octets_of plan_at counted_event events_from limits_line subnet_line room_word setting_word system_line address_line port_line declaration_line tick_line ticks_line event_line
read_with_limits = refl

-- a text is refused for a line of it
abbrev IsRefused : Result Plan BadLine → (line code : ℕ) → Type 0
IsRefused reading line code = reading ≡ Err (record { line = line; code = code })

no_limits : IsRefused (plan_of (written_by_a_user (codes "clnp-sim 2"))) 9 2
unfolding written_by_a_user decode_pairs octets_of plan_at limits_line subnet_line room_word setting_word system_line address_line port_line declaration_line
no_limits = refl

-- where the limits are missing, what a system lacks isn't told
no_limits_first : IsRefused (plan_of (codes "clnp-sim 2\nsystem a host\nevents\nend\n")) 3 2
unfolding plan_at limits_line subnet_line room_word setting_word system_line declaration_line
no_limits_first = refl

system_lacks : IsRefused (plan_of (codes "clnp-sim 2\nsystem a host\nlimits 4 2 6 0\nevents\nend\n")) 4 10
unfolding plan_at limits_line subnet_line room_word setting_word system_line declaration_line
system_lacks = refl

three_in_version_2 : IsRefused (plan_of (codes "clnp-sim 2\nlimits 4 2 6\nevents\nend\n")) 2 2
unfolding plan_at limits_line declaration_line
three_in_version_2 = refl

four_in_version_1 : IsRefused (plan_of (codes "clnp-sim 1\nlimits 4 2 6 0\nevents\nend\n")) 2 2
unfolding plan_at limits_line declaration_line
four_in_version_1 = refl

clocks_apart : IsRefused (plan_of (codes "clnp-sim 2\nlimits 4 2 7 1\nevents\nend\n")) 2 8
unfolding plan_at limits_line declaration_line
clocks_apart = refl

clocks_further_apart : IsRefused (plan_of (codes "clnp-sim 2\nlimits 4 2 9000 4097\nevents\nend\n")) 2 3
unfolding plan_at limits_line declaration_line
clocks_further_apart = refl

too_short_a_rest : IsRefused (plan_of (codes "clnp-sim 2\nlimits 4 2 5 0\nevents\nend\n")) 2 8
unfolding plan_at limits_line declaration_line
too_short_a_rest = refl

limits_again : IsRefused (plan_of (codes "clnp-sim 2\nlimits 4 2 6 0\nlimits 4 2 5 0\nevents\nend\n")) 3 6
unfolding plan_at limits_line declaration_line
limits_again = refl

version_3 : IsRefused (plan_of (codes "\nclnp-sim 3\nevents\nend\n")) 2 1
unfolding plan_at
version_3 = refl

-- what is asked to be of version 1, and isn't
not_version_1 : IsRefused (plan_of_version_1 (codes "# two\nclnp-sim 2\nlimits 4 2 6 0\nevents\nend\n")) 2 1
unfolding plan_at
not_version_1 = refl
