-- What the program says of itself on standard output, and behind a fault on standard error. Lines end in 10.
use Rattle.std.specs.Prelude.{ℕ, ◌==◌, ◌||◌, Bool, if◌then◌else◌, List, [], ◌∷◌, ◌++◌, codes, Option, None, Some}
use Rattle.std.specs.List.{flat_map}
use Rattle.std.specs.Str.{bytes_eq}
use Rattle.captures.specs.CommandBase.Codes.{magic_code}
use Rattle.clnp_program.specs.declared.fault.Fault.{Fault}
use Rattle.clnp_program.specs.declared.fault.Fault.TheVariants.{BadWords, BadInput}

-- a command: its name, what stands behind it on the command line, what it does in a line, and its page
pub record Form : Type 0 where
  pub name : List ℕ
  pub takes : List ℕ
  pub does : List ℕ
  pub page : List ℕ

unfoldable pub sim_page : List ℕ
sim_page = codes "Reads a scenario text and writes the journal of its run: a line for each thing\nthat happened, with its moment in ticks, the system's name and a note. Nothing is\nwritten before the whole text was accepted; a bad line is told on standard error.\n\nExample:\n\n  $ clnp sim < hi.txt\n  0 a sent dt 1 - 47002702 47002701 2\n  0 a tx 1 0 es 8113010a3c0015ce58044700270104470027026869\n  0 b got 47002702 47002701 6869\n  end 0 1\n\nwhere hi.txt is the scenario at the end of clnp --help.\n"

abbrev pub sim_form : Form
sim_form = record { name = codes "sim"; takes = codes " < SCENARIO"; does = codes "    reads a scenario and writes its journal"; page = sim_page }

unfoldable pub trace_page : List ℕ
trace_page = codes "Reads a scenario text and writes the trace of its run: its journal, as clnp sim\nwrites it, and between its lines what becomes of each copy of a frame: rx where one\ncomes to a system, before what comes of it; lost; or nobody where it is for no system.\n\nExample:\n\n  $ clnp trace < hi.txt\n  0 a sent dt 1 - 47002702 47002701 2\n  0 a tx 1 0 es 8113010a3c0015ce58044700270104470027026869\n  0 b rx 1 0\n  0 b got 47002702 47002701 6869\n  end 0 1\n\nwhere hi.txt is the scenario at the end of clnp --help.\n"

abbrev pub trace_form : Form
trace_form = record { name = codes "trace"; takes = codes " < SCENARIO"; does = codes "  reads a scenario and writes its journal with what becomes of each copy"; page = trace_page }

unfoldable pub show_page : List ℕ
show_page = codes "Reads a capture and writes a line of text for each of its frames, up to the first\nbad line. A frame stands in a line of its own, in hexadecimal digits, two an octet,\nand nothing else; lines that are empty or begin with # are skipped.\n\nExample:\n\n  $ echo 8113010a3c0015ce58044700270104470027026869 | clnp show\n  clnp dt e life=10 sum=ce58 to=47002701 from=47002702 data=6869 rest=\n"

abbrev pub show_form : Form
show_form = record { name = codes "show"; takes = codes " < CAPTURE"; does = codes "    reads frames in hexadecimal digits and writes a line for each"; page = show_page }

unfoldable pub check_page : List ℕ
check_page = codes "Reads vectors and writes for each whether it passes, up to the first bad line, and\nat the end how many passed and failed. A vector is a frame in hexadecimal digits,\nthen \" => \", then the line that show must write for it; lines that are empty or\nbegin with # are skipped. Vectors that fail don't change the exit number.\n\nExample:\n\n  $ echo '83 => alien' | clnp check\n  1 pass\n  passed 1 failed 0\n"

abbrev pub check_form : Form
check_form = record { name = codes "check"; takes = codes " < VECTORS"; does = codes "   reads frames with the lines expected of show and writes which pass"; page = check_page }

unfoldable pub pack_page : List ℕ
pack_page = codes "Reads lines of text as clnp show writes them and writes the frame that each of them\nshows, in hexadecimal digits, up to the first line that shows no accepted frame;\nlines that are empty or begin with # are skipped. Each checksum must be right: show\na frame, change a line, and the line is refused where it is no frame's any more.\n\nExample:\n\n  $ echo 'rd hold=120 sum=adc8 to=47002701 via=02 title= rest=' | clnp pack\n  82110100060078adc80447002701010200\n"

abbrev pub pack_form : Form
pack_form = record { name = codes "pack"; takes = codes " < SHOWN"; does = codes "      reads lines that show frames and writes the frame of each"; page = pack_page }

unfoldable pub pcap_show_page : List ℕ
pcap_show_page = codes "Reads an Ethernet capture in a pcap file, as tcpdump -w and tshark -F pcap write it,\nof up to 1,073,741,824 octets, and writes a line for each record while it reads: its\nnumber, from 1, then other, or cut, or the destination, the source and the line that\nshows the OSI PDU in it. It stops at the first fault of the file.\n\nExample:\n\n  $ clnp pcap-show < hello.pcap\n  1 is 0a0000000001 esh hold=120 sum=324b addr=47002702 rest=\n\nwhere hello.pcap is what the example of clnp pcap-make --help makes.\n"

abbrev pub pcap_show_form : Form
pcap_show_form = record { name = codes "pcap-show"; takes = codes " < FILE"; does = codes "  reads an Ethernet capture and writes a line for each record"; page = pcap_show_page }

unfoldable pub pcap_make_page : List ℕ
pcap_make_page = codes "Reads lines SECONDS DST SRC HEX and writes a pcap file with an Ethernet frame for each,\nup to the first bad line: the second at which it came, its destination (es, is, or six\noctets in hexadecimal digits), its source, and the OSI PDU in it, of up to 1,497\noctets. Lines that are empty or begin with # are skipped.\n\nExample:\n\n  $ echo '0 is 0a0000000001 820f0100020078324b010447002702' | clnp pcap-make > hello.pcap\n"

abbrev pub pcap_make_form : Form
pcap_make_form = record { name = codes "pcap-make"; takes = codes " < LINES"; does = codes " reads lines of frames and writes an Ethernet capture of them"; page = pcap_make_page }

unfoldable pub pcap_lines_page : List ℕ
pcap_lines_page = codes "Reads an Ethernet capture as clnp pcap-show does and writes for each record with an OSI\nPDU the line of which clnp pcap-make makes its frame, and for every other record a\nremark: # N other, # N cut, or # N empty where the PDU has no octets.\n\nExample:\n\n  $ clnp pcap-lines < hello.pcap\n  0 is 0a0000000001 820f0100020078324b010447002702\n"

abbrev pub pcap_lines_form : Form
pcap_lines_form = record { name = codes "pcap-lines"; takes = codes " < FILE"; does = codes " reads an Ethernet capture and writes lines for clnp pcap-make"; page = pcap_lines_page }

unfoldable pub reassemble_page : List ℕ
reassemble_page = codes "Reads captured frames with the moment of each, and writes what comes of each of them:\nthe units that their segments make, and what is held, repeated or refused. Sources\nthat have a share have reassembly buffers of their own, so that nothing that comes\nfrom others takes them. Nothing is written before the whole text was accepted.\n\nExample:\n\n  $ clnp reassemble < traffic.txt\n  3 unit 47002702 47002701 dt 6869\n  end 1\n\nwhere traffic.txt is\n\n  clnp-reassemble 1\n  others 1 4 512 10\n  share 47002702 1 4 512\n  frames\n  3 8113010a3c0015ce58044700270104470027026869\n  end\n"

abbrev pub reassemble_form : Form
reassemble_form = record { name = codes "reassemble"; takes = codes " < TEXT"; does = codes " reads captured frames and writes the units that they make"; page = reassemble_page }

unfoldable pub migrate_page : List ℕ
migrate_page = codes "Reads a scenario text of version 1 and writes the same scenario in version 2, with\neach setting said. Its journal is the same. A bad line is told on standard error.\n\nExample:\n\n  $ clnp migrate < hi.txt | head -n 2\n  clnp-sim 2\n  limits 256 60 320 0\n\nwhere hi.txt is the scenario at the end of clnp --help.\n"

abbrev pub migrate_form : Form
migrate_form = record { name = codes "migrate"; takes = codes " < SCENARIO"; does = codes "\n                         reads a scenario of version 1 and writes it in version 2"; page = migrate_page }

unfoldable pub storm_page : List ℕ
storm_page = codes "Reads nothing. Runs the scenario that the seed makes, four hosts and two routers\nwith some 600 events, and writes one line of what its journal counts. A seed is a\ndecimal number below 2^64; the same seed always gives the same line.\n\nExample:\n\n  $ clnp storm 1\n  storm 1 events 577 copies 1315 got 88 reports 84 echoed 13 drops 116 expired 6 end 399\n\nthat is how many event lines and copies there were, how many lines of each kind the\njournal has, and the clock at its end, in ticks of half a second.\n"

abbrev pub storm_form : Form
storm_form = record { name = codes "storm"; takes = codes " SEED"; does = codes "        runs the scenario that the seed makes and writes a line of what it counts"; page = storm_page }

unfoldable pub run_page : List ℕ
run_page = codes "Reads a scenario of one system and runs that system over links, one for each of its\nports in their order, for N turns, 1 to 1,000,000,000; it writes the system's journal\nwhile it runs. In a turn it reads the clock, which ticks twice a second from 0 on, does\nthe events that are due, which are send, echo and tick alone, and looks once at each\nlink. There are up to 8 links: udp:A.B.C.D:P is one that receives at this address and\nport, and behind it stand up to 16 peers, as ,hA.B.C.D:P for a host and ,rA.B.C.D:P for\na router, who get the frames for all of them. A frame is a datagram, and a system's\nsubnetwork address is the six octets of its address and port. Where a link fails the\nnode goes on with the others.\n\nExample:\n\n  $ clnp run --turns 1 udp:127.0.0.1:7001,h127.0.0.1:7002 < one.txt\n  0 a sent dt 1 - 47002702 47002701 2\n  0 a tx 1 0 es 8113010a3c0015ce58044700270104470027026869\n  end 0 1\n\nwhere one.txt is\n\n  clnp-sim 1\n  subnet lan 1500\n  system a host hello=0\n  address a 47002702\n  port a 0 lan 7f0000011b59\n  events\n  send a 47002702 47002701 hex:6869 life=10 whole\n  end\n"

abbrev pub run_form : Form
run_form = record { name = codes "run"; takes = codes " --turns N LINK.. < SCENARIO"; does = codes "\n                         runs one system over links and writes its journal"; page = run_page }

-- The commands. Whatever tells of them tells of these.
abbrev pub commands : List Form
commands =
    sim_form ∷ trace_form ∷ show_form ∷ check_form ∷ pack_form ∷ pcap_show_form
    ∷ pcap_make_form ∷ pcap_lines_form ∷ reassemble_form ∷ migrate_form ∷ storm_form
    ∷ run_form ∷ []

-- a command as its user writes it
abbrev pub words_of : Form → List ℕ
words_of form = codes "clnp " ++ (form.name ++ form.takes)

-- a command's line in the text of help
abbrev pub help_line : Form → List ℕ
help_line form = codes "  " ++ (words_of form ++ (form.does ++ codes "\n"))

-- a command's page: how it is written, and what it reads and writes
unfoldable pub page_text : Form → List ℕ
page_text form = words_of form ++ (codes "\n\n" ++ form.page)

unfoldable pub version_text : List ℕ
version_text = codes "clnp 0.1.0\n"

unfoldable pub help_text : List ℕ
help_text =
    codes "clnp simulates a connectionless network (ISO/IEC 8473, RFC 994), and reads and\nmakes captures of its frames.\n\n" ++ (flat_map help_line commands ++
    codes "  clnp COMMAND --help    writes what a command reads and writes, with an example\n  clnp --help            writes this text, as clnp -h and clnp help do\n  clnp --version         writes the version\n\nExit numbers:\n  0  done\n  1  the words are no command\n  2  the input has more than 16,777,216 octets, or an Ethernet capture more\n     than 1,073,741,824\n  3  the input isn't what the command reads: a line of it is bad\n  4  the frames of the simulated network weigh 268,435,456 octets or more\n  5  standard input failed\n  6  standard output failed\n  7  all links of a run failed\n  8  no memory\n  9  a link of a run can't be opened\n\nA scenario, in which the host a sends two octets to the host b:\n\n  clnp-sim 1\n  subnet lan 1500\n  system a host hello=0\n  system b host hello=0\n  address a 47002702\n  address b 47002701\n  port a 0 lan 01\n  port b 0 lan 02\n  events\n  send a 47002702 47002701 hex:6869 life=10 whole\n  settle 1\n  end\n")

-- the words that ask for help, each alone
abbrev pub asks_for_help : List ℕ → Bool
asks_for_help word = bytes_eq word (codes "--help") || (bytes_eq word (codes "-h") || bytes_eq word (codes "help"))

-- the text that a word asks for about the program itself
abbrev pub information_on : List ℕ → Option (List ℕ)
information_on word =
    if asks_for_help word then Some help_text
    else if bytes_eq word (codes "--version") then Some version_text
    else None

-- the page of the command of a name
abbrev pub page_among : List Form → List ℕ → Option (List ℕ)
page_among [] name = None
page_among (form ∷ forms) name = if bytes_eq name form.name then Some (page_text form) else page_among forms name

-- the text that the words ask for about the program itself: one word that stands alone, or a command and `--help`
abbrev pub information : List (List ℕ) → Option (List ℕ)
information [] = None
information (word ∷ []) = information_on word
information (word ∷ second ∷ []) = if bytes_eq second (codes "--help") then page_among commands word else None
information (word ∷ second ∷ third ∷ others) = None

-- the commands one after another, the last behind "or"
abbrev pub one_of : List Form → List ℕ
one_of [] = []
one_of (form ∷ []) = codes "or " ++ form.name
one_of (form ∷ next ∷ others) = form.name ++ (codes ", " ++ one_of (next ∷ others))

-- the line that says which words are commands, and where more is told of them
unfoldable pub wanted : List ℕ
wanted = codes "clnp: wanted: " ++ (one_of commands ++ codes "; clnp --help tells of each\n")

-- what stands behind the end of a line that tells of an input with this code: how a capture in another form is turned into one
-- that is read, behind a magic number that is none
abbrev pub behind_code : ℕ → List ℕ
behind_code code =
    if code == magic_code then codes "clnp: a file in the pcapng form is turned into one by: tshark -r FILE -F pcap -w FILE.pcap\n" else []

-- what stands behind the text of a fault: the end of its line, behind bad words which words are commands, and behind a magic
-- number that is none how a capture in another form is turned into one that is read
abbrev pub behind_fault : Fault → List ℕ
behind_fault (BadWords at) = codes "\n" ++ wanted
behind_fault (BadInput line code) = codes "\n" ++ behind_code code
behind_fault _ = codes "\n"
