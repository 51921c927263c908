-- Lines of texts that stand one behind the other, and their counts.
use Rattle.std.proofs.Common.{◌≡◌, ℕ, ◌+◌, ◌==◌, ◌&&◌, Bool, true, false, if◌then◌else◌, List, [], ◌∷◌, ◌++◌, codes, refl, subst, sym, ap, ◌∙◌, append_assoc}
use Rattle.std.specs.List.{AllByRecursion, flat_map}
use Rattle.std.proofs.lemmas.List.Concat.{flat_map-cons}
use Rattle.clnp_machine.specs.ClnpBase.Text.{lines_of, onto_first, begins_with}
use Rattle.clnp_machine.specs.Nsap.Text.{hex_text}
use Rattle.clnp_machine.specs.ClnpPlan.Journal.{Line, Noted, Transmitted, Void, Late, Injected, Resized, Received, Lost, ForNobody, line_of, line_text, behind_space, note_words, target_text, octets_word}
use Rattle.std.specs.Fmt.{decimal}
use Rattle.clnp_machine.specs.ScenarioPlan.Plan.{Plan}
use Rattle.clnp_machine.specs.ClnpPlan.declared.scenario_plan.event.Move.{Move}
use Rattle.clnp_machine.specs.ClnpNetwork.LabelledNetwork.{Step, LabelledNetwork, after}
use Rattle.clnp_machine.specs.ClnpNetwork.Run.{lines_text, text_of, world_after}
use Rattle.clnp_program.specs.ClnpWorld.Lines.{both, tally}
use Rattle.clnp_program.specs.declared.clnp_world.lines.Counts.{Counts}
use Rattle.clnp_program.specs.NetworkCommands.Storm.{count_of, counts_in, counts_of, is_of_kind}
use Rattle.clnp_program.specs.NetworkCommands.Counting.{tally_of}
use Rattle.clnp_program.proofs.NetworkCommands.KindWords.{IsNamed, line_counts}
use Rattle.clnp_program.proofs.NetworkCommands.Named.{AreNamed, AreNamedSubnets, names_after}
pub use Rattle.clnp_program.proofs.ClnpWorld.LineSteps.{both-assoc, both-none, none-both, risen-both, risen-capped, risen-none, tally-append}
use Rattle.clnp_machine.proofs.ClnpBase.Sums.{length_filter-append}

-- the lines of a text are followed by those of the text behind it
abbrev pub EndsLines : List ℕ → Type 0
EndsLines text = (rest : List ℕ) → lines_of (text ++ rest) ≡ lines_of text ++ lines_of rest

onto_first-append : (c : ℕ) (first : List ℕ) (others all rest : List (List ℕ)) → all ≡ first ∷ others
    → onto_first c (all ++ rest) ≡ onto_first c all ++ rest
onto_first-append c first others all rest e = rw e refl

-- a text that ends with the end of a line has a line
if_some : (a b : Bool) (c : ℕ) (first : List ℕ) (others all : List (List ℕ)) → all ≡ first ∷ others
    → (head : List ℕ) × ((tail : List (List ℕ)) × ((if a then [] ∷ all else if b then all else onto_first c all) ≡ head ∷ tail))
if_some true b c first others all e = ([], (all, refl))
if_some false true c first others all e = (first, (others, e))
if_some false false c first others all e = (c ∷ first, (others, rw e refl))

some_line : (front : List ℕ) → (first : List ℕ) × ((others : List (List ℕ)) × (lines_of (front ++ 10 ∷ []) ≡ first ∷ others))
some_line [] = ([], ([], refl))
some_line (c ∷ cs) =
    let h = some_line cs in
    if_some (c == 10) ((c == 13) && begins_with 10 (cs ++ 10 ∷ [])) c h.0 h.1.0 (lines_of (cs ++ 10 ∷ [])) h.1.1

-- what the lines begin with is as before
if_append : (a b : Bool) (c : ℕ) (first : List ℕ) (others all whole rest : List (List ℕ)) → all ≡ first ∷ others → whole ≡ all ++ rest
    → (if a then [] ∷ whole else if b then whole else onto_first c whole) ≡ (if a then [] ∷ all else if b then all else onto_first c all) ++ rest
if_append true b c first others all whole rest e w = ap (λ (t : List (List ℕ)). [] ∷ t) w
if_append false true c first others all whole rest e w = w
if_append false false c first others all whole rest e w =
    ap (λ (t : List (List ℕ)). onto_first c t) w ∙ onto_first-append c first others all rest e

begins-longer : (c : ℕ) (front rest : List ℕ) → begins_with c ((front ++ 10 ∷ []) ++ rest) ≡ begins_with c (front ++ 10 ∷ [])
begins-longer c [] rest = refl
begins-longer c (d ∷ ds) rest = refl

pub line_ends : (front : List ℕ) → EndsLines (front ++ 10 ∷ [])
line_ends [] rest = refl
line_ends (c ∷ cs) rest =
    let h = some_line cs in
    rw (begins-longer 10 cs rest)
    (if_append (c == 10) ((c == 13) && begins_with 10 (cs ++ 10 ∷ [])) c h.0 h.1.0 (lines_of (cs ++ 10 ∷ []))
    (lines_of ((cs ++ 10 ∷ []) ++ rest)) (lines_of rest) h.1.1 (line_ends cs rest))

pub ends-none : EndsLines []
ends-none rest = refl

pub ends-append : (made more : List ℕ) → EndsLines made → EndsLines more → EndsLines (made ++ more)
ends-append made more h i rest =
    ap lines_of (append_assoc made more rest)
    ∙ (h (more ++ rest)
    ∙ (ap (λ (t : List (List ℕ)). lines_of made ++ t) (i rest)
    ∙ (sym (append_assoc (lines_of made) (lines_of more) (lines_of rest))
    ∙ ap (λ (t : List (List ℕ)). t ++ lines_of rest) (sym (h more)))))

line_of-ends : (first : List ℕ) (others : List (List ℕ)) → EndsLines (line_of first others)
line_of-ends first others =
    subst (λ (t : List ℕ). EndsLines t) (append_assoc first (flat_map behind_space others) (10 ∷ [])) (line_ends (first ++ flat_map behind_space others))

line_text-ends : (line : Line) → EndsLines (line_text line)
line_text-ends (Noted now name note) = line_of-ends (decimal now) (name ∷ note_words note)
line_text-ends (Transmitted now name copy port target frame) =
    line_of-ends (decimal now) (name ∷ codes "tx" ∷ decimal copy ∷ decimal port ∷ target_text target ∷ octets_word frame ∷ [])
line_text-ends (Void now name copy) = line_of-ends (decimal now) (name ∷ codes "void" ∷ decimal copy ∷ [])
line_text-ends (Late now name copy) = line_of-ends (decimal now) (name ∷ codes "late" ∷ decimal copy ∷ [])
line_text-ends (Injected now copy subnet sender target) =
    line_of-ends (decimal now) (codes "-" ∷ codes "inject" ∷ decimal copy ∷ subnet ∷ hex_text sender ∷ target_text target ∷ [])
line_text-ends (Resized now subnet mtu) = line_of-ends (decimal now) (codes "-" ∷ codes "mtu" ∷ subnet ∷ decimal mtu ∷ [])
line_text-ends (Received now name copy port) = ends-none
line_text-ends (Lost now copy) = ends-none
line_text-ends (ForNobody now copy) = ends-none

lines_text-ends : (lines : List Line) → EndsLines (lines_text lines)
lines_text-ends [] = ends-none
lines_text-ends (line ∷ lines) =
    rw (flat_map-cons line_text line lines) (ends-append (line_text line) (lines_text lines) (line_text-ends line) (lines_text-ends lines))

-- the text of moves ends with the end of a line, if it isn't empty
pub text_of-ends : (plan : Plan) (w : LabelledNetwork) (moves : List Move) → EndsLines (text_of plan w moves)
text_of-ends plan w [] = ends-none
text_of-ends plan w (move ∷ moves) =
    ends-append (lines_text (after plan w move).lines) (text_of plan (after plan w move).world moves)
    (lines_text-ends (after plan w move).lines) (text_of-ends plan (after plan w move).world moves)

count_of-append : (kind : List ℕ) (made more : List (List ℕ)) → count_of kind (made ++ more) ≡ count_of kind made + count_of kind more
count_of-append kind made more =
    length_filter-append (is_of_kind kind) made more

-- what is counted of lines one behind the other
pub counts_in-append : (made more : List (List ℕ)) → counts_in (made ++ more) ≡ both (counts_in made) (counts_in more)
counts_in-append made more =
    rw (
      count_of-append (codes "got") made more,
      count_of-append (codes "report") made more,
      count_of-append (codes "echoed") made more,
      count_of-append (codes "drop") made more,
      count_of-append (codes "expired") made more,
    ) refl

pub counts_of-append : (made more : List ℕ) → EndsLines made → counts_of (made ++ more) ≡ both (counts_of made) (counts_of more)
counts_of-append made more h = ap counts_in (h more) ∙ counts_in-append (lines_of made) (lines_of more)

-- what is counted of the text of some lines is what is counted of the lines
pub lines_counts : (lines : List Line) → AllByRecursion IsNamed lines → counts_of (lines_text lines) ≡ tally lines
lines_counts [] h = refl
lines_counts (line ∷ lines) h =
    ap (λ (t : List ℕ). counts_of t) (flat_map-cons line_text line lines)
    ∙ (counts_of-append (line_text line) (lines_text lines) (line_text-ends line)
    ∙ (ap (λ (c : Counts). both c (counts_of (lines_text lines))) (line_counts line h.0)
    ∙ (ap (λ (c : Counts). both (tally (line ∷ [])) c) (lines_counts lines h.1)
    ∙ sym (tally-append (line ∷ []) lines))))

-- so it is of the text of moves
pub moves_counts : (plan : Plan) (w : LabelledNetwork) (moves : List Move) → AreNamedSubnets plan.subnets → AreNamed w
    → counts_of (text_of plan w moves) ≡ tally_of plan w moves
moves_counts plan w [] named h = refl
moves_counts plan w (move ∷ moves) named h =
    let step : Step = after plan w move in
    let names = names_after plan w move named h in
    counts_of-append (lines_text step.lines) (text_of plan step.world moves) (lines_text-ends step.lines)
    ∙ (ap (λ (c : Counts). both c (counts_of (text_of plan step.world moves))) (lines_counts step.lines names.lines)
    ∙ ap (λ (c : Counts). both (tally step.lines) c) (moves_counts plan step.world moves named names.world))

-- ---- moves one behind the other

pub tally_of-append : (plan : Plan) (w : LabelledNetwork) (made more : List Move)
    → tally_of plan w (made ++ more) ≡ both (tally_of plan w made) (tally_of plan (world_after plan w made) more)
tally_of-append plan w [] more = sym (none-both (tally_of plan w more))
tally_of-append plan w (move ∷ made) more =
    let step : Step = after plan w move in
    ap (λ (c : Counts). both (tally step.lines) c) (tally_of-append plan step.world made more)
    ∙ sym (both-assoc (tally step.lines) (tally_of plan step.world made) (tally_of plan (world_after plan step.world made) more))
