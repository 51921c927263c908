-- Turns, one after another.
use Rattle.std.proofs.Common.{◌≡◌, ◌<◌, ◌≤◌, ◌+◌, ◌∙◌, inl, inr, ℕ, Bool, true, false, ◌||◌, List, [], ◌∷◌, ◌++◌, length, take, Option, Err, refl, sym, ap, subst, append_assoc, append-nil, length-append, arith}
use Rattle.std.specs.Prelude.{if◌then◌else◌, ◌⊎◌}
use Rattle.std.specs.List.{AllByRecursion}
use Rattle.std.specs.Io.KnownBytes.{Appends}
use Rattle.std.proofs.KnownBytes.{Appends-nil, Appends-trans}
use Rattle.std.proofs.Math.Seq.{take-append-add}
use Rattle.std.proofs.lemmas.Grind.{flat_map-append}
use Rattle.std.proofs.lemmas.List.{map-append}
use Rattle.clnp_machine.specs.ClnpPlan.Journal.{end_text}
use Rattle.frame_links.specs.ClnpBase.Streams.{AppendsFront}
use Rattle.frame_links.specs.LinkBoard.Ports.{PortState}
use Rattle.clnp_machine.specs.LiveModel.Lines.{NodeLine, lines_text}
use Rattle.clnp_machine.specs.LiveModel.Node.{Node, Outcome, Played, Goes, Ends, Strays, Sending}
use Rattle.clnp_machine.specs.LiveModel.Parts.{UsesAll}
use Rattle.clnp_machine.specs.LiveModel.Turn.{Due, comes_at, due_behind, takes_turn}
use Rattle.clnp_machine.specs.LiveModel.Course.{Course, Runs, IsOver, Breaks, IsNone, Turn, behind_turn, course, course_behind, goes_on, has_any_link, is_over, journal, moments_of, outcomes_of}
use Rattle.clnp_program.specs.declared.live_node.node.LiveNode.{LiveNode}
use Rattle.clnp_program.specs.declared.live_node.node.Stop.{Stop}
use Rattle.clnp_program.specs.declared.live_node.node.Stop.TheVariants as broken
use Rattle.clnp_program.specs.declared.live_node.run.RunStop.{RunStop}
use Rattle.clnp_program.specs.declared.live_node.run.RunStop.TheVariants.{WriteFault, LinksGone, NoMemory}
use Rattle.clnp_program.specs.LiveNode.Clocks.{ClockState, ReadsMoment, ReadsMoments}
use Rattle.clnp_program.specs.LiveNode.Links.{PortsWent}
use Rattle.clnp_program.specs.LiveNode.Plays as plays
use Rattle.clnp_program.specs.LiveNode.Plays.{HasMore, Plays, Stands, attached_by_then, lines_by, taken_by_then}
use Rattle.clnp_program.specs.LiveNode.Ran.{AppendsPart, EndsAs, HasNoLink, IsBrokenOff, IsDetached, IsSome, RanTo, StopsIn, attached_in, broken_by, has_any_attached, taken_in}
use Rattle.clnp_program.proofs.LiveNode.Breaking.{same_links}
use Rattle.clnp_program.proofs.LiveNode.Playing.{appends_both, text_both}
use Rattle.clnp_program.proofs.LiveNode.Ports.{ports_both, ports_same}

-- ---- courses behind lines

course_both : (a b : List NodeLine) (c : Course) → course_behind a (course_behind b c) ≡ course_behind (a ++ b) c
course_both a b (Runs node lines) = ap (λ ls. Runs node ls) (sym (append_assoc a b lines))
course_both a b (IsOver node lines) = ap (λ ls. IsOver node ls) (sym (append_assoc a b lines))
course_both a b (Breaks node lines) = ap (λ ls. Breaks node ls) (sym (append_assoc a b lines))
course_both a b IsNone = refl

course_nothing : (c : Course) → course_behind [] c ≡ c
course_nothing (Runs node lines) = refl
course_nothing (IsOver node lines) = refl
course_nothing (Breaks node lines) = refl
course_nothing IsNone = refl

some_behind : (lines : List NodeLine) (c : Course) → IsSome c → IsSome (course_behind lines c)
some_behind lines (Runs node others) h = tt
some_behind lines (IsOver node others) h = tt
some_behind lines (Breaks node others) h = tt
some_behind lines IsNone h = absurd h

over_behind : (lines : List NodeLine) (c : Course) → HasNoLink c → HasNoLink (course_behind lines c)
over_behind lines (Runs node others) h = absurd h
over_behind lines (IsOver node others) h = tt
over_behind lines (Breaks node others) h = absurd h
over_behind lines IsNone h = absurd h

over_before : (lines : List NodeLine) (c : Course) → HasNoLink (course_behind lines c) → HasNoLink c
over_before lines (Runs node others) h = absurd h
over_before lines (IsOver node others) h = tt
over_before lines (Breaks node others) h = absurd h
over_before lines IsNone h = absurd h

over_some : (c : Course) → HasNoLink c → IsSome c
over_some (Runs node others) h = tt
over_some (IsOver node others) h = tt
over_some (Breaks node others) h = tt
over_some IsNone h = absurd h

journal_behind : (lines : List NodeLine) (c : Course) → IsSome c → journal (course_behind lines c) ≡ lines_text lines ++ journal c
journal_behind lines (Runs node others) h =
    let end = end_text node.system.moment node.copies in
    ap (λ (text : List ℕ). text ++ end) (text_both lines others) ∙ append_assoc (lines_text lines) (lines_text others) end
journal_behind lines (IsOver node others) h = text_both lines others
journal_behind lines (Breaks node others) h = text_both lines others
journal_behind lines IsNone h = absurd h

taken_behind : (lines : List NodeLine) (c : Course) → IsSome c → taken_in (course_behind lines c) ≡ taken_in c
taken_behind lines (Runs node others) h = refl
taken_behind lines (IsOver node others) h = refl
taken_behind lines (Breaks node others) h = refl
taken_behind lines IsNone h = absurd h

attached_behind : (lines : List NodeLine) (c : Course) → IsSome c → attached_in (course_behind lines c) ≡ attached_in c
attached_behind lines (Runs node others) h = refl
attached_behind lines (IsOver node others) h = refl
attached_behind lines (Breaks node others) h = refl
attached_behind lines IsNone h = absurd h

-- ---- fronts

pub front_behind : (old mid new : Option (List ℕ)) (piece more : List ℕ) → Appends old mid piece → AppendsFront mid new more → AppendsFront old new (piece ++ more)
front_behind old mid new piece more h k = record {
  count = length piece + k.count;
  within = omega (arith, length-append piece more, k.within);
  appends = rw (take-append-add piece more k.count) (Appends-trans old mid new piece (take k.count more) h k.appends);
}

part_behind : (old mid new : Option (List ℕ)) (piece more : List ℕ) → Appends old mid piece → AppendsPart mid new more → AppendsPart old new (piece ++ more)
part_behind old mid new piece more h k = record {
  count = length piece + k.count;
  short = omega (arith, length-append piece more, k.short);
  appends = rw (take-append-add piece more k.count) (Appends-trans old mid new piece (take k.count more) h k.appends);
}

-- what was written is a part of a text, where something is left of it
part_of : (old new : Option (List ℕ)) (text front rest others : List ℕ) → text ≡ front ++ (rest ++ others) → Appends old new front → 0 < length rest
    → AppendsPart old new text
part_of old new text front rest others e h some =
    subst (λ (t : List ℕ). AppendsPart old new t) (sym e)
    (part_behind old new new front (rest ++ others) h
    (record { count = 0; short = omega (arith, length-append rest others, some); appends = Appends-nil new }))

pub front_none : (old : Option (List ℕ)) (piece : List ℕ) → AppendsFront old old piece
front_none old piece = record { count = 0; within = omega arith; appends = Appends-nil old }

-- what was written is a front of a text
front_of : (old new : Option (List ℕ)) (front rest : List ℕ) → Appends old new front → AppendsFront old new (front ++ rest)
front_of old new front rest h = front_behind old new new front rest h (front_none new rest)

front_as : (old new : Option (List ℕ)) (text front rest : List ℕ) → text ≡ front ++ rest → Appends old new front → AppendsFront old new text
front_as old new text front rest e h = subst (λ (t : List ℕ). AppendsFront old new t) (sym e) (front_of old new front rest h)

-- ---- moments and outcomes of turns

moments_both : (a b c : ClockState) (read others : List ℕ) → ReadsMoments a b read → ReadsMoments b c others → ReadsMoments a c (read ++ others)
moments_both a b c [] others e k = subst (λ (clock : ClockState). ReadsMoments clock c others) e k
moments_both a b c (first ∷ read) others h k = (h.0, h.1, moments_both h.0 b c read others h.2 k)

turns_moments : (a b c : ClockState) (turns others : List Turn) → ReadsMoments a b (moments_of turns) → ReadsMoments b c (moments_of others)
    → ReadsMoments a c (moments_of (turns ++ others))
turns_moments a b c turns others h k =
    subst (λ (read : List ℕ). ReadsMoments a c read) (sym (map-append (λ (turn : Turn). turn.moment) turns others))
    (moments_both a b c (moments_of turns) (moments_of others) h k)

outcomes_both : (turns others : List Turn) → outcomes_of (turns ++ others) ≡ outcomes_of turns ++ outcomes_of others
outcomes_both turns others = flat_map-append (λ (turn : Turn). turn.outcomes) turns others

turns_ports : (before between after : List PortState) (turns others : List Turn) (taken more : List Sending)
    → PortsWent 0 before between (outcomes_of turns) taken → PortsWent 0 between after (outcomes_of others) more
    → PortsWent 0 before after (outcomes_of (turns ++ others)) (taken ++ more)
turns_ports before between after turns others taken more h k =
    subst (λ (outcomes : List Outcome). PortsWent 0 before after outcomes (taken ++ more)) (sym (outcomes_both turns others))
    (ports_both 0 before between after (outcomes_of turns) (outcomes_of others) taken more h k)

-- ---- whether a link is attached

or_left : (a b : Bool) → (a || b) ≡ false → a ≡ false
or_left true b e = e
or_left false b e = refl

or_right : (a b : Bool) → (a || b) ≡ false → b ≡ false
or_right true b e = absurd (cc)
or_right false b e = e

all_detached : (ports : List PortState) → has_any_attached ports ≡ false → AllByRecursion IsDetached ports
all_detached [] e = tt
all_detached (port ∷ ports) e =
    (or_left port.attached (has_any_attached ports) e, all_detached ports (or_right port.attached (has_any_attached ports) e))

-- ---- one turn

module _ (dues : List Due) (model : Node) (clock_before clock_after : ClockState) (now : ℕ) (before after : List PortState)
    (read : ReadsMoment clock_before clock_after now) where
  abbrev turn_by : List Outcome → Turn
  turn_by used = record { moment = now; outcomes = used }

  abbrev plays_turn : List Outcome → Played
  plays_turn outcomes = takes_turn (comes_at now model.system.configuration.role dues) model outcomes

  abbrev behind_it : List Turn → Node → Course
  behind_it turns other = course (due_behind now dues) other turns

  one_moment : (used : List Outcome) → ReadsMoments clock_before clock_after (moments_of (turn_by used ∷ []))
  one_moment used = (clock_after, read, refl)

  one_ports : (used : List Outcome) (taken : List Sending) → PortsWent 0 before after used taken
      → PortsWent 0 before after (outcomes_of (turn_by used ∷ [])) taken
  one_ports used taken h = subst (λ (outcomes : List Outcome). PortsWent 0 before after outcomes taken) (sym (append-nil used)) h

  module _ (live : LiveNode) (old new : Option (List ℕ)) (h : Plays plays_turn model live before after old new) where
    whole_turn : plays_turn h.used ≡ Goes h.node [] h.lines
    whole_turn = ap plays_turn (sym (append-nil h.used)) ∙ h.goes []

    one_course : (turns : List Turn) → course dues model (turn_by h.used ∷ turns) ≡ course_behind h.lines (goes_on h.node turns (behind_it turns))
    one_course turns = ap (λ played. behind_turn played turns (behind_it turns)) whole_turn

    -- behind it a link is attached
    pub ran_one : (later_dues : List Due) → later_dues ≡ due_behind now dues → has_any_attached after ≡ true
        → RanTo dues later_dues model live 1 clock_before clock_after before after old new
    ran_one later_dues later e =
        let on : has_any_link h.node ≡ true = same_links live after h.node h.stands ∙ e in
        record {
          turns = turn_by h.used ∷ [];
          counted = refl;
          node = h.node;
          lines = h.lines;
          taken = h.taken;
          runs = λ turns.
              one_course turns
              ∙ (ap (λ (any : Bool). course_behind h.lines (if any then behind_it turns h.node else is_over h.node turns)) on
              ∙ ap (λ (ds : List Due). course_behind h.lines (course ds h.node turns)) (sym later));
          stands = h.stands;
          linked = λ before_it. e;
          takes = h.takes;
          moments = one_moment h.used;
          ports = one_ports h.used h.taken h.ports;
          written = h.written;
        }

    over_course : has_any_attached after ≡ false → course dues model (turn_by h.used ∷ []) ≡ IsOver h.node (h.lines ++ [])
    over_course e =
        one_course []
        ∙ ap (λ (any : Bool). course_behind h.lines (if any then behind_it [] h.node else is_over h.node []))
        (same_links live after h.node h.stands ∙ e)

    -- behind it none is
    pub gone_one : (links : ℕ) → links ≡ length after → has_any_attached after ≡ false
        → StopsIn (LinksGone links) 1 dues model clock_before clock_after before after old new
    gone_one links counted e =
        let over = over_course e in
        record {
          turns = turn_by h.used ∷ [];
          taken = h.taken;
          takes = ap taken_in over ∙ h.takes;
          attached = ap attached_in over ∙ h.stands.attached;
          moments = one_moment h.used;
          ports = one_ports h.used h.taken h.ports;
          ends = record {
            within = omega arith;
            over = subst HasNoLink (sym over) tt;
            written = subst (λ (text : List ℕ). Appends old new text) (sym (ap journal over ∙ ap lines_text (append-nil h.lines))) h.written;
            counted = counted;
            gone = all_detached after e;
          };
        }

  -- what is so of a turn that is broken off, beside its ports and the sink
  record BrokenTurn (c : Course) (taken : List Sending) (attached : List Bool) (text : List ℕ) : Type 0 where
    some : IsSome c
    takes : taken_in c ≡ taken
    stays : attached_in c ≡ attached
    rest : List ℕ
    begins : journal c ≡ text ++ rest

  broken_goes : (node : Node) (lines : List NodeLine) (any : Bool)
      → BrokenTurn (course_behind lines (if any then Runs node [] else is_over node [])) node.taken node.attached (lines_text lines)
  broken_goes node lines true = record {
    some = tt;
    takes = refl;
    stays = refl;
    rest = end_text node.system.moment node.copies;
    begins = ap (λ (ls : List NodeLine). lines_text ls ++ end_text node.system.moment node.copies) (append-nil lines);
  }
  broken_goes node lines false = record {
    some = tt;
    takes = refl;
    stays = refl;
    rest = [];
    begins = ap lines_text (append-nil lines) ∙ sym (append-nil (lines_text lines));
  }

  broken_turn : (p : Played) → UsesAll p → BrokenTurn (behind_turn p [] (behind_it [])) (taken_by_then model p) (attached_by_then model p)
      (lines_text (lines_by p))
  broken_turn (Goes node [] lines) h = broken_goes node lines (has_any_link node)
  broken_turn (Goes node (outcome ∷ left) lines) h = absurd h
  broken_turn (Ends node lines) h = record { some = tt; takes = refl; stays = refl; rest = []; begins = sym (append-nil (lines_text lines)) }
  broken_turn Strays h = absurd h

  -- something is left to be written, where no link is attached behind a turn that had more
  left_behind : (p : Played) (rest : List ℕ) → HasMore p rest → HasNoLink (behind_turn p [] (behind_it [])) → 0 < length rest
  left_behind (Goes node [] lines) rest (inl on) none = absurd (rw on at none)
  left_behind (Goes node [] lines) rest (inr some) none = some
  left_behind (Goes node (outcome ∷ left) lines) rest h none = absurd none
  left_behind (Ends node lines) rest h none = absurd none
  left_behind Strays rest h none = absurd h

  broken_ends : (stop : Stop) (run : Course) (turns : List Turn) (old new : Option (List ℕ)) → IsBrokenOff 1 run turns old new
      → (stop ≡ broken.NoMemory → has_any_attached before ≡ true → HasNoLink run → AppendsPart old new (journal run))
      → EndsAs (Err (broken_by stop)) 1 run turns before after old new
  broken_ends broken.WriteFault run turns old new h k = h
  broken_ends broken.NoMemory run turns old new h k = record { broken = h; unfinished = k refl }

  excused_not : (stop : Stop) (M : Type 0) → ((stop ≡ broken.WriteFault) ⊎ (has_any_attached before ≡ false)) ⊎ M
      → stop ≡ broken.NoMemory → has_any_attached before ≡ true → M
  excused_not stop M (inl (inl fault)) memory on = let bad = sym fault ∙ memory in absurd (cc)
  excused_not stop M (inl (inr off)) memory on = let bad = sym off ∙ on in absurd (cc)
  excused_not stop M (inr more) memory on = more

  -- it was broken off
  pub broken_one : (stop : Stop) (old new : Option (List ℕ))
      → plays.Breaks ((stop ≡ broken.WriteFault) ⊎ (has_any_attached before ≡ false)) plays_turn model before after old new
      → StopsIn (broken_by stop) 1 dues model clock_before clock_after before after old new
  broken_one stop old new b =
      let t = broken_turn (plays_turn b.used) b.uses in
      let whole = t.begins ∙ (ap (λ (text : List ℕ). text ++ t.rest) b.text ∙ append_assoc b.front b.rest t.rest) in
      record {
        turns = turn_by b.used ∷ [];
        taken = b.taken;
        takes = t.takes ∙ b.takes;
        attached = t.stays ∙ b.attached;
        moments = one_moment b.used;
        ports = one_ports b.used b.taken b.ports;
        ends = broken_ends stop (course dues model (turn_by b.used ∷ [])) (turn_by b.used ∷ []) old new (record {
          within = omega arith;
          some = t.some;
          written = front_as old new (journal (course dues model (turn_by b.used ∷ []))) b.front (b.rest ++ t.rest)
              whole b.written;
        }) (λ memory on none. part_of old new (journal (course dues model (turn_by b.used ∷ []))) b.front b.rest t.rest whole b.written
            (left_behind (plays_turn b.used) b.rest (excused_not stop (HasMore (plays_turn b.used) b.rest) b.more memory on) none));
      }

-- ---- turns behind turns

pub ran_nothing : (dues : List Due) (model : Node) (live : LiveNode) (clock : ClockState) (ports : List PortState) (old : Option (List ℕ))
    → Stands live ports model → RanTo dues dues model live 0 clock clock ports ports old old
ran_nothing dues model live clock ports old h = record {
  turns = [];
  counted = refl;
  node = model;
  lines = [];
  taken = [];
  runs = λ later. sym (course_nothing (course dues model later));
  stands = h;
  linked = λ on. on;
  takes = sym (append-nil model.taken);
  moments = refl;
  ports = ports_same 0 ports;
  written = Appends-nil old;
}

module _ (dues between_dues : List Due) (model : Node) (live : LiveNode) (count : ℕ) (first between last : ClockState)
    (before mid after : List PortState) (old written new : Option (List ℕ))
    (h : RanTo dues between_dues model live count first between before mid old written) where
  pub ran_more : (later_dues : List Due) (other : LiveNode)
      → ((node : Node) → Stands live mid node → RanTo between_dues later_dues node other 1 between last mid after written new)
      → RanTo dues later_dues model other (count + 1) first last before after old new
  ran_more later_dues other next =
      let k = next h.node h.stands in
      record {
        turns = h.turns ++ k.turns;
        counted = length-append h.turns k.turns ∙ (ap (λ n. n + length k.turns) h.counted ∙ ap (λ n. count + n) k.counted);
        node = k.node;
        lines = h.lines ++ k.lines;
        taken = h.taken ++ k.taken;
        runs = λ later.
            ap (λ ts. course dues model ts) (append_assoc h.turns k.turns later)
            ∙ (h.runs (k.turns ++ later)
            ∙ (ap (course_behind h.lines) (k.runs later)
            ∙ course_both h.lines k.lines (course later_dues k.node later)));
        stands = k.stands;
        linked = λ on. k.linked (h.linked on);
        takes = k.takes ∙ (ap (λ sent. sent ++ k.taken) h.takes ∙ append_assoc model.taken h.taken k.taken);
        moments = turns_moments first between last h.turns k.turns h.moments k.moments;
        ports = turns_ports before mid after h.turns k.turns h.taken k.taken h.ports k.ports;
        written = appends_both old written new h.lines k.lines h.written k.written;
      }

  broken_behind : (most : ℕ) (run : Course) (turns : List Turn) → count + 1 ≤ most → IsBrokenOff 1 run turns written new
      → IsBrokenOff most (course_behind h.lines run) (h.turns ++ turns) old new
  broken_behind most run turns le b = record {
    within = omega (arith, le, h.counted, length-append h.turns turns, b.within);
    some = some_behind h.lines run b.some;
    written = subst (λ (text : List ℕ). AppendsFront old new text) (sym (journal_behind h.lines run b.some))
        (front_behind old written new (lines_text h.lines) (journal run) h.written b.written);
  }

  ends_behind : (stop : RunStop) (most : ℕ) (run : Course) (turns : List Turn) → count + 1 ≤ most → EndsAs (Err stop) 1 run turns mid after written new
      → EndsAs (Err stop) most (course_behind h.lines run) (h.turns ++ turns) before after old new
  ends_behind WriteFault most run turns le b = broken_behind most run turns le b
  ends_behind NoMemory most run turns le b = record {
    broken = broken_behind most run turns le b.broken;
    unfinished = λ on none.
        subst (λ (text : List ℕ). AppendsPart old new text) (sym (journal_behind h.lines run b.broken.some))
        (part_behind old written new (lines_text h.lines) (journal run) h.written (b.unfinished (h.linked on) (over_before h.lines run none)));
  }
  ends_behind (LinksGone links) most run turns le e = record {
    within = omega (arith, le, h.counted, length-append h.turns turns, e.within);
    over = over_behind h.lines run e.over;
    written = subst (λ (text : List ℕ). Appends old new text) (sym (journal_behind h.lines run (over_some run e.over)))
        (Appends-trans old written new (lines_text h.lines) (journal run) h.written e.written);
    counted = e.counted;
    gone = e.gone;
  }

  ends_some : (stop : RunStop) (most : ℕ) (run : Course) (turns : List Turn) → EndsAs (Err stop) most run turns mid after written new → IsSome run
  ends_some WriteFault most run turns b = b.some
  ends_some NoMemory most run turns b = b.broken.some
  ends_some (LinksGone links) most run turns e = over_some run e.over

  pub stops_behind : (stop : RunStop) (most : ℕ) → count + 1 ≤ most
      → ((node : Node) → Stands live mid node → StopsIn stop 1 between_dues node between last mid after written new)
      → StopsIn stop most dues model first last before after old new
  stops_behind stop most le next =
      let k = next h.node h.stands in
      let run = course between_dues h.node k.turns in
      let e : course dues model (h.turns ++ k.turns) ≡ course_behind h.lines run = h.runs k.turns in
      record {
        turns = h.turns ++ k.turns;
        taken = h.taken ++ k.taken;
        attached = ap attached_in e ∙ (attached_behind h.lines run (ends_some stop 1 run k.turns k.ends) ∙ k.attached);
        takes = ap taken_in e
            ∙ (taken_behind h.lines run (ends_some stop 1 run k.turns k.ends)
            ∙ (k.takes ∙ (ap (λ sent. sent ++ k.taken) h.takes ∙ append_assoc model.taken h.taken k.taken)));
        moments = turns_moments first between last h.turns k.turns h.moments k.moments;
        ports = turns_ports before mid after h.turns k.turns h.taken k.taken h.ports k.ports;
        ends = subst (λ (c : Course). EndsAs (Err stop) most c (h.turns ++ k.turns) before after old new) (sym e)
            (ends_behind stop most run k.turns le k.ends);
      }
