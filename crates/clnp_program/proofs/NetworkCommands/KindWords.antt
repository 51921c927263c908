-- The third word of a journal's line says of what kind it is.
use Rattle.std.proofs.Common.{◌≡◌, ℕ, ◌/◌, ◌%◌, ◌≤◌, Bool, true, false, inl, inr, List, [], ◌∷◌, codes, length, map, slice_index, cond, Option, None, Some, refl, sym, ap, subst, ◌∙◌, arith}
use Rattle.std.specs.List.{AllByRecursion, filter, flat_map}
use Rattle.std.specs.Str.{bytes_eq}
use Rattle.std.specs.Fmt.{decimal}
use Rattle.std.proofs.Math.ListN.{get_or-eq_default}
use Rattle.std.proofs.lemmas.Bool.{cases_lt, ne_eqb}
use Rattle.hex.specs.Hex.{encode_with, lower_digits}
use Rattle.clnp_machine.specs.Nsap.Prefix.{prefix_text}
use Rattle.clnp_machine.specs.Nsap.Text.{hex_text}
use Rattle.clnp_machine.specs.Pdus.declared.nsap.target.Target.{Target}
use Rattle.clnp_machine.specs.Pdus.declared.nsap.target.Target.TheVariants.{System, EndSystems, Routers}
use Rattle.clnp_machine.specs.PduHeader.Spelling.{pair_of}
use Rattle.clnp_machine.specs.Pdus.declared.pdu_header.kind.Kind.{Kind}
use Rattle.clnp_machine.specs.Pdus.declared.pdu_header.kind.Kind.TheVariants.{Dt, Er, Erq, Erp}
use Rattle.clnp_machine.specs.SystemTables.declared.esis_tables.fact.Heard.{Heard}
use Rattle.clnp_machine.specs.SystemTables.declared.esis_tables.fact.Heard.TheVariants as hearing
use Rattle.clnp_machine.specs.SystemTables.declared.esis_tables.fact.TableKind.{TableKind}
use Rattle.clnp_machine.specs.SystemTables.declared.esis_tables.fact.TableKind.TheVariants as table_kind
use Rattle.clnp_machine.specs.ClnpBase.Text.{lines_of, words_of}
use Rattle.clnp_machine.specs.ClnpPlan.Journal.{Line, Noted, Transmitted, Void, Late, Injected, Resized, Received, Lost, ForNobody, behind_space, heard_words, identifier_word, ignored_word, kind_word, line_of, line_text, note_words, octet_word, octets_word, on_or_off, rule_word, table_word, target_text, why_word, yes_or_no}
use Rattle.clnp_machine.specs.ClnpPlan.declared.note.Note.{Note}
use Rattle.clnp_machine.specs.ClnpPlan.declared.note.Note.TheVariants.{Sent, Refused, Got, Report, Echoed, Stray, Discard, Held, Repeat, Crowded, Many, NoSlot, Interference, Expired, NotMine, Alien, BadEsis, Hear, Gone, Ignored, Restart, Congest, Route, Unroute, Port}
use Rattle.clnp_machine.specs.ClnpPlan.declared.note.Why.{Why}
use Rattle.clnp_machine.specs.ClnpPlan.declared.note.Why.TheVariants as why
use Rattle.scenario.proofs.ScenarioWriting.Written.{IsWord, digit_plain, spelled, ends_behind, IsInLine, plain_within, word_in_line, text_of_line, line_cut, first_word, decimal_is_word, IsDigit, decimal_all}
use Rattle.clnp_program.specs.ClnpWorld.Lines.{first_of, how_many, kind_of, no_lines, tally}
use Rattle.clnp_program.specs.NetworkCommands.Storm.{count_of, counts_of, is_of_kind, third_of}
use Rattle.clnp_machine.proofs.ClnpBase.Reading.{IsWithinLine}
use Rattle.std.proofs.lemmas.List.{append-nil}

-- ---- lines and words

one_line : (first : List ℕ) (others : List (List ℕ)) → IsInLine first → AllByRecursion IsInLine others
    → lines_of (line_of first others) ≡ text_of_line first others ∷ []
one_line first others is are = ap lines_of (sym (append-nil (line_of first others))) ∙ line_cut first others [] is are

third_word : (first second third : List ℕ) (others : List (List ℕ)) → IsWord first → IsWord second → IsWord third
    → third_of (words_of (text_of_line first (second ∷ third ∷ others))) ≡ third
third_word first second third others is_first is_second is_third =
    let behind_third = flat_map behind_space others in
    let behind_second = flat_map behind_space (third ∷ others) in
    ap third_of
    (first_word first (flat_map behind_space (second ∷ third ∷ others)) is_first refl
    ∙ ap (λ words. first ∷ words)
    (first_word second behind_second is_second refl
    ∙ ap (λ words. second ∷ words) (first_word third behind_third is_third (ends_behind others))))

-- ---- numbers and octets

decimal_in_line : (n : ℕ) → IsInLine (decimal n)
decimal_in_line n = word_in_line (decimal n) (decimal_is_word n)

hex_digit_within : (d : ℕ) → IsWithinLine (slice_index lower_digits d)
hex_digit_within d =
    elim (cases_lt d 16) [
      | inl small ↦ plain_within (slice_index lower_digits d) (digit_plain d small)
      | inr past ↦ subst IsWithinLine (sym (get_or-eq_default lower_digits 0 past)) (refl, refl)
    ]

hex_in_line : (octets : List ℕ) → IsInLine (hex_text octets)
unfolding encode_with
hex_in_line [] = tt
hex_in_line (octet ∷ octets) = (hex_digit_within (octet / 16), (hex_digit_within (octet % 16), hex_in_line octets))

digits_in_line : (digits : List ℕ) → IsInLine (map (λ d. slice_index lower_digits d) digits)
digits_in_line [] = tt
digits_in_line (digit ∷ digits) = (hex_digit_within digit, digits_in_line digits)

prefix_in_line : (digits : List ℕ) → IsInLine (prefix_text digits)
prefix_in_line [] = ((refl, refl), tt)
prefix_in_line (digit ∷ digits) = digits_in_line (digit ∷ digits)

-- ---- the words of a note

octets_in_line : (octets : List ℕ) → IsInLine (octets_word octets)
octets_in_line [] = ((refl, refl), tt)
octets_in_line (octet ∷ octets) = hex_in_line (octet ∷ octets)

identifier_in_line : (identifier : Option ℕ) → IsInLine (identifier_word identifier)
identifier_in_line None = ((refl, refl), tt)
identifier_in_line (Some identifier) = hex_in_line (pair_of identifier)

kind_in_line : (kind : Kind) → IsInLine (kind_word kind)
kind_in_line Dt = word_in_line (codes "dt") (spelled (codes "dt") refl)
kind_in_line Er = word_in_line (codes "er") (spelled (codes "er") refl)
kind_in_line Erq = word_in_line (codes "erq") (spelled (codes "erq") refl)
kind_in_line Erp = word_in_line (codes "erp") (spelled (codes "erp") refl)

why_in_line : (reason : Why) → IsInLine (why_word reason)
why_in_line why.NotMine = word_in_line (codes "not-mine") (spelled (codes "not-mine") refl)
why_in_line why.TooLong = word_in_line (codes "too-long") (spelled (codes "too-long") refl)
why_in_line why.Quiet = word_in_line (codes "quiet") (spelled (codes "quiet") refl)
why_in_line why.IdsBusy = word_in_line (codes "ids-busy") (spelled (codes "ids-busy") refl)

table_in_line : (kind : TableKind) → IsInLine (table_word kind)
table_in_line table_kind.Es = word_in_line (codes "es") (spelled (codes "es") refl)
table_in_line table_kind.Is = word_in_line (codes "is") (spelled (codes "is") refl)
table_in_line table_kind.Rd = word_in_line (codes "rd") (spelled (codes "rd") refl)

heard_in_line : (came : Heard) → AllByRecursion IsInLine (heard_words came)
heard_in_line hearing.New = (word_in_line (codes "new") (spelled (codes "new") refl), tt)
heard_in_line hearing.Again = (word_in_line (codes "again") (spelled (codes "again") refl), tt)
heard_in_line hearing.Zero = (word_in_line (codes "zero") (spelled (codes "zero") refl), tt)
heard_in_line (hearing.Full entries) = (word_in_line (codes "full") (spelled (codes "full") refl), (decimal_in_line entries, tt))

ignored_in_line : (rd : Bool) → IsInLine (ignored_word rd)
ignored_in_line true = word_in_line (codes "rd") (spelled (codes "rd") refl)
ignored_in_line false = word_in_line (codes "ish") (spelled (codes "ish") refl)

on_in_line : (on : Bool) → IsInLine (on_or_off on)
on_in_line true = word_in_line (codes "on") (spelled (codes "on") refl)
on_in_line false = word_in_line (codes "off") (spelled (codes "off") refl)

yes_in_line : (there : Bool) → IsInLine (yes_or_no there)
yes_in_line true = word_in_line (codes "yes") (spelled (codes "yes") refl)
yes_in_line false = word_in_line (codes "no") (spelled (codes "no") refl)

pub target_in_line : (target : Target) → IsInLine (target_text target)
target_in_line (System snpa) = hex_in_line snpa
target_in_line EndSystems = word_in_line (codes "es") (spelled (codes "es") refl)
target_in_line Routers = word_in_line (codes "is") (spelled (codes "is") refl)

-- the words of a line behind the moment and the name: its kind, and others
record Words (words : List (List ℕ)) (kind : List ℕ) : Type 0 where
  pub others : List (List ℕ)
  pub split : words ≡ kind ∷ others
  pub is_word : IsWord kind
  pub in_line : AllByRecursion IsInLine others

-- the name of a subnetwork that a note has is within the line
abbrev pub IsNoteInLine : Note → Type 0
IsNoteInLine (Port port subnet snpa) = IsInLine subnet
IsNoteInLine _ = Unit {0}

note_is : (note : Note) → IsNoteInLine note → Words (note_words note) (first_of (note_words note))
note_is (Sent kind unit id from to len) named = record {
  others = kind_word kind ∷ decimal unit ∷ identifier_word id ∷ hex_text from ∷ hex_text to ∷ decimal len ∷ [];
  split = refl;
  is_word = spelled (codes "sent") refl;
  in_line = (kind_in_line kind, (decimal_in_line unit, (identifier_in_line id, (hex_in_line from, (hex_in_line to, (decimal_in_line len, tt))))));
}
note_is (Refused reason value) named = record {
  others = why_word reason ∷ decimal value ∷ [];
  split = refl;
  is_word = spelled (codes "refused") refl;
  in_line = (why_in_line reason, (decimal_in_line value, tt));
}
note_is (Got from to octets) named = record {
  others = hex_text from ∷ hex_text to ∷ octets_word octets ∷ [];
  split = refl;
  is_word = spelled (codes "got") refl;
  in_line = (hex_in_line from, (hex_in_line to, (octets_in_line octets, tt)));
}
note_is (Report from to reason place octets) named = record {
  others = hex_text from ∷ hex_text to ∷ octet_word reason ∷ octet_word place ∷ octets_word octets ∷ [];
  split = refl;
  is_word = spelled (codes "report") refl;
  in_line = (hex_in_line from, (hex_in_line to, (hex_in_line (reason ∷ []), (hex_in_line (place ∷ []), (octets_in_line octets, tt)))));
}
note_is (Echoed from to unit) named = record {
  others = hex_text from ∷ hex_text to ∷ decimal unit ∷ [];
  split = refl;
  is_word = spelled (codes "echoed") refl;
  in_line = (hex_in_line from, (hex_in_line to, (decimal_in_line unit, tt)));
}
note_is (Stray from to) named = record {
  others = hex_text from ∷ hex_text to ∷ [];
  split = refl;
  is_word = spelled (codes "stray") refl;
  in_line = (hex_in_line from, (hex_in_line to, tt));
}
note_is (Discard reason place) named = record {
  others = octet_word reason ∷ octet_word place ∷ [];
  split = refl;
  is_word = spelled (codes "drop") refl;
  in_line = (hex_in_line (reason ∷ []), (hex_in_line (place ∷ []), tt));
}
note_is (Held id offset held) named = record {
  others = hex_text (pair_of id) ∷ decimal offset ∷ decimal held ∷ [];
  split = refl;
  is_word = spelled (codes "held") refl;
  in_line = (hex_in_line (pair_of id), (decimal_in_line offset, (decimal_in_line held, tt)));
}
note_is (Repeat id offset) named = record {
  others = hex_text (pair_of id) ∷ decimal offset ∷ [];
  split = refl;
  is_word = spelled (codes "repeat") refl;
  in_line = (hex_in_line (pair_of id), (decimal_in_line offset, tt));
}
note_is (Crowded held size) named = record {
  others = decimal held ∷ decimal size ∷ [];
  split = refl;
  is_word = spelled (codes "crowded") refl;
  in_line = (decimal_in_line held, (decimal_in_line size, tt));
}
note_is (Many kept) named = record {
  others = decimal kept ∷ [];
  split = refl;
  is_word = spelled (codes "many") refl;
  in_line = (decimal_in_line kept, tt);
}
note_is (NoSlot live) named = record {
  others = decimal live ∷ [];
  split = refl;
  is_word = spelled (codes "noslot") refl;
  in_line = (decimal_in_line live, tt);
}
note_is (Interference id) named = record {
  others = hex_text (pair_of id) ∷ [];
  split = refl;
  is_word = spelled (codes "interference") refl;
  in_line = (hex_in_line (pair_of id), tt);
}
note_is (Expired id held) named = record {
  others = hex_text (pair_of id) ∷ decimal held ∷ [];
  split = refl;
  is_word = spelled (codes "expired") refl;
  in_line = (hex_in_line (pair_of id), (decimal_in_line held, tt));
}
note_is (NotMine to) named = record {
  others = hex_text to ∷ [];
  split = refl;
  is_word = spelled (codes "notmine") refl;
  in_line = (hex_in_line to, tt);
}
note_is Alien named = record { others = []; split = refl; is_word = spelled (codes "alien") refl; in_line = tt }
note_is (BadEsis rule place) named = record {
  others = rule_word rule ∷ octet_word place ∷ [];
  split = refl;
  is_word = spelled (codes "badesis") refl;
  in_line = (((refl, refl), decimal_in_line rule), (hex_in_line (place ∷ []), tt));
}
note_is (Hear kind key came) named = record {
  others = table_word kind ∷ hex_text key ∷ heard_words came;
  split = refl;
  is_word = spelled (codes "hear") refl;
  in_line = (table_in_line kind, (hex_in_line key, heard_in_line came));
}
note_is (Gone kind key) named = record {
  others = table_word kind ∷ hex_text key ∷ [];
  split = refl;
  is_word = spelled (codes "gone") refl;
  in_line = (table_in_line kind, (hex_in_line key, tt));
}
note_is (Ignored rd) named = record {
  others = ignored_word rd ∷ [];
  split = refl;
  is_word = spelled (codes "ignored") refl;
  in_line = (ignored_in_line rd, tt);
}
note_is Restart named = record { others = []; split = refl; is_word = spelled (codes "restart") refl; in_line = tt }
note_is (Congest on) named = record {
  others = on_or_off on ∷ [];
  split = refl;
  is_word = spelled (codes "congest") refl;
  in_line = (on_in_line on, tt);
}
note_is (Route prefix) named = record {
  others = prefix_text prefix ∷ [];
  split = refl;
  is_word = spelled (codes "route") refl;
  in_line = (prefix_in_line prefix, tt);
}
note_is (Unroute prefix there) named = record {
  others = prefix_text prefix ∷ yes_or_no there ∷ [];
  split = refl;
  is_word = spelled (codes "unroute") refl;
  in_line = (prefix_in_line prefix, (yes_in_line there, tt));
}
note_is (Port port subnet snpa) named = record {
  others = decimal port ∷ subnet ∷ hex_text snpa ∷ [];
  split = refl;
  is_word = spelled (codes "port") refl;
  in_line = (decimal_in_line port, (named, (hex_in_line snpa, tt)));
}

-- ---- what is counted of a line

-- the system that a line names has a word for its name, and the subnetwork's name is within the line
abbrev pub IsNamed : Line → Type 0
IsNamed (Noted now name note) = IsWord name × IsNoteInLine note
IsNamed (Transmitted now name copy port target frame) = IsWord name
IsNamed (Void now name copy) = IsWord name
IsNamed (Late now name copy) = IsWord name
IsNamed (Injected now copy subnet sender target) = IsInLine subnet
IsNamed (Resized now subnet mtu) = IsInLine subnet
IsNamed (Received now name copy port) = IsWord name
IsNamed (Lost now copy) = Unit {0}
IsNamed (ForNobody now copy) = Unit {0}

-- the line as it is read
record IsLine (line : Line) : Type 0 where
  pub front : List ℕ
  pub lines : lines_of (line_text line) ≡ front ∷ []
  pub third : third_of (words_of front) ≡ kind_of line

is_line : (line : Line) (first second kind : List ℕ) (others : List (List ℕ)) → line_text line ≡ line_of first (second ∷ kind ∷ others)
    → kind_of line ≡ kind → IsWord first → IsWord second → IsWord kind → AllByRecursion IsInLine others → IsLine line
is_line line first second kind others text kind_is is_first is_second is_kind in_line = record {
  front = text_of_line first (second ∷ kind ∷ others);
  lines = ap lines_of text ∙ one_line first (second ∷ kind ∷ others) (word_in_line first is_first)
      (word_in_line second is_second, (word_in_line kind is_kind, in_line));
  third = third_word first second kind others is_first is_second is_kind ∙ sym kind_is;
}

-- two tests that answer the same pass as many
one_counted : {A B : Type 0} (p : A → Bool) (q : B → Bool) (x : A) (y : B) → p x ≡ q y → length (filter p (x ∷ [])) ≡ length (filter q (y ∷ []))
one_counted p q x y e = rw e (elim (q y) as (λ b. length (cond b (x ∷ []) []) ≡ length (cond b (y ∷ []) [])) [ true ↦ refl | false ↦ refl ])

counted_as : (kind : List ℕ) (line : Line) → IsLine line → count_of kind (lines_of (line_text line)) ≡ how_many kind (line ∷ [])
counted_as kind line is =
    ap (λ (lines : List (List ℕ)). count_of kind lines) is.lines
    ∙ one_counted (is_of_kind kind) (λ (l : Line). bytes_eq (kind_of l) kind) is.front line (ap (λ (word : List ℕ). bytes_eq word kind) is.third)

-- what is counted of a line's text is what is counted of the line
counts_of_line : (line : Line) → IsLine line → counts_of (line_text line) ≡ tally (line ∷ [])
counts_of_line line is =
    rw (
      counted_as (codes "got") line is,
      counted_as (codes "report") line is,
      counted_as (codes "echoed") line is,
      counted_as (codes "drop") line is,
      counted_as (codes "expired") line is,
    ) refl

-- so it is of each line; what a journal doesn't tell isn't counted
pub line_counts : (line : Line) → IsNamed line → counts_of (line_text line) ≡ tally (line ∷ [])
line_counts (Noted now name note) named =
    let words = note_is note named.1 in
    counts_of_line (Noted now name note)
    (is_line (Noted now name note) (decimal now) name (first_of (note_words note)) words.others
    (ap (λ (ws : List (List ℕ)). line_of (decimal now) (name ∷ ws)) words.split) refl (decimal_is_word now) named.0 words.is_word words.in_line)
line_counts (Transmitted now name copy port target frame) named =
    counts_of_line (Transmitted now name copy port target frame)
    (is_line (Transmitted now name copy port target frame) (decimal now) name (codes "tx")
    (decimal copy ∷ decimal port ∷ target_text target ∷ octets_word frame ∷ []) refl refl (decimal_is_word now) named (spelled (codes "tx") refl)
    (decimal_in_line copy, (decimal_in_line port, (target_in_line target, (octets_in_line frame, tt)))))
line_counts (Void now name copy) named =
    counts_of_line (Void now name copy)
    (is_line (Void now name copy) (decimal now) name (codes "void") (decimal copy ∷ []) refl refl (decimal_is_word now) named (spelled (codes "void") refl)
    (decimal_in_line copy, tt))
line_counts (Late now name copy) named =
    counts_of_line (Late now name copy)
    (is_line (Late now name copy) (decimal now) name (codes "late") (decimal copy ∷ []) refl refl (decimal_is_word now) named (spelled (codes "late") refl)
    (decimal_in_line copy, tt))
line_counts (Injected now copy subnet sender target) named =
    counts_of_line (Injected now copy subnet sender target)
    (is_line (Injected now copy subnet sender target) (decimal now) (codes "-") (codes "inject")
    (decimal copy ∷ subnet ∷ hex_text sender ∷ target_text target ∷ []) refl refl (decimal_is_word now) (spelled (codes "-") refl) (spelled (codes "inject") refl)
    (decimal_in_line copy, (named, (hex_in_line sender, (target_in_line target, tt)))))
line_counts (Resized now subnet mtu) named =
    counts_of_line (Resized now subnet mtu)
    (is_line (Resized now subnet mtu) (decimal now) (codes "-") (codes "mtu") (subnet ∷ decimal mtu ∷ []) refl refl
    (decimal_is_word now) (spelled (codes "-") refl) (spelled (codes "mtu") refl) (named, (decimal_in_line mtu, tt)))
line_counts (Received now name copy port) named = refl
line_counts (Lost now copy) named = refl
line_counts (ForNobody now copy) named = refl

-- the last line of a journal is of none of the kinds, since its third word is a number

not_a_number : (word : List ℕ) (k : ℕ) (ks : List ℕ) → AllByRecursion IsDigit word → 58 ≤ k → bytes_eq word (k ∷ ks) ≡ false
not_a_number [] k ks h e = refl
not_a_number (c ∷ cs) k ks h e = rw (ne_eqb c k (omega (arith, h.0.1))) refl

none_counted : {A : Type 0} (p : A → Bool) (x : A) → p x ≡ false → length (filter p (x ∷ [])) ≡ 0
none_counted p x e = rw e refl

end_uncounted : (now copies k : ℕ) (ks : List ℕ) → 58 ≤ k → count_of (k ∷ ks) (lines_of (line_of (codes "end") (decimal now ∷ decimal copies ∷ []))) ≡ 0
end_uncounted now copies k ks e =
    let front = text_of_line (codes "end") (decimal now ∷ decimal copies ∷ []) in
    let third = third_word (codes "end") (decimal now) (decimal copies) [] (spelled (codes "end") refl) (decimal_is_word now) (decimal_is_word copies) in
    ap (λ (lines : List (List ℕ)). count_of (k ∷ ks) lines)
    (one_line (codes "end") (decimal now ∷ decimal copies ∷ []) (word_in_line (codes "end") (spelled (codes "end") refl))
    (decimal_in_line now, (decimal_in_line copies, tt)))
    ∙ none_counted (is_of_kind (k ∷ ks)) front
    (ap (λ (word : List ℕ). bytes_eq word (k ∷ ks)) third ∙ not_a_number (decimal copies) k ks (decimal_all copies) e)

pub end_counts : (now copies : ℕ) → counts_of (line_of (codes "end") (decimal now ∷ decimal copies ∷ [])) ≡ no_lines
end_counts now copies =
    rw (
      end_uncounted now copies 103 (codes "ot") (omega arith),
      end_uncounted now copies 114 (codes "eport") (omega arith),
      end_uncounted now copies 101 (codes "choed") (omega arith),
      end_uncounted now copies 100 (codes "rop") (omega arith),
      end_uncounted now copies 101 (codes "xpired") (omega arith),
    ) refl
