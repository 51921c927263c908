-- Headers as they are written.
use Rattle.std.proofs.Common.{◌≡◌, ◌∙◌, refl, sym, ap, ℕ, zero, suc, ◌+◌, ◌^◌, ◌<◌, ◌≤◌, Bool, List, [], ◌∷◌, ◌++◌, length, Option, Some, None, arith, append_assoc, length-append}
use Rattle.std.specs.Prelude.{All}
use Rattle.std.specs.List.{slice_set}
use Rattle.std.proofs.lemmas.List.{append-nil}
use Rattle.pdus.specs.Nsap.Address.{IsAddress}
use Rattle.pdus.specs.ClnpOptions.Parameter.{spelled}
use Rattle.pdus.specs.ClnpOptions.Grammar.{joined}
use Rattle.pdus.specs.PduHeader.Parts.{checked}
use Rattle.pdus.specs.PduHeader.Spelling.{counted, pair_of}
use Rattle.pdus.specs.declared.esis_pdus.pdu.EsisBody.TheVariants.{Esh, Ish, Rd}
use Rattle.pdus.specs.EsisPdus.Timer.{timer}
use Rattle.pdus.specs.EsisPdus.Value.{EsisValue}
use Rattle.pdus.specs.EsisPdus.Spelling.{type_code, title_octets, variable_part, header_length, fixed_part, spelling}
use Rattle.pdus.specs.EsisPdus.Grammar.{IsTitleOrNone, HasOneTimer, IsPdu, Spells}
use Rattle.pdus.specs.EsisPdus.Rules.{refusal}
use Rattle.pdus.specs.EsisPdus.Making.{value, timer_options, esh_length}
use Rattle.pdus.proofs.EsisPdus.Frames.{is_front}
use Rattle.pdus.proofs.EsisPdus.Bodies.{title_few}
use Rattle.pdus.proofs.EsisPdus.Options.{spelled-nil}

pub spelled_timer : (seconds : ℕ) → spelled (timer_options (Some seconds)) ≡ timer ∷ 2 ∷ pair_of seconds
unfolding spelled
spelled_timer seconds = refl

-- the octets of a value, from what was written before its length and its checksum
pub written : (v : EsisValue) (plain head : List ℕ) → plain ≡ fixed_part 0 (type_code v.body) v.holding ++ variable_part v
    → head ≡ checked v.sealed (slice_set plain 1 (length plain)) → head ≡ spelling v
written v plain head e h =
    let front = fixed_part 0 (type_code v.body) v.holding ++ variable_part v in
    let size : length front ≡ header_length v = omega arith in
    h
    ∙ ap (λ (p : List ℕ). checked v.sealed (slice_set p 1 (length p))) e
    ∙ ap (λ n. checked v.sealed (slice_set front 1 n)) size

pub spelled_header : (v : EsisValue) (plain head : List ℕ) → IsPdu v → plain ≡ fixed_part 0 (type_code v.body) v.holding ++ variable_part v
    → head ≡ checked v.sealed (slice_set plain 1 (length plain)) → Spells v head
spelled_header v plain head pdu e h = record { pdu = pdu; octets_are = written v plain head e h }

-- what spells a value breaks no rule
pub unbroken : (v : EsisValue) (head : List ℕ) → Spells v head → refusal head ≡ None
unbroken v head h = (is_front head v [] (record { octets = head; spells = h; split = sym (append-nil head) })).unbroken

-- ---- values that can be spelled

pub one_timer : (seconds : Option ℕ) → HasOneTimer (timer_options seconds)
one_timer None = record { two_octets = λ k d within. absurd (omega arith); once = λ i j d lt within. absurd (omega arith) }
one_timer (Some s) = record { two_octets = two; once = λ i j d lt within. absurd (omega arith) }
  where
    two : All (λ option. option.code ≡ timer → length option.value ≡ 2) (timer_options (Some s))
    two zero d within e = refl
    two (suc k) d within e = absurd (omega arith)

pub timer_size : (seconds : Option ℕ) → length (spelled (timer_options seconds)) ≤ 4
timer_size None = rw spelled-nil (omega arith)
timer_size (Some s) = rw (spelled_timer s) (omega arith)

pub esh_pdu : (hold : ℕ) (sealed : Bool) (list : List (List ℕ)) → hold < 2 ^ 16 → All IsAddress list → header_length (value hold sealed (Esh list) []) ≤ 254 → IsPdu (value hold sealed (Esh list) [])
esh_pdu hold sealed list small each fits = record { holding = small; addresses = each; timer = tt; header_fits = fits }

pub ish_pdu : (hold : ℕ) (sealed : Bool) (title : List ℕ) (seconds : Option ℕ) → hold < 2 ^ 16 → IsAddress title → IsPdu (value hold sealed (Ish title) (timer_options seconds))
ish_pdu hold sealed title seconds small is = record {
  holding = small;
  addresses = is;
  timer = one_timer seconds;
  header_fits = omega (arith, is.few, timer_size seconds, length-append (counted title) (spelled (timer_options seconds)));
}

pub rd_pdu : (hold : ℕ) (sealed : Bool) (to via : List ℕ) (title : Option (List ℕ)) → hold < 2 ^ 16 → IsAddress to → IsAddress via → IsTitleOrNone title → IsPdu (value hold sealed (Rd to via title) [])
rd_pdu hold sealed to via title small is_to is_via is_title = record {
  holding = small;
  addresses = (is_to, is_via, is_title);
  timer = tt;
  header_fits =
      omega (
        arith,
        is_to.few,
        is_via.few,
        title_few title is_title,
        ap length spelled-nil,
        length-append (counted to ++ (counted via ++ counted (title_octets title))) (spelled []),
        length-append (counted to) (counted via ++ counted (title_octets title)),
        length-append (counted via) (counted (title_octets title)),
      );
}

-- ---- what is written part by part

pub esh_size : (list : List (List ℕ)) → esh_length list ≡ 10 + length (joined list)
esh_size list = omega (arith, length-append (length list ∷ joined list) (spelled []), ap length spelled-nil)

pub esh_front : (hold : ℕ) (list : List (List ℕ)) (a b c : List ℕ) → a ≡ fixed_part 0 2 hold → b ≡ a ++ length list ∷ [] → c ≡ b ++ joined list
    → c ≡ fixed_part 0 2 hold ++ ((length list ∷ joined list) ++ spelled [])
esh_front hold list a b c at_a at_b at_c =
    at_c
    ∙ ap (λ (t : List ℕ). t ++ joined list) (at_b ∙ ap (λ (t : List ℕ). t ++ length list ∷ []) at_a)
    ∙ append_assoc (fixed_part 0 2 hold) (length list ∷ []) (joined list)
    ∙ ap (λ (t : List ℕ). fixed_part 0 2 hold ++ t) (sym (append-nil (length list ∷ joined list)) ∙ ap (λ (t : List ℕ). (length list ∷ joined list) ++ t) (sym spelled-nil))

pub ish_front : (hold : ℕ) (title octets options a b c : List ℕ) → octets ≡ title → a ≡ fixed_part 0 4 hold → b ≡ a ++ counted octets → c ≡ b ++ options
    → c ≡ fixed_part 0 4 hold ++ (counted title ++ options)
ish_front hold title octets options a b c at at_a at_b at_c =
    at_c
    ∙ ap (λ (t : List ℕ). t ++ options) (at_b ∙ ap (λ (t : List ℕ). t ++ counted octets) at_a ∙ ap (λ (t : List ℕ). fixed_part 0 4 hold ++ counted t) at)
    ∙ append_assoc (fixed_part 0 4 hold) (counted title) options

pub rd_plain : (hold : ℕ) (to via title x y a b c d : List ℕ) → x ≡ to → y ≡ via → a ≡ fixed_part 0 6 hold → b ≡ a ++ counted x → c ≡ b ++ counted y → d ≡ c ++ counted title
    → d ≡ fixed_part 0 6 hold ++ (counted to ++ (counted via ++ counted title))
rd_plain hold to via title x y a b c d at_x at_y at_a at_b at_c at_d =
    let front = fixed_part 0 6 hold in
    let b_is : b ≡ front ++ counted to = at_b ∙ ap (λ (t : List ℕ). t ++ counted x) at_a ∙ ap (λ (t : List ℕ). front ++ counted t) at_x in
    let c_is : c ≡ (front ++ counted to) ++ counted via = at_c ∙ ap (λ (t : List ℕ). t ++ counted y) b_is ∙ ap (λ (t : List ℕ). (front ++ counted to) ++ counted t) at_y in
    at_d
    ∙ ap (λ (t : List ℕ). t ++ counted title) c_is
    ∙ append_assoc (front ++ counted to) (counted via) (counted title)
    ∙ append_assoc front (counted to) (counted via ++ counted title)

pub rd_front : (hold : ℕ) (to via title x y a b c d : List ℕ) → x ≡ to → y ≡ via → a ≡ fixed_part 0 6 hold → b ≡ a ++ counted x → c ≡ b ++ counted y → d ≡ c ++ counted title
    → d ≡ fixed_part 0 6 hold ++ ((counted to ++ (counted via ++ counted title)) ++ spelled [])
rd_front hold to via title x y a b c d at_x at_y at_a at_b at_c at_d =
    let front = fixed_part 0 6 hold in
    let all = counted to ++ (counted via ++ counted title) in
    rd_plain hold to via title x y a b c d at_x at_y at_a at_b at_c at_d
    ∙ ap (λ (t : List ℕ). front ++ t) (sym (append-nil all) ∙ ap (λ (t : List ℕ). all ++ t) (sym spelled-nil))
