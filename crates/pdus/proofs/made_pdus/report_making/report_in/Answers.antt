-- The first octets of a frame tell all of its header that a report tells.
use Rattle.std.proofs.Common.{◌≡◌, ◌++◌, ◌∙◌, ℕ, List, None, ap, arith, length, subst, sym, take}
use Rattle.pdus.specs.ClnpViews.Extent.{seen}
use Rattle.pdus.specs.PduHeader.Grammar.{Spells}
use Rattle.pdus.specs.PduHeader.Headers.{SpellsHeader}
use Rattle.pdus.specs.PduHeader.Reading.{address_at}
use Rattle.pdus.specs.PduHeader.Rules.{header_of, is_reportable, refusal, source_place}
use Rattle.pdus.specs.PduHeader.Value.{PduValue}
use Rattle.pdus.proofs.PduHeader.Fields.{AreOctets}
use Rattle.pdus.proofs.PduHeader.FirstOctets.{same_reportable}
use Rattle.pdus.specs.MadePdus.Report.{report_between}
use Rattle.pdus.proofs.MadePdus.FirstOctets.{HeaderStands, header_stands}
use Rattle.pdus.proofs.made_pdus.report_making.report_in.Goals as goal

first_is : (c : goal.In-Some) → c.as_bytes-octets.result.now ≡ take 254 (seen c.args.frame.now)
first_is c = c.as_bytes-octets.ensures.octets ∙ c.first_octets-first.ensures

are_octets : (c : goal.In-Some) → AreOctets (take 254 (seen c.args.frame.now))
are_octets c = subst AreOctets (first_is c) (λ i. omega (arith, c.as_bytes-octets.items_fit i))

pub returns-in-Some-clause-some : goal.returns-in-Some-clause-some
returns-in-Some-clause-some c = c.in-Some.ensures.some ∙ ap is_reportable (first_is c) ∙ same_reportable (seen c.args.frame.now) (are_octets c)

pub returns-in-None-clause-some : goal.returns-in-None-clause-some
returns-in-None-clause-some c =
    let first = c.as_bytes-octets.ensures.octets ∙ c.first_octets-first.ensures in
    c.in-None.ensures.some ∙ ap is_reportable first
    ∙ same_reportable (seen c.args.frame.now) (subst AreOctets first (λ i. omega (arith, c.as_bytes-octets.items_fit i)))

stands : (c : goal.In-Some) → HeaderStands (seen c.args.frame.now)
stands c = header_stands (seen c.args.frame.now) (are_octets c) (sym (returns-in-Some-clause-some c))

same_header : (c : goal.In-Some) → header_of c.as_bytes-octets.result.now ≡ header_of (seen c.args.frame.now)
same_header c = ap header_of (first_is c) ∙ (stands c).first

pub returns-in-Some-clause-to : goal.returns-in-Some-clause-to
returns-in-Some-clause-to c = c.in-Some.ensures.to ∙ ap (λ head. address_at head (source_place head)) (same_header c)

abbrev same_report : (c : goal.In-Some) → (head : List ℕ) → PduValue
same_report c head =
    report_between c.args.own.now (address_at head (source_place head)) c.args.reason c.args.place c.args.life c.args.sealed head

pub returns-in-Some-clause-head : goal.returns-in-Some-clause-head
returns-in-Some-clause-head c = subst (λ head. SpellsHeader (same_report c head) c.in-Some.made.head) (same_header c) c.in-Some.ensures.head

pub returns-in-Some-clause-len : goal.returns-in-Some-clause-len
returns-in-Some-clause-len c = c.in-Some.ensures.len ∙ ap length (same_header c)

pub returns-in-Some-clause-data : goal.returns-in-Some-clause-data
returns-in-Some-clause-data c =
    ap (λ len. take len (seen c.args.frame.now)) (returns-in-Some-clause-len c) ∙ (stands c).part

same_data : (c : goal.In-Some) → take c.in-Some.made.body_len c.as_bytes-octets.result.now ≡ take c.in-Some.made.body_len (seen c.args.frame.now)
same_data c = c.in-Some.ensures.data ∙ same_header c ∙ sym (returns-in-Some-clause-data c)

pub returns-in-Some-clause-within : goal.returns-in-Some-clause-within
returns-in-Some-clause-within c = omega (arith, returns-in-Some-clause-len c, (stands c).within, c.len-len.ensures.octets, c.len-len.ensures.len)

pub returns-in-Some-clause-spells : goal.returns-in-Some-clause-spells
returns-in-Some-clause-spells c =
    subst (λ octets. Spells (same_report c (header_of (seen c.args.frame.now))) (c.in-Some.made.head ++ octets)) (same_data c)
    (subst (λ head. Spells (same_report c head) (c.in-Some.made.head ++ take c.in-Some.made.body_len c.as_bytes-octets.result.now)) (same_header c) c.in-Some.ensures.spells)

pub returns-in-Some-clause-accepted : goal.returns-in-Some-clause-accepted
returns-in-Some-clause-accepted c = subst (λ octets. refusal (c.in-Some.made.head ++ octets) ≡ None) (same_data c) c.in-Some.ensures.accepted
