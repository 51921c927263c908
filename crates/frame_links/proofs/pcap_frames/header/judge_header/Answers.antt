use Rattle.std.proofs.Common.{◌%◌, ◌^◌, sym, ◌∙◌, arith}
use Rattle.pdus.proofs.ClnpBase.Choices.{is_equal, not_equal}
use Rattle.frame_links.proofs.PcapFrames.HeaderReading.{judged_link, judged_right, judged_version, no_magic, none_told, right_version, told_header, wrong_version}
use Rattle.frame_links.proofs.pcap_frames.header.judge_header.Goals as goal

pub returns-in_default : goal.returns-in_default
returns-in_default c = no_magic c.args.header.now (none_told c.args.header.now (sym c.order_of.ensures ∙ c.in_default.is))

pub returns-then-not-is_version : goal.returns-then-not-is_version
returns-then-not-is_version c =
    judged_version c.in-Some.order c.args.header.now c.two_at-major.result c.two_at-minor.result
    (told_header c.in-Some.order c.args.header.now c.two_at-major.result c.two_at-minor.result
    (λ i. omega (arith, c.type_inv.header i)) c.requires (sym c.order_of.ensures ∙ c.in-Some.is) c.two_at-major.ensures c.two_at-minor.ensures)
    (wrong_version c.two_at-major.result c.two_at-minor.result c.if-not-is_version.ensures)

pub returns-then-not-is_ethernet : goal.returns-then-not-is_ethernet
returns-then-not-is_ethernet c =
    let version = right_version c.two_at-major.result c.two_at-minor.result c.if-not-is_version.ensures in
    judged_link c.in-Some.order c.args.header.now c.two_at-major.result c.two_at-minor.result c.four_at-value.result
    (told_header c.in-Some.order c.args.header.now c.two_at-major.result c.two_at-minor.result
    (λ i. omega (arith, c.type_inv.header i)) c.requires (sym c.order_of.ensures ∙ c.in-Some.is) c.two_at-major.ensures c.two_at-minor.ensures)
    version.0 version.1 c.four_at-value.ensures (not_equal (c.four_at-value.result % 2 ^ 16) 1 (sym c.if-not-is_ethernet.ensures))

pub returns : goal.returns
returns c =
    let version = right_version c.two_at-major.result c.two_at-minor.result c.if-not-is_version.ensures in
    judged_right c.in-Some.order c.args.header.now c.two_at-major.result c.two_at-minor.result c.four_at-value.result
    (told_header c.in-Some.order c.args.header.now c.two_at-major.result c.two_at-minor.result
    (λ i. omega (arith, c.type_inv.header i)) c.requires (sym c.order_of.ensures ∙ c.in-Some.is) c.two_at-major.ensures c.two_at-minor.ensures)
    version.0 version.1 c.four_at-value.ensures (is_equal (c.four_at-value.result % 2 ^ 16) 1 (sym c.if-not-is_ethernet.ensures))
