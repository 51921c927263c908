use Rattle.std.proofs.Common.{sym, subst, Option, arith}
use Rattle.frame_links.specs.declared.pcap_frames.order.Order.{Order}
use Rattle.frame_links.specs.PcapFrames.Walk.{HeaderTells}
use Rattle.frame_links.proofs.PcapFrames.Starting.{told_by}
use Rattle.frame_links.proofs.pcap_frames.walk.order_of.Goals as goal

pub returns-then-file-lt-HEADER-clause-octets : goal.returns-then-file-lt-HEADER-clause-octets
returns-then-file-lt-HEADER-clause-octets c = λ i. omega (arith, c.type_inv.file i)

pub returns-clause-octets : goal.returns-clause-octets
returns-clause-octets c = λ i. omega (arith, c.type_inv.file i)

pub returns-clause-told : goal.returns-clause-told
returns-clause-told c =
    subst (λ (o : Option Order). HeaderTells c.args.file.now o) (sym c.ok.ensures.value)
    (told_by c.args.file.now c.judge_header.result c.judge_header.ensures)
