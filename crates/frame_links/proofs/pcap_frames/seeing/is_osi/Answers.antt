use Rattle.std.proofs.Common.{◌≡◌, ◌-◌, inl, inr, refl, ap, ◌∙◌, length, drop, arith, length-drop, take_all}
use Rattle.std.proofs.lemmas.Bool.{le-leb, lt-leb}
use Rattle.byteorder.specs.Endian.{big_number}
use Rattle.frame_links.specs.PcapFrames.Frames.{told_length}
use Rattle.frame_links.proofs.pcap_frames.seeing.is_osi.Goals.{then-length-ge3, else-length-ge3}
use Rattle.frame_links.proofs.pcap_frames.seeing.is_osi.Goals as goal

pub returns-then-octets-lt-BEFORE_PDU : goal.returns-then-octets-lt-BEFORE_PDU
returns-then-octets-lt-BEFORE_PDU c = rw (lt-leb 17 (length c.args.octets.now) c.if-octets-lt-BEFORE_PDU.true) refl

pub read_u16-length-requires : goal.read_u16-length-requires
read_u16-length-requires c =
    let octets = c.args.octets.now in
    rw (take_all (length octets - 12) (drop 12 octets) (omega (arith, length-drop 12 octets)))
    (omega (arith, length-drop 12 octets, c.if-octets-lt-BEFORE_PDU.false))

pub returns-then-length-le1500 : goal.returns-then-length-le1500
returns-then-length-le1500 c =
    let octets = c.args.octets.now in
    let told : c.read_u16-length.result ≡ told_length octets =
    c.read_u16-length.ensures ∙ ap (big_number 2) (take_all (length octets - 12) (drop 12 octets) (omega (arith, length-drop 12 octets))) in
    let limits = c.if-length-le1500.true in
    rw (
      le-leb 17 (length octets) c.if-octets-lt-BEFORE_PDU.false,
      le-leb 3 (told_length octets) (omega (arith, told, limits.0)),
      le-leb (told_length octets) 1500 (omega (arith, told, limits.1)),
    )
    c.tells_osi.ensures

pub returns-else-length-le1500 : goal.returns-else-length-le1500
returns-else-length-le1500 c =
    let octets = c.args.octets.now in
    let count = told_length octets in
    let told : c.read_u16-length.result ≡ count =
    c.read_u16-length.ensures ∙ ap (big_number 2) (take_all (length octets - 12) (drop 12 octets) (omega (arith, length-drop 12 octets))) in
    elim c.if-length-ge3.branch [
      | then-length-ge3 w ↦ w.t-9-is
          ∙ rw (
            told,
            le-leb 17 (length octets) c.if-octets-lt-BEFORE_PDU.false,
            le-leb 3 count (omega (arith, told, w.if-length-ge3.true)),
            lt-leb count 1500
                (elim c.if-length-le1500.either [
                  | inl above ↦ omega (arith, told, above.1)
                  | inr below ↦ absurd (omega (arith, below, w.if-length-ge3.true))
                ]),
          )
          refl
      | else-length-ge3 w ↦ w.t-9-is
          ∙ rw (
            told,
            le-leb 17 (length octets) c.if-octets-lt-BEFORE_PDU.false,
            lt-leb 3 count (omega (arith, told, w.if-length-ge3.false)),
          )
          refl
    ]
