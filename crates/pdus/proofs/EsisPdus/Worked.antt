-- Worked frames: what their values spell, and what the rules say of them.
use Rattle.std.proofs.Common.{◌≡◌, ℕ, true, List, [], ◌∷◌, Some, None, refl}
use Rattle.pdus.specs.Fletcher.Checksum.{sealed, checksum_x, checksum_y}
use Rattle.pdus.specs.ClnpOptions.Parameter.{spelled}
use Rattle.pdus.specs.ClnpOptions.Grammar.{joined}
use Rattle.pdus.specs.declared.esis_pdus.pdu.EsisBody.TheVariants.{Esh, Ish, Rd}
use Rattle.pdus.specs.EsisPdus.Making.{value, timer_options}
use Rattle.pdus.specs.EsisPdus.Spelling.{spelling}

title : List ℕ
title = 0x47 ∷ 0x00 ∷ 0x27 ∷ 0xff ∷ []

router_hello : spelling (value 120 true (Ish (0x47 ∷ 0x00 ∷ 0x27 ∷ 0xff ∷ [])) [])
    ≡ 0x82 ∷ 0x0e ∷ 0x01 ∷ 0x00 ∷ 0x04 ∷ 0x00 ∷ 0x78 ∷ 0xb1 ∷ 0xcd ∷ 0x04 ∷ 0x47 ∷ 0x00 ∷ 0x27 ∷ 0xff ∷ []
unfolding sealed checksum_x checksum_y spelled
router_hello = refl

router_suggests : spelling (value 120 true (Ish (0x47 ∷ 0x00 ∷ 0x27 ∷ 0xff ∷ [])) (timer_options (Some 30)))
    ≡ 0x82 ∷ 0x12 ∷ 0x01 ∷ 0x00 ∷ 0x04 ∷ 0x00 ∷ 0x78 ∷ 0x5b ∷ 0x39 ∷ 0x04 ∷ 0x47 ∷ 0x00 ∷ 0x27 ∷ 0xff ∷ 0xc6 ∷ 0x02 ∷ 0x00 ∷ 0x1e ∷ []
unfolding sealed checksum_x checksum_y spelled
router_suggests = refl

host_hello : spelling (value 120 true (Esh ((0x47 ∷ 0x00 ∷ 0x27 ∷ 0x02 ∷ []) ∷ [])) [])
    ≡ 0x82 ∷ 0x0f ∷ 0x01 ∷ 0x00 ∷ 0x02 ∷ 0x00 ∷ 0x78 ∷ 0x32 ∷ 0x4b ∷ 0x01 ∷ 0x04 ∷ 0x47 ∷ 0x00 ∷ 0x27 ∷ 0x02 ∷ []
unfolding sealed checksum_x checksum_y spelled joined
host_hello = refl

redirect : spelling (value 120 true (Rd (0x47 ∷ 0x00 ∷ 0x27 ∷ 0x01 ∷ []) (0x02 ∷ []) None) [])
    ≡ 0x82 ∷ 0x11 ∷ 0x01 ∷ 0x00 ∷ 0x06 ∷ 0x00 ∷ 0x78 ∷ 0xad ∷ 0xc8 ∷ 0x04 ∷ 0x47 ∷ 0x00 ∷ 0x27 ∷ 0x01 ∷ 0x01 ∷ 0x02 ∷ 0x00 ∷ []
unfolding sealed checksum_x checksum_y spelled
redirect = refl
