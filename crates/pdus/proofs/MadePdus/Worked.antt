-- Worked ranges: 3,000 octets of data behind a header of 25, for an MTU of 1,500, and the first of their ranges for one of 512.
use Rattle.std.proofs.Common.{◌≡◌, refl, [], ◌∷◌}
use Rattle.pdus.specs.MadePdus.Cut.{data_room, ranges}

worked_1500 : ranges (data_room 25 1500) 3000
    ≡ record { from = 0; len = 1472 } ∷ record { from = 1472; len = 1472 } ∷ record { from = 2944; len = 56 } ∷ []
worked_1500 = refl

worked_512 : ranges (data_room 25 512) 1472
    ≡ record { from = 0; len = 480 } ∷ record { from = 480; len = 480 } ∷ record { from = 960; len = 480 } ∷ record { from = 1440; len = 32 } ∷ []
worked_512 = refl
