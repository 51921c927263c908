-- What the code's types mean, and how far its answers are free.
use Rattle.std.specs.Prelude.{◌≡◌, Option, None}
use Rattle.captures.specs.declared.capture_text.refusal.PackRefusal.{PackRefusal}
use Rattle.captures.specs.declared.capture_text.refusal.PackRefusal.TheVariants.{NotPackable, NotShown, Count, NoMemory}
use Rattle.captures.specs.declared.capture_text.pieces.Pieces.{Pieces}
use Rattle.captures.specs.CaptureText.Said.{Said}

abbrev pub said_by : Pieces → Said
said_by pieces =
    record {
      number = pieces.number;
      sum = pieces.sum;
      addresses = pieces.addresses;
      part = pieces.part.items;
      size = pieces.size;
      behind = pieces.behind.items;
    }

-- no frame is read where there is none; want of memory alone is free
abbrev pub Misses : {A : Type 0} → PackRefusal → Option A → Type 0
Misses NotShown reading = reading ≡ None
Misses NoMemory reading = Unit {0}
Misses NotPackable reading = ⊥
Misses Count reading = ⊥
