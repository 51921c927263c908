-- The suggested end system configuration timer, an option of an intermediate system hello (ISO 9542:1988).
use Rattle.std.specs.Prelude.{ℕ, ◌+◌, ◌==◌, ◌&&◌, ◌||◌, not, Bool, if◌then◌else◌, List, [], ◌∷◌, length, Option, Some, None}
use Rattle.pdus.specs.ClnpOptions.Parameter.{Parameter, size_of}
use Rattle.pdus.specs.PduHeader.Rules.{pair_at}

abbrev pub timer : ℕ
timer = 0xc6

abbrev pub is_timer : Parameter → Bool
is_timer option = option.code == timer

-- the place of the first timer that isn't two octets or has another one before it, where the first option stands at
-- `place` and `seen` says that a timer stands before them all
unfoldable pub place_of_wrong_timer : Bool → ℕ → List Parameter → Option ℕ
place_of_wrong_timer seen place [] = None
place_of_wrong_timer seen place (option ∷ others) =
    if is_timer option && (seen || not (length option.value == 2)) then Some place
    else place_of_wrong_timer (seen || is_timer option) (place + size_of option) others

-- the seconds that the first timer says, where there is one
unfoldable pub seconds_of : List Parameter → Option ℕ
seconds_of [] = None
seconds_of (option ∷ others) = if is_timer option then Some (pair_at option.value 1) else seconds_of others
