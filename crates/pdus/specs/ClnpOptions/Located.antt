-- Where an option's value stands in a part.
use Rattle.std.specs.Prelude.{◌≡◌, ℕ, ◌+◌, ◌≤◌, List, ◌∷◌, ◌++◌, length, None}
use Rattle.pdus.specs.ClnpOptions.Parameter.{Parameter, spelling, spelled, parameters}
use Rattle.pdus.specs.ClnpOptions.Edits.{value_of, pointer_of, title_size}

-- the first option of this code has its value from `start` to `end`, where `after` is what follows it
pub record StandsAt (part : List ℕ) (code start end : ℕ) : Type 0 where
  pub before : List Parameter
  pub value : List ℕ
  pub after : List ℕ
  pub octets : part ≡ spelled before ++ (spelling (record { code = code; value = value }) ++ after)
  pub options : parameters part ≡ before ++ (record { code = code; value = value } ∷ parameters after)
  pub none_before : value_of code before ≡ None
  pub starts : start ≡ length (spelled before) + 2
  pub ends : end ≡ start + length value

-- a whole title stands at the pointer
pub record LeadsOn (value : List ℕ) : Type 0 where
  pub pointer : 3 ≤ pointer_of value
  pub fits : pointer_of value + title_size value ≤ length value
