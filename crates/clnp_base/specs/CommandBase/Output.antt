-- What was written of an output of lines that an input calls for.
use Rattle.std.specs.Prelude.{◌≡◌, ℕ, List, ◌++◌, Option}
use Rattle.std.specs.Io.KnownBytes.{Appends}
use Rattle.clnp_base.specs.Streams.{AppendsFront}

-- the output that is called for was written
pub record AppendsCalled (Called : List ℕ → Type 0) (before after : Option (List ℕ)) : Type 0 where
  pub output : List ℕ
  pub called : Called output
  pub appended : Appends before after output

-- a front of the whole output that is called for was written
pub record AppendsCalledFront (Called : List ℕ → Type 0) (before after : Option (List ℕ)) : Type 0 where
  pub output : List ℕ
  pub called : Called output
  pub appended : AppendsFront before after output

-- The part of the output that some of the lines call for, from the first on, was written; the whole output that is
-- called for begins with it.
pub record AppendsCalledPart (Called : List ℕ → Type 0) (Part : List (List ℕ) → List ℕ → Type 0) (lines : List (List ℕ)) (before after : Option (List ℕ)) : Type 0 where
  pub made : List (List ℕ)
  pub later : List (List ℕ)
  pub all : lines ≡ made ++ later
  pub output : List ℕ
  pub rest : List ℕ
  pub part : Part made output
  pub called : Called (output ++ rest)
  pub appended : Appends before after output
