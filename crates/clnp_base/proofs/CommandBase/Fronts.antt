-- Fronts of what was written.
use Rattle.std.proofs.Common.{ℕ, ◌+◌, ◌≤◌, List, ◌++◌, length, take, Option, arith, length-append}
use Rattle.std.proofs.lemmas.List.{take-append-le}
use Rattle.std.proofs.Math.Seq.{take-append-add}
use Rattle.std.specs.Io.KnownBytes.{Appends}
use Rattle.std.proofs.KnownBytes.{Appends-trans}
use Rattle.clnp_base.specs.Streams.{AppendsFront}

-- a front of what comes behind something that was written whole
pub front-behind : (a b c : Option (List ℕ)) (piece more : List ℕ) → Appends a b piece → AppendsFront b c more → AppendsFront a c (piece ++ more)
front-behind a b c piece more p q = record {
  count = length piece + q.count;
  within = omega (arith, length-append piece more, q.within);
  appends = rw (take-append-add piece more q.count) (Appends-trans a b c piece (take q.count more) p q.appends);
}

-- a front of the first part is a front of the whole
pub front-longer : (a b : Option (List ℕ)) (piece more : List ℕ) → AppendsFront a b piece → AppendsFront a b (piece ++ more)
front-longer a b piece more q =
    let h : q.count ≤ length piece = q.within in
    record {
      count = q.count;
      within = omega (arith, length-append piece more, q.within);
      appends = rw take-append-le q.appends;
    }
