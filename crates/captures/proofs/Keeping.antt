-- What is written behind what stood there.
use Rattle.std.proofs.Common.{◌≡◌, ◌++◌, ℕ, List, [], ◌∷◌, Result, Ok, Err, OnErr, refl, ap}
use Rattle.std.proofs.Math.Seq.{take-append_seam}
use Rattle.captures.specs.Kept.{Keeps}

pub keeps_appended : (old text new : List ℕ) → new ≡ old ++ text → Keeps old new
keeps_appended old text new e = rw e (take-append_seam old text)

pub keeps_more : (old middle new : List ℕ) → Keeps old middle → Keeps middle new → Keeps old new
keeps_more [] middle new first second = refl
keeps_more (x ∷ old) [] new first second = absurd (cc)
keeps_more (x ∷ old) (y ∷ middle) [] first second = absurd (cc)
keeps_more (x ∷ old) (y ∷ middle) (z ∷ new) first second =
    let rest = keeps_more old middle new (cc) (cc) in cc

pub keeps_itself : (old : List ℕ) → Keeps old old
keeps_itself [] = refl
keeps_itself (x ∷ old) = ap (λ t. x ∷ t) (keeps_itself old)

-- one piece more behind what stood there
pub keeps_next : (old middle text new : List ℕ) → Keeps old middle → new ≡ middle ++ text → Keeps old new
keeps_next old middle text new first e = keeps_more old middle new first (keeps_appended middle text new e)

pub keeps_same : (old middle new : List ℕ) → Keeps old middle → new ≡ middle → Keeps old new
keeps_same old middle new keeps same = rw same keeps

-- one call more that changes nothing, where it fails
pub kept_same : {A E : Type 0} (answer : Result A E) (old middle new : List ℕ) → Keeps old middle → OnErr answer (new ≡ middle)
    → OnErr answer (Keeps old new)
kept_same (Ok x) old middle new keeps same = tt
kept_same (Err e) old middle new keeps same = rw same keeps

-- one call more that keeps what stands there, where it fails
pub kept_behind : {A E : Type 0} (answer : Result A E) (old middle new : List ℕ) → Keeps old middle → OnErr answer (Keeps middle new)
    → OnErr answer (Keeps old new)
kept_behind (Ok x) old middle new first second = tt
kept_behind (Err e) old middle new first second = keeps_more old middle new first second

-- where what stands there is kept in any case
pub kept_always : {A E : Type 0} (answer : Result A E) (old new : List ℕ) → Keeps old new → OnErr answer (Keeps old new)
kept_always (Ok x) old new keeps = tt
kept_always (Err e) old new keeps = keeps

-- three pieces behind what stood there
pub keeps_three : (old first second third : List ℕ) (one two three : List ℕ) → first ≡ old ++ one → second ≡ first ++ two
    → third ≡ second ++ three → Keeps old third
keeps_three old first second third one two three a b c =
    keeps_more old second third (keeps_more old first second (keeps_appended old one first a) (keeps_appended first two second b))
    (keeps_appended second three third c)
