-- Whether the link of any port is attached, port by port.
use Rattle.std.proofs.Common.{◌≡◌, ◌≤◌, ◌+◌, ℕ, zero, suc, true, false, Bool, ◌||◌, List, [], ◌∷◌, drop, length, add-one, refl, arith}
use Rattle.frame_links.specs.LinkBoard.Ports.{PortState, is_attached_at}
use Rattle.clnp_program.specs.LiveNode.Ran.{has_any_attached}

-- one is attached at this place
pub any_here : (place : ℕ) (ports : List PortState) → is_attached_at place ports ≡ true → has_any_attached (drop place ports) ≡ true
any_here place [] e = absurd (cc)
any_here zero (port ∷ ports) e = rw e refl
any_here (suc place) (port ∷ ports) e = any_here place ports e

-- none is, and the others are left
pub any_behind : (place : ℕ) (ports : List PortState) → is_attached_at place ports ≡ false
    → has_any_attached (drop place ports) ≡ has_any_attached (drop (place + 1) ports)
any_behind zero [] e = refl
any_behind (suc place) [] e = rw add-one refl
any_behind zero (port ∷ ports) e = rw e refl
any_behind (suc place) (port ∷ ports) e =
    let next : has_any_attached (drop place ports) ≡ has_any_attached (drop (place + 1) ports) = any_behind place ports e in
    rw add-one (rw add-one at next)

pub none_behind : (place : ℕ) (ports : List PortState) → length ports ≤ place → has_any_attached (drop place ports) ≡ false
none_behind zero [] h = refl
none_behind (suc place) [] h = refl
none_behind zero (port ∷ ports) h = absurd (omega (arith, h))
none_behind (suc place) (port ∷ ports) h = none_behind place ports (omega (arith, h))

or_any : (b : Bool) → (b || true) ≡ true
or_any true = refl
or_any false = refl

pub any_there : (place : ℕ) (ports : List PortState) → is_attached_at place ports ≡ true → has_any_attached ports ≡ true
any_there place [] e = absurd (cc)
any_there zero (port ∷ ports) e = rw e refl
any_there (suc place) (port ∷ ports) e = rw (any_there place ports e) (or_any port.attached)

pub any_start : (ports : List PortState) → has_any_attached ports ≡ has_any_attached (drop 0 ports)
any_start [] = refl
any_start (port ∷ ports) = refl
