-- Where the frames of a subnetwork may be of another length, each port on it takes such frames, and no other port changes.
use Rattle.std.proofs.Common.{◌≡◌, ◌≢◌, ℕ, zero, suc, ◌+◌, ◌<◌, ◌≤◌, ◌==◌, ◌⊎◌, inl, inr, List, [], ◌∷◌, length, cond, Bool, true, false, Option, Some, None, refl, sym, ap, ◌∙◌, subst, arith}
use Rattle.std.specs.Prelude.{slice_get, slice_set, option_map}
use Rattle.std.specs.List.{range_with_len}
use Rattle.std.proofs.lemmas.Option.{slice_get_past, slice_get_within as within_get}
use Rattle.clnp_machine.specs.Change.{Change, PortTakes, changed, ports_taking, with_mtu}
use Rattle.clnp_machine.specs.ClnpPlan.declared.config.PortConfig.{PortConfig}
use Rattle.clnp_machine.specs.Step.{step}
use Rattle.clnp_machine.specs.System.{IsChanged, SystemState}
use Rattle.clnp_machine.specs.ScenarioPlan.Plan.{Subnetwork}
use Rattle.clnp_machine.specs.ClnpNetwork.LabelledNetwork as network
use Rattle.clnp_machine.specs.ClnpNetwork.LabelledNetwork.{LabelledNetwork, ports_of}
use Rattle.clnp_program.specs.ClnpWorld.Changed.{FitsEachPort, fitted, port_at}
use Rattle.clnp_machine.proofs.ClnpBase.Lists.{slice_get-set, slice_get-set_other}

-- What is done at one place after another, where it does something at its own place alone.
module _ (one : LabelledNetwork → ℕ → LabelledNetwork) (each : LabelledNetwork → List ℕ → LabelledNetwork) (none : (w : LabelledNetwork) → each w [] ≡ w)
    (more : (w : LabelledNetwork) (place : ℕ) (places : List ℕ) → each w (place ∷ places) ≡ each (one w place) places)
    (at : LabelledNetwork → ℕ → Option PortConfig) (f : PortConfig → PortConfig)
    (here : (w : LabelledNetwork) (place : ℕ) → at (one w place) place ≡ option_map f (at w place))
    (elsewhere : (w : LabelledNetwork) (place other : ℕ) → place ≢ other → at (one w place) other ≡ at w other) where
  -- at every other place all is as it was
  outside : (w : LabelledNetwork) (from count other : ℕ) → (other < from) ⊎ (from + count ≤ other)
      → at (each w (range_with_len from count)) other ≡ at w other
  outside w from zero other out = ap (λ (v : LabelledNetwork). at v other) (none w)
  outside w from (suc count) other out =
      let later : (other < from + 1) ⊎ (from + 1 + count ≤ other) = elim out [ inl before ↦ inl (omega arith) | inr behind ↦ inr (omega (arith, behind)) ] in
      let differ : from ≢ other = elim out [
        | inl before ↦ (λ same. absurd (let no : ⊥ = omega (arith, same, before) in no))
        | inr behind ↦ (λ same. absurd (let no : ⊥ = omega (arith, same, behind) in no))
      ] in
      ap (λ (v : LabelledNetwork). at v other) (more w from (range_with_len (from + 1) count))
      ∙ outside (one w from) (from + 1) count other later
      ∙ elsewhere w from other differ

  first_or_later : (a b : ℕ) → a ≤ b → (a ≡ b) ⊎ (a + 1 ≤ b)
  first_or_later zero zero h = inl refl
  first_or_later zero (suc b) h = inr (omega arith)
  first_or_later (suc a) zero h = absurd (omega arith)
  first_or_later (suc a) (suc b) h = elim (first_or_later a b (omega arith)) [
    | inl same ↦ inl (ap suc same)
    | inr later ↦ inr (omega (arith, later))
  ]

  within : (w : LabelledNetwork) (from count place : ℕ) → from ≤ place → place < from + count
      → at (each w (range_with_len from count)) place ≡ option_map f (at w place)
  within w from zero place past before = absurd (omega arith)
  within w from (suc count) place past before =
      ap (λ (v : LabelledNetwork). at v place) (more w from (range_with_len (from + 1) count))
      ∙ elim (first_or_later from place past) [
        | inl same ↦
            subst (λ (p : ℕ). at (each (one w from) (range_with_len (from + 1) count)) p ≡ option_map f (at w p)) same
            (outside (one w from) (from + 1) count from (inl (omega arith)) ∙ here w from)
        | inr later ↦
            within (one w from) (from + 1) count place later (omega arith)
            ∙ ap (option_map f) (elsewhere w from place (λ same. absurd (let no : ⊥ = omega (arith, same, later) in no)))
      ]

  -- so it is at every place, where there is nothing past the last
  everywhere : (w : LabelledNetwork) (count : ℕ) → ((place : ℕ) → count ≤ place → at w place ≡ None) → (place : ℕ)
      → at (each w (range_with_len 0 count)) place ≡ option_map f (at w place)
  everywhere w count past place = elim (inside_or_past place count) [
    | inl inside ↦ within w 0 count place (omega arith) (omega (arith, inside))
    | inr behind ↦ outside w 0 count place (inr (omega (arith, behind))) ∙ past place behind ∙ sym (ap (option_map f) (past place behind))
  ]
    where
      inside_or_past : (a b : ℕ) → (a < b) ⊎ (b ≤ a)
      inside_or_past zero zero = inr (omega arith)
      inside_or_past zero (suc b) = inl (omega arith)
      inside_or_past (suc a) zero = inr (omega arith)
      inside_or_past (suc a) (suc b) = elim (inside_or_past a b) [
        | inl less ↦ inl (omega (arith, less))
        | inr more ↦ inr (omega (arith, more))
      ]

-- what one after another keeps, all keep
kept_by_each : (one : LabelledNetwork → ℕ → LabelledNetwork) (each : LabelledNetwork → List ℕ → LabelledNetwork) → ((w : LabelledNetwork) → each w [] ≡ w)
    → ((w : LabelledNetwork) (place : ℕ) (places : List ℕ) → each w (place ∷ places) ≡ each (one w place) places)
    → (P : LabelledNetwork → Type 0) → ((w : LabelledNetwork) (place : ℕ) → P w → P (one w place)) → (w : LabelledNetwork) (places : List ℕ) → P w → P (each w places)
kept_by_each one each none more P keeps w [] h = subst P (sym (none w)) h
kept_by_each one each none more P keeps w (place ∷ places) h =
    subst P (sym (more w place places)) (kept_by_each one each none more P keeps (one w place) places (keeps w place h))

-- A system is changed, and no other.

ports_changed : (w : LabelledNetwork) (place : ℕ) (change : Change) (system : SystemState) → slice_get w.systems place ≡ Some system
    → ports_of (slice_get (network.comes w place (IsChanged change)).world.systems place) ≡ (changed change system.attached).ports
ports_changed w place change system there =
    subst (λ (s : Option SystemState). ports_of (slice_get (network.comes_to w place (IsChanged change) s).world.systems place) ≡ (changed change system.attached).ports)
    (sym there) (ap ports_of (slice_get-set w.systems place (step system (IsChanged change)).after (within_get w.systems place system there)))

others_unchanged : (w : LabelledNetwork) (place other : ℕ) (change : Change) → place ≢ other
    → slice_get (network.comes w place (IsChanged change)).world.systems other ≡ slice_get w.systems other
others_unchanged w place other change differ = by_system (slice_get w.systems place)
  where
    by_system : (found : Option SystemState)
        → slice_get (network.comes_to w place (IsChanged change) found).world.systems other ≡ slice_get w.systems other
    by_system None = refl
    by_system (Some system) = slice_get-set_other w.systems place other (step system (IsChanged change)).after differ

mtus_unchanged : (w : LabelledNetwork) (place : ℕ) (change : Change) → (network.comes w place (IsChanged change)).world.mtus ≡ w.mtus
mtus_unchanged w place change = by_system (slice_get w.systems place)
  where
    by_system : (found : Option SystemState) → (network.comes_to w place (IsChanged change) found).world.mtus ≡ w.mtus
    by_system None = refl
    by_system (Some system) = refl

module _ (subnet mtu : ℕ) where
  abbrev takes : LabelledNetwork → (place number : ℕ) → LabelledNetwork
  takes w place number = (network.comes w place (IsChanged (PortTakes number mtu))).world

  abbrev one_port : LabelledNetwork → (place number : ℕ) → LabelledNetwork
  one_port w place number = (network.resizes_port w place number subnet mtu).world

  -- the port of a number takes such frames
  taken : (w : LabelledNetwork) (place number : ℕ) (port : PortConfig) (found : Option SystemState) → slice_get w.systems place ≡ found
      → slice_get (ports_of found) number ≡ Some port → port_at (takes w place number) place number ≡ Some (with_mtu mtu port)
  taken w place number port None there is = absurd (cc)
  taken w place number port (Some system) there is =
      let ports = system.attached.ports in
      ap (λ (ps : List PortConfig). slice_get ps number) (ports_changed w place (PortTakes number mtu) system there)
      ∙ ap (λ (p : Option PortConfig). slice_get (ports_taking number mtu p ports) number) is
      ∙ slice_get-set ports number (with_mtu mtu port) (within_get ports number port is)

  -- each other port of the system is as it was
  taken_other : (w : LabelledNetwork) (place number other : ℕ) → number ≢ other → (found : Option SystemState) → slice_get w.systems place ≡ found
      → port_at (takes w place number) place other ≡ slice_get (ports_of found) other
  taken_other w place number other differ None there =
      subst (λ (s : Option SystemState). slice_get (ports_of (slice_get (network.comes_to w place (IsChanged (PortTakes number mtu)) s).world.systems place)) other
      ≡ slice_get (ports_of None) other) (sym there) (ap (λ (s : Option SystemState). slice_get (ports_of s) other) there)
  taken_other w place number other differ (Some system) there =
      ap (λ (ps : List PortConfig). slice_get ps other) (ports_changed w place (PortTakes number mtu) system there)
      ∙ by_found (slice_get system.attached.ports number)
    where
      by_found : (p : Option PortConfig) → slice_get (ports_taking number mtu p system.attached.ports) other ≡ slice_get system.attached.ports other
      by_found None = refl
      by_found (Some port) = slice_get-set_other system.attached.ports number other (with_mtu mtu port) differ

  -- so it is where the port is on the subnetwork; where it isn't, nothing happens

  port_here : (w : LabelledNetwork) (place number : ℕ) → port_at (one_port w place number) place number ≡ option_map (fitted subnet mtu) (port_at w place number)
  port_here w place number = by_port (port_at w place number) refl
    where
      by_test : (port : PortConfig) → port_at w place number ≡ Some port → (on : Bool)
          → port_at (cond on (network.comes w place (IsChanged (PortTakes number mtu))) (network.nothing w)).world place number
          ≡ Some (cond on (with_mtu mtu port) port)
      by_test port is true = taken w place number port (slice_get w.systems place) refl is
      by_test port is false = is

      by_port : (found : Option PortConfig) → port_at w place number ≡ found
          → port_at (network.resizes_port_of w place number subnet mtu found).world place number ≡ option_map (fitted subnet mtu) found
      by_port None is = is
      by_port (Some port) is = by_test port is (port.subnet == subnet)

  port_leaves : (P : LabelledNetwork → Type 0) (w : LabelledNetwork) (place number : ℕ) → P w → P (takes w place number) → P (one_port w place number)
  port_leaves P w place number same changed = by_port (port_at w place number)
    where
      by_test : (on : Bool) → P (cond on (network.comes w place (IsChanged (PortTakes number mtu))) (network.nothing w)).world
      by_test true = changed
      by_test false = same

      by_port : (found : Option PortConfig) → P (network.resizes_port_of w place number subnet mtu found).world
      by_port None = same
      by_port (Some port) = by_test (port.subnet == subnet)

  port_other : (w : LabelledNetwork) (place number other : ℕ) → number ≢ other → port_at (one_port w place number) place other ≡ port_at w place other
  port_other w place number other differ =
      port_leaves (λ (v : LabelledNetwork). port_at v place other ≡ port_at w place other) w place number refl
      (taken_other w place number other differ (slice_get w.systems place) refl)

  -- a system's ports

  abbrev all_ports : LabelledNetwork → (place : ℕ) → (numbers : List ℕ) → LabelledNetwork
  all_ports w place numbers = (network.resizes_ports w place subnet mtu numbers).world

  abbrev one_system : LabelledNetwork → (place : ℕ) → LabelledNetwork
  one_system w place = (network.resizes_at w place subnet mtu).world

  system_here : (number : ℕ) (w : LabelledNetwork) (place : ℕ)
      → port_at (one_system w place) place number ≡ option_map (fitted subnet mtu) (port_at w place number)
  system_here number w place =
      everywhere (λ (v : LabelledNetwork) (n : ℕ). one_port v place n) (λ (v : LabelledNetwork) (ns : List ℕ). all_ports v place ns) (λ v. refl) (λ v n ns. refl)
      (λ (v : LabelledNetwork) (n : ℕ). port_at v place n) (fitted subnet mtu)
      (λ v n. port_here v place n) (λ v n other differ. port_other v place n other differ)
      w (length (ports_of (slice_get w.systems place))) (λ n past. slice_get_past (ports_of (slice_get w.systems place)) n past) number

  system_keeps : (P : LabelledNetwork → Type 0) → ((w : LabelledNetwork) (place number : ℕ) → P w → P (takes w place number)) → (w : LabelledNetwork) (place : ℕ) → P w → P (one_system w place)
  system_keeps P keeps w place h =
      kept_by_each (λ (v : LabelledNetwork) (n : ℕ). one_port v place n) (λ (v : LabelledNetwork) (ns : List ℕ). all_ports v place ns) (λ v. refl) (λ v n ns. refl)
      P (λ v n k. port_leaves P v place n k (keeps v place n k)) w (range_with_len 0 (length (ports_of (slice_get w.systems place)))) h

  port_elsewhere : (number : ℕ) (w : LabelledNetwork) (place other : ℕ) → place ≢ other → port_at (one_system w place) other number ≡ port_at w other number
  port_elsewhere number w place other differ =
      kept_by_each (λ (v : LabelledNetwork) (n : ℕ). one_port v place n) (λ (v : LabelledNetwork) (ns : List ℕ). all_ports v place ns) (λ v. refl) (λ v n ns. refl)
      (λ (v : LabelledNetwork). port_at v other number ≡ port_at w other number)
      (λ v n k. port_leaves (λ (u : LabelledNetwork). port_at u other number ≡ port_at w other number) v place n k
      (ap (λ (s : Option SystemState). slice_get (ports_of s) number) (others_unchanged v place other (PortTakes n mtu) differ) ∙ k))
      w (range_with_len 0 (length (ports_of (slice_get w.systems place)))) refl

  -- and those of all systems

  abbrev all_systems : LabelledNetwork → (places : List ℕ) → LabelledNetwork
  all_systems w places = (network.resizes_each w subnet mtu places).world

  none_past : (w : LabelledNetwork) (place number : ℕ) → length w.systems ≤ place → port_at w place number ≡ None
  none_past w place number past = ap (λ (s : Option SystemState). slice_get (ports_of s) number) (slice_get_past w.systems place past)

  each_port : (w : LabelledNetwork) (place number : ℕ)
      → port_at (all_systems w (range_with_len 0 (length w.systems))) place number ≡ option_map (fitted subnet mtu) (port_at w place number)
  each_port w place number =
      everywhere one_system all_systems (λ v. refl) (λ v p ps. refl) (λ (v : LabelledNetwork) (p : ℕ). port_at v p number) (fitted subnet mtu)
      (λ v p. system_here number v p) (λ v p other differ. port_elsewhere number v p other differ)
      w (length w.systems) (λ p past. none_past w p number past) place

  mtus_kept : (w : LabelledNetwork) (places : List ℕ) → (all_systems w places).mtus ≡ w.mtus
  mtus_kept w places =
      kept_by_each one_system all_systems (λ v. refl) (λ v p ps. refl) (λ (v : LabelledNetwork). v.mtus ≡ w.mtus)
      (λ v p k. system_keeps (λ (u : LabelledNetwork). u.mtus ≡ w.mtus) (λ u q n same. mtus_unchanged u q (PortTakes n mtu) ∙ same) v p k)
      w places refl

  pub fits_each_port : (subnets : List Subnetwork) (w : LabelledNetwork) (declared : Subnetwork) → slice_get subnets subnet ≡ Some declared
      → FitsEachPort subnets w subnet mtu
  fits_each_port subnets w declared there =
      let v : LabelledNetwork = record w { mtus = slice_set w.mtus subnet mtu } in
      let is : network.resizes subnets w subnet mtu ≡ network.resizes_on w subnet mtu (Some declared) = ap (network.resizes_on w subnet mtu) there in
      record {
        ports = λ place number. ap (λ (s : network.Step). port_at s.world place number) is ∙ each_port v place number;
        mtus = ap (λ (s : network.Step). s.world.mtus) is ∙ mtus_kept v (range_with_len 0 (length w.systems));
      }
