-- What is so of a router's edits of options, as the laws of options and of PDUs say.
use Rattle.std.specs.Prelude.{◌≡◌, ℕ, ◌+◌, ◌≤◌, List, length, IsSome}
use Rattle.clnp_plan.specs.Nsap.Address.{IsAddress}
use Rattle.clnp_plan.specs.ClnpOptions.Edits as edits
use Rattle.clnp_plan.specs.ClnpOptions.Edits.{HaveOneForm, edited, route_left, target_of}
use Rattle.clnp_plan.specs.ClnpOptions.Grammar.{AreFormed}
use Rattle.clnp_plan.specs.ClnpOptions.Parameter.{Parameter, quality, recording, source_route, spelled}
use Rattle.clnp_plan.specs.PduHeader.Grammar.{IsPdu}
use Rattle.clnp_plan.specs.PduHeader.Headers.{with_options}
use Rattle.clnp_plan.specs.PduHeader.Value.{PduValue}

-- the form of options is kept
pub record KeepForm : Type 0 where
  pub advanced : (options : List Parameter) → HaveOneForm (edited source_route edits.advanced options) options
  pub recorded : (options : List Parameter) (title : List ℕ) → AreFormed options
      → HaveOneForm (edited recording (edits.recorded title) options) options
  pub marked : (options : List Parameter) → HaveOneForm (edited quality edits.marked options) options
  pub same : (options : List Parameter) → HaveOneForm options options
  pub chained : (first second third : List Parameter) → HaveOneForm first second → HaveOneForm second third
      → HaveOneForm first third
  pub len : (options others : List Parameter) → HaveOneForm options others
      → length (spelled options) ≡ length (spelled others)
  pub formed : (options : List Parameter) → AreFormed options → IsSome (target_of options)
      → AreFormed (edited source_route edits.advanced options)

-- PDUs stay PDUs
pub record KeepPdus : Type 0 where
  pub advanced : (v : PduValue) → IsPdu v → IsSome (target_of v.options)
      → IsPdu (with_options (edited source_route edits.advanced v.options) v)
  pub recorded : (v : PduValue) (title : List ℕ) → IsPdu v → IsAddress title
      → IsPdu (with_options (edited recording (edits.recorded title) v.options) v)
  pub marked : (v : PduValue) → IsPdu v → IsPdu (with_options (edited quality edits.marked v.options) v)

pub record EditLaws : Type 0 where
  pub form : KeepForm
  pub pdus : KeepPdus

-- A router's edits lead a source route on: fewer of its octets are left each time, and other edits leave where it leads.
pub record RouteLaws : Type 0 where
  pub recorded : (change : List ℕ → List ℕ) (options : List Parameter)
      → target_of (edited recording change options) ≡ target_of options
  pub marked : (change : List ℕ → List ℕ) (options : List Parameter)
      → target_of (edited quality change options) ≡ target_of options
  pub formed : (options : List Parameter) → AreFormed options → IsSome (target_of options)
      → AreFormed (edited source_route edits.advanced options)
  pub left : (options : List Parameter) → AreFormed options → IsSome (target_of options)
      → route_left (edited source_route edits.advanced options) + 1 ≤ route_left options
