use Rattle.std.proofs.Common.{◌≡◌, ◌≢◌, ◌∙◌, ℕ, Option, Some, None, ap, refl}
use Rattle.std.specs.Prelude.{slice_get}
use Rattle.std.proofs.lemmas.Option.{slice_get_within}
use Rattle.clnp_plan.proofs.ClnpBase.Lists.{slice_get-set, slice_get-set_other}
use Rattle.clnp_plan.specs.declared.config.PortConfig.{PortConfig}
use Rattle.clnp_machine.specs.Attachment.{Attachment}
use Rattle.clnp_machine.specs.Change.{ports_taking, with_mtu}
use Rattle.clnp_machine.proofs.Keeping.{same_number, taken_at}
use Rattle.clnp_machine.proofs.attaching.each_port_is_where_it_is_put.Goals as goal

pub returns-clause-moved : goal.returns-clause-moved
returns-clause-moved c = λ a number port within. slice_get-set a.ports number port within

pub returns-clause-resized : goal.returns-clause-resized
returns-clause-resized c = λ a number mtu port there.
    ap (λ ports. slice_get ports number) (taken_at a.ports number mtu port there)
    ∙ slice_get-set a.ports number (with_mtu mtu port) (slice_get_within a.ports number port there)

pub returns-clause-others_moved : goal.returns-clause-others_moved
returns-clause-others_moved c = λ a number other port differ. slice_get-set_other a.ports number other port differ

pub returns-clause-others_resized : goal.returns-clause-others_resized
returns-clause-others_resized c = λ a number other mtu differ. go a number other mtu differ (slice_get a.ports number)
  where
    go : (a : Attachment) (number other mtu : ℕ) → number ≢ other → (found : Option PortConfig)
        → slice_get (ports_taking number mtu found a.ports) other ≡ slice_get a.ports other
    go a number other mtu differ None = refl
    go a number other mtu differ (Some port) = slice_get-set_other a.ports number other (with_mtu mtu port) differ

pub returns-clause-number : goal.returns-clause-number
returns-clause-number c = same_number
