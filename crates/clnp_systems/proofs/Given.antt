-- What a system of either role gives out, whatever came to it.
use Rattle.std.proofs.Common.{ℕ, List, Some}
use Rattle.clnp_machine.specs.ClnpPlan.declared.config.Role.{Role}
use Rattle.clnp_machine.specs.ClnpPlan.declared.config.Role.TheVariants.{Host, Router}
use Rattle.clnp_machine.specs.ClnpPlan.declared.output.Output.{Output}
use Rattle.clnp_machine.specs.Content.{Content}
use Rattle.clnp_machine.specs.Given.{Appends}
use Rattle.clnp_machine.specs.System as machine
use Rattle.clnp_machine.proofs.Given.{appends_whatever_came}
use Rattle.clnp_systems.specs.Steps.{AppendsOf, input_with}
use Rattle.clnp_systems.specs.declared.input.Input.{Input}
use Rattle.clnp_systems.specs.declared.input.Input.TheVariants.{Moment, Frame, Send, Echo, Restart, Congest}

-- it is what a system gives out where a frame came
pub gives_any : (input : Input) (role : Role) (content : Content) (moment : ℕ) (before after : List Output) (others : List machine.Output)
    → AppendsOf (input_with content input) role moment before after others → Appends moment (Some content) before after others
gives_any (Moment now) role content moment before after others h = appends_whatever_came moment content before after others h
gives_any (Frame port from group frame) Host content moment before after others h = appends_whatever_came moment content before after others h
gives_any (Frame port from group frame) Router content moment before after others h = h
gives_any (Send from to body ask) role content moment before after others h = appends_whatever_came moment content before after others h
gives_any (Echo from to body) role content moment before after others h = appends_whatever_came moment content before after others h
gives_any Restart role content moment before after others h = appends_whatever_came moment content before after others h
gives_any (Congest on) role content moment before after others h = appends_whatever_came moment content before after others h
