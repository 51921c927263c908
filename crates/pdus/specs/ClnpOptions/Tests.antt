-- The tests of the rules by name.
use Rattle.std.specs.Prelude.{Bool}
use Rattle.pdus.specs.ClnpOptions.Parameter.{Parameter}
use Rattle.pdus.specs.ClnpOptions.Rules.{is_unknown, has_bad_security, has_bad_route, has_bad_form, is_reason}
use Rattle.pdus.specs.declared.clnp_options.form.Test.{Test}
use Rattle.pdus.specs.declared.clnp_options.form.Test.TheVariants.{Unknown, Security, Route, Form, Reason}

abbrev pub test_of : Test → Parameter → Bool
test_of Unknown option = is_unknown option
test_of Security option = has_bad_security option
test_of Route option = has_bad_route option
test_of Form option = has_bad_form option
test_of Reason option = is_reason option
