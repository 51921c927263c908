-- What an option's value must have so that it can be read by its kind.
use Rattle.std.specs.Prelude.{Bool, ◌||◌, not, List}
use Rattle.std.specs.List.{list_all}
use Rattle.pdus.specs.ClnpOptions.Parameter.{Parameter}
use Rattle.pdus.specs.ClnpOptions.Rules.{is_unknown, has_bad_security, has_bad_route, has_bad_form}

-- an option that no rule for one option picks
unfoldable pub is_readable : Parameter → Bool
is_readable option = not (is_unknown option || has_bad_security option || has_bad_route option || has_bad_form option)

unfoldable pub are_readable : List Parameter → Bool
are_readable options = list_all is_readable options
