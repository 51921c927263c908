-- What routers make of the options of a packet, one after another (ISO 8473, sections 6.14, 6.15 and 6.18).
use Rattle.std.specs.Prelude.{◌≡◌, ℕ, List, [], ◌∷◌}
use Rattle.clnp_plan.specs.ClnpOptions.Edits.{advanced, edited, marked, recorded}
use Rattle.clnp_plan.specs.ClnpOptions.Parameter.{Parameter, quality, recording, source_route}

-- what a router does to options: it passes a title of the source route, records a title, or says that it is congested
pub data Edit : Type 0 where
  Advances : Edit
  Records : (title : List ℕ) → Edit
  Marks : Edit

abbrev pub with_edit : Edit → List Parameter → List Parameter
with_edit Advances options = edited source_route advanced options
with_edit (Records title) options = edited recording (recorded title) options
with_edit Marks options = edited quality marked options

abbrev pub with_edits : List Edit → List Parameter → List Parameter
with_edits [] options = options
with_edits (first ∷ later) options = with_edits later (with_edit first options)

-- options are what routers made of others, by such edits alone
abbrev pub AreEdited : (before options : List Parameter) → Type 0
AreEdited before options = (edits : List Edit) × (options ≡ with_edits edits before)
