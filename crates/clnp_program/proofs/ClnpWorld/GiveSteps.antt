-- What a network of the code stands for where a copy is given.
use Rattle.std.proofs.Common.{◌≡◌, ℕ, zero, suc, ◌+◌, ◌<◌, ◌≤◌, List, [], ◌∷◌, ◌++◌, length, take, drop, get_or, map, cond, Bool, true, false, Option, Some, None, refl, sym, ap, ◌∙◌, subst, arith}
use Rattle.std.specs.Prelude.{slice_get}
use Rattle.std.specs.List.{AllByRecursion}
use Rattle.std.proofs.lemmas.Bool.{true≢false}
use Rattle.std.proofs.lemmas.List.{drop_all}
use Rattle.std.proofs.lemmas.Option.{slice_get_past, slice_get_read}
use Rattle.clnp_machine.specs.ClnpPlan.Journal.{Void, Late, Received, Lost, ForNobody}
use Rattle.clnp_machine.specs.ClnpPlan.declared.config.Limits.{Limits}
use Rattle.clnp_machine.specs.Content.{IsCarried}
use Rattle.clnp_machine.specs.System.{FrameComes, SystemState}
use Rattle.clnp_machine.specs.Step.{step}
use Rattle.clnp_machine.specs.ClnpNetwork.LabelledNetwork as network
use Rattle.clnp_program.specs.ClnpWorld.Lines.{Gains, Taken}
use Rattle.clnp_program.specs.ClnpWorld.Seen.{IsNextAddressee, IsPortFor, frame_copy, origin_of}
use Rattle.clnp_program.specs.ClnpWorld.Parts.{Shows, Holds, IsRunning, Follows}
use Rattle.clnp_program.specs.ClnpWorld.Stands.{IsMadeWithUnit}
use Rattle.clnp_program.specs.declared.clnp_world.network.Network.{Network}
use Rattle.clnp_program.specs.declared.clnp_world.network.giving.Addressee.{Addressee}
use Rattle.clnp_program.specs.declared.clnp_world.copy.FrameCopy.{FrameCopy}
use Rattle.clnp_machine.proofs.ClnpBase.Lists.{AllByRecursion-slice_get, slice_get_some}
use Rattle.clnp_machine.proofs.ClnpBase.ListSteps.{slice_get_map}
use Rattle.clnp_program.proofs.ClnpWorld.EachSteps.{each_length}
use Rattle.clnp_program.proofs.ClnpWorld.ModelSteps.{seats-give_each, copy-give_each, give_each-push}
use Rattle.clnp_program.proofs.ClnpWorld.LineSteps.{gains_more}
use Rattle.clnp_program.proofs.ClnpWorld.NextSteps.{addressees_from-drop, places_all, places_more, same_from}
use Rattle.clnp_program.proofs.ClnpWorld.PutSteps.{Born, puts_nothing, puts_line, puts_then, counted}

-- a copy of the model, at its place
pub copy_at : (code : Network) (model : network.LabelledNetwork) (at : ℕ) (seen : FrameCopy) (copy : network.Copy) → Shows code model
    → at < length code.copies.items → seen ≡ get_or code.copies.items at seen → slice_get model.copies at ≡ Some copy → seen ≡ frame_copy copy
copy_at code model at seen copy h within e there =
    let same = slice_get_read code.copies.items _ at seen refl within e in
    let one = slice_get_map frame_copy model.copies at copy there in
    let moved : slice_get (map frame_copy model.copies) at ≡ Some seen = subst (λ (cs : List FrameCopy). slice_get cs at ≡ Some seen) h.copies same in
    cc

pub carried_at : (copies : List network.Copy) (at : ℕ) (copy : network.Copy) → AllByRecursion (λ (c : network.Copy). IsCarried c.content) copies
    → slice_get copies at ≡ Some copy → IsCarried copy.content
carried_at copies at copy h e = AllByRecursion-slice_get (λ (c : network.Copy). IsCarried c.content) copies at copy e h

pub born_at : (copies : List network.Copy) (at : ℕ) (copy : network.Copy) → AllByRecursion Born copies → slice_get copies at ≡ Some copy
    → IsMadeWithUnit (origin_of copy.maker copy.birth) copy.content
born_at copies at copy h e = AllByRecursion-slice_get Born copies at copy e h

-- the code's copy comes to a system as the model's does
pub came : (copy : network.Copy) (system : SystemState) (seen : FrameCopy) (port : ℕ) (group : Bool)
    → port ≡ network.first_port copy system.configuration.role system.attached.ports → seen ≡ frame_copy copy
    → group ≡ network.is_group seen.target → FrameComes port seen.sender group copy.content ≡ network.frame_to system copy
came copy system seen port group port_is same group_is =
    let first = network.first_port copy system.configuration.role system.attached.ports in
    ap (λ (n : ℕ). FrameComes n seen.sender group copy.content) port_is
    ∙ ap (λ (b : Bool). FrameComes first seen.sender b copy.content) (group_is ∙ ap (λ (f : FrameCopy). network.is_group f.target) same)
    ∙ ap (λ (f : FrameCopy). FrameComes first f.sender (network.is_group copy.target) copy.content) same

pub system_there : (code : Network) (model : network.LabelledNetwork) (place : ℕ) → Shows code model → place < length code.systems.items
    → (system : SystemState) × (slice_get model.systems place ≡ Some system)
system_there code model place h within =
    let same = each_length code.systems.items model.systems h.systems in
    slice_get_some model.systems place (omega arith)

copy_there : (code : Network) (model : network.LabelledNetwork) (at : ℕ) → Shows code model → at < length code.copies.items
    → (copy : network.Copy) × (slice_get model.copies at ≡ Some copy)
copy_there code model at h within =
    let same = counted code model h in
    slice_get_some model.copies at (omega arith)

pub follows_nothing : (code : Network) (lines : Taken) (model : network.LabelledNetwork) → Holds code model → Follows code lines lines (network.nothing model)
follows_nothing code lines model h =
    let part = puts_nothing code model lines h.shows in record { holds = h; lines = part.lines }

pub follows_then : (code : Network) (before between after : Taken) (part : network.Step) (next : network.LabelledNetwork → network.Step)
    → Gains before between part.lines → Follows code between after (next part.world)
    → Follows code before after (network.followed_by part next)
follows_then code before between after part next e h =
    let both = puts_then code before between after part next e (record { shows = h.holds.shows; lines = h.lines }) in
    record { holds = h.holds; lines = both.lines }

-- One copy for one system.

abbrev pub numbered : ℕ → network.Copy → network.Numbered
numbered number copy = record { number = number; copy = copy }

-- a line tells by which port the copy comes to the system, and then it takes the copy in
pub hands_over : (code : Network) (before between after : Taken) (number place : ℕ) (model : network.LabelledNetwork) (copy : network.Copy) (system : SystemState)
    → Gains before between
    (Received system.moment system.configuration.name number (network.first_port copy system.configuration.role system.attached.ports) ∷ [])
    → Follows code between after (network.takes_effect model place (step system (network.frame_to system copy)))
    → Follows code before after (network.hand_to (numbered number copy) model place system)
hands_over code before between after number place model copy system line taken =
    let port = network.first_port copy system.configuration.role system.attached.ports in
    follows_then code before between after (network.writes model (Received system.moment system.configuration.name number port))
    (λ v. network.takes_effect v place (step system (network.frame_to system copy))) line taken

-- whether the copy is late
abbrev pub TellsLate : Network → Limits → ℕ → Bool → Type 0
TellsLate code limits at answer =
    (model : network.LabelledNetwork) (copy : network.Copy) → Shows code model → slice_get model.copies at ≡ Some copy
    → answer ≡ network.is_late limits model copy

pub gives_late : (code : Network) (before after : Taken) (limits : Limits) (number at place : ℕ) → place < length code.systems.items
    → TellsLate code limits at true
    → ((model : network.LabelledNetwork) (system : SystemState) → Shows code model → slice_get model.systems place ≡ Some system
    → Gains before after (Late system.moment system.configuration.name number ∷ []))
    → (model : network.LabelledNetwork) (copy : network.Copy) → Holds code model → slice_get model.copies at ≡ Some copy
    → Follows code before after (network.give limits (numbered number copy) model place)
gives_late code before after limits number at place within tells writes model copy h there =
    let system = system_there code model place h.shows within in
    let part = puts_line code before after model (Late (system.0).moment (system.0).configuration.name number) h.shows (writes model system.0 h.shows system.1) in
    subst (λ (s : Option SystemState). Follows code before after (network.give_to limits (numbered number copy) model place s)) (sym system.1)
    (subst (λ (b : Bool). Follows code before after (cond b (network.writes model (Late (system.0).moment (system.0).configuration.name number))
    (network.hand_to (numbered number copy) model place system.0))) (tells model copy h.shows there)
    record { holds = h; lines = part.lines })

pub gives_now : (old code : Network) (before after : Taken) (limits : Limits) (number at place : ℕ) → TellsLate old limits at false
    → (model : network.LabelledNetwork) (copy : network.Copy) (system : SystemState) → Holds old model → slice_get model.copies at ≡ Some copy
    → slice_get model.systems place ≡ Some system
    → Follows code before after (network.hand_to (numbered number copy) model place system)
    → Follows code before after (network.give limits (numbered number copy) model place)
gives_now old code before after limits number at place tells model copy system h there here hands =
    subst (λ (s : Option SystemState). Follows code before after (network.give_to limits (numbered number copy) model place s)) (sym here)
    (subst (λ (b : Bool). Follows code before after (cond b (network.writes model (Late system.moment system.configuration.name number))
    (network.hand_to (numbered number copy) model place system))) (tells model copy h.shows there) hands)

-- the port by which the copy comes in to the system at the place, if it is for that one
abbrev pub TellsPort : Network → ℕ → ℕ → Option ℕ → Type 0
TellsPort code at place found =
    (model : network.LabelledNetwork) (copy : network.Copy) (system : SystemState) → Shows code model → slice_get model.copies at ≡ Some copy
    → slice_get model.systems place ≡ Some system → IsPortFor copy system found

-- whether the copy is for the system at the place
abbrev pub TellsAddressee : Network → ℕ → ℕ → Bool → Type 0
TellsAddressee code at place answer =
    (model : network.LabelledNetwork) (copy : network.Copy) (system : SystemState) → Shows code model → slice_get model.copies at ≡ Some copy
    → slice_get model.systems place ≡ Some system → answer ≡ network.is_addressee copy system

pub tells_some : (code : Network) (at place port : ℕ) → TellsPort code at place (Some port) → TellsAddressee code at place true
tells_some code at place port tells model copy system h there here = (tells model copy system h there here).0

pub tells_none : (code : Network) (at place : ℕ) → TellsPort code at place None → TellsAddressee code at place false
tells_none code at place tells model copy system h there here = tells model copy system h there here

-- what was done to give the copy by a port
abbrev pub GivesBy : Network → Network → Taken → Taken → Limits → (number at place port : ℕ) → Type 0
GivesBy old code before after limits number at place port =
    (model : network.LabelledNetwork) (copy : network.Copy) (system : SystemState) → Holds old model → slice_get model.copies at ≡ Some copy
    → slice_get model.systems place ≡ Some system
    → port ≡ network.first_port copy system.configuration.role system.attached.ports
    → Follows code before after (network.give limits (numbered number copy) model place)

-- it is the least port by which the copy comes in to the system at the place
abbrev pub IsPortAt : Network → (at place port : ℕ) → Type 0
IsPortAt code at place port =
    (model : network.LabelledNetwork) (copy : network.Copy) (system : SystemState) → Shows code model → slice_get model.copies at ≡ Some copy
    → slice_get model.systems place ≡ Some system → port ≡ network.first_port copy system.configuration.role system.attached.ports

pub port_told : (code : Network) (at place port : ℕ) → TellsPort code at place (Some port) → IsPortAt code at place port
port_told code at place port tells model copy system h there here = (tells model copy system h there here).1

pub gives_by : (old code : Network) (before after : Taken) (limits : Limits) (number at place port : ℕ) → place < length old.systems.items
    → IsPortAt old at place port → GivesBy old code before after limits number at place port
    → (model : network.LabelledNetwork) (copy : network.Copy) → Holds old model → slice_get model.copies at ≡ Some copy
    → Follows code before after (network.give limits (numbered number copy) model place)
gives_by old code before after limits number at place port within is gives model copy h there =
    let system = system_there old model place h.shows within in
    gives model copy system.0 h there system.1 (is model copy system.0 h.shows there system.1)

-- The next addressee of a copy.

-- none of the systems from a place to another is one that the copy is for
abbrev pub Skips : Network → (at from place : ℕ) → Type 0
Skips code at from place =
    (model : network.LabelledNetwork) (copy : network.Copy) → Shows code model → slice_get model.copies at ≡ Some copy
    → network.addressees_from from copy (drop from model.systems) ≡ network.addressees_from place copy (drop place model.systems)

-- what is told of the next one
abbrev pub TellsNext : Network → (at from : ℕ) → Option Addressee → Type 0
TellsNext code at from found =
    (model : network.LabelledNetwork) (copy : network.Copy) → Shows code model → slice_get model.copies at ≡ Some copy
    → IsNextAddressee copy model.systems from found

pub next_port : (code : Network) (at from : ℕ) (next : Addressee) → TellsNext code at from (Some next) → IsPortAt code at next.place next.port
next_port code at from next tells model copy system h there here = (tells model copy h there).1 system here

pub skips_nothing : (code : Network) (at from : ℕ) → Skips code at from from
skips_nothing code at from model copy h there = refl

-- one more system is looked at
skips_then : (code : Network) (at from place : ℕ) (answer : Bool) → Skips code at from place → place < length code.systems.items
    → TellsAddressee code at place answer
    → (model : network.LabelledNetwork) (copy : network.Copy) → Shows code model → slice_get model.copies at ≡ Some copy
    → network.addressees_from from copy (drop from model.systems)
    ≡ cond answer (place ∷ network.addressees_from (place + 1) copy (drop (place + 1) model.systems))
    (network.addressees_from (place + 1) copy (drop (place + 1) model.systems))
skips_then code at from place answer so_far within tells model copy h there =
    let system = system_there code model place h within in
    let others = network.addressees_from (place + 1) copy (drop (place + 1) model.systems) in
    so_far model copy h there ∙ addressees_from-drop copy model.systems place system.0 system.1
    ∙ ap (λ (b : Bool). cond b (place ∷ others) others) (sym (tells model copy system.0 h there system.1))

pub skips_more : (code : Network) (at from place : ℕ) → Skips code at from place → place < length code.systems.items
    → TellsPort code at place None → Skips code at from (place + 1)
skips_more code at from place so_far within tells =
    skips_then code at from place false so_far within (tells_none code at place tells)

pub finds_next : (code : Network) (at from place port : ℕ) → Skips code at from place → place < length code.systems.items
    → TellsPort code at place (Some port) → TellsNext code at from (Some (record { place = place; port = port }))
finds_next code at from place port so_far within tells model copy h there = (
  skips_then code at from place true so_far within (tells_some code at place port tells) model copy h there,
  λ system here. (tells model copy system h there here).1,
)

pub finds_none : (code : Network) (at from place : ℕ) → Skips code at from place → length code.systems.items ≤ place
    → TellsNext code at from None
finds_none code at from place so_far past model copy h there =
    let same = each_length code.systems.items model.systems h.systems in
    so_far model copy h there
    ∙ ap (λ (ss : List SystemState). network.addressees_from place copy ss) (drop_all place model.systems (omega arith))

-- One copy for each of its addressees.

-- what the code has given of a copy, to the systems below a place, is what the model has
abbrev pub Gives : Network → Network → Taken → Taken → Limits → ℕ → ℕ → Type 0
Gives start code before after limits at place =
    (model : network.LabelledNetwork) (copy : network.Copy) → Holds start model → slice_get model.copies at ≡ Some copy
    → Follows code before after (network.give_each limits (numbered (at + 1) copy) model (network.addressees_from 0 copy (take place model.systems)))

pub gives_none : (code : Network) (lines : Taken) (limits : Limits) (at : ℕ) → Gives code code lines lines limits at 0
gives_none code lines limits at model copy h there = follows_nothing code lines model h

-- while it is given, the network stands for one of the model
pub still_running : (start code : Network) (before after : Taken) (limits : Limits) (at place : ℕ) → IsRunning start → at < length start.copies.items
    → Gives start code before after limits at place → IsRunning code
still_running start code before after limits at place running within so_far =
    let model = running.0 in
    let copy = copy_there start model at running.1.shows within in
    let part = so_far model copy.0 running.1 copy.1 in
    ((network.give_each limits (numbered (at + 1) copy.0) model (network.addressees_from 0 copy.0 (take place model.systems))).world, part.holds)

-- the system at a place is the next one that the copy is for, behind those below another
abbrev pub LeadsTo : Network → (at from place : ℕ) → Type 0
LeadsTo start at from place =
    (model : network.LabelledNetwork) (copy : network.Copy) → Holds start model → slice_get model.copies at ≡ Some copy
    → network.addressees_from 0 copy (take (place + 1) model.systems) ≡ network.addressees_from 0 copy (take from model.systems) ++ place ∷ []

-- the copy is for none but those below a place
abbrev pub LeadsNowhere : Network → (at from : ℕ) → Type 0
LeadsNowhere start at from =
    (model : network.LabelledNetwork) (copy : network.Copy) → Holds start model → slice_get model.copies at ≡ Some copy
    → network.addressees_from 0 copy (take from model.systems) ≡ network.addressees_from 0 copy model.systems

-- what is next when those before have the copy was next at the start
pub leads_to : (start mid : Network) (before between : Taken) (limits : Limits) (at from : ℕ) (next : Addressee)
    → Gives start mid before between limits at from → TellsNext mid at from (Some next) → LeadsTo start at from next.place
leads_to start mid before between limits at from next so_far tells model copy h there =
    let given = numbered (at + 1) copy in
    let ps = network.addressees_from 0 copy (take from model.systems) in
    let w = network.give_each limits given model ps in
    let part = so_far model copy h there in
    let seats = seats-give_each limits given model ps in
    let told = tells w.world copy part.holds.shows (copy-give_each limits given model ps at copy there) in
    places_more from next.place copy model.systems
    (sym (same_from from copy w.world.systems model.systems seats) ∙ told.0
    ∙ ap (λ (qs : List ℕ). next.place ∷ qs) (same_from (next.place + 1) copy w.world.systems model.systems seats))

pub leads_nowhere : (start mid : Network) (before between : Taken) (limits : Limits) (at from : ℕ)
    → Gives start mid before between limits at from → TellsNext mid at from None → LeadsNowhere start at from
leads_nowhere start mid before between limits at from so_far tells model copy h there =
    let given = numbered (at + 1) copy in
    let ps = network.addressees_from 0 copy (take from model.systems) in
    let w = network.give_each limits given model ps in
    let part = so_far model copy h there in
    places_all from copy model.systems
    (sym (same_from from copy w.world.systems model.systems (seats-give_each limits given model ps))
    ∙ tells w.world copy part.holds.shows (copy-give_each limits given model ps at copy there))

pub gives_more : (start mid code : Network) (before between after : Taken) (limits : Limits) (at from place : ℕ)
    → Gives start mid before between limits at from → LeadsTo start at from place
    → ((model : network.LabelledNetwork) (copy : network.Copy) → Holds mid model → slice_get model.copies at ≡ Some copy
    → Follows code between after (network.give limits (numbered (at + 1) copy) model place))
    → Gives start code before after limits at (place + 1)
gives_more start mid code before between after limits at from place so_far leads next model copy h there =
    let given = numbered (at + 1) copy in
    let ps = network.addressees_from 0 copy (take from model.systems) in
    let w = network.give_each limits given model ps in
    let front = so_far model copy h there in
    subst (λ (s : network.Step). Follows code before after s)
    (sym (give_each-push limits given model ps place)
    ∙ ap (λ (qs : List ℕ). network.give_each limits given model qs) (sym (leads model copy h there)))
    (follows_then code before between after w (λ v. network.give limits given v place) front.lines
    (next w.world copy front.holds (copy-give_each limits given model ps at copy there)))

pub gives_all : (start code : Network) (before after : Taken) (limits : Limits) (at from : ℕ)
    → Gives start code before after limits at from → LeadsNowhere start at from
    → (model : network.LabelledNetwork) (copy : network.Copy) → Holds start model → slice_get model.copies at ≡ Some copy
    → Follows code before after (network.give_each limits (numbered (at + 1) copy) model (network.addressees_from 0 copy model.systems))
gives_all start code before after limits at from so_far all model copy h there =
    subst (λ (ps : List ℕ). Follows code before after (network.give_each limits (numbered (at + 1) copy) model ps))
    (all model copy h there) (so_far model copy h there)

-- Whether a copy was given to some system.

abbrev pub is_any : List ℕ → Bool
is_any [] = false
is_any (place ∷ places) = true

any_last : (places : List ℕ) (place : ℕ) → is_any (places ++ place ∷ []) ≡ true
any_last [] place = refl
any_last (first ∷ places) place = refl

-- whether the copy is for some of the systems below a place
abbrev pub TellsGiven : Network → ℕ → ℕ → Bool → Type 0
TellsGiven start at place answer =
    (model : network.LabelledNetwork) (copy : network.Copy) → Holds start model → slice_get model.copies at ≡ Some copy
    → answer ≡ is_any (network.addressees_from 0 copy (take place model.systems))

pub given_none : (start : Network) (at : ℕ) → TellsGiven start at 0 false
given_none start at model copy h there = refl

pub given_more : (start : Network) (at from place : ℕ) → LeadsTo start at from place → TellsGiven start at (place + 1) true
given_more start at from place leads model copy h there =
    sym (ap is_any (leads model copy h there) ∙ any_last (network.addressees_from 0 copy (take from model.systems)) place)

given_all : (start : Network) (at from : ℕ) (answer : Bool) → TellsGiven start at from answer → LeadsNowhere start at from
    → (model : network.LabelledNetwork) (copy : network.Copy) → Holds start model → slice_get model.copies at ≡ Some copy
    → answer ≡ is_any (network.addressees_from 0 copy model.systems)
given_all start at from answer given all model copy h there = given model copy h there ∙ ap is_any (all model copy h there)

settled_some : (limits : Limits) (given : network.Numbered) (model : network.LabelledNetwork) (places : List ℕ) → true ≡ is_any places
    → network.settle_for limits given model places ≡ network.give_each limits given model places
settled_some limits given model [] is = absurd (true≢false is)
settled_some limits given model (place ∷ places) is = refl

none_there : (places : List ℕ) → false ≡ is_any places → places ≡ []
none_there [] is = refl
none_there (place ∷ places) is = absurd (true≢false (sym is))

-- what a settling comes to
abbrev pub Settles : Network → Network → Taken → Taken → Limits → ℕ → Type 0
Settles start code before after limits at =
    (model : network.LabelledNetwork) (copy : network.Copy) → Holds start model → slice_get model.copies at ≡ Some copy
    → Follows code before after (network.settle_for limits (numbered (at + 1) copy) model (network.addressees_from 0 copy model.systems))

-- the copy was given to some system
pub settles_some : (start code : Network) (before after : Taken) (limits : Limits) (at from : ℕ) → Gives start code before after limits at from
    → TellsGiven start at from true → LeadsNowhere start at from → Settles start code before after limits at
settles_some start code before after limits at from so_far given all model copy h there =
    let places = network.addressees_from 0 copy model.systems in
    subst (λ (s : network.Step). Follows code before after s)
    (sym (settled_some limits (numbered (at + 1) copy) model places (given_all start at from true given all model copy h there)))
    (gives_all start code before after limits at from so_far all model copy h there)

-- the copy was given to none, and a line is written that says so
pub settles_none : (start code : Network) (before between after : Taken) (limits : Limits) (at from : ℕ)
    → Gives start code before between limits at from → TellsGiven start at from false → LeadsNowhere start at from
    → Gains between after (ForNobody code.clock (at + 1) ∷ []) → Settles start code before after limits at
settles_none start code before between after limits at from so_far given all line model copy h there =
    let number = at + 1 in
    let places = network.addressees_from 0 copy model.systems in
    let none = none_there places (given_all start at from false given all model copy h there) in
    let front : Follows code before between (network.nothing model)
    = subst (λ (ps : List ℕ). Follows code before between (network.give_each limits (numbered number copy) model ps)) none
    (gives_all start code before between limits at from so_far all model copy h there) in
    let told = subst (λ (now : ℕ). Gains between after (ForNobody now number ∷ [])) front.holds.shows.clock line in
    subst (λ (ps : List ℕ). Follows code before after (network.settle_for limits (numbered number copy) model ps)) (sym none)
    record { holds = front.holds; lines = gains_more before between after [] (ForNobody model.clock number ∷ []) front.lines told }

-- The copy at the cursor.

pub moves_on : (code : Network) (model : network.LabelledNetwork) → Holds code model
    → Holds (record code { cursor = code.cursor + 1 }) (record model { cursor = model.cursor + 1 })
moves_on code model h = record {
  shows = record {
    clock = h.shows.clock;
    systems = h.shows.systems;
    mtus = h.shows.mtus;
    wide = h.shows.wide;
    copies = h.shows.copies;
    cursor = ap (λ (n : ℕ). n + 1) h.shows.cursor;
    carried = h.shows.carried;
    born = h.shows.born;
    short = h.shows.short;
    weight = h.shows.weight;
    placed = h.shows.placed;
  };
  behind = h.behind;
}

-- the copy at the cursor is given
pub settles : (old code : Network) (before after : Taken) (limits : Limits) → old.cursor < length old.copies.items
    → ((model : network.LabelledNetwork) (copy : network.Copy) → Holds (record old { cursor = old.cursor + 1 }) model → slice_get model.copies old.cursor ≡ Some copy
    → Follows code before after (network.settle_for limits (numbered (old.cursor + 1) copy) model (network.addressees_from 0 copy model.systems)))
    → (model : network.LabelledNetwork) → Holds old model → Follows code before after (network.settle_one limits model)
settles old code before after limits within next model h =
    let copy = copy_there old model old.cursor h.shows within in
    let at : slice_get model.copies model.cursor ≡ Some copy.0 = subst (λ (n : ℕ). slice_get model.copies n ≡ Some copy.0) h.shows.cursor copy.1 in
    let w : network.LabelledNetwork = record model { cursor = model.cursor + 1 } in
    subst (λ (c : Option network.Copy). Follows code before after (network.settle_copy limits model c)) (sym at)
    (subst (λ (n : ℕ). Follows code before after (network.settle_for limits (numbered (n + 1) copy.0) w (network.addressees_from 0 copy.0 model.systems)))
    h.shows.cursor (next w copy.0 (moves_on old model h) copy.1))

-- no copy is left to settle
pub settles_no_copy : (code : Network) (lines : Taken) (limits : Limits) → length code.copies.items ≤ code.cursor
    → (model : network.LabelledNetwork) → Holds code model → Follows code lines lines (network.settle_one limits model)
settles_no_copy code lines limits past model h =
    let same = counted code model h.shows in
    let none : slice_get model.copies model.cursor ≡ None = slice_get_past model.copies model.cursor (omega (arith, h.shows.cursor)) in
    subst (λ (c : Option network.Copy). Follows code lines lines (network.settle_copy limits model c)) (sym none) (follows_nothing code lines model h)

-- no copy is left to lose
pub loses_none : (code : Network) (lines : Taken) → length code.copies.items ≤ code.cursor
    → (model : network.LabelledNetwork) → Holds code model → Follows code lines lines (network.lose_one model)
loses_none code lines past model h =
    let same = counted code model h.shows in
    let none : slice_get model.copies model.cursor ≡ None = slice_get_past model.copies model.cursor (omega (arith, h.shows.cursor)) in
    subst (λ (c : Option network.Copy). Follows code lines lines (network.lose_copy model c)) (sym none) (follows_nothing code lines model h)

-- the copy at the cursor is lost
pub loses : (old : Network) (before after : Taken) → old.cursor < length old.copies.items
    → Gains before after (Lost old.clock (old.cursor + 1) ∷ [])
    → (model : network.LabelledNetwork) → Holds old model → Follows (record old { cursor = old.cursor + 1 }) before after (network.lose_one model)
loses old before after within line model h =
    let code : Network = record old { cursor = old.cursor + 1 } in
    let copy = copy_there old model old.cursor h.shows within in
    let at : slice_get model.copies model.cursor ≡ Some copy.0 = subst (λ (n : ℕ). slice_get model.copies n ≡ Some copy.0) h.shows.cursor copy.1 in
    let told : Gains before after (Lost model.clock (model.cursor + 1) ∷ [])
    = subst (λ (now : ℕ). Gains before after (Lost now (model.cursor + 1) ∷ [])) h.shows.clock
    (subst (λ (n : ℕ). Gains before after (Lost old.clock (n + 1) ∷ [])) h.shows.cursor line) in
    subst (λ (c : Option network.Copy). Follows code before after (network.lose_copy model c)) (sym at)
    record { holds = moves_on old model h; lines = told }

-- A copy that is named by its number.

delivered : (limits : Limits) (model : network.LabelledNetwork) (number place : ℕ) (system : SystemState) (found : Option network.Copy)
    → slice_get model.systems place ≡ Some system → network.copy_numbered number model.copies ≡ found
    → network.deliver limits model number place ≡ network.deliver_to limits model number place found system
delivered limits model number place system found here there =
    ap (λ (s : Option SystemState). network.deliver_at limits model number place s) here
    ∙ ap (λ (c : Option network.Copy). network.deliver_to limits model number place c system) there

-- a copy is at the place before its number
numbered_at : (copies : List network.Copy) (number at : ℕ) (found : Option network.Copy) → number ≡ suc at → slice_get copies at ≡ found
    → network.copy_numbered number copies ≡ found
numbered_at copies number at found is there = ap (λ (n : ℕ). network.copy_numbered n copies) is ∙ there

-- there is none with a number that none of the places is before
none_numbered : (copies : List network.Copy) (number : ℕ) → ((at : ℕ) → number ≡ suc at → length copies ≤ at) → network.copy_numbered number copies ≡ None
none_numbered copies zero past = refl
none_numbered copies (suc at) past = slice_get_past copies at (past at refl)

-- the line of a copy that isn't there for the system at the place is written
abbrev pub WritesVoid : Network → Taken → Taken → ℕ → ℕ → Type 0
WritesVoid code before after number place =
    (model : network.LabelledNetwork) (system : SystemState) → Shows code model → slice_get model.systems place ≡ Some system
    → Gains before after (Void system.moment system.configuration.name number ∷ [])

void_follows : (code : Network) (before after : Taken) (number place : ℕ) (model : network.LabelledNetwork) (system : SystemState)
    → WritesVoid code before after number place → Holds code model → slice_get model.systems place ≡ Some system
    → Follows code before after (network.is_void model system number)
void_follows code before after number place model system writes h here =
    let part = puts_line code before after model (Void system.moment system.configuration.name number) h.shows (writes model system h.shows here) in
    record { holds = h; lines = part.lines }

-- there is no system at the place
pub delivers_nowhere : (code : Network) (lines : Taken) (limits : Limits) (number place : ℕ) → length code.systems.items ≤ place
    → (model : network.LabelledNetwork) → Holds code model → Follows code lines lines (network.deliver limits model number place)
delivers_nowhere code lines limits number place past model h =
    let same = each_length code.systems.items model.systems h.shows.systems in
    let none : slice_get model.systems place ≡ None = slice_get_past model.systems place (omega arith) in
    subst (λ (s : Option SystemState). Follows code lines lines (network.deliver_at limits model number place s)) (sym none)
    (follows_nothing code lines model h)

-- there is no such copy
pub delivers_none : (code : Network) (before after : Taken) (limits : Limits) (number place : ℕ) → place < length code.systems.items
    → ((at : ℕ) → number ≡ suc at → length code.copies.items ≤ at) → WritesVoid code before after number place
    → (model : network.LabelledNetwork) → Holds code model → Follows code before after (network.deliver limits model number place)
delivers_none code before after limits number place within past writes model h =
    let system = system_there code model place h.shows within in
    let same = counted code model h.shows in
    let none : network.copy_numbered number model.copies ≡ None =
    none_numbered model.copies number (λ at is. let beyond = past at is in omega arith) in
    subst (λ (s : network.Step). Follows code before after s) (sym (delivered limits model number place system.0 None system.1 none))
    (void_follows code before after number place model system.0 writes h system.1)

-- the copy isn't for the system
pub delivers_other : (code : Network) (before after : Taken) (limits : Limits) (number at place : ℕ) → number ≡ suc at → place < length code.systems.items
    → at < length code.copies.items → TellsAddressee code at place false → WritesVoid code before after number place
    → (model : network.LabelledNetwork) → Holds code model → Follows code before after (network.deliver limits model number place)
delivers_other code before after limits number at place at_is within within' tells writes model h =
    let system = system_there code model place h.shows within in
    let copy = copy_there code model at h.shows within' in
    let no : false ≡ network.is_addressee copy.0 system.0 = tells model copy.0 system.0 h.shows copy.1 system.1 in
    subst (λ (s : network.Step). Follows code before after s) (sym (delivered limits model number place system.0 (Some copy.0) system.1
    (numbered_at model.copies number at (Some copy.0) at_is copy.1)))
    (subst (λ (b : Bool). Follows code before after (cond b (network.give limits (numbered number copy.0) model place) (network.is_void model system.0 number))) no
    (void_follows code before after number place model system.0 writes h system.1))

-- the copy is for the system
pub delivers : (old code : Network) (before after : Taken) (limits : Limits) (number at place : ℕ) → number ≡ suc at → place < length old.systems.items
    → at < length old.copies.items → TellsAddressee old at place true
    → ((model : network.LabelledNetwork) (copy : network.Copy) → Holds old model → slice_get model.copies at ≡ Some copy
    → Follows code before after (network.give limits (numbered number copy) model place))
    → (model : network.LabelledNetwork) → Holds old model → Follows code before after (network.deliver limits model number place)
delivers old code before after limits number at place at_is within within' tells gives model h =
    let system = system_there old model place h.shows within in
    let copy = copy_there old model at h.shows within' in
    let yes : true ≡ network.is_addressee copy.0 system.0 = tells model copy.0 system.0 h.shows copy.1 system.1 in
    subst (λ (s : network.Step). Follows code before after s) (sym (delivered limits model number place system.0 (Some copy.0) system.1
    (numbered_at model.copies number at (Some copy.0) at_is copy.1)))
    (subst (λ (b : Bool). Follows code before after (cond b (network.give limits (numbered number copy.0) model place) (network.is_void model system.0 number))) yes
    (gives model copy.0 h copy.1))
