-- What an event line changes is there, in a text of version 2, and the event may come over what the events before leave.
use Rattle.std.proofs.Common.{◌≡◌, ℕ, true, List, [], ◌∷◌, length, slice_get, codes, Ok, IfOk, subst}
use Rattle.std.specs.Str.{bytes_eq}
use Rattle.std.proofs.lemmas.Bool.{ltb-true}
use Rattle.std.proofs.lemmas.Result.{IfOk-at_ok}
use Rattle.clnp_plan.specs.Nsap.Address.{IsAddress}
use Rattle.clnp_plan.specs.Nsap.Prefix.{IsPrefix}
use Rattle.clnp_plan.specs.Configuration.{SystemConfiguration}
use Rattle.scenario.specs.Events.{Scene, count_line, event_line, has_number}
use Rattle.clnp_plan.specs.ScenarioPlan.Plan.{ChangesInForm, HasNumber, IsOfVersion1}
use Rattle.clnp_plan.specs.ScenarioPlan.Standing.{MayCome}
use Rattle.scenario.specs.Words.{address_word, prefix_word}
use Rattle.clnp_plan.specs.declared.scenario_plan.event.Event.{Event}
use Rattle.clnp_plan.specs.declared.scenario_plan.event.Event.TheVariants.{Settle, Lose}
use Rattle.scenario.proofs.Behind.{behind_result, either_way}
use Rattle.scenario.proofs.Changed.{IsRead, change_such, ticks_such}
use Rattle.scenario.proofs.Forms.{Laws, address_formed}
use Rattle.scenario.proofs.Injected.{inject_such}
use Rattle.scenario.proofs.LiveLines.{send_such, deliver_such, restart_such, echo_such, congest_such}
use Rattle.scenario.proofs.Prefixes.{prefix_formed}

pub record IsChange (scene : Scene) (event : Event) : Type 0 where
  pub of_version : scene.version ≡ 1 → IsOfVersion1 event
  pub changes : ChangesInForm (length scene.subnets) scene.systems event
  pub may : MayCome scene.standing event

address_is : Laws → (octets : List ℕ) → IsRead address_word octets → IsAddress octets
address_is laws octets read = IfOk-at_ok IsAddress read.1 (address_formed laws read.0)

prefix_is : (digits : List ℕ) → IsRead prefix_word digits → IsPrefix digits
prefix_is digits read = IfOk-at_ok IsPrefix read.1 (prefix_formed read.0)

number_there : (systems : List SystemConfiguration) (place number : ℕ) → has_number number (slice_get systems place) ≡ true → HasNumber systems place number
number_there systems place number h system there =
    ltb-true number (length system.ports) (subst (λ found. has_number number found ≡ true) there h)

pub event_changes : Laws → (scene : Scene) (words : List (List ℕ)) → IfOk (event_line scene words) (IsChange scene)
unfolding event_line
event_changes laws scene [] = tt
event_changes laws scene (keyword ∷ words) =
    either_way (bytes_eq keyword (codes "send")) _ _ (IsChange scene)
    (send_such scene.names scene.systems words (IsChange scene) (λ system from to body ask. record { of_version = λ _. tt; changes = tt; may = tt }))
    (either_way (bytes_eq keyword (codes "deliver")) _ _ (IsChange scene)
    (deliver_such scene.names words (IsChange scene) (λ copy system. record { of_version = λ _. tt; changes = tt; may = tt }))
    (either_way (bytes_eq keyword (codes "settle")) _ _ (IsChange scene)
    (behind_result (count_line words) (λ count. Ok (Settle count)) (IsChange scene) (λ count _. record { of_version = λ _. tt; changes = tt; may = tt }))
    (either_way (bytes_eq keyword (codes "lose")) _ _ (IsChange scene)
    (behind_result (count_line words) (λ count. Ok (Lose count)) (IsChange scene) (λ count _. record { of_version = λ _. tt; changes = tt; may = tt }))
    (either_way (bytes_eq keyword (codes "tick")) _ _ (IsChange scene)
    (ticks_such scene words (IsChange scene) (λ count _. record { of_version = λ _. tt; changes = tt; may = tt })
    (λ system count is. record { of_version = λ one. absurd (is.later one); changes = tt; may = is.behind }))
    (either_way (bytes_eq keyword (codes "restart")) _ _ (IsChange scene)
    (restart_such scene.names words (IsChange scene) (λ system. record { of_version = λ _. tt; changes = tt; may = tt }))
    (either_way (bytes_eq keyword (codes "echo")) _ _ (IsChange scene)
    (echo_such scene.names words (IsChange scene) (λ system from to body. record { of_version = λ _. tt; changes = tt; may = tt }))
    (either_way (bytes_eq keyword (codes "congest")) _ _ (IsChange scene)
    (congest_such scene.names scene.systems words (IsChange scene) (λ system on. record { of_version = λ _. tt; changes = tt; may = tt }))
    (either_way (bytes_eq keyword (codes "inject")) _ _ (IsChange scene)
    (inject_such scene.subnets words (IsChange scene) (λ subnet from to octets. record { of_version = λ _. tt; changes = tt; may = tt }))
    (change_such scene keyword words (IsChange scene)
    (λ subnet mtu is. record { of_version = λ one. absurd (is.later one); changes = is.placed; may = tt })
    (λ system route is.
    record {
      of_version = λ one. absurd (is.later one);
      changes = record {
        prefix = prefix_is route.prefix is.prefix;
        next = record { snpa = address_is laws route.snpa is.snpa; title = address_is laws route.title is.title };
        there = number_there scene.systems system route.port is.number.there;
      };
      may = is.room;
    })
    (λ system prefix is. record { of_version = λ one. absurd (is.later one); changes = prefix_is prefix is.read; may = tt })
    (λ system number subnet snpa is.
    record {
      of_version = λ one. absurd (is.later one);
      changes = record { there = number_there scene.systems system number is.own.there; placed = is.on; address = address_is laws snpa is.read };
      may = (is.second, is.rival);
    }))))))))))
