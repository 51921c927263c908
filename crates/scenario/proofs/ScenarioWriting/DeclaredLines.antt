-- What each line of declarations gives, and many lines one after another.
use Rattle.std.proofs.Common.{◌≡◌, ℕ, zero, suc, ◌+◌, ◌*◌, ◌<◌, true, false, List, [], ◌∷◌, ◌++◌, length, slice_get, codes, Some, Ok, refl, sym, ap, ◌∙◌, subst, arith, append_assoc}
use Rattle.std.specs.List.{AllByRecursion, flat_map}
use Rattle.std.specs.Fmt.{decimal}
use Rattle.clnp_plan.specs.ClnpBase.Text.{lines_of, words_of, decimal_of, is_skipped}
use Rattle.clnp_plan.specs.Journal.{line_of}
use Rattle.scenario.specs.ScenarioWriting.Canonical.{skew_words}
use Rattle.scenario.specs.Words.{is_name, declared_word, number_within, number_word, address_word, prefix_word, is_digits, is_taken}
use Rattle.scenario.specs.Declarations.{Declarations, DeclaredSystem, nothing_declared, subnet_names, system_names, with_address, with_port, with_route, takes_address, takes_port, takes_route, has_port, has_numbered, has_route, is_router_at, snpas_on, mtu_at, limits_words, limits_line, subnet_line, role_word, setting_words, system_line, address_line, port_line, route_line, declaration_line}
use Rattle.clnp_plan.specs.ScenarioPlan.Standing.{changed_at, is_among}
use Rattle.scenario.specs.Grammar.{declarations_from}
use Rattle.std.proofs.lemmas.Bool.{le-leb, lt-ltb}
use Rattle.std.proofs.lemmas.List.{append-nil}
use Rattle.clnp_plan.specs.SystemTables.declared.forwarding.route.Route.{Route}
use Rattle.clnp_plan.specs.Configuration.{AreLimits, IsWithin}
use Rattle.clnp_plan.specs.declared.config.Limits.{Limits}
use Rattle.clnp_plan.specs.declared.config.PortConfig.{PortConfig}
use Rattle.clnp_plan.specs.declared.config.Role.{Role}
use Rattle.scenario.specs.Words.{each_once}
use Rattle.scenario.specs.Declarations.{key_of, settings_of}
use Rattle.scenario.specs.declared.setting.Setting.{Setting}
use Rattle.scenario.proofs.ScenarioWriting.WrittenSettings.{number_is_read}
use Rattle.scenario.proofs.ScenarioWriting.Written.{IsWord, line_read, line_not_skipped, text_of_line, words_of-line}

-- ---- lines

-- the declarations of a text become others where a later line of it begins, whatever the number of the first
abbrev pub GoesOn : Declarations → List ℕ → Declarations → List ℕ → Type 0
GoesOn d text e rest = (n : ℕ) → (m : ℕ) × (declarations_from n d (lines_of text) ≡ declarations_from m e (lines_of rest))

pub stays : (d : Declarations) (text : List ℕ) → GoesOn d text d text
stays d text n = (n, refl)

pub goes_through : (d e f : Declarations) (first second third : List ℕ) → GoesOn d first e second → GoesOn e second f third → GoesOn d first f third
goes_through d e f first second third p q n =
    let one = p n in
    let two = q one.0 in
    (two.0, one.1 ∙ two.1)

line_at : (n : ℕ) (d e : Declarations) (line : List ℕ) (lines : List (List ℕ)) (keyword word : List ℕ) (words : List (List ℕ)) → is_skipped line ≡ false
    → words_of line ≡ keyword ∷ word ∷ words → declaration_line d (keyword ∷ word ∷ words) ≡ Ok e
    → declarations_from n d (line ∷ lines) ≡ declarations_from (n + 1) e lines
line_at n d e line lines keyword word words kept are declares = rw (kept, are, declares) refl

-- a line that declares something
pub line_goes : (d e : Declarations) (keyword word : List ℕ) (words : List (List ℕ)) (rest : List ℕ)
    → IsWord keyword → is_skipped keyword ≡ false → AllByRecursion IsWord (word ∷ words)
    → declaration_line d (keyword ∷ word ∷ words) ≡ Ok e → GoesOn d (line_of keyword (word ∷ words) ++ rest) e rest
line_goes d e keyword word words rest is kept are declares n = (
  n + 1,
  ap (declarations_from n d) (line_read keyword (word ∷ words) rest is are)
      ∙ line_at n d e (text_of_line keyword (word ∷ words)) (lines_of rest) keyword word words (line_not_skipped keyword (word ∷ words) is kept)
      (words_of-line keyword (word ∷ words) is are) declares,
)

-- lines of one list after another, each of which adds its own to what is declared
module _ {X : Type 0} (state : (front behind : List X) → Declarations) (text_of : X → List ℕ) (all : List X)
    (each : (front behind : List X) (x : X) (rest : List ℕ) → all ≡ front ++ x ∷ behind
    → GoesOn (state front (x ∷ behind)) (text_of x ++ rest) (state (front ++ x ∷ []) behind) rest) where
  pub lines_go : (front behind : List X) (rest : List ℕ) → all ≡ front ++ behind → GoesOn (state front behind) (flat_map text_of behind ++ rest) (state all []) rest
  lines_go front [] rest is =
      subst (λ xs. GoesOn (state front []) rest (state xs []) rest) (sym (is ∙ append-nil front)) (stays (state front []) rest)
  lines_go front (x ∷ behind) rest is =
      let more : List ℕ = flat_map text_of behind ++ rest in
      subst (λ text. GoesOn (state front (x ∷ behind)) text (state all []) rest) (sym (append_assoc (text_of x) (flat_map text_of behind) rest))
      (goes_through (state front (x ∷ behind)) (state (front ++ x ∷ []) behind) (state all []) (text_of x ++ more) more rest
      (each front behind x more is)
      (lines_go (front ++ x ∷ []) behind rest (is ∙ sym (append_assoc front (x ∷ []) behind))))

-- ---- what each line gives

limits_read : (version : ℕ) (words : List (List ℕ)) (skew_word : List ℕ) (limits : Limits) → AreLimits limits
    → limits_words version words ≡ Some (decimal limits.age, decimal limits.hold, decimal limits.reuse, skew_word) → number_word 0 4096 skew_word ≡ Ok limits.skew
    → declaration_line (nothing_declared version) (codes "limits" ∷ words) ≡ Ok (record (nothing_declared version) { limits = Some limits })
unfolding declaration_line limits_line
limits_read version words skew_word limits are cut skew =
    rw (
      cut,
      number_is_read 1 4096 limits.age (omega arith) are.age,
      number_is_read 1 255 limits.hold (omega arith) are.hold,
      number_is_read 1 16384 limits.reuse (omega arith) are.reuse,
      skew,
      le-leb (limits.age + limits.hold + 2 * limits.skew) limits.reuse are.rests,
    ) refl

-- the words of the limits in a text of a version
abbrev pub limits_said : (version : ℕ) → Limits → List (List ℕ)
limits_said version limits = decimal limits.age ∷ decimal limits.hold ∷ decimal limits.reuse ∷ skew_words version limits.skew

no_skew_read : (skew : ℕ) → skew ≡ 0 → number_word 0 4096 (codes "0") ≡ Ok skew
no_skew_read skew none = rw none refl

pub limits_given : (version : ℕ) (limits : Limits) → IsWithin 1 2 version → AreLimits limits → (version ≡ 1 → limits.skew ≡ 0)
    → declaration_line (nothing_declared version) (codes "limits" ∷ limits_said version limits) ≡ Ok (record (nothing_declared version) { limits = Some limits })
limits_given zero limits within are together = absurd (omega (arith, within.least))
limits_given (suc zero) limits within are together =
    limits_read 1 (limits_said 1 limits) (codes "0") limits are refl (no_skew_read limits.skew (together refl))
limits_given (suc (suc zero)) limits within are together =
    limits_read 2 (limits_said 2 limits) (decimal limits.skew) limits are refl
    (number_is_read 0 4096 limits.skew (omega arith) are.skew)
limits_given (suc (suc (suc version))) limits within are together = absurd (omega (arith, within.most))

pub subnet_given : (d : Declarations) (name word : List ℕ) (mtu : ℕ) → is_name name ≡ true → is_digits word ≡ true → is_taken (subnet_names d) name ≡ false
    → number_within 512 65535 (decimal_of word) ≡ Some mtu → length d.subnets < 64
    → declaration_line d (codes "subnet" ∷ name ∷ word ∷ []) ≡ Ok (record d { subnets = d.subnets ++ record { name = name; mtu = mtu } ∷ [] })
unfolding declaration_line subnet_line
subnet_given d name word mtu named digits free read few = rw (named, digits, free, read, lt-ltb (length d.subnets) 64 few) refl

pub system_given : (d : Declarations) (name word : List ℕ) (words : List (List ℕ)) (role : Role) (settings : List Setting) → is_name name ≡ true
    → role_word word ≡ Ok role → setting_words words ≡ Ok settings → is_taken (system_names d) name ≡ false → each_once key_of settings ≡ true
    → length d.systems < 64
    → declaration_line d (codes "system" ∷ name ∷ word ∷ words)
    ≡ Ok (record d { systems = d.systems ++ record { name = name; role = role; settings = settings_of settings; addresses = []; ports = []; routes = [] } ∷ [] })
unfolding declaration_line system_line
system_given d name word words role settings named is_role read free once few =
    rw (named, is_role, read, free, once, lt-ltb (length d.systems) 64 few) refl

pub address_given : (d : Declarations) (name word address : List ℕ) (place : ℕ) (system : DeclaredSystem) → declared_word (system_names d) name ≡ Ok place
    → address_word word ≡ Ok address → is_among address (flat_map (λ (system : DeclaredSystem). system.addresses) d.systems) ≡ false
    → slice_get d.systems place ≡ Some system → takes_address (Some system) ≡ true
    → declaration_line d (codes "address" ∷ name ∷ word ∷ []) ≡ Ok (record d { systems = changed_at (with_address address) place d.systems })
unfolding declaration_line address_line
address_given d name word address place system declared read new there room = rw (declared, read, new, there, room) refl

pub port_given : (d : Declarations) (name number_text subnet_word snpa_word transit_text : List ℕ) (place number : ℕ) (port : PortConfig) (system : DeclaredSystem)
    → declared_word (system_names d) name ≡ Ok place → number_word 0 7 number_text ≡ Ok number → declared_word (subnet_names d) subnet_word ≡ Ok port.subnet
    → address_word snpa_word ≡ Ok port.snpa → number_word 1 255 transit_text ≡ Ok port.transit → slice_get d.systems place ≡ Some system
    → has_port number port.subnet (Some system) ≡ false → is_among port.snpa (flat_map (snpas_on port.subnet) d.systems) ≡ false
    → takes_port (Some system) ≡ true → mtu_at (slice_get d.subnets port.subnet) ≡ port.mtu
    → declaration_line d (codes "port" ∷ name ∷ number_text ∷ subnet_word ∷ snpa_word ∷ transit_text ∷ [])
    ≡ Ok (record d { systems = changed_at (with_port (record { number = number; port = port })) place d.systems })
unfolding declaration_line port_line
port_given d name number_text subnet_word snpa_word transit_text place number port system declared numbered on snpa transit there other new room mtu =
    rw (declared, numbered, on, snpa, transit, there, other, new, room, mtu) refl

pub route_given : (d : Declarations) (name prefix_text port_text snpa_word title_word : List ℕ) (place : ℕ) (route : Route) (system : DeclaredSystem)
    → declared_word (system_names d) name ≡ Ok place → slice_get d.systems place ≡ Some system → is_router_at (Some system) ≡ true
    → prefix_word prefix_text ≡ Ok route.prefix → number_word 0 7 port_text ≡ Ok route.port → has_numbered route.port (Some system) ≡ true
    → address_word snpa_word ≡ Ok route.snpa → address_word title_word ≡ Ok route.title → has_route route.prefix (Some system) ≡ false
    → takes_route (Some system) ≡ true
    → declaration_line d (codes "route" ∷ name ∷ prefix_text ∷ port_text ∷ snpa_word ∷ title_word ∷ [])
    ≡ Ok (record d { systems = changed_at (with_route route) place d.systems })
unfolding declaration_line route_line
route_given d name prefix_text port_text snpa_word title_word place route system declared there router prefix port out snpa title other room =
    rw (declared, there, router, there, prefix, port, out, snpa, title, other, room) refl
