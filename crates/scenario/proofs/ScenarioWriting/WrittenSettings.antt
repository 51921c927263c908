-- The settings of a system as they are written are read as these settings.
use Rattle.std.proofs.Common.{◌≡◌, ℕ, ◌<◌, ◌^◌, Bool, true, false, List, [], ◌∷◌, codes, Ok, refl, arith}
use Rattle.std.specs.List.{AllByRecursion}
use Rattle.std.specs.Fmt.{decimal}
use Rattle.clnp_plan.specs.Configuration.{AreSettings, IsWithin}
use Rattle.clnp_plan.specs.declared.config.Settings.{Settings}
use Rattle.scenario.specs.ScenarioWriting.Canonical.{checksum_text, keyed, setting_texts}
use Rattle.scenario.specs.Declarations.{room_word, setting_word, setting_words, key_of}
use Rattle.scenario.specs.Words.{number_word, each_once}
use Rattle.scenario.specs.declared.setting.Setting.{Setting}
use Rattle.scenario.specs.declared.setting.Setting.TheVariants.{Hello, Suggest, Checksum, Life, RedirectHold, Slots, Segments, Budget, Neighbours, Routers, Redirects}
use Rattle.scenario.proofs.ScenarioWriting.Written.{IsWord, keyed_is_word, number_read, spelled}

pub number_is_read : (low high n : ℕ) → high < 2 ^ 64 → IsWithin low high n → number_word low high (decimal n) ≡ Ok n
number_is_read low high n small within = number_read low high n within.least within.most (let most = within.most in omega arith)

-- each setting, in the order in which they are written
abbrev pub settings_in_order : Settings → List Setting
settings_in_order settings =
    Hello settings.hello
    ∷ Suggest settings.suggest
    ∷ RedirectHold settings.rhold
    ∷ Slots settings.slots
    ∷ Segments settings.segments
    ∷ Budget settings.budget
    ∷ Neighbours settings.neighbours
    ∷ Routers settings.routers
    ∷ Redirects settings.redirects
    ∷ Life settings.life
    ∷ Checksum settings.sealed
    ∷ []

checksum_read : (sealed : Bool) → setting_word (checksum_text sealed) ≡ Ok (Checksum sealed)
unfolding setting_word
checksum_read true = refl
checksum_read false = refl

hello_read : (n : ℕ) → IsWithin 0 600 n → setting_word (keyed (codes "hello=") n) ≡ Ok (Hello n)
unfolding setting_word
hello_read n within = rw (number_is_read 0 600 n (omega arith) within) refl

suggest_read : (n : ℕ) → IsWithin 0 32767 n → setting_word (keyed (codes "suggest=") n) ≡ Ok (Suggest n)
unfolding setting_word
suggest_read n within = rw (number_is_read 0 32767 n (omega arith) within) refl

hold_read : (n : ℕ) → IsWithin 0 65535 n → setting_word (keyed (codes "rhold=") n) ≡ Ok (RedirectHold n)
unfolding setting_word
hold_read n within = rw (number_is_read 0 65535 n (omega arith) within) refl

life_read : (n : ℕ) → IsWithin 1 255 n → setting_word (keyed (codes "life=") n) ≡ Ok (Life n)
unfolding setting_word
life_read n within = rw (number_is_read 1 255 n (omega arith) within) refl

slots_read : (n : ℕ) → IsWithin 1 1024 n → setting_word (keyed (codes "slots=") n) ≡ Ok (Slots n)
unfolding setting_word room_word
slots_read n within = rw (number_is_read 1 1024 n (omega arith) within) refl

segments_read : (n : ℕ) → IsWithin 1 16384 n → setting_word (keyed (codes "segments=") n) ≡ Ok (Segments n)
unfolding setting_word room_word
segments_read n within = rw (number_is_read 1 16384 n (omega arith) within) refl

budget_read : (n : ℕ) → IsWithin 512 4194304 n → setting_word (keyed (codes "budget=") n) ≡ Ok (Budget n)
unfolding setting_word room_word
budget_read n within = rw (number_is_read 512 4194304 n (omega arith) within) refl

neighbours_read : (n : ℕ) → IsWithin 1 1024 n → setting_word (keyed (codes "neighbours=") n) ≡ Ok (Neighbours n)
unfolding setting_word room_word
neighbours_read n within = rw (number_is_read 1 1024 n (omega arith) within) refl

routers_read : (n : ℕ) → IsWithin 1 64 n → setting_word (keyed (codes "routers=") n) ≡ Ok (Routers n)
unfolding setting_word room_word
routers_read n within = rw (number_is_read 1 64 n (omega arith) within) refl

redirects_read : (n : ℕ) → IsWithin 1 1024 n → setting_word (keyed (codes "redirects=") n) ≡ Ok (Redirects n)
unfolding setting_word room_word
redirects_read n within = rw (number_is_read 1 1024 n (omega arith) within) refl

pub settings_read : (settings : Settings) → AreSettings settings → setting_words (setting_texts settings) ≡ Ok (settings_in_order settings)
settings_read settings are =
    rw (
      hello_read settings.hello are.hello,
      suggest_read settings.suggest are.suggest,
      hold_read settings.rhold are.rhold,
      slots_read settings.slots are.slots,
      segments_read settings.segments are.segments,
      budget_read settings.budget are.budget,
      neighbours_read settings.neighbours are.neighbours,
      routers_read settings.routers are.routers,
      redirects_read settings.redirects are.redirects,
      life_read settings.life are.life,
      checksum_read settings.sealed,
    ) refl

pub settings_once : (settings : Settings) → each_once key_of (settings_in_order settings) ≡ true
settings_once settings = refl

-- each is written as a word

checksum_is_word : (sealed : Bool) → IsWord (checksum_text sealed)
checksum_is_word true = spelled (codes "checksum=on") refl
checksum_is_word false = spelled (codes "checksum=off") refl

pub settings_are_words : (settings : Settings) → AllByRecursion IsWord (setting_texts settings)
settings_are_words settings = (
  keyed_is_word (codes "hello=") settings.hello (spelled (codes "hello=") refl),
  (
    keyed_is_word (codes "suggest=") settings.suggest (spelled (codes "suggest=") refl),
    (
      keyed_is_word (codes "rhold=") settings.rhold (spelled (codes "rhold=") refl),
      (
        keyed_is_word (codes "slots=") settings.slots (spelled (codes "slots=") refl),
        (
          keyed_is_word (codes "segments=") settings.segments (spelled (codes "segments=") refl),
          (
            keyed_is_word (codes "budget=") settings.budget (spelled (codes "budget=") refl),
            (
              keyed_is_word (codes "neighbours=") settings.neighbours (spelled (codes "neighbours=") refl),
              (
                keyed_is_word (codes "routers=") settings.routers (spelled (codes "routers=") refl),
                (
                  keyed_is_word (codes "redirects=") settings.redirects (spelled (codes "redirects=") refl),
                  (
                    keyed_is_word (codes "life=") settings.life (spelled (codes "life=") refl),
                    (checksum_is_word settings.sealed, tt),
                  ),
                ),
              ),
            ),
          ),
        ),
      ),
    ),
  ),
)
