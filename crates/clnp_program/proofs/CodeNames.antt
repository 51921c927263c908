-- Each code of scenario texts has the name that stands at its number, and a number of no code that of none.
use Rattle.std.proofs.Common.{rules, arith, ◌≡◌, ◌≢◌, ◌≤◌, ℕ, zero, suc, List, codes, get_or, refl, sym}
use Rattle.std.proofs.Math.ListN.{get_or-eq_default}
use Rattle.scenario.specs.Codes.{name_of, number_of}
use Rattle.scenario.specs.declared.code.Code.{Code}
use Rattle.scenario.specs.declared.code.Code.TheVariants as bad
use Rattle.clnp_program.specs.FaultTexts.{code_name, code_names}

pub named : (code : Code) → name_of code ≡ code_name (number_of code)
named bad.Header = refl
named bad.Syntax = refl
named bad.Number = refl
named bad.Address = refl
named bad.UnknownName = refl
named bad.DupName = refl
named bad.DupAddress = refl
named bad.Limits = refl
named bad.Mtu = refl
named bad.Count = refl

-- no code has a number above 16
nameless : (number : ℕ) → 17 ≤ number → codes "other" ≡ code_name number
nameless number great = sym (get_or-eq_default code_names (codes "other") great)

pub no_code : (number : ℕ) → ((code : Code) → number_of code ≢ number)
    → number ≢ 11 → number ≢ 12 → number ≢ 13 → number ≢ 14 → number ≢ 15 → number ≢ 16
    → codes "other" ≡ code_name number
no_code zero none n11 n12 n13 n14 n15 n16 = refl
no_code (suc number) none n11 n12 n13 n14 n15 n16 =
    nameless (suc number) (omega (
      arith,
      none bad.Header,
      none bad.Syntax,
      none bad.Number,
      none bad.Address,
      none bad.UnknownName,
      none bad.DupName,
      none bad.DupAddress,
      none bad.Limits,
      none bad.Mtu,
      none bad.Count,
      n11,
      n12,
      n13,
      n14,
      n15,
      n16,
    ))
