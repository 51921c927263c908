use Rattle.std.proofs.Common.{◌≡◌, ◌∙◌, ℕ, nat_le, ap, arith, length}
use Rattle.system_tables.proofs.EsisTables.Slots.{as_many}
use Rattle.system_tables.proofs.esis_tables.table.slots.Slots.is_full.Goals as goal

pub returns-clause-within : goal.returns-clause-within
returns-clause-within c =
    let stands = c.self.invariant.0 in
    omega (arith, as_many stands c.self.view_is, ap (λ v. v.limit) c.self.view_is, stands.number, c.self.invariant.1)

pub returns-clause-full : goal.returns-clause-full
returns-clause-full c =
    let limit : c.from.result ≡ c.args.self.now.limit = omega (arith, c.from.ensures, ap (λ v. v.limit) c.self.view_is) in
    let many = as_many c.self.invariant.0 c.self.view_is in
    let long : c.len.result ≡ length c.args.self.now.entries = omega (arith, c.len.ensures, many) in
    ap (λ (n : ℕ). nat_le n c.len.result) limit ∙ ap (nat_le c.args.self.now.limit) long
