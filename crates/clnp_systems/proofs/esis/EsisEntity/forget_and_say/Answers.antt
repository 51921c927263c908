use Rattle.std.proofs.Common.{◌∙◌, ap, sym, subst, []}
use Rattle.clnp_machine.specs.EsisTables.Stands as esis_tables
use Rattle.clnp_machine.specs.EsisTables.Stands.{limits_of}
use Rattle.clnp_systems.specs.EsisState.{EsisState}
use Rattle.clnp_systems.proofs.EsisTicking.{does_tick, on_ok}
use Rattle.clnp_systems.proofs.esis.EsisEntity.forget_and_say.Goals as goal

pub returns-clause-stands : goal.returns-clause-stands
returns-clause-stands c =
    let later : EsisState = record { tables = c.forget.new.tables; period = c.self.inside.period; next_hello = c.self.inside.next_hello } in
    on_ok c.say_hello.result
    (λ says s before h same number at passed.
    let there = subst (λ (entity : EsisState). esis_tables.Stands entity.tables s.facts before []) (sym c.self.view_is) h.tables in
    (does_tick c.args.now before c.args.self.now later c.say_hello.new.self c.args.out.now.items c.forget.new.out.items c.say_hello.new.out.items s h at
    (record {
      limits = c.in_ok-forget.ensures.limits ∙ ap (λ (entity : EsisState). limits_of entity.tables) c.self.view_is;
      period = ap (λ (entity : EsisState). entity.period) c.self.view_is;
      next_hello = ap (λ (entity : EsisState). entity.next_hello) c.self.view_is;
    })
    (c.in_ok-forget.ensures.stands s.facts before there passed)
    (c.in_ok-forget.ensures.outputs s.facts before c.args.now there passed)
    (λ stands. says s stands same number at)).stands)
    c.say_hello.ensures.said

pub returns-clause-outputs : goal.returns-clause-outputs
returns-clause-outputs c =
    let later : EsisState = record { tables = c.forget.new.tables; period = c.self.inside.period; next_hello = c.self.inside.next_hello } in
    on_ok c.say_hello.result
    (λ says s before h same number at passed.
    let there = subst (λ (entity : EsisState). esis_tables.Stands entity.tables s.facts before []) (sym c.self.view_is) h.tables in
    (does_tick c.args.now before c.args.self.now later c.say_hello.new.self c.args.out.now.items c.forget.new.out.items c.say_hello.new.out.items s h at
    (record {
      limits = c.in_ok-forget.ensures.limits ∙ ap (λ (entity : EsisState). limits_of entity.tables) c.self.view_is;
      period = ap (λ (entity : EsisState). entity.period) c.self.view_is;
      next_hello = ap (λ (entity : EsisState). entity.next_hello) c.self.view_is;
    })
    (c.in_ok-forget.ensures.stands s.facts before there passed)
    (c.in_ok-forget.ensures.outputs s.facts before c.args.now there passed)
    (λ stands. says s stands same number at)).appends)
    c.say_hello.ensures.said
