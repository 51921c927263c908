use Rattle.std.proofs.Common.{◌≡◌, ◌++◌, refl}
use Rattle.pdus.specs.ClnpOptions.Parameter.{Parameter, spelling}
use Rattle.pdus.specs.ClnpOptions.Rules.{IsWellFormed}
use Rattle.pdus.proofs.ClnpOptions.Pushed.{put_behind, well_formed-pushed, parameters-pushed}
use Rattle.pdus.proofs.clnp_options.list.OptionList.put.Goals as goal

pub invariant_of-self : goal.invariant_of-self
invariant_of-self c =
    let option : Parameter = record { code = c.args.code; value = c.args.front.now ++ c.args.back.now } in
    let before : IsWellFormed c.args.self.now = rw c.self.view_is at c.self.invariant in
    let whole : c.push-3.new.self ≡ c.args.self.now ++ spelling option =
    rw (c.push-3.ensures, c.push-2.ensures, c.push.ensures, c.self.view_is) (put_behind c.args.code _ c.args.self.now c.args.front.now c.args.back.now refl) in
    rw whole (well_formed-pushed c.args.self.now option before c.requires.well_formed)

pub returns-clause-options : goal.returns-clause-options
returns-clause-options c =
    let option : Parameter = record { code = c.args.code; value = c.args.front.now ++ c.args.back.now } in
    let before : IsWellFormed c.args.self.now = rw c.self.view_is at c.self.invariant in
    let whole : c.push-3.new.self ≡ c.args.self.now ++ spelling option =
    rw (c.push-3.ensures, c.push-2.ensures, c.push.ensures, c.self.view_is) (put_behind c.args.code _ c.args.self.now c.args.front.now c.args.back.now refl) in
    rw whole (parameters-pushed c.args.self.now option before c.requires.well_formed)

pub returns-clause-pushed : goal.returns-clause-pushed
returns-clause-pushed c =
    rw (c.push-3.ensures, c.push-2.ensures, c.push.ensures, c.self.view_is) (put_behind c.args.code _ c.args.self.now c.args.front.now c.args.back.now refl)
