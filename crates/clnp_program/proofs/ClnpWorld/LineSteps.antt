-- Lines that come one behind the other.
use Rattle.std.proofs.Common.{◌≡◌, ℕ, ◌+◌, List, [], ◌++◌, codes, refl, sym, ap, ◌∙◌, append-nil, append_assoc, arith}
use Rattle.std.specs.Prelude.{◌-◌, ◌^◌, min}
use Rattle.std.specs.Str.{bytes_eq}
use Rattle.clnp_machine.specs.ClnpPlan.Journal.{Line}
use Rattle.clnp_machine.specs.ClnpNetwork.Run.{told_lines}
use Rattle.clnp_program.specs.ClnpWorld.Lines.{Counted, Gains, Taken, Written, both, gained, how_many, kind_of, no_lines, risen, rises, tally}
use Rattle.clnp_program.specs.declared.clnp_world.lines.Counts.{Counts}
use Rattle.clnp_program.specs.NetworkCommands.Storm.{capped}
use Rattle.clnp_program.proofs.ClnpWorld.ModelSteps.{told_lines-append}
use Rattle.clnp_machine.proofs.ClnpBase.Sums.{length_filter-append}

-- the same counts
counts-same : (g r e d x k s f o y : ℕ) → g ≡ k → r ≡ s → e ≡ f → d ≡ o → x ≡ y → Path Counts
    (record { got = g; reports = r; echoed = e; drops = d; expired = x }) (record { got = k; reports = s; echoed = f; drops = o; expired = y })
counts-same g r e d x k s f o y p q t u v = rw (p, q, t, u, v) refl

pub both-none : (a : Counts) → both a no_lines ≡ a
both-none a =
    counts-same (a.got + 0) (a.reports + 0) (a.echoed + 0) (a.drops + 0) (a.expired + 0) a.got a.reports a.echoed a.drops a.expired
    (omega arith) (omega arith) (omega arith) (omega arith) (omega arith)

pub none-both : (a : Counts) → both no_lines a ≡ a
none-both a =
    counts-same (0 + a.got) (0 + a.reports) (0 + a.echoed) (0 + a.drops) (0 + a.expired) a.got a.reports a.echoed a.drops a.expired
    (omega arith) (omega arith) (omega arith) (omega arith) (omega arith)

pub both-assoc : (a b c : Counts) → both (both a b) c ≡ both a (both b c)
both-assoc a b c =
    counts-same (a.got + b.got + c.got) (a.reports + b.reports + c.reports) (a.echoed + b.echoed + c.echoed) (a.drops + b.drops + c.drops) (a.expired + b.expired + c.expired)
    (a.got + (b.got + c.got)) (a.reports + (b.reports + c.reports)) (a.echoed + (b.echoed + c.echoed)) (a.drops + (b.drops + c.drops)) (a.expired + (b.expired + c.expired))
    (omega arith) (omega arith) (omega arith) (omega arith) (omega arith)

pub risen-none : (a : Counts) → risen a no_lines ≡ a
risen-none a =
    counts-same (rises a.got 0) (rises a.reports 0) (rises a.echoed 0) (rises a.drops 0) (rises a.expired 0) a.got a.reports a.echoed a.drops a.expired
    (omega arith) (omega arith) (omega arith) (omega arith) (omega arith)

rises-both : (a b c : ℕ) → rises (rises a b) c ≡ rises a (b + c)
rises-both a b c = omega arith

pub risen-both : (a b c : Counts) → risen (risen a b) c ≡ risen a (both b c)
risen-both a b c =
    counts-same (rises (rises a.got b.got) c.got) (rises (rises a.reports b.reports) c.reports) (rises (rises a.echoed b.echoed) c.echoed)
    (rises (rises a.drops b.drops) c.drops) (rises (rises a.expired b.expired) c.expired)
    (rises a.got (b.got + c.got)) (rises a.reports (b.reports + c.reports)) (rises a.echoed (b.echoed + c.echoed))
    (rises a.drops (b.drops + c.drops)) (rises a.expired (b.expired + c.expired))
    (rises-both a.got b.got c.got) (rises-both a.reports b.reports c.reports) (rises-both a.echoed b.echoed c.echoed)
    (rises-both a.drops b.drops c.drops) (rises-both a.expired b.expired c.expired)

pub risen-capped : (a : Counts) → risen no_lines a ≡ capped a
risen-capped a =
    counts-same (rises 0 a.got) (rises 0 a.reports) (rises 0 a.echoed) (rises 0 a.drops) (rises 0 a.expired)
    (min a.got (2 ^ 64 - 1)) (min a.reports (2 ^ 64 - 1)) (min a.echoed (2 ^ 64 - 1)) (min a.drops (2 ^ 64 - 1)) (min a.expired (2 ^ 64 - 1))
    (omega arith) (omega arith) (omega arith) (omega arith) (omega arith)

how_many-append : (kind : List ℕ) (lines more : List Line) → how_many kind (lines ++ more) ≡ how_many kind lines + how_many kind more
how_many-append kind lines more =
    length_filter-append (λ line. bytes_eq (kind_of line) kind) lines more

pub tally-append : (lines more : List Line) → tally (lines ++ more) ≡ both (tally lines) (tally more)
tally-append lines more =
    rw (
      how_many-append (codes "got") lines more,
      how_many-append (codes "report") lines more,
      how_many-append (codes "echoed") lines more,
      how_many-append (codes "drop") lines more,
      how_many-append (codes "expired") lines more,
    ) refl

-- no lines came
pub gains_nothing : (lines : Taken) → Gains lines lines []
gains_nothing (Written telling text) = ap (Written telling) (sym (append-nil text))
gains_nothing (Counted counts) = ap Counted (sym (risen-none counts))

gained_more : (taken : Taken) (lines more : List Line) → gained (gained taken lines) more ≡ gained taken (lines ++ more)
gained_more (Written telling text) lines more =
    ap (Written telling) (append_assoc text (told_lines telling lines) (told_lines telling more)
    ∙ ap (λ (t : List ℕ). text ++ t) (sym (told_lines-append telling lines more)))
gained_more (Counted counts) lines more =
    ap Counted (risen-both counts (tally lines) (tally more) ∙ ap (λ (c : Counts). risen counts c) (sym (tally-append lines more)))

-- some lines came, and then others
pub gains_more : (before between after : Taken) (lines more : List Line) → Gains before between lines → Gains between after more
    → Gains before after (lines ++ more)
gains_more before between after lines more g h = h ∙ ap (λ (t : Taken). gained t more) g ∙ gained_more before lines more
