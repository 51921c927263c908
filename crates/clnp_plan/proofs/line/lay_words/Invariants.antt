use Rattle.std.proofs.Common.{map, take}
use Rattle.std.specs.List.{flat_map}
use Rattle.clnp_plan.specs.Journal.{behind_space}
use Rattle.clnp_plan.specs.Laying.{Lays}
use Rattle.clnp_plan.specs.Words.{word_text}
use Rattle.clnp_plan.proofs.line.lay_words.Given as goal

abbrev pub invariant-loop-word : goal.invariant-loop-word
invariant-loop-word l = Lays l.fn.at (flat_map behind_space (map word_text (take l.word-index l.words))) l.fn.place l.end l.place
