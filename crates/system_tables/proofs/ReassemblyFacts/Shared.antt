-- The laws of `laws.rt`, as lemmas that a crate above may cite for any type: each is the clause of the law that is named.
-- keys_are_compared
pub use Rattle.system_tables.proofs.ReassemblyFacts.Keys.{same_key-Decides, same_key-false_sym, same_key-like, same_key-refl, same_key-sym, same_key-true}
-- whole_where_each_place_is_covered
pub use Rattle.system_tables.proofs.ReassemblyFacts.LawOrder.{covered_by_some, whole_where_covered}
-- order_changes_no_octet
pub use Rattle.system_tables.proofs.ReassemblyFacts.LawOrder.{same_data, same_whole}
-- limits_are_never_passed
pub use Rattle.system_tables.proofs.ReassemblyFacts.LawKept.{kept_within, undone_within, without_within}
-- a_kept_segment_counts_once
pub use Rattle.system_tables.proofs.ReassemblyFacts.LawKept.{held-after, held-with_kept, kept-after, kept-with_kept, kept_or_not, may_be_kept, refused_changes_nothing}
-- each_buffer_ends_in_time
pub use Rattle.system_tables.proofs.ReassemblyFacts.LawTimes.{after_in_time, undone_in_time, without_in_time}
-- deadlines_never_move
pub use Rattle.system_tables.proofs.ReassemblyFacts.LawBuffers.{stays_with_deadline}
-- no_buffer_is_empty
pub use Rattle.system_tables.proofs.ReassemblyFacts.LawBuffers.{none_empty-after, none_empty-undone, none_empty-without}
-- whole_only_where_an_answer_says_so
pub use Rattle.system_tables.proofs.ReassemblyFacts.Ready.{made_whole, none_whole-after, none_whole-released, none_whole-undone, none_whole-without, none_whole-without_due, refusal_not_whole}
-- undoing_gives_back
pub use Rattle.system_tables.proofs.ReassemblyFacts.LawBuffers.{undone-after}
-- the_due_buffer_is_the_soonest
pub use Rattle.system_tables.proofs.ReassemblyFacts.LawDue.{due_is, due_of_none, none_due}
pub use Rattle.system_tables.proofs.ReassemblyFacts.LawTimes.{none_due-after, none_due-without}
-- what_is_carried_changes_nothing
pub use Rattle.system_tables.proofs.ReassemblyFacts.Mapped.{after-mapped, answer-mapped, buffer_of-mapped, data_of-mapped, due-mapped, first_carried-mapped, held-mapped, is_whole-mapped, kept-mapped, undone-mapped, without-mapped, without_due-mapped}
-- and what holds beside them
pub use Rattle.system_tables.proofs.ReassemblyFacts.LawBuffers.{but_last-push, key_found, others_with_kept}
pub use Rattle.system_tables.proofs.ReassemblyFacts.Ready.{said_not_whole}
