-- The laws of buffers on which the entity's proofs stand.
pub use Rattle.clnp_machine.proofs.Reassembly.Shared.{after-mapped, answer-mapped, buffer_of-mapped, but_last-push, data_of-mapped, due-mapped, due_is, first_carried-mapped, held-mapped, key_found, made_whole, none_due-after, none_due-without, none_whole-after, none_whole-released, none_whole-without_due, said_not_whole, same_key-like, same_key-true, without-mapped}
