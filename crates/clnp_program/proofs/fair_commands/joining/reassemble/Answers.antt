use Rattle.clnp_program.proofs.fair_commands.joining.reassemble.Goals as goal

pub join-requires : goal.join-requires
join-requires g c = c.an_accepted_text_is_in_range.ensures c.args.text.now c.in-Ok.capture c.in-Ok.ensures
