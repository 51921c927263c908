use Rattle.clnp_program.proofs.clnp_world.world.World.step.Given as goal

abbrev pub ghosts-write : goal.ghosts-write
ghosts-write a = record { front = a.out.now.items }
