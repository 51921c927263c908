use Rattle.std.proofs.Common.{refl}
use Rattle.clnp_program.specs.Texts.{page_text, migrate_page}
use Rattle.clnp_program.proofs.pages.migrate.Goals as goal

pub returns : goal.returns
unfolding page_text migrate_page
returns c = refl
