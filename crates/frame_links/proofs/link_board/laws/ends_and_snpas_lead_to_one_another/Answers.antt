use Rattle.frame_links.proofs.LinkBoard.EndSnpas.{end_of_its_snpa, snpa_of_its_end}
use Rattle.frame_links.proofs.link_board.laws.ends_and_snpas_lead_to_one_another.Goals as goal

pub returns-clause-there : goal.returns-clause-there
returns-clause-there c = end_of_its_snpa

pub returns-clause-back : goal.returns-clause-back
returns-clause-back c = snpa_of_its_end
