use Rattle.derguard_program.proofs.Statuses.{links_most, links_silent}
use Rattle.derguard_program.proofs.laws.law_status_of_links.Goals as goal

pub returns : goal.returns
returns c = record { most = links_most; silent = links_silent }
