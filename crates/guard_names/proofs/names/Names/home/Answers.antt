use Rattle.guard_names.proofs.names.Names.home.Goals as goal

pub returns : goal.returns
returns c = c.in_ok-home.ensures.home
