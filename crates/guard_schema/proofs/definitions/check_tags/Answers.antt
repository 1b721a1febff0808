use Rattle.guard_schema.proofs.definitions.check_tags.Goals as goal

pub returns-in-None : goal.returns-in-None
returns-in-None c = c.in_ok-find_clash.ensures.distinct c.in-None.is
