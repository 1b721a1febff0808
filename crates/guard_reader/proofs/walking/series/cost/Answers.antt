use Rattle.guard_reader.proofs.walking.series.cost.Goals as goal

pub returns : goal.returns
returns c = (c.index-cold.result.now, c.index-cold.ensures, c.add.ensures)
