use Rattle.guard_syntax.proofs.SoundAndComplete.{one_tree}
use Rattle.guard_syntax.proofs.laws.law_one_tree.Goals as goal

pub returns : goal.returns
returns c = one_tree
