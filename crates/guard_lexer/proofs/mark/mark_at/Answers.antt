use Rattle.guard_lexer.specs.inside.Reading.{mark_at}
use Rattle.guard_lexer.proofs.mark.mark_at.Goals as goal

pub returns : goal.returns
unfolding mark_at
returns c = c.find_mark.ensures
