use Rattle.std.proofs.Common.{◌-◌, length}
use Rattle.guard_lexer.proofs.ReadItems.{IsRead}
use Rattle.guard_lexer.proofs.lexer.read_items.Given as goal

abbrev pub invariant-loop-at : goal.invariant-loop-at
invariant-loop-at l = IsRead l.place l.text l.at l.site l.tokens.items

abbrev pub decreases-loop-at : goal.decreases-loop-at
decreases-loop-at l = length l.text - l.at
