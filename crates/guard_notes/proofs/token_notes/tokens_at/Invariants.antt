use Rattle.std.proofs.Common.{◌≡◌, drop}
use Rattle.guard_notes.specs.TokenNotes.{tokens_at}
use Rattle.guard_notes.proofs.token_notes.tokens_at.Given as goal

abbrev pub invariant-loop-place : goal.invariant-loop-place
invariant-loop-place l = tokens_at l.site (drop l.place l.tokens) ≡ tokens_at l.site l.tokens
