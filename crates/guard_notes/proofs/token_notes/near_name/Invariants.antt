use Rattle.std.proofs.Common.{◌≡◌, drop, false}
use Rattle.guard_notes.specs.TokenNotes.{near_name}
use Rattle.guard_notes.proofs.token_notes.near_name.Given as goal

-- the first of those that are left is the first of all
abbrev pub invariant-loop-place : goal.invariant-loop-place
invariant-loop-place l =
    near_name l.text l.word l.importing (drop l.place l.tokens) ≡ near_name l.text l.word false l.tokens
