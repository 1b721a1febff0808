use Rattle.std.proofs.Common.{◌≡◌, map}
use Rattle.toml.specs.View.{members_view}
use Rattle.guard_authors.specs.Cases.{first_unknown}
use Rattle.guard_authors.proofs.cases.first_unknown.Given as goal

-- the first of what is left is the first of all
abbrev pub invariant-loop-word : goal.invariant-loop-word
invariant-loop-word l = first_unknown (map (λ key. key.now) l.keys) (members_view l.word-iterator) ≡ first_unknown (map (λ key. key.now) l.keys) (members_view l.table.entries)
