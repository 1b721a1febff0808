use Rattle.std.proofs.Common.{◌≡◌, ◌++◌, drop, map, string_bytes}
use Rattle.guard_notes.specs.SyntaxNotes.{others}
use Rattle.guard_notes.proofs.syntax_notes.others.Given as goal

-- what is written, with those that are left, is all
abbrev pub invariant-loop-name : goal.invariant-loop-name
invariant-loop-name l =
    string_bytes l.text ++ others (map (λ name. name.now) (drop l.name-index l.names)) ≡ others (map (λ name. name.now) l.names)
