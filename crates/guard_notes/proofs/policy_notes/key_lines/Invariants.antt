use Rattle.std.proofs.Common.{◌≡◌, ◌++◌, drop, string_bytes}
use Rattle.std.specs.Prelude.{option_map}
use Rattle.toml.specs.View.{view}
use Rattle.guard_notes.specs.PolicyNotes.{key_lines}
use Rattle.guard_notes.proofs.policy_notes.key_lines.Given as goal

-- what is written, with the lines of those that are left, is the lines of all
abbrev pub invariant-loop-key : goal.invariant-loop-key
invariant-loop-key l =
    let entry = option_map (λ value. view value.now) l.entry in
    string_bytes l.lines ++ key_lines (drop l.key-index l.keys) entry ≡ key_lines l.keys entry
