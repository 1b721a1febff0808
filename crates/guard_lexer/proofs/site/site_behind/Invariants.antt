use Rattle.std.proofs.Common.{◌≡◌, ◌+◌, ◌≤◌, ◌++◌, List, ℕ, take}
use Rattle.guard_lexer.specs.Sites.{site_after}
use Rattle.guard_lexer.proofs.site.site_behind.Given as goal

abbrev pub invariant-loop-octet : goal.invariant-loop-octet
invariant-loop-octet l = record {
  line : l.site.line ≤ l.initial.site.line + l.octet-index;
  column : l.site.column ≤ l.initial.site.column + l.octet-index;
  reached : (before : List ℕ) → l.initial.site ≡ site_after l.initial.site.text before → l.site ≡ site_after l.initial.site.text (before ++ take l.octet-index l.octets);
}
