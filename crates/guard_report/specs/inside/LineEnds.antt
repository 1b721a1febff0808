-- What the line still lacks that was written last.
use Rattle.std.specs.Prelude.{ℕ, List, [], Option}
use Rattle.guard_report.specs.declared.noted.LineEnd.{LineEnd}
use Rattle.guard_report.specs.declared.noted.LineEnd.TheVariants.{Nothing, Note}

abbrev pub end_text : (Option ℕ → List ℕ) → LineEnd → List ℕ
end_text note Nothing = []
end_text note (Note at) = note at
