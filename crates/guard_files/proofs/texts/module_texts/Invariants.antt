use Rattle.std.proofs.Common.{map, drop, string_bytes}
use Rattle.guard_files.specs.Files.{IsLater}
use Rattle.guard_files.specs.Reading.{folder}
use Rattle.guard_files.proofs.ReadingTexts.{ReadSoFar}
use Rattle.guard_files.proofs.texts.module_texts.Given as goal

abbrev pub invariant-loop-name : goal.invariant-loop-name
invariant-loop-name g l =
    ReadSoFar (g.F.Files.told l.initial.files) (g.F.Files.told l.files) (folder l.path) (map string_bytes l.listed)
    (map string_bytes (drop l.name-index l.listed)) (map (λ text. text.items) l.texts.items)
    × IsLater (g.F.Files.told l.initial.files) (g.F.Files.told l.files)
