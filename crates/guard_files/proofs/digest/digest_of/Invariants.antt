use Rattle.std.proofs.Common.{◌++◌, ◌∷◌, [], map, take}
use Rattle.std.specs.List.{concat}
use Rattle.sha2.specs.Hashers.{Holds256}
use Rattle.guard_files.specs.Digest.{with_length}
use Rattle.guard_files.proofs.digest.digest_of.Given as goal

abbrev pub invariant-loop-module : goal.invariant-loop-module
invariant-loop-module l =
    Holds256 l.hasher (with_length l.texts.policy.items
    ++ concat (map with_length (map (λ text. text.items) (take l.module-index l.texts.modules.items))))
