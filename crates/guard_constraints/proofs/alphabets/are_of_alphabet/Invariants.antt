use Rattle.std.proofs.Common.{◌≡◌, drop}
use Rattle.guard_model.specs.AbstractType as abstract
use Rattle.guard_constraints.specs.PermittedAlphabets.{are_of_alphabet}
use Rattle.guard_constraints.proofs.alphabets.are_of_alphabet.Given as goal

abbrev pub invariant-loop-code : goal.invariant-loop-code
invariant-loop-code l = are_of_alphabet (abstract.characters l.kind) (drop l.code-index l.codes) ≡ are_of_alphabet (abstract.characters l.kind) l.codes
