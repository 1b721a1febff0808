-- Why no cases are tried, as the code answers it.
use Rattle.std.specs.Prelude.{◌≡◌, ℕ, List, Option, Some, string_bytes}
use Rattle.guard_authors.specs.declared.cases.CasesFault.{CasesFault}
use Rattle.guard_authors.specs.declared.cases.CasesFault.TheVariants.{NoDocument, BadFile, NoMemory}

-- there is no document; or one with a fault of this text; or memory ran out
abbrev pub OfFault : Type 0 → (List ℕ → Type 0) → CasesFault → Type 0
OfFault Lacks Is NoDocument = Lacks
OfFault Lacks Is (BadFile text) = Is (string_bytes text)
OfFault Lacks Is NoMemory = Unit {0}

abbrev pub Meets : Option (List ℕ) → CasesFault → Type 0
Meets fault = OfFault ⊥ (λ text. fault ≡ Some text)
