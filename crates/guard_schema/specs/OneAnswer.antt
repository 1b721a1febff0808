-- That there is one answer.
use Rattle.std.specs.Prelude.{◌≡◌, ◌⊎◌, ℕ, List, Ok, Err}
use Rattle.guard_schema.specs.Faults.{AbstractFault, Syntax, Outcome}
use Rattle.guard_schema.specs.Texts.{WritesNothing}

-- Both are faults of the parser, which says that the tokens of this text write no tree. Which of these tokens it names
-- is its choice.
abbrev pub AreOfOneText : AbstractFault → AbstractFault → Type 0
AreOfOneText (Syntax f) (Syntax g) =
    (place : ℕ) × (text : List ℕ) × WritesNothing place text f × WritesNothing place text g
AreOfOneText f g = ⊥

abbrev pub SameFault : AbstractFault → AbstractFault → Type 0
SameFault f g = (f ≡ g) ⊎ AreOfOneText f g

-- there is one Ok at most, no fault beside it, and one fault at most
pub record IsDecided {A : Type 0} (Answer : Outcome A → Type 0) : Type 0 where
  pub one : (x y : A) → Answer (Ok x) → Answer (Ok y) → x ≡ y
  pub alone : (x : A) (f : AbstractFault) → Answer (Ok x) → Answer (Err f) → ⊥
  pub first : (f g : AbstractFault) → Answer (Err f) → Answer (Err g) → SameFault f g
