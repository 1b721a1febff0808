-- What a board was asked to show, where it tells that. One that writes files doesn't.
use Rattle.std.specs.Prelude.{◌≡◌, ℕ, Bool, List, [], ◌∷◌, Option, Some, None}

-- a text, and the path at which it stands
pub record Showing : Type 0 where
  pub path : List ℕ
  pub text : List ℕ

-- what was shown so far, the last first
abbrev pub Shown : Type 0
Shown = Option (List Showing)

-- what was shown before and after, and whether what was to be shown last was
pub record Display : Type 0 where
  pub before : Shown
  pub after : Shown
  pub is_shown : Bool

-- a text is shown at a path
abbrev pub Shows : Shown → List ℕ → List ℕ → Shown → Type 0
Shows None path text new = Unit {0}
Shows (Some old) path text None = ⊥
Shows (Some old) path text (Some new) = new ≡ record { path = path; text = text } ∷ old

-- where there is a path: without one nothing is shown
abbrev pub ShowsAt : Shown → Option (List ℕ) → List ℕ → Shown → Type 0
ShowsAt old None text new = ⊥
ShowsAt old (Some path) text new = Shows old path text new

-- these texts are shown there, the last first
abbrev pub ShowsAll : Option (List ℕ) → Shown → List (List ℕ) → Shown → Type 0
ShowsAll place old [] new = new ≡ old
ShowsAll place old (text ∷ before) new = (last : Shown) × ShowsAll place old before last × ShowsAt last place text new
