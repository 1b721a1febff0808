-- That a list is the order has one proof at most, so that it may be kept beside the list.
use Rattle.std.specs.Prelude.{ℕ, List, [], ◌∷◌, ◌++◌}
use Rattle.std.specs.Coded.{le_prop, ×_prop, Unit-prop}
use mathlib.Core.Bool.{Bool-set}
use mathlib.Core.HLevel.{⊥_prop}
use Rattle.guard_names.specs.Order.{IsReady, IsNext, Follow, IsOrder}

module _ (count : ℕ) (uses : ℕ → ℕ → Type 0) where
  IsReady-prop : (listed : List ℕ) (number : ℕ) → IsProp (IsReady count uses listed number)
  IsReady-prop listed number x y = λ i. record {
    below = le_prop x.below y.below i;
    unlisted = Bool-set _ _ x.unlisted y.unlisted i;
    met = λ used u. Bool-set _ _ (x.met used u) (y.met used u) i;
  }

  IsNext-prop : (listed : List ℕ) (number : ℕ) → IsProp (IsNext count uses listed number)
  IsNext-prop listed number x y = λ i. record {
    ready = IsReady-prop listed number x.ready y.ready i;
    first = λ other before ready. ⊥_prop (x.first other before ready) (y.first other before ready) i;
  }

  Follow-prop : (listed numbers : List ℕ) → IsProp (Follow count uses listed numbers)
  Follow-prop listed [] = Unit-prop
  Follow-prop listed (number ∷ rest) = ×_prop (IsNext-prop listed number) (Follow-prop (listed ++ number ∷ []) rest)

  pub IsOrder-prop : (numbers : List ℕ) → IsProp (IsOrder count uses numbers)
  IsOrder-prop numbers x y = λ i. record {
    follow = Follow-prop [] numbers x.follow y.follow i;
    all = λ number below. Bool-set _ _ (x.all number below) (y.all number below) i;
  }
