-- The first of two answers that may be missing: `option_or`.
use Rattle.std.proofs.Common.{◌≡◌, Option, Some, None, ◌⊎◌, inl, inr, refl}
use Rattle.std.specs.Option.{option_or}

pub option_or_some : {A : Type 0} (a b : Option A) (x : A) → option_or a b ≡ Some x → (a ≡ Some x) ⊎ ((a ≡ None) × (b ≡ Some x))
option_or_some None b x e = inr (refl, e)
option_or_some (Some y) b x e = inl e

pub option_or_none : {A : Type 0} (a b : Option A) → option_or a b ≡ None → (a ≡ None) × (b ≡ None)
option_or_none None b e = (refl, e)
option_or_none (Some y) b e = absurd cc
