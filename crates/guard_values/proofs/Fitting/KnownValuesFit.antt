-- What is known of the definitions that names mean fits.
use Rattle.std.proofs.Common.{ℕ, Option, Some, None}
use Rattle.std.specs.Prelude.{IfSome, IsTrue}
use Rattle.guard_der.specs.Fits.{fits}
use Rattle.guard_names.specs.declared.names.Names.{Names}
use Rattle.guard_values.specs.declared.scope.Known.{Known}
use Rattle.guard_values.specs.Meanings.{AreFitting}
use Rattle.guard_values.specs.Views.{known_definition, place_from, visible_from, AreKnownFitting}

pub known_fits : (known : Known) → AreKnownFitting known → (place : Option ℕ)
    → IfSome (known_definition known place) (λ g. IsTrue (fits g.ty g.value))
known_fits known fit None = tt
known_fits known fit (Some place) = fit place

pub visible_fit : (names : Names) (known : Known) (id : ℕ) → AreKnownFitting known
    → AreFitting (visible_from names known id)
visible_fit names known id fit = λ name. known_fits known fit (place_from names id name)
