-- Values that stand alone: the names in them mean what they mean in a module.
use Rattle.std.proofs.Common.{◌≡◌, ℕ, List, Option, Some, None, slice_get, refl, ap, subst, ◌∙◌}
use Rattle.std.specs.Prelude.{option_and_then}
use Rattle.std.proofs.Math.Path.{fun_ext}
use Rattle.guard_names.specs.Faults.{AreFaultless}
use Rattle.guard_names.specs.Meanings.{Means, number_meant}
use Rattle.guard_names.specs.NamesView.{modules_of, order_of}
use Rattle.guard_names.specs.Places.{place_in, place_meant}
use Rattle.guard_names.proofs.ByNames.SameUses.{are_meant}
use Rattle.guard_names.proofs.Declared.Meaning.{means_number}
use Rattle.guard_values.specs.Meanings.{Meaning}
use Rattle.guard_values.specs.Views.{visible_in}
use Rattle.guard_schema.specs.declared.built_modules.BuiltModules.{BuiltModules}
use Rattle.guard_schema.specs.Known.{Known, built_at, governed, values_in}
use Rattle.guard_schema.specs.Views.{known_of}
use Rattle.guard_schema.proofs.Built.Visible.{values_placed}

-- what holds by what the code keeps holds by what names mean in the module
pub in_module : (P : Meaning → Type 0) (b : BuiltModules) (home found : List ℕ) → found ≡ home
    → P (visible_in b.names b.schema.known found) → P (values_in (known_of b) home)
in_module P b home found same h =
    subst P (ap (visible_in b.names b.schema.known) same
    ∙ fun_ext (λ name. values_placed b.schema.known (place_meant (modules_of b.names) (order_of b.names) home name))) h

-- what is built of a definition that the name means
pub means_value : (k : Known) (home name : List ℕ) (number : ℕ) → AreFaultless k.modules
    → Means k.modules home name number
    → values_in k home name ≡ governed (built_at k.built (place_in k.order number))
means_value k home name number faultless means =
    ap (λ (o : Option ℕ). governed (option_and_then (slice_get k.built) (option_and_then (place_in k.order) o)))
    (are_meant k.modules faultless.named home name number means)

-- where it means none, it means no value
pub means_none : (k : Known) (home name : List ℕ) → ((number : ℕ) → Means k.modules home name number → ⊥)
    → values_in k home name ≡ None
means_none k home name none = by (number_meant k.modules home name) refl
  where
    by : (o : Option ℕ) → number_meant k.modules home name ≡ o
        → governed (option_and_then (slice_get k.built) (option_and_then (place_in k.order) o)) ≡ None
    by None is = refl
    by (Some number) is = absurd (none number (means_number k.modules home name number is))
