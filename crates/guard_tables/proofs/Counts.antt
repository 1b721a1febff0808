-- Sums of counts.
use Rattle.std.proofs.Common.{◌≡◌, ℕ, zero, suc, ◌+◌, ◌≤◌, min, List, Option, Some, None, refl, ◌∙◌, arith}
use Rattle.std.specs.Prelude.{nat_le, nat_lt, not}
use Rattle.std.proofs.lemmas.Bool.Decides.{leb_tells}
use Rattle.guard_model.specs.AbstractType.{Components, no_components, component}
use Rattle.guard_model.specs.Components.{component_at}
use Rattle.guard_model.specs.TypeView.{OneComponent}
use Rattle.guard_tables.specs.Conditions.{counted, of_type, of_component}

-- nothing is to come
pub none_more : (count all : ℕ) → count ≤ 18446744073709551615 → counted (count + 0) ≡ counted all → count ≡ counted all
none_more count all h e = omega (arith, h, e)

-- the test against the greatest number that is allowed
pub is_above : (count : ℕ) → nat_lt 256 (counted count) ≡ not (nat_le count 256)
is_above count = grind (arith, leb_tells)

pub counted_sum : (a b : ℕ) → min (counted a + counted b) 18446744073709551615 ≡ counted (a + b)
counted_sum a b = omega arith

-- after one more, in the middle of a sum
pub one_more : (count a rest all : ℕ) → counted (count + (a + rest)) ≡ counted all → counted (min (count + counted a) 18446744073709551615 + rest) ≡ counted all
one_more count a rest all e = let s : counted (min (count + counted a) 18446744073709551615 + rest) ≡ counted (count + (a + rest)) = omega arith in s ∙ e

-- of the component that is found at this place
abbrev pub of_found : Option OneComponent → List ℕ → ℕ
of_found None way = 0
of_found (Some c) way = of_type c.ty way

pub component_found : (cs : Components) (i : ℕ) (way : List ℕ) → of_component cs i way ≡ of_found (component_at i cs) way
component_found no_components i way = refl
component_found (component name t presence cs) zero way = refl
component_found (component name t presence cs) (suc i) way = component_found cs i way
