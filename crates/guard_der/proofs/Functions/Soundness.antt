-- The tests of a list of components, and of a default.
use Rattle.std.proofs.Common.{◌≡◌, ℕ, ◌<◌, ◌≤◌, Bool, true, false, cond, List, length, map, Option, Some, None, refl, sym, ap, arith}
use Rattle.std.specs.Prelude.{◌&&◌, is_some, nat_le}
use Rattle.std.proofs.lemmas.Bool.{le-leb, lt-leb}
use Rattle.guard_model.specs.TypeView.{component_view, components_of}
use Rattle.guard_model.specs.declared.ty.Comp.{Comp}
use Rattle.guard_der.specs.Encoding.{longest_encoding, short_length}
use Rattle.guard_der.specs.ProperConstraints.{is_short}
use Rattle.guard_model.specs.Counts.{component_count}
use Rattle.guard_model.proofs.Components.{component_count_view}

pub many_components : (comps : List Comp) (proper : Bool) → 64 < length comps → false ≡ (nat_le (component_count (components_of (map component_view comps))) 64 && proper)
many_components comps proper many = ap (λ (b : Bool). b && proper) (sym (lt-leb (component_count (components_of (map component_view comps))) 64 (omega (arith, component_count_view comps, many))))

pub few_components : (comps : List Comp) (proper : Bool) → length comps ≤ 64 → proper ≡ (nat_le (component_count (components_of (map component_view comps))) 64 && proper)
few_components comps proper few = ap (λ (b : Bool). b && proper) (sym (le-leb (component_count (components_of (map component_view comps))) 64 (omega (arith, component_count_view comps, few))))

-- ---- defaults

there_by : (b : Bool) (n : ℕ) → is_some (cond {A = Option ℕ} b (Some n) None) ≡ b
there_by true n = refl
there_by false n = refl

-- an encoding is short exactly where its length is told
pub told_where_short : (x : Option (List ℕ)) → is_some (short_length x) ≡ is_short x
told_where_short None = refl
told_where_short (Some os) = there_by (nat_le (length os) longest_encoding) (length os)
