-- Looking for a component by its name, one after another.
use Rattle.std.proofs.Common.{◌≡◌, ℕ, ◌+◌, ◌<◌, ◌≤◌, Bool, true, false, List, Option, Some, None, length, get_or, option_map, refl, sym, ap, ◌∙◌, arith}
use Rattle.std.specs.Arc.{arc_str_bytes}
use Rattle.std.specs.Prelude.{bytes_eq}
use Rattle.guard_model.specs.TypeView.{type_view}
use Rattle.guard_model.specs.declared.ty.Comp.{Comp}
use Rattle.guard_model.specs.declared.ty.Kind.TheViews.{out-Comp}
use Rattle.std.specs.Prelude.{nat_lt}
use Rattle.std.proofs.Common.{◌&&◌, Ok, Err}
use Rattle.guard_model.specs.AbstractValue.{Fields}
use Rattle.guard_model.specs.declared.site.Site.{Site}
use Rattle.guard_der.specs.Reading.{is_filled}
use Rattle.guard_values.specs.declared.fault.ValueFault.TheVariants.{RepeatedComponent, OutOfOrder}
use Rattle.guard_values.specs.inside.Reading.{placed}
use Rattle.guard_values.specs.Places.{Located, located, further}
use Rattle.guard_model.proofs.Components.{left, left_is, none_left}

-- its place in the whole list, of which these are those from place i on
abbrev pub from : ℕ → Located → Located
from i l = record { place = i + l.place; ty = l.ty }

from_zero : (found : Option Located) → option_map (from 0) found ≡ found
from_zero None = refl
from_zero (Some l) = ap (λ n. Some (record { place = n; ty = l.ty })) (omega arith)

pub at_first : (name : List ℕ) (comps : List Comp) → option_map (from 0) (located name (left comps 0)) ≡ located name (left comps 0)
at_first name comps = from_zero (located name (left comps 0))

from_further : (i : ℕ) (found : Option Located) → option_map (from i) (option_map further found) ≡ option_map (from (i + 1)) found
from_further i None = refl
from_further i (Some l) = ap (λ n. Some (record { place = n; ty = l.ty })) (omega arith)

pub found_here : (name : List ℕ) (comps : List Comp) (i : ℕ) (comp : Comp) (total : Option Located) → i < length comps → comp ≡ get_or comps i comp → bytes_eq name (arc_str_bytes (out-Comp comp).name) ≡ true
    → option_map (from i) (located name (left comps i)) ≡ total → Some (record { place = i; ty = type_view (out-Comp comp).ty }) ≡ total
found_here name comps i comp total lt is same so_far =
    let here : located name (left comps i) ≡ Some (record { place = 0; ty = type_view (out-Comp comp).ty }) = ap (located name) (left_is comps i comp lt is) ∙ rw same refl in
    ap (λ n. Some (record { place = n; ty = type_view (out-Comp comp).ty })) (omega arith) ∙ sym (ap (option_map (from i)) here) ∙ so_far

pub not_here : (name : List ℕ) (comps : List Comp) (i : ℕ) (comp : Comp) (total : Option Located) → i < length comps → comp ≡ get_or comps i comp → bytes_eq name (arc_str_bytes (out-Comp comp).name) ≡ false
    → option_map (from i) (located name (left comps i)) ≡ total → option_map (from (i + 1)) (located name (left comps (i + 1))) ≡ total
not_here name comps i comp total lt is other so_far =
    let here : located name (left comps i) ≡ option_map further (located name (left comps (i + 1))) = ap (located name) (left_is comps i comp lt is) ∙ rw other refl in
    sym (from_further i (located name (left comps (i + 1)))) ∙ sym (ap (option_map (from i)) here) ∙ so_far

pub nowhere : (name : List ℕ) (comps : List Comp) (i : ℕ) (total : Option Located) → length comps ≤ i → option_map (from i) (located name (left comps i)) ≡ total → None ≡ total
nowhere name comps i total le so_far = sym (ap (λ cs. option_map (from i) (located name cs)) (none_left comps i le)) ∙ so_far

-- ---- where the value of an entry goes

module _ (ordered : Bool) (next : ℕ) (fs : Fields) (site : Site) (found : Option Located) (l : Located) (e : found ≡ Some l) where
  pub place_taken : is_filled l.place fs ≡ true → placed ordered next fs site found ≡ Err (RepeatedComponent site)
  place_taken full = rw (e, full) refl

  pub place_late : is_filled l.place fs ≡ false → (ordered && nat_lt l.place next) ≡ true → placed ordered next fs site found ≡ Err (OutOfOrder site)
  place_late free late = rw (e, free, late) refl

  pub place_found : is_filled l.place fs ≡ false → (ordered && nat_lt l.place next) ≡ false → placed ordered next fs site found ≡ Ok l
  place_found free late = rw (e, free, late) refl
