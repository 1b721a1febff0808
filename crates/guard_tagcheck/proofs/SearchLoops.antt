-- The search of the code goes as it is defined.
use Rattle.std.proofs.Common.{◌≡◌, ℕ, suc, ◌+◌, ◌<◌, List, length, get_or, Option, Some, None, refl, sym, ap, ◌∙◌, add-one, arith}
use Rattle.std.specs.Prelude.{IsTrue, option_map}
use Rattle.guard_model.specs.declared.site.Step.TheVariants.{Component}
use Rattle.guard_model.specs.TypeView.{type_view}
use Rattle.guard_model.specs.declared.ty.Ty.{Ty}
use Rattle.guard_model.specs.declared.ty.Comp.{Comp}
use Rattle.guard_model.specs.declared.ty.Kind.TheViews.{out-Comp}
use Rattle.guard_model.specs.Limits.{deepest_nesting}
use Rattle.guard_tagcheck.specs.declared.clash.Clash.{Clash}
use Rattle.guard_tagcheck.specs.Limits.{keeps_limits, nesting}
use Rattle.guard_tagcheck.specs.Distinct.{AbstractClash}
use Rattle.guard_tagcheck.specs.Search.{first_clash, clash_inside, below}
use Rattle.guard_tagcheck.specs.Views.{clash_view}
use Rattle.guard_model.proofs.Components.{left, left_is}
use Rattle.guard_tagcheck.proofs.PathLengths.{type_paths}

-- the clash that was found
pub found : (ty : Ty) (answer : Option Clash) (clash : Clash) → answer ≡ Some clash → option_map clash_view answer ≡ first_clash (type_view ty) → first_clash (type_view ty) ≡ Some (clash_view clash)
found ty answer clash is told = sym told ∙ ap (λ (o : Option Clash). option_map clash_view o) is

pub found_none : (ty : Ty) (answer : Option Clash) → answer ≡ None → option_map clash_view answer ≡ first_clash (type_view ty) → first_clash (type_view ty) ≡ None
found_none ty answer is told = sym told ∙ ap (λ (o : Option Clash). option_map clash_view o) is

pub path_fits : (ty : Ty) (answer : Option Clash) (clash : Clash) → IsTrue (keeps_limits (type_view ty)) → nesting (type_view ty) < deepest_nesting → answer ≡ Some clash → option_map clash_view answer ≡ first_clash (type_view ty) → length clash.path.items < deepest_nesting
path_fits ty answer clash limits depth is told = omega (arith, type_paths (type_view ty) (clash_view clash) limits (found ty answer clash is told), depth)

pub inside_found : (comps : List Comp) (i : ℕ) (comp : Comp) (c : AbstractClash) (total : Option AbstractClash) → i < length comps → comp ≡ get_or comps i comp
    → first_clash (type_view (out-Comp comp).ty) ≡ Some c → clash_inside i (left comps i) ≡ total → Some (below (Component i) c) ≡ total
inside_found comps i comp c total lt is told so_far =
    let e : clash_inside i (left comps i) ≡ Some (below (Component i) c) = rw (left_is comps i comp lt is, told) refl in
    sym e ∙ so_far

pub inside_goes_on : (comps : List Comp) (i : ℕ) (comp : Comp) (total : Option AbstractClash) → i < length comps → comp ≡ get_or comps i comp
    → first_clash (type_view (out-Comp comp).ty) ≡ None → clash_inside i (left comps i) ≡ total → clash_inside (i + 1) (left comps (i + 1)) ≡ total
inside_goes_on comps i comp total lt is told so_far =
    let e : clash_inside i (left comps i) ≡ clash_inside (suc i) (left comps (i + 1)) = rw (left_is comps i comp lt is, told) refl in
    ap (λ (k : ℕ). clash_inside k (left comps (i + 1))) (add-one i) ∙ sym e ∙ so_far
