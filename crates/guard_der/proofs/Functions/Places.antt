-- A type as the definitions see it, one level at a time, and components one after the other.
use Rattle.std.proofs.Common.{◌≡◌, ℕ, zero, suc, ◌<◌, ◌≤◌, List, [], ◌∷◌, length, get_or, ap, ◌∙◌, map, arith}
use Rattle.guard_model.specs.AbstractType.{AbstractType, AbstractPresence, Components, no_components, component}
use Rattle.guard_model.specs.TypeView.{OneComponent, type_view, component_view, components_of}
use Rattle.guard_model.specs.declared.ty.Kind.TheViews.{out-Comp}
use Rattle.guard_model.specs.declared.ty.Comp.{Comp}
use Rattle.guard_model.proofs.TypeViews.{component_view_is}

-- ---- what is found at a place

pub found_at : {X : Type 0} (of : AbstractType → X) (at : Components → ℕ → X)
    → ((name : List ℕ) (t : AbstractType) (p : AbstractPresence) (rest : Components) → at (component name t p rest) zero ≡ of t)
    → ((name : List ℕ) (t : AbstractType) (p : AbstractPresence) (rest : Components) (i : ℕ) → at (component name t p rest) (suc i) ≡ at rest i)
    → (comps : List Comp) (i : ℕ) (d : Comp) → i < length comps → at (components_of (map component_view comps)) i ≡ of (type_view (out-Comp (get_or comps i d)).ty)
found_at of at here later [] i d lt = absurd (omega arith)
found_at of at here later (c ∷ comps) zero d lt = here _ _ _ _ ∙ ap (λ (x : OneComponent). of x.ty) (component_view_is c)
found_at of at here later (c ∷ comps) (suc i) d lt = later _ _ _ _ i ∙ found_at of at here later comps i d (omega arith)

pub none_at : {X : Type 0} (none : X) (at : Components → ℕ → X) → ((i : ℕ) → at no_components i ≡ none)
    → ((name : List ℕ) (t : AbstractType) (p : AbstractPresence) (rest : Components) (i : ℕ) → at (component name t p rest) (suc i) ≡ at rest i)
    → (comps : List Comp) (i : ℕ) → length comps ≤ i → at (components_of (map component_view comps)) i ≡ none
none_at none at past later [] i le = past i
none_at none at past later (c ∷ comps) zero le = absurd (omega arith)
none_at none at past later (c ∷ comps) (suc i) le = later _ _ _ _ i ∙ none_at none at past later comps i (omega arith)
