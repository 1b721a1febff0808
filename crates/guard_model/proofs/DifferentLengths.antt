-- Lists of different lengths are different components, constraints and parts.
use Rattle.std.proofs.Common.{◌≡◌, ℕ, suc, Bool, true, false, List, [], ◌∷◌, Option, Some, None, refl, sym, ap, ◌∙◌, map, length}
use Rattle.std.proofs.lemmas.Bool.{and_parts, false_from_ne_true, false≢true}
use Rattle.std.proofs.lemmas.List.{length-map}
use Rattle.guard_model.specs.AbstractType as abstract
use Rattle.guard_model.specs.AbstractType.{Constraint, Parts, Constraints}
use Rattle.guard_model.specs.inside.Compared.{components_compared, constraint_compared, constraints_compared, parts_compared, components_in_view, constraints_in_view, parts_in_view, same_component}
use Rattle.guard_model.specs.SameType.{same_components, same_constraint, same_constraints, same_parts}
use Rattle.guard_model.specs.TypeView.{OneComponent, OnePart, component_view, components_of, constraint_view, constraints_of, part_view, parts_of, part_before}
use Rattle.guard_model.specs.declared.ty.Comp.{Comp}
use Rattle.guard_model.specs.declared.ty.Cons.{Cons}
use Rattle.guard_model.specs.declared.ty.Part.{Part}

components_long : (whole : Bool) (cs ds : List OneComponent) → same_components (components_compared whole (components_of cs)) (components_compared whole (components_of ds)) ≡ true → length cs ≡ length ds
components_long whole [] [] h = refl
components_long whole (c ∷ cs) (d ∷ ds) h = ap suc (components_long whole cs ds (and_parts (same_component whole c d) _ h).1)
components_long whole [] (d ∷ ds) h = absurd (false≢true h)
components_long whole (c ∷ cs) [] h = absurd (false≢true h)

pub components_apart : (whole : Bool) (cs ds : List Comp) → (length cs ≡ length ds → ⊥) → false ≡ same_components (components_in_view whole cs) (components_in_view whole ds)
components_apart whole cs ds h = sym (false_from_ne_true _ (λ e. h (sym (length-map cs component_view) ∙ components_long whole _ _ e ∙ length-map ds component_view)))

constraints_long : (whole : Bool) (cs ds : List Constraint) → same_constraints (constraints_compared whole (constraints_of cs)) (constraints_compared whole (constraints_of ds)) ≡ true → length cs ≡ length ds
constraints_long whole [] [] h = refl
constraints_long whole (c ∷ cs) (d ∷ ds) h = ap suc (constraints_long whole cs ds (and_parts (same_constraint (constraint_compared whole c) (constraint_compared whole d)) _ h).1)
constraints_long whole [] (d ∷ ds) h = absurd (false≢true h)
constraints_long whole (c ∷ cs) [] h = absurd (false≢true h)

pub constraints_apart : (whole : Bool) (cs ds : List Cons) → (length cs ≡ length ds → ⊥) → false ≡ same_constraints (constraints_in_view whole cs) (constraints_in_view whole ds)
constraints_apart whole cs ds h = sym (false_from_ne_true _ (λ e. h (sym (length-map cs constraint_view) ∙ constraints_long whole _ _ e ∙ length-map ds constraint_view)))

-- how many parts there are
abbrev count : Parts → ℕ
count abstract.no_parts = 0
count (abstract.part s j w ps) = suc (count ps)
count (abstract.part_within s j c w ps) = suc (count ps)

parts_long : (ps qs : Parts) → same_parts ps qs ≡ true → count ps ≡ count qs
parts_long abstract.no_parts abstract.no_parts h = refl
parts_long (abstract.part s j w ps) (abstract.part r k v qs) h = ap suc (parts_long ps qs (and_parts _ _ h).1)
parts_long (abstract.part_within s j c w ps) (abstract.part_within r k d v qs) h = ap suc (parts_long ps qs (and_parts _ _ h).1)
parts_long _ _ h = absurd (false≢true h)

counts_one : (whole : Bool) (p : OnePart) (within : Option Constraint) (rest : Parts) → count (parts_compared whole (part_before p.site p.place within p.word rest)) ≡ suc (count (parts_compared whole rest))
counts_one whole p None rest = refl
counts_one whole p (Some c) rest = refl

counts : (whole : Bool) (ps : List OnePart) → count (parts_compared whole (parts_of ps)) ≡ length ps
counts whole [] = refl
counts whole (p ∷ ps) = counts_one whole p p.within (parts_of ps) ∙ ap suc (counts whole ps)

pub parts_apart : (whole : Bool) (ps qs : List Part) → (length ps ≡ length qs → ⊥) → false ≡ same_parts (parts_in_view whole ps) (parts_in_view whole qs)
parts_apart whole ps qs h =
    sym (false_from_ne_true _ (λ e. h (sym (length-map ps part_view) ∙ sym (counts whole (map part_view ps)) ∙ parts_long _ _ e ∙ counts whole (map part_view qs) ∙ length-map qs part_view)))
