-- What is mentioned in a list of parts or of components: what is mentioned in the first one, and in the others. And in an
-- element alone.
use Rattle.std.proofs.Common.{◌≡◌, ℕ, List, [], ◌∷◌, ◌++◌, map, Option, Some, None, refl, sym, ◌∙◌, ap, rules}
use Rattle.std.proofs.lemmas.List.{append-nil}
use Rattle.guard_model.specs.declared.site.Site.{Site}
use Rattle.guard_syntax.specs.declared.tree.PresenceWord.{PresenceWord}
use Rattle.guard_syntax.specs.declared.tree.ComponentConsTree.{ComponentConsTree}
use Rattle.guard_syntax.specs.declared.tree.ElementForm.TheFolds.{fold_out-ComponentConsTree}
use Rattle.guard_syntax.specs.declared.tree.ElementForm.TheViews.{out-ComponentConsTree}
use Rattle.guard_syntax.specs.SetViews.{intersection_alone, set_alone, part_view, perhaps_constraint_view}
use Rattle.guard_syntax.specs.Trees.{WrittenElement, WrittenConstraint, WrittenParts, part_before, parts_of, WrittenComponentForm, named, components_of_type, WrittenComponents, no_components, WrittenComponent, component_before, components_of}
use Rattle.guard_names.specs.Mentions.{in_set, in_intersection, in_element, in_parts, in_perhaps_constraint, in_components, in_component}

pub in_parts_before : (site : Site) (name : List ℕ) (c : Option WrittenConstraint) (presence : Option PresenceWord) (ps : WrittenParts) → in_parts (part_before site name c presence ps) ≡ in_perhaps_constraint c ++ in_parts ps
in_parts_before site name None presence ps = refl
in_parts_before site name (Some c) presence ps = refl

seen_part : (p : ComponentConsTree) → (part_view p).constraint ≡ perhaps_constraint_view (out-ComponentConsTree p).cons
seen_part p = search (rules, fold_out-ComponentConsTree)

-- the first part by itself
pub in_parts_first : (p : ComponentConsTree) (ps : List ComponentConsTree)
    → in_parts (parts_of (map part_view (p ∷ ps))) ≡ in_perhaps_constraint (perhaps_constraint_view (out-ComponentConsTree p).cons) ++ in_parts (parts_of (map part_view ps))
in_parts_first p ps =
    in_parts_before (part_view p).site (part_view p).name (part_view p).constraint (part_view p).presence (parts_of (map part_view ps))
    ∙ ap (λ o. in_perhaps_constraint o ++ in_parts (parts_of (map part_view ps))) (seen_part p)

in_components_before : (site : Site) (form : WrittenComponentForm) (cs : WrittenComponents) → in_components (component_before site form cs) ≡ in_component form ++ in_components cs
in_components_before site (named name t presence) cs = refl
in_components_before site (components_of_type t) cs = refl

-- the first component by itself
pub in_components_first : (c : WrittenComponent) (cs : List WrittenComponent) → in_components (components_of (c ∷ cs)) ≡ in_components (components_of (c ∷ [])) ++ in_components (components_of cs)
in_components_first c cs =
    in_components_before c.site c.form (components_of cs)
    ∙ ap (λ xs. xs ++ in_components (components_of cs)) (sym (in_components_before c.site c.form no_components ∙ append-nil (in_component c.form)))

-- an element alone is an intersection, and a set
pub in_intersection_alone : (e : WrittenElement) → in_intersection (intersection_alone e) ≡ in_element e
in_intersection_alone e = append-nil (in_element e)

pub in_set_alone : (e : WrittenElement) → in_set (set_alone e) ≡ in_element e
in_set_alone e = append-nil (in_intersection (intersection_alone e)) ∙ in_intersection_alone e
