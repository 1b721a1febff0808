-- What a constraint tree denotes on a sound type may be on it.
use Rattle.std.proofs.Common.{◌≡◌, ◌∙◌, ℕ, Bool, List, Option, Some, refl}
use Rattle.std.specs.Prelude.{IsTrue, not}
use Rattle.std.specs.Option.{is_some}
use Rattle.std.proofs.lemmas.Bool.{and_from}
use Rattle.guard_model.specs.declared.site.Site.{Site}
use Rattle.guard_model.specs.AbstractType as type
use Rattle.guard_model.specs.AbstractType.{AbstractType, AbstractKind, Constraint, Constraints, Parts}
use Rattle.guard_model.specs.AbstractValue.{AbstractValue}
use Rattle.guard_model.specs.Components.{components_in}
use Rattle.guard_tagcheck.proofs.PartsAt.{type_at_place}
use Rattle.guard_der.specs.Der.{der}
use Rattle.guard_der.specs.Fits.{fits}
use Rattle.guard_der.specs.Sound.{is_sound, is_proper_constraint, are_proper_constraints, are_proper_parts}
use Rattle.guard_der.specs.ProperConstraints.{is_short, is_there_and, takes_size}
use Rattle.guard_model.specs.Kinds.{kind_of, has_size, has_parts, type_of_size, element_of, part_of, has_named_bits}
use Rattle.guard_model.specs.SameType.{same_base}
use Rattle.guard_syntax.specs.Trees as written
use Rattle.guard_syntax.specs.Trees.{WrittenValue, WrittenSet, WrittenSetForm, WrittenUnited, WrittenIntersection, WrittenMet, WrittenDifference, WrittenElement, WrittenElementForm, WrittenConstraint, WrittenParts, set_node, all_except, union, none_united, united, intersection, none_met, met, element_alone, element_except, element_node, constraint, no_parts, part, part_in}
use Rattle.guard_values.specs.Denotes as values
use Rattle.guard_values.specs.Places.{Located}
use Rattle.guard_values.proofs.Denoted.SettledFields.{located_type}
use Rattle.guard_constraints.specs.Visible.{Visible}
use Rattle.guard_constraints.specs.ListedParts.{named_in}
use Rattle.guard_constraints.specs.Denotes.{Denotes, SetDenotes, SetFormDenotes, UnitedDenote, IntersectionDenotes, MetDenote, DifferenceDenotes, ElementDenotes, FormDenotes, ListedDenote, joined}
use Rattle.guard_constraints.proofs.Denoted.SoundParts.{size_sound, element_sound, component_sound}

-- ---- components by their places

part_there : (kind : AbstractKind) (name : List ℕ) (p : Located) → named_in kind name ≡ Some p → part_of p.place kind ≡ Some p.ty
part_there kind name p e = type_at_place (components_in kind) p.place ∙ located_type (components_in kind) name p e

there_and : (test : AbstractType → Bool) (found : Option AbstractType) (u : AbstractType) → found ≡ Some u → IsTrue (test u) → IsTrue (is_there_and test found)
there_and test found u e h = rw e h

is_there : (found : Option AbstractType) (u : AbstractType) → found ≡ Some u → IsTrue (is_some found)
is_there found u e = rw e refl

-- ---- one alone, or several

union_proper : (t : AbstractType) (site : Site) (d : Constraint) (ds : Constraints) → IsTrue (is_proper_constraint d t) → IsTrue (are_proper_constraints ds t) → IsTrue (is_proper_constraint (joined type.union site d ds) t)
union_proper t site d type.no_constraints h k = h
union_proper t site d (type.constraint e ds) h k = and_from (is_proper_constraint d t) (are_proper_constraints (type.constraint e ds) t) h k

intersection_proper : (t : AbstractType) (site : Site) (d : Constraint) (ds : Constraints) → IsTrue (is_proper_constraint d t) → IsTrue (are_proper_constraints ds t) → IsTrue (is_proper_constraint (joined type.intersection site d ds) t)
intersection_proper t site d type.no_constraints h k = h
intersection_proper t site d (type.constraint e ds) h k = and_from (is_proper_constraint d t) (are_proper_constraints (type.constraint e ds) t) h k

-- ---- all of it, where each written value fits its type and each visible type is sound

module _ (names : Visible) (fit : (t : AbstractType) (tree : WrittenValue) (v : AbstractValue) → IsTrue (is_sound t) → values.Denotes names.values t tree v → IsTrue (fits t v))
    (known : (name : List ℕ) (u : AbstractType) → names.types name ≡ Some u → IsTrue (is_sound u)) where
  mutual
    pub proper : (t : AbstractType) (tree : WrittenConstraint) (c : Constraint) → IsTrue (is_sound t) → Denotes names t tree c → IsTrue (is_proper_constraint c t)
    proper t (constraint site tree) c sound h = set_proper t tree c sound h

    set_proper : (t : AbstractType) (tree : WrittenSet) (c : Constraint) → IsTrue (is_sound t) → SetDenotes names t tree c → IsTrue (is_proper_constraint c t)
    set_proper t (set_node site form) c sound h = set_form_proper t site form c sound h

    set_form_proper : (t : AbstractType) (site : Site) (form : WrittenSetForm) (c : Constraint) → IsTrue (is_sound t) → SetFormDenotes names t site form c → IsTrue (is_proper_constraint c t)
    set_form_proper t site (all_except e) c sound h = rw h.2 (element_proper t e h.0 sound h.1)
    set_form_proper t site (union first others) c sound h = rw h.4 (union_proper t site h.0 h.1 (met_together t first h.0 sound h.2) (united_proper t others h.1 sound h.3))

    united_proper : (t : AbstractType) (tree : WrittenUnited) (cs : Constraints) → IsTrue (is_sound t) → UnitedDenote names t tree cs → IsTrue (are_proper_constraints cs t)
    united_proper t none_united cs sound h = rw h refl
    united_proper t (united mark one others) cs sound h =
        rw h.4 (and_from (is_proper_constraint h.0 t) (are_proper_constraints h.1 t) (met_together t one h.0 sound h.2) (united_proper t others h.1 sound h.3))

    met_together : (t : AbstractType) (tree : WrittenIntersection) (c : Constraint) → IsTrue (is_sound t) → IntersectionDenotes names t tree c → IsTrue (is_proper_constraint c t)
    met_together t (intersection site first others) c sound h = rw h.4 (intersection_proper t site h.0 h.1 (difference_proper t first h.0 sound h.2) (met_proper t others h.1 sound h.3))

    met_proper : (t : AbstractType) (tree : WrittenMet) (cs : Constraints) → IsTrue (is_sound t) → MetDenote names t tree cs → IsTrue (are_proper_constraints cs t)
    met_proper t none_met cs sound h = rw h refl
    met_proper t (met mark one others) cs sound h =
        rw h.4 (and_from (is_proper_constraint h.0 t) (are_proper_constraints h.1 t) (difference_proper t one h.0 sound h.2) (met_proper t others h.1 sound h.3))

    difference_proper : (t : AbstractType) (tree : WrittenDifference) (c : Constraint) → IsTrue (is_sound t) → DifferenceDenotes names t tree c → IsTrue (is_proper_constraint c t)
    difference_proper t (element_alone site e) c sound h = element_proper t e c sound h
    difference_proper t (element_except site e f) c sound h =
        rw h.4 (and_from (is_proper_constraint h.0 t) (is_proper_constraint h.1 t) (element_proper t e h.0 sound h.2) (element_proper t f h.1 sound h.3))

    element_proper : (t : AbstractType) (tree : WrittenElement) (c : Constraint) → IsTrue (is_sound t) → ElementDenotes names t tree c → IsTrue (is_proper_constraint c t)
    element_proper t (element_node site form) c sound h = form_proper t site form c sound h

    form_proper : (t : AbstractType) (site : Site) (form : WrittenElementForm) (c : Constraint) → IsTrue (is_sound t) → FormDenotes names t site form c → IsTrue (is_proper_constraint c t)
    form_proper t site (written.parentheses set) c sound h = set_proper t set c sound h
    form_proper t site (written.value tree) c sound h = rw h.2 (and_from (fits t h.0) (is_short (der t h.0)) (fit t tree h.0 sound h.1) h.1.1)
    form_proper t site (written.contained includes name_site name) c sound h = rw h.3 (and_from (same_base h.0 t) (is_sound h.0) h.2 (known name h.0 h.1))
    form_proper t site (written.range r) c sound h = rw h.2.4 h.0
    form_proper t site (written.size inner) c sound h =
        rw h.2.2 (and_from (takes_size (kind_of t)) (is_proper_constraint h.2.0 type_of_size)
        (and_from (has_size (kind_of t)) (not (has_named_bits (kind_of t))) h.0 h.1) (proper type_of_size inner h.2.0 size_sound h.2.1))
    form_proper t site (written.from (constraint inner set)) c sound h = rw h.1.3 h.0
    form_proper t site (written.with_component inner) c sound h =
        rw h.4 (there_and (is_proper_constraint h.1) (element_of (kind_of t)) h.0 h.2 (proper h.0 inner h.1 (element_sound t h.0 sound h.2) h.3))
    form_proper t site (written.with_components partial ps) c sound h =
        rw h.2.2 (and_from (has_parts (kind_of t)) (are_proper_parts h.2.0 t) h.0 (parts_proper t ps h.2.0 sound h.2.1))

    parts_proper : (t : AbstractType) (ps : WrittenParts) (qs : Parts) → IsTrue (is_sound t) → ListedDenote names (kind_of t) ps qs → IsTrue (are_proper_parts qs t)
    parts_proper t no_parts qs sound h = rw h refl
    parts_proper t (part site name presence others) qs sound h =
        rw h.4 (and_from (is_some (part_of h.0.place (kind_of t))) (are_proper_parts h.1 t) (is_there (part_of h.0.place (kind_of t)) h.0.ty (part_there (kind_of t) name h.0 h.2)) (parts_proper t others h.1 sound h.3))
    parts_proper t (part_in site name inner presence others) qs sound h =
        rw h.6 (and_from (is_there_and (is_proper_constraint h.1) (part_of h.0.place (kind_of t))) (are_proper_parts h.2 t)
        (there_and (is_proper_constraint h.1) (part_of h.0.place (kind_of t)) h.0.ty (part_there (kind_of t) name h.0 h.3) (proper h.0.ty inner h.1 (component_sound t name h.0 sound h.3) h.4))
        (parts_proper t others h.2 sound h.5))
