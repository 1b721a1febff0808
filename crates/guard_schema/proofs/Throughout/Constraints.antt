-- What a written constraint denotes, it denotes also where more names mean something.
use Rattle.std.proofs.Common.{Bool, Option, Some, None}
use Rattle.guard_model.specs.declared.site.Site.{Site}
use Rattle.guard_model.specs.declared.ty.Limit.{Limit}
use Rattle.guard_model.specs.AbstractType.{AbstractType, AbstractKind, Constraint, Constraints, Parts}
use Rattle.guard_model.specs.AbstractValue as value
use Rattle.guard_model.specs.Kinds.{kind_of, type_of_size}
use Rattle.guard_syntax.specs.Trees as written
use Rattle.guard_syntax.specs.Trees.{WrittenEnd, WrittenSet, WrittenSetForm, WrittenUnited, WrittenIntersection}
use Rattle.guard_syntax.specs.Trees.{WrittenMet, WrittenDifference, WrittenElement, WrittenElementForm}
use Rattle.guard_syntax.specs.Trees.{WrittenConstraint, WrittenParts, set_node, all_except, union, none_united, united}
use Rattle.guard_syntax.specs.Trees.{intersection, none_met, met, element_alone, element_except, element_node}
use Rattle.guard_syntax.specs.Trees.{constraint, no_parts, part, part_in}
use Rattle.guard_constraints.specs.Visible.{Visible}
use Rattle.guard_constraints.specs.RangeEnds.{value_of_end, LimitDenotes}
use Rattle.guard_constraints.specs.Denotes.{Denotes, SetDenotes, SetFormDenotes, UnitedDenote, IntersectionDenotes}
use Rattle.guard_constraints.specs.Denotes.{MetDenote, DifferenceDenotes, ElementDenotes, FormDenotes, ListedDenote}
use Rattle.guard_schema.proofs.Throughout.Values.{Grows, value_grown}

module _ (a b : Visible) (values : Grows a.values b.values) (types : Grows a.types b.types) where
  limit_grown : (t : AbstractType) (outside : Bool) (e : Option WrittenEnd) (l : Limit)
      → LimitDenotes a.values t outside e l → LimitDenotes b.values t outside e l
  limit_grown t outside None l h = h
  limit_grown t outside (Some e) l (z, h, is) =
      (z, value_grown a.values b.values values t (value_of_end e) (value.integer z) h, is)

  mutual
    pub constraint_grown : (t : AbstractType) (tree : WrittenConstraint) (c : Constraint) → Denotes a t tree c
        → Denotes b t tree c
    constraint_grown t (constraint site set) c h = set_grown t set c h

    set_grown : (t : AbstractType) (set : WrittenSet) (c : Constraint) → SetDenotes a t set c → SetDenotes b t set c
    set_grown t (set_node site form) c h = set_form_grown t site form c h

    set_form_grown : (t : AbstractType) (site : Site) (form : WrittenSetForm) (c : Constraint)
        → SetFormDenotes a t site form c → SetFormDenotes b t site form c
    set_form_grown t site (all_except e) c (d, h, is) = (d, element_grown t e d h, is)
    set_form_grown t site (union first others) c (d, ds, h, k, is) =
        (d, ds, intersection_grown t first d h, united_grown t others ds k, is)

    united_grown : (t : AbstractType) (others : WrittenUnited) (cs : Constraints) → UnitedDenote a t others cs
        → UnitedDenote b t others cs
    united_grown t none_united cs h = h
    united_grown t (united mark one others) cs (d, ds, h, k, is) =
        (d, ds, intersection_grown t one d h, united_grown t others ds k, is)

    intersection_grown : (t : AbstractType) (i : WrittenIntersection) (c : Constraint) → IntersectionDenotes a t i c
        → IntersectionDenotes b t i c
    intersection_grown t (intersection site first others) c (d, ds, h, k, is) =
        (d, ds, difference_grown t first d h, met_grown t others ds k, is)

    met_grown : (t : AbstractType) (others : WrittenMet) (cs : Constraints) → MetDenote a t others cs
        → MetDenote b t others cs
    met_grown t none_met cs h = h
    met_grown t (met mark one others) cs (d, ds, h, k, is) =
        (d, ds, difference_grown t one d h, met_grown t others ds k, is)

    difference_grown : (t : AbstractType) (d : WrittenDifference) (c : Constraint) → DifferenceDenotes a t d c
        → DifferenceDenotes b t d c
    difference_grown t (element_alone site e) c h = element_grown t e c h
    difference_grown t (element_except site e f) c (d, less, h, k, is) =
        (d, less, element_grown t e d h, element_grown t f less k, is)

    element_grown : (t : AbstractType) (e : WrittenElement) (c : Constraint) → ElementDenotes a t e c
        → ElementDenotes b t e c
    element_grown t (element_node site form) c h = form_grown t site form c h

    form_grown : (t : AbstractType) (site : Site) (form : WrittenElementForm) (c : Constraint)
        → FormDenotes a t site form c → FormDenotes b t site form c
    form_grown t site (written.parentheses set) c h = set_grown t set c h
    form_grown t site (written.value tree) c (v, h, is) = (v, value_grown a.values b.values values t tree v h, is)
    form_grown t site (written.contained includes name_site name) c (u, h, base, is) = (u, types name u h, base, is)
    form_grown t site (written.range r) c (integer, proper, (low, high, h, k, is)) = (
      integer,
      proper,
      (
        low,
        high,
        limit_grown t r.above_low r.low low h,
        limit_grown t r.below_high r.high high k,
        is,
      ),
    )
    form_grown t site (written.size inner) c (sized, unnamed, (d, h, is)) =
        (sized, unnamed, (d, constraint_grown type_of_size inner d h, is))
    form_grown t site (written.from inner) c h = h
    form_grown t site (written.with_component inner) c (u, d, at, h, is) = (u, d, at, constraint_grown u inner d h, is)
    form_grown t site (written.with_components partial ps) c (has, none, (qs, h, is)) =
        (has, none, (qs, listed_grown (kind_of t) ps qs h, is))

    listed_grown : (kind : AbstractKind) (ps : WrittenParts) (qs : Parts) → ListedDenote a kind ps qs
        → ListedDenote b kind ps qs
    listed_grown kind no_parts qs h = h
    listed_grown kind (part site name presence others) qs (p, more, at, h, is) =
        (p, more, at, listed_grown kind others more h, is)
    listed_grown kind (part_in site name inner presence others) qs (p, d, more, at, h, k, is) =
        (p, d, more, at, constraint_grown p.ty inner d h, listed_grown kind others more k, is)
