-- Constraints that may be on a type may be on it under other tags too, unless the encoding of a value gets too
-- long.
use Rattle.std.proofs.Common.{◌≡◌, Bool, true, false, not, ◌&&◌, List, Option, Some, None, IsTrue, refl}
use Rattle.std.specs.Option.{option_or}
use Rattle.std.proofs.lemmas.Bool.{and_parts, and_from}
use Rattle.guard_model.specs.declared.site.Site.{Site}
use Rattle.guard_model.specs.declared.tag.Tag.{Tag}
use Rattle.guard_model.specs.AbstractType as type
use Rattle.guard_model.specs.AbstractType.{AbstractType, AbstractKind, Components, Constraint, Constraints, Element}
use Rattle.guard_model.specs.AbstractType.{Parts, type_of}
use Rattle.guard_tagging.specs.Types.{join}
use Rattle.guard_der.specs.Der.{der}
use Rattle.guard_der.specs.Fits.{fits}
use Rattle.guard_der.specs.Sound.{is_proper, is_proper_presence, are_proper, is_proper_element, is_proper_constraint}
use Rattle.guard_der.specs.Sound.{are_proper_constraints, are_proper_parts}
use Rattle.guard_der.specs.ProperConstraints.{is_short}
use Rattle.guard_schema.specs.LongValues.{is_long, site_where, long_in, long_there, long_in_all}

none_first : {A : Type 0} (a b : Option A) → option_or a b ≡ None → a ≡ None
none_first None b h = refl
none_first (Some x) b h = absurd cc

none_then : {A : Type 0} (a b : Option A) → option_or a b ≡ None → b ≡ None
none_then None b h = h
none_then (Some x) b h = absurd cc

-- ---- one type

module _ (tags others : List Tag) (kind : AbstractKind) (cs ds : Constraints) where
  abbrev before : AbstractType
  before = type_of tags kind cs

  abbrev after : AbstractType
  after = type_of others kind ds

  not_long : (here : Bool) (site : Site) → site_where here site ≡ None → here ≡ false
  not_long true site h = absurd cc
  not_long false site h = refl

  short_then : (fit short : Bool) → fit ≡ true → (fit && not short) ≡ false → (fit && short) ≡ true
  short_then true true f h = refl
  short_then true false f h = absurd cc
  short_then false short f h = absurd cc

  mutual
    constraint_again : (c : Constraint) → IsTrue (is_proper_constraint c before) → long_in after c ≡ None
        → IsTrue (is_proper_constraint c after)
    constraint_again (type.at site e) h n = element_again site e h n

    element_again : (site : Site) (e : Element) → IsTrue (is_proper_element e before) → long_there after site e ≡ None
        → IsTrue (is_proper_element e after)
    element_again site (type.single_value v) h n =
        short_then (fits after v) (is_short (der after v)) (and_parts (fits before v) (is_short (der before v)) h).0
        (not_long (is_long after v) site n)
    element_again site (type.with_components partial ps) h n = let p =
        and_parts _ _ h in and_from _ _ p.0 (parts_again ps p.1)
    element_again site (type.union all) h n = all_again all h n
    element_again site (type.intersection all) h n = all_again all h n
    element_again site (type.except c d) h n =
        let p = and_parts (is_proper_constraint c before) (is_proper_constraint d before) h in
        and_from (is_proper_constraint c after) (is_proper_constraint d after)
        (constraint_again c p.0 (none_first (long_in after c) (long_in after d) n))
        (constraint_again d p.1 (none_then (long_in after c) (long_in after d) n))
    element_again site (type.all_except c) h n = constraint_again c h n
    element_again site e h n = h

    pub all_again : (all : Constraints) → IsTrue (are_proper_constraints all before) → long_in_all after all ≡ None
        → IsTrue (are_proper_constraints all after)
    all_again type.no_constraints h n = refl
    all_again (type.constraint c all) h n =
        let p = and_parts (is_proper_constraint c before) (are_proper_constraints all before) h in
        and_from (is_proper_constraint c after) (are_proper_constraints all after)
        (constraint_again c p.0 (none_first (long_in after c) (long_in_all after all) n))
        (all_again all p.1 (none_then (long_in after c) (long_in_all after all) n))

    parts_again : (ps : Parts) → IsTrue (are_proper_parts ps before) → IsTrue (are_proper_parts ps after)
    parts_again type.no_parts h = refl
    parts_again (type.part site i word ps) h = let p = and_parts _ _ h in and_from _ _ p.0 (parts_again ps p.1)
    parts_again (type.part_within site i c word ps) h = let p = and_parts _ _ h in and_from _ _ p.0 (parts_again ps p.1)

-- ---- lists of components

pub proper_join : (xs ys : Components) → IsTrue (are_proper xs) → IsTrue (are_proper ys)
    → IsTrue (are_proper (join xs ys))
proper_join type.no_components ys h k = k
proper_join (type.component name t presence xs) ys h k =
    let p = and_parts (is_proper t && is_proper_presence t presence) (are_proper xs) h in
    and_from (is_proper t && is_proper_presence t presence) (are_proper (join xs ys)) p.0 (proper_join xs ys p.1 k)
