-- Tags: when two are the same, and their order (X.680 8.6).
use Rattle.std.specs.Prelude.{ℕ, Bool, ◌&&◌, nat_eq}
use Rattle.std.specs.declared.cmp.Ordering.{Ordering}
use Rattle.std.specs.Ordering.{nat_cmp, ordering_then}
use Rattle.guard_model.specs.declared.tag.Class.{Class}
use Rattle.guard_model.specs.declared.tag.Class.TheVariants.{Universal, Application, Context, Private}
use Rattle.guard_model.specs.declared.tag.Tag.{Tag}

-- the place of the class in the order of X.680 8.6: universal, application, context-specific, private
abbrev pub class_rank : Class → ℕ
class_rank Universal = 0
class_rank Application = 1
class_rank Context = 2
class_rank Private = 3

abbrev pub same_tag : Tag → Tag → Bool
same_tag a b = nat_eq (class_rank a.class) (class_rank b.class) && nat_eq a.number b.number

-- the order of tags: by class, then by number
abbrev pub tag_order : Tag → Tag → Ordering
tag_order a b = ordering_then (nat_cmp (class_rank a.class) (class_rank b.class)) (nat_cmp a.number b.number)
