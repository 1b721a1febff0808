-- Worked examples of barren types, computed from the definitions. `n` is an INTEGER, `s` an OCTET STRING, `q` a
-- SEQUENCE with one component.
use Rattle.std.specs.Prelude.{◌≡◌, ℕ, pos, true, false, [], None, refl}
use Rattle.guard_model.specs.AbstractType as type
use Rattle.guard_model.specs.AbstractType.{AbstractType, AbstractPresence, Constraint, Constraints, Element, type_of, no_components, component, at, no_constraints, constraint}
use Rattle.guard_model.specs.declared.site.Site.{Site}
use Rattle.guard_model.specs.declared.ty.Limit.TheVariants.{Free, At, Past}
use Rattle.guard_policy.specs.Barren.{is_barren}

abbrev here : Site
here = record { text = 1; line = 1; column = 1 }

abbrev alone : Element → Constraints
alone e = constraint (at here e) no_constraints

abbrev n : Element → AbstractType
n e = type_of [] (type.integer []) (alone e)

abbrev s : Element → AbstractType
s e = type_of [] type.octet_string (alone e)

abbrev between : ℕ → ℕ → Element
between low high = type.range (At (pos low)) (At (pos high))

abbrev other_than : Element → Element
other_than e = type.all_except (at here e)

abbrev q : AbstractPresence → AbstractType → Constraints → AbstractType
q presence t cons = type_of [] (type.sequence (component [] t presence no_components)) cons

-- (1..5) and (6..9) share nothing, (1..5) and (5..9) the 5
pub apart : is_barren (n (between 1 5)) (n (between 6 9)) ≡ true
apart = refl

pub touching : is_barren (n (between 1 5)) (n (between 5 9)) ≡ false
touching = refl

-- (1<..<2) has no integer
pub between_neighbours : is_barren (n (type.range Free Free)) (n (type.range (Past (pos 1)) (Past (pos 2)))) ≡ true
between_neighbours = refl

-- (1..5) (ALL EXCEPT (1..4)) is 5
pub one_left : is_barren (n (between 1 5)) (n (other_than (between 1 4))) ≡ false
one_left = refl

pub none_left : is_barren (n (between 1 5)) (n (other_than (between 0 9))) ≡ true
none_left = refl

-- SIZE (1..5) and SIZE (6..9)
pub sizes_apart : is_barren (s (type.size (at here (between 1 5)))) (s (type.size (at here (between 6 9)))) ≡ true
sizes_apart = refl

-- what is said of a component by its type and by WITH COMPONENTS
pub component_apart :
    is_barren (q type.mandatory (n (between 1 5)) no_constraints)
    (q type.mandatory (n (between 1 5))
    (alone (type.with_components true (type.part_within here 0 (at here (between 6 9)) None type.no_parts))))
    ≡ true
component_apart = refl

-- an OPTIONAL component may be left out
pub component_left_out :
    is_barren (q type.optional (n (between 1 5)) no_constraints)
    (q type.optional (n (between 1 5))
    (alone (type.with_components true (type.part_within here 0 (at here (between 6 9)) None type.no_parts))))
    ≡ false
component_left_out = refl
