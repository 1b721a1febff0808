-- Constraints that must all be passed: what WITH COMPONENT says of elements, and WITH COMPONENTS of parts, apart from
-- what is said of the values.
use Rattle.std.specs.Prelude.{ℕ, Bool, true, false, ◌&&◌, List, [], ◌∷◌, map}
use Rattle.std.specs.List.{list_all}
use Rattle.guard_model.specs.AbstractType.{AbstractKind, Constraint}
use Rattle.guard_model.specs.AbstractValue as value
use Rattle.guard_model.specs.AbstractValue.{AbstractValue}
use Rattle.guard_model.specs.TypeView.{part_view, parts_of}
use Rattle.guard_eval.specs.Presence.{element_kind, has_parts, part_at}
use Rattle.guard_eval.specs.declared.gathered.Gathered.{Gathered}
use Rattle.guard_eval.specs.declared.gathered.Listing.{Listing}
use Rattle.guard_eval.specs.inside.PartsTogether.{passes_parts}
use Rattle.guard_eval.specs.inside.Together.{gathered_view, passes, passes_all, elements_in, with_part}

abbrev pub is_list : AbstractValue → Bool
is_list (value.items vs) = true
is_list _ = false

-- the value is a list, and its elements, which are of this kind, pass the constraint
abbrev pub elements_pass : AbstractKind → AbstractValue → Constraint → Bool
elements_pass kind v c = is_list v && list_all (λ w. passes kind w c) (elements_in v)

abbrev pub elements_pass_all : List Constraint → AbstractKind → AbstractValue → Bool
elements_pass_all cs kind v = list_all (elements_pass kind v) cs

-- the parts of a value that has parts are as WITH COMPONENTS says
abbrev pub are_as_listed : AbstractKind → AbstractValue → Listing → Bool
are_as_listed kind v l = passes_parts (parts_of (map part_view l.parts.now)) l.partial kind v

-- the value has parts, and they are as each WITH COMPONENTS says
abbrev pub parts_pass_all : List Listing → AbstractKind → AbstractValue → Bool
parts_pass_all ls kind v = list_all (λ l. has_parts v && are_as_listed kind v l) ls

-- the parts of the values that are there at the place
abbrev pub parts_at : ℕ → List AbstractValue → List AbstractValue
parts_at i [] = []
parts_at i (v ∷ vs) = with_part (part_at i v) (parts_at i vs)

abbrev pub passes_gathered : Gathered → AbstractKind → AbstractValue → Bool
passes_gathered g kind v =
    passes_all (gathered_view g.of_values.items) kind v
    && (elements_pass_all (gathered_view g.of_elements.items) (element_kind kind) v && parts_pass_all g.of_parts.items kind v)
