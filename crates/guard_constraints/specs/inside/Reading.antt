-- What the code reads, step by step: a constraint, or the first fault.
use Rattle.std.specs.Prelude.{ℕ, ℤ, Bool, List, ◌++◌, Option, Some, None, Result, Ok, Err, if◌then◌else◌}
use Rattle.std.specs.Option.{option_map}
use Rattle.guard_model.specs.Answer.{◌>>=◌}
use Rattle.guard_model.specs.inside.Each.{each}
use Rattle.guard_model.specs.declared.site.Site.{Site}
use Rattle.guard_model.specs.declared.ty.Limit.{Limit}
use Rattle.guard_model.specs.declared.ty.Limit.TheVariants.{Free}
use Rattle.guard_model.specs.AbstractType as type
use Rattle.guard_model.specs.AbstractType.{AbstractType, AbstractKind, Constraint, Constraints, Element, Parts, at, no_constraints}
use Rattle.guard_model.specs.AbstractValue as value
use Rattle.guard_model.specs.AbstractValue.{AbstractValue}
use Rattle.guard_model.specs.TypeView.{OnePart, constraints_of}
use Rattle.guard_model.specs.Kinds.{is_integer, has_size, type_of_size, is_string, element_of, has_parts, kind_of}
use Rattle.guard_syntax.specs.Trees as written
use Rattle.guard_syntax.specs.Trees.{WrittenValue, WrittenEnd, WrittenRange, WrittenSet, WrittenSetForm, WrittenUnited, WrittenIntersection, WrittenMet, WrittenDifference, WrittenElement, WrittenElementForm, WrittenConstraint, WrittenParts, WrittenPart, WrittenJoinedIntersection, WrittenJoinedDifference, set_node, all_except, union, none_united, united, intersection, none_met, met, element_alone, element_except, element_node, constraint, no_parts, part, part_in}
use Rattle.guard_values.specs.declared.fault.ValueFault.{ValueFault}
use Rattle.guard_values.specs.declared.fault.ValueFault.TheVariants.{WrongNotation}
use Rattle.guard_values.specs.Meanings.{Meaning}
use Rattle.guard_values.specs.Places.{Located}
use Rattle.guard_values.specs.inside.Reading.{read_whole}
use Rattle.guard_constraints.specs.declared.fault.ConsFault.{ConsFault}
use Rattle.guard_constraints.specs.declared.fault.ConsFault.TheVariants.{NotApplicable, ExclusiveLimit, AlphabetForm, UnknownComponent, ContainedMismatch, Value}
use Rattle.guard_constraints.specs.declared.joining.Join.{Join}
use Rattle.guard_constraints.specs.declared.joining.Join.TheVariants as join
use Rattle.guard_constraints.specs.Visible.{Visible, has_base_of}
use Rattle.guard_constraints.specs.RangeEnds.{has_proper_ends, value_of_end, limit_at}
use Rattle.guard_constraints.specs.PermittedAlphabets.{AlphabetItem, items_of, first_bad, ranges_of}
use Rattle.guard_constraints.specs.ListedParts.{PartHead, heads, word_of, named_in}
use Rattle.guard_constraints.specs.PartFaults.{part_fault}
use Rattle.guard_constraints.specs.Denotes.{joined}
use Rattle.guard_constraints.specs.Faults.{characters_fault, named_bits_fault}

abbrev pub Read : Type 0 → Type 0
Read A = Result A ConsFault

abbrev pub demanded : Bool → ConsFault → Read (Unit {0})
demanded b f = if b then Ok tt else Err f

abbrev pub unless_fault : Option ConsFault → Read (Unit {0})
unless_fault None = Ok tt
unless_fault (Some f) = Err f

abbrev pub found : {A : Type 0} → ConsFault → Option A → Read A
found f None = Err f
found f (Some x) = Ok x

-- ---- values

abbrev pub of_value : {A : Type 0} → Result A ValueFault → Read A
of_value (Ok x) = Ok x
of_value (Err f) = Err (Value f)

abbrev pub read_value : Meaning → AbstractType → WrittenValue → Read AbstractValue
read_value m t tree = of_value (read_whole m t tree)

-- ---- ranges

-- a value of INTEGER is an integer
abbrev pub integer_in : Site → AbstractValue → Read ℤ
integer_in site (value.integer z) = Ok z
integer_in site _ = Err (Value (WrongNotation site))

abbrev pub read_end : Meaning → AbstractType → WrittenEnd → Read ℤ
read_end m t e = read_value m t (value_of_end e) >>= λ v. integer_in e.site v

abbrev pub read_limit : Meaning → AbstractType → Bool → Option WrittenEnd → Read Limit
read_limit m t outside None = Ok Free
read_limit m t outside (Some e) = read_end m t e >>= λ z. Ok (limit_at outside z)

abbrev pub read_range : Meaning → AbstractType → Site → WrittenRange → Read Constraint
read_range m t site r =
    demanded (is_integer (kind_of t)) (NotApplicable site) >>= λ _. demanded (has_proper_ends r) (ExclusiveLimit site)
    >>= λ _. read_limit m t r.above_low r.low >>= λ low. read_limit m t r.below_high r.high
    >>= λ high. Ok (at site (type.range low high))

-- ---- permitted alphabets

-- the items after those before them, where they have the form
abbrev pub gathered : Site → List AlphabetItem → Option (List AlphabetItem) → Read (List AlphabetItem)
gathered site before None = Err (AlphabetForm site)
gathered site before (Some items) = Ok (before ++ items)

abbrev pub read_alphabet : AbstractType → Site → WrittenConstraint → Read Constraint
read_alphabet t site (constraint inner set) =
    demanded (is_string (kind_of t)) (NotApplicable site) >>= λ _. found (AlphabetForm site) (items_of set)
    >>= λ items. unless_fault (option_map characters_fault (first_bad (kind_of t) items))
    >>= λ _. Ok (at site (type.permitted_alphabet (ranges_of items)))

-- ---- contained types

abbrev pub read_contained : AbstractType → Site → Option AbstractType → Read Constraint
read_contained t site None = Err (ContainedMismatch site)
read_contained t site (Some u) =
    if has_base_of t (Some u) then Ok (at site (type.contained_subtype u)) else Err (ContainedMismatch site)

-- ---- elements with a constraint inside, given how that is read under a type

-- the type of its sizes
abbrev pub size_type : AbstractType → Site → Read AbstractType
size_type t site = if has_size (kind_of t) then Ok type_of_size else Err (NotApplicable site)

-- a size that was read, unless the type has named bits
abbrev pub sized : AbstractType → Site → Constraint → Read Constraint
sized t site c = unless_fault (named_bits_fault (kind_of t) site) >>= λ _. Ok (at site (type.size c))

abbrev pub read_size : AbstractType → Site → (AbstractType → Read Constraint) → Read Constraint
read_size t site inner = size_type t site >>= λ u. inner u >>= λ c. sized t site c

-- the type of its elements
abbrev pub element_type : AbstractType → Site → Read AbstractType
element_type t site = found (NotApplicable site) (element_of (kind_of t))

abbrev pub read_each : AbstractType → Site → (AbstractType → Read Constraint) → Read Constraint
read_each t site inner = element_type t site >>= λ u. inner u >>= λ c. Ok (at site (type.with_component c))

-- none of the parts has a fault of its own
abbrev pub checked : AbstractType → Site → List PartHead → Read (Unit {0})
checked t site hs =
    demanded (has_parts (kind_of t)) (NotApplicable site) >>= λ _. unless_fault (part_fault (kind_of t) hs)

abbrev pub read_listed : AbstractType → Site → Bool → WrittenParts → (AbstractKind → Read Parts) → Read Constraint
read_listed t site partial ps listed =
    checked t site (heads ps) >>= λ _. listed (kind_of t) >>= λ qs. Ok (at site (type.with_components partial qs))

-- where a part's name leads: its place, and the type there
abbrev pub located : Site → AbstractKind → List ℕ → Read Located
located site kind name = found (UnknownComponent site) (named_in kind name)

-- ---- all of it

unfoldable mutual
  pub read : Visible → AbstractType → WrittenConstraint → Read Constraint
  read names t (constraint site set) = read_set names t set

  pub read_set : Visible → AbstractType → WrittenSet → Read Constraint
  read_set names t (set_node site form) = read_set_form names t site form

  pub read_set_form : Visible → AbstractType → Site → WrittenSetForm → Read Constraint
  read_set_form names t site (all_except e) = read_element names t e >>= λ c. Ok (at site (type.all_except c))
  read_set_form names t site (union first others) =
      read_intersection names t first >>= λ c. read_united names t others >>= λ cs. Ok (joined type.union site c cs)

  pub read_united : Visible → AbstractType → WrittenUnited → Read Constraints
  read_united names t none_united = Ok no_constraints
  read_united names t (united mark one others) =
      read_intersection names t one >>= λ c. read_united names t others >>= λ cs. Ok (type.constraint c cs)

  pub read_intersection : Visible → AbstractType → WrittenIntersection → Read Constraint
  read_intersection names t (intersection site first others) =
      read_difference names t first >>= λ c. read_met names t others >>= λ cs. Ok (joined type.intersection site c cs)

  pub read_met : Visible → AbstractType → WrittenMet → Read Constraints
  read_met names t none_met = Ok no_constraints
  read_met names t (met mark one others) =
      read_difference names t one >>= λ c. read_met names t others >>= λ cs. Ok (type.constraint c cs)

  pub read_difference : Visible → AbstractType → WrittenDifference → Read Constraint
  read_difference names t (element_alone site e) = read_element names t e
  read_difference names t (element_except site e f) =
      read_element names t e >>= λ c. read_element names t f >>= λ d. Ok (at site (type.except c d))

  pub read_element : Visible → AbstractType → WrittenElement → Read Constraint
  read_element names t (element_node site form) = read_element_form names t site form

  pub read_element_form : Visible → AbstractType → Site → WrittenElementForm → Read Constraint
  read_element_form names t site (written.parentheses set) = read_set names t set
  read_element_form names t site (written.value tree) =
      read_value names.values t tree >>= λ v. Ok (at site (type.single_value v))
  read_element_form names t site (written.contained includes name_site name) = read_contained t site (names.types name)
  read_element_form names t site (written.range r) = read_range names.values t site r
  read_element_form names t site (written.size inner) = read_size t site (λ u. read names u inner)
  read_element_form names t site (written.from inner) = read_alphabet t site inner
  read_element_form names t site (written.with_component inner) = read_each t site (λ u. read names u inner)
  read_element_form names t site (written.with_components partial ps) =
      read_listed t site partial ps (λ kind. read_parts names kind ps)

  pub read_parts : Visible → AbstractKind → WrittenParts → Read Parts
  read_parts names kind no_parts = Ok type.no_parts
  read_parts names kind (part site name presence others) =
      found (UnknownComponent site) (named_in kind name) >>= λ p. read_parts names kind others
      >>= λ qs. Ok (type.part site p.place (option_map word_of presence) qs)
  read_parts names kind (part_in site name inner presence others) =
      found (UnknownComponent site) (named_in kind name) >>= λ p. read names p.ty inner
      >>= λ c. read_parts names kind others
      >>= λ qs. Ok (type.part_within site p.place c (option_map word_of presence) qs)

-- ---- what loops read

-- what parts of a set are joined to
abbrev pub joined_by : Join → Constraints → Element
joined_by join.Union = type.union
joined_by join.Intersection = type.intersection

-- the first one with those joined to it
abbrev pub read_joined : Join → Site → Constraint → Read (List Constraint) → Read Constraint
read_joined j site c others = others >>= λ ds. Ok (joined (joined_by j) site c (constraints_of ds))

abbrev pub joined_intersections : Visible → AbstractType → List WrittenJoinedIntersection → Read (List Constraint)
joined_intersections names t js = each (λ (j : WrittenJoinedIntersection). read_intersection names t j.joined) js

abbrev pub joined_differences : Visible → AbstractType → List WrittenJoinedDifference → Read (List Constraint)
joined_differences names t js = each (λ (j : WrittenJoinedDifference). read_difference names t j.joined) js

-- one part of WITH COMPONENTS
abbrev pub read_within : Visible → AbstractType → Option WrittenConstraint → Read (Option Constraint)
read_within names t None = Ok None
read_within names t (Some inner) = read names t inner >>= λ c. Ok (Some c)

abbrev pub one_part : WrittenPart → ℕ → Option Constraint → OnePart
one_part p place within = record { site = p.site; place = place; within = within; word = option_map word_of p.presence }

abbrev pub read_part : Visible → AbstractKind → WrittenPart → Read OnePart
read_part names kind p =
    located p.site kind p.name >>= λ l. read_within names l.ty p.constraint >>= λ within. Ok (one_part p l.place within)
