-- The constraint that a tree of the notation denotes on its parent type (X.680 clauses 49 to 51). Each node of the
-- constraint has the site of the first token of what is written: a set in parentheses that of the set inside, but what
-- is joined or taken away there has that of its own first token, which may be a parenthesis.
use Rattle.std.specs.Prelude.{◌≡◌, ℕ, Bool, not, List, Some, None, IsTrue}
use Rattle.std.specs.Option.{option_map}
use Rattle.guard_model.specs.declared.site.Site.{Site}
use Rattle.guard_model.specs.declared.ty.Limit.{Limit}
use Rattle.guard_model.specs.AbstractType as type
use Rattle.guard_model.specs.AbstractType.{AbstractType, AbstractKind, Constraint, Constraints, Element, Parts, at, no_constraints}
use Rattle.guard_model.specs.AbstractValue.{AbstractValue}
use Rattle.guard_model.specs.Kinds.{is_integer, has_size, type_of_size, is_string, element_of, has_parts, kind_of, has_named_bits}
use Rattle.guard_syntax.specs.Trees as written
use Rattle.guard_syntax.specs.Trees.{WrittenValue, WrittenRange, WrittenSet, WrittenSetForm, WrittenUnited, WrittenIntersection, WrittenMet, WrittenDifference, WrittenElement, WrittenElementForm, WrittenConstraint, WrittenParts, set_node, all_except, union, none_united, united, intersection, none_met, met, element_alone, element_except, element_node, constraint, no_parts, part, part_in}
use Rattle.guard_values.specs.Denotes as values
use Rattle.guard_values.specs.Places.{Located}
use Rattle.guard_constraints.specs.Visible.{Visible, has_base_of}
use Rattle.guard_constraints.specs.RangeEnds.{has_proper_ends, LimitDenotes}
use Rattle.guard_constraints.specs.PermittedAlphabets.{AlphabetItem, items_of, first_bad, ranges_of}
use Rattle.guard_constraints.specs.ListedParts.{heads, word_of, named_in}
use Rattle.guard_constraints.specs.PartFaults.{part_fault}

-- ---- elements without a constraint inside

-- this value of the type (51.2)
abbrev pub ValueDenotes : Visible → AbstractType → Site → WrittenValue → Constraint → Type 0
ValueDenotes names t site tree c =
    (v : AbstractValue) × values.Denotes names.values t tree v × (c ≡ at site (type.single_value v))

-- the type that the name means, of the same base (51.3); INCLUDES says nothing
abbrev pub ContainedDenotes : Visible → AbstractType → Site → List ℕ → Constraint → Type 0
ContainedDenotes names t site name c =
    (u : AbstractType) × (names.types name ≡ Some u) × IsTrue (has_base_of t (Some u))
    × (c ≡ at site (type.contained_subtype u))

-- integers between two ends (51.4)
abbrev pub RangeDenotes : Visible → AbstractType → Site → WrittenRange → Constraint → Type 0
RangeDenotes names t site r c =
    IsTrue (is_integer (kind_of t)) × IsTrue (has_proper_ends r)
    × ((low : Limit) × (high : Limit) × LimitDenotes names.values t r.above_low r.low low
    × LimitDenotes names.values t r.below_high r.high high
    × (c ≡ at site (type.range low high)))

-- strings of the characters that are written, or that lie between two of them (51.7)
abbrev pub AlphabetDenotes : AbstractType → Site → WrittenConstraint → Constraint → Type 0
AlphabetDenotes t site (constraint inner set) c =
    IsTrue (is_string (kind_of t))
    × ((items : List AlphabetItem) × (items_of set ≡ Some items) × (first_bad (kind_of t) items ≡ None)
    × (c ≡ at site (type.permitted_alphabet (ranges_of items))))

-- ---- elements with a constraint inside, given what that denotes under a type

-- a constraint on the size, which is an INTEGER (51.5); this profile has none of a BIT STRING with named bits
abbrev pub SizeDenotes : AbstractType → Site → (AbstractType → Constraint → Type 0) → Constraint → Type 0
SizeDenotes t site Inner c =
    IsTrue (has_size (kind_of t)) × IsTrue (not (has_named_bits (kind_of t)))
    × ((d : Constraint) × Inner type_of_size d × (c ≡ at site (type.size d)))

-- a constraint on the elements (51.8.4)
abbrev pub EachDenotes : AbstractType → Site → (AbstractType → Constraint → Type 0) → Constraint → Type 0
EachDenotes t site Inner c =
    (u : AbstractType) × (d : Constraint) × (element_of (kind_of t) ≡ Some u) × Inner u d
    × (c ≡ at site (type.with_component d))

-- what is said of components or alternatives, each word where it may be and each name once (51.8.5)
abbrev pub PartsDenote : AbstractType → Site → Bool → WrittenParts → (AbstractKind → Parts → Type 0) → Constraint
    → Type 0
PartsDenote t site partial ps Listed c =
    IsTrue (has_parts (kind_of t)) × (part_fault (kind_of t) (heads ps) ≡ None)
    × ((qs : Parts) × Listed (kind_of t) qs × (c ≡ at site (type.with_components partial qs)))

-- one alone is itself, several are joined
abbrev pub joined : (Constraints → Element) → Site → Constraint → Constraints → Constraint
joined element site c no_constraints = c
joined element site c (type.constraint d ds) = at site (element (type.constraint c (type.constraint d ds)))

-- ---- all of it

abbrev mutual
  -- a set in parentheses, on a type (49.6)
  pub Denotes : Visible → AbstractType → WrittenConstraint → Constraint → Type 0
  Denotes names t (constraint site set) c = SetDenotes names t set c

  pub SetDenotes : Visible → AbstractType → WrittenSet → Constraint → Type 0
  SetDenotes names t (set_node site form) c = SetFormDenotes names t site form c

  -- 50.1: ALL EXCEPT, or a union
  pub SetFormDenotes : Visible → AbstractType → Site → WrittenSetForm → Constraint → Type 0
  SetFormDenotes names t site (all_except e) c =
      (d : Constraint) × ElementDenotes names t e d × (c ≡ at site (type.all_except d))
  SetFormDenotes names t site (union first others) c =
      (d : Constraint) × (ds : Constraints) × IntersectionDenotes names t first d × UnitedDenote names t others ds
      × (c ≡ joined type.union site d ds)

  pub UnitedDenote : Visible → AbstractType → WrittenUnited → Constraints → Type 0
  UnitedDenote names t none_united cs = cs ≡ no_constraints
  UnitedDenote names t (united mark one others) cs =
      (d : Constraint) × (ds : Constraints) × IntersectionDenotes names t one d × UnitedDenote names t others ds
      × (cs ≡ type.constraint d ds)

  -- 50.1: an intersection binds more tightly than a union
  pub IntersectionDenotes : Visible → AbstractType → WrittenIntersection → Constraint → Type 0
  IntersectionDenotes names t (intersection site first others) c =
      (d : Constraint) × (ds : Constraints) × DifferenceDenotes names t first d × MetDenote names t others ds
      × (c ≡ joined type.intersection site d ds)

  pub MetDenote : Visible → AbstractType → WrittenMet → Constraints → Type 0
  MetDenote names t none_met cs = cs ≡ no_constraints
  MetDenote names t (met mark one others) cs =
      (d : Constraint) × (ds : Constraints) × DifferenceDenotes names t one d × MetDenote names t others ds
      × (cs ≡ type.constraint d ds)

  -- 50.1: EXCEPT binds most tightly
  pub DifferenceDenotes : Visible → AbstractType → WrittenDifference → Constraint → Type 0
  DifferenceDenotes names t (element_alone site e) c = ElementDenotes names t e c
  DifferenceDenotes names t (element_except site e f) c =
      (d : Constraint) × (less : Constraint) × ElementDenotes names t e d × ElementDenotes names t f less
      × (c ≡ at site (type.except d less))

  pub ElementDenotes : Visible → AbstractType → WrittenElement → Constraint → Type 0
  ElementDenotes names t (element_node site form) c = FormDenotes names t site form c

  pub FormDenotes : Visible → AbstractType → Site → WrittenElementForm → Constraint → Type 0
  FormDenotes names t site (written.parentheses set) c = SetDenotes names t set c
  FormDenotes names t site (written.value tree) c = ValueDenotes names t site tree c
  FormDenotes names t site (written.contained includes name_site name) c = ContainedDenotes names t site name c
  FormDenotes names t site (written.range r) c = RangeDenotes names t site r c
  FormDenotes names t site (written.size inner) c = SizeDenotes t site (λ u d. Denotes names u inner d) c
  FormDenotes names t site (written.from inner) c = AlphabetDenotes t site inner c
  FormDenotes names t site (written.with_component inner) c = EachDenotes t site (λ u d. Denotes names u inner d) c
  FormDenotes names t site (written.with_components partial ps) c =
      PartsDenote t site partial ps (λ kind qs. ListedDenote names kind ps qs) c

  -- each part at the place of its name, with its constraint on the type there
  pub ListedDenote : Visible → AbstractKind → WrittenParts → Parts → Type 0
  ListedDenote names kind no_parts qs = qs ≡ type.no_parts
  ListedDenote names kind (part site name presence others) qs =
      (p : Located) × (more : Parts) × (named_in kind name ≡ Some p) × ListedDenote names kind others more
      × (qs ≡ type.part site p.place (option_map word_of presence) more)
  ListedDenote names kind (part_in site name inner presence others) qs =
      (p : Located) × (d : Constraint) × (more : Parts) × (named_in kind name ≡ Some p) × Denotes names p.ty inner d
      × ListedDenote names kind others more
      × (qs ≡ type.part_within site p.place d (option_map word_of presence) more)
