-- What the grammar allows, of all trees. `levels` says how deep types, values and sets may be nested.
use Rattle.std.specs.Prelude.{◌≡◌, ◌≢◌, ℕ, zero, suc, Bool, true, false, List, [], ◌∷◌, Option, Some, None}
use Rattle.guard_syntax.specs.Trees.{WrittenNumber, WrittenArc, WrittenValue, value_node, WrittenValueForm, boolean, null, integer, text, reference, chosen, list, arcs, WrittenEntries, no_entries, entry, WrittenEndForm, end_integer, end_reference, end_characters, WrittenEnd, WrittenRange, WrittenSet, set_node, WrittenSetForm, all_except, union, WrittenUnited, none_united, united, WrittenIntersection, intersection, WrittenMet, none_met, met, WrittenDifference, element_alone, element_except, WrittenElement, element_node, WrittenElementForm, parentheses, value, contained, range, size, from, with_component, with_components, WrittenConstraint, constraint, WrittenParts, no_parts, part, part_in, WrittenNamed, WrittenItem, WrittenOfConstraint, WrittenPresence, mandatory, optional, default, WrittenType, type_node, WrittenBase, plain, numbers, named_bits, enumerated, structure, choice, of_type, named_type, WrittenComponents, no_components, component, components_from, WrittenAlternatives, no_alternatives, alternative, WrittenImport, WrittenAssignment, WrittenModule}

-- the number 0
abbrev pub zero_digits : List ℕ
zero_digits = 48 ∷ []

abbrev pub MayFollowSign : Bool → List ℕ → Type 0
MayFollowSign true digits = digits ≢ zero_digits
MayFollowSign false digits = Unit {0}

-- a minus sign is not followed by the number 0 (X.680 19.9)
abbrev pub IsNumber : WrittenNumber → Type 0
IsNumber n = MayFollowSign n.minus n.digits

-- the number has no minus sign
abbrev pub IsUnsigned : WrittenNumber → Type 0
IsUnsigned n = n.minus ≡ false

-- ---- lists

abbrev pub AreEach : {A : Type 0} → (A → Type 0) → List A → Type 0
AreEach Is [] = Unit {0}
AreEach Is (a ∷ others) = Is a × AreEach Is others

-- the list has at least one entry, and each is so
abbrev pub AreSome : {A : Type 0} → (A → Type 0) → List A → Type 0
AreSome Is [] = ⊥
AreSome Is (a ∷ others) = Is a × AreEach Is others

abbrev pub IsPerhaps : {A : Type 0} → (A → Type 0) → Option A → Type 0
IsPerhaps Is None = Unit {0}
IsPerhaps Is (Some a) = Is a

-- what holds of everything, where nothing more is asked
abbrev pub Any : {A : Type 0} → A → Type 0
Any a = Unit {0}

-- ---- values

-- an object identifier has two or more arcs, or one with a name
abbrev pub AreArcs : List WrittenArc → Type 0
AreArcs [] = ⊥
AreArcs (a ∷ []) = a.name ≢ None
AreArcs (a ∷ b ∷ others) = Unit {0}

abbrev mutual
  pub IsValue : ℕ → WrittenValue → Type 0
  IsValue zero (value_node site form) = ⊥
  IsValue (suc levels) (value_node site form) = IsValueForm levels form

  pub IsValueForm : ℕ → WrittenValueForm → Type 0
  IsValueForm levels (boolean b) = Unit {0}
  IsValueForm levels null = Unit {0}
  IsValueForm levels (integer n) = IsNumber n
  IsValueForm levels (text kind spelling) = Unit {0}
  IsValueForm levels (reference name) = Unit {0}
  IsValueForm levels (chosen name v) = IsValue levels v
  IsValueForm levels (list es) = AreEntries levels es
  IsValueForm levels (arcs all) = AreArcs all

  pub AreEntries : ℕ → WrittenEntries → Type 0
  AreEntries levels no_entries = Unit {0}
  AreEntries levels (entry site name v others) = IsValue levels v × AreEntries levels others

-- ---- sets of values

abbrev pub IsEndForm : WrittenEndForm → Type 0
IsEndForm (end_integer n) = IsNumber n
IsEndForm (end_reference name) = Unit {0}
IsEndForm (end_characters spelling) = Unit {0}

abbrev pub IsEnd : WrittenEnd → Type 0
IsEnd e = IsEndForm e.form

abbrev pub IsRange : WrittenRange → Type 0
IsRange r = IsPerhaps IsEnd r.low × IsPerhaps IsEnd r.high

-- there is at least one part
abbrev pub HasParts : WrittenParts → Type 0
HasParts no_parts = ⊥
HasParts (part site name presence others) = Unit {0}
HasParts (part_in site name c presence others) = Unit {0}

abbrev mutual
  pub IsSet : ℕ → WrittenSet → Type 0
  IsSet zero (set_node site form) = ⊥
  IsSet (suc levels) (set_node site form) = IsSetForm levels form

  pub IsSetForm : ℕ → WrittenSetForm → Type 0
  IsSetForm levels (all_except e) = IsElement levels e
  IsSetForm levels (union i others) = IsIntersection levels i × AreUnited levels others

  pub AreUnited : ℕ → WrittenUnited → Type 0
  AreUnited levels none_united = Unit {0}
  AreUnited levels (united m i others) = IsIntersection levels i × AreUnited levels others

  pub IsIntersection : ℕ → WrittenIntersection → Type 0
  IsIntersection levels (intersection site d others) = IsDifference levels d × AreMet levels others

  pub AreMet : ℕ → WrittenMet → Type 0
  AreMet levels none_met = Unit {0}
  AreMet levels (met m d others) = IsDifference levels d × AreMet levels others

  pub IsDifference : ℕ → WrittenDifference → Type 0
  IsDifference levels (element_alone site e) = IsElement levels e
  IsDifference levels (element_except site e f) = IsElement levels e × IsElement levels f

  pub IsElement : ℕ → WrittenElement → Type 0
  IsElement levels (element_node site form) = IsElementForm levels form

  pub IsElementForm : ℕ → WrittenElementForm → Type 0
  IsElementForm levels (parentheses s) = IsSet levels s
  IsElementForm levels (value v) = IsValue levels v
  IsElementForm levels (contained includes site name) = Unit {0}
  IsElementForm levels (range r) = IsRange r
  IsElementForm levels (size c) = IsConstraint levels c
  IsElementForm levels (from c) = IsConstraint levels c
  IsElementForm levels (with_component c) = IsConstraint levels c
  IsElementForm levels (with_components partial ps) = HasParts ps × AreParts levels ps

  pub IsConstraint : ℕ → WrittenConstraint → Type 0
  IsConstraint levels (constraint site s) = IsSet levels s

  pub AreParts : ℕ → WrittenParts → Type 0
  AreParts levels no_parts = Unit {0}
  AreParts levels (part site name presence others) = AreParts levels others
  AreParts levels (part_in site name c presence others) = IsConstraint levels c × AreParts levels others

-- ---- types

abbrev pub IsNamed : WrittenNamed → Type 0
IsNamed n = IsNumber n.number

-- a named bit has a number without a sign (X.680 22.1)
abbrev pub IsNamedBit : WrittenNamed → Type 0
IsNamedBit b = IsUnsigned b.number

abbrev pub IsItem : WrittenItem → Type 0
IsItem i = IsPerhaps IsNumber i.number

abbrev pub IsOfConstraint : ℕ → WrittenOfConstraint → Type 0
IsOfConstraint levels c = IsConstraint levels c.constraint

abbrev pub IsPresence : ℕ → WrittenPresence → Type 0
IsPresence levels mandatory = Unit {0}
IsPresence levels optional = Unit {0}
IsPresence levels (default v) = IsValue levels v

-- Constraints after an OF type belong to the type of its elements.
abbrev pub MayConstrain : ℕ → WrittenBase → List WrittenConstraint → Type 0
MayConstrain levels (of_type k c ty) [] = Unit {0}
MayConstrain levels (of_type k c ty) (d ∷ ds) = ⊥
MayConstrain levels base cs = AreEach (IsConstraint levels) cs

-- there is at least one alternative
abbrev pub HasAlternatives : WrittenAlternatives → Type 0
HasAlternatives no_alternatives = ⊥
HasAlternatives (alternative site name ty others) = Unit {0}

abbrev mutual
  pub IsType : ℕ → WrittenType → Type 0
  IsType zero (type_node site tags base constraints) = ⊥
  IsType (suc levels) (type_node site tags base constraints) = IsBase levels base × MayConstrain levels base constraints

  pub IsBase : ℕ → WrittenBase → Type 0
  IsBase levels (plain p) = Unit {0}
  IsBase levels (numbers ns) = AreEach IsNamed ns
  IsBase levels (named_bits bs) = AreEach IsNamedBit bs
  IsBase levels (enumerated is) = AreSome IsItem is
  IsBase levels (structure k cs) = AreComponents levels cs
  IsBase levels (choice alternatives) = HasAlternatives alternatives × AreAlternatives levels alternatives
  IsBase levels (of_type k c ty) = IsPerhaps (IsOfConstraint levels) c × IsType levels ty
  IsBase levels (named_type site name) = Unit {0}

  pub AreComponents : ℕ → WrittenComponents → Type 0
  AreComponents levels no_components = Unit {0}
  AreComponents levels (component site name ty presence others) =
      IsType levels ty × IsPresence levels presence × AreComponents levels others
  AreComponents levels (components_from site ty others) = IsType levels ty × AreComponents levels others

  pub AreAlternatives : ℕ → WrittenAlternatives → Type 0
  AreAlternatives levels no_alternatives = Unit {0}
  AreAlternatives levels (alternative site name ty others) = IsType levels ty × AreAlternatives levels others

-- ---- modules

abbrev pub IsImport : WrittenImport → Type 0
IsImport i = AreSome Any i.symbols

-- 128 others, and the one within them
abbrev pub most_levels : ℕ
most_levels = 129

abbrev pub IsAssignment : WrittenAssignment → Type 0
IsAssignment a = IsType most_levels a.ty × IsPerhaps (IsValue most_levels) a.value

-- A module of the grammar in which each type, value and set is within at most 128 others.
abbrev pub IsModule : WrittenModule → Type 0
IsModule m = IsPerhaps (AreEach IsImport) m.imports × AreEach IsAssignment m.assignments
