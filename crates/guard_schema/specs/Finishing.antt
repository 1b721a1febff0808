-- The constraints and defaults that are written in a type, filled into it (X.680 25.1, 26, 28, 49): what relates a
-- written type and the bare type that its tags and parts make to the finished type. Kinds, tags and names of parts are
-- the same before and after. Faults are looked for inside out in written order: for each component its type's
-- constraints, then its default; then the constraint before OF, or of a type that is referred to its own constraints
-- under the tags here; then those after the type.
use Rattle.std.specs.Prelude.{◌≡◌, ℕ, suc, ◌+◌, List, [], ◌∷◌, Bool, true, false, Option, Some, None}
use Rattle.guard_model.specs.AbstractType as type
use Rattle.guard_model.specs.AbstractType.{AbstractType, AbstractKind, AbstractPresence, type_of}
use Rattle.guard_model.specs.AbstractType.{Components}
use Rattle.guard_model.specs.Counts.{component_count}
use Rattle.guard_model.specs.Kinds.{type_of_size}
use Rattle.guard_model.specs.TypeView.{OneComponent}
use Rattle.guard_syntax.specs.Trees.{WrittenConstraint, WrittenOfConstraint}
use Rattle.guard_syntax.specs.Trees.{WrittenPresence, mandatory, optional, default, WrittenType, type_node}
use Rattle.guard_syntax.specs.Trees.{WrittenBase, plain, numbers, named_bits, enumerated, structure, choice, of_type}
use Rattle.guard_syntax.specs.Trees.{named_type}
use Rattle.guard_syntax.specs.Trees.{WrittenComponents, no_components, component, components_from}
use Rattle.guard_syntax.specs.Trees.{WrittenAlternatives, no_alternatives, alternative}
use Rattle.guard_tagging.specs.Types.{structure_kind, of_kind, presence_of, parts_of, join}
use Rattle.guard_constraints.specs.Noted.{with_constraint}
use Rattle.guard_constraints.specs.Visible.{Visible}
use Rattle.guard_schema.specs.Outcomes.{Is, Then}
use Rattle.guard_schema.specs.Faults.{Outcome}
use Rattle.guard_schema.specs.Readings.{HasShortValues, ReadsMember, ReadsConstraint}

-- ---- parts of types

abbrev pub put_before : OneComponent → Components → Components
put_before c cs = type.component c.name c.ty c.presence cs

abbrev pub constraint_before : WrittenBase → Option WrittenOfConstraint
constraint_before (plain p) = None
constraint_before (numbers ns) = None
constraint_before (named_bits ns) = None
constraint_before (enumerated items) = None
constraint_before (structure k cs) = None
constraint_before (choice others) = None
constraint_before (of_type k c t) = c
constraint_before (named_type site name) = None

-- how many components the type has, where there is one
abbrev pub count_of_meant : Option AbstractType → ℕ
count_of_meant None = 0
count_of_meant (Some t) = component_count (parts_of t)

-- ---- where names mean this

module _ (names : Visible) where
  -- ---- constraints

  abbrev pub AddsOne : WrittenConstraint → AbstractType → Outcome AbstractType → Type 0
  AddsOne c t = Then (ReadsConstraint names t c) (λ one. Is (with_constraint t one))

  -- each on the type with those before it (49.1)
  abbrev pub Adds : List WrittenConstraint → AbstractType → Outcome AbstractType → Type 0
  Adds [] t = Is t
  Adds (c ∷ cs) t = Then (AddsOne c t) (Adds cs)

  -- the one before OF: SIZE and a constraint is one of sizes (49.4, 51.5)
  abbrev pub Sizes : WrittenOfConstraint → AbstractType → Outcome AbstractType → Type 0
  Sizes c t =
      Then (ReadsConstraint names type_of_size c.constraint) (λ one.
      Is (with_constraint t (type.at c.site (type.size one))))

  abbrev pub ConstrainsByOne : WrittenOfConstraint → Bool → AbstractType → Outcome AbstractType → Type 0
  ConstrainsByOne c true t = Sizes c t
  ConstrainsByOne c false t = AddsOne c.constraint t

  abbrev pub ConstrainsElements : Option WrittenOfConstraint → AbstractType → Outcome AbstractType → Type 0
  ConstrainsElements None t = Is t
  ConstrainsElements (Some c) t = ConstrainsByOne c c.size t

  -- The constraints before those that are written after the type: the one before OF, or those of the type that is
  -- referred to, whose values are to be short enough under these tags too.
  abbrev pub ConstrainsBefore : WrittenBase → AbstractType → Outcome AbstractType → Type 0
  ConstrainsBefore (plain p) t = Is t
  ConstrainsBefore (numbers ns) t = Is t
  ConstrainsBefore (named_bits ns) t = Is t
  ConstrainsBefore (enumerated items) t = Is t
  ConstrainsBefore (structure k cs) t = Is t
  ConstrainsBefore (choice others) t = Is t
  ConstrainsBefore (of_type k c u) t = ConstrainsElements c t
  ConstrainsBefore (named_type site name) t = Then (HasShortValues t) (λ _. Is t)

  -- ---- defaults

  -- whether a component of this type may be left out
  abbrev pub FillsPresence : AbstractType → WrittenPresence → Outcome AbstractPresence → Type 0
  FillsPresence t mandatory = Is type.mandatory
  FillsPresence t optional = Is type.optional
  FillsPresence t (default tree) = Then (ReadsMember names t tree) (λ v. Is (type.default v))

  -- A component or alternative of this name and this bare type: its type's constraints, then its default. `Finish` is
  -- what its written type makes of it.
  abbrev pub FinishesComponent : (AbstractType → Outcome AbstractType → Type 0) → WrittenPresence → List ℕ
      → AbstractType
      → Outcome OneComponent → Type 0
  FinishesComponent Finish presence name bare =
      Then (Finish bare) (λ u.
      Then (FillsPresence u presence) (λ p.
      Is (record { name = name; ty = u; presence = p })))

  -- ---- how many components are written, with those that COMPONENTS OF puts in

  abbrev mutual
    pub count_written : WrittenComponents → ℕ
    count_written no_components = 0
    count_written (component site name t presence cs) = suc (count_written cs)
    count_written (components_from site t cs) = count_put_in t + count_written cs

    pub count_put_in : WrittenType → ℕ
    count_put_in (type_node site tags base cs) = count_within base

    pub count_within : WrittenBase → ℕ
    count_within (structure k cs) = count_written cs
    count_within (named_type site name) = count_of_meant (names.types name)
    -- COMPONENTS OF another type is a fault (G4)
    count_within (plain p) = 0
    count_within (numbers ns) = 0
    count_within (named_bits ns) = 0
    count_within (enumerated items) = 0
    count_within (choice others) = 0
    count_within (of_type k c t) = 0

  -- ---- types. What is referred to is finished.

  abbrev mutual
    pub Finishes : WrittenType → AbstractType → Outcome AbstractType → Type 0
    Finishes (type_node site tags base cs) (type_of ts kind cons) =
        Then (FinishesKind base kind) (λ finished.
        Then (ConstrainsBefore base (type_of ts finished cons)) (Adds cs))

    -- its parts, where it is of the kind that is written
    pub FinishesKind : WrittenBase → AbstractKind → Outcome AbstractKind → Type 0
    FinishesKind (plain p) kind answer = Is kind answer
    FinishesKind (numbers ns) kind answer = Is kind answer
    FinishesKind (named_bits ns) kind answer = Is kind answer
    FinishesKind (enumerated items) kind answer = Is kind answer
    FinishesKind (structure k cs) kind answer =
        (bare : Components) × (kind ≡ structure_kind k bare)
        × Then (Fills cs bare) (λ parts. Is (structure_kind k parts)) answer
    FinishesKind (choice others) kind answer =
        (bare : Components) × (kind ≡ type.choice bare)
        × Then (FillsOthers others bare) (λ parts. Is (type.choice parts)) answer
    FinishesKind (of_type k c t) kind answer =
        (bare : AbstractType) × (kind ≡ of_kind k bare) × Then (Finishes t bare) (λ u. Is (of_kind k u)) answer
    FinishesKind (named_type site name) kind answer = Is kind answer

    -- The components that are written, which are the bare ones: one is the first of them, of its name, and the others
    -- follow it; COMPONENTS OF is as many of them as it puts in; none is left at the end.
    pub Fills : WrittenComponents → Components → Outcome Components → Type 0
    Fills no_components bare answer = (bare ≡ type.no_components) × Is type.no_components answer
    Fills (component site name t presence cs) bare answer =
        (u : AbstractType) × (rest : Components) × (bare ≡ type.component name u (presence_of presence) rest)
        × Then (FinishesComponent (Finishes t) presence name u) (λ one.
        Then (Fills cs rest) (λ others. Is (put_before one others))) answer
    Fills (components_from site t cs) bare answer =
        (taken : Components) × (rest : Components) × (bare ≡ join taken rest) × (component_count taken ≡ count_put_in t)
        × Then (FillsFrom t taken) (λ parts.
        Then (Fills cs rest) (λ others. Is (join parts others))) answer

    -- What COMPONENTS OF takes in: constraints on the type itself have no part in it (25.5), those in its braces do.
    pub FillsFrom : WrittenType → Components → Outcome Components → Type 0
    FillsFrom (type_node site tags base cs) taken = FillsFromBase base taken

    -- the components in its braces, or the very ones of the type that it refers to
    pub FillsFromBase : WrittenBase → Components → Outcome Components → Type 0
    FillsFromBase (plain p) taken answer = ⊥
    FillsFromBase (numbers ns) taken answer = ⊥
    FillsFromBase (named_bits ns) taken answer = ⊥
    FillsFromBase (enumerated items) taken answer = ⊥
    FillsFromBase (structure k cs) taken answer = Fills cs taken answer
    FillsFromBase (choice others) taken answer = ⊥
    FillsFromBase (of_type k c t) taken answer = ⊥
    FillsFromBase (named_type site name) taken answer =
        (t : AbstractType) × (names.types name ≡ Some t) × (taken ≡ parts_of t) × Is taken answer

    -- the alternatives that are written, which are the bare ones
    pub FillsOthers : WrittenAlternatives → Components → Outcome Components → Type 0
    FillsOthers no_alternatives bare answer = (bare ≡ type.no_components) × Is type.no_components answer
    FillsOthers (alternative site name t others) bare answer =
        (u : AbstractType) × (rest : Components) × (bare ≡ type.component name u type.mandatory rest)
        × Then (FinishesComponent (Finishes t) mandatory name u) (λ one.
        Then (FillsOthers others rest) (λ parts. Is (put_before one parts))) answer
