-- Distinct tags (X.680 25.6, 27.3, 29.3), and where they are not.
use Rattle.std.specs.Prelude.{◌≡◌, ◌≢◌, ℕ, zero, suc, ◌<◌, ◌≤◌, List, [], ◌∷◌, Option, Some, None, IfSome, IsTrue, ◌⊎◌}
use Rattle.guard_model.specs.declared.site.Step.{Step}
use Rattle.guard_model.specs.declared.site.Step.TheVariants.{Component, Element}
use Rattle.guard_model.specs.declared.tag.Tag.{Tag}
use Rattle.guard_model.specs.AbstractType as type
use Rattle.guard_model.specs.AbstractType.{AbstractType, AbstractKind, Components, type_of, no_components, component}
use Rattle.guard_model.specs.TypeView.{OneComponent}
use Rattle.guard_model.specs.Components.{components_in, component_at}
use Rattle.guard_tagcheck.specs.FirstTags.{begins_with}

-- Component i and each one between it and component j are OPTIONAL or DEFAULT.
abbrev pub CanBeAbsent : Components → ℕ → ℕ → Type 0
CanBeAbsent cs i j = (k : ℕ) → i ≤ k → k < j → IfSome (component_at k cs) (λ c. c.presence ≢ type.mandatory)

-- The tags of component i must differ from those of the later component j: in a SEQUENCE where the encoding that comes
-- after those of the components before i may be that of either one (25.6), in a SET (27.3) and in a CHOICE (29.3)
-- always.
abbrev pub MustDiffer : AbstractKind → ℕ → ℕ → Type 0
MustDiffer (type.sequence cs) i j = (i < j) × CanBeAbsent cs i j
MustDiffer (type.set cs) i j = i < j
MustDiffer (type.choice cs) i j = i < j
MustDiffer _ i j = ⊥

-- An encoding of either type may begin with the same tag.
abbrev pub ShareTag : AbstractType → AbstractType → Type 0
ShareTag a b = (tag : Tag) × IsTrue (begins_with a tag) × IsTrue (begins_with b tag)

-- Two of the type's own components must differ in their tags, and share one.
abbrev pub Collide : AbstractType → ℕ → ℕ → Type 0
Collide (type_of tags kind cons) i j =
    MustDiffer kind i j
    × ((a : OneComponent) × (b : OneComponent)
    × (component_at i (components_in kind) ≡ Some a)
    × (component_at j (components_in kind) ≡ Some b)
    × ShareTag a.ty b.ty)

abbrev pub component_type : ℕ → Components → Option AbstractType
component_type i no_components = None
component_type zero (component name t presence rest) = Some t
component_type (suc i) (component name t presence rest) = component_type i rest

-- the part to which a step leads; to the type of an OF type's elements as to the first element
abbrev pub part_at : AbstractKind → Step → Option AbstractType
part_at (type.sequence cs) (Component i) = component_type i cs
part_at (type.set cs) (Component i) = component_type i cs
part_at (type.choice cs) (Component i) = component_type i cs
part_at (type.sequence_of t) (Element zero) = Some t
part_at (type.set_of t) (Element zero) = Some t
part_at _ _ = None

-- the type inside to which a path leads
abbrev pub type_at : List Step → AbstractType → Option AbstractType
type_at [] t = Some t
type_at (step ∷ path) (type_of tags kind cons) = elim (part_at kind step) [ None ↦ None | Some u ↦ type_at path u ]

-- The path leads to a type of which components i and j collide.
abbrev pub CollideAt : AbstractType → List Step → ℕ → ℕ → Type 0
CollideAt t path i j = (u : AbstractType) × (type_at path t ≡ Some u) × Collide u i j

-- All tags that must differ do, in the type and in each type inside it.
abbrev pub Distinct : AbstractType → Type 0
Distinct t = (path : List Step) (i j : ℕ) → CollideAt t path i j → ⊥

-- ---- the clash that is named

pub record AbstractClash : Type 0 where
  pub path : List Step
  pub first : ℕ
  pub second : ℕ

abbrev pub place : Step → ℕ
place (Component i) = i
place (Element i) = i

-- Document order: a type comes before its parts, and the parts in written order.
abbrev pub Before : List Step → List Step → Type 0
Before [] [] = ⊥
Before [] (r ∷ q) = Unit {0}
Before (s ∷ p) [] = ⊥
Before (s ∷ p) (r ∷ q) = (place s < place r) ⊎ ((s ≡ r) × Before p q)

-- Two components collide, and no two do in a type that comes before, nor a lesser pair in the same one. So no type
-- around theirs has such a pair, and of the types that are in no other one with such a pair theirs is written first.
abbrev pub IsClash : AbstractType → AbstractClash → Type 0
IsClash t c =
    CollideAt t c.path c.first c.second
    × ((path : List Step) (i j : ℕ) → CollideAt t path i j → (c.path ≡ path) ⊎ Before c.path path)
    × ((i j : ℕ) → CollideAt t c.path i j → (c.first < i) ⊎ ((c.first ≡ i) × (c.second ≤ j)))
