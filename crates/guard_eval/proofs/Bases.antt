-- Contained types have the base of what they constrain, and SIZE is on kinds that take it, at any depth. So what fits a
-- type fits those that it contains.
use Rattle.std.specs.Prelude.{◌≡◌, ⊤, [], IsTrue}
use Rattle.guard_model.specs.AbstractType as type
use Rattle.guard_model.specs.AbstractType.{AbstractType, AbstractKind, Components, Constraint, Constraints, Element, Parts, type_of, no_components, component, at, no_constraints, constraint}
use Rattle.guard_model.specs.SameBase.{bare_kind, bare_kind_of}
use Rattle.guard_der.specs.ProperConstraints.{takes_size}
use Rattle.guard_eval.specs.Presence.{element_kind, kind_at}

abbrev mutual
  pub KeepsBase : AbstractType → Type 0
  KeepsBase (type_of tags kind cons) = AllKeepBase cons kind × PartsKeepBase kind

  pub PartsKeepBase : AbstractKind → Type 0
  PartsKeepBase (type.sequence cs) = ComponentsKeepBase cs
  PartsKeepBase (type.set cs) = ComponentsKeepBase cs
  PartsKeepBase (type.choice cs) = ComponentsKeepBase cs
  PartsKeepBase (type.sequence_of t) = KeepsBase t
  PartsKeepBase (type.set_of t) = KeepsBase t
  PartsKeepBase _ = ⊤

  pub ComponentsKeepBase : Components → Type 0
  ComponentsKeepBase no_components = ⊤
  ComponentsKeepBase (component name t presence cs) = KeepsBase t × ComponentsKeepBase cs

  pub AllKeepBase : Constraints → AbstractKind → Type 0
  AllKeepBase no_constraints kind = ⊤
  AllKeepBase (constraint c cs) kind = ConstraintKeepsBase c kind × AllKeepBase cs kind

  -- of a constraint on a type of this kind
  pub ConstraintKeepsBase : Constraint → AbstractKind → Type 0
  ConstraintKeepsBase (at site (type.contained_subtype t)) kind = (bare_kind_of t ≡ bare_kind kind) × KeepsBase t
  ConstraintKeepsBase (at site (type.size c)) kind = IsTrue (takes_size kind) × ConstraintKeepsBase c (type.integer [])
  ConstraintKeepsBase (at site (type.with_component c)) kind = ConstraintKeepsBase c (element_kind kind)
  ConstraintKeepsBase (at site (type.with_components partial ps)) kind = ListedKeepBase ps kind
  ConstraintKeepsBase (at site (type.union cs)) kind = AllKeepBase cs kind
  ConstraintKeepsBase (at site (type.intersection cs)) kind = AllKeepBase cs kind
  ConstraintKeepsBase (at site (type.except c d)) kind = ConstraintKeepsBase c kind × ConstraintKeepsBase d kind
  ConstraintKeepsBase (at site (type.all_except c)) kind = ConstraintKeepsBase c kind
  ConstraintKeepsBase (at site _) kind = ⊤

  pub ListedKeepBase : Parts → AbstractKind → Type 0
  ListedKeepBase type.no_parts kind = ⊤
  ListedKeepBase (type.part site i word ps) kind = ListedKeepBase ps kind
  ListedKeepBase (type.part_within site i c word ps) kind = ConstraintKeepsBase c (kind_at i kind) × ListedKeepBase ps kind
