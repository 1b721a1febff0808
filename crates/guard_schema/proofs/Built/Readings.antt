-- What the layers below answer of a written value and a written constraint is what the definitions say.
use Rattle.std.proofs.Common.{◌≡◌, Option, Some, None, option_map, refl, sym, ap, subst}
use Rattle.std.specs.Prelude.{IfSome}
use Rattle.std.proofs.lemmas.Option.{same_Some}
use Rattle.guard_model.specs.AbstractType.{AbstractType, Constraint}
use Rattle.guard_model.specs.AbstractValue.{AbstractValue}
use Rattle.guard_syntax.specs.Trees.{WrittenValue, WrittenValueForm, WrittenEntry, WrittenConstraint}
use Rattle.guard_syntax.specs.Views as written
use Rattle.guard_syntax.specs.Views.{value_form_step, entry_step, value_step}
use Rattle.guard_syntax.specs.declared.tree.ValueTree.{ValueTree}
use Rattle.guard_syntax.specs.declared.tree.EntryTree.TheFolds.{fold_out-ValueTree}
use Rattle.guard_syntax.specs.declared.tree.EntryTree.TheViews.{out-ValueTree}
use Rattle.guard_values.specs.declared.fault.ValueFault.{ValueFault}
use Rattle.guard_values.specs.declared.fault.ValueFault.TheVariants as value_fault
use Rattle.guard_values.specs.Denotes as values
use Rattle.guard_values.specs.FirstFault.{IsFirstFault}
use Rattle.guard_values.specs.Views as value_views
use Rattle.guard_constraints.specs.declared.fault.ConsFault.{ConsFault}
use Rattle.guard_constraints.specs.declared.fault.ConsFault.TheVariants as cons_fault
use Rattle.guard_constraints.specs.Visible.{Visible}
use Rattle.guard_constraints.specs.Denotes as constraints
use Rattle.guard_constraints.specs.FirstFault.{IsFirstConstraintFault}
use Rattle.guard_constraints.specs.Views as constraint_views
use Rattle.guard_schema.specs.declared.fault.SchemaFault.{SchemaFault}
use Rattle.guard_schema.specs.Outcomes.{RefusesBy}
use Rattle.guard_schema.specs.Faults.{Value, Cons, IsNamed, named}
use Rattle.guard_schema.specs.Readings.{ReadsValue, ReadsConstraint, site_of}

value_named : (f g : ValueFault) → value_views.named f ≡ Some g → IsNamed value_views.named g
value_named value_fault.OutOfMemory g e = absurd cc
value_named (value_fault.WrongNotation site) g e =
    subst (IsNamed value_views.named) (same_Some (value_fault.WrongNotation site) g e) refl
value_named (value_fault.UnknownName site) g e =
    subst (IsNamed value_views.named) (same_Some (value_fault.UnknownName site) g e) refl
value_named (value_fault.MissingComponent site) g e =
    subst (IsNamed value_views.named) (same_Some (value_fault.MissingComponent site) g e) refl
value_named (value_fault.RepeatedComponent site) g e =
    subst (IsNamed value_views.named) (same_Some (value_fault.RepeatedComponent site) g e) refl
value_named (value_fault.OutOfOrder site) g e =
    subst (IsNamed value_views.named) (same_Some (value_fault.OutOfOrder site) g e) refl
value_named (value_fault.BadCharacter site) g e =
    subst (IsNamed value_views.named) (same_Some (value_fault.BadCharacter site) g e) refl
value_named (value_fault.BadObjectId site) g e =
    subst (IsNamed value_views.named) (same_Some (value_fault.BadObjectId site) g e) refl
value_named (value_fault.TooLarge site) g e =
    subst (IsNamed value_views.named) (same_Some (value_fault.TooLarge site) g e) refl

constraint_named : (f g : ConsFault) → constraint_views.named f ≡ Some g → IsNamed constraint_views.named g
constraint_named cons_fault.OutOfMemory g e = absurd cc
constraint_named (cons_fault.NotApplicable site) g e =
    subst (IsNamed constraint_views.named) (same_Some (cons_fault.NotApplicable site) g e) refl
constraint_named (cons_fault.ExclusiveLimit site) g e =
    subst (IsNamed constraint_views.named) (same_Some (cons_fault.ExclusiveLimit site) g e) refl
constraint_named (cons_fault.AlphabetForm site) g e =
    subst (IsNamed constraint_views.named) (same_Some (cons_fault.AlphabetForm site) g e) refl
constraint_named (cons_fault.PresenceWord site) g e =
    subst (IsNamed constraint_views.named) (same_Some (cons_fault.PresenceWord site) g e) refl
constraint_named (cons_fault.UnknownComponent site) g e =
    subst (IsNamed constraint_views.named) (same_Some (cons_fault.UnknownComponent site) g e) refl
constraint_named (cons_fault.RepeatedComponent site) g e =
    subst (IsNamed constraint_views.named) (same_Some (cons_fault.RepeatedComponent site) g e) refl
constraint_named (cons_fault.TwoPresent site) g e =
    subst (IsNamed constraint_views.named) (same_Some (cons_fault.TwoPresent site) g e) refl
constraint_named (cons_fault.ContainedMismatch site) g e =
    subst (IsNamed constraint_views.named) (same_Some (cons_fault.ContainedMismatch site) g e) refl
constraint_named (cons_fault.Value f) g e = subst (IsNamed constraint_views.named)
    (same_Some (cons_fault.Value f) g e) refl
constraint_named (cons_fault.SizeOnNamedBits site) g e =
    subst (IsNamed constraint_views.named) (same_Some (cons_fault.SizeOnNamedBits site) g e) refl

module _ (names : Visible) where
  value_faulty : (t : AbstractType) (tree : WrittenValue) (f : ValueFault) (o : Option ValueFault)
      → value_views.named f ≡ o → IfSome o (IsFirstFault names.values t tree)
      → IfSome o (λ g. (v : AbstractValue) → values.Denotes names.values t tree v → ⊥)
      → RefusesBy (option_map Value o) (ReadsValue names t tree)
  value_faulty t tree f None e h k = tt
  value_faulty t tree f (Some g) e h k = (value_named f g e, h, k)

  pub value_refused : (t : AbstractType) (tree : WrittenValue) (f : ValueFault) (y : SchemaFault)
      → named y ≡ option_map Value (value_views.named f)
      → IfSome (value_views.named f) (IsFirstFault names.values t tree)
      → IfSome (value_views.named f) (λ g. (v : AbstractValue) → values.Denotes names.values t tree v → ⊥)
      → RefusesBy (named y) (ReadsValue names t tree)
  value_refused t tree f y is h k = subst (λ o. RefusesBy o (ReadsValue names t tree)) (sym is)
      (value_faulty t tree f (value_views.named f) refl h k)

  constraint_faulty : (t : AbstractType) (tree : WrittenConstraint) (f : ConsFault) (o : Option ConsFault)
      → constraint_views.named f ≡ o → IfSome o (λ g. IsFirstConstraintFault names t tree g)
      → IfSome o (λ g. (c : Constraint) → constraints.Denotes names t tree c → ⊥)
      → RefusesBy (option_map Cons o) (ReadsConstraint names t tree)
  constraint_faulty t tree f None e h k = tt
  constraint_faulty t tree f (Some g) e h k = (constraint_named f g e, h, k)

  pub constraint_refused : (t : AbstractType) (tree : WrittenConstraint) (f : ConsFault) (y : SchemaFault)
      → named y ≡ option_map Cons (constraint_views.named f)
      → IfSome (constraint_views.named f) (λ g. IsFirstConstraintFault names t tree g)
      → IfSome (constraint_views.named f) (λ g. (c : Constraint) → constraints.Denotes names t tree c → ⊥)
      → RefusesBy (named y) (ReadsConstraint names t tree)
  constraint_refused t tree f y is h k = subst (λ o. RefusesBy o (ReadsConstraint names t tree)) (sym is)
      (constraint_faulty t tree f (constraint_views.named f) refl h k)

-- ---- where a value is

pub site_there : (tree : ValueTree) → site_of (written.value_view tree) ≡ (out-ValueTree tree).site
site_there tree = ap site_of (fold_out-ValueTree WrittenEntry WrittenValueForm WrittenValue entry_step value_form_step
    value_step tree)
