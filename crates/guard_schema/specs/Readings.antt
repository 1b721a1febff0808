-- What a written value and a written constraint are, or their first fault.
use Rattle.std.specs.Prelude.{◌≡◌, Ok, Err, Some, None}
use Rattle.guard_model.specs.declared.site.Site.{Site}
use Rattle.guard_model.specs.AbstractType.{AbstractType, Constraint}
use Rattle.guard_model.specs.AbstractValue.{AbstractValue}
use Rattle.guard_eval.specs.Member.{is_member}
use Rattle.guard_syntax.specs.Trees.{WrittenValue, value_node, WrittenConstraint}
use Rattle.guard_values.specs.declared.fault.ValueFault.TheVariants as value_fault
use Rattle.guard_values.specs.Denotes as values
use Rattle.guard_values.specs.FirstFault.{IsFirstFault}
use Rattle.guard_values.specs.Views as value_views
use Rattle.guard_constraints.specs.Visible.{Visible}
use Rattle.guard_constraints.specs.Denotes as constraints
use Rattle.guard_constraints.specs.FirstFault.{IsFirstConstraintFault}
use Rattle.guard_constraints.specs.Views as constraint_views
use Rattle.guard_schema.specs.LongValues.{first_long}
use Rattle.guard_schema.specs.Outcomes.{Is, Passes, Then}
use Rattle.guard_schema.specs.Faults.{Value, Cons, DefaultOutside, Outcome, IsNamed}

-- V8: the type's own constraints have no value whose encoding is longer than may be, or the first one is there
abbrev pub HasShortValues : AbstractType → Outcome (Unit {0}) → Type 0
HasShortValues t (Ok _) = first_long t ≡ None
HasShortValues t (Err f) = (site : Site) × (first_long t ≡ Some site) × (f ≡ Value (value_fault.TooLarge site))

-- the value that a tree denotes, or its first fault, where it denotes none
abbrev pub ReadsValue : Visible → AbstractType → WrittenValue → Outcome AbstractValue → Type 0
ReadsValue names t tree (Ok v) = values.Denotes names.values t tree v
ReadsValue names t tree (Err (Value f)) = IsNamed value_views.named f × IsFirstFault names.values t tree f
    × ((v : AbstractValue) → ¬ (values.Denotes names.values t tree v))
ReadsValue names t tree (Err _) = ⊥

abbrev pub site_of : WrittenValue → Site
site_of (value_node site form) = site

-- what a DEFAULT says, or an assignment of a value: a member of its type (S2)
abbrev pub ReadsMember : Visible → AbstractType → WrittenValue → Outcome AbstractValue → Type 0
ReadsMember names t tree =
    Then (ReadsValue names t tree) (λ v.
    Then (Passes (is_member t v) (DefaultOutside (site_of tree))) (λ _. Is v))

-- the constraint that a tree denotes on a type, or its first fault
abbrev pub ReadsConstraint : Visible → AbstractType → WrittenConstraint → Outcome Constraint → Type 0
ReadsConstraint names t tree (Ok c) = constraints.Denotes names t tree c
ReadsConstraint names t tree (Err (Cons f)) =
    IsNamed constraint_views.named f × IsFirstConstraintFault names t tree f
    × ((c : Constraint) → ¬ (constraints.Denotes names t tree c))
ReadsConstraint names t tree (Err _) = ⊥
