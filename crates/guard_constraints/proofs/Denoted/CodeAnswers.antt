-- What a call answers, where it answers what is read.
use Rattle.std.proofs.Common.{◌≡◌, Option, Some, None, Result, Ok, Err, IfOk, IfErr, IfSome, IsTrue, sym, ◌∙◌}
use Rattle.guard_model.specs.declared.ty.Cons.{Cons}
use Rattle.guard_model.specs.AbstractType.{AbstractType, Constraint}
use Rattle.guard_model.specs.Answer.{Gives, Refuses}
use Rattle.guard_model.specs.TypeView.{constraint_view}
use Rattle.guard_der.specs.Sound.{is_sound, is_proper_constraint}
use Rattle.guard_syntax.specs.Trees.{WrittenConstraint}
use Rattle.guard_values.specs.Meanings.{AreFitting}
use Rattle.guard_constraints.specs.declared.fault.ConsFault.{ConsFault}
use Rattle.guard_constraints.specs.Visible.{Visible}
use Rattle.guard_constraints.specs.Denotes.{Denotes}
use Rattle.guard_constraints.specs.FirstFault.{IsFirstConstraintFault, checks}
use Rattle.guard_constraints.specs.Conditions.{IsConstraintFaultIn}
use Rattle.guard_constraints.specs.inside.Reading.{Read, read}
use Rattle.guard_constraints.specs.Views.{named}
use Rattle.guard_constraints.proofs.Denoted.Agreement.{Agrees, read_denoted, read_fault, passed_none}
use Rattle.guard_constraints.proofs.Denoted.WholeTrees.{agrees}
use Rattle.guard_constraints.proofs.Denoted.DenotedIsRead.{denotes_read}
use Rattle.guard_constraints.proofs.Denoted.StandingFaults.{first_stands}
use Rattle.guard_constraints.proofs.Denoted.ProperConstraints.{proper}
use Rattle.guard_constraints.proofs.Denoted.WrittenValues.{values_said, values_agree, denoted_fits}
use Rattle.std.specs.Prelude.{List, ℕ}

-- ---- the public call

module _ (names : Visible) (t : AbstractType) (tree : WrittenConstraint) where
  module _ (fit : AreFitting names.values) (sound : IsTrue (is_sound t)) where
    agreed : Agrees names.values (Denotes names t tree) (read names t tree) (checks names t tree)
    agreed = agrees names t tree (values_agree names.values fit) sound

    pub gives_denoted : (answer : Result Cons ConsFault) → Gives constraint_view named answer (read names t tree) → IfOk answer (λ c. Denotes names t tree (constraint_view c))
    gives_denoted (Ok c) h = (read_denoted names.values (Denotes names t tree) (read names t tree) (checks names t tree) (constraint_view c) agreed h).1
    gives_denoted (Err e) h = tt

    pub gives_faultless : (answer : Result Cons ConsFault) → Gives constraint_view named answer (read names t tree) → IfOk answer (λ c. (f : ConsFault) → IsFirstConstraintFault names t tree f → ⊥)
    gives_faultless (Ok c) h = λ f k. passed_none names.values (checks names t tree) f (read_denoted names.values (Denotes names t tree) (read names t tree) (checks names t tree) (constraint_view c) agreed h).0 k
    gives_faultless (Err e) h = tt

    pub gives_proper : ((name : List ℕ) (u : AbstractType) → names.types name ≡ Some u → IsTrue (is_sound u)) → (answer : Result Cons ConsFault) → Gives constraint_view named answer (read names t tree)
        → IfOk answer (λ c. IsTrue (is_proper_constraint (constraint_view c) t))
    gives_proper known (Ok c) h =
        proper names (λ u w v s. denoted_fits names.values fit u w v s) known t tree (constraint_view c) sound (read_denoted names.values (Denotes names t tree) (read names t tree) (checks names t tree) (constraint_view c) agreed h).1
    gives_proper known (Err e) h = tt

    first_fault : (o : Option ConsFault) → Refuses o (read names t tree) → IfSome o (λ f. IsFirstConstraintFault names t tree f)
    first_fault None h = tt
    first_fault (Some f) h = read_fault names.values (Denotes names t tree) (read names t tree) (checks names t tree) f agreed h

    standing_fault : (o : Option ConsFault) → IfSome o (λ f. IsFirstConstraintFault names t tree f) → IfSome o (λ f. IsConstraintFaultIn names t tree f)
    standing_fault None h = tt
    standing_fault (Some f) h = first_stands names t tree f h

    pub gives_holding : (answer : Result Cons ConsFault) → Gives constraint_view named answer (read names t tree) → IfErr answer (λ e. IfSome (named e) (λ f. IsConstraintFaultIn names t tree f))
    gives_holding (Ok c) h = tt
    gives_holding (Err e) h = standing_fault (named e) (first_fault (named e) h)

    pub gives_first : (answer : Result Cons ConsFault) → Gives constraint_view named answer (read names t tree) → IfErr answer (λ e. IfSome (named e) (λ f. IsFirstConstraintFault names t tree f))
    gives_first (Ok c) h = tt
    gives_first (Err e) h = first_fault (named e) h

  none_denoted : (o : Option ConsFault) → Refuses o (read names t tree) → IfSome o (λ f. (c : Constraint) → Denotes names t tree c → ⊥)
  none_denoted None h = tt
  none_denoted (Some f) h = λ c d. let there : read names t tree ≡ Ok c = denotes_read names t tree c (values_said names.values) d in both (sym there ∙ h) where
    both : {x : Constraint} → ◌≡◌ {A = Read Constraint} (Ok x) (Err f) → ⊥
    both e = cc

  pub gives_none : (answer : Result Cons ConsFault) → Gives constraint_view named answer (read names t tree) → IfErr answer (λ e. IfSome (named e) (λ f. (c : Constraint) → Denotes names t tree c → ⊥))
  gives_none (Ok c) h = tt
  gives_none (Err e) h = none_denoted (named e) h
