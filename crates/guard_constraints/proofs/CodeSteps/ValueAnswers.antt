-- What guard_values answers of a written value, as an answer on the constraint.
use Rattle.std.proofs.Common.{◌≡◌, Result, Ok, Err, IfSome, IsTrue, refl}
use Rattle.std.specs.Arc.{arc_value}
use Rattle.std.specs.Global.{Global}
use Rattle.std.specs.declared.sync.Arc.{Arc}
use Rattle.guard_model.specs.AbstractType.{AbstractType}
use Rattle.guard_model.specs.Answer.{Refuses}
use Rattle.guard_model.specs.declared.value.Value.{Value}
use Rattle.guard_der.specs.Sound.{is_sound}
use Rattle.guard_syntax.specs.Trees.{WrittenValue}
use Rattle.guard_values.specs.declared.fault.ValueFault.{ValueFault}
use Rattle.guard_values.specs.declared.fault.ValueFault.TheVariants as value_fault
use Rattle.guard_values.specs.Denotes.{Denotes}
use Rattle.guard_values.specs.FirstFault.{IsFirstFault}
use Rattle.guard_values.specs.Meanings.{Meaning}
use Rattle.guard_values.specs.inside.Reading.{read_whole}
use Rattle.guard_values.specs.Views as values
use Rattle.guard_values.specs.Views.{shared_view}
use Rattle.guard_values.proofs.OneAnswer.FaultOrValue.{gives_read}
use Rattle.guard_constraints.specs.inside.Reading.{of_value, read_value}
use Rattle.guard_constraints.specs.Views.{named, fault_with}

value_refused : {A : Type 0} (e : ValueFault) (r : Result A ValueFault) → Refuses (values.named e) r → Refuses (named (fault_with e)) (of_value r)
value_refused value_fault.OutOfMemory r h = tt
value_refused e r h = rw h refl

-- the value denoted is read
pub value_given : (m : Meaning) (t : AbstractType) (tree : WrittenValue) → IsTrue (is_sound t) → (v : Arc Value Global) → Denotes m t tree (shared_view v) → read_value m t tree ≡ Ok (shared_view v)
value_given m t tree sound v denoted = let read : read_whole m t tree ≡ Ok (shared_view v) = gives_read m t tree sound (Ok (arc_value v)) denoted tt in rw read refl

-- its first fault is the one that is read
pub fault_given : (m : Meaning) (t : AbstractType) (tree : WrittenValue) → IsTrue (is_sound t) → (e : ValueFault) → IfSome (values.named e) (IsFirstFault m t tree) → Refuses (named (fault_with e)) (read_value m t tree)
fault_given m t tree sound e first = value_refused e (read_whole m t tree) (gives_read m t tree sound (Err e) tt first)
