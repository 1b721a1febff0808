-- A tree denotes one constraint at most, and then has no fault.
use Rattle.std.proofs.Common.{◌≡◌, sym, ◌∙◌}
use Rattle.std.specs.Prelude.{IsTrue}
use Rattle.guard_model.specs.AbstractType.{AbstractType, Constraint}
use Rattle.guard_model.proofs.Results.{same_Ok}
use Rattle.guard_der.specs.Sound.{is_sound}
use Rattle.guard_syntax.specs.Trees.{WrittenConstraint}
use Rattle.guard_constraints.specs.declared.fault.ConsFault.{ConsFault}
use Rattle.guard_constraints.specs.Visible.{Visible}
use Rattle.guard_constraints.specs.Denotes.{Denotes}
use Rattle.guard_constraints.specs.FirstFault.{IsFirstConstraintFault, checks}
use Rattle.guard_constraints.specs.inside.Reading.{read}
use Rattle.guard_constraints.proofs.Denoted.Agreement.{read_denoted, passed_none, one_of_first}
use Rattle.guard_constraints.proofs.Denoted.PlainElements.{ValuesAgree}
use Rattle.guard_constraints.proofs.Denoted.WholeTrees.{agrees}
use Rattle.guard_constraints.proofs.Denoted.DenotedIsRead.{ValuesSaid, denotes_read}

pub one_constraint : (names : Visible) (t : AbstractType) (tree : WrittenConstraint) (c d : Constraint) → ValuesSaid names.values → Denotes names t tree c → Denotes names t tree d → c ≡ d
one_constraint names t tree c d said h k = same_Ok c d (sym (denotes_read names t tree c said h) ∙ denotes_read names t tree d said k)

pub no_fault : (names : Visible) (t : AbstractType) (tree : WrittenConstraint) (c : Constraint) (f : ConsFault) → ValuesSaid names.values → ValuesAgree names.values → IsTrue (is_sound t) → Denotes names t tree c
    → IsFirstConstraintFault names t tree f → ⊥
no_fault names t tree c f said agree sound h k =
    passed_none names.values (checks names t tree) f (read_denoted names.values (Denotes names t tree) (read names t tree) (checks names t tree) c (agrees names t tree agree sound) (denotes_read names t tree c said h)).0 k

pub one_fault : (names : Visible) (t : AbstractType) (tree : WrittenConstraint) (f g : ConsFault) → IsFirstConstraintFault names t tree f → IsFirstConstraintFault names t tree g → f ≡ g
one_fault names t tree f g h k = one_of_first names.values (checks names t tree) f g h k
