use Rattle.std.proofs.Common.{◌≡◌, ◌&&◌, map, drop}
use Rattle.std.specs.Option.{is_none}
use Rattle.guard_model.specs.AbstractType.{AbstractKind}
use Rattle.guard_model.specs.AbstractValue.{AbstractValue}
use Rattle.guard_model.specs.TypeView.{constraint_view, constraints_of}
use Rattle.guard_eval.specs.inside.Failures.{first_failure}
use Rattle.guard_eval.specs.inside.Gathered.{passes_gathered}
use Rattle.guard_eval.proofs.gathered.+gathering.Given as goal

abbrev pub invariant-add_all-loop-one : goal.invariant-add_all-loop-one
invariant-add_all-loop-one l =
    (kind : AbstractKind) (v : AbstractValue) → (passes_gathered l.gathered kind v && is_none (first_failure (constraints_of (map constraint_view (drop l.one-index l.cons))) kind v))
    ≡ (passes_gathered l.initial.gathered kind v && is_none (first_failure (constraints_of (map constraint_view l.cons)) kind v))
