use Rattle.std.proofs.Common.{◌≡◌, ◌&&◌, drop}
use Rattle.guard_model.specs.AbstractType.{AbstractKind}
use Rattle.guard_model.specs.AbstractValue.{AbstractValue}
use Rattle.guard_eval.specs.inside.Gathered.{passes_gathered}
use Rattle.guard_eval.specs.inside.Together.{gathered_view, passes_all}
use Rattle.guard_eval.proofs.gathered.gather.Given as goal

abbrev pub invariant-loop-one : goal.invariant-loop-one
invariant-loop-one l =
    (kind : AbstractKind) (v : AbstractValue) → (passes_gathered l.gathered kind v && passes_all (gathered_view (drop l.one-index l.cons)) kind v) ≡ passes_all (gathered_view l.cons) kind v
