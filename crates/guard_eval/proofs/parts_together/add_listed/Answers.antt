use Rattle.std.proofs.Common.{◌∙◌}
use Rattle.guard_model.specs.TypeView.{kind_view}
use Rattle.guard_eval.proofs.PartsTogether.{listed_added}
use Rattle.guard_eval.proofs.parts_together.add_listed.Goals as goal

pub add_part-requires : goal.add_part-requires
add_part-requires c = record { places = c.loop-part.invariant.0 ∙ c.requires.places }

pub loop-part-preserved : goal.loop-part-preserved
loop-part-preserved c = (
  c.in_ok-add_part.ensures.places ∙ c.loop-part.invariant.0,
  λ v. listed_added c.args.parts.now c.loop-part.part-index c.part-item.result c.loop-part-test.true c.part-item.is c.args.partial (kind_view c.args.kind.now) v _ _ _ (c.in_ok-add_part.ensures.added v) (c.loop-part.invariant.1 v),
)
