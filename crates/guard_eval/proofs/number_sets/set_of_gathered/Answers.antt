use Rattle.std.proofs.Common.{Bool, not, ◌&&◌, List, ap, ◌∙◌}
use Rattle.guard_integers.specs.Integers.{Integers, some_holds}
use Rattle.guard_model.specs.Limits.{fits_128_bits}
use Rattle.guard_eval.specs.inside.NumberSets.{allows}
use Rattle.guard_eval.proofs.Gathering.{gathered_more, gathered_done}
use Rattle.guard_eval.proofs.WholeSets.{if_ok}
use Rattle.guard_eval.proofs.number_sets.set_of_gathered.Goals as goal

pub loop-count-preserved : goal.loop-count-preserved
loop-count-preserved c = λ kind whole z.
    gathered_more (λ one. allows c.args.of one kind z) c.args.constraints.now c.loop-count.count c.index-constraints-count.result
    (some_holds c.loop-count.left_out.items z) _ _ _ (fits_128_bits z) _ c.loop-count-test.true
    c.index-constraints-count.is (c.in_ok-keep.ensures z) (c.in_ok-complement.ensures z) (c.in_ok-numbers.ensures kind whole z) (c.loop-count.invariant kind whole z)

pub returns : goal.returns
returns c =
    if_ok c.complement-3.result _ _
    (λ set h kind whole z. h z ∙ ap (λ (b : Bool). fits_128_bits z && not b) (c.in_ok-union_of.ensures z ∙ ap (λ (sets : List Integers). some_holds sets z) c.deref.ensures.value)
    ∙ gathered_done (λ one. allows c.args.of one kind z) c.args.constraints.now c.loop-count.count (some_holds c.loop-count.left_out.items z) (fits_128_bits z) _ c.loop-count-test.false (c.loop-count.invariant kind whole z)) c.complement-3.ensures
