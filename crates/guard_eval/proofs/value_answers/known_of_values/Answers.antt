use Rattle.std.proofs.Common.{ℕ, List, Vec, Bor, Global, ap, ◌∙◌}
use Rattle.guard_model.specs.TypeView.{kind_view}
use Rattle.guard_model.specs.declared.ty.Cons.{Cons}
use Rattle.guard_eval.specs.inside.Together.{gathered_view}
use Rattle.guard_eval.specs.inside.ValueAnswers.{is_sized_by_all, is_spelled_in_each}
use Rattle.guard_eval.proofs.ValueAnswers.{more_sizes, more_alphabets, more_others, none_more}
use Rattle.guard_eval.proofs.value_answers.known_of_values.Goals as goal
use Rattle.guard_eval.proofs.value_answers.known_of_values.Goals.{in-Some-default+in_ok-push-in-Some-default, in-None-Some+in_ok-push-in-None-Some, in-None-None+in_ok-push-in-None-None+in_ok-alternatives_of-in-None-None+in_ok-push-in-None-None-2}

pub loop-place-preserved : goal.loop-place-preserved
loop-place-preserved c = elim c.match-size_in.branch [
  | in-Some-default+in_ok-push-in-Some-default w ↦
      more_sizes c.args.cons.now c.loop-place.place c.index-cons-place.result c.size_in.result w.in-Some-default.size c.loop-place.sizes.items c.match-size_in.sizes.items c.loop-place.alphabets.items c.match-size_in.alphabets.items c.loop-place.others.items c.match-size_in.others.items
      c.loop-place-test.true c.index-cons-place.is c.size_in.ensures w.in-Some-default.is-0 (ap (λ (x : Vec (Bor Cons) Global). x.items) w.sizes-is ∙ w.in_ok-push-in-Some-default.ensures.items)
      (ap (λ (x : Vec (Bor (List (ℕ × ℕ))) Global). x.items) w.alphabets-is) (ap (λ (x : Vec ℕ Global). x.items) w.others-is) c.loop-place.invariant
  | in-None-Some+in_ok-push-in-None-Some w ↦
      more_alphabets c.args.cons.now c.loop-place.place c.index-cons-place.result c.alphabet_in.result w.in-None-Some.ranges c.loop-place.sizes.items c.match-size_in.sizes.items c.loop-place.alphabets.items c.match-size_in.alphabets.items c.loop-place.others.items c.match-size_in.others.items
      c.loop-place-test.true c.index-cons-place.is c.alphabet_in.ensures w.in-None-Some.is-1 (ap (λ (x : Vec (Bor Cons) Global). x.items) w.sizes-is)
      (ap (λ (x : Vec (Bor (List (ℕ × ℕ))) Global). x.items) w.alphabets-is ∙ w.in_ok-push-in-None-Some.ensures.items) (ap (λ (x : Vec ℕ Global). x.items) w.others-is) c.loop-place.invariant
  | in-None-None+in_ok-push-in-None-None+in_ok-alternatives_of-in-None-None+in_ok-push-in-None-None-2 w ↦
      more_others c.args.cons.now c.loop-place.place c.index-cons-place.result c.loop-place.sizes.items c.match-size_in.sizes.items c.loop-place.alphabets.items c.match-size_in.alphabets.items c.loop-place.others.items c.match-size_in.others.items
      c.loop-place-test.true c.index-cons-place.is (ap (λ (x : Vec (Bor Cons) Global). x.items) w.sizes-is) (ap (λ (x : Vec (Bor (List (ℕ × ℕ))) Global). x.items) w.alphabets-is)
      (ap (λ (x : Vec ℕ Global). x.items) w.others-is ∙ w.in_ok-push-in-None-None.ensures.items) c.loop-place.invariant
]

pub returns : goal.returns
returns c = λ v.
    none_more c.args.cons.now c.loop-place.place c.loop-place.sizes.items c.loop-place.alphabets.items c.loop-place.others.items (kind_view c.args.kind.now) v _ _ c.loop-place-test.false
    (c.in_ok-sizes_of_all.ensures (kind_view c.args.kind.now) v ∙ ap (λ (ss : List (Bor Cons)). is_sized_by_all (gathered_view ss) (kind_view c.args.kind.now) v) c.deref.ensures.value)
    (c.in_ok-codes_of_all.ensures v ∙ ap (λ (ls : List (Bor (List (ℕ × ℕ)))). is_spelled_in_each ls v) c.deref-2.ensures.value) c.loop-place.invariant
