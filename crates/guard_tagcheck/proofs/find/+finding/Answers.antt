use Rattle.std.proofs.Common.{rules, ap, ◌∙◌, Some, inl, inr}
use Rattle.guard_model.specs.declared.ty.Kind.{the_lemmas}
use Rattle.guard_model.specs.declared.ty.Kind.TheViews.{out-Comp}
use Rattle.guard_tagcheck.specs.Search.{clash_inside}
use Rattle.guard_tagcheck.specs.Views.{clash_view}
use Rattle.guard_model.proofs.Components.{left}
use Rattle.guard_tagcheck.proofs.PartLimits.{Within, left_limits, sequence_within, set_within, choice_within}
use Rattle.guard_tagcheck.proofs.SearchLoops.{found, found_none, path_fits, inside_found, inside_goes_on}
use Rattle.guard_tagcheck.proofs.find.+finding.Goals as goal

pub clash_inside-below-requires : goal.clash_inside-below-requires
clash_inside-below-requires t c =
    let l = left_limits c.args.comps.now c.loop-index.index c.index-comps-index.result c.loop-index-test.true c.index-comps-index.is c.loop-index.invariant.limits c.loop-index.invariant.depth in
    path_fits (out-Comp c.index-comps-index.result).ty c.in_ok-found.found c.in-Some.clash l.0 l.1 c.in-Some.is c.in_ok-found.ensures

pub clash_inside-returns-in-Some : goal.clash_inside-returns-in-Some
clash_inside-returns-in-Some t c =
    ap Some c.below.ensures
    ∙ inside_found c.args.comps.now c.loop-index.index c.index-comps-index.result (clash_view c.in-Some.clash) (clash_inside 0 (left c.args.comps.now 0)) c.loop-index-test.true c.index-comps-index.is
    (found (out-Comp c.index-comps-index.result).ty c.in_ok-found.found c.in-Some.clash c.in-Some.is c.in_ok-found.ensures) c.loop-index.invariant.so_far

pub clash_inside-loop-index-preserved : goal.clash_inside-loop-index-preserved
clash_inside-loop-index-preserved t c =
    let l = left_limits c.args.comps.now c.loop-index.index c.index-comps-index.result c.loop-index-test.true c.index-comps-index.is c.loop-index.invariant.limits c.loop-index.invariant.depth in
    record {
      so_far = inside_goes_on c.args.comps.now c.loop-index.index c.index-comps-index.result (clash_inside 0 (left c.args.comps.now 0)) c.loop-index-test.true c.index-comps-index.is
          (found_none (out-Comp c.index-comps-index.result).ty c.in_ok-found.found c.in_default.is c.in_ok-found.ensures) c.loop-index.invariant.so_far;
      limits = l.2;
      depth = l.3;
    }

pub clash_of_elements-below-requires : goal.clash_of_elements-below-requires
clash_of_elements-below-requires t c = path_fits c.args.element.now c.in_ok-found.found c.in-Some.clash c.requires.limits c.requires.depth c.in-Some.is c.in_ok-found.ensures

pub first_clash-clash_among-requires : goal.first_clash-clash_among-requires
first_clash-clash_among-requires t c =
    let l = sequence_within c.args.ty.now c.in-Sequence.comps c.in-Sequence.is c.requires.limits c.requires.depth in
    (search (rules, the_lemmas), (rw c.deref.ensures.value l.0, (rw c.deref.ensures.value l.1, rw c.deref.ensures.value l.2)))

pub first_clash-clash_among-requires-in-Set : goal.first_clash-clash_among-requires-in-Set
first_clash-clash_among-requires-in-Set t c =
    let l : Within c.in-Set.comps.items = elim c.in-Set.is [
      | inl is ↦ set_within c.args.ty.now c.in-Set.comps is c.requires.limits c.requires.depth
      | inr is ↦ choice_within c.args.ty.now c.in-Set.comps is c.requires.limits c.requires.depth
    ] in
    (search (rules, the_lemmas), (rw c.deref-in-Set.ensures.value l.0, (rw c.deref-in-Set.ensures.value l.1, rw c.deref-in-Set.ensures.value l.2)))
