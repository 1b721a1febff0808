use Rattle.std.proofs.Common.{ℕ, List, ap, refl, sym, ◌∙◌, arith}
use Rattle.guard_model.specs.declared.tag.Tag.{Tag}
use Rattle.guard_model.proofs.Components.{in_view, component_count_view}
use Rattle.guard_model.proofs.TypeViews.{opened}
use Rattle.guard_tagcheck.specs.inside.Noting.{noted}
use Rattle.guard_tagcheck.proofs.NotedPairs.{nothing_kept, kept_passed, kept_stopped, pairs_here, none_so_far, least_so_far, is_first_pair, component_here}
use Rattle.guard_tagcheck.proofs.noting.least_pair.Goals as goal
use Rattle.guard_tagcheck.proofs.noting.least_pair.Goals.{then-not-is_passed, else-not-is_passed}

pub loop-index-init : goal.loop-index-init
loop-index-init c = record {
  kept = nothing_kept c.args.in_sequence (in_view c.args.comps.now) (noted c.new-notes.result.entries) (λ tag. ap (λ (entries : List (Tag × ℕ)). noted entries tag) c.new-notes.ensures.empty);
  least = none_so_far c.args.in_sequence (in_view c.args.comps.now);
}

pub loop-index-preserved : goal.loop-index-preserved
loop-index-preserved c =
    let s = c.args.in_sequence in
    let cs = in_view c.args.comps.now in
    let n = c.loop-index.index in
    let comp = opened c.index-comps-index.result in
    let at = component_here c.args.comps.now n c.index-comps-index.result c.loop-index-test.true c.index-comps-index.is in
    let old = noted c.loop-index.notes.entries in
    record {
      kept = elim c.if-not-is_passed.branch [
        | then-not-is_passed w ↦ kept_stopped s cs n comp at (noted c.if-not-is_passed.notes.entries) (sym c.is_passed.ensures ∙ w.if-not-is_passed.true) (λ tag. rw (w.notes-is, w.clear.ensures.empty) refl)
        | else-not-is_passed w ↦
            rw w.notes-is (kept_passed s cs n comp at old (noted c.note.new.notes.entries) (sym c.is_passed.ensures ∙ w.if-not-is_passed.false) c.loop-index.invariant.kept c.in_ok-first.ensures.noted)
      ];
      least = rw c.lesser-least.ensures (least_so_far s cs n c.loop-index.least c.in_ok-first.first c.loop-index.invariant.least (pairs_here s cs n comp at old c.in_ok-first.first c.loop-index.invariant.kept c.in_ok-first.ensures.first));
    }

pub returns : goal.returns
returns c =
    is_first_pair c.args.in_sequence (in_view c.args.comps.now) c.loop-index.index c.loop-index.least (omega (arith, component_count_view c.args.comps.now, c.loop-index-test.false)) c.loop-index.invariant.least
