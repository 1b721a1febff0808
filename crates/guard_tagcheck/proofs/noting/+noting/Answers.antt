use Rattle.std.proofs.Common.{◌+◌, ◌∙◌, List, ap, sym, take}
use Rattle.std.specs.Prelude.{◌||◌}
use Rattle.std.specs.List.{slice_get}
use Rattle.guard_model.specs.declared.tag.Tag.{Tag}
use Rattle.std.proofs.lemmas.Result.{IfOk-weaker, on_ok_weaker}
use Rattle.guard_model.specs.Tags.{same_tag}
use Rattle.guard_model.specs.TypeView.{type_view}
use Rattle.guard_model.specs.declared.ty.Kind.TheViews.{out-Comp}
use Rattle.guard_model.proofs.Components.{in_view}
use Rattle.guard_tagcheck.specs.FirstTags.{begins_with, one_begins_with}
use Rattle.guard_tagcheck.specs.inside.Noting.{noted, earlier}
use Rattle.guard_tagcheck.proofs.FirstOfTags.{of_tagged, of_choice, one_of, one_more_of, whole_of}
use Rattle.guard_tagcheck.proofs.NotedTags.{none_noted, none_before, notes_alike, earliest_alike, notes_both, earliest_both}
use Rattle.guard_tagcheck.proofs.noting.+noting.Goals as goal

pub note-returns-in-Some-clause-noted : goal.note-returns-in-Some-clause-noted
note-returns-in-Some-clause-noted t c =
    let first = ap (λ (ts : List Tag). slice_get ts 0) (sym c.deref.ensures.value) ∙ sym c.in-Some.ensures.value in
    on_ok_weaker c.note_tag.result (notes_alike (noted c.args.notes.now.entries) (noted c.note_tag.new.notes.entries) (same_tag c.in-Some.tag.now) (begins_with (type_view c.args.ty.now)) c.args.position
    (of_tagged c.args.ty.now c.in-Some.tag.now first)) c.note_tag.ensures.noted

pub note-returns-in-Some-clause-first : goal.note-returns-in-Some-clause-first
note-returns-in-Some-clause-first t c =
    let first = ap (λ (ts : List Tag). slice_get ts 0) (sym c.deref.ensures.value) ∙ sym c.in-Some.ensures.value in
    IfOk-weaker c.note_tag.result _ _ (λ r. earliest_alike (noted c.args.notes.now.entries) (same_tag c.in-Some.tag.now) (begins_with (type_view c.args.ty.now)) c.args.position r
    (of_tagged c.args.ty.now c.in-Some.tag.now first)) c.note_tag.ensures.first

pub note-returns-in-Choice-clause-noted : goal.note-returns-in-Choice-clause-noted
note-returns-in-Choice-clause-noted t c =
    let first = ap (λ (ts : List Tag). slice_get ts 0) (sym c.deref.ensures.value) ∙ sym c.in_default.ensures.value in
    on_ok_weaker c.note_all.result (notes_alike (noted c.args.notes.now.entries) (noted c.note_all.new.notes.entries) (one_begins_with (in_view c.in-Choice.alternatives.items)) (begins_with (type_view c.args.ty.now)) c.args.position
    (of_choice c.args.ty.now c.in-Choice.alternatives first c.in-Choice.is)) (rw c.deref-in-Choice.ensures.value at c.note_all.ensures.noted)

pub note-returns-in-Choice-clause-first : goal.note-returns-in-Choice-clause-first
note-returns-in-Choice-clause-first t c =
    let first = ap (λ (ts : List Tag). slice_get ts 0) (sym c.deref.ensures.value) ∙ sym c.in_default.ensures.value in
    IfOk-weaker c.note_all.result _ _ (λ r. earliest_alike (noted c.args.notes.now.entries) (one_begins_with (in_view c.in-Choice.alternatives.items)) (begins_with (type_view c.args.ty.now)) c.args.position r
    (of_choice c.args.ty.now c.in-Choice.alternatives first c.in-Choice.is)) (rw c.deref-in-Choice.ensures.value at c.note_all.ensures.first)

pub note_all-loop-alternative-init : goal.note_all-loop-alternative-init
note_all-loop-alternative-init t c = record {
  notes = none_noted (noted c.args.notes.now.entries) c.args.position;
  first = none_before (noted c.args.notes.now.entries) c.args.position;
}

pub note_all-loop-alternative-preserved : goal.note_all-loop-alternative-preserved
note_all-loop-alternative-preserved t c =
    let old = noted c.args.notes.now.entries in
    let mid = noted c.loop-alternative.notes.entries in
    let new = noted c.note.new.notes.entries in
    let i = c.loop-alternative.alternative-index in
    let done = one_of (take i c.args.alternatives.now) in
    let more = begins_with (type_view (out-Comp c.alternative-item.result).ty) in
    let next = one_more_of c.args.alternatives.now i c.alternative-item.result c.loop-alternative-test.true c.alternative-item.is in
    let p = c.args.position in
    record {
      notes = notes_alike old new (λ t. done t || more t) (one_of (take (i + 1) c.args.alternatives.now)) p next (notes_both old mid new done more p c.loop-alternative.invariant.notes c.in_ok-other.ensures.noted);
      first = rw c.earlier-first.ensures (earliest_alike old (λ t. done t || more t) (one_of (take (i + 1) c.args.alternatives.now)) p (earlier c.loop-alternative.first c.in_ok-other.other) next
          (earliest_both old mid done more p c.loop-alternative.first c.in_ok-other.other c.loop-alternative.invariant.notes c.loop-alternative.invariant.first c.in_ok-other.ensures.first));
    }

pub note_all-returns-clause-noted : goal.note_all-returns-clause-noted
note_all-returns-clause-noted t c =
    let i = c.loop-alternative.alternative-index in
    notes_alike (noted c.args.notes.now.entries) (noted c.loop-alternative.notes.entries) (one_of (take i c.args.alternatives.now)) (one_begins_with (in_view c.args.alternatives.now)) c.args.position
    (whole_of c.args.alternatives.now i c.loop-alternative-test.false) c.loop-alternative.invariant.notes

pub note_all-returns-clause-first : goal.note_all-returns-clause-first
note_all-returns-clause-first t c =
    let i = c.loop-alternative.alternative-index in
    earliest_alike (noted c.args.notes.now.entries) (one_of (take i c.args.alternatives.now)) (one_begins_with (in_view c.args.alternatives.now)) c.args.position c.loop-alternative.first
    (whole_of c.args.alternatives.now i c.loop-alternative-test.false) c.loop-alternative.invariant.first
