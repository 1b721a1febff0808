use Rattle.std.proofs.Common.{true, false, List, ap, sym, ◌∙◌}
use Rattle.std.specs.Prelude.{is_some}
use Rattle.std.specs.List.{slice_get}
use Rattle.guard_model.specs.declared.tag.Tag.{Tag}
use Rattle.guard_tagcheck.proofs.NotedTags.{at_tag}
use Rattle.guard_tagcheck.proofs.SharedNotes.{shared_if_noted}
use Rattle.guard_tagcheck.proofs.in_common.+first_of_noted.Goals as goal

pub first_noted-returns-then-contains_key : goal.first_noted-returns-then-contains_key
first_noted-returns-then-contains_key t c = λ b known.
    let tag = c.in-Some.tag.now in
    let first = ap (λ (ts : List Tag). slice_get ts 0) (sym c.deref.ensures.value) ∙ sym c.in-Some.ensures.value in
    shared_if_noted c.args.ty.now tag b true first (sym c.if-contains_key.true ∙ c.contains_key.ensures ∙ ap is_some (at_tag c.args.notes.now.entries tag) ∙ known tag)

pub first_noted-returns-else-contains_key : goal.first_noted-returns-else-contains_key
first_noted-returns-else-contains_key t c = λ b known.
    let tag = c.in-Some.tag.now in
    let first = ap (λ (ts : List Tag). slice_get ts 0) (sym c.deref.ensures.value) ∙ sym c.in-Some.ensures.value in
    shared_if_noted c.args.ty.now tag b false first (sym c.if-contains_key.false ∙ c.contains_key.ensures ∙ ap is_some (at_tag c.args.notes.now.entries tag) ∙ known tag)
