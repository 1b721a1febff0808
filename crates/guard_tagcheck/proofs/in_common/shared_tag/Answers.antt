use Rattle.std.proofs.Common.{ℕ, List, ap}
use Rattle.guard_model.specs.TypeView.{type_view}
use Rattle.guard_model.specs.declared.tag.Tag.{Tag}
use Rattle.guard_tagcheck.specs.inside.Noting.{noted}
use Rattle.guard_tagcheck.proofs.SharedNotes.{all_noted}
use Rattle.guard_tagcheck.proofs.in_common.shared_tag.Goals as goal

pub returns : goal.returns
returns c =
    let b = type_view c.args.b.now in
    c.first_noted.ensures b (all_noted (noted c.new-notes.result.entries) (noted c.note.new.notes.entries) b 0 (λ tag. ap (λ (entries : List (Tag × ℕ)). noted entries tag) c.new-notes.ensures.empty) c.in_ok-note.ensures.noted)
