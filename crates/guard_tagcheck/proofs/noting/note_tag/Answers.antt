use Rattle.std.proofs.Common.{◌≡◌, sym, ◌∙◌, Some, None}
use Rattle.guard_tagcheck.specs.inside.Noting.{noted}
use Rattle.guard_tagcheck.proofs.NotedTags.{at_tag, put_at, tag_stays, tag_before, tag_not_before, tag_comes, tag_unknown}
use Rattle.guard_tagcheck.proofs.noting.note_tag.Goals as goal

pub returns-in-Some-clause-noted : goal.returns-in-Some-clause-noted
returns-in-Some-clause-noted c =
    let had : noted c.args.notes.now.entries c.args.tag ≡ Some c.in-Some.first = sym (at_tag c.args.notes.now.entries c.args.tag) ∙ (sym c.get.ensures.value ∙ (sym c.copied.ensures ∙ c.in-Some.is)) in
    tag_stays (noted c.args.notes.now.entries) c.args.tag c.args.position c.in-Some.first had

pub returns-in-Some-clause-first : goal.returns-in-Some-clause-first
returns-in-Some-clause-first c =
    let had : noted c.args.notes.now.entries c.args.tag ≡ Some c.in-Some.first = sym (at_tag c.args.notes.now.entries c.args.tag) ∙ (sym c.get.ensures.value ∙ (sym c.copied.ensures ∙ c.in-Some.is)) in
    tag_before (noted c.args.notes.now.entries) c.args.tag c.args.position c.in-Some.first had c.if-first-position.true

pub returns-in-Some-2-clause-noted : goal.returns-in-Some-2-clause-noted
returns-in-Some-2-clause-noted c =
    let had : noted c.args.notes.now.entries c.args.tag ≡ Some c.in-Some.first = sym (at_tag c.args.notes.now.entries c.args.tag) ∙ (sym c.get.ensures.value ∙ (sym c.copied.ensures ∙ c.in-Some.is)) in
    tag_stays (noted c.args.notes.now.entries) c.args.tag c.args.position c.in-Some.first had

pub returns-in-Some-2-clause-first : goal.returns-in-Some-2-clause-first
returns-in-Some-2-clause-first c =
    let had : noted c.args.notes.now.entries c.args.tag ≡ Some c.in-Some.first = sym (at_tag c.args.notes.now.entries c.args.tag) ∙ (sym c.get.ensures.value ∙ (sym c.copied.ensures ∙ c.in-Some.is)) in
    tag_not_before (noted c.args.notes.now.entries) c.args.tag c.args.position c.in-Some.first had c.if-first-position.false

pub returns-in_ok-insert-in-None-clause-noted : goal.returns-in_ok-insert-in-None-clause-noted
returns-in_ok-insert-in-None-clause-noted c =
    let had : noted c.args.notes.now.entries c.args.tag ≡ None = sym (at_tag c.args.notes.now.entries c.args.tag) ∙ (sym c.get.ensures.value ∙ (sym c.copied.ensures ∙ c.in-None.is)) in
    tag_comes (noted c.args.notes.now.entries) c.args.tag c.args.position (noted c.insert.new.self.entries) had
    (put_at c.args.notes.now.entries c.insert.new.self.entries c.args.tag c.args.position c.in_ok-insert-in-None.ensures.updates.0)

pub returns-in_ok-insert-in-None-clause-first : goal.returns-in_ok-insert-in-None-clause-first
returns-in_ok-insert-in-None-clause-first c =
    let had : noted c.args.notes.now.entries c.args.tag ≡ None = sym (at_tag c.args.notes.now.entries c.args.tag) ∙ (sym c.get.ensures.value ∙ (sym c.copied.ensures ∙ c.in-None.is)) in
    tag_unknown (noted c.args.notes.now.entries) c.args.tag c.args.position had
