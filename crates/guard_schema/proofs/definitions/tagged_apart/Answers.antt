use Rattle.std.proofs.Common.{inl, refl}
use Rattle.std.proofs.lemmas.Result.{err_from_is_err_and}
use Rattle.guard_model.specs.TypeView.{type_view}
use Rattle.guard_schema.specs.Faults.{named}
use Rattle.guard_schema.proofs.Built.OneDefinition.{tags_refused, clash_refused, number_tagged, all_limits}
use Rattle.guard_schema.proofs.definitions.tagged_apart.Goals as goal

pub skeleton_after-requires : goal.skeleton_after-requires
skeleton_after-requires c =
    let p = c.args.progress.now in
    record {
      next = rw c.done.ensures.types c.requires.next;
      known = rw (c.done.ensures.types, c.done.ensures.flags) c.requires.flags;
      counted = rw (c.done.ensures.types, c.done.ensures.nodes) p.counted;
      few = rw c.done.ensures.nodes p.few;
      limits = rw c.done.ensures.types (all_limits p.known.types.items p.sound);
      spelled = c.requires.spelled;
    }

pub returns-in_err-tagged-clause-tagged : goal.returns-in_err-tagged-clause-tagged
returns-in_err-tagged-clause-tagged c =
    let p = err_from_is_err_and c.from_residual.result c.from_residual.ensures.1 in
    rw p.1 (tags_refused c.args.progress.now c.args.id c.args.site c.in_err-tagged.field-0.0 p.0 p.2
    (rw c.done.ensures.types at c.in_err-tagged.ensures.refused))

pub returns-in_err-check_tags-clause-tagged : goal.returns-in_err-check_tags-clause-tagged
returns-in_err-check_tags-clause-tagged c =
    let p = err_from_is_err_and c.from_residual-in_err-check_tags.result c.from_residual-in_err-check_tags.ensures.1 in
    rw (p.1, p.2) (clash_refused c.args.progress.now c.args.id c.args.site (type_view c.in_ok-tagged.tagged.ty)
    (number_tagged c.args.progress.now c.args.id (type_view c.in_ok-tagged.tagged.ty)
    (rw c.done.ensures.types at c.in_ok-tagged.ensures.tagged))
    (named c.in_err-check_tags.field-0.0) c.in_err-check_tags.ensures)

pub returns-clause-tagged : goal.returns-clause-tagged
returns-clause-tagged c = inl (
  type_view c.in_ok-tagged.tagged.ty,
  number_tagged c.args.progress.now c.args.id (type_view c.in_ok-tagged.tagged.ty)
      (rw c.done.ensures.types at c.in_ok-tagged.ensures.tagged),
  inl (tt, c.in_ok-check_tags.ensures, refl),
)

pub returns-clause-nodes : goal.returns-clause-nodes
returns-clause-nodes c = (rw c.done.ensures.nodes at c.in_ok-tagged.ensures.counted, c.in_ok-tagged.ensures.few)

pub returns-clause-automatic : goal.returns-clause-automatic
returns-clause-automatic c = c.in_ok-tagged.ensures.known
