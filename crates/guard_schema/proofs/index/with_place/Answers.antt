use Rattle.std.proofs.Common.{sym, ◌∙◌}
use Rattle.guard_schema.proofs.ByNames.Lookups.{placed, kept}
use Rattle.guard_schema.proofs.index.with_place.Goals as goal
use Rattle.guard_schema.proofs.index.with_place.Goals.{then-not-contains_key+in_ok-from_slice+in_ok-insert}
use Rattle.guard_schema.proofs.index.with_place.Goals.{else-not-contains_key}

pub returns : goal.returns
returns c = λ q.
    elim c.if-not-contains_key.branch [
      | then-not-contains_key+in_ok-from_slice+in_ok-insert w ↦
          rw w.places-is (placed (λ key. key.items) q c.args.name.now c.args.before.entries w.insert.new.self.entries
          w.in_ok-from_slice.field-0 c.args.place w.in_ok-insert.ensures.entries w.in_ok-from_slice.ensures.items
          (sym c.contains_key.ensures ∙ w.if-not-contains_key.true))
      | else-not-contains_key w ↦ rw w.places-is
          (kept (λ key. key.items) q c.args.name.now c.args.before.entries c.args.place
          (sym c.contains_key.ensures ∙ w.if-not-contains_key.false))
    ]
