use Rattle.guard_schema.specs.Entries.{looked_up}
use Rattle.guard_schema.proofs.ByNames.Lookups.{places_more, places_before}
use Rattle.guard_schema.proofs.index.with_places.Goals as goal

pub loop-definition-init : goal.loop-definition-init
loop-definition-init c = λ q. places_before (looked_up (λ key. key.items) q c.args.before.entries)

pub loop-definition-preserved : goal.loop-definition-preserved
loop-definition-preserved c = λ q. places_more c.args.definitions.now c.loop-definition.definition-index _
    c.loop-definition-test.true q (looked_up (λ key. key.items) q c.args.before.entries) _ _
    (c.loop-definition.invariant q) (c.in_ok-places.ensures q)
