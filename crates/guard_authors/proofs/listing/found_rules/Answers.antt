use Rattle.std.proofs.Common.{◌+◌, ◌∷◌, [], arith, ap, drop, map, refl, sym}
use Rattle.std.proofs.lemmas.List.{map_push}
use Rattle.guard_policy.specs.PolicyView.{policy_view, said_view}
use Rattle.guard_files.proofs.AllowingLaws.{none_of, past_all}
use Rattle.guard_authors.specs.Listing.{FoundRule, found_from, found_view}
use Rattle.guard_authors.proofs.ListingLaws.{one_told}
use Rattle.guard_authors.proofs.listing.found_rules.Goals as goal

pub unreachable-requires : goal.unreachable-requires
unreachable-requires c =
    none_of (policy_view c.args.policy.now).rules c.loop-number.number (sym (rw c.in_default.is at c.rule.ensures))
    (omega (arith, c.loop-number-test.true, c.rules-number-end.ensures))

pub loop-number-preserved : goal.loop-number-preserved
loop-number-preserved c =
    let p = policy_view c.args.policy.now in
    let i = c.loop-number.number in
    rw (c.in_ok-push.ensures.items, map_push found_view c.loop-number.found.items)
    (one_told (found_from p i) p.rules i (said_view c.in-Some.rule) (map found_view c.loop-number.found.items)
    (found_view c.in_ok-found_rule.field-0 ∷ []) _ _ (sym c.in-Some.ensures) (ap (λ (f : FoundRule). f ∷ found_from p (i + 1) (drop (i + 1) p.rules)) (sym c.in_ok-found_rule.ensures))
    c.loop-number.invariant)

pub returns : goal.returns
returns c =
    let p = policy_view c.args.policy.now in
    past_all (found_from p c.loop-number.number) p.rules c.loop-number.number (map found_view c.loop-number.found.items) _ refl
    (omega (arith, c.loop-number-test.false, c.rules-number-end.ensures)) c.loop-number.invariant
