use Rattle.std.proofs.Common.{◌∙◌, arith, map, refl, sym}
use Rattle.std.proofs.lemmas.List.{length-map}
use Rattle.std.proofs.lemmas.Option.{slice_get-map}
use Rattle.guard_policy.specs.PolicyView.{policy_view}
use Rattle.guard_files.proofs.AllowingLaws.{none_of, past_all}
use Rattle.guard_authors.specs.Listing.{found_view, messages_lines}
use Rattle.guard_authors.proofs.ListingLaws.{one_told}
use Rattle.guard_authors.proofs.listing.add_messages.Goals as goal

pub unreachable-requires : goal.unreachable-requires
unreachable-requires c =
    let ms = (policy_view c.args.policy.now).messages in
    let i = c.loop-place.place in
    none_of (map (λ m. m.name) ms) i (slice_get-map (λ m. m.name) ms i ∙ sym (rw c.in_default.is at c.message_name.ensures))
    (omega (arith, c.loop-place-test.true, c.messages-place-end.ensures, length-map ms (λ m. m.name)))

pub loop-place-preserved : goal.loop-place-preserved
loop-place-preserved c =
    let ms = (policy_view c.args.policy.now).messages in
    let i = c.loop-place.place in
    rw c.in_ok-add_message.ensures
    (one_told (messages_lines c.args.strict (map found_view c.args.rules.now)) (map (λ m. m.name) ms) i c.in-Some.message.now _ _ _ _
    (slice_get-map (λ m. m.name) ms i ∙ sym c.in-Some.ensures) refl c.loop-place.invariant)

pub returns : goal.returns
returns c =
    let ms = (policy_view c.args.policy.now).messages in
    past_all (messages_lines c.args.strict (map found_view c.args.rules.now)) (map (λ m. m.name) ms) c.loop-place.place _ _ refl
    (omega (arith, c.loop-place-test.false, c.messages-place-end.ensures, length-map ms (λ m. m.name))) c.loop-place.invariant
