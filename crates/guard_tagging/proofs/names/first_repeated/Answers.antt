use Rattle.std.proofs.Common.{◌≡◌, ◌∙◌, not, ap, sym, map, [], inl, inr, Some, false, ◌⊎◌}
use Rattle.std.specs.Prelude.{bytes_eq}
use Rattle.guard_tagging.specs.Faults.{repeated, same_number}
use Rattle.guard_tagging.specs.inside.ReadNames.{signed_key}
use Rattle.guard_tagging.specs.inside.Views.{place_view}
use Rattle.guard_tagging.proofs.Numbers.Repeated.{seen_after, seen_or, name_hit, number_new, found_again, goes_on}
use Rattle.guard_tagging.proofs.names.first_repeated.Goals as goal
use Rattle.guard_tagging.proofs.names.first_repeated.Goals.{then-not-is_new_name-via-then-not-is_new_name, then-not-is_new_name-via-else-not-is_new_name+then-not-is_new_number}

pub returns-then-not-is_new_name : goal.returns-then-not-is_new_name
returns-then-not-is_new_name c =
    let either : (c.in_ok-is_new_name.is_new_name ≡ false) ⊎ (c.in_ok-is_new_number.is_new_number ≡ false) =
    elim c.then-not-is_new_name.branch [ then-not-is_new_name-via-then-not-is_new_name w ↦ inl w.if-not-is_new_name.true | then-not-is_new_name-via-else-not-is_new_name+then-not-is_new_number w ↦ inr w.if-not-is_new_number.true ] in
    sym (found_again c.args.all.now c.loop-placed.placed-index _ c.loop-placed-test.true c.in_ok-is_new_name.is_new_name c.in_ok-is_new_number.is_new_number
    (c.in_ok-is_new_name.ensures.added ∙ ap not (c.loop-placed.invariant.names _))
    (c.in_ok-is_new_number.ensures.new ∙ ap not (number_new _ _ _ c.loop-placed.invariant.numbers))
    (repeated [] (map place_view c.args.all.now)) c.loop-placed.invariant.so_far either)

pub loop-placed-preserved : goal.loop-placed-preserved
loop-placed-preserved c = record {
  names =
      λ q. seen_after (λ p. bytes_eq q p.name) c.args.all.now c.loop-placed.placed-index _ _ _ _ c.loop-placed-test.true
      (c.loop-placed.invariant.names q) (c.in_ok-is_new_name.ensures.updates.0 (record { ref_ptr = (0, 0); now = q }))
      (name_hit _ q);
  numbers =
      λ q. seen_or (λ p. same_number
      (Some (signed_key q)) p.number) c.args.all.now c.loop-placed.placed-index _ _ _ c.loop-placed-test.true
      (c.loop-placed.invariant.numbers q) (c.in_ok-is_new_number.ensures.after q);
  so_far =
      goes_on c.args.all.now c.loop-placed.placed-index _ c.loop-placed-test.true c.in_ok-is_new_name.is_new_name c.in_ok-is_new_number.is_new_number
      (c.in_ok-is_new_name.ensures.added ∙ ap not (c.loop-placed.invariant.names _))
      (c.in_ok-is_new_number.ensures.new ∙ ap not (number_new _ _ _ c.loop-placed.invariant.numbers))
      (repeated [] (map place_view c.args.all.now)) c.loop-placed.invariant.so_far c.if-not-is_new_name.false c.if-not-is_new_number.false;
}
