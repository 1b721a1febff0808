use Rattle.std.proofs.Common.{ℕ, true, false, Option, option_map, sym, ap, ◌∙◌, arith}
use Rattle.std.proofs.lemmas.Result.{on_ok_weaker}
use Rattle.guard_model.specs.Components.{components_in, component_at}
use Rattle.guard_model.specs.TypeView.{kind_view, component_view, constraint_view, part_view}
use Rattle.guard_model.specs.declared.ty.Word.{Word}
use Rattle.guard_eval.specs.Presence.{is_as_said}
use Rattle.guard_eval.proofs.PartsTogether.{part_added, part_place, part_word, part_cons, place_exists}
use Rattle.guard_eval.proofs.parts_together.add_part.Goals as goal

pub narrow-requires : goal.narrow-requires
narrow-requires c =
    let found = sym c.component.ensures ∙ ap (option_map (λ c. component_view c.now)) c.in-Some.is in
    let exists = place_exists (components_in (kind_view c.args.kind.now)) _ _ found in
    record { place = omega (arith, c.from-at.ensures, exists, c.requires.places) }

pub add_within-requires : goal.add_within-requires
add_within-requires c =
    let found = sym c.component.ensures ∙ ap (option_map (λ c. component_view c.now)) c.in-Some.is in
    let exists = place_exists (components_in (kind_view c.args.kind.now)) _ _ found in
    record { place = omega (arith, c.from-at.ensures, exists, c.requires.places, c.narrow.ensures.places) }

pub returns-in-Some-cons-clause-added : goal.returns-in-Some-cons-clause-added
returns-in-Some-cons-clause-added c =
    let k = kind_view c.args.kind.now in
    let p = part_view c.args.part.now in
    let is = component_view c.in-Some.comp.now in
    let place = part_place c.args.part.now in
    let word = part_word c.args.part.now in
    let found = ap (λ (i : ℕ). component_at i (components_in k)) place ∙ (sym c.component.ensures ∙ ap (option_map (λ c. component_view c.now)) c.in-Some.is) in
    on_ok_weaker c.add_within.result
    (λ h v.
    part_added p is (constraint_view c.in-Some-cons.cons) c.args.partial k v _ _ _ _ _ _ found (part_cons c.args.part.now c.in-Some-cons.cons c.in-Some-cons.is) (c.from-at.ensures ∙ sym place)
    (c.is_as_said-may_be_there.ensures ∙ ap (λ (w : Option Word). is_as_said c.args.partial is.presence w true) (sym word))
    (c.is_as_said-may_be_absent.ensures ∙ ap (λ (w : Option Word). is_as_said c.args.partial is.presence w false) (sym word)) (c.narrow.ensures.added k v) (h k v))
    c.add_within.ensures.added
