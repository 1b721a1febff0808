use Rattle.std.proofs.Common.{ℕ, List, [], ◌∷◌, ap, sym, ◌∙◌}
use Rattle.std.specs.List.{insert}
use Rattle.std.proofs.lemmas.List.{map-append}
use Rattle.guard_der.specs.declared.encoding.parts.EncodedPart.{EncodedPart}
use Rattle.guard_der.proofs.Functions.PartsInOrder.{put_in, put_in_nothing, put_in_last, inserted}
use Rattle.guard_der.proofs.encoding.parts.ascending.Goals as goal
use Rattle.guard_der.specs.inside.EncodingSteps.{part_view, parts_view, place_among}

pub loop-part-init : goal.loop-part-init
loop-part-init c = rw c.in_ok-sorted.ensures.items (put_in_nothing (parts_view c.args.parts.items))

pub loop-part-preserved : goal.loop-part-preserved
loop-part-preserved c =
    let part = c.in-Some.part in
    let sorted = c.loop-part.sorted.items in
    let before = parts_view c.pop.new.self.items in
    let at = c.place_among-at.ensures.value ∙ ap (λ (xs : List EncodedPart). place_among part.tag (parts_view xs)) c.deref.ensures.value in
    let put = ap parts_view c.in_ok-insert.ensures.items ∙ ap (λ (i : ℕ). parts_view (insert sorted i part)) at ∙ inserted part sorted in
    let popped = ap parts_view c.in-Some.ensures.items ∙ map-append part_view c.pop.new.self.items (part ∷ []) in
    ap (put_in before) put ∙ sym (put_in_last before (part_view part) (parts_view sorted)) ∙ ap (λ ps. put_in ps (parts_view sorted)) (sym popped) ∙ c.loop-part.invariant
