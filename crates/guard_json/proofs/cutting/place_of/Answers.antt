use Rattle.std.proofs.Common.{◌≤◌, ◌==◌, length, sym, ap, ◌∙◌, subst}
use Rattle.std.specs.Prelude.{unwrap_or}
use Rattle.guard_json.proofs.Places.{place_is, place_within}
use Rattle.guard_json.proofs.cutting.place_of.Goals as goal

pub returns : goal.returns
returns c =
    let text = c.args.text.now in
    let is = c.unwrap_or.ensures ∙ ap (λ o. unwrap_or o (length text)) c.find.ensures ∙ place_is (λ x. x == c.args.mark) text in
    record { place = is; within = subst (λ n. n ≤ length text) (sym is) (place_within (λ x. x == c.args.mark) text) }
