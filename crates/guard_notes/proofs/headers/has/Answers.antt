use Rattle.std.proofs.Common.{◌≡◌, ◌∙◌, ◌+◌, ◌<◌, ℕ, List, true, false, cond, nat_eq, ap, sym, length, drop}
use Rattle.std.specs.List.{starts_with}
use Rattle.std.proofs.lemmas.List.{drop_more, take_rest}
use Rattle.guard_notes.specs.PolicyNotes.{has}
use Rattle.guard_notes.proofs.headers.has.Goals as goal

-- the octets aren't here, so they are behind this place or nowhere
behind : (mark text : List ℕ) (i : ℕ) → i < length text → starts_with nat_eq (drop i text) mark ≡ false → has mark (drop (i + 1) text) ≡ has mark (drop i text)
behind mark text i lt none =
    let e = drop_more text i 0 lt in
    sym (ap (has mark) e ∙ ap (λ b. cond b true (has mark (drop (i + 1) text))) (ap (λ (s : List ℕ). starts_with nat_eq s mark) (sym e) ∙ none))

pub loop-place-preserved : goal.loop-place-preserved
loop-place-preserved c =
    let text = c.args.text.now in
    let mark = c.args.mark.now in
    let i = c.loop-place.place in
    behind mark text i c.loop-place-test.true
    (ap (λ (s : List ℕ). starts_with nat_eq s mark) (sym (take_rest text i)) ∙ sym c.starts_with.ensures.value ∙ c.if-starts_with.false)
    ∙ c.loop-place.invariant
