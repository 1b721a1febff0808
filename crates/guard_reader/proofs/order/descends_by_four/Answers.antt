use Rattle.std.proofs.Common.{drop, ap₂, List, ℕ, ◌∙◌, arith, rules}
use Rattle.std.proofs.lemmas.List.{take_all, length-drop}
use Rattle.guard_der.specs.Fits.{descends}
use Rattle.guard_reader.proofs.FirstOctets.{by_four, decided, level}
use Rattle.guard_reader.proofs.order.descends_by_four.Goals as goal

pub returns-then-first-other : goal.returns-then-first-other
returns-then-first-other c =
    decided _ _ _ _ c.if-first-other.true
    (by_four _ _ c.args.octets.now c.args.next.now (λ i. (c.type_inv.octets i).fits) (λ i. (c.type_inv.next i).fits) c.number-first.ensures c.number-other.ensures (search rules) (search rules))

pub returns : goal.returns
returns c =
    let xs = c.args.octets.now in
    let ys = c.args.next.now in
    c.descends-2.ensures
    ∙ ap₂ (λ (l m : List ℕ). descends l m) (take_all _ (drop 4 xs) (omega (arith, length-drop 4 xs))) (take_all _ (drop 4 ys) (omega (arith, length-drop 4 ys)))
    ∙ level _ _ _ _ c.if-first-other.false
    (by_four _ _ xs ys (λ i. (c.type_inv.octets i).fits) (λ i. (c.type_inv.next i).fits) c.number-first.ensures c.number-other.ensures (search rules) (search rules))
