use Rattle.std.proofs.Common.{◌≡◌, List, ℕ, [], ◌∷◌, ◌++◌, map, take, unwrap_or, Option, refl, ap, ◌∙◌}
use Rattle.std.specs.Global.{Vec}
use Rattle.guard_policy.specs.SaidView.{said_view}
use Rattle.guard_policy.proofs.EntriesRead.{taken_is}
use Rattle.guard_policy.proofs.Listed.{taken_length}
use Rattle.guard_policy.proofs.MessageNumbers.{items_of, found, items_or, numbers_put}
use Rattle.guard_policy.proofs.numbered.Numbered.of.Goals as goal

pub loop-number-preserved : goal.loop-number-preserved
loop-number-preserved c = λ name.
    let rules = c.args.rules.now in
    let n = c.loop-number.number in
    let rule = c.index-rules-number.result in
    let none = c.new-in-loop-number.result in
    let before : c.unwrap_or-numbers.result.items ≡ items_of (found rule.message.now c.loop-number.named.entries) =
    ap (λ (numbers : Vec ℕ). numbers.items) (c.unwrap_or-numbers.ensures ∙ ap (λ (o : Option (Vec ℕ)). unwrap_or o none) c.in_ok-before.ensures.old)
    ∙ items_or (found rule.message.now c.loop-number.named.entries) none c.new-in-loop-number.ensures.items in
    rw (taken_is said_view rules n rule c.loop-number-test.true c.index-rules-number.is)
    (numbers_put (map said_view (take n rules)) (said_view rule) n c.loop-number.named.entries c.insert.new.self.entries c.insert-in-loop-number.new.self.entries rule.message
    c.new.result c.push.new.self (taken_length said_view rules n c.loop-number-test.true) refl c.in_ok-before.ensures.entries c.in_ok-insert.ensures.entries
    (c.in_ok-push.ensures.items ∙ ap (λ (ns : List ℕ). ns ++ n ∷ []) before) c.loop-number.invariant name)
