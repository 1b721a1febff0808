use Rattle.std.proofs.Common.{arith, ◌≡◌, ◌+◌, ◌<◌, ◌≤◌, IsTrue, List, ◌∷◌, [], ◌++◌, ℕ, subst, ap, ◌∙◌}
use Rattle.guard_tables.specs.Alphabets.{are_apart}
use Rattle.guard_tables.proofs.JoinedRanges.{ends_later, one_above, last_has_one}
use Rattle.guard_tables.proofs.alphabet.add.Goals as goal

pub returns-in_ok-push-2-clause-apart : goal.returns-in_ok-push-2-clause-apart
returns-in_ok-push-2-clause-apart c =
    let front = c.pop.new.self.items in
    let apart : IsTrue (are_apart (front ++ (c.in-Some.first, c.in-Some.last) ∷ [])) = subst (λ (rs : List (ℕ × ℕ)). IsTrue (are_apart rs)) c.in-Some.ensures.items c.requires.apart in
    let some = last_has_one front c.in-Some.first c.in-Some.last apart in
    let later : c.in-Some.first ≤ c.max.result = omega (arith, c.max.ensures, some) in
    rw c.in_ok-push-2.ensures.items (ends_later front c.in-Some.first c.in-Some.last c.max.result apart later)

pub returns-in_ok-push-4-clause-apart : goal.returns-in_ok-push-4-clause-apart
returns-in_ok-push-4-clause-apart c =
    let front = c.pop.new.self.items in
    let apart : IsTrue (are_apart (front ++ (c.in-Some.first, c.in-Some.last) ∷ [])) = subst (λ (rs : List (ℕ × ℕ)). IsTrue (are_apart rs)) c.in-Some.ensures.items c.requires.apart in
    let above : c.in-Some.last + 1 < c.args.low = omega (arith, c.saturating_add.ensures) in
    let some : c.args.low ≤ c.args.high = omega arith in
    let both : c.push-else-low-saturating_add-2.new.self.items ≡ (front ++ (c.in-Some.first, c.in-Some.last) ∷ []) ++ (c.args.low, c.args.high) ∷ [] =
    c.in_ok-push-4.ensures.items ∙ ap (λ (rs : List (ℕ × ℕ)). rs ++ (c.args.low, c.args.high) ∷ []) c.in_ok-push-3.ensures.items in
    rw both (one_above front c.in-Some.first c.in-Some.last c.args.low c.args.high apart above some)
