use Rattle.std.proofs.Common.{ℕ, length, ap, sym, ◌∙◌}
use Rattle.std.specs.Str.{chars}
use Rattle.std.proofs.lemmas.Iterator.{YieldsList-from_chars}
use Rattle.std.proofs.lemmas.Iterator.Consumers.{YieldsList-turn, YieldsList-end}
use Rattle.std.proofs.lemmas.List.{length_push}
use Rattle.guard_eval.specs.inside.Windows.{is_kept}
use Rattle.guard_model.proofs.Tests.{and_on, and_stop}
use Rattle.guard_eval.proofs.CodeWindows.{test_next, test_end}
use Rattle.guard_eval.proofs.windows.are_kept.Goals as goal

pub returns-then-not-is_kept : goal.returns-then-not-is_kept
returns-then-not-is_kept c =
    let t = YieldsList-turn (YieldsList-from_chars c.args.text.now c.utf8.text cc) c.loop-character.yielded _ c.loop-character.yielded_by _ _ c.in-Some.character c.in-Some.is c.next.ensures.steps in
    let e = test_next (is_kept c.args.known.now c.args.first) (chars c.args.text.now) (length c.loop-character.yielded) c.in-Some.character t in
    let tested = c.is_kept.ensures ∙ ap (λ (x : ℕ). is_kept c.args.known.now c.args.first x) c.from.ensures in
    and_stop _ _ _ (sym tested ∙ c.if-not-is_kept.true) (sym e ∙ c.loop-character.invariant)

pub loop-character-preserved : goal.loop-character-preserved
loop-character-preserved c =
    let t = YieldsList-turn (YieldsList-from_chars c.args.text.now c.utf8.text cc) c.loop-character.yielded _ c.loop-character.yielded_by _ _ c.in-Some.character c.in-Some.is c.next.ensures.steps in
    let e = test_next (is_kept c.args.known.now c.args.first) (chars c.args.text.now) (length c.loop-character.yielded) c.in-Some.character t in
    let tested = c.is_kept.ensures ∙ ap (λ (x : ℕ). is_kept c.args.known.now c.args.first x) c.from.ensures in
    rw (length_push c.loop-character.yielded c.in-Some.character) (and_on _ _ _ (sym tested ∙ c.if-not-is_kept.false) (sym e ∙ c.loop-character.invariant))

pub returns : goal.returns
returns c =
    let e = YieldsList-end (YieldsList-from_chars c.args.text.now c.utf8.text cc) c.loop-character.yielded _ c.loop-character.yielded_by _ _ c.in-None.is c.next.ensures.steps in
    test_end (is_kept c.args.known.now c.args.first) (chars c.args.text.now) (length c.loop-character.yielded) _ e.1 c.loop-character.invariant
