use Rattle.std.proofs.Common.{length, ap, sym, ◌∙◌}
use Rattle.std.specs.Str.{chars}
use Rattle.std.proofs.lemmas.Iterator.{YieldsList-from_chars}
use Rattle.std.proofs.lemmas.Iterator.Consumers.{YieldsList-turn, YieldsList-end}
use Rattle.std.proofs.lemmas.List.{length_push}
use Rattle.guard_eval.specs.inside.HeldCodes.{has_code}
use Rattle.guard_model.proofs.Tests.{and_on, and_stop}
use Rattle.guard_eval.proofs.CodeWindows.{test_next, test_end}
use Rattle.guard_eval.proofs.held_codes.are_all_held.Goals as goal

pub returns-then-not-has_code : goal.returns-then-not-has_code
returns-then-not-has_code c =
    let t = YieldsList-turn (YieldsList-from_chars c.args.text.now c.utf8.text cc) c.loop-character.yielded _ c.loop-character.yielded_by _ _ c.in-Some.character c.in-Some.is c.next.ensures.steps in
    let e = test_next (has_code c.args.codes.now) (chars c.args.text.now) (length c.loop-character.yielded) c.in-Some.character t in
    let tested = c.has_code.ensures ∙ ap (has_code c.args.codes.now) c.from.ensures in
    and_stop _ _ _ (sym tested ∙ c.if-not-has_code.true) (sym e ∙ c.loop-character.invariant)

pub loop-character-preserved : goal.loop-character-preserved
loop-character-preserved c =
    let t = YieldsList-turn (YieldsList-from_chars c.args.text.now c.utf8.text cc) c.loop-character.yielded _ c.loop-character.yielded_by _ _ c.in-Some.character c.in-Some.is c.next.ensures.steps in
    let e = test_next (has_code c.args.codes.now) (chars c.args.text.now) (length c.loop-character.yielded) c.in-Some.character t in
    let tested = c.has_code.ensures ∙ ap (has_code c.args.codes.now) c.from.ensures in
    rw (length_push c.loop-character.yielded c.in-Some.character) (and_on _ _ _ (sym tested ∙ c.if-not-has_code.false) (sym e ∙ c.loop-character.invariant))

pub returns : goal.returns
returns c =
    let e = YieldsList-end (YieldsList-from_chars c.args.text.now c.utf8.text cc) c.loop-character.yielded _ c.loop-character.yielded_by _ _ c.in-None.is c.next.ensures.steps in
    test_end (has_code c.args.codes.now) (chars c.args.text.now) (length c.loop-character.yielded) _ e.1 c.loop-character.invariant
