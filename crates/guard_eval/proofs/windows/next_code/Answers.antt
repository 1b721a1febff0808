use Rattle.std.proofs.Common.{length, ap, sym, ◌∙◌, arith}
use Rattle.std.specs.Str.{chars}
use Rattle.std.proofs.lemmas.Iterator.{YieldsList-from_chars}
use Rattle.std.proofs.lemmas.Iterator.Consumers.{YieldsList-turn, YieldsList-end}
use Rattle.std.proofs.lemmas.List.{length_push, take_all}
use Rattle.guard_eval.specs.inside.Windows.{is_clear}
use Rattle.guard_eval.proofs.CodeWindows.{clear_more}
use Rattle.guard_eval.proofs.windows.next_code.Goals as goal

pub loop-character-preserved : goal.loop-character-preserved
loop-character-preserved c =
    let t = YieldsList-turn (YieldsList-from_chars c.args.text.now c.utf8.text cc) c.loop-character.yielded _ c.loop-character.yielded_by _ _ c.in-Some.character c.in-Some.is c.next.ensures.steps in
    rw (length_push c.loop-character.yielded c.in-Some.character) (
      clear_more (is_clear c.args.begin c.loop-character.next) (is_clear c.args.begin c.nearer-next.result) (chars c.args.text.now) (length c.loop-character.yielded) c.in-Some.character t c.nearer-next.ensures.kept
          (ap (is_clear c.args.begin c.nearer-next.result) (sym c.from.ensures) ∙ c.nearer-next.ensures.clear) c.loop-character.invariant.0,
      c.nearer-next.ensures.from c.loop-character.invariant.1,
    )

pub returns-clause-clear : goal.returns-clause-clear
returns-clause-clear c =
    let e = YieldsList-end (YieldsList-from_chars c.args.text.now c.utf8.text cc) c.loop-character.yielded _ c.loop-character.yielded_by _ _ c.in-None.is c.next.ensures.steps in
    rw (take_all (length c.loop-character.yielded) (chars c.args.text.now) (omega (arith, e.1))) at c.loop-character.invariant.0
