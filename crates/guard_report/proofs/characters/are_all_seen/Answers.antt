use Rattle.std.proofs.Common.{ℕ, length, ap, sym, ◌∙◌, not}
use Rattle.std.specs.Str.{chars}
use Rattle.std.proofs.lemmas.Iterator.{YieldsList-from_chars}
use Rattle.std.proofs.lemmas.Iterator.Consumers.{YieldsList-turn, YieldsList-end}
use Rattle.std.proofs.lemmas.List.{length_push}
use Rattle.guard_model.proofs.Tests.{and_on, and_stop}
use Rattle.guard_report.specs.CharacterStrings.{is_hidden}
use Rattle.guard_report.proofs.Writing.{next_seen, none_left}
use Rattle.guard_report.proofs.characters.are_all_seen.Goals as goal

pub returns-then-is_hidden : goal.returns-then-is_hidden
returns-then-is_hidden c =
    let t = YieldsList-turn (YieldsList-from_chars c.args.string.now c.utf8.string cc) c.loop-character.yielded _ c.loop-character.yielded_by _ _ c.in-Some.character c.in-Some.is c.next.ensures.steps in
    let e = next_seen (chars c.args.string.now) (length c.loop-character.yielded) c.in-Some.character t in
    let tested = c.is_hidden.ensures ∙ ap (λ (x : ℕ). is_hidden x) c.from.ensures in
    and_stop _ _ _ (ap not (sym tested ∙ c.if-is_hidden.true)) (sym e ∙ c.loop-character.invariant)

pub loop-character-preserved : goal.loop-character-preserved
loop-character-preserved c =
    let t = YieldsList-turn (YieldsList-from_chars c.args.string.now c.utf8.string cc) c.loop-character.yielded _ c.loop-character.yielded_by _ _ c.in-Some.character c.in-Some.is c.next.ensures.steps in
    let e = next_seen (chars c.args.string.now) (length c.loop-character.yielded) c.in-Some.character t in
    let tested = c.is_hidden.ensures ∙ ap (λ (x : ℕ). is_hidden x) c.from.ensures in
    rw (length_push c.loop-character.yielded c.in-Some.character) (and_on _ _ _ (ap not (sym tested ∙ c.if-is_hidden.false)) (sym e ∙ c.loop-character.invariant))

pub returns : goal.returns
returns c =
    let e = YieldsList-end (YieldsList-from_chars c.args.string.now c.utf8.string cc) c.loop-character.yielded _ c.loop-character.yielded_by _ _ c.in-None.is c.next.ensures.steps in
    none_left (chars c.args.string.now) (length c.loop-character.yielded) _ e.1 c.loop-character.invariant
