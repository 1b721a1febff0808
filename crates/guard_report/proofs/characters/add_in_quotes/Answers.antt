use Rattle.std.proofs.Common.{◌+◌, length, drop, flat_map}
use Rattle.std.specs.Str.{chars}
use Rattle.std.proofs.lemmas.Iterator.{YieldsList-from_chars}
use Rattle.std.proofs.lemmas.Iterator.Consumers.{YieldsList-turn, YieldsList-end}
use Rattle.std.proofs.lemmas.List.{length_push}
use Rattle.guard_report.specs.CharacterStrings.{as_quoted}
use Rattle.guard_report.proofs.Writing.{step_on, next_quoted, on_ok_also, all_quoted}
use Rattle.guard_report.proofs.characters.add_in_quotes.Goals as goal

pub loop-character-preserved : goal.loop-character-preserved
loop-character-preserved c =
    let cs = chars c.args.string.now in
    let n = length c.loop-character.yielded in
    let t = YieldsList-turn (YieldsList-from_chars c.args.string.now c.utf8.string cc) c.loop-character.yielded _ c.loop-character.yielded_by _ _ c.in-Some.character c.in-Some.is c.next.ensures.steps in
    rw (length_push c.loop-character.yielded c.in-Some.character)
    (step_on c.loop-character.text.items c.add_as_quoted.new.text.items (as_quoted c.in-Some.character) (flat_map as_quoted (drop n cs)) (flat_map as_quoted (drop (n + 1) cs)) _
    c.in_ok-add_as_quoted.ensures (next_quoted cs n c.in-Some.character t) c.loop-character.invariant)

pub returns : goal.returns
returns c =
    let e = YieldsList-end (YieldsList-from_chars c.args.string.now c.utf8.string cc) c.loop-character.yielded _ c.loop-character.yielded_by _ _ c.in-None.is c.next.ensures.steps in
    on_ok_also c.add-2.result
    (all_quoted c.args.text.now.items c.add.new.text.items c.loop-character.text.items c.add-2.new.text.items (chars c.args.string.now) (length c.loop-character.yielded)
    c.in_ok-add.ensures e.1 c.loop-character.invariant)
    c.add-2.ensures
