use Rattle.std.proofs.Common.{◌+◌, length, drop}
use Rattle.std.specs.Str.{chars}
use Rattle.std.proofs.lemmas.Iterator.{YieldsList-from_chars}
use Rattle.std.proofs.lemmas.Iterator.Consumers.{YieldsList-turn, YieldsList-end}
use Rattle.std.proofs.lemmas.List.{length_push}
use Rattle.guard_report.specs.inside.Listing.{listed, last_of, still_to_come}
use Rattle.guard_report.proofs.Writing.{step_on, next_listed, on_ok_also, all_listed}
use Rattle.guard_report.proofs.characters.add_list.Goals as goal

pub loop-character-preserved : goal.loop-character-preserved
loop-character-preserved c =
    let cs = chars c.args.string.now in
    let n = length c.loop-character.yielded in
    let last = c.loop-character.last in
    let t = YieldsList-turn (YieldsList-from_chars c.args.string.now c.utf8.string cc) c.loop-character.yielded _ c.loop-character.yielded_by _ _ c.in-Some.character c.in-Some.is c.next.ensures.steps in
    rw (length_push c.loop-character.yielded c.in-Some.character, c.in_ok-last.ensures.last)
    (step_on c.loop-character.text.items c.add_listed.new.text.items (listed c.args.kind last c.in-Some.character) (still_to_come c.args.kind last (drop n cs))
    (still_to_come c.args.kind (last_of c.in-Some.character) (drop (n + 1) cs)) _
    c.in_ok-last.ensures.text (next_listed c.args.kind last cs n c.in-Some.character t) c.loop-character.invariant)

pub returns : goal.returns
returns c =
    let e = YieldsList-end (YieldsList-from_chars c.args.string.now c.utf8.string cc) c.loop-character.yielded _ c.loop-character.yielded_by _ _ c.in-None.is c.next.ensures.steps in
    on_ok_also c.add_end.result
    (all_listed c.args.kind c.loop-character.last c.args.text.now.items c.add.new.text.items c.loop-character.text.items c.add_end.new.text.items (chars c.args.string.now)
    (length c.loop-character.yielded) c.in_ok-add.ensures e.1 c.loop-character.invariant)
    c.add_end.ensures
