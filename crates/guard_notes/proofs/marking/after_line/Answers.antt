use Rattle.std.proofs.Common.{◌∙◌, ◌+◌, suc, ap, sym, add-one, drop, arith}
use Rattle.std.specs.Prelude.{slice_get}
use Rattle.std.proofs.lemmas.List.{take_rest, drop_all}
use Rattle.guard_notes.specs.Lines.{lines_of}
use Rattle.guard_notes.proofs.MarkingLaws.{after_is}
use Rattle.guard_notes.proofs.marking.after_line.Goals as goal

pub returns-then-end-text : goal.returns-then-end-text
returns-then-end-text c k =
    let text = c.args.text.now in
    let end = c.line_end-end.result in
    let e = c.line_end-end.ensures in
    ap (λ s. slice_get (lines_of s) k) (take_rest text (end + 1) ∙ ap (λ n. drop n text) (add-one end))
    ∙ after_is text end e.within e.before e.there k

pub returns-else-end-text : goal.returns-else-end-text
returns-else-end-text c k =
    let text = c.args.text.now in
    let end = c.line_end-end.result in
    let e = c.line_end-end.ensures in
    let past = c.if-end-text.false in
    ap (λ s. slice_get (lines_of s) k) (sym (drop_all (suc end) text (omega (arith, past))))
    ∙ after_is text end e.within e.before e.there k
