use Rattle.std.proofs.Common.{◌∙◌, ◌+◌, ◌∷◌, ap, sym, add-one, arith, drop, take}
use Rattle.std.proofs.lemmas.List.{take_rest}
use Rattle.guard_notes.specs.Lines.{lines_of}
use Rattle.guard_notes.proofs.LineLaws as laws
use Rattle.guard_notes.proofs.lines.first_line.Goals as goal

pub returns-then-end-text-clause-lines : goal.returns-then-end-text-clause-lines
returns-then-end-text-clause-lines c =
    let text = c.args.text.now in
    let end = c.line_end-end.result in
    let e = c.line_end-end.ensures in
    laws.first_line text end c.requires e.within e.before e.there
    ∙ ap (λ s. take end text ∷ lines_of s) (ap (λ n. drop n text) (sym (add-one end)) ∙ sym (take_rest text (end + 1)))

pub returns-else-end-text-clause-lines : goal.returns-else-end-text-clause-lines
returns-else-end-text-clause-lines c =
    let e = c.line_end-end.ensures in
    let past = c.if-end-text.false in
    laws.last_line c.args.text.now c.requires (λ k h. e.before k (omega (arith, h, past)))
