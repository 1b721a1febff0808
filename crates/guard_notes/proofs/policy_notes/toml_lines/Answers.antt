use Rattle.std.proofs.Common.{◌∙◌, ◌++◌, List, ℕ, ap, codes, decimal, arith}
use Rattle.std.proofs.lemmas.List.{length-take-le}
use Rattle.guard_notes.specs.Marking.{marked_line, columns}
use Rattle.guard_notes.proofs.policy_notes.toml_lines.Goals as goal

pub returns : goal.returns
returns c =
    let text = c.args.text.now in
    let offset = c.offset_of.result in
    let site = c.end_of-site.result in
    let marked = c.in_ok-marked.ensures ∙ ap (λ (line : List ℕ). marked_line site.column line) c.line_at.ensures in
    let words = c.in_ok-words.ensures ∙ ap columns c.as_bytes.ensures.value in (
      offset,
      site,
      c.message.result.now,
      c.offset_of.ensures,
      λ short. c.end_of-site.ensures (omega (arith, length-take-le offset text c.offset_of.ensures, c.offset_of.ensures, short)),
      c.in_ok-format.ensures.ok
          ∙ (λ j. codes "  line " ++ (decimal site.line ++ (codes ", column " ++ (decimal site.column ++ (codes "\n" ++ (marked j ++ (codes "  " ++ (words j ++ codes "\n")))))))),
    )
