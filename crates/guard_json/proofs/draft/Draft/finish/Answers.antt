use Rattle.std.proofs.Common.{false, cond, ◌++◌, sym, ap, ◌∙◌}
use Rattle.std.specs.Prelude.{Some, None, option_map}
use Rattle.json.specs.Print.{print}
use Rattle.guard_json.proofs.OneLine.{print_line}
use Rattle.guard_json.proofs.Drafts.{Reads_if}
use Rattle.guard_json.proofs.draft.Draft.finish.Goals.{then-self, else-self}
use Rattle.guard_json.proofs.draft.Draft.finish.Goals as goal

pub returns-clause-text : goal.returns-clause-text
returns-clause-text c =
    let d = c.args.self in elim c.if-self.branch [
      | then-self w ↦
          ap (option_map (λ text. text.items)) w.result-is
          ∙ ap Some (c.into_inner-text.ensures.items ∙ ap (λ b. b ++ print d.writer.tokens) c.requires.before)
          ∙ sym (ap (λ b. option_map print (cond b (Some d.writer.tokens) None)) w.if-self.true)
      | else-self w ↦
          ap (option_map (λ text. text.items)) w.result-is
          ∙ sym (ap (λ b. option_map print (cond b (Some d.writer.tokens) None)) w.if-self.false)
    ]

pub returns-clause-reads : goal.returns-clause-reads
returns-clause-reads c =
    Reads_if c.args.self.has_form c.args.self.writer.tokens
    (record { back = c.into_inner-text.ensures.reads_back; one = print_line false c.args.self.writer.tokens c.requires.fine })
