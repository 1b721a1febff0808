use Rattle.std.proofs.Common.{sym, ◌∙◌, eq-eqb}
use Rattle.std.proofs.lemmas.Bool.{ne_eqb}
use Rattle.guard_json.proofs.Drafts.{Adds_then, Adds_else}
use Rattle.guard_json.proofs.verdicts.add_verdicts.Goals as goal

pub returns-then-place_of-text : goal.returns-then-place_of-text
returns-then-place_of-text c =
    Adds_then _ c.add_verdict.ensures (eq-eqb _ _ (sym c.place_of.ensures.place ∙ c.if-place_of-text.true))

pub returns-else-place_of-text : goal.returns-else-place_of-text
returns-else-place_of-text c =
    Adds_else _ c.add_pair.ensures (ne_eqb _ _ (λ e. c.if-place_of-text.false (c.place_of.ensures.place ∙ e)))
