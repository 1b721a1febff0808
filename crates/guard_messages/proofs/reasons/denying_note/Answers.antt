use Rattle.std.proofs.Common.{◌≡◌, ◌++◌, ◌∙◌, ℕ, List, ap, append_assoc, codes}
use Rattle.guard_policy.specs.PolicyView.{said_view}
use Rattle.guard_notes.specs.Sources.{sources_view}
use Rattle.guard_files.specs.Places.{places_of}
use Rattle.guard_messages.specs.RuleTypes.{grounds_view, rule_type_lines}
use Rattle.guard_messages.specs.Reasons.{lines_of_places}
use Rattle.guard_messages.proofs.reasons.denying_note.Goals as goal

joined : (types lines sentence first second third read : List ℕ) → first ≡ types → read ≡ lines → second ≡ first ++ read → third ≡ second ++ sentence
    → third ≡ types ++ (lines ++ sentence)
joined types lines sentence first second third read one same two three =
    three ∙ ap (λ (x : List ℕ). x ++ sentence) (two ∙ ap (λ (x : List ℕ). first ++ x) same ∙ ap (λ (x : List ℕ). x ++ lines) one) ∙ append_assoc types lines sentence

pub returns : goal.returns
returns c =
    let r = said_view c.args.rule.now in
    joined (rule_type_lines (grounds_view c.args.grounds.now) r)
    (lines_of_places (sources_view c.args.grounds.now.sources) (places_of r.ty))
    (codes "  This denying rule has the value, so no allowing rule can let it pass.\n")
    _ _ _ _
    (c.in_ok-note.ensures ∙ c.deref.ensures ∙ c.in_ok-lines.ensures) (c.deref-2.ensures.value ∙ c.in_ok-constraints.ensures) c.in_ok-add.ensures
    c.in_ok-add-2.ensures
