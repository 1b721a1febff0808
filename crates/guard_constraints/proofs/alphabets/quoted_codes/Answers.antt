use Rattle.std.proofs.Common.{List, ℕ, Some, ap, ◌∙◌, subst}
use Rattle.std.specs.Str.{chars, IsUtf8}
use Rattle.guard_constraints.proofs.CodeSteps.AlphabetForms.{is_spelled, not_spelled}
use Rattle.guard_constraints.proofs.alphabets.quoted_codes.Goals as goal

pub returns-in_default : goal.returns-in_default
returns-in_default c = not_spelled c.args.spelling.now (λ u. c.in_default.ensures.cases.0 (rw (c.deref.ensures.value, c.in_ok-octets.ensures) u))

pub returns : goal.returns
returns c =
    let octets = c.deref.ensures.value ∙ c.in_ok-octets.ensures in
    let text = c.in-Ok.ensures.cases in
    ap (λ (cs : List ℕ). Some cs) (c.in_ok-codes_of.ensures ∙ ap chars (text.0 ∙ octets)) ∙ is_spelled c.args.spelling.now (subst (λ (os : List ℕ). IsUtf8 os) octets text.1)
