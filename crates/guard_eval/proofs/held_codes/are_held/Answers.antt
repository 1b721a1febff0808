use Rattle.std.proofs.Common.{◌∙◌, false, List, ℕ, pos, get_or, ap, arith}
use Rattle.std.proofs.lemmas.List.{get_or_default}
use Rattle.std.specs.List.{list_all}
use Rattle.guard_integers.specs.Integers.{holds}
use Rattle.guard_eval.specs.inside.HeldCodes.{has_code}
use Rattle.guard_eval.proofs.Characters.{ascii_marked}
use Rattle.guard_eval.proofs.held_codes.are_held.Goals as goal

pub returns-then-is_ascii : goal.returns-then-is_ascii
returns-then-is_ascii c =
    c.are_marked.ensures.marked ∙ ap (λ (bs : List ℕ). list_all (λ b. get_or c.args.codes.now.first b false) bs) c.as_bytes.ensures.value
    ∙ ascii_marked (has_code c.args.codes.now) c.args.codes.now.first c.args.text.now (λ code lt. get_or_default c.args.codes.now.first code false (holds c.args.codes.now.set (pos code)) lt) (omega (arith, c.are_marked.ensures.whole)) c.if-is_ascii.ensures.cases
