use Rattle.std.proofs.Common.{false, List, ℕ, get_or, ap, ◌∙◌, arith}
use Rattle.std.specs.List.{list_all}
use Rattle.guard_eval.specs.Elements.{is_in_some}
use Rattle.guard_eval.proofs.Characters.{ascii_marked}
use Rattle.guard_eval.proofs.elements.are_permitted.Goals as goal

pub returns-then-is_ascii : goal.returns-then-is_ascii
returns-then-is_ascii c =
    c.are_marked.ensures.marked ∙ ap (λ (bs : List ℕ). list_all (λ b. get_or c.low_codes.result b false) bs) c.as_bytes.ensures.value
    ∙ ascii_marked (is_in_some c.args.ranges.now) c.low_codes.result c.args.text.now c.low_codes.ensures (omega (arith, c.low_codes.type_inv)) c.if-is_ascii.ensures.cases
