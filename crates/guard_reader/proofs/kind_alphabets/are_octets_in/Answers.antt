use Rattle.std.proofs.Common.{◌∙◌, ap, List, ℕ}
use Rattle.std.specs.List.{list_all}
use Rattle.guard_eval.specs.Elements.{is_in_some}
use Rattle.guard_reader.proofs.KindAlphabets.{agree_on}
use Rattle.guard_reader.proofs.kind_alphabets.are_octets_in.Goals as goal

pub returns : goal.returns
returns c =
    c.all_in.ensures
    ∙ ap (λ (rs : List (ℕ × ℕ)). list_all (is_in_some rs) c.args.inside.now) c.as_slice.ensures.value
    ∙ agree_on (is_in_some c.narrowed.result.items) (is_in_some c.args.ranges.now) c.narrowed.ensures c.args.inside.now c.type_inv.inside
