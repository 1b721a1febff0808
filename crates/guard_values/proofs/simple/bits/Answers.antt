use Rattle.std.proofs.Common.{◌<◌, map, sym, ap, ◌∙◌, subst}
use Rattle.std.specs.Prelude.{All}
use Rattle.guard_model.specs.TypeView.{named_view}
use Rattle.guard_values.specs.NamedBits.{bits_kept}
use Rattle.guard_values.specs.Strings.{binary_digits}
use Rattle.guard_values.proofs.Fitting.OctetsOfBits.{binary_small}
use Rattle.guard_values.proofs.SingleValues.NamedBits.{kept_small}
use Rattle.guard_values.proofs.simple.bits.Goals as goal

pub bit_string-requires : goal.bit_string-requires
bit_string-requires c =
    let names = map named_view c.args.names.now in
    let kept = c.bits_kept.ensures ∙ ap (bits_kept names) (c.deref.ensures.value ∙ c.in_ok-bits.ensures.digits) in
    subst (All (λ b. b < 2)) (sym kept) (kept_small names (binary_digits c.args.spelling.now) (binary_small c.args.spelling.now))
