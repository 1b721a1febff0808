use Rattle.std.proofs.Common.{◌∷◌, [], ◌∙◌, refl}
use Rattle.guard_model.specs.declared.ty.CharKind.TheVariants.{Numeric}
use Rattle.guard_reader.proofs.KindAlphabets.{as_ranges}
use Rattle.guard_reader.proofs.kind_alphabets.are_numeric.Goals as goal

pub returns : goal.returns
returns c = c.are_all_in.ensures ∙ as_ranges Numeric ((32, 32) ∷ (48, 57) ∷ []) refl c.args.inside.now c.type_inv.inside
