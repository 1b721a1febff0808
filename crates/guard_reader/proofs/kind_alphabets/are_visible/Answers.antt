use Rattle.std.proofs.Common.{◌∷◌, [], ◌∙◌, refl}
use Rattle.guard_model.specs.declared.ty.CharKind.TheVariants.{Visible}
use Rattle.guard_reader.proofs.KindAlphabets.{as_ranges}
use Rattle.guard_reader.proofs.kind_alphabets.are_visible.Goals as goal

pub returns : goal.returns
returns c = c.are_all_in.ensures ∙ as_ranges Visible ((32, 126) ∷ []) refl c.args.inside.now c.type_inv.inside
