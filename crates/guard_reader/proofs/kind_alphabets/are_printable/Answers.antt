use Rattle.std.proofs.Common.{◌∷◌, [], ◌∙◌, refl}
use Rattle.guard_model.specs.declared.ty.CharKind.TheVariants.{Printable}
use Rattle.guard_reader.proofs.KindAlphabets.{as_ranges}
use Rattle.guard_reader.proofs.kind_alphabets.are_printable.Goals as goal

pub returns : goal.returns
returns c = c.are_all_in.ensures ∙ as_ranges Printable ((32, 32) ∷ (39, 41) ∷ (43, 58) ∷ (61, 61) ∷ (63, 63) ∷ (65, 90) ∷ (97, 122) ∷ []) refl c.args.inside.now c.type_inv.inside
