-- Formulas that are put together from a list, from its end on.
use Rattle.std.proofs.Common.{◌≡◌, List, [], ◌∷◌, ◌++◌, map, refl, sym, ap, ◌∙◌}
use Rattle.guard_tables.specs.declared.node.Form.{Form}
use Rattle.guard_tables.specs.declared.node.Form.TheFolds.{fold-roll-Form}
use Rattle.guard_tables.specs.declared.node.Form.TheOpen.{Form-F}
use Rattle.guard_tables.specs.declared.node.Form.TheVariants.{Never, Always, rolls-Never, rolls-Always}
use Rattle.guard_tables.specs.Formulas as formulas
use Rattle.guard_tables.specs.Formulas.{either, both}
use Rattle.guard_tables.specs.Forms.{eithers, boths}
use Rattle.guard_tables.specs.NodeViews.{form_view, form_step}

-- the last of them goes to those that are put together
pub eithers_last : (fs : List Form) (f : Form) (last : formulas.Form) → eithers (map form_view (fs ++ f ∷ [])) last ≡ eithers (map form_view fs) (either (form_view f) last)
eithers_last [] f last = refl
eithers_last (g ∷ fs) f last = ap (λ (rest : formulas.Form). either (form_view g) rest) (eithers_last fs f last)

pub boths_last : (fs : List Form) (f : Form) (last : formulas.Form) → boths (map form_view (fs ++ f ∷ [])) last ≡ boths (map form_view fs) (both (form_view f) last)
boths_last [] f last = refl
boths_last (g ∷ fs) f last = ap (λ (rest : formulas.Form). both (form_view g) rest) (boths_last fs f last)

pub never_view : form_view Never ≡ formulas.never
never_view = ap form_view (sym rolls-Never) ∙ fold-roll-Form formulas.Form form_step Form-F.Never

pub always_view : form_view Always ≡ formulas.always
always_view = ap form_view (sym rolls-Always) ∙ fold-roll-Form formulas.Form form_step Form-F.Always
