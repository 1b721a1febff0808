-- What the last step of a path leads to.
use Rattle.std.proofs.Common.{◌≡◌, ◌++◌, List, [], ◌∷◌, Option, None, refl}
use Rattle.guard_model.specs.declared.site.Step.{Step}
use Rattle.guard_model.specs.declared.site.Step.TheVariants.{Component, Element}
use Rattle.guard_model.specs.AbstractType.{AbstractType}
use Rattle.guard_report.specs.Parts.{type_at}
use Rattle.guard_report.specs.Text.{type_within}
use Rattle.guard_messages.specs.Reasons.{step_name, name_at}

pub name_last : (t : Option AbstractType) (before : List Step) (last : Step) → name_at t (before ++ last ∷ []) ≡ step_name (type_at before t) last
name_last t [] last = refl
name_last t (step ∷ []) last = refl
name_last t (step ∷ next ∷ steps) last = name_last (type_within t step) (next ∷ steps) last

pub no_name : (step : Step) → step_name None step ≡ None
no_name (Component i) = refl
no_name (Element i) = refl
