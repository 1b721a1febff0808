-- What the public calls answer.
use Rattle.std.proofs.Common.{◌≡◌, refl, sym, ap, ◌∙◌, Bool, true, false, not, List, Option, Some, None, IsTrue}
use Rattle.std.specs.Option.{is_none, is_some}
use Rattle.guard_model.specs.AbstractType.{AbstractType, AbstractKind, Constraint}
use Rattle.guard_model.specs.AbstractValue.{AbstractValue}
use Rattle.guard_der.specs.Fits.{fits}
use Rattle.guard_model.specs.Kinds.{kind_of}
use Rattle.guard_model.specs.declared.site.Site.{Site}
use Rattle.guard_model.specs.declared.site.Step.{Step}
use Rattle.guard_eval.specs.Member.{is_member, holds}
use Rattle.guard_eval.specs.Violations.{violation}
use Rattle.guard_eval.proofs.Bases.{KeepsBase, ConstraintKeepsBase}
use Rattle.guard_eval.specs.inside.Failures.{found_by, failure, failure_by}
use Rattle.guard_eval.proofs.Law.{type_clear}
use Rattle.guard_eval.proofs.PartFits.{fits_of}
use Rattle.guard_eval.proofs.Walk.{seen_clear, tested, walked, by_walked}

pub not_some : {A : Type 0} (w : Option A) (b : Bool) → is_some w ≡ not b → b ≡ is_none w
not_some None true e = refl
not_some None false e = absurd cc
not_some (Some w) true e = absurd cc
not_some (Some w) false e = refl

pub none_seen : (steps : List Step) (found : Option Site) → is_none found ≡ is_none (found_by steps found)
none_seen steps None = refl
none_seen steps (Some site) = refl

pub holds_by_walk : (c : Constraint) (t : AbstractType) (kind : AbstractKind) (v : AbstractValue) (steps : List Step) (found : Option Site)
    → kind_of t ≡ kind → ConstraintKeepsBase c (kind_of t) → IsTrue (fits t v) → found_by steps found ≡ failure_by c kind v → is_none found ≡ holds c (kind_of t) v
holds_by_walk c t kind v steps found e b h f =
    none_seen steps found ∙ tested c (kind_of t) v (f ∙ ap (λ k. failure_by c k v) (sym e) ∙ by_walked c (kind_of t) v b (sym (fits_of t v) ∙ h))

pub member_by_walk : (t : AbstractType) (v : AbstractValue) (steps : List Step) (found : Option Site)
    → KeepsBase t → IsTrue (fits t v) → found_by steps found ≡ failure t v → is_none found ≡ is_member t v
member_by_walk t v steps found b h f = none_seen steps found ∙ ap is_none (f ∙ walked t v b h) ∙ seen_clear (violation t v) ∙ type_clear t v h
