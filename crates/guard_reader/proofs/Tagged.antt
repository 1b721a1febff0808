-- Explicit tags: each but the last is a wrapper round one element.
use Rattle.std.proofs.Common.{◌≡◌, ℕ, Bool, true, List, [], ◌∷◌, Option, Some, None, refl, ◌∙◌}
use Rattle.guard_model.specs.declared.tag.Tag.{Tag}
use Rattle.guard_model.specs.AbstractType.{AbstractType, AbstractKind, Constraints, type_of}
use Rattle.guard_der.specs.Der.{is_constructed}
use Rattle.guard_der.specs.Reading.{contents_at, element_at, tags_at}
use Rattle.guard_tables.specs.declared.slots.Slots.{Slots}
use Rattle.guard_tables.specs.Marking.{marked}
use Rattle.guard_tables.specs.Plan.{Body, plan}
use Rattle.guard_tables.specs.Standing.{inside_at}
use Rattle.guard_reader.specs.Fronts.{Front, elsewhere, alone, tagged_front, innermost, body_front}
use Rattle.guard_reader.specs.Judging.{Pass, Sight, contents_judged}
use Rattle.guard_reader.specs.Octets.{◌>>=◌}
use Rattle.guard_reader.proofs.Sights.{PassLaw, SightLaw, in_tag, tagged_sight, alone_read}
use Rattle.guard_reader.proofs.Untagged.{bare_way}
use Rattle.guard_reader.proofs.Ways.{PlanLaw}

then_pass : (a : Option (List ℕ)) (f : List ℕ → Option (List ℕ)) (g : List ℕ → Option Slots) → ((a >>= f) >>= g) ≡ (a >>= λ x. f x >>= g)
then_pass None f g = refl
then_pass (Some x) f g = refl

-- what is inside the outermost of these tags
pub tags_read : (t : Tag) (ts : List Tag) (b : Body) (kind : AbstractKind) → PassLaw (λ os m. contents_judged b os m) (contents_at kind) (λ v m. marked kind b v m)
    → PassLaw (λ os m. innermost (t ∷ ts) (is_constructed kind) os >>= λ x. contents_judged b x m) (inside_at (t ∷ ts) kind) (λ v m. marked kind b v m)
unfolding innermost tags_at
tags_read t [] b kind law at start os m digits short = law at start os m digits short
tags_read t (u ∷ []) b kind law at start os m digits short =
    let con = is_constructed kind in
    let pass : Pass = λ os m. innermost (u ∷ []) con os >>= λ x. contents_judged b x m in
    then_pass (alone (tagged_front (u ∷ []) con os elsewhere)) (λ x. innermost (u ∷ []) con x) (λ x. contents_judged b x m)
    ∙ alone_read (λ os. tagged_front (u ∷ []) con os elsewhere) (in_tag u con pass (inside_at (u ∷ []) kind) (λ v m. marked kind b v m))
    (tagged_sight u [] con (λ os. elsewhere) pass (inside_at (u ∷ []) kind) (λ v m. marked kind b v m) (tags_read u [] b kind law)) start os m digits
tags_read t (u ∷ w ∷ ts) b kind law at start os m digits short =
    let con = is_constructed kind in
    let pass : Pass = λ os m. innermost (u ∷ w ∷ ts) con os >>= λ x. contents_judged b x m in
    then_pass (alone (tagged_front (u ∷ w ∷ ts) con os elsewhere)) (λ x. innermost (u ∷ w ∷ ts) con x) (λ x. contents_judged b x m)
    ∙ alone_read (λ os. tagged_front (u ∷ w ∷ ts) con os elsewhere) (in_tag u true pass (inside_at (u ∷ w ∷ ts) kind) (λ v m. marked kind b v m))
    (tagged_sight u (w ∷ ts) con (λ os. elsewhere) pass (inside_at (u ∷ w ∷ ts) kind) (λ v m. marked kind b v m) (tags_read u (w ∷ ts) b kind law)) start os m digits

-- a plan with tags
pub tagged_plan : (t : Tag) (ts : List Tag) (b : Body) (kind : AbstractKind) (cons : Constraints) → PassLaw (λ os m. contents_judged b os m) (contents_at kind) (λ v m. marked kind b v m)
    → PlanLaw (plan (t ∷ ts) (is_constructed kind) b) (type_of (t ∷ ts) kind cons)
unfolding Rattle.guard_reader.specs.Fronts.front Rattle.guard_reader.specs.Judging.inside_judged element_at tags_at marked
tagged_plan t [] b kind cons law =
    let con = is_constructed kind in
    tagged_sight t [] con (λ os. body_front b os) (λ os m. innermost (t ∷ []) con os >>= λ x. contents_judged b x m) (inside_at (t ∷ []) kind) (λ v m. marked kind b v m) (tags_read t [] b kind law)
tagged_plan t (u ∷ ts) b kind cons law =
    let con = is_constructed kind in
    tagged_sight t (u ∷ ts) con (λ os. body_front b os) (λ os m. innermost (t ∷ u ∷ ts) con os >>= λ x. contents_judged b x m) (inside_at (t ∷ u ∷ ts) kind) (λ v m. marked kind b v m) (tags_read t (u ∷ ts) b kind law)

-- a plan without a tag
pub bare_plan : (b : Body) (kind : AbstractKind) (cons : Constraints) → SightLaw (λ os. body_front b os) (bare_way kind b) → PlanLaw (plan [] (is_constructed kind) b) (type_of [] kind cons)
unfolding Rattle.guard_reader.specs.Fronts.front Rattle.guard_reader.specs.Judging.inside_judged element_at tags_at marked innermost tagged_front
bare_plan b kind cons law = law

pub with_tags : (tags others : List Tag) (con : Bool) (b : Body) (t : AbstractType) (kind : AbstractKind) → tags ≡ others → con ≡ is_constructed kind → PlanLaw (plan others (is_constructed kind) b) t → PlanLaw (plan tags con b) t
with_tags tags others con b t kind e form law = rw (e, form) law
