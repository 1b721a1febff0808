-- What loops gather from components, one after the other.
use Rattle.std.proofs.Common.{◌≡◌, ℕ, ◌+◌, ◌<◌, List, ◌++◌, length, get_or, sym, ap, ◌∙◌, append_assoc, add-one}
use Rattle.guard_model.specs.AbstractType.{AbstractKind, Components, Parts}
use Rattle.guard_model.specs.TypeView.{presence_view}
use Rattle.guard_model.specs.declared.ty.Comp.{Comp}
use Rattle.guard_model.specs.declared.ty.Kind.TheViews.{out-Comp}
use Rattle.guard_model.proofs.Components.{left, left_is}
use Rattle.guard_tables.specs.declared.slots.Slots.{Slots}
use Rattle.guard_tables.specs.Demands.{Term}
use Rattle.guard_tables.specs.Terms.{ruled_out}
use Rattle.guard_tables.specs.inside.OnePart.{ruled_out_terms}

-- what a full list says of one component more
pub unlisted_more : (kind : AbstractKind) (ps : Parts) (k : Slots) (comps : List Comp) (i : ℕ) (comp : Comp) (old new all : List Term) → i < length comps → comp ≡ get_or comps i comp
    → new ≡ old ++ ruled_out_terms k kind ps i (presence_view (out-Comp comp).presence) → old ++ ruled_out kind ps i k (left comps i) ≡ all → new ++ ruled_out kind ps (i + 1) k (left comps (i + 1)) ≡ all
unlisted_more kind ps k comps i comp old new all lt is added so_far =
    let part : List Term = ruled_out_terms k kind ps i (presence_view (out-Comp comp).presence) in
    let rest : ℕ → List Term = λ j. ruled_out kind ps j k (left comps (i + 1)) in
    let first : ruled_out kind ps i k (left comps i) ≡ part ++ rest (i + 1) = ap (λ (cs : Components). ruled_out kind ps i k cs) (left_is comps i comp lt is) ∙ ap (λ (j : ℕ). part ++ rest j) (sym (add-one i)) in
    ap (λ (ts : List Term). ts ++ rest (i + 1)) added ∙ append_assoc old part (rest (i + 1)) ∙ ap (λ (ts : List Term). old ++ ts) (sym first) ∙ so_far
