-- The types of a table that was made before are these, as far as they were compared.
use Rattle.std.proofs.Common.{◌≡◌, ℕ, ◌+◌, ◌<◌, List, [], ◌∷◌, ◌++◌, length, take, get_or, slice_get, Some, ap, sym, ◌∙◌, add-one}
use Rattle.std.specs.Borrow.{Bor}
use Rattle.std.proofs.Math.Seq.{take-suc}
use Rattle.std.proofs.lemmas.Option.{get_or_from_slice_get, slice_get_within}
use Rattle.guard_model.specs.AbstractType.{AbstractType}
use Rattle.guard_model.specs.TypeView.{type_view}
use Rattle.guard_model.specs.declared.ty.Ty.{Ty}
use Rattle.guard_tables.specs.Tables.{types_view}
use Rattle.guard_policy.proofs.EntriesRead.{taken_is}

pub one_more : (ts : List AbstractType) (types : List (Bor Ty)) (i : ℕ) (x : Bor Ty) → i < length types → x ≡ get_or types i x → slice_get ts i ≡ Some (type_view x.now)
    → take i ts ≡ types_view (take i types) → take (i + 1) ts ≡ types_view (take (i + 1) types)
one_more ts types i x lt is at so_far =
    let t = type_view x.now in
    ap (λ n. take n ts) (add-one i) ∙ take-suc ts i t (slice_get_within ts i t at)
    ∙ ap (λ (u : AbstractType). take i ts ++ u ∷ []) (get_or_from_slice_get ts i t t at) ∙ ap (λ (us : List AbstractType). us ++ t ∷ []) so_far
    ∙ sym (taken_is (λ (y : Bor Ty). type_view y.now) types i x lt is)
