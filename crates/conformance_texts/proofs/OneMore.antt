-- One definition more after those that are built.
use Rattle.std.proofs.Common.{◌≡◌, ◌↔◌, ℕ, ◌+◌, ◌<◌, Bool, true, List, [], ◌∷◌, ◌++◌, length, map, get_or, slice_get, Some, refl, sym, subst, ◌∙◌, ap, arith}
use Rattle.std.specs.Global.{Global}
use Rattle.std.specs.declared.sync.Arc.{Arc}
use Rattle.std.specs.Prelude.{IsTrue}
use Rattle.std.proofs.lemmas.List.{map-append, length-map}
use Rattle.std.proofs.lemmas.Option.{slice_get-get_or}
use Rattle.guard_model.specs.AbstractType.{AbstractType}
use Rattle.guard_model.specs.TypeView.{shared_type_view}
use Rattle.guard_model.specs.declared.ty.Ty.{Ty}
use Rattle.guard_syntax.specs.Trees.{WrittenModule}
use Rattle.guard_tagcheck.specs.Limits.{is_within_limits}
use Rattle.guard_tagging.specs.Faults.{nodes}
use Rattle.guard_tagging.specs.ScopeView.{known_list}
use Rattle.guard_tagging.specs.Automatic.{Automatic}
use Rattle.guard_tagging.specs.Skeletons.{AreMeanings}
use Rattle.guard_tagging.specs.Surroundings.{nodes_of_all}
use Rattle.guard_tagging.specs.Types.{Meaning}
use Rattle.guard_tagging.proofs.Builds.{nodes_more}
use Rattle.guard_tagging.proofs.Definitions.Meanings.{one_meaning_more}

list_more : (types : List AbstractType) (flags : List Bool) (t : AbstractType) (b : Bool) → length types ≡ length flags
    → known_list (types ++ t ∷ []) (flags ++ b ∷ []) ≡ known_list types flags ++ record { ty = t; is_automatic = b } ∷ []
list_more [] [] t b e = refl
list_more [] (a ∷ flags) t b e = absurd (omega (arith, e))
list_more (u ∷ types) [] t b e = absurd (omega (arith, e))
list_more (u ∷ types) (a ∷ flags) t b e = ap (λ (ms : List Meaning). record { ty = u; is_automatic = a } ∷ ms) (list_more types flags t b (omega (arith, e)))

module _ (ms : List WrittenModule) (order : List ℕ) (types : List (Arc Ty Global)) (flags : List Bool) (ty : Arc Ty Global) where
  abbrev before : List AbstractType
  before = map shared_type_view types

  more : map shared_type_view (types ++ ty ∷ []) ≡ map shared_type_view types ++ shared_type_view ty ∷ []
  more = map-append shared_type_view types (ty ∷ [])

  pub known_more : (number : ℕ) (b : Bool) → length types ≡ length flags → slice_get order (length (map shared_type_view types)) ≡ Some number
      → AreMeanings ms order (map shared_type_view types) (known_list (map shared_type_view types) flags) → (b ≡ true) ↔ Automatic ms number
      → AreMeanings ms order (map shared_type_view (types ++ ty ∷ [])) (known_list (map shared_type_view (types ++ ty ∷ [])) (flags ++ b ∷ []))
  known_more number b many next known flag =
      let t = shared_type_view ty in
      let with_flag : known_list (map shared_type_view (types ++ ty ∷ [])) (flags ++ b ∷ []) ≡ known_list before flags ++ record { ty = t; is_automatic = b } ∷ [] =
      ap (λ (ts : List AbstractType). known_list ts (flags ++ b ∷ [])) more ∙ list_more before flags t b (length-map types shared_type_view ∙ many) in
      subst (λ (ts : List AbstractType). AreMeanings ms order ts (known_list (map shared_type_view (types ++ ty ∷ [])) (flags ++ b ∷ []))) (sym more)
      (subst (λ (ks : List Meaning). AreMeanings ms order (before ++ t ∷ []) ks) (sym with_flag)
      (one_meaning_more ms order before (known_list before flags) t (record { ty = t; is_automatic = b }) number known next (refl, flag)))

pub sum_more : (types : List (Arc Ty Global)) (ty : Arc Ty Global) → nodes_of_all (map shared_type_view (types ++ ty ∷ [])) ≡ nodes_of_all (map shared_type_view types) + nodes (shared_type_view ty)
sum_more types ty = ap nodes_of_all (map-append shared_type_view types (ty ∷ [])) ∙ nodes_more (map shared_type_view types) (shared_type_view ty)

-- ---- the next one in the order

pub listed : (order found : List ℕ) (place here : ℕ) → found ≡ order → here ≡ place → place < length found → slice_get order here ≡ Some (get_or found place 0)
listed order found place here same is lt = ap (slice_get order) is ∙ ap (λ (o : List ℕ). slice_get o place) (sym same) ∙ slice_get-get_or found place 0 lt

abbrev pub IsKept : Arc Ty Global → Type 0
IsKept t = IsTrue (is_within_limits (shared_type_view t))
