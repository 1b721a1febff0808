-- Definitions one after another, as a loop builds them.
use Rattle.std.proofs.Common.{◌≡◌, ◌↔◌, ◌+◌, ◌<◌, ℕ, suc, Bool, true, List, [], ◌∷◌, ◌++◌, length, map, get_or, Option}
use Rattle.std.specs.Global.{Global}
use Rattle.std.specs.declared.sync.Arc.{Arc}
use Rattle.std.proofs.Common.{Some, None, Ok, Err, slice_get, inl, inr, refl, sym, ap, subst, ◌∙◌, arith}
use Rattle.std.proofs.lemmas.List.{get_or_default, map_push, length-map}
use Rattle.std.proofs.lemmas.Option.{slice_get-get_or}
use Rattle.guard_model.specs.AbstractType.{AbstractType}
use Rattle.guard_model.specs.TypeView.{shared_type_view}
use Rattle.guard_model.specs.declared.ty.Ty.{Ty}
use Rattle.guard_syntax.specs.Trees.{WrittenModule}
use Rattle.guard_names.specs.NamesView.{modules_of, order_of}
use Rattle.guard_names.specs.declared.names.Names.{Names}
use Rattle.guard_tagging.specs.ScopeView.{known_list}
use Rattle.guard_tagging.specs.Automatic.{Automatic}
use Rattle.guard_tagging.specs.Skeletons.{AreMeanings}
use Rattle.guard_tagging.specs.Types.{Meaning}
use Rattle.guard_tagging.proofs.Definitions.Meanings.{none_yet, one_meaning_more}
use Rattle.guard_schema.specs.declared.progress.Progress.{Progress}
use Rattle.guard_schema.specs.Building.{BuildsNumber, BuildsAll}
use Rattle.guard_schema.specs.Known.{Built, Known, with_built, none_known}
use Rattle.guard_schema.specs.Outcomes.{RefusesBy}
use Rattle.guard_schema.specs.Faults.{AbstractFault}
use Rattle.guard_schema.specs.Views.{built_in, known_view}
use Rattle.guard_schema.proofs.Filled.Loops.{BuiltSoFar, next_definition, definition_stops}

-- ---- what is built

pub known_more : (p q : Progress) (b : Built) → q.names.now ≡ p.names.now → built_in q ≡ built_in p ++ b ∷ []
    → known_view q ≡ with_built (known_view p) b
known_more p q b names built =
    ap (λ (n : Names). record { modules = modules_of n; order = order_of n; built = built_in q }) names
    ∙ ap (λ (bs : List Built). record { modules = modules_of p.names.now; order = order_of p.names.now; built = bs })
    built

-- the order as the loop reads it
module _ (order ids : List ℕ) (same : ids ≡ order) (start : Known) (i : ℕ) (p : Progress) (d : ℕ)
    (below : i < length ids) (so_far : BuiltSoFar order start i (known_view p)) where
  lt : i < length order
  lt = subst (λ (xs : List ℕ). i < length xs) same below

  pub one_built : (q : Progress) (b : Built) → BuildsNumber (known_view p) (get_or ids i d) (Ok b)
      → q.names.now ≡ p.names.now → built_in q ≡ built_in p ++ b ∷ [] → BuiltSoFar order start (i + 1) (known_view q)
  one_built q b built names more =
      next_definition order start i (known_view p) (get_or order i d) lt
      (get_or_default order i d (get_or order i d) lt) so_far (known_view q)
      (inl (
        b,
        subst (λ (xs : List ℕ). BuildsNumber (known_view p) (get_or xs i d) (Ok b)) same built,
        ap Ok
            (known_more p q b names more),
      ))

  pub one_refused : (fault : Option AbstractFault) → RefusesBy fault (BuildsNumber (known_view p) (get_or ids i d))
      → RefusesBy fault (BuildsAll start order)
  one_refused None h = tt
  one_refused (Some f) h =
      definition_stops order start i (known_view p) (get_or order i d) lt
      (get_or_default order i d (get_or order i d) lt) so_far (Some f)
      (inr (f, subst (λ (xs : List ℕ). BuildsNumber (known_view p) (get_or xs i d) (Err f)) same h, refl))

-- the one that is next in the order
pub next_number : (order ids : List ℕ) → ids ≡ order → (i count d : ℕ) → count ≡ i → i < length ids
    → slice_get order count ≡ Some (get_or ids i d)
next_number order ids same i count d e lt = ap (slice_get order) e ∙ ap (λ (xs : List ℕ). slice_get xs i) (sym same)
    ∙ slice_get-get_or ids i d lt

-- nothing yet
pub none_built : (n : Names) (p : Progress) → p.names.now ≡ n → built_in p ≡ []
    → BuiltSoFar (order_of n) (none_known (modules_of n) (order_of n)) 0 (known_view p)
none_built n p names built =
    let same : known_view p ≡ none_known (modules_of n) (order_of n) =
    ap (λ (m : Names). record { modules = modules_of m; order = order_of m; built = built_in p }) names
    ∙ ap (λ (bs : List Built). record { modules = modules_of n; order = order_of n; built = bs }) built in
    subst (λ (k : Known). BuiltSoFar (order_of n) (none_known (modules_of n) (order_of n)) 0 k) (sym same)
    (λ answer h. h)

-- ---- what is known for tags

list_more : (ts : List AbstractType) (bs : List Bool) (t : AbstractType) (b : Bool) → length bs ≡ length ts
    → known_list (ts ++ t ∷ []) (bs ++ b ∷ []) ≡ known_list ts bs ++ record { ty = t; is_automatic = b } ∷ []
list_more [] [] t b e = refl
list_more [] (a ∷ bs) t b e = absurd (omega (arith, e))
list_more (u ∷ ts) [] t b e = absurd (omega (arith, e))
list_more (u ∷ ts) (a ∷ bs) t b e = ap (λ (ms : List Meaning). record { ty = u; is_automatic = a } ∷ ms)
    (list_more ts bs t b (less e))
  where
    less : {p q : ℕ} → suc p ≡ suc q → p ≡ q
    less h' = omega (arith, h')

module _ (ms : List WrittenModule) (order : List ℕ) (ts : List (Arc Ty Global)) (bs : List Bool)
    (known : AreMeanings ms order (map shared_type_view ts) (known_list (map shared_type_view ts) bs))
    (many : length bs ≡ length ts) where
  pub flags_more : (t : Arc Ty Global) (b : Bool) (number : ℕ) → slice_get order (length ts) ≡ Some number
      → (b ≡ true) ↔ Automatic ms number
      → (us : List (Arc Ty Global)) (cs : List Bool) → us ≡ ts ++ t ∷ [] → cs ≡ bs ++ b ∷ []
      → AreMeanings ms order (map shared_type_view us) (known_list (map shared_type_view us) cs)
  flags_more t b number next flag us cs types flags =
      let all : map shared_type_view us ≡ map shared_type_view ts ++ shared_type_view t ∷ [] =
      ap (map shared_type_view) types ∙ map_push shared_type_view ts t in
      let same : length (map shared_type_view ts) ≡ length ts = length-map ts shared_type_view in
      let with_flag : known_list (map shared_type_view us) cs ≡ known_list
      (map shared_type_view ts) bs ++ record { ty = shared_type_view t; is_automatic = b } ∷ [] =
      ap (λ (xs : List AbstractType). known_list xs cs) all
      ∙ ap (λ (fs : List Bool). known_list (map shared_type_view ts ++ shared_type_view t ∷ []) fs) flags
      ∙ list_more (map shared_type_view ts) bs (shared_type_view t) b (many ∙ sym same) in
      subst (λ (xs : List AbstractType). AreMeanings ms order xs (known_list (map shared_type_view us) cs)) (sym all)
      (subst (λ (ks : List Meaning). AreMeanings ms order (map shared_type_view ts ++ shared_type_view t ∷ []) ks) (sym with_flag)
      (one_meaning_more ms order (map shared_type_view ts) (known_list (map shared_type_view ts) bs) (shared_type_view t)
      (record { ty = shared_type_view t; is_automatic = b }) number known
      (ap (slice_get order) same ∙ next) (refl, flag)))

pub no_flags : (ms : List WrittenModule) (order : List ℕ) (ts : List (Arc Ty Global)) (bs : List Bool) → ts ≡ []
    → AreMeanings ms order (map shared_type_view ts) (known_list (map shared_type_view ts) bs)
no_flags ms order ts bs e =
    subst (λ (us : List (Arc Ty Global)). AreMeanings ms order (map shared_type_view us) (known_list (map shared_type_view us) bs)) (sym e)
    (none_yet ms order)
