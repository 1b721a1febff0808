-- Looking for a part whose name another part has before it, one after another.
use Rattle.std.proofs.Common.{◌≡◌, ℕ, ◌+◌, ◌<◌, ◌≤◌, true, false, List, [], ◌∷◌, ◌++◌, map, length, take, drop, get_or, Option, Some, None, refl, sym, ap, ◌∙◌}
use Rattle.std.proofs.lemmas.List.{take_more, map_push, at_drop_more, at_drop_all}
use Rattle.guard_model.specs.declared.site.Site.{Site}
use Rattle.guard_syntax.specs.declared.tree.ComponentConsTree.{ComponentConsTree}
use Rattle.guard_constraints.specs.ListedParts.{PartHead, is_among, first_repeated}
use Rattle.guard_constraints.specs.Views.{head_view}

module _ (parts : List ComponentConsTree) (i : ℕ) (total : Option Site) (so_far : first_repeated (map head_view (take i parts)) (map head_view (drop i parts)) ≡ total) where
  abbrev front : List PartHead
  front = map head_view (take i parts)

  abbrev rest : List PartHead
  rest = map head_view (drop (i + 1) parts)

  module _ (part : ComponentConsTree) (lt : i < length parts) (is : part ≡ get_or parts i part) where
    opened : first_repeated front (head_view part ∷ rest) ≡ total
    opened =
        ap (λ (x : ComponentConsTree). first_repeated front (head_view x ∷ rest)) is
        ∙ sym (at_drop_more (λ (xs : List ComponentConsTree). first_repeated front (map head_view xs)) parts i part lt)
        ∙ so_far

    pub repeated_here : is_among (head_view part).name front ≡ true → Some (head_view part).site ≡ total
    repeated_here among = let here : first_repeated front (head_view part ∷ rest) ≡ Some (head_view part).site = rw among refl in sym here ∙ opened

    one_more : map head_view (take (i + 1) parts) ≡ front ++ head_view part ∷ []
    one_more =
        ap (map head_view) (take_more parts i part lt) ∙ map_push head_view (take i parts) (get_or parts i part)
        ∙ ap (λ (x : ComponentConsTree). front ++ head_view x ∷ []) (sym is)

    pub not_repeated : is_among (head_view part).name front ≡ false → first_repeated (map head_view (take (i + 1) parts)) rest ≡ total
    not_repeated among =
        let here : first_repeated front (head_view part ∷ rest) ≡ first_repeated (front ++ head_view part ∷ []) rest = rw among refl in
        ap (λ (hs : List PartHead). first_repeated hs rest) one_more ∙ sym here ∙ opened

  pub none_repeated : length parts ≤ i → None ≡ total
  none_repeated le = sym (at_drop_all (λ (xs : List ComponentConsTree). first_repeated front (map head_view xs)) parts i le) ∙ so_far
