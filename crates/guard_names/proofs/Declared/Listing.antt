-- The names that a module lists as exported, in a set.
use Rattle.std.proofs.Common.{◌≡◌, ℕ, ◌+◌, ◌<◌, Bool, true, false, cond, ◌||◌, List, [], ◌∷◌, map, length, get_or, take, refl, ◌∙◌}
use Rattle.std.specs.Prelude.{bytes_eq}
use Rattle.std.specs.List.{list_any}
use Rattle.std.specs.Cmp.Lexicographic.{nat_list_eq_equiv}
use Rattle.std.proofs.lemmas.List.{map_more}
use Rattle.std.proofs.lemmas.List.Folds.{list_any-append}
use Rattle.guard_syntax.specs.declared.tree.SymbolTree.{SymbolTree}
use Rattle.guard_syntax.specs.ModuleViews.{symbol_view}

cond_or : (a b : Bool) → cond a true b ≡ (b || (a || false))
cond_or true true = refl
cond_or true false = refl
cond_or false true = refl
cond_or false false = refl

-- one more name in the set is one more that is listed
pub more_listed : (xs : List SymbolTree) (i : ℕ) (d : SymbolTree) (q : List ℕ) (old new : Bool) → i < length xs
    → old ≡ list_any (λ s. bytes_eq q s.name) (map symbol_view (take i xs))
    → new ≡ cond (bytes_eq (get_or xs i d).name.now q) true old
    → new ≡ list_any (λ s. bytes_eq q s.name) (map symbol_view (take (i + 1) xs))
more_listed xs i d q old new inside was is =
    is ∙ rw (map_more symbol_view xs i d inside, list_any-append (λ s. bytes_eq q s.name) (map symbol_view (take i xs)) (symbol_view (get_or xs i d) ∷ []), nat_list_eq_equiv.symm (get_or xs i d).name.now q, was)
    (cond_or (bytes_eq q (get_or xs i d).name.now) (list_any (λ s. bytes_eq q s.name) (map symbol_view (take i xs))))
