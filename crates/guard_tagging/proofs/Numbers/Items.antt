-- Items one after another, as loops read them.
use Rattle.std.proofs.Common.{◌≡◌, Bool, true, false, cond, ℕ, zero, suc, ◌+◌, ◌-◌, ◌<◌, ◌≤◌, List, [], ◌∷◌, ◌++◌, map, length, get_or, take, drop, Option, Some, None, Result, Ok, Err, refl, sym, ap, ◌∙◌, arith, subst}
use Rattle.std.specs.Prelude.{ℤ, pos}
use Rattle.std.specs.List.{list_any}
use Rattle.std.specs.Ordering.{int_eq}
use Rattle.std.proofs.lemmas.Bool.Decides.{same_from_decides, Decides-like, Decides-int_eq}
use Rattle.std.proofs.lemmas.List.{at_drop_more, at_drop_all, length-map}
use Rattle.std.proofs.lemmas.List.Folds.{list_any_more}
use Rattle.guard_model.specs.Answer.{◌>>=◌, Refuses}
use Rattle.guard_model.specs.AbstractType.{NamedNumber}
use Rattle.guard_model.specs.declared.site.Site.{Site}
use Rattle.guard_syntax.specs.Trees.{WrittenItem, WrittenNumber}
use Rattle.guard_syntax.specs.TypeViews.{item_view}
use Rattle.guard_syntax.specs.declared.tree.ItemTree.{ItemTree}
use Rattle.guard_tagging.specs.declared.fault.TagFault.{TagFault}
use Rattle.guard_tagging.specs.Enumerations.{free_from}
use Rattle.guard_tagging.specs.inside.ReadItems.{read_own, option_list, read_written, numbered_name, read_number, read_item, read_numbered, read_items}
use Rattle.guard_tagging.proofs.Numbers.Repeated.{cond-swap}

module _ (front : List ℤ) (items : List ItemTree) (i : ℕ) (total : Result (List ℤ) TagFault)
    (so_far : read_written front (map item_view (drop i items)) ≡ total) where
  pub written_stops : (d : ItemTree) → i < length items → (f : Option TagFault)
      → Refuses f (read_own (item_view (get_or items i d))) → Refuses f total
  unfolding read_written
  written_stops d lt None refused = tt
  written_stops d lt (Some f) refused =
      let all : read_written front (map item_view (drop i items)) ≡ Err f =
      rw (at_drop_more (map item_view) items i d lt, refused) refl in
      sym so_far ∙ all

  pub next_written : (d : ItemTree) → i < length items → (own : Option ℤ)
      → read_own (item_view (get_or items i d)) ≡ Ok own
      → read_written (front ++ option_list own) (map item_view (drop (i + 1) items)) ≡ total
  unfolding read_written
  next_written d lt own read =
      let all : read_written front (map item_view (drop i items))
      ≡ read_written (front ++ option_list own) (map item_view (drop (i + 1) items)) =
      rw (at_drop_more (map item_view) items i d lt, read) refl in
      sym all ∙ so_far

  pub all_written : length items ≤ i → total ≡ Ok front
  unfolding read_written
  all_written le =
      let all : read_written front (map item_view (drop i items)) ≡ Ok front =
      rw (at_drop_all (map item_view) items i le) refl in
      sym so_far ∙ all

module _ (taken : List ℤ) (tries : ℕ) (next : ℕ) (front : List NamedNumber) (items : List ItemTree) (i : ℕ)
    (total : Result (List NamedNumber) TagFault)
    (so_far : read_numbered taken tries next front (map item_view (drop i items)) ≡ total) where
  pub numbering_stops : (d : ItemTree) → i < length items → (f : Option TagFault)
      → Refuses f (read_item taken tries next (item_view (get_or items i d))) → Refuses f total
  unfolding read_numbered
  numbering_stops d lt None refused = tt
  numbering_stops d lt (Some f) refused =
      let all : read_numbered taken tries next front (map item_view (drop i items)) ≡ Err f =
      rw (at_drop_more (map item_view) items i d lt, refused) refl in
      sym so_far ∙ all

  pub next_numbered : (d : ItemTree) → i < length items → (one : NamedNumber) (after : ℕ)
      → read_item taken tries next (item_view (get_or items i d)) ≡ Ok (one, after)
      → read_numbered taken tries after (front ++ one ∷ []) (map item_view (drop (i + 1) items)) ≡ total
  unfolding read_numbered
  next_numbered d lt one after read =
      let all : read_numbered taken tries next front (map item_view (drop i items))
      ≡ read_numbered taken tries after (front ++ one ∷ []) (map item_view (drop (i + 1) items)) =
      rw (at_drop_more (map item_view) items i d lt, read) refl in
      sym all ∙ so_far

  pub all_numbered : length items ≤ i → total ≡ Ok front
  unfolding read_numbered
  all_numbered le =
      let all : read_numbered taken tries next front (map item_view (drop i items)) ≡ Ok front =
      rw (at_drop_all (map item_view) items i le) refl in
      sym so_far ∙ all

-- ---- numbers that are taken

int_eq-comm : (a b : ℤ) → int_eq a b ≡ int_eq b a
int_eq-comm a b =
    same_from_decides (int_eq a b) (int_eq b a) (Decides-int_eq a b)
    (Decides-like (int_eq b a) sym sym (Decides-int_eq b a))

pub taken_more : (numbers : List ℤ) (i : ℕ) (d q : ℤ) (old new : Bool) → i < length numbers
    → old ≡ list_any (int_eq q) (take i numbers)
    → new ≡ cond (int_eq (get_or numbers i d) q) true old → new ≡ list_any (int_eq q) (take (i + 1) numbers)
taken_more numbers i d q old new lt was is =
    is ∙ rw (list_any_more (int_eq q) numbers i d lt, was, int_eq-comm (get_or numbers i d) q)
    (cond-swap (int_eq q (get_or numbers i d)) (list_any (int_eq q) (take i numbers)))

-- ---- the first that is free

pub free_now : (taken : List ℤ) (tries n : ℕ) → list_any (int_eq (pos n)) taken ≡ false → free_from taken tries n ≡ n
free_now taken zero n e = refl
free_now taken (suc tries) n e = rw (e, free_from) refl

pub found_free : (taken : List ℤ) (tries n total : ℕ) → list_any (int_eq (pos n)) taken ≡ false
    → free_from taken tries n ≡ total → n ≡ total
found_free taken tries n total e so_far = sym (free_now taken tries n e) ∙ so_far

pub free_next : (taken : List ℤ) (tries n : ℕ) → list_any (int_eq (pos n)) taken ≡ true
    → free_from taken (suc tries) n ≡ free_from taken tries (suc n)
free_next taken tries n e = rw (e, free_from) refl

plus_one : (n : ℕ) → suc n ≡ n + 1
plus_one n = omega arith

pub next_free : (taken : List ℤ) (tries i n total : ℕ) → i < tries → list_any (int_eq (pos n)) taken ≡ true
    → free_from taken (tries - i) n ≡ total → free_from taken (tries - (i + 1)) (n + 1) ≡ total
next_free taken tries i n total lt e so_far =
    let k : tries - i ≡ suc (tries - (i + 1)) = omega arith in
    let m : free_from taken (suc (tries - (i + 1))) n ≡ total =
    subst (λ (t : ℕ). free_from taken t n ≡ total) k so_far in
    subst (λ (k : ℕ). free_from taken (tries - (i + 1)) k ≡ total) (plus_one n)
    (sym (free_next taken (tries - (i + 1)) n e) ∙ m)

-- ---- numbering depends on which numbers are taken, in whatever order

abbrev pub SameTaken : List ℤ → List ℤ → Type 0
SameTaken a b = (q : ℤ) → list_any (int_eq q) a ≡ list_any (int_eq q) b

same_free : (a b : List ℤ) → SameTaken a b → (tries n : ℕ) → free_from a tries n ≡ free_from b tries n
same_free a b h zero n = refl
same_free a b h (suc tries) n = λ i. elim (h (pos n) i) [ true ↦ same_free a b h tries (suc n) i | false ↦ n ]

same_number_read : (a b : List ℤ) → SameTaken a b → (tries next : ℕ) (site : Site) (n : Option WrittenNumber)
    → read_number a tries next site n ≡ read_number b tries next site n
same_number_read a b h tries next site None = ap (λ (free : ℕ). Ok (pos free, suc free)) (same_free a b h tries next)
same_number_read a b h tries next site (Some n) = refl

same_item : (a b : List ℤ) → SameTaken a b → (tries next : ℕ) (i : WrittenItem)
    → read_item a tries next i ≡ read_item b tries next i
same_item a b h tries next i =
    ap (λ (r : Result (ℤ × ℕ) TagFault). r >>= λ one. Ok (numbered_name i.name one.0, one.1))
    (same_number_read a b h tries next i.site i.number)

same_then : {A B F : Type 0} (r : Result A F) (f g : A → Result B F) → ((x : A) → f x ≡ g x) → (r >>= f) ≡ (r >>= g)
same_then (Ok x) f g h = h x
same_then (Err e) f g h = refl

same_numbered : (a b : List ℤ) → SameTaken a b → (tries next : ℕ) (front : List NamedNumber) (items : List WrittenItem)
    → read_numbered a tries next front items ≡ read_numbered b tries next front items
unfolding read_numbered
same_numbered a b h tries next front [] = refl
same_numbered a b h tries next front (i ∷ items) =
    ap (λ (r : Result (NamedNumber × ℕ) TagFault). r >>= λ one. read_numbered a tries one.1 (front ++ one.0 ∷ []) items)
    (same_item a b h tries next i)
    ∙ same_then (read_item b tries next i) _ _ (λ one. same_numbered a b h tries one.1 (front ++ one.0 ∷ []) items)

pub items_read : (trees : List ItemTree) (keys written : List ℤ) → read_written [] (map item_view trees) ≡ Ok written
    → SameTaken keys written
    → read_items (map item_view trees) ≡ read_numbered keys (length trees) 0 [] (map item_view trees)
unfolding read_items
items_read trees keys written e h =
    ap (λ (r : Result (List ℤ) TagFault). r >>= λ taken.
    read_numbered taken (length (map item_view trees)) 0 [] (map item_view trees)) e
    ∙ ap (λ (n : ℕ). read_numbered written n 0 [] (map item_view trees)) (length-map trees item_view)
    ∙ sym (same_numbered keys written h (length trees) 0 [] (map item_view trees))
