-- What is next of the components that are left, and what is left after it.
use Rattle.std.proofs.Common.{◌≡◌, ℕ, suc, ◌+◌, ◌≤◌, ◌<◌, List, [], ◌∷◌, ◌++◌, length, map, drop, get_or, Some, Ok}
use Rattle.std.proofs.Common.{inl, inr, refl}
use Rattle.std.proofs.Common.{sym, ap, subst, ◌∙◌, ◌&&◌, IsTrue, append_assoc, arith}
use Rattle.std.proofs.lemmas.Bool.{and_parts}
use Rattle.std.proofs.lemmas.List.{append-nil, length-append}
use Rattle.guard_model.proofs.Results.{same_Ok}
use Rattle.guard_model.specs.AbstractType as type
use Rattle.guard_model.specs.AbstractType.{AbstractType, Components}
use Rattle.guard_model.specs.Counts.{component_count}
use Rattle.guard_model.specs.TypeView.{OneComponent, components_of}
use Rattle.guard_model.specs.declared.site.Site.{Site}
use Rattle.guard_syntax.specs.Trees.{WrittenPresence, mandatory, WrittenType, named_type, WrittenComponents}
use Rattle.guard_syntax.specs.Trees.{WrittenComponentForm, named, components_of_type, component_before}
use Rattle.guard_syntax.specs.Trees as tree_forms
use Rattle.guard_syntax.specs.Trees.{WrittenAlternatives, alternative, alternatives_of}
use Rattle.guard_syntax.specs.TypeViews as written
use Rattle.guard_syntax.specs.declared.tree.AlternativeTree.{AlternativeTree}
use Rattle.guard_syntax.specs.declared.tree.CompTree.{CompTree}
use Rattle.guard_tagging.specs.Types.{presence_of, join, parts_of}
use Rattle.guard_constraints.specs.Visible.{Visible}
use Rattle.guard_schema.specs.Outcomes.{Is, Then}
use Rattle.guard_schema.specs.Faults.{Outcome}
use Rattle.guard_schema.specs.Finishing.{count_of_meant, FillsFrom}
use Rattle.guard_schema.specs.inside.InTurn.{Filling, FillsNext, FinishesInTurn, FromInTurn, EntryInTurn}
use Rattle.guard_schema.specs.inside.InTurn.{AlternativeInTurn}
use Rattle.guard_schema.specs.inside.Ready.{listed, is_shaped, are_shaped, AreReady, OthersAreReady, Begins, AreNext}
use Rattle.guard_schema.specs.inside.Ready.{OthersAreNext, IsNext, IsEntryNext, ArePutInNext}
use Rattle.guard_schema.proofs.Filled.Lists.{listed_of}
use Rattle.guard_schema.proofs.Filled.ByTrees.{filling, Filled, listed_join, from_filled}
use Rattle.guard_schema.proofs.Sound.Shaped.{shaped_join}
use Rattle.guard_schema.proofs.Turns.Loops.{split}

-- ---- the next one

next_leaves : (names : Visible) (Finish : AbstractType → Outcome AbstractType → Type 0) (presence : WrittenPresence)
    (done left : List OneComponent) (c : OneComponent) (after : List OneComponent) (g : Filling) → left ≡ c ∷ after
    → FillsNext names Finish presence done left (Ok g) → g.left ≡ after
next_leaves names Finish presence done left c after g e h =
    by (subst (λ (xs : List OneComponent). FillsNext names Finish presence done xs (Ok g)) e h)
  where
    by : FillsNext names Finish presence done (c ∷ after) (Ok g) → g.left ≡ after
    by (inl (one, k, is)) =
        ap (λ (f : Filling). f.left) (same_Ok g (record { done = done ++ one ∷ []; left = after }) is)
    by (inr (f, k, is)) = absurd cc

-- the first of bare components that are left
first_left : (name : List ℕ) (u : AbstractType) (p : type.AbstractPresence) (bare rest : Components)
    (left after : List OneComponent) → bare ≡ type.component name u p rest → left ≡ listed bare ++ after
    → left ≡ record { name = name; ty = u; presence = p } ∷ (listed rest ++ after)
first_left name u p bare rest left after e l = l ∙ ap (λ (b : Components). listed b ++ after) e

both_shaped : (name : List ℕ) (u : AbstractType) (p : type.AbstractPresence) (bare rest : Components)
    → bare ≡ type.component name u p rest → IsTrue (are_shaped bare)
    → IsTrue (is_shaped u) × IsTrue (are_shaped rest)
both_shaped name u p bare rest e h = and_parts (is_shaped u) (are_shaped rest)
    (subst (λ (b : Components). IsTrue (are_shaped b)) e h)

-- the first ones
some_left : (bare taken rest : Components) (left after : List OneComponent) → bare ≡ join taken rest
    → left ≡ listed bare ++ after → left ≡ listed taken ++ (listed rest ++ after)
some_left bare taken rest left after e l =
    l ∙ ap (λ (b : Components). listed b ++ after) e
    ∙ ap (λ (xs : List OneComponent). xs ++ after) (listed_join taken rest)
    ∙ append_assoc (listed taken) (listed rest) after

listed_length : (cs : Components) → length (listed cs) ≡ component_count cs
listed_length type.no_components = refl
listed_length (type.component n t p cs) = ap suc (listed_length cs)

-- all of a list
whole_next : (bare : List OneComponent) (start : Filling) → start ≡ record { done = []; left = bare }
    → Begins start.left (components_of bare)
whole_next bare start e = (
  [],
  ap (λ (f : Filling). f.left) e ∙ sym (listed_of bare)
      ∙ sym (append-nil (listed (components_of bare))),
)

module _ (names : Visible) where
  -- ---- an entry of a list

  pub entry_next : (site : Site) (form : WrittenComponentForm) (cs : WrittenComponents) (left : List OneComponent)
      → AreNext names (component_before site form cs) left → IsEntryNext names form left
  entry_next site (named name t presence) cs left (bare, ((u, rest, e, is, are), shaped), (after, l)) = (
    record { name = name; ty = u; presence = presence_of presence },
    listed rest ++ after,
    first_left name u (presence_of presence) bare rest left after e l,
    (is, (both_shaped name u (presence_of presence) bare rest e shaped).0),
  )
  entry_next site (components_of_type t) cs left (bare, ((taken, rest, e, from, are), shaped), (after, l)) = (
    taken,
    (from, (shaped_join taken rest (subst (λ (b : Components). IsTrue (are_shaped b)) e shaped)).0),
    (listed rest ++ after, some_left bare taken rest left after e l),
  )

  pub after_entry : (site : Site) (form : WrittenComponentForm) (cs : WrittenComponents) (f g : Filling)
      → AreNext names (component_before site form cs) f.left → EntryInTurn names form f (Ok g) → AreNext names cs g.left
  after_entry site (named name t presence) cs f g (bare, ((u, rest, e, is, are), shaped), (after, l)) h = (
    rest,
    (are, (both_shaped name u (presence_of presence) bare rest e shaped).1),
    (
      after,
      next_leaves names (FinishesInTurn names t) presence f.done f.left
          (record { name = name; ty = u; presence = presence_of presence }) (listed rest ++ after) g
          (first_left name u (presence_of presence) bare rest f.left after e l) h,
    ),
  )
  after_entry site (components_of_type t) cs f g (bare, ((taken, rest, e, from, are), shaped), (after, l)) h = (
    rest,
    (are, (shaped_join taken rest (subst (λ (b : Components). IsTrue (are_shaped b)) e shaped)).1),
    (
      after,
      by (from_filled names t taken from f.done (listed rest ++ after) (Ok g)
          (subst (λ (xs : List OneComponent). FromInTurn names t (filling f.done xs) (Ok g))
          (some_left bare taken rest f.left after e l) h)),
    ),
  )
    where
      by : Filled (FillsFrom names t taken) f.done (listed rest ++ after) (Ok g) → g.left ≡ listed rest ++ after
      by (parts, good, is) = ap (λ (x : Filling). x.left) is

  -- ---- an alternative

  pub alternative_next : (site : Site) (name : List ℕ) (t : WrittenType) (others : WrittenAlternatives)
      (left : List OneComponent) → OthersAreNext names (alternative site name t others) left → IsNext names t left
  alternative_next site name t others left (bare, ((u, rest, e, is, are), shaped), (after, l)) = (
    record { name = name; ty = u; presence = type.mandatory },
    listed rest ++ after,
    first_left name u type.mandatory bare rest left after e l,
    (is, (both_shaped name u type.mandatory bare rest e shaped).0),
  )

  pub after_alternative : (site : Site) (name : List ℕ) (t : WrittenType) (others : WrittenAlternatives) (f g : Filling)
      → OthersAreNext names (alternative site name t others) f.left
      → FillsNext names (FinishesInTurn names t) mandatory f.done f.left (Ok g) → OthersAreNext names others g.left
  after_alternative site name t others f g (bare, ((u, rest, e, is, are), shaped), (after, l)) h = (
    rest,
    (are, (both_shaped name u type.mandatory bare rest e shaped).1),
    (
      after,
      next_leaves names (FinishesInTurn names t) mandatory f.done f.left
          (record { name = name; ty = u; presence = type.mandatory }) (listed rest ++ after) g
          (first_left name u type.mandatory bare rest f.left after e l) h,
    ),
  )

  -- ---- all of a list

  pub all_next : (cs : WrittenComponents) (bare : List OneComponent) (start : Filling)
      → start ≡ record { done = []; left = bare } → AreReady names cs (components_of bare) → AreNext names cs start.left
  all_next cs bare start e ready = (components_of bare, ready, whole_next bare start e)

  pub all_others_next : (others : WrittenAlternatives) (bare : List OneComponent) (start : Filling)
      → start ≡ record { done = []; left = bare } → OthersAreReady names others (components_of bare)
      → OthersAreNext names others start.left
  all_others_next others bare start e ready = (components_of bare, ready, whole_next bare start e)

  -- ---- what COMPONENTS OF a name takes over is there

  pub enough_left : (site : Site) (name : List ℕ) (left : List OneComponent)
      → ArePutInNext names (named_type site name) left → count_of_meant (names.types name) ≤ length left
  enough_left site name left (taken, ((t, there, is), shaped), (after, l)) =
      at_least (count_of_meant (names.types name)) (component_count taken) (length after) (length left)
      (ap count_of_meant there ∙ sym (ap component_count is))
      (ap (λ (xs : List OneComponent). length xs) l ∙ length-append (listed taken) after
      ∙ ap (λ (n : ℕ). n + length after) (listed_length taken))
    where
      at_least : (a b c d : ℕ) → a ≡ b → d ≡ b + c → a ≤ d
      at_least a b c d e f = omega (arith, e, f)

-- ---- as a loop reads trees

module _ (names : Visible) (trees : List CompTree) (i : ℕ) (f : Filling) where
  components_left : (x : CompTree) → i < length trees → x ≡ get_or trees i x
      → AreNext names (tree_forms.components_of (map written.component_view (drop i trees))) f.left
      → AreNext names (component_before (written.component_view x).site (written.component_view x).form
      (tree_forms.components_of (map written.component_view (drop (i + 1) trees)))) f.left
  components_left x lt is h = subst (λ (ts : List CompTree). AreNext names
      (tree_forms.components_of (map written.component_view ts)) f.left) (split trees i x lt is) h

  pub component_next : (x : CompTree) → i < length trees → x ≡ get_or trees i x
      → AreNext names (tree_forms.components_of (map written.component_view (drop i trees))) f.left
      → IsEntryNext names (written.component_view x).form f.left
  component_next x lt is h = entry_next names (written.component_view x).site (written.component_view x).form
      (tree_forms.components_of (map written.component_view (drop (i + 1) trees))) f.left (components_left x lt is h)

  pub components_after : (g : Filling) (x : CompTree) → i < length trees → x ≡ get_or trees i x
      → AreNext names (tree_forms.components_of (map written.component_view (drop i trees))) f.left
      → EntryInTurn names (written.component_view x).form f (Ok g)
      → AreNext names (tree_forms.components_of (map written.component_view (drop (i + 1) trees))) g.left
  components_after g x lt is h one = after_entry names (written.component_view x).site (written.component_view x).form
      (tree_forms.components_of (map written.component_view (drop (i + 1) trees))) f g (components_left x lt is h) one

module _ (names : Visible) (trees : List AlternativeTree) (i : ℕ) (f : Filling) where
  abbrev others_after : WrittenAlternatives
  others_after = alternatives_of (map written.alternative_view (drop (i + 1) trees))

  alternatives_left : (x : AlternativeTree) → i < length trees → x ≡ get_or trees i x
      → OthersAreNext names (alternatives_of (map written.alternative_view (drop i trees))) f.left
      → OthersAreNext names (alternative (written.alternative_view x).site (written.alternative_view x).name
      (written.alternative_view x).ty others_after) f.left
  alternatives_left x lt is h = subst (λ (ts : List AlternativeTree). OthersAreNext names
      (alternatives_of (map written.alternative_view ts)) f.left) (split trees i x lt is) h

  pub alternative_is_next : (x : AlternativeTree) → i < length trees → x ≡ get_or trees i x
      → OthersAreNext names (alternatives_of (map written.alternative_view (drop i trees))) f.left
      → IsNext names (written.alternative_view x).ty f.left
  alternative_is_next x lt is h = alternative_next names (written.alternative_view x).site
      (written.alternative_view x).name (written.alternative_view x).ty others_after f.left
      (alternatives_left x lt is h)

  pub alternatives_after : (g : Filling) (x : AlternativeTree) → i < length trees → x ≡ get_or trees i x
      → OthersAreNext names (alternatives_of (map written.alternative_view (drop i trees))) f.left
      → AlternativeInTurn names (written.alternative_view x) f (Ok g)
      → OthersAreNext names others_after g.left
  alternatives_after g x lt is h one = after_alternative names (written.alternative_view x).site
      (written.alternative_view x).name (written.alternative_view x).ty others_after f g
      (alternatives_left x lt is h) one
