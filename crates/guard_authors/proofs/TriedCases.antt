-- Cases that are looked at, and tried, one after another.
use Rattle.std.proofs.Common.{◌≡◌, ◌∙◌, ◌<◌, ◌≤◌, ◌+◌, ℕ, suc, Bool, cond, true, false, List, [], ◌∷◌, ◌++◌, ap, append_assoc, arith, drop, get_or, length, refl, subst, sym}
use Rattle.std.specs.Prelude.{Option}
use Rattle.std.specs.Option.{option_or}
use Rattle.std.proofs.lemmas.List.{append-nil, at_drop_more}
use Rattle.toml.specs.Data.{Items, no_items, item}
use Rattle.toml.specs.View.{items_view, view}
use Rattle.toml.specs.declared.value.Value.{Value}
use Rattle.guard_files.specs.Reading.{AbstractLoaded}
use Rattle.guard_authors.specs.Cases.{AbstractCase, case_fault, case_in, list_fault, members_in}
use Rattle.guard_authors.specs.Testing.{AbstractCaseResult, AreTried, IsCaseResult, case_line, count, failures, is_wanted}

-- what is left, after what was tried, is all
abbrev pub Continues : AbstractLoaded → ℕ → Items → List ℕ → ℕ → List ℕ → Items → Type 0
Continues p number left lines failed reached all =
    (rest : List ℕ) (others : ℕ) (more : List ℕ) → AreTried p number left rest others more → AreTried p 1 all (lines ++ rest) (failed + others) (reached ++ more)

pub next_left : (items : List Value) (i : ℕ) (x : Value) → i < length items → x ≡ get_or items i x → items_view (drop i items) ≡ item (view x) (items_view (drop (i + 1) items))
next_left items i x within at = at_drop_more items_view items i x within ∙ ap (λ (y : Value). item (view y) (items_view (drop (i + 1) items))) (sym at)

-- as many cases as items
pub counted : (items : List Value) → count (items_view items) ≡ length items
counted [] = refl
counted (v ∷ items) =
    let rest = counted items in
    let more : 1 + length items ≡ suc (length items) = omega arith in
    ap (λ (n : ℕ). 1 + n) rest ∙ more

-- The first fault of what is left is that of the next case, or else of those behind it.
pub next_fault : (items : List Value) (i : ℕ) (x : Value) (fault all : Option (List ℕ)) → i < length items → x ≡ get_or items i x
    → fault ≡ case_fault (i + 1) (members_in (view x)) → list_fault (i + 1) (items_view (drop i items)) ≡ all
    → option_or fault (list_fault (i + 1 + 1) (items_view (drop (i + 1) items))) ≡ all
next_fault items i x fault all within at is so_far =
    ap (λ o. option_or o (list_fault (i + 1 + 1) (items_view (drop (i + 1) items)))) is
    ∙ sym (ap (list_fault (i + 1)) (next_left items i x within at)) ∙ so_far

-- one more case is tried
pub one_tried : (p : AbstractLoaded) (all : Items) (items : List Value) (i : ℕ) (x : Value) (c : AbstractCase) (came : AbstractCaseResult) (lines : List ℕ) (failed : ℕ) (reached : List ℕ)
    → i < length items → x ≡ get_or items i x → c ≡ case_in (members_in (view x)) → IsCaseResult p c came → Continues p (i + 1) (items_view (drop i items)) lines failed reached all
    → Continues p (i + 1 + 1) (items_view (drop (i + 1) items)) (lines ++ case_line (i + 1) c came.text) (failed + failures c came.text) (reached ++ came.reached) all
one_tried p all items i x c came lines failed reached within at is comes so_far rest others more h =
    let now : Continues p (i + 1) (item (view x) (items_view (drop (i + 1) items))) lines failed reached all = subst (λ (left : Items). Continues p (i + 1) left lines failed reached all) (next_left items i x within at) so_far in
    let line = case_line (i + 1) c came.text in
    let n = failures c came.text in
    let tried = now (line ++ rest) (n + others) (came.reached ++ more)
    (came, rest, others, more, subst (λ (k : AbstractCase). IsCaseResult p k came) is comes, h, ap (λ (k : AbstractCase). case_line (i + 1) k came.text ++ rest) is, ap (λ (k : AbstractCase). failures k came.text + others) is, refl) in
    let sum : (failed + n) + others ≡ failed + (n + others) = omega arith in
    rw (append_assoc lines line rest, sum, append_assoc reached came.reached more) tried

-- where none is left all are tried
pub all_tried : (p : AbstractLoaded) (number : ℕ) (all : Items) (lines : List ℕ) (failed : ℕ) (reached : List ℕ) → Continues p number no_items lines failed reached all → AreTried p 1 all lines failed reached
all_tried p number all lines failed reached so_far =
    let sum : failed + 0 ≡ failed = omega arith in
    rw (append-nil lines, sum, append-nil reached) at (so_far [] 0 [] (refl, refl, refl))

-- and before the first all are left
pub none_tried : (p : AbstractLoaded) (all : Items) → Continues p 1 all [] 0 [] all
none_tried p all rest others more h = let sum : 0 + others ≡ others = omega arith in rw sum h

pub few : (c : AbstractCase) (came : List ℕ) → failures c came ≤ 1
few c came = go (is_wanted c.verdict came)
  where
    go : (b : Bool) → cond b 0 1 ≤ 1
    go true = omega arith
    go false = omega arith
