-- What is written step by step: levels of indentation, characters in quotes and in lists.
use Rattle.std.proofs.Common.{◌≡◌, ℕ, suc, ◌+◌, ◌-◌, ◌<◌, Bool, true, false, cond, List, [], ◌∷◌, ◌++◌, length, drop}
use Rattle.std.proofs.Common.{get_or, flat_map, Option, Result, Ok, Err, refl, sym, ap, ◌∙◌, append_assoc, not, ◌&&◌}
use Rattle.std.proofs.Common.{arith}
use Rattle.std.specs.Prelude.{OnOk}
use Rattle.std.specs.List.{list_all}
use Rattle.std.proofs.lemmas.List.{at_drop_more, drop_all, append-nil}
use Rattle.guard_model.specs.declared.ty.CharKind.{CharKind}
use Rattle.guard_report.specs.declared.characters.Last.{Last}
use Rattle.guard_report.specs.declared.characters.Last.TheVariants.{Nothing, Run, Numbers}
use Rattle.guard_report.specs.Layouts.{spaces}
use Rattle.guard_report.specs.CharacterStrings.{Piece, run, hidden, is_hidden, as_quoted, numbers_of, pieces_of}
use Rattle.guard_report.specs.CharacterStrings.{before_pieces}
use Rattle.guard_report.specs.inside.Listing.{end_of, end_of_list, opening, listed, last_of, rest_of, still_to_come}

-- ---- what is appended step by step

pub step_on : (old new one rest rest₁ all : List ℕ) → new ≡ old ++ one → rest ≡ one ++ rest₁ → old ++ rest ≡ all → new ++ rest₁ ≡ all
step_on old new one rest rest₁ all is split so_far =
    ap (λ (xs : List ℕ). xs ++ rest₁) is ∙ append_assoc old one rest₁ ∙ ap (λ (xs : List ℕ). old ++ xs) (sym split) ∙ so_far

-- ---- indentation

pub one_level : (level i : ℕ) → i < level → spaces (level - i) ≡ 32 ∷ 32 ∷ spaces (level - (i + 1))
one_level level i lt =
    let e : level - i ≡ suc (level - (i + 1)) = omega (arith, lt) in
    ap spaces e

-- ---- in quotes

pub next_quoted : (cs : List ℕ) (n c : ℕ) → (n < length cs) × (c ≡ get_or cs n c) → flat_map as_quoted (drop n cs) ≡ as_quoted c ++ flat_map as_quoted (drop (n + 1) cs)
next_quoted cs n c h =
    at_drop_more (flat_map as_quoted) cs n c h.0 ∙ ap (λ (x : ℕ). as_quoted x ++ flat_map as_quoted (drop (n + 1) cs)) (sym h.1)

pub next_seen : (cs : List ℕ) (n c : ℕ) → (n < length cs) × (c ≡ get_or cs n c)
    → list_all (λ code. not (is_hidden code)) (drop n cs) ≡ (not (is_hidden c) && list_all (λ code. not (is_hidden code)) (drop (n + 1) cs))
next_seen cs n c h =
    at_drop_more (list_all (λ code. not (is_hidden code))) cs n c h.0
    ∙ ap (λ (x : ℕ). not (is_hidden x) && list_all (λ code. not (is_hidden code)) (drop (n + 1) cs)) (sym h.1)

pub none_left : (cs : List ℕ) (n : ℕ) (w : Bool) → n ≡ length cs → list_all (λ code. not (is_hidden code)) (drop n cs) ≡ w → true ≡ w
none_left cs n w all e = rw (drop_all n cs (omega (arith, all))) at e

-- ---- in a list

run_on : (q w r : List ℕ) → ((q ++ w) ++ 34 ∷ []) ++ r ≡ q ++ ((w ++ 34 ∷ []) ++ r)
run_on q w r = ap (λ (xs : List ℕ). xs ++ r) (append_assoc q w (34 ∷ [])) ∙ append_assoc q (w ++ 34 ∷ []) r

after_seen : (kind : Option CharKind) (last : Last) (code : ℕ) (pieces : List Piece)
    → rest_of kind last (before_pieces code pieces) ≡ (opening last ++ as_quoted code) ++ rest_of kind Run pieces
after_seen kind Nothing code [] = ap (λ (xs : List ℕ). 34 ∷ xs) (run_on (as_quoted code) [] _)
after_seen kind Nothing code (run cs ∷ ps) = ap (λ (xs : List ℕ). 34 ∷ xs) (run_on (as_quoted code) (flat_map as_quoted cs) _)
after_seen kind Nothing code (hidden other ∷ ps) = ap (λ (xs : List ℕ). 34 ∷ xs) (run_on (as_quoted code) [] _)
after_seen kind Run code [] = run_on (as_quoted code) [] _
after_seen kind Run code (run cs ∷ ps) = run_on (as_quoted code) (flat_map as_quoted cs) _
after_seen kind Run code (hidden other ∷ ps) = run_on (as_quoted code) [] _
after_seen kind Numbers code [] = ap (λ (xs : List ℕ). 44 ∷ 32 ∷ 34 ∷ xs) (run_on (as_quoted code) [] _)
after_seen kind Numbers code (run cs ∷ ps) = ap (λ (xs : List ℕ). 44 ∷ 32 ∷ 34 ∷ xs) (run_on (as_quoted code) (flat_map as_quoted cs) _)
after_seen kind Numbers code (hidden other ∷ ps) = ap (λ (xs : List ℕ). 44 ∷ 32 ∷ 34 ∷ xs) (run_on (as_quoted code) [] _)

after_hidden : (kind : Option CharKind) (last : Last) (code : ℕ) (pieces : List Piece)
    → rest_of kind last (hidden code ∷ pieces) ≡ (end_of last ++ numbers_of kind code) ++ rest_of kind Numbers pieces
after_hidden kind Nothing code pieces = refl
after_hidden kind Run code pieces = refl
after_hidden kind Numbers code pieces = refl

after_either : (kind : Option CharKind) (last : Last) (code : ℕ) (pieces : List Piece) (is_hid : Bool)
    → rest_of kind last (cond is_hid (hidden code ∷ pieces) (before_pieces code pieces))
    ≡ cond is_hid (end_of last ++ numbers_of kind code) (opening last ++ as_quoted code) ++ rest_of kind (cond is_hid Numbers Run) pieces
after_either kind last code pieces true = after_hidden kind last code pieces
after_either kind last code pieces false = after_seen kind last code pieces

one_listed : (kind : Option CharKind) (last : Last) (code : ℕ) (cs : List ℕ)
    → still_to_come kind last (code ∷ cs) ≡ listed kind last code ++ still_to_come kind (last_of code) cs
one_listed kind last code cs = after_either kind last code (pieces_of cs) (is_hidden code)

pub next_listed : (kind : Option CharKind) (last : Last) (cs : List ℕ) (n c : ℕ) → (n < length cs) × (c ≡ get_or cs n c)
    → still_to_come kind last (drop n cs) ≡ listed kind last c ++ still_to_come kind (last_of c) (drop (n + 1) cs)
next_listed kind last cs n c h =
    at_drop_more (still_to_come kind last) cs n c h.0
    ∙ ap (λ (x : ℕ). still_to_come kind last (x ∷ drop (n + 1) cs)) (sym h.1)
    ∙ one_listed kind last c (drop (n + 1) cs)

nothing_to_come : (kind : Option CharKind) (last : Last) → still_to_come kind last [] ≡ end_of_list last
nothing_to_come kind Nothing = refl
nothing_to_come kind Run = refl
nothing_to_come kind Numbers = refl

-- ---- at the end

pub on_ok_also : {T E P Q : Type 0} (r : Result T E) → (P → Q) → OnOk r P → OnOk r Q
on_ok_also (Ok x) f p = f p
on_ok_also (Err e) f p = tt

pub all_quoted : (old begun text new cs : List ℕ) (n : ℕ) → begun ≡ old ++ 34 ∷ [] → n ≡ length cs
    → text ++ flat_map as_quoted (drop n cs) ≡ begun ++ flat_map as_quoted cs → new ≡ text ++ 34 ∷ []
    → new ≡ old ++ 34 ∷ (flat_map as_quoted cs ++ 34 ∷ [])
all_quoted old begun text new cs n first all so_far last =
    let none : drop n cs ≡ [] = drop_all n cs (omega (arith, all)) in
    let q = flat_map as_quoted cs in
    let whole : text ≡ begun ++ q = sym (append-nil text) ∙ ap (λ (xs : List ℕ). text ++ flat_map as_quoted xs) (sym none) ∙ so_far in
    last ∙ ap (λ (xs : List ℕ). xs ++ 34 ∷ []) (whole ∙ ap (λ (xs : List ℕ). xs ++ q) first ∙ append_assoc old (34 ∷ []) q)
    ∙ append_assoc old (34 ∷ q) (34 ∷ [])

pub all_listed : (kind : Option CharKind) (last : Last) (old begun text new cs : List ℕ) (n : ℕ) → begun ≡ old ++ 123 ∷ [] → n ≡ length cs
    → text ++ still_to_come kind last (drop n cs) ≡ begun ++ still_to_come kind Nothing cs → new ≡ text ++ end_of_list last
    → new ≡ old ++ 123 ∷ still_to_come kind Nothing cs
all_listed kind last old begun text new cs n first all so_far ended =
    let none : drop n cs ≡ [] = drop_all n cs (omega (arith, all)) in
    let s = still_to_come kind Nothing cs in
    ended ∙ ap (λ (xs : List ℕ). text ++ xs) (sym (nothing_to_come kind last) ∙ ap (still_to_come kind last) (sym none))
    ∙ so_far ∙ ap (λ (xs : List ℕ). xs ++ s) first ∙ append_assoc old (123 ∷ []) s
