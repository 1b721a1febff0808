-- The numbers of those items that a constraint has, as sets.
use Rattle.std.proofs.Common.{◌≡◌, ℕ, zero, suc, ◌<◌, ℤ, Bool, true, false, ◌&&◌, IsTrue, List, [], ◌∷◌, ◌++◌, map, length, get_or, refl, sym, ap, ◌∙◌, arith}
use Rattle.std.specs.Prelude.{◌||◌, int_le}
use mir.Syntax.{w128}
use mir.Val.{SFits, to_z, of_z}
use Rattle.std.specs.Ordering.{int_eq}
use Rattle.std.proofs.lemmas.Bool.Decides.{Decides-int_eq}
use Rattle.std.proofs.lemmas.Bool.{false≢true}
use Rattle.std.proofs.Math.Bool.{or-true}
use Rattle.std.proofs.lemmas.Int.{ints, to_z-of_z}
use Rattle.std.specs.Arc.{arc_value}
use Rattle.std.specs.Global.{Global}
use Rattle.std.specs.declared.sync.Arc.{Arc}
use Rattle.guard_integers.specs.Integers as integers
use Rattle.guard_integers.specs.Integers.{Integers, some_holds}
use Rattle.guard_model.specs.AbstractType as type
use Rattle.guard_model.specs.AbstractType.{AbstractType, AbstractKind, Constraint, Element, NamedNumber}
use Rattle.guard_model.specs.AbstractValue as value
use Rattle.guard_model.specs.Limits.{fits_128_bits}
use Rattle.guard_model.specs.TypeView.{OneComponent, OnePart, kind_view, named_view, kind_step, rule_step, comp_step, cons_step, part_step, ty_step}
use Rattle.guard_model.specs.declared.ty.Kind.{Kind, Int, Enumerated}
use Rattle.guard_model.specs.declared.ty.Kind.TheFolds.{fold-roll-Kind}
use Rattle.guard_model.specs.declared.ty.Kind.TheOpen.{Kind-F}
use Rattle.guard_model.specs.declared.ty.Kind.TheVariants.{rolls-Int, rolls-Enumerated}
use Rattle.guard_model.specs.declared.ty.Named.{Named}
use Rattle.guard_der.specs.Fits.{fits_kind}
use Rattle.guard_model.specs.NamedLists.{is_item}
use Rattle.guard_tables.specs.NodeViews.{unnamed}
use Rattle.guard_eval.proofs.WholeSets.{one_set_more}

meets_ends : (n z : ℤ) → z ≡ n → (int_le n z && int_le z n) ≡ true
meets_ends n z e = grind (arith, ints)

misses_ends : (n z : ℤ) → (z ≡ n → ⊥) → (int_le n z && int_le z n) ≡ false
misses_ends n z e = grind (arith, ints)

or_no : (b : Bool) → (b || false) ≡ b
or_no true = refl
or_no false = refl

and_no : (b : Bool) → (b && false) ≡ false
and_no true = refl
and_no false = refl

and_yes : (b : Bool) → (b && true) ≡ b
and_yes true = refl
and_yes false = refl

none_left : (f p : Bool) → false ≡ ((f && false) && p)
none_left true p = refl
none_left false p = refl

-- the number of one item that is allowed
alone : (n z : ℤ) (allowed : ℤ → Bool) → allowed n ≡ true → (b : Bool) → int_eq z n ≡ b
    → (fits_128_bits z && (int_le n z && int_le z n)) ≡ ((fits_128_bits z && int_eq z n) && allowed z)
alone n z allowed has true e =
    let same : z ≡ n = (Decides-int_eq z n).0 e in
    ap (λ (x : Bool). fits_128_bits z && x) (meets_ends n z same ∙ sym e)
    ∙ sym (and_yes (fits_128_bits z && int_eq z n)) ∙ ap (λ (x : Bool). (fits_128_bits z && int_eq z n) && x) (sym (ap allowed same ∙ has))
alone n z allowed has false e =
    ap (λ (x : Bool). fits_128_bits z && x) (misses_ends n z (λ same. false≢true (sym e ∙ (Decides-int_eq z n).1 same)))
    ∙ and_no (fits_128_bits z) ∙ none_left (fits_128_bits z) (allowed z) ∙ ap (λ (x : Bool). (fits_128_bits z && x) && allowed z) (sym e)

pub one_added : (sets : List Integers) (set : Integers) (n z : ℤ) (allowed : ℤ → Bool) → allowed n ≡ true → integers.holds set z ≡ (fits_128_bits z && (int_le n z && int_le z n))
    → some_holds (sets ++ set ∷ []) z ≡ (some_holds sets z || ((fits_128_bits z && int_eq z n) && allowed z))
one_added sets set n z allowed has is =
    one_set_more sets set z ∙ ap (λ (b : Bool). some_holds sets z || b) (is ∙ alone n z allowed has (int_eq z n) refl)

gone : (f a : Bool) → a ≡ false → ((f && true) && a) ≡ false
gone f a e = rw e (and_no (f && true))

-- one that isn't allowed
nowhere : (n z : ℤ) (allowed : ℤ → Bool) → allowed n ≡ false → (b : Bool) → int_eq z n ≡ b
    → ((fits_128_bits z && int_eq z n) && allowed z) ≡ false
nowhere n z allowed has true e =
    ap (λ (x : Bool). (fits_128_bits z && x) && allowed z) e
    ∙ gone (fits_128_bits z) (allowed z) (ap allowed ((Decides-int_eq z n).0 e) ∙ has)
nowhere n z allowed has false e = ap (λ (x : Bool). (fits_128_bits z && x) && allowed z) e
    ∙ sym (none_left (fits_128_bits z) (allowed z))

pub none_added : (sets : List Integers) (n z : ℤ) (allowed : ℤ → Bool) → allowed n ≡ false
    → some_holds sets z ≡ (some_holds sets z || ((fits_128_bits z && int_eq z n) && allowed z))
none_added sets n z allowed has = sym (or_no (some_holds sets z))
    ∙ ap (λ (b : Bool). some_holds sets z || b) (sym (nowhere n z allowed has (int_eq z n) refl))

-- ---- items are values of their kind

is_item_at : (items : List Named) (i : ℕ) (d : Named) → i < length items → is_item (get_or items i d).number (map named_view items) ≡ true
is_item_at [] i d lt = absurd (omega (arith, lt))
is_item_at (n ∷ items) zero d lt = ap (λ (b : Bool). b || is_item n.number (map named_view items)) ((Decides-int_eq n.number n.number).1 refl)
is_item_at (n ∷ items) (suc i) d lt =
    ap (λ (b : Bool). int_eq (get_or items i d).number n.number || b) (is_item_at items i d (omega (arith, lt))) ∙ or-true (int_eq (get_or items i d).number n.number)

fits : (n : ℤ) → SFits w128 n → fits_128_bits n ≡ true
fits n h = grind (arith, ints)

-- the number of an item, as it is passed on
pub item_fits : (kind : AbstractKind) (items : List Named) (i : ℕ) (item : Named) → i < length items → item ≡ get_or items i item → SFits w128 item.number
    → kind ≡ type.enumerated (map named_view items) → IsTrue (fits_kind kind (value.enumerated (to_z w128 (of_z w128 item.number))))
item_fits kind items i item lt is fit enumerated =
    let there : is_item item.number (map named_view items) ≡ true = ap (λ (n : Named). is_item n.number (map named_view items)) is ∙ is_item_at items i item lt in
    let whole : (fits_128_bits item.number && is_item item.number (map named_view items)) ≡ true = rw (fits item.number fit, there) refl in
    rw (to_z-of_z w128 item.number fit, enumerated) whole

-- ---- one level of what a kind stands for

pub integer_view : (kind : Kind) (names : Arc (List NamedNumber) Global) → kind ≡ Int names
    → kind_view kind ≡ type.integer (arc_value names)
integer_view kind names is =
    ap kind_view is ∙ ap kind_view (sym (rolls-Int names))
    ∙ fold-roll-Kind AbstractKind Element OneComponent Constraint OnePart AbstractType kind_step rule_step
    comp_step cons_step part_step ty_step (Kind-F.Int names)

pub enumerated_view : (names : Arc (List NamedNumber) Global) → kind_view (Enumerated names) ≡ type.enumerated (arc_value names)
enumerated_view names = ap kind_view (sym (rolls-Enumerated names))
    ∙ fold-roll-Kind AbstractKind Element OneComponent Constraint OnePart AbstractType kind_step rule_step
    comp_step cons_step part_step ty_step (Kind-F.Enumerated names)

-- ---- items as a node keeps them

-- names don't count
pub nameless_item : (z : ℤ) (names : List NamedNumber) → is_item z names ≡ is_item z (map unnamed (map (λ n. n.number) names))
nameless_item z [] = refl
nameless_item z (n ∷ names) = ap (λ (b : Bool). int_eq z n.number || b) (nameless_item z names)
