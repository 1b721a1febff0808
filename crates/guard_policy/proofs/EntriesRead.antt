-- What is read of the entries of a document, one by one.
use Rattle.std.proofs.Common.{◌≡◌, ℕ, suc, ◌+◌, ◌<◌, List, [], ◌∷◌, ◌++◌, map, drop, length, get_or, Option, Some, None, IfSome, refl, ap, sym, ◌∙◌, append_assoc, add-one}
use Rattle.std.proofs.Math.Seq.{drop-cons, take-suc}
use Rattle.std.proofs.lemmas.List.Elements.{All-get_or}
use Rattle.std.proofs.Math.ListN.{get_or-map}
use Rattle.std.proofs.lemmas.List.{length-map}
use Rattle.std.proofs.lemmas.Option.{same_Some}
use Rattle.std.specs.Prelude.{IsTrue}
use Rattle.std.specs.Borrow.{Bor}
use Rattle.std.specs.BTreeMap.{BTreeMap}
use Rattle.std.specs.declared.alloc.Global.{Global}
use Rattle.std.proofs.Common.{String, All, take, subst, option_map, option_and_then}
use Rattle.toml.specs.View.{table_view}
use Rattle.toml.specs.declared.value.Value.{Value}
use Rattle.guard_model.specs.AbstractType.{AbstractType}
use Rattle.guard_model.specs.TypeView.{type_view}
use Rattle.guard_der.specs.Sound.{is_sound}
use Rattle.guard_tables.specs.Tables.{first_fault}
use Rattle.guard_policy.specs.declared.policy.Effect.{Effect}
use Rattle.guard_policy.specs.declared.said.SaidMessage.{SaidMessage}
use Rattle.guard_policy.specs.inside.Answers.{tables_view}
use Rattle.std.proofs.lemmas.List.{append-nil, map_push}
use Rattle.std.specs.Option.{option_or}
use Rattle.toml.specs.Data.{Members}
use Rattle.guard_policy.specs.declared.entry.Key.TheVariants.{Name, Effect as EffectKey}
use Rattle.guard_policy.specs.Documents.{text_of}
use Rattle.guard_der.specs.NamedTypes.{AbstractTypes}
use Rattle.guard_policy.specs.Entries.{before_all, those_there, message_of, message_in, rule_in, rule_of, type_in, effect_named}
use Rattle.guard_policy.specs.EntryFaults.{entries_fault, tables_fault}
use Rattle.guard_policy.specs.Consistency.{types_for}
use Rattle.guard_policy.specs.Policies.{AbstractMessage, AbstractRule}
use Rattle.guard_policy.specs.SaidView.{said_message_view}
use Rattle.guard_policy.specs.PolicyFaults.{AbstractFault, bad_table}

-- what is left of a list begins with the item at its place
pub left_is : {A B : Type 0} (f : A → B) (xs : List A) (i : ℕ) (x : A) → i < length xs → x ≡ get_or xs i x
    → map f (drop i xs) ≡ f x ∷ map f (drop (i + 1) xs)
left_is {A} f xs i x lt is =
    ap (map f) (drop-cons xs i x lt) ∙ ap (λ (y : A). f y ∷ map f (drop (suc i) xs)) (sym is) ∙ ap (λ n. f x ∷ map f (drop n xs)) (sym (add-one i))

abbrev pub FaultOf : Type 0
FaultOf = List (List ℕ) → ℕ → Members → Option AbstractFault

-- The entries before this number have no fault and say what was made; what is left is looked at next.
pub record Read {A : Type 0} (fault : FaultOf) (said : Members → Option A) (name_of : A → List ℕ) (all left : List Members) (number : ℕ) (made : List A) : Type 0 where
  pub faults : entries_fault fault (map name_of made) number left ≡ entries_fault fault [] 1 all
  pub said_all : made ++ those_there (map said left) ≡ those_there (map said all)

pub read_start : {A : Type 0} (fault : FaultOf) (said : Members → Option A) (name_of : A → List ℕ) (all : List Members) → Read fault said name_of all all 1 []
read_start fault said name_of all = record { faults = refl; said_all = refl }

pub read_one : {A : Type 0} (fault : FaultOf) (said : Members → Option A) (name_of : A → List ℕ) (all left : List Members) (number : ℕ) (made : List A) (entry : Members) (a : A)
    → fault (map name_of made) number entry ≡ None → said entry ≡ Some a → text_of Name entry ≡ name_of a
    → Read fault said name_of all (entry ∷ left) number made → Read fault said name_of all left (number + 1) (made ++ a ∷ [])
read_one {A} fault said name_of all left number made entry a none is name r = record {
  faults = ap (λ (names : List (List ℕ)). entries_fault fault names (number + 1) left) (map_push name_of made a)
      ∙ ap (λ n. entries_fault fault (map name_of made ++ name_of a ∷ []) n left) (add-one number)
      ∙ ap (λ (text : List ℕ). entries_fault fault (map name_of made ++ text ∷ []) (suc number) left) (sym name)
      ∙ ap (λ (first : Option AbstractFault). option_or first (entries_fault fault (map name_of made ++ text_of Name entry ∷ []) (suc number) left)) (sym none)
      ∙ r.faults;
  said_all = append_assoc made (a ∷ []) (those_there (map said left))
      ∙ ap (λ (first : Option A). made ++ before_all first (those_there (map said left))) (sym is) ∙ r.said_all;
}

-- the first fault of all is that of the entry
pub read_fault : {A : Type 0} (fault : FaultOf) (said : Members → Option A) (name_of : A → List ℕ) (all left : List Members) (number : ℕ) (made : List A) (entry : Members)
    (f : Option AbstractFault) → IfSome f (λ x. fault (map name_of made) number entry ≡ Some x)
    → Read fault said name_of all (entry ∷ left) number made → IfSome f (λ x. entries_fault fault [] 1 all ≡ Some x)
read_fault fault said name_of all left number made entry None is r = tt
read_fault fault said name_of all left number made entry (Some x) is r =
    sym r.faults ∙ ap (λ (first : Option AbstractFault). option_or first (entries_fault fault (map name_of made ++ text_of Name entry ∷ []) (suc number) left)) is

pub read_all_faults : {A : Type 0} (fault : FaultOf) (said : Members → Option A) (name_of : A → List ℕ) (all : List Members) (number : ℕ) (made : List A)
    → Read fault said name_of all [] number made → entries_fault fault [] 1 all ≡ None
read_all_faults fault said name_of all number made r = sym r.faults

pub read_all_said : {A : Type 0} (fault : FaultOf) (said : Members → Option A) (name_of : A → List ℕ) (all : List Members) (number : ℕ) (made : List A)
    → Read fault said name_of all [] number made → made ≡ those_there (map said all)
read_all_said fault said name_of all number made r = sym (append-nil made) ∙ r.said_all

pub tables_left : (tables : List (Bor (BTreeMap (String Global) Value))) (i : ℕ) (t : Bor (BTreeMap (String Global) Value)) → i < length tables → t ≡ get_or tables i t
    → tables_view (drop i tables) ≡ table_view t.now ∷ tables_view (drop (i + 1) tables)
tables_left tables i t lt is = left_is (λ (x : Bor (BTreeMap (String Global) Value)). table_view x.now) tables i t lt is

-- what was taken of a list, with the item at the next place
pub taken_is : {A B : Type 0} (f : A → B) (xs : List A) (i : ℕ) (x : A) → i < length xs → x ≡ get_or xs i x
    → map f (take (i + 1) xs) ≡ map f (take i xs) ++ f x ∷ []
taken_is {A} f xs i x lt is =
    ap (λ n. map f (take n xs)) (add-one i) ∙ ap (map f) (take-suc xs i x lt) ∙ map_push f (take i xs) (get_or xs i x)
    ∙ ap (λ (y : A). map f (take i xs) ++ f y ∷ []) (sym is)

pub sound_at : (messages : List SaidMessage) (i : ℕ) (m : SaidMessage) → i < length messages → m ≡ get_or messages i m
    → All (λ x. IsTrue (is_sound x.ty)) (map said_message_view messages) → IsTrue (is_sound (type_view m.ty.now))
sound_at messages i m lt is sound =
    let P : AbstractMessage → Type 0 = λ x. IsTrue (is_sound x.ty) in
    subst P (get_or-map said_message_view messages i m ∙ ap said_message_view (sym is)) (All-get_or P (map said_message_view messages) i (said_message_view m) (rw (length-map messages said_message_view) lt) sound)

-- ---- the name of what an entry says

named_message : (entry : Members) (o : Option AbstractType) (m : AbstractMessage) → option_map (message_of entry) o ≡ Some m → text_of Name entry ≡ m.name
named_message entry None m e = absurd cc
named_message entry (Some t) m e = ap (λ (x : AbstractMessage). x.name) (same_Some _ _ e)

pub name_of_message : (s : AbstractTypes) (entry : Members) (m : AbstractMessage) → message_in s entry ≡ Some m → text_of Name entry ≡ m.name
name_of_message s entry m e = named_message entry (type_in s entry) m e

named_effect : (entry : Members) (t : AbstractType) (o : Option Effect) (r : AbstractRule) → option_map (rule_of entry t) o ≡ Some r → text_of Name entry ≡ r.name
named_effect entry t None r e = absurd cc
named_effect entry t (Some effect) r e = ap (λ (x : AbstractRule). x.name) (same_Some _ _ e)

named_rule : (entry : Members) (o : Option AbstractType) (effect : Option Effect) (r : AbstractRule) → option_and_then (λ t. option_map (rule_of entry t) effect) o ≡ Some r → text_of Name entry ≡ r.name
named_rule entry None effect r e = absurd cc
named_rule entry (Some t) effect r e = named_effect entry t effect r e

pub name_of_rule : (s : AbstractTypes) (entry : Members) (r : AbstractRule) → rule_in s entry ≡ Some r → text_of Name entry ≡ r.name
name_of_rule s entry r e = named_rule entry (type_in s entry) (effect_named (text_of EffectKey entry)) r e

-- ---- tables, message by message

pub tables_one : (rules : List AbstractRule) (left rest : List AbstractMessage) (m : AbstractMessage) (n : ℕ) (all : Option AbstractFault) → left ≡ m ∷ rest
    → option_map (bad_table n) (first_fault m.ty (types_for m.name rules)) ≡ None → tables_fault rules n left ≡ all → tables_fault rules (n + 1) rest ≡ all
tables_one rules left rest m n all is none h =
    ap (λ k. tables_fault rules k rest) (add-one n) ∙ ap (λ (o : Option AbstractFault). option_or o (tables_fault rules (suc n) rest)) (sym none)
    ∙ ap (tables_fault rules n) (sym is) ∙ h

pub tables_here : (rules : List AbstractRule) (left rest : List AbstractMessage) (m : AbstractMessage) (n : ℕ) (all f : Option AbstractFault) → left ≡ m ∷ rest
    → IfSome f (λ x. option_map (bad_table n) (first_fault m.ty (types_for m.name rules)) ≡ Some x) → tables_fault rules n left ≡ all → IfSome f (λ x. all ≡ Some x)
tables_here rules left rest m n all None is here h = tt
tables_here rules left rest m n all (Some x) is here h =
    sym h ∙ ap (tables_fault rules n) is ∙ ap (λ (o : Option AbstractFault). option_or o (tables_fault rules (suc n) rest)) here
