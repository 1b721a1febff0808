-- Strings of which one pass tells both that they are lawful and that nothing fails.
use Rattle.std.proofs.Common.{◌≡◌, ℕ, ◌<◌, ◌≤◌, Bool, true, cond, List, [], ◌∷◌, ◌&&◌, length, get_or, Some, None, refl, sym, ap, ap₂, ◌∙◌, arith}
use Rattle.std.proofs.lemmas.Bool.{and_parts}
use Rattle.std.specs.List.{list_all}
use Rattle.guard_model.specs.AbstractType as type
use Rattle.guard_model.specs.AbstractValue as value
use Rattle.guard_model.specs.Alphabets.{is_character, all_characters}
use Rattle.guard_model.specs.declared.ty.CharKind.{CharKind}
use Rattle.guard_der.specs.declared.breach.Code.TheVariants as code
use Rattle.guard_der.specs.Simple.{characters_of, is_text}
use Rattle.guard_eval.specs.Elements.{is_in_some}
use Rattle.guard_tables.specs.declared.slots.Slots.{Slots}
use Rattle.guard_tables.specs.Formulas.{failed_unless}
use Rattle.guard_tables.specs.Marking.{facts, conditions_marked}
use Rattle.guard_tables.specs.Plan.{AbstractCondition, simple, spelled}
use Rattle.guard_reader.specs.Judging.{contents_judged, unless_fault}
use Rattle.guard_reader.specs.inside.AtOnce.{PassesAtOnce}

-- each is a character of the kind
all_of_kind : (kind : CharKind) (p : ℕ → Bool) → ((c : ℕ) → p c ≡ true → is_character kind c ≡ true) → (os : List ℕ) → list_all p os ≡ true → all_characters kind os ≡ true
all_of_kind kind p each [] e = refl
all_of_kind kind p each (o ∷ os) e =
    let both = and_parts (p o) (list_all p os) e in
    ap₂ (λ (a b : Bool). a && b) (each o both.0) (all_of_kind kind p each os both.1)

pub lies_in : (kind : CharKind) (rs : List (ℕ × ℕ)) (os : List ℕ) (b : Bool) → (is_text kind os ≡ all_characters kind os) × (characters_of kind os ≡ os)
    → ((c : ℕ) → is_in_some rs c ≡ true → is_character kind c ≡ true) → b ≡ list_all (is_in_some rs) os → b ≡ true → PassesAtOnce (spelled (is_in_some rs)) kind os
lies_in kind rs os b plain each e t = record {
  lawful = plain.0 ∙ all_of_kind kind (is_in_some rs) each os (sym e ∙ t);
  passes = ap (list_all (is_in_some rs)) plain.1 ∙ sym e ∙ t;
}

pub only_one : (kind : CharKind) (os : List ℕ) (c : AbstractCondition) (m : Slots) → PassesAtOnce c.test kind os → contents_judged (simple (type.characters kind) (c ∷ [])) os m ≡ Some m
unfolding contents_judged
only_one kind os c m h =
    ap (λ (b : Bool). unless_fault (cond b None (Some code.Characters)) (conditions_marked (c ∷ []) (facts (value.characters (characters_of kind os)) (Some os)) m)) h.lawful
    ∙ ap (λ (b : Bool). Some (failed_unless b c.slots m)) h.passes

-- a list of one
pub alone : {A : Type 0} (xs : List A) (x : A) → 1 ≤ length xs → length xs < 2 → x ≡ get_or xs 0 x → xs ≡ x ∷ []
alone [] x a b e = absurd (omega arith)
alone (y ∷ []) x a b e = ap (λ z. z ∷ []) (sym e)
alone (y ∷ z ∷ xs) x a b e = absurd (omega arith)
