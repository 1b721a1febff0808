-- What is asked of a value that has parts, as a whole.
use Rattle.std.proofs.Common.{◌≡◌, ℕ, ◌+◌, ltb, List, length, Option, Some, None, Result, Ok, Err, refl, sym, ap, ◌∙◌}
use Rattle.std.specs.Prelude.{option_map}
use Rattle.guard_model.specs.AbstractType as type
use Rattle.guard_model.specs.AbstractType.{AbstractType, AbstractKind, Components}
use Rattle.guard_model.specs.AbstractValue as value
use Rattle.guard_model.specs.AbstractValue.{AbstractValue, Fields, Items}
use Rattle.guard_model.specs.Counts.{item_count}
use Rattle.guard_model.specs.Answer as answer
use Rattle.guard_model.proofs.Results.{same_Ok, bind_ok, guard_ok}
use Rattle.guard_tagcheck.specs.FirstTags.{one_begins_with}
use Rattle.std.proofs.lemmas.Option.{same_Some}
use Rattle.guard_der.specs.Breach.{AbstractBreach}
use Rattle.guard_der.specs.Der.{contents_octets}
use Rattle.guard_der.specs.declared.breach.Code.TheVariants as code
use Rattle.guard_der.specs.Head.{Head}
use Rattle.guard_der.specs.Reading as read
use Rattle.guard_der.specs.Reading.{fields_read, items_read, due_at, fault, contents_at, part_at}
use Rattle.guard_tables.specs.declared.slots.Slots.{Slots}
use Rattle.guard_tables.specs.Marking.{Facts, facts, facts_of, conditions_marked, marked}
use Rattle.guard_tables.specs.Plan.{AbstractCondition, Body, asked}
use Rattle.guard_reader.specs.Judging.{then_marked, whole_facts, size_in}
use Rattle.guard_reader.specs.Octets.{ok}
use Rattle.guard_reader.proofs.Choices.{picked, chosen_read}

pub asked_read : (cs : List AbstractCondition) (b : Body) (kind : AbstractKind) (os : List ℕ) (m : Slots) (r : Result AbstractValue AbstractBreach) (a : Option Slots)
    → ((v : AbstractValue) → r ≡ Ok v → facts_of kind v ≡ whole_facts (size_in b os) os) → a ≡ option_map (λ v. marked kind b v m) (ok r)
    → then_marked cs (whole_facts (size_in b os) os) a ≡ option_map (λ v. marked kind (asked cs b) v m) (ok r)
unfolding marked
asked_read cs b kind os m (Err breach) a known e = ap (then_marked cs (whole_facts (size_in b os) os)) e
asked_read cs b kind os m (Ok v) a known e =
    ap (then_marked cs (whole_facts (size_in b os) os)) e ∙ ap (λ (f : Facts). Some (conditions_marked cs f (marked kind b v m))) (sym (known v refl))

pub fields_known : (kind : AbstractKind) (os : List ℕ) (r : Result Fields AbstractBreach) (v : AbstractValue) → contents_octets kind v ≡ Some os → fields_read r ≡ Ok v → facts_of kind v ≡ whole_facts None os
fields_known kind os (Err b) v spelled e = absurd cc
fields_known kind os (Ok fs) v spelled e =
    let is : value.fields fs ≡ v = same_Ok {F = AbstractBreach} (value.fields fs) v e in
    ap (facts_of kind) (sym is) ∙ ap (λ (x : Option (List ℕ)). facts (value.fields fs) x) (ap (contents_octets kind) is ∙ spelled)

pub items_known : (kind : AbstractKind) (n : ℕ) (os : List ℕ) (r : Result Items AbstractBreach) (v : AbstractValue) → ((vs : Items) → r ≡ Ok vs → item_count vs ≡ n) → contents_octets kind v ≡ Some os → items_read r ≡ Ok v
    → facts_of kind v ≡ whole_facts (Some n) os
items_known kind n os (Err b) v count spelled e = absurd cc
items_known kind n os (Ok vs) v count spelled e =
    let is : value.items vs ≡ v = same_Ok {F = AbstractBreach} (value.items vs) v e in
    ap (facts_of kind) (sym is)
    ∙ ap (λ (x : Option (List ℕ)). facts (value.items vs) x) (ap (contents_octets kind) is ∙ spelled)
    ∙ ap (λ (n : ℕ). whole_facts (Some n) os) (count vs refl)

chosen_known : (cs : Components) (os : List ℕ) (x : Option (ℕ × AbstractValue)) (r : Result AbstractValue AbstractBreach) (v : AbstractValue) → ok r ≡ option_map (λ (x : ℕ × AbstractValue). value.chosen x.0 x.1) x
    → contents_octets (type.choice cs) v ≡ Some os → r ≡ Ok v → facts_of (type.choice cs) v ≡ whole_facts None os
chosen_known cs os None r v is spelled e = let none : ◌≡◌ {A = Option AbstractValue} (Some v) None = sym (ap ok e) ∙ is in absurd cc
chosen_known cs os (Some x) r v is spelled e =
    let one : v ≡ value.chosen x.0 x.1 = same_Some v (value.chosen x.0 x.1) (sym (ap ok e) ∙ is) in
    ap (facts_of (type.choice cs)) one
    ∙ ap (λ (x2 : Option (List ℕ)). facts (value.chosen x.0 x.1) x2) (ap (contents_octets (type.choice cs)) (sym one) ∙ spelled)

pub choice_known : (cs : Components) (at start : ℕ) (os : List ℕ) (v : AbstractValue) → contents_octets (type.choice cs) v ≡ Some os → contents_at (type.choice cs) at start os ≡ Ok v → facts_of (type.choice cs) v ≡ whole_facts None os
unfolding contents_at read.alone_at
choice_known cs at start os v spelled e =
    let reader : Head → Result AbstractValue AbstractBreach = λ h. read.chosen_at cs (part_at cs) start h os in
    let a = bind_ok (due_at (λ tag. one_begins_with cs tag) start os) (λ h. answer.◌>>=◌ (reader h) (λ v. read.ended start h os v)) v e in
    let b = bind_ok (reader a.0) (λ v. read.ended start a.0 os v) v a.2 in
    let c = guard_ok (ltb (a.0.size + a.0.contents) (length os)) (fault code.TrailingOctets (start + (a.0.size + a.0.contents))) (Ok b.0) v b.2 in
    let same : b.0 ≡ v = same_Ok {F = AbstractBreach} b.0 v c.1 in
    chosen_known cs os (picked cs start a.0 os) (reader a.0) v (chosen_read cs start a.0 os) spelled (b.1 ∙ ap (λ (v : AbstractValue). Ok v) same)
