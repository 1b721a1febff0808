-- The chosen alternative of a CHOICE, with a tag round it and without.
use Rattle.std.proofs.Common.{◌≡◌, ℕ, suc, ◌+◌, Bool, true, false, ltb, List, [], ◌∷◌, length, drop, Option, Some, None, Result, Ok, Err, cond, refl, sym, ap, subst, ◌∙◌, arith, inl, inr, length-drop}
use Rattle.std.specs.Prelude.{◌⊎◌, ◌||◌, option_map}
use Rattle.std.proofs.lemmas.Bool.{cond-true, cond-false, lt-ltb, le-ltb}
use Rattle.guard_model.specs.Answer as answer
use Rattle.guard_model.specs.declared.tag.Tag.{Tag}
use Rattle.guard_model.specs.declared.site.Step.TheVariants.{Component}
use Rattle.guard_model.specs.AbstractType as type
use Rattle.guard_model.specs.AbstractType.{AbstractType, AbstractKind, AbstractPresence, Components, type_of, no_components, component}
use Rattle.guard_model.specs.AbstractValue as value
use Rattle.guard_model.specs.AbstractValue.{AbstractValue}
use Rattle.guard_tagcheck.specs.FirstTags.{begins_with, one_begins_with}
use Rattle.guard_der.specs.declared.breach.Code.{Code}
use Rattle.guard_der.specs.declared.breach.Code.TheVariants as code
use Rattle.guard_der.specs.Breach.{AbstractBreach, one_with, is_found}
use Rattle.guard_der.specs.Head.{Head, head_of}
use Rattle.guard_der.specs.Reading as read
use Rattle.guard_der.specs.Reading.{Reader, fault, inside, element_at, contents_at, part_at}
use Rattle.guard_der.proofs.Components.ByTag.{found_begins}
use Rattle.guard_der.proofs.Types.Choice.{read_chosen, chosen_is}
use Rattle.guard_tables.specs.declared.slots.Slots.{Slots}
use Rattle.guard_tables.specs.Slots.{added}
use Rattle.guard_tables.specs.Marking.{marked, alternative_marked, type_marked}
use Rattle.guard_tables.specs.Plan.{Side, Plan, Parts, choice, no_parts, part}
use Rattle.guard_reader.specs.Fronts.{Front, here, elsewhere, broken, or_front, front}
use Rattle.guard_reader.specs.Judging.{Pass, chosen_at, inside_judged}
use Rattle.guard_reader.specs.Octets.{◌>>=◌, ok}
use Rattle.guard_reader.proofs.Places.{Digits, Bad}
use Rattle.guard_reader.proofs.Sights.{Way, Stands, Seen, IsAway, IsBroken, one_header, never_bad, after_due, ended_from, alone_of, alone_bad, alone_empty}
use Rattle.guard_reader.proofs.Ways.{way_of, PlanLaw}

-- ---- the alternative that is read: its place and its value

abbrev pub next_place : ℕ × AbstractValue → Option (ℕ × AbstractValue)
next_place x = Some (suc x.0, x.1)

abbrev pub first_place : AbstractValue → Option (ℕ × AbstractValue)
first_place v = Some (0, v)

abbrev pub picked : Components → ℕ → Head → List ℕ → Option (ℕ × AbstractValue)
picked no_components at h os = None
picked (component name t presence cs) at h os = cond (begins_with t h.tag) (ok (element_at t at h os) >>= first_place) (picked cs at h os >>= next_place)

abbrev placed : Components → Option ℕ → ℕ → Head → List ℕ → Option (ℕ × AbstractValue)
placed cs None at h os = None
placed cs (Some j) at h os = ok (part_at cs j at h os) >>= λ v. Some (j, v)

later_tested : (b : Bool) (i : ℕ) (x y : Option ℕ) → x ≡ option_map suc y → cond b (Some (suc i)) x ≡ option_map suc (cond b (Some i) y)
later_tested true i x y e = refl
later_tested false i x y e = e

pub later_with : (i : ℕ) (cs : Components) (tag : Tag) → one_with (suc i) cs tag ≡ option_map suc (one_with i cs tag)
later_with i no_components tag = refl
later_with i (component name t presence cs) tag = later_tested (begins_with t tag) i (one_with (suc (suc i)) cs tag) (one_with (suc i) cs tag) (later_with (suc i) cs tag)

moved : (j : ℕ) (r : Option AbstractValue) → ((r >>= λ v. Some (j, v)) >>= next_place) ≡ (r >>= λ v. Some (suc j, v))
moved j None = refl
moved j (Some v) = refl

pick_later : (name : List ℕ) (t : AbstractType) (presence : AbstractPresence) (cs : Components) (found : Option ℕ) (at : ℕ) (h : Head) (os : List ℕ) → (placed cs found at h os >>= next_place) ≡ placed (component name t presence cs) (option_map suc found) at h os
unfolding part_at
pick_later name t presence cs None at h os = refl
pick_later name t presence cs (Some j) at h os = moved j (ok (part_at cs j at h os))

pick_tested : (b : Bool) (name : List ℕ) (t : AbstractType) (presence : AbstractPresence) (cs : Components) (found : Option ℕ) (at : ℕ) (h : Head) (os : List ℕ) → picked cs at h os ≡ placed cs found at h os
    → cond b (ok (element_at t at h os) >>= first_place) (picked cs at h os >>= next_place) ≡ placed (component name t presence cs) (cond b (Some 0) (option_map suc found)) at h os
unfolding part_at
pick_tested true name t presence cs found at h os e = refl
pick_tested false name t presence cs found at h os e = ap (λ (x : Option (ℕ × AbstractValue)). x >>= next_place) e ∙ pick_later name t presence cs found at h os

pick_is : (cs : Components) (at : ℕ) (h : Head) (os : List ℕ) → picked cs at h os ≡ placed cs (one_with 0 cs h.tag) at h os
pick_is no_components at h os = refl
pick_is (component name t presence cs) at h os =
    pick_tested (begins_with t h.tag) name t presence cs (one_with 0 cs h.tag) at h os (pick_is cs at h os)
    ∙ ap (λ (x : Option ℕ). placed (component name t presence cs) (cond (begins_with t h.tag) (Some 0) x) at h os) (sym (later_with 0 cs h.tag))

abbrev as_chosen : ℕ × AbstractValue → AbstractValue
as_chosen x = value.chosen x.0 x.1

one_chosen : (j : ℕ) (r : Result AbstractValue AbstractBreach) → ok (answer.◌>>=◌ (inside (Component j) r) (λ v. Ok (value.chosen j v))) ≡ option_map as_chosen (ok r >>= λ v. Some (j, v))
one_chosen j (Err b) = refl
one_chosen j (Ok v) = refl

placed_read : (cs : Components) (found : Option ℕ) (at : ℕ) (h : Head) (os : List ℕ) → ok (read_chosen (part_at cs) found at h os) ≡ option_map as_chosen (placed cs found at h os)
placed_read cs None at h os = refl
placed_read cs (Some j) at h os = one_chosen j (part_at cs j at h os)

pub chosen_read : (cs : Components) (at : ℕ) (h : Head) (os : List ℕ) → ok (read.chosen_at cs (part_at cs) at h os) ≡ option_map as_chosen (picked cs at h os)
chosen_read cs at h os =
    ap ok (chosen_is cs (part_at cs) at h os (one_with 0 cs h.tag) refl) ∙ placed_read cs (one_with 0 cs h.tag) at h os ∙ ap (option_map as_chosen) (sym (pick_is cs at h os))

none_chosen : (x : Option (ℕ × AbstractValue)) → option_map as_chosen x ≡ None → x ≡ None
none_chosen None e = refl
none_chosen (Some x) e = absurd cc

pick_none : (cs : Components) (at : ℕ) (h : Head) (os : List ℕ) → ok (read.chosen_at cs (part_at cs) at h os) ≡ None → picked cs at h os ≡ None
pick_none cs at h os e = none_chosen (picked cs at h os) (sym (chosen_read cs at h os) ∙ e)

-- ---- a CHOICE with a tag: its contents are one alternative and nothing after it

abbrev pub whole_marked : Components → Parts → ℕ → Head → List ℕ → Slots → Option Slots
whole_marked cs ps at h os m =
    cond (ltb (h.size + h.contents) (length os)) None (option_map (λ (x : ℕ × AbstractValue). alternative_marked cs ps x.0 x.1 m) (picked cs at h os))

pub none_left : (at : ℕ) (h : Head) (os : List ℕ) (m : Slots) → None ≡ whole_marked no_components no_parts at h os m
none_left at h os m = tested (ltb (h.size + h.contents) (length os))
  where
    tested : (b : Bool) → None ≡ cond b None (option_map (λ (x : ℕ × AbstractValue). alternative_marked no_components no_parts x.0 x.1 m) None)
    tested true = refl
    tested false = refl

cond_none : (b : Bool) (x : Option Slots) → x ≡ None → None ≡ cond b None x
cond_none true x e = refl
cond_none false x e = sym e

abbrev first_marked : Plan → AbstractType → Slots → Option AbstractValue → Option Slots
first_marked p t m x = option_map (λ v. type_marked t p v m) x

one_marked : (side : Side) (p : Plan) (ps : Parts) (name : List ℕ) (t : AbstractType) (presence : AbstractPresence) (cs : Components) (m : Slots) (r : Option AbstractValue)
    → first_marked p t (added m side.present) r ≡ option_map (λ (x : ℕ × AbstractValue). alternative_marked (component name t presence cs) (part side p ps) x.0 x.1 m) (r >>= first_place)
unfolding marked
one_marked side p ps name t presence cs m None = refl
one_marked side p ps name t presence cs m (Some v) = refl

later_marked : (side : Side) (p : Plan) (ps : Parts) (name : List ℕ) (t : AbstractType) (presence : AbstractPresence) (cs : Components) (m : Slots) (x : Option (ℕ × AbstractValue))
    → option_map (λ (x : ℕ × AbstractValue). alternative_marked cs ps x.0 x.1 m) x ≡ option_map (λ (x : ℕ × AbstractValue). alternative_marked (component name t presence cs) (part side p ps) x.0 x.1 m) (x >>= next_place)
unfolding marked
later_marked side p ps name t presence cs m None = refl
later_marked side p ps name t presence cs m (Some x) = refl

abbrev ChosenStep : Side → Plan → Parts → List ℕ → AbstractType → AbstractPresence → Components → ℕ → Head → List ℕ → Slots → Option Slots → Front → Type 0
ChosenStep side p ps name t presence cs at h os m later f =
    chosen_at side f (λ os m. inside_judged p os m) m later ≡ whole_marked (component name t presence cs) (part side p ps) at h os m

picked_first : (name : List ℕ) (t : AbstractType) (presence : AbstractPresence) (cs : Components) (at : ℕ) (h : Head) (os : List ℕ) → begins_with t h.tag ≡ true → picked (component name t presence cs) at h os ≡ (ok (element_at t at h os) >>= first_place)
picked_first name t presence cs at h os e = cond-true (begins_with t h.tag) _ _ e

picked_later : (name : List ℕ) (t : AbstractType) (presence : AbstractPresence) (cs : Components) (at : ℕ) (h : Head) (os : List ℕ) → begins_with t h.tag ≡ false → picked (component name t presence cs) at h os ≡ (picked cs at h os >>= next_place)
picked_later name t presence cs at h os e = cond-false (begins_with t h.tag) _ _ e

chosen_here : (side : Side) (p : Plan) (ps : Parts) (name : List ℕ) (t : AbstractType) (presence : AbstractPresence) (cs : Components) (at o : ℕ) (os : List ℕ) (m : Slots) (later : Option Slots) (contents rest : List ℕ) (s : Stands (way_of p t) o os contents rest)
    → ChosenStep side p ps name t presence cs at s.header (o ∷ os) m later (here contents rest)
unfolding chosen_at
chosen_here side p ps name t presence cs at o os m later contents [] s =
    let h = s.header in
    let n = h.size + h.contents in
    let all : ltb n (length (o ∷ os)) ≡ false = le-ltb n (length (o ∷ os)) (omega (arith, ap length s.rest_is, length-drop n (o ∷ os))) in
    s.judged at (added m side.present) ∙ one_marked side p ps name t presence cs m (ok (element_at t at h (o ∷ os)))
    ∙ ap (option_map (λ (x : ℕ × AbstractValue). alternative_marked (component name t presence cs) (part side p ps) x.0 x.1 m)) (sym (picked_first name t presence cs at h (o ∷ os) s.tag))
    ∙ sym (cond-false (ltb n (length (o ∷ os))) None _ all)
chosen_here side p ps name t presence cs at o os m later contents (r ∷ rest) s =
    let h = s.header in
    let n = h.size + h.contents in
    let more : ltb n (length (o ∷ os)) ≡ true = lt-ltb n (length (o ∷ os)) (omega (arith, ap length s.rest_is, length-drop n (o ∷ os))) in
    sym (cond-true (ltb n (length (o ∷ os))) None _ more)

pub chosen_step : (side : Side) (p : Plan) (ps : Parts) (name : List ℕ) (t : AbstractType) (presence : AbstractPresence) (cs : Components) (at o : ℕ) (os : List ℕ) (h : Head) (m : Slots) (later : Option Slots) (f : Front)
    → Seen (way_of p t) o os f → head_of (o ∷ os) ≡ Ok h → later ≡ whole_marked cs ps at h (o ∷ os) m → ChosenStep side p ps name t presence cs at h (o ∷ os) m later f
unfolding chosen_at
chosen_step side p ps name t presence cs at o os h m later (here contents rest) s e is =
    subst (λ (h : Head). ChosenStep side p ps name t presence cs at h (o ∷ os) m later (here contents rest)) (one_header o os s.header h s.header_is e) (chosen_here side p ps name t presence cs at o os m later contents rest s)
chosen_step side p ps name t presence cs at o os h m later elsewhere (inl bad) e is = never_bad o os h e bad
chosen_step side p ps name t presence cs at o os h m later elsewhere (inr (g, there, tag)) e is =
    let other : begins_with t h.tag ≡ false = ap (λ (h : Head). begins_with t h.tag) (sym (one_header o os g h there e)) ∙ tag in
    is ∙ ap (λ (x : Option Slots). cond (ltb (h.size + h.contents) (length (o ∷ os))) None x)
    (later_marked side p ps name t presence cs m (picked cs at h (o ∷ os)) ∙ ap (option_map (λ (x : ℕ × AbstractValue). alternative_marked (component name t presence cs) (part side p ps) x.0 x.1 m)) (sym (picked_later name t presence cs at h (o ∷ os) other)))
chosen_step side p ps name t presence cs at o os h m later broken (inl bad) e is = never_bad o os h e bad
chosen_step side p ps name t presence cs at o os h m later broken (inr (g, there, tag, fails)) e is =
    let one : g ≡ h = one_header o os g h there e in
    let own : begins_with t h.tag ≡ true = ap (λ (h : Head). begins_with t h.tag) (sym one) ∙ tag in
    let none : ok (element_at t at h (o ∷ os)) ≡ None = ap (λ (h : Head). ok (element_at t at h (o ∷ os))) (sym one) ∙ fails at in
    cond_none (ltb (h.size + h.contents) (length (o ∷ os))) _ (ap (option_map (λ (x : ℕ × AbstractValue). alternative_marked (component name t presence cs) (part side p ps) x.0 x.1 m))
    (picked_first name t presence cs at h (o ∷ os) own ∙ ap (λ (r : Option AbstractValue). r >>= first_place) none))

-- where there is no header, none is chosen
pub chosen_bad : (side : Side) (w : Way) (pass : Pass) (o : ℕ) (os : List ℕ) (m : Slots) (later : Option Slots) (f : Front) → Seen w o os f → Bad o os → later ≡ None → chosen_at side f pass m later ≡ None
unfolding chosen_at
chosen_bad side w pass o os m later (here contents rest) s bad is = never_bad o os s.header s.header_is bad
chosen_bad side w pass o os m later elsewhere s bad is = is
chosen_bad side w pass o os m later broken s bad is = refl

-- what alternatives answer of octets with a header, and of others
pub record ChosenLaw (judged : List ℕ → Slots → Option Slots) (ps : Parts) (cs : Components) : Type 0 where
  pub ended : (m : Slots) → judged [] m ≡ None
  pub bad : (o : ℕ) (os : List ℕ) (m : Slots) → Digits (o ∷ os) → Bad o os → judged (o ∷ os) m ≡ None
  pub headed : (at o : ℕ) (os : List ℕ) (h : Head) (m : Slots) → Digits (o ∷ os) → head_of (o ∷ os) ≡ Ok h → judged (o ∷ os) m ≡ whole_marked cs ps at h (o ∷ os) m

abbrev choice_reader : Components → Reader
choice_reader cs at h os = read.chosen_at cs (part_at cs) at h os

no_pick : (cs : Components) (at : ℕ) (h : Head) (os : List ℕ) (found : Option ℕ) → one_with 0 cs h.tag ≡ found → is_found found ≡ false → picked cs at h os ≡ None
no_pick cs at h os None e none = pick_is cs at h os ∙ ap (λ (x : Option ℕ). placed cs x at h os) e
no_pick cs at h os (Some j) e none = absurd cc

with_marks : (cs : Components) (ps : Parts) (at : ℕ) (h : Head) (os : List ℕ) (m : Slots) (x : Option (ℕ × AbstractValue)) (r : Result AbstractValue AbstractBreach) → ok r ≡ option_map as_chosen x
    → cond (ltb (h.size + h.contents) (length os)) None (option_map (λ (x : ℕ × AbstractValue). alternative_marked cs ps x.0 x.1 m) x) ≡ option_map (λ v. marked (type.choice cs) (choice ps) v m) (ok (answer.◌>>=◌ r (λ v. ended_from at h os v)))
unfolding marked
with_marks cs ps at h os m None (Err b) e = sym (cond_none (ltb (h.size + h.contents) (length os)) None refl)
with_marks cs ps at h os m None (Ok v) e = absurd cc
with_marks cs ps at h os m (Some x) (Err b) e = absurd cc
with_marks cs ps at h os m (Some x) (Ok v) e =
    tested (ltb (h.size + h.contents) (length os)) ∙ ap (λ (w : Option AbstractValue). option_map (λ v. marked (type.choice cs) (choice ps) v m) (ok (answer.◌>>=◌ (back w) (λ v. ended_from at h os v)))) (sym e)
  where
    back : Option AbstractValue → Result AbstractValue AbstractBreach
    back None = Err (fault code.UnexpectedTag at)
    back (Some v) = Ok v

    tested : (b : Bool) → cond b None (Some (alternative_marked cs ps x.0 x.1 m)) ≡ option_map (λ v. marked (type.choice cs) (choice ps) v m) (ok (cond b (Err (fault code.TrailingOctets (at + (h.size + h.contents)))) (Ok (value.chosen x.0 x.1))))
    tested true = refl
    tested false = refl

tag_read : (judged : List ℕ → Slots → Option Slots) (ps : Parts) (cs : Components) → ChosenLaw judged ps cs → (at o : ℕ) (os : List ℕ) (h : Head) (m : Slots) (b : Bool) → Digits (o ∷ os) → head_of (o ∷ os) ≡ Ok h → one_begins_with cs h.tag ≡ b
    → judged (o ∷ os) m ≡ option_map (λ v. marked (type.choice cs) (choice ps) v m) (ok (after_due (choice_reader cs) at (o ∷ os) (cond b (Ok h) (Err (fault code.UnexpectedTag at)))))
tag_read judged ps cs law at o os h m true digits e tag =
    law.headed at o os h m digits e ∙ with_marks cs ps at h (o ∷ os) m (picked cs at h (o ∷ os)) (choice_reader cs at h (o ∷ os)) (chosen_read cs at h (o ∷ os))
tag_read judged ps cs law at o os h m false digits e tag =
    let none : picked cs at h (o ∷ os) ≡ None = no_pick cs at h (o ∷ os) (one_with 0 cs h.tag) refl (found_begins 0 cs h.tag ∙ tag) in
    law.headed at o os h m digits e
    ∙ sym (cond_none (ltb (h.size + h.contents) (length (o ∷ os))) _ (ap (option_map (λ (x : ℕ × AbstractValue). alternative_marked cs ps x.0 x.1 m)) none))

either_read : (judged : List ℕ → Slots → Option Slots) (ps : Parts) (cs : Components) → ChosenLaw judged ps cs → (at o : ℕ) (os : List ℕ) (m : Slots) (r : Result Head Code) → Digits (o ∷ os) → head_of (o ∷ os) ≡ r
    → judged (o ∷ os) m ≡ option_map (λ v. marked (type.choice cs) (choice ps) v m) (ok (read.alone_at (λ tag. one_begins_with cs tag) (choice_reader cs) at (o ∷ os)))
either_read judged ps cs law at o os m (Err k) digits e =
    law.bad o os m digits (k, e) ∙ sym (ap (option_map (λ v. marked (type.choice cs) (choice ps) v m)) (alone_bad (λ tag. one_begins_with cs tag) (choice_reader cs) at o os (k, e)))
either_read judged ps cs law at o os m (Ok h) digits e =
    tag_read judged ps cs law at o os h m (one_begins_with cs h.tag) digits e refl
    ∙ ap (λ (r : Result AbstractValue AbstractBreach). option_map (λ v. marked (type.choice cs) (choice ps) v m) (ok r)) (sym (alone_of (λ tag. one_begins_with cs tag) (choice_reader cs) at (o ∷ os) h (one_begins_with cs h.tag) e refl))

pub choice_read : (judged : List ℕ → Slots → Option Slots) (ps : Parts) (cs : Components) → ChosenLaw judged ps cs → (at start : ℕ) (os : List ℕ) (m : Slots) → Digits os
    → judged os m ≡ option_map (λ v. marked (type.choice cs) (choice ps) v m) (ok (contents_at (type.choice cs) at start os))
unfolding contents_at
choice_read judged ps cs law at start [] m digits = law.ended m ∙ sym (ap (option_map (λ v. marked (type.choice cs) (choice ps) v m)) (alone_empty (λ tag. one_begins_with cs tag) (choice_reader cs) start))
choice_read judged ps cs law at start (o ∷ os) m digits = either_read judged ps cs law start o os m (head_of (o ∷ os)) digits refl

-- ---- which alternative is seen

abbrev pub choice_way : Components → Pass → (AbstractValue → Slots → Slots) → Way
choice_way cs pass mark = record {
  pass = pass;
  wanted = λ tag. one_begins_with cs tag;
  reader = λ at h os. choice_reader cs at h os;
  body = contents_at (type.choice cs);
  mark = mark;
}

abbrev pub no_pass : Pass
no_pass os m = None

abbrev pub no_mark : AbstractValue → Slots → Slots
no_mark v m = m

abbrev pub Shape : Components → ℕ → List ℕ → Front → Type 0
Shape cs o os (here contents rest) = (h : Head) × (head_of (o ∷ os) ≡ Ok h) × (one_begins_with cs h.tag ≡ true) × (drop (h.size + h.contents) (o ∷ os) ≡ rest)
Shape cs o os elsewhere = IsAway (choice_way cs no_pass no_mark) o os
Shape cs o os broken = IsBroken (choice_way cs no_pass no_mark) o os

or_either : (a b c : Bool) → a ≡ false → b ≡ c → (a || b) ≡ c
or_either true b c e f = absurd cc
or_either false b c e f = f

failed_first : (name : List ℕ) (t : AbstractType) (presence : AbstractPresence) (cs : Components) (at : ℕ) (h : Head) (os : List ℕ) → begins_with t h.tag ≡ true → ok (element_at t at h os) ≡ None → ok (choice_reader (component name t presence cs) at h os) ≡ None
failed_first name t presence cs at h os tag none =
    chosen_read (component name t presence cs) at h os ∙ ap (option_map as_chosen) (picked_first name t presence cs at h os tag ∙ ap (λ (r : Option AbstractValue). r >>= first_place) none)

failed_later : (name : List ℕ) (t : AbstractType) (presence : AbstractPresence) (cs : Components) (at : ℕ) (h : Head) (os : List ℕ) → begins_with t h.tag ≡ false → ok (choice_reader cs at h os) ≡ None → ok (choice_reader (component name t presence cs) at h os) ≡ None
failed_later name t presence cs at h os tag none =
    chosen_read (component name t presence cs) at h os
    ∙ ap (option_map as_chosen) (picked_later name t presence cs at h os tag ∙ ap (λ (x : Option (ℕ × AbstractValue)). x >>= next_place) (pick_none cs at h os none))

later_shape : (name : List ℕ) (t : AbstractType) (presence : AbstractPresence) (cs : Components) (o : ℕ) (os : List ℕ) (g : Head) (f : Front) → head_of (o ∷ os) ≡ Ok g → begins_with t g.tag ≡ false → Shape cs o os f → Shape (component name t presence cs) o os f
later_shape name t presence cs o os g (here contents rest) there other (h, e, tag, is) =
    let own : begins_with t h.tag ≡ false = ap (λ (h : Head). begins_with t h.tag) (one_header o os h g e there) ∙ other in
    (h, e, or_either (begins_with t h.tag) (one_begins_with cs h.tag) true own tag, is)
later_shape name t presence cs o os g elsewhere there other (inl bad) = inl bad
later_shape name t presence cs o os g elsewhere there other (inr (h, e, tag)) =
    let own : begins_with t h.tag ≡ false = ap (λ (h : Head). begins_with t h.tag) (one_header o os h g e there) ∙ other in
    inr (h, e, or_either (begins_with t h.tag) (one_begins_with cs h.tag) false own tag)
later_shape name t presence cs o os g broken there other (inl bad) = inl bad
later_shape name t presence cs o os g broken there other (inr (h, e, tag, fails)) =
    let own : begins_with t h.tag ≡ false = ap (λ (h : Head). begins_with t h.tag) (one_header o os h g e there) ∙ other in
    inr (h, e, or_either (begins_with t h.tag) (one_begins_with cs h.tag) true own tag, λ at. failed_later name t presence cs at h (o ∷ os) own (fails at))

bad_shape : (cs others : Components) (o : ℕ) (os : List ℕ) (f : Front) → Bad o os → Shape cs o os f → Shape others o os f
bad_shape cs others o os (here contents rest) bad (h, e, tag, is) = never_bad o os h e bad
bad_shape cs others o os elsewhere bad s = inl bad
bad_shape cs others o os broken bad s = inl bad

pub part_shape : (name : List ℕ) (p : Plan) (t : AbstractType) (presence : AbstractPresence) (cs : Components) (o : ℕ) (os : List ℕ) (f later : Front) → Seen (way_of p t) o os f → Shape cs o os later → Shape (component name t presence cs) o os (or_front f later)
part_shape name p t presence cs o os (here contents rest) later s l = (s.header, s.header_is, ap (λ (b : Bool). b || one_begins_with cs s.header.tag) s.tag, s.rest_is)
part_shape name p t presence cs o os elsewhere later (inl bad) l = bad_shape cs (component name t presence cs) o os later bad l
part_shape name p t presence cs o os elsewhere later (inr (h, e, tag)) l = later_shape name t presence cs o os h later e tag l
part_shape name p t presence cs o os broken later (inl bad) l = inl bad
part_shape name p t presence cs o os broken later (inr (h, e, tag, fails)) l =
    inr (h, e, ap (λ (b : Bool). b || one_begins_with cs h.tag) tag, λ at. failed_first name t presence cs at h (o ∷ os) tag (fails at))

head_or_none : (o : ℕ) (os : List ℕ) (r : Result Head Code) → head_of (o ∷ os) ≡ r → Bad o os ⊎ ((h : Head) × (head_of (o ∷ os) ≡ Ok h) × (false ≡ false))
head_or_none o os (Err k) e = inl (k, e)
head_or_none o os (Ok h) e = inr (h, e, refl)

-- nothing begins with a tag of nothing
pub nothing_begins : (o : ℕ) (os : List ℕ) → Bad o os ⊎ ((h : Head) × (head_of (o ∷ os) ≡ Ok h) × (false ≡ false))
nothing_begins o os = head_or_none o os (head_of (o ∷ os)) refl

-- ---- one alternative more

abbrev pub Judged : Type 0
Judged = List ℕ → Slots → Option Slots

pub more_chosen : (judged : Judged) (side : Side) (p : Plan) (ps : Parts) (name : List ℕ) (t : AbstractType) (presence : AbstractPresence) (cs : Components) → PlanLaw p t → ChosenLaw judged ps cs
    → ChosenLaw (λ os m. chosen_at side (front p os) (λ os m. inside_judged p os m) m (judged os m)) (part side p ps) (component name t presence cs)
unfolding chosen_at
more_chosen judged side p ps name t presence cs law rest = record {
  ended = λ m. ap (λ (f : Front). chosen_at side f (λ os m. inside_judged p os m) m (judged [] m)) law.ended ∙ rest.ended m;
  bad = λ o os m digits bad. chosen_bad side (way_of p t) (λ os m. inside_judged p os m) o os m (judged (o ∷ os) m) (front p (o ∷ os)) (law.seen o os digits) bad (rest.bad o os m digits bad);
  headed = λ at o os h m digits e. chosen_step side p ps name t presence cs at o os h m (judged (o ∷ os) m) (front p (o ∷ os)) (law.seen o os digits) e (rest.headed at o os h m digits e);
}

pub none_chosen_of : ChosenLaw (λ os m. None) no_parts no_components
none_chosen_of = record { ended = λ m. refl; bad = λ o os m digits bad. refl; headed = λ at o os h m digits e. none_left at h (o ∷ os) m }

pub record ShapeLaw (parts : List ℕ → Front) (cs : Components) : Type 0 where
  pub ended : parts [] ≡ elsewhere
  pub seen : (o : ℕ) (os : List ℕ) → Digits (o ∷ os) → Shape cs o os (parts (o ∷ os))

pub more_shape : (parts : List ℕ → Front) (p : Plan) (name : List ℕ) (t : AbstractType) (presence : AbstractPresence) (cs : Components) → PlanLaw p t → ShapeLaw parts cs
    → ShapeLaw (λ os. or_front (front p os) (parts os)) (component name t presence cs)
more_shape parts p name t presence cs law rest = record {
  ended = ap (λ (f : Front). or_front f (parts [])) law.ended ∙ rest.ended;
  seen = λ o os digits. part_shape name p t presence cs o os (front p (o ∷ os)) (parts (o ∷ os)) (law.seen o os digits) (rest.seen o os digits);
}

pub none_shape : ShapeLaw (λ os. elsewhere) no_components
none_shape = record { ended = refl; seen = λ o os digits. nothing_begins o os }
