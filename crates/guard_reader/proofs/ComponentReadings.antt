-- A component of a SEQUENCE: what is there, and what is said where it isn't.
use Rattle.std.proofs.Common.{◌≡◌, ℕ, suc, ◌+◌, ◌^◌, ◌<◌, Bool, true, false, List, [], ◌∷◌, length, drop, Option, Some, None, Result, Ok, Err, cond, refl, sym, ap, ◌∙◌, arith, inl, inr, length-drop}
use Rattle.std.specs.Prelude.{◌⊎◌, option_map, IsTrue}
use Rattle.std.specs.Option.{is_some}
use Rattle.guard_model.specs.Answer as answer
use Rattle.guard_model.specs.declared.tag.Tag.{Tag}
use Rattle.guard_model.specs.declared.site.Step.TheVariants as step
use Rattle.guard_model.specs.AbstractType as type
use Rattle.guard_model.specs.AbstractType.{AbstractType, AbstractKind, AbstractPresence, Components, Constraints, type_of, no_components, component}
use Rattle.guard_model.specs.AbstractValue as value
use Rattle.guard_model.specs.AbstractValue.{AbstractValue, Fields}
use Rattle.guard_model.specs.Same.{same}
use Rattle.guard_der.specs.declared.breach.Code.{Code}
use Rattle.guard_der.specs.declared.breach.Code.TheVariants as code
use Rattle.guard_der.specs.Head.{Head, head_of}
use Rattle.guard_der.specs.Breach.{AbstractBreach}
use Rattle.guard_der.specs.Der.{is_left_out}
use Rattle.guard_der.specs.Reading as read
use Rattle.guard_der.specs.Reading.{Reader, located, fault, sent_at, inside, not_sent, component_at, missing_at, fields_at, due_at, end_at, field_before}
use Rattle.guard_tables.specs.declared.slots.Slots.{Slots}
use Rattle.guard_tables.specs.Slots.{added}
use Rattle.guard_tables.specs.Marking.{absence_marked, marked, type_marked, fields_marked}
use Rattle.guard_tables.specs.Plan.{Side, Plan, Body, Parts, plan, part}
use Rattle.guard_tables.specs.Standing.{DefaultFor, SideFor, inside_at}
use Rattle.guard_tables.specs.TableNodes.{is_default}
use Rattle.guard_reader.specs.Fronts.{Front, here, elsewhere, broken}
use Rattle.guard_reader.specs.Judging.{Pass, Sight, absent_part, watched, present_part, part_at, with_rest}
use Rattle.guard_reader.specs.Octets.{◌>>=◌, ok}
use Rattle.guard_reader.proofs.Places.{Digits, digits_drop, Bad}
use Rattle.guard_reader.proofs.Sights.{Way, Stands, Seen, SightLaw, never_bad}

pub bind_some : {A B : Type 0} (x : Option A) (f : A → Option B) (y : A) → x ≡ Some y → (x >>= f) ≡ f y
bind_some x f y e = ap (λ z. z >>= f) e

pub bind_none : {A B : Type 0} (x : Option A) (f : A → Option B) → x ≡ None → (x >>= f) ≡ None
bind_none x f e = ap (λ z. z >>= f) e

-- ---- what a side says

abbrev pub field_marked : Side → (AbstractValue → Slots → Slots) → Option AbstractValue → Slots → Slots
field_marked side mark None m = absence_marked side.absent m
field_marked side mark (Some v) m = mark v (added m side.present)

-- what a side says of a value that was read from these contents, and of absence
pub record SideLaw (side : Side) (body : read.Body) (mark : AbstractValue → Slots → Slots) (presence : AbstractPresence) : Type 0 where
  pub kept : (at start : ℕ) (os : List ℕ) (v : AbstractValue) → Digits os → length os < 2 ^ 32 → body at start os ≡ Ok v → is_left_out presence v ≡ is_default side.default os
  pub absent : (m : Slots) (b : AbstractBreach) → absent_part side.absent m ≡ option_map (λ f. field_marked side mark f m) (ok (not_sent presence b))

may_be_absent : (k : Option Slots) (m : Slots) → IsTrue (is_some k) → absent_part k m ≡ Some (absence_marked k m)
may_be_absent None m e = absurd cc
may_be_absent (Some k) m e = refl

default_known : (default : Option (List ℕ)) (tags : List Tag) (kind : AbstractKind) (d : AbstractValue) (at start : ℕ) (os : List ℕ) (v : AbstractValue) → DefaultFor default tags kind d → Digits os → length os < 2 ^ 32 → inside_at tags kind at start os ≡ Ok v → same d v ≡ is_default default os
default_known None tags kind d at start os v f digits short e = absurd f
default_known (Some octets) tags kind d at start os v f digits short e = f at start os v digits short e

pub side_law : (side : Side) (tags others : List Tag) (con : Bool) (b : Body) (kind : AbstractKind) (cons : Constraints) (presence : AbstractPresence) → SideFor side (plan tags con b) others kind presence
    → SideLaw side (inside_at others kind) (λ v m. type_marked (type_of others kind cons) (plan tags con b) v m) presence
unfolding marked
side_law side tags others con b kind cons type.mandatory f = record {
  kept = λ at start os v digits short e. ap (λ (d : Option (List ℕ)). is_default d os) (sym f.1);
  absent = λ m breach. ap (λ (k : Option Slots). absent_part k m) f.0;
}
side_law side tags others con b kind cons type.optional f = record {
  kept = λ at start os v digits short e. ap (λ (d : Option (List ℕ)). is_default d os) (sym f.1);
  absent = λ m breach. may_be_absent side.absent m f.0;
}
side_law side tags others con b kind cons type.pending f = absurd f
side_law side tags others con b kind cons (type.default d) f = record {
  kept = λ at start os v digits short e. default_known side.default others kind d at start os v f.1 digits short e;
  absent = λ m breach. may_be_absent side.absent m f.0 ∙ ap (λ (m : Slots). Some m) (sym (f.2 m));
}

-- ---- a component

abbrev pub ReadField : Type 0
ReadField = Option AbstractValue × ℕ

abbrev pub taken : Side → (AbstractValue → Slots → Slots) → List ℕ → Slots → ReadField → Slots × List ℕ
taken side mark os m x = (field_marked side mark x.0 m, drop x.1 os)

abbrev skipped : Result (Option AbstractValue) AbstractBreach → Result ReadField AbstractBreach
skipped r = answer.◌>>=◌ r (λ f. Ok (f, 0))

absent_read : (side : Side) (mark : AbstractValue → Slots → Slots) (os : List ℕ) (m : Slots) (r : Result (Option AbstractValue) AbstractBreach) (a : Option Slots) → a ≡ option_map (λ f. field_marked side mark f m) (ok r)
    → with_rest os a ≡ option_map (taken side mark os m) (ok (skipped r))
absent_read side mark os m (Err b) a e = ap (with_rest os) e
absent_read side mark os m (Ok f) a e = ap (with_rest os) e

refused_anyway : (b : Bool) (k : Slots) (pass : Pass) (contents : List ℕ) → ((k : Slots) → pass contents k ≡ None) → (cond b None (Some k) >>= λ k. pass contents k) ≡ None
refused_anyway true k pass contents h = refl
refused_anyway false k pass contents h = h k

-- contents that are read, and what is left out
pub present_read : (side : Side) (body : read.Body) (mark : AbstractValue → Slots → Slots) (pass : Pass) (presence : AbstractPresence) (i at start : ℕ) (contents : List ℕ) (m : Slots) (r : Result AbstractValue AbstractBreach)
    → SideLaw side body mark presence → Digits contents → length contents < 2 ^ 32 → body at start contents ≡ r → ((k : Slots) → pass contents k ≡ option_map (λ v. mark v k) (ok r))
    → present_part side pass contents m ≡ option_map (λ v. mark v (added m side.present)) (ok (inside (step.Component i) (answer.◌>>=◌ r (λ v. cond (is_left_out presence v) (Err (fault code.DefaultPresent at)) (Ok v)))))
unfolding present_part watched
present_read side body mark pass presence i at start contents m (Err b) sl digits short e passed =
    refused_anyway (is_default side.default contents) (added m side.present) pass contents (λ k. passed k)
present_read side body mark pass presence i at start contents m (Ok v) sl digits short e passed =
    tested (is_default side.default contents) (is_left_out presence v) (sl.kept at start contents v digits short e)
  where
    tested : (b left : Bool) → left ≡ b → (cond b None (Some (added m side.present)) >>= λ k. pass contents k) ≡ option_map (λ v. mark v (added m side.present)) (ok (inside (step.Component i) (cond left (Err (fault code.DefaultPresent at)) (Ok v))))
    tested true true same = refl
    tested true false same = absurd cc
    tested false true same = absurd cc
    tested false false same = passed (added m side.present)

sent_read : (side : Side) (mark : AbstractValue → Slots → Slots) (size : ℕ) (next os : List ℕ) (m : Slots) (r : Result AbstractValue AbstractBreach) (a : Option Slots) → a ≡ option_map (λ v. mark v (added m side.present)) (ok r) → drop size os ≡ next
    → with_rest next a ≡ option_map (taken side mark os m) (ok (answer.◌>>=◌ r (λ v. Ok (Some v, size))))
sent_read side mark size next os m (Err b) a e rest = ap (with_rest next) e
sent_read side mark size next os m (Ok v) a e rest = ap (with_rest next) e ∙ ap (λ (rest : List ℕ). Some (mark v (added m side.present), rest)) (sym rest)

abbrev read_from : ℕ → AbstractPresence → (Tag → Bool) → Reader → ℕ → List ℕ → Head → Result ReadField AbstractBreach
read_from i presence wanted reader at os h =
    cond (wanted h.tag) (answer.◌>>=◌ (sent_at i presence reader at h os) (λ v. Ok (Some v, h.size + h.contents))) (skipped (not_sent presence (fault code.UnexpectedTag at)))

headed : (i : ℕ) (presence : AbstractPresence) (wanted : Tag → Bool) (reader : Reader) (at o : ℕ) (os : List ℕ) (h : Head) (b : Bool) → head_of (o ∷ os) ≡ Ok h → wanted h.tag ≡ b
    → component_at i presence wanted reader at (o ∷ os) ≡ cond b (answer.◌>>=◌ (sent_at i presence reader at h (o ∷ os)) (λ v. Ok (Some v, h.size + h.contents))) (skipped (not_sent presence (fault code.UnexpectedTag at)))
unfolding component_at
headed i presence wanted reader at o os h b e is =
    ap (λ (r : Result Head Code). answer.◌>>=◌ (located at r) (read_from i presence wanted reader at (o ∷ os))) e
    ∙ ap (λ (b : Bool). cond b (answer.◌>>=◌ (sent_at i presence reader at h (o ∷ os)) (λ v. Ok (Some v, h.size + h.contents))) (skipped (not_sent presence (fault code.UnexpectedTag at)))) is

-- with no header nothing is read
pub headless : (i : ℕ) (presence : AbstractPresence) (wanted : Tag → Bool) (reader : Reader) (at o : ℕ) (os : List ℕ) (k : Code) → head_of (o ∷ os) ≡ Err k → component_at i presence wanted reader at (o ∷ os) ≡ Err (fault k at)
unfolding component_at
headless i presence wanted reader at o os k e = ap (λ (r : Result Head Code). answer.◌>>=◌ (located at r) (read_from i presence wanted reader at (o ∷ os))) e

abbrev sized : ℕ → AbstractValue → Result ReadField AbstractBreach
sized size v = Ok (Some v, size)

nothing_sent : (i : ℕ) (presence : AbstractPresence) (at size : ℕ) (r : Result AbstractValue AbstractBreach) → ok r ≡ None
    → ok (answer.◌>>=◌ (inside (step.Component i) (answer.◌>>=◌ r (λ v. cond (is_left_out presence v) (Err (fault code.DefaultPresent at)) (Ok v)))) (sized size)) ≡ None
nothing_sent i presence at size (Err b) e = refl
nothing_sent i presence at size (Ok v) e = absurd cc

-- what a part is, where the header is whole or there is none
abbrev IsHeaded : List ℕ → Type 0
IsHeaded [] = Unit {0}
IsHeaded (o ∷ os) = (h : Head) × (head_of (o ∷ os) ≡ Ok h)

abbrev PartRead : Side → Way → AbstractPresence → ℕ → ℕ → List ℕ → Slots → Front → Type 0
PartRead side w presence i at os m f = part_at side f w.pass os m ≡ option_map (taken side w.mark os m) (ok (component_at i presence w.wanted w.reader at os))

part_here : (side : Side) (w : Way) (presence : AbstractPresence) (i at o : ℕ) (os inside rest : List ℕ) (m : Slots) → SideLaw side w.body w.mark presence → length (o ∷ os) < 2 ^ 32 → Stands w o os inside rest
    → PartRead side w presence i at (o ∷ os) m (here inside rest)
unfolding part_at sent_at
part_here side w presence i at o os contents rest m sl short s =
    let h = s.header in
    sent_read side w.mark (h.size + h.contents) rest (o ∷ os) m (inside (step.Component i) (answer.◌>>=◌ (w.reader at h (o ∷ os)) (λ v. cond (is_left_out presence v) (Err (fault code.DefaultPresent at)) (Ok v)))) (present_part side w.pass contents m)
    (present_read side w.body w.mark w.pass presence i at (s.start at) contents m (w.reader at h (o ∷ os)) sl s.digits (omega (arith, short, s.shorter)) (sym (s.read at)) (λ k. s.judged at k))
    s.rest_is
    ∙ ap (λ (r : Result ReadField AbstractBreach). option_map (taken side w.mark (o ∷ os) m) (ok r)) (sym (headed i presence w.wanted w.reader at o os h true s.header_is s.tag))

part_seen : (side : Side) (w : Way) (presence : AbstractPresence) (i at o : ℕ) (os : List ℕ) (m : Slots) (h : Head) (f : Front) → SideLaw side w.body w.mark presence → length (o ∷ os) < 2 ^ 32 → head_of (o ∷ os) ≡ Ok h → Seen w o os f
    → PartRead side w presence i at (o ∷ os) m f
unfolding part_at sent_at
part_seen side w presence i at o os m h (here contents rest) sl short e s = part_here side w presence i at o os contents rest m sl short s
part_seen side w presence i at o os m h elsewhere sl short e (inl bad) = never_bad o os h e bad
part_seen side w presence i at o os m h elsewhere sl short e (inr (g, is, tag)) =
    absent_read side w.mark (o ∷ os) m (not_sent presence (fault code.UnexpectedTag at)) (absent_part side.absent m) (sl.absent m (fault code.UnexpectedTag at))
    ∙ ap (λ (r : Result ReadField AbstractBreach). option_map (taken side w.mark (o ∷ os) m) (ok r)) (sym (headed i presence w.wanted w.reader at o os g false is tag))
part_seen side w presence i at o os m h broken sl short e (inl bad) = never_bad o os h e bad
part_seen side w presence i at o os m h broken sl short e (inr (g, is, tag, fails)) =
    sym (ap (option_map (taken side w.mark (o ∷ os) m))
    (ap ok (headed i presence w.wanted w.reader at o os g true is tag) ∙ nothing_sent i presence at (g.size + g.contents) (w.reader at g (o ∷ os)) (fails at)))

part_read : (side : Side) (sight : Sight) (w : Way) (presence : AbstractPresence) (i at : ℕ) (os : List ℕ) (m : Slots) → SightLaw sight w → SideLaw side w.body w.mark presence → Digits os → length os < 2 ^ 32 → IsHeaded os
    → PartRead side w presence i at os m (sight os)
unfolding part_at component_at
part_read side sight w presence i at [] m law sl digits short headed =
    ap (λ (f : Front). part_at side f w.pass [] m) law.ended
    ∙ absent_read side w.mark [] m (not_sent presence (missing_at i at)) (absent_part side.absent m) (sl.absent m (missing_at i at))
part_read side sight w presence i at (o ∷ os) m law sl digits short (h, e) = part_seen side w presence i at o os m h (sight (o ∷ os)) sl short e (law.seen o os digits)

-- ---- where there is no header, no part takes the octets

kept_or_none : (x : Option (Slots × List ℕ)) (os : List ℕ) (a : Option Slots) → x ≡ with_rest os a → (x ≡ None) ⊎ ((k : Slots) × (x ≡ Some (k, os)))
kept_or_none x os None e = inl e
kept_or_none x os (Some k) e = inr (k, e)

bad_seen : (side : Side) (w : Way) (o : ℕ) (os : List ℕ) (m : Slots) (f : Front) → Bad o os → Seen w o os f
    → (part_at side f w.pass (o ∷ os) m ≡ None) ⊎ ((k : Slots) × (part_at side f w.pass (o ∷ os) m ≡ Some (k, o ∷ os)))
unfolding part_at
bad_seen side w o os m (here contents rest) bad s = never_bad o os s.header s.header_is bad
bad_seen side w o os m elsewhere bad s = kept_or_none _ (o ∷ os) (absent_part side.absent m) refl
bad_seen side w o os m broken bad s = inl refl

pub bad_part : (side : Side) (sight : Sight) (w : Way) (o : ℕ) (os : List ℕ) (m : Slots) (go : Slots → List ℕ → Option Slots) → SightLaw sight w → Digits (o ∷ os) → Bad o os
    → ((k : Slots) → go k (o ∷ os) ≡ None) → (part_at side (sight (o ∷ os)) w.pass (o ∷ os) m >>= λ x. go x.0 x.1) ≡ None
bad_part side sight w o os m go law digits bad later = elim (bad_seen side w o os m (sight (o ∷ os)) bad (law.seen o os digits)) [
  | inl nothing ↦ bind_none _ _ nothing
  | inr kept ↦ bind_some _ _ _ kept.1 ∙ later kept.0
]

-- ---- fields that are read one after the other

pub joined_read : (side : Side) (p : Plan) (ps : Parts) (t : AbstractType) (name : List ℕ) (presence : AbstractPresence) (cs : Components) (x : Option AbstractValue) (m : Slots) (r : Result Fields AbstractBreach)
    → option_map (λ fs. fields_marked cs ps fs (field_marked side (λ v m. type_marked t p v m) x m)) (ok r) ≡ option_map (λ fs. fields_marked (component name t presence cs) (part side p ps) fs m) (ok (answer.◌>>=◌ r (λ fs. Ok (field_before x fs))))
unfolding marked
joined_read side p ps t name presence cs x m (Err breach) = refl
joined_read side p ps t name presence cs None m (Ok fs) = refl
joined_read side p ps t name presence cs (Some v) m (Ok fs) = refl

then_read : (side : Side) (p : Plan) (ps : Parts) (t : AbstractType) (name : List ℕ) (presence : AbstractPresence) (cs : Components) (os : List ℕ) (m : Slots) (r : Result ReadField AbstractBreach) (a : Option (Slots × List ℕ)) (go : Slots → List ℕ → Option Slots) (rest : ReadField → Result Fields AbstractBreach)
    → a ≡ option_map (taken side (λ v m. type_marked t p v m) os m) (ok r)
    → ((x : ReadField) → go (field_marked side (λ v m. type_marked t p v m) x.0 m) (drop x.1 os) ≡ option_map (λ fs. fields_marked cs ps fs (field_marked side (λ v m. type_marked t p v m) x.0 m)) (ok (rest x)))
    → (a >>= λ x. go x.0 x.1) ≡ option_map (λ fs. fields_marked (component name t presence cs) (part side p ps) fs m) (ok (answer.◌>>=◌ r (λ x. answer.◌>>=◌ (rest x) (λ fs. Ok (field_before x.0 fs)))))
then_read side p ps t name presence cs os m (Err breach) a go rest e h = ap (λ (a : Option (Slots × List ℕ)). a >>= λ x. go x.0 x.1) e
then_read side p ps t name presence cs os m (Ok x) a go rest e h = ap (λ (a : Option (Slots × List ℕ)). a >>= λ x. go x.0 x.1) e ∙ h x ∙ joined_read side p ps t name presence cs x.0 m (rest x)

no_header : (r : Result Head Code) (o : ℕ) (os : List ℕ) → head_of (o ∷ os) ≡ r → IsHeaded (o ∷ os) ⊎ Bad o os
no_header (Ok h) o os e = inl (h, e)
no_header (Err k) o os e = inr (k, e)

abbrev pub PartsLaw : (Slots → List ℕ → Option Slots) → Parts → Components → Type 0
PartsLaw go ps cs = (i at : ℕ) (os : List ℕ) (m : Slots) → Digits os → length os < 2 ^ 32 → go m os ≡ option_map (λ fs. fields_marked cs ps fs m) (ok (fields_at i cs at os))

abbrev pub BadLaw : (Slots → List ℕ → Option Slots) → Type 0
BadLaw go = (o : ℕ) (os : List ℕ) (m : Slots) → Digits (o ∷ os) → Bad o os → go m (o ∷ os) ≡ None

abbrev Goal : Side → Sight → Way → Plan → Parts → AbstractType → List ℕ → AbstractPresence → Components → (Slots → List ℕ → Option Slots) → ℕ → ℕ → List ℕ → Slots → Type 0
Goal side sight w p ps t name presence cs go i at os m =
    (part_at side (sight os) w.pass os m >>= λ x. go x.0 x.1)
    ≡ option_map (λ fs. fields_marked (component name t presence cs) (part side p ps) fs m)
    (ok (answer.◌>>=◌ (component_at i presence w.wanted w.reader at os) (λ x. answer.◌>>=◌ (fields_at (suc i) cs (at + x.1) (drop x.1 os)) (λ fs. Ok (field_before x.0 fs)))))

headed_parts : (side : Side) (sight : Sight) (w : Way) (p : Plan) (ps : Parts) (t : AbstractType) (name : List ℕ) (presence : AbstractPresence) (cs : Components) (go : Slots → List ℕ → Option Slots)
    → SightLaw sight w → SideLaw side w.body w.mark presence → w.mark ≡ (λ v m. type_marked t p v m) → PartsLaw go ps cs → (i at : ℕ) (os : List ℕ) (m : Slots) → Digits os → length os < 2 ^ 32 → IsHeaded os
    → Goal side sight w p ps t name presence cs go i at os m
headed_parts side sight w p ps t name presence cs go law sl is rest i at os m digits short headed =
    then_read side p ps t name presence cs os m (component_at i presence w.wanted w.reader at os) (part_at side (sight os) w.pass os m) go (λ x. fields_at (suc i) cs (at + x.1) (drop x.1 os))
    (part_read side sight w presence i at os m law sl digits short headed ∙ ap (λ (mark : AbstractValue → Slots → Slots). option_map (taken side mark os m) (ok (component_at i presence w.wanted w.reader at os))) is)
    (λ x. rest (suc i) (at + x.1) (drop x.1 os) (field_marked side (λ v m. type_marked t p v m) x.0 m) (digits_drop x.1 os digits) (omega (arith, short, length-drop x.1 os)))

-- a component and those after it
pub part_then_read : (side : Side) (sight : Sight) (w : Way) (p : Plan) (ps : Parts) (t : AbstractType) (name : List ℕ) (presence : AbstractPresence) (cs : Components) (go : Slots → List ℕ → Option Slots)
    → SightLaw sight w → SideLaw side w.body w.mark presence → w.mark ≡ (λ v m. type_marked t p v m) → PartsLaw go ps cs → BadLaw go → (i at : ℕ) (os : List ℕ) (m : Slots) → Digits os → length os < 2 ^ 32
    → Goal side sight w p ps t name presence cs go i at os m
part_then_read side sight w p ps t name presence cs go law sl is rest none i at [] m digits short = headed_parts side sight w p ps t name presence cs go law sl is rest i at [] m digits short tt
part_then_read side sight w p ps t name presence cs go law sl is rest none i at (o ∷ os) m digits short = elim (no_header (head_of (o ∷ os)) o os refl) [
  | inl headed ↦ headed_parts side sight w p ps t name presence cs go law sl is rest i at (o ∷ os) m digits short headed
  | inr bad ↦
      bad_part side sight w o os m go law digits bad (λ k. none o os k digits bad)
      ∙ sym (ap (λ (r : Result ReadField AbstractBreach). option_map (λ fs. fields_marked (component name t presence cs) (part side p ps) fs m) (ok (answer.◌>>=◌ r (λ x. answer.◌>>=◌ (fields_at (suc i) cs (at + x.1) (drop x.1 (o ∷ os))) (λ fs. Ok (field_before x.0 fs))))))
      (headless i presence w.wanted w.reader at o os bad.0 bad.1))
]

-- nothing is read where an element is due that isn't there
ended_from : (at : ℕ) (r : Result Head Code) → ok (answer.◌>>=◌ {A = Head} {B = Fields} (answer.◌>>=◌ {A = Head} {B = Head} (located at r) (λ h. Err (fault code.UnexpectedTag at))) (λ h. Ok value.no_fields)) ≡ None
ended_from at (Err k) = refl
ended_from at (Ok h) = refl

pub end_read : (at o : ℕ) (os : List ℕ) → ok (end_at at (o ∷ os)) ≡ None
unfolding end_at due_at
end_read at o os = ended_from at (head_of (o ∷ os))
