-- The elements of an OF type, one after the other: what is read fits, and what fits is read.
use Rattle.std.proofs.Common.{◌≡◌, ℕ, zero, suc, ◌+◌, ◌≤◌, Bool, true, false, cond, List, [], ◌∷◌, ◌++◌, length, take, drop, Some, Result, Ok, Err, refl, sym, ap, subst, ◌∙◌, append_assoc, arith, inl, inr}
use Rattle.std.specs.Prelude.{◌&&◌, ◌||◌, not, ◌⊎◌}
use Rattle.std.proofs.lemmas.Bool.{cond-true, cond-false, and_parts, and_from}
use Rattle.std.proofs.lemmas.List.{length-append, drop_at, take_at, take-append-drop}
use Rattle.guard_model.specs.Answer.{◌>>=◌}
use Rattle.guard_model.specs.declared.site.Step.TheVariants.{Element}
use Rattle.guard_model.specs.declared.tag.Tag.{Tag}
use Rattle.guard_model.specs.AbstractType.{AbstractType}
use Rattle.guard_model.specs.AbstractValue as value
use Rattle.guard_model.specs.AbstractValue.{AbstractValue, Items}
use Rattle.guard_tagcheck.specs.FirstTags.{begins_with}
use Rattle.guard_der.specs.declared.breach.Code.{Code}
use Rattle.guard_der.specs.declared.breach.Code.TheVariants as code
use Rattle.guard_der.specs.Head.{Head, head_of}
use Rattle.guard_der.specs.Der.{der, item_encodings, joined}
use Rattle.guard_der.specs.Fits.{fits, every_fits, descends, ascend_from}
use Rattle.guard_der.specs.Breach.{AbstractBreach, NotDue, below}
use Rattle.guard_der.specs.Reading.{Reader, element_at, item_alone, item_at, items_at, due_at, fault}
use Rattle.guard_der.proofs.Elements.Steps.{bind, option_parts, due_ok, due_again, due_err, due_err_again, inside_ok, inside_err}
use Rattle.guard_der.proofs.Numbers.Digits.{AreDigits}
use Rattle.guard_der.proofs.Headers.TagsAndLengths.{digits_drop}
use Rattle.guard_der.proofs.Components.ByTag.{LawfulType}
use Rattle.guard_model.specs.Counts.{item_count}
use Rattle.guard_model.proofs.Results.{bind_ok, same_Ok, same_Err, bind_err}
use Rattle.guard_model.proofs.Tests.{chosen}
use Rattle.std.proofs.lemmas.Option.{same_Some}

-- ---- one element

abbrev OneItem : Type 0
OneItem = Result (AbstractValue × ℕ) AbstractBreach

-- the element and its octets, if they are in order
abbrev ordered_item : Bool → List ℕ → ℕ → List ℕ → AbstractValue → Head → OneItem
ordered_item ordered before at os v h = cond (ordered && descends before (take (h.size + h.contents) os)) (Err (fault code.SetOfOrder at)) (Ok (v, h.size + h.contents))

-- what an element that is read has come from
pub record ItemOk (ordered : Bool) (wanted : Tag → Bool) (read : Reader) (before : List ℕ) (at : ℕ) (os : List ℕ) (x : AbstractValue × ℕ) : Type 0 where
  pub header : Head
  pub stands : head_of os ≡ Ok header
  pub due : wanted header.tag ≡ true
  pub got : read at header os ≡ Ok x.0
  pub size : x.1 ≡ header.size + header.contents
  pub ascends : (ordered && descends before (take x.1 os)) ≡ false

item_pair : (ordered : Bool) (before : List ℕ) (at : ℕ) (h : Head) (os : List ℕ) (v : AbstractValue) (x : AbstractValue × ℕ) → ordered_item ordered before at os v h ≡ Ok x
    → ((ordered && descends before (take (h.size + h.contents) os)) ≡ false) × (◌≡◌ {A = AbstractValue × ℕ} (v, h.size + h.contents) x)
item_pair ordered before at h os v x e =
    elim (chosen (ordered && descends before (take (h.size + h.contents) os)) (Err (fault code.SetOfOrder at)) (Ok (v, h.size + h.contents)) (Ok x) e) [
      | inl (down, none) ↦ absurd cc
      | inr (up, is) ↦ (up, same_Ok {F = AbstractBreach} (v, h.size + h.contents) x is)
    ]

pub alone_ok : (ordered : Bool) (wanted : Tag → Bool) (read : Reader) (before : List ℕ) (at : ℕ) (os : List ℕ) (x : AbstractValue × ℕ) → item_alone ordered wanted read before at os ≡ Ok x → ItemOk ordered wanted read before at os x
unfolding item_alone
alone_ok ordered wanted read before at os x e =
    let a = bind_ok (due_at wanted at os) (λ h. read at h os >>= λ v. ordered_item ordered before at os v h) x e in
    let b = bind_ok (read at a.0 os) (λ v. ordered_item ordered before at os v a.0) x a.2 in
    let d = due_ok wanted at os a.0 a.1 in
    let p = item_pair ordered before at a.0 os b.0 x b.2 in
    let size : x.1 ≡ a.0.size + a.0.contents = sym (ap (λ (q : AbstractValue × ℕ). q.1) p.1) in
    record {
      header = a.0;
      stands = d.0;
      due = d.1;
      got = b.1 ∙ ap (λ (q : AbstractValue × ℕ). Ok q.0) p.1;
      size = size;
      ascends = ap (λ (n : ℕ). ordered && descends before (take n os)) size ∙ p.0;
    }

pub item_ok : (ordered : Bool) (wanted : Tag → Bool) (read : Reader) (i : ℕ) (before : List ℕ) (at : ℕ) (os : List ℕ) (x : AbstractValue × ℕ) → item_at ordered wanted read i before at os ≡ Ok x → ItemOk ordered wanted read before at os x
unfolding item_at
item_ok ordered wanted read i before at os x e = alone_ok ordered wanted read before at os x (inside_ok (Element i) (item_alone ordered wanted read before at os) x e)

-- an element that is there is read
pub alone_read : (ordered : Bool) (wanted : Tag → Bool) (read : Reader) (before : List ℕ) (at : ℕ) (os : List ℕ) (h : Head) (v : AbstractValue) → head_of os ≡ Ok h → wanted h.tag ≡ true → read at h os ≡ Ok v
    → item_alone ordered wanted read before at os ≡ ordered_item ordered before at os v h
unfolding item_alone
alone_read ordered wanted read before at os h v stands tag e = rw (due_again wanted at os h stands tag, e) refl

pub alone_reads : (ordered : Bool) (wanted : Tag → Bool) (read : Reader) (before : List ℕ) (at : ℕ) (os : List ℕ) (h : Head) (v : AbstractValue) → head_of os ≡ Ok h → wanted h.tag ≡ true → read at h os ≡ Ok v
    → (ordered && descends before (take (h.size + h.contents) os)) ≡ false → item_alone ordered wanted read before at os ≡ Ok (v, h.size + h.contents)
alone_reads ordered wanted read before at os h v stands tag e up =
    alone_read ordered wanted read before at os h v stands tag e ∙ cond-false (ordered && descends before (take (h.size + h.contents) os)) _ _ up

pub alone_descends : (ordered : Bool) (wanted : Tag → Bool) (read : Reader) (before : List ℕ) (at : ℕ) (os : List ℕ) (h : Head) (v : AbstractValue) → head_of os ≡ Ok h → wanted h.tag ≡ true → read at h os ≡ Ok v
    → (ordered && descends before (take (h.size + h.contents) os)) ≡ true → item_alone ordered wanted read before at os ≡ Err (fault code.SetOfOrder at)
alone_descends ordered wanted read before at os h v stands tag e down =
    alone_read ordered wanted read before at os h v stands tag e ∙ cond-true (ordered && descends before (take (h.size + h.contents) os)) _ _ down

pub alone_fails : (ordered : Bool) (wanted : Tag → Bool) (read : Reader) (before : List ℕ) (at : ℕ) (os : List ℕ) (h : Head) (c : AbstractBreach) → head_of os ≡ Ok h → wanted h.tag ≡ true → read at h os ≡ Err c
    → item_alone ordered wanted read before at os ≡ Err c
unfolding item_alone
alone_fails ordered wanted read before at os h c stands tag e = rw (due_again wanted at os h stands tag, e) refl

pub alone_strays : (ordered : Bool) (wanted : Tag → Bool) (read : Reader) (before : List ℕ) (at : ℕ) (os : List ℕ) (c : Code) → NotDue wanted os c → item_alone ordered wanted read before at os ≡ Err (fault c at)
unfolding item_alone
alone_strays ordered wanted read before at os c not_due = rw (due_err_again wanted at os c not_due) refl

-- what an element that isn't read has come from
abbrev pub AloneErr : Bool → (Tag → Bool) → Reader → List ℕ → ℕ → List ℕ → AbstractBreach → Type 0
AloneErr ordered wanted read before at os b =
    ((c : Code) × NotDue wanted os c × (b ≡ fault c at))
    ⊎ ((h : Head) × (head_of os ≡ Ok h) × (wanted h.tag ≡ true) × (read at h os ≡ Err b))
    ⊎ ((h : Head) × (v : AbstractValue) × (head_of os ≡ Ok h) × (wanted h.tag ≡ true) × (read at h os ≡ Ok v)
    × ((ordered && descends before (take (h.size + h.contents) os)) ≡ true) × (b ≡ fault code.SetOfOrder at))

pub alone_err : (ordered : Bool) (wanted : Tag → Bool) (read : Reader) (before : List ℕ) (at : ℕ) (os : List ℕ) (b : AbstractBreach) → item_alone ordered wanted read before at os ≡ Err b → AloneErr ordered wanted read before at os b
unfolding item_alone
alone_err ordered wanted read before at os b e =
    elim (bind_err (due_at wanted at os) (λ h. read at h os >>= λ v. ordered_item ordered before at os v h) b e) [
      | inl due ↦ inl (due_err wanted at os b due)
      | inr (h, due, rest) ↦
          let d = due_ok wanted at os h due in
          elim (bind_err (read at h os) (λ v. ordered_item ordered before at os v h) b rest) [
            | inl wrong ↦ inr (inl (h, d.0, d.1, wrong))
            | inr (v, got, order) ↦ elim (chosen (ordered && descends before (take (h.size + h.contents) os)) (Err (fault code.SetOfOrder at)) (Ok (v, h.size + h.contents)) (Err b) order) [
              | inl (down, is) ↦ inr (inr (h, v, d.0, d.1, got, down, sym (same_Err {A = AbstractValue × ℕ} (fault code.SetOfOrder at) b is)))
              | inr (up, none) ↦ absurd cc
            ]
          ]
    ]

pub item_err : (ordered : Bool) (wanted : Tag → Bool) (read : Reader) (i : ℕ) (before : List ℕ) (at : ℕ) (os : List ℕ) (b : AbstractBreach) → item_at ordered wanted read i before at os ≡ Err b
    → (c : AbstractBreach) × (item_alone ordered wanted read before at os ≡ Err c) × (b ≡ below (Element i) c)
unfolding item_at
item_err ordered wanted read i before at os b e = inside_err (Element i) (item_alone ordered wanted read before at os) b e

pub item_reads : (ordered : Bool) (wanted : Tag → Bool) (read : Reader) (i : ℕ) (before : List ℕ) (at : ℕ) (os : List ℕ) (x : AbstractValue × ℕ) → item_alone ordered wanted read before at os ≡ Ok x → item_at ordered wanted read i before at os ≡ Ok x
unfolding item_at
item_reads ordered wanted read i before at os x e = rw e refl

pub item_fails : (ordered : Bool) (wanted : Tag → Bool) (read : Reader) (i : ℕ) (before : List ℕ) (at : ℕ) (os : List ℕ) (c : AbstractBreach) → item_alone ordered wanted read before at os ≡ Err c
    → item_at ordered wanted read i before at os ≡ Err (below (Element i) c)
unfolding item_at
item_fails ordered wanted read i before at os c e = rw e refl

-- ---- elements one after the other

pub items_end : (tries : ℕ) (ordered : Bool) (wanted : Tag → Bool) (read : Reader) (i : ℕ) (before : List ℕ) (at : ℕ) → items_at tries ordered wanted read i before at [] ≡ Ok value.no_items
unfolding items_at
items_end zero ordered wanted read i before at = refl
items_end (suc tries) ordered wanted read i before at = refl

-- where octets are left, an element is read first
pub items_step : (tries : ℕ) (ordered : Bool) (wanted : Tag → Bool) (read : Reader) (i : ℕ) (before : List ℕ) (at : ℕ) (os : List ℕ) → 1 ≤ length os
    → items_at (suc tries) ordered wanted read i before at os ≡ (item_at ordered wanted read i before at os >>= λ x. items_at tries ordered wanted read (suc i) (take x.1 os) (at + x.1) (drop x.1 os) >>= λ vs. Ok (value.item x.0 vs))
unfolding items_at
items_step tries ordered wanted read i before at [] some = absurd (omega (arith, some))
items_step tries ordered wanted read i before at (o ∷ os) some = refl

pub items_on : (tries : ℕ) (ordered : Bool) (wanted : Tag → Bool) (read : Reader) (i : ℕ) (before : List ℕ) (at : ℕ) (os : List ℕ) (x : AbstractValue × ℕ) → 1 ≤ length os → item_at ordered wanted read i before at os ≡ Ok x
    → items_at (suc tries) ordered wanted read i before at os ≡ (items_at tries ordered wanted read (suc i) (take x.1 os) (at + x.1) (drop x.1 os) >>= λ vs. Ok (value.item x.0 vs))
items_on tries ordered wanted read i before at os x some e =
    items_step tries ordered wanted read i before at os some
    ∙ ap (λ (r : OneItem). r >>= λ x. items_at tries ordered wanted read (suc i) (take x.1 os) (at + x.1) (drop x.1 os) >>= λ vs. Ok (value.item x.0 vs)) e

pub items_fail : (tries : ℕ) (ordered : Bool) (wanted : Tag → Bool) (read : Reader) (i : ℕ) (before : List ℕ) (at : ℕ) (os : List ℕ) (b : AbstractBreach) → 1 ≤ length os → item_at ordered wanted read i before at os ≡ Err b
    → items_at (suc tries) ordered wanted read i before at os ≡ Err b
items_fail tries ordered wanted read i before at os b some e =
    items_step tries ordered wanted read i before at os some
    ∙ ap (λ (r : OneItem). r >>= λ x. items_at tries ordered wanted read (suc i) (take x.1 os) (at + x.1) (drop x.1 os) >>= λ vs. Ok (value.item x.0 vs)) e

-- ---- what is read fits, and its encodings are what was read

up_from : (ordered down : Bool) → (ordered && down) ≡ false → (not ordered || not down) ≡ true
up_from true down e = ap not e
up_from false down e = refl

not_down : (ordered down : Bool) → (not ordered || not down) ≡ true → (ordered && down) ≡ false
not_down true true e = absurd cc
not_down true false e = refl
not_down false down e = refl

both_up : (ordered a b : Bool) → (not ordered || a) ≡ true → (not ordered || b) ≡ true → (not ordered || (a && b)) ≡ true
both_up true a b e f = and_from a b e f
both_up false a b e f = refl

up_parts : (ordered a b : Bool) → (not ordered || (a && b)) ≡ true → ((not ordered || a) ≡ true) × ((not ordered || b) ≡ true)
up_parts true a b e = and_parts a b e
up_parts false a b e = (refl, refl)

pub any_up : (ordered : Bool) → (not ordered || true) ≡ true
any_up true = refl
any_up false = refl

pub ascends_first : (ordered : Bool) (before front : List ℕ) (others : List (List ℕ)) → (ordered && descends before front) ≡ false → (not ordered || ascend_from front others) ≡ true → (not ordered || ascend_from before (front ∷ others)) ≡ true
ascends_first ordered before front others up e = both_up ordered (not (descends before front)) (ascend_from front others) (up_from ordered (descends before front) up) e

ascends_parts : (ordered : Bool) (before front : List ℕ) (others : List (List ℕ)) → (not ordered || ascend_from before (front ∷ others)) ≡ true → ((ordered && descends before front) ≡ false) × ((not ordered || ascend_from front others) ≡ true)
ascends_parts ordered before front others e =
    let p = up_parts ordered (not (descends before front)) (ascend_from front others) e in
    (not_down ordered (descends before front) p.0, p.1)

pub record ItemsTaken (t : AbstractType) (ordered : Bool) (before : List ℕ) (os : List ℕ) (vs : Items) : Type 0 where
  pub encodings : List (List ℕ)
  pub fit : every_fits (fits t) vs ≡ true
  pub encoded : item_encodings (der t) vs ≡ Some encodings
  pub all : joined encodings ≡ os
  pub ascend : (not ordered || ascend_from before encodings) ≡ true

none_taken : (t : AbstractType) (ordered : Bool) (before : List ℕ) (vs : Items) → ◌≡◌ {A = Result Items AbstractBreach} (Ok value.no_items) (Ok vs) → ItemsTaken t ordered before [] vs
none_taken t ordered before vs e = subst (λ (x : Items). ItemsTaken t ordered before [] x) (same_Ok {F = AbstractBreach} value.no_items vs e)
    (record { encodings = []; fit = refl; encoded = refl; all = refl; ascend = any_up ordered })

pub encoded_first : (t : AbstractType) (v : AbstractValue) (vs : Items) (front : List ℕ) (others : List (List ℕ)) → der t v ≡ Some front → item_encodings (der t) vs ≡ Some others → item_encodings (der t) (value.item v vs) ≡ Some (front ∷ others)
encoded_first t v vs front others e f = rw (e, f) refl

pub items_takes : (tries : ℕ) (t : AbstractType) (ordered : Bool) (i : ℕ) (before : List ℕ) (at : ℕ) (os : List ℕ) (vs : Items) → LawfulType t → AreDigits 256 os
    → items_at tries ordered (λ tag. begins_with t tag) (element_at t) i before at os ≡ Ok vs → ItemsTaken t ordered before os vs
unfolding items_at
items_takes zero t ordered i before at [] vs law digits e = none_taken t ordered before vs e
items_takes (suc tries) t ordered i before at [] vs law digits e = none_taken t ordered before vs e
items_takes zero t ordered i before at (o ∷ os) vs law digits e = absurd cc
items_takes (suc tries) t ordered i before at (o ∷ os) vs law digits e =
    let a = bind_ok (item_at ordered (λ tag. begins_with t tag) (element_at t) i before at (o ∷ os))
    (λ x. items_at tries ordered (λ tag. begins_with t tag) (element_at t) (suc i) (take x.1 (o ∷ os)) (at + x.1) (drop x.1 (o ∷ os)) >>= λ vs. Ok (value.item x.0 vs)) vs e in
    let b = bind_ok (items_at tries ordered (λ tag. begins_with t tag) (element_at t) (suc i) (take a.0.1 (o ∷ os)) (at + a.0.1) (drop a.0.1 (o ∷ os))) (λ vs. Ok (value.item a.0.0 vs)) vs a.2 in
    let one = item_ok ordered (λ tag. begins_with t tag) (element_at t) i before at (o ∷ os) a.0 a.1 in
    let taken = law.takes at one.header (o ∷ os) a.0.0 digits one.stands one.due one.got in
    let encoded : der t a.0.0 ≡ Some (take a.0.1 (o ∷ os)) = taken.encoded ∙ ap (λ (n : ℕ). Some (take n (o ∷ os))) (sym one.size) in
    let rest = items_takes tries t ordered (suc i) (take a.0.1 (o ∷ os)) (at + a.0.1) (drop a.0.1 (o ∷ os)) b.0 law (digits_drop a.0.1 (o ∷ os) digits) b.1 in
    subst (λ (x : Items). ItemsTaken t ordered before (o ∷ os) x) (same_Ok {F = AbstractBreach} (value.item a.0.0 b.0) vs b.2)
    (record {
      encodings = take a.0.1 (o ∷ os) ∷ rest.encodings;
      fit = and_from (fits t a.0.0) (every_fits (fits t) b.0) taken.fits rest.fit;
      encoded = encoded_first t a.0.0 b.0 (take a.0.1 (o ∷ os)) rest.encodings encoded rest.encoded;
      all = ap (λ (x : List ℕ). take a.0.1 (o ∷ os) ++ x) rest.all ∙ take-append-drop a.0.1 (o ∷ os);
      ascend = ascends_first ordered before (take a.0.1 (o ∷ os)) rest.encodings one.ascends rest.ascend;
    })

-- ---- what fits is read

-- an encoding has an octet
pub some_front : (t : AbstractType) (v : AbstractValue) (front : List ℕ) → LawfulType t → fits t v ≡ true → der t v ≡ Some front → 1 ≤ length front
unfolding head_of
some_front t v [] law fit e = let a = law.again 0 v [] [] fit e in let none = a.stands in absurd cc
some_front t v (o ∷ os) law fit e = omega arith

-- what the encodings of elements come from
pub record FirstItem (t : AbstractType) (v : AbstractValue) (vs : Items) (es : List (List ℕ)) : Type 0 where
  pub front : List ℕ
  pub others : List (List ℕ)
  pub encoded : der t v ≡ Some front
  pub behind : item_encodings (der t) vs ≡ Some others
  pub parts : front ∷ others ≡ es

first_item : (t : AbstractType) (v : AbstractValue) (vs : Items) (es : List (List ℕ)) → item_encodings (der t) (value.item v vs) ≡ Some es → FirstItem t v vs es
first_item t v vs es e =
    let a = option_parts (der t v) (λ first. bind (item_encodings (der t) vs) (λ others. Some (first ∷ others))) es e in
    let b = option_parts (item_encodings (der t) vs) (λ others. Some (a.0 ∷ others)) es a.2 in
    record { front = a.0; others = b.0; encoded = a.1; behind = b.1; parts = same_Some (a.0 ∷ b.0) es b.2 }

pub count_octets : (t : AbstractType) (vs : Items) (es : List (List ℕ)) → LawfulType t → every_fits (fits t) vs ≡ true → item_encodings (der t) vs ≡ Some es → item_count vs ≤ length (joined es)
count_octets t value.no_items es law fit e = omega arith
count_octets t (value.item v vs) es law fit e =
    let f = first_item t v vs es e in
    let p = and_parts (fits t v) (every_fits (fits t) vs) fit in
    let len : length (joined es) ≡ length f.front + length (joined f.others) = ap (λ (x : List (List ℕ)). length (joined x)) (sym f.parts) ∙ length-append f.front (joined f.others) in
    omega (arith, len, some_front t v f.front law p.0 f.encoded, count_octets t vs f.others law p.1 f.behind)

abbrev pub append : Items → Items → Items
append value.no_items ws = ws
append (value.item v vs) ws = value.item v (append vs ws)

pub append_none : (vs : Items) → append vs value.no_items ≡ vs
append_none value.no_items = refl
append_none (value.item v vs) = ap (value.item v) (append_none vs)

-- these elements, and then what is read
abbrev pub prefixed : Items → Result Items AbstractBreach → Result Items AbstractBreach
prefixed vs (Ok ws) = Ok (append vs ws)
prefixed vs (Err b) = Err b

prefixed_none : (r : Result Items AbstractBreach) → prefixed value.no_items r ≡ r
prefixed_none (Ok ws) = refl
prefixed_none (Err b) = refl

prefixed_item : (v : AbstractValue) (vs : Items) (r : Result Items AbstractBreach) → (prefixed vs r >>= λ ws. Ok (value.item v ws)) ≡ prefixed (value.item v vs) r
prefixed_item v vs (Ok ws) = refl
prefixed_item v vs (Err b) = refl

-- the last of these encodings, or the one before them
abbrev pub last_behind : List ℕ → List (List ℕ) → List ℕ
last_behind before [] = before
last_behind before (os ∷ es) = last_behind os es

-- the first of several elements is read
one_through : (t : AbstractType) (ordered : Bool) (i : ℕ) (before : List ℕ) (at : ℕ) (v : AbstractValue) (front rest : List ℕ) → LawfulType t → fits t v ≡ true → der t v ≡ Some front → (ordered && descends before front) ≡ false
    → item_at ordered (λ tag. begins_with t tag) (element_at t) i before at (front ++ rest) ≡ Ok (v, length front)
one_through t ordered i before at v front rest law fit e up =
    let a = law.again at v front rest fit e in
    let same : take (a.header.size + a.header.contents) (front ++ rest) ≡ front = take_at front rest (a.header.size + a.header.contents) (sym a.size) in
    let kept : (ordered && descends before (take (a.header.size + a.header.contents) (front ++ rest))) ≡ false = ap (λ (x : List ℕ). ordered && descends before x) same ∙ up in
    item_reads ordered (λ tag. begins_with t tag) (element_at t) i before at (front ++ rest) (v, length front)
    (alone_reads ordered (λ tag. begins_with t tag) (element_at t) before at (front ++ rest) a.header v a.stands a.due a.read kept ∙ ap (λ (n : ℕ). Ok (v, n)) a.size)

abbrev pub Read : AbstractType → Bool → ℕ → ℕ → List ℕ → ℕ → List ℕ → Result Items AbstractBreach
Read t ordered tries i before at os = items_at tries ordered (λ tag. begins_with t tag) (element_at t) i before at os

-- elements that fit are passed, and what is after them is read
pub items_through : (t : AbstractType) (ordered : Bool) (vs : Items) (es : List (List ℕ)) (tries left i j at from : ℕ) (before os behind : List ℕ) → LawfulType t → every_fits (fits t) vs ≡ true → item_encodings (der t) vs ≡ Some es
    → (not ordered || ascend_from before es) ≡ true → tries ≡ item_count vs + left → j ≡ i + item_count vs → from ≡ at + length (joined es) → os ≡ joined es ++ behind
    → Read t ordered tries i before at os ≡ prefixed vs (Read t ordered left j (last_behind before es) from behind)
items_through t ordered value.no_items es tries left i j at from before os behind law fit e up more place offset parts =
    let none : [] ≡ es = same_Some [] es e in
    let n : tries ≡ left = omega (arith, more) in
    let p : i ≡ j = omega (arith, place) in
    let o : at ≡ from = omega (arith, offset, ap (λ (x : List (List ℕ)). length (joined x)) none) in
    let same : os ≡ behind = parts ∙ ap (λ (x : List (List ℕ)). joined x ++ behind) (sym none) in
    ap (λ (k : ℕ). Read t ordered k i before at os) n
    ∙ ap (λ (k : ℕ). Read t ordered left k before at os) p
    ∙ ap (λ (k : ℕ). Read t ordered left j before k os) o
    ∙ ap (λ (x : List ℕ). Read t ordered left j before from x) same
    ∙ ap (λ (x : List (List ℕ)). Read t ordered left j (last_behind before x) from behind) none
    ∙ sym (prefixed_none (Read t ordered left j (last_behind before es) from behind))
items_through t ordered (value.item v vs) es zero left i j at from before os behind law fit e up more place offset parts = absurd (omega (arith, more))
items_through t ordered (value.item v vs) es (suc tries) left i j at from before os behind law fit e up more place offset parts =
    let f = first_item t v vs es e in
    let p = and_parts (fits t v) (every_fits (fits t) vs) fit in
    let u = ascends_parts ordered before f.front f.others (ap (λ (x : List (List ℕ)). not ordered || ascend_from before x) f.parts ∙ up) in
    let rest : List ℕ = joined f.others ++ behind in
    let whole : os ≡ f.front ++ rest = parts ∙ ap (λ (x : List (List ℕ)). joined x ++ behind) (sym f.parts) ∙ append_assoc f.front (joined f.others) behind in
    let len : length (joined es) ≡ length f.front + length (joined f.others) = ap (λ (x : List (List ℕ)). length (joined x)) (sym f.parts) ∙ length-append f.front (joined f.others) in
    let some : 1 ≤ length (f.front ++ rest) = omega (arith, length-append f.front rest, some_front t v f.front law p.0 f.encoded) in
    let one = one_through t ordered i before at v f.front rest law p.0 f.encoded u.0 in
    let ih = items_through t ordered vs f.others tries left (suc i) j (at + length f.front) from f.front rest behind law p.1 f.behind u.1 (omega (arith, more)) (omega (arith, place)) (omega (arith, offset, len)) refl in
    ap (λ (x : List ℕ). Read t ordered (suc tries) i before at x) whole
    ∙ items_on tries ordered (λ tag. begins_with t tag) (element_at t) i before at (f.front ++ rest) (v, length f.front) some one
    ∙ ap (λ (x : List ℕ). Read t ordered tries (suc i) x (at + length f.front) (drop (length f.front) (f.front ++ rest)) >>= λ ws. Ok (value.item v ws)) (take_at f.front rest (length f.front) refl)
    ∙ ap (λ (x : List ℕ). Read t ordered tries (suc i) f.front (at + length f.front) x >>= λ ws. Ok (value.item v ws)) (drop_at f.front rest (length f.front) refl)
    ∙ ap (λ (r : Result Items AbstractBreach). r >>= λ ws. Ok (value.item v ws)) ih
    ∙ prefixed_item v vs (Read t ordered left j (last_behind f.front f.others) from behind)
    ∙ ap (λ (x : List (List ℕ)). prefixed (value.item v vs) (Read t ordered left j (last_behind before x) from behind)) f.parts
