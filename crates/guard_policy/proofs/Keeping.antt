-- What is kept of messages and rules represents them.
use Rattle.std.proofs.Common.{◌≡◌, ℕ, zero, suc, ◌+◌, ◌≤◌, List, [], ◌∷◌, drop, map, slice_get, Bool, true, false, ◌||◌, cond, Option, Some, None, option_map, option_and_then, unwrap_or, string_bytes, count_by, All, refl, ap, sym, ◌∙◌, subst, arith}
use Rattle.std.specs.Arc.{arc_value}
use Rattle.std.specs.Prelude.{bytes_eq, nat_lt, IsTrue}
use Rattle.std.specs.List.{list_any}
use Rattle.std.proofs.lemmas.Bool.Decides.{nat_tests}
use Rattle.std.specs.Borrow.{Bor}
use Rattle.std.proofs.lemmas.List.Elements.{All-get_or}
use Rattle.std.proofs.lemmas.List.Sums.{sum_by-cons}
use Rattle.std.proofs.lemmas.Option.{same_Some, slice_get-map, slice_get_within, get_or_from_slice_get}
use Rattle.std.proofs.lemmas.Slice.Eq.{bytes_eq-Decides}
use Rattle.guard_model.specs.AbstractType.{AbstractType}
use Rattle.guard_der.specs.Sound.{is_sound}
use Rattle.guard_tables.specs.TableView.{rules_of}
use Rattle.guard_policy.specs.declared.index.Listed.{Listed}
use Rattle.guard_policy.specs.declared.kept.KeptMessage.{KeptMessage}
use Rattle.guard_policy.specs.declared.kept.KeptRule.{KeptRule}
use Rattle.guard_policy.specs.declared.kept.TypePlace.{TypePlace}
use Rattle.guard_policy.specs.Consistency.{types_for}
use Rattle.guard_policy.specs.KeptView.{kept_message_view, kept_rule_view, found_type, no_type}
use Rattle.guard_policy.specs.inside.Listings.{AbstractListed, place_among, numbers_for, listing, listed_view}
use Rattle.guard_policy.specs.Policies.{AbstractMessage, AbstractRule, message_names, message_among, declared_among}
use Rattle.guard_policy.specs.inside.Keeping.{Tabled, tabled_view, tabled, type_place, IsSaid, IsFirst, AreDeclared}
use Rattle.guard_policy.proofs.Listed.{drop_get, drop_rest, alike, listed_parts, unlisted}

-- ---- messages

first_type : List AbstractType → AbstractType
first_type [] = no_type
first_type (t ∷ ts) = t

as_message : Tabled → AbstractMessage
as_message t = record { name = t.name; home = t.home; ty = first_type t.types }

messages_in : (ms : List KeptMessage) → map as_message (map tabled_view ms) ≡ map kept_message_view ms
unfolding as_message first_type
messages_in [] = refl
messages_in (m ∷ ms) = ap (λ (others : List AbstractMessage). kept_message_view m ∷ others) (messages_in ms)

messages_of : (rules : List AbstractRule) (messages : List AbstractMessage) → map as_message (map (tabled rules) messages) ≡ messages
unfolding as_message first_type
messages_of rules [] = refl
messages_of rules (m ∷ ms) = ap (λ (others : List AbstractMessage). m ∷ others) (messages_of rules ms)

-- with their tables they are the messages
pub same_messages : (ms : List KeptMessage) (rules : List AbstractRule) (messages : List AbstractMessage)
    → map tabled_view ms ≡ map (tabled rules) messages → map kept_message_view ms ≡ messages
same_messages ms rules messages e = sym (messages_in ms) ∙ ap (map as_message) e ∙ messages_of rules messages

-- ---- the message of a name

-- it is at the first place
message_at : (all rest : List AbstractMessage) (i place : ℕ) (name : List ℕ) → drop i all ≡ rest → place_among name i rest ≡ Some place
    → message_among rest name ≡ slice_get all place
message_at all [] i place name is e = absurd cc
message_at all (m ∷ ms) i place name is e =
    let f = λ (b : Bool). cond b (Some i) (place_among name (i + 1) ms) ≡ Some place → cond b (Some m) (message_among ms name) ≡ slice_get all place in
    (elim (bytes_eq m.name name) as f [
      | true ↦ λ (here : Some i ≡ Some place). sym (ap (slice_get all) (sym (same_Some _ _ here)) ∙ drop_get all i m ms is)
      | false ↦ message_at all ms (i + 1) place name (drop_rest all i m ms is)
    ]) e

pub message_first : (name : List ℕ) (ms : List KeptMessage) (m : KeptMessage) → IsFirst name ms m → message_among (map kept_message_view ms) name ≡ Some (kept_message_view m)
message_first name ms m first =
    message_at (map kept_message_view ms) (map kept_message_view ms) 0 first.place name refl first.first
    ∙ slice_get-map kept_message_view ms first.place ∙ ap (option_map kept_message_view) first.there

-- where no type is declared there is none
pub no_message : (messages : List AbstractMessage) (name : List ℕ) → declared_among messages name ≡ None → message_among messages name ≡ None
no_message [] name e = refl
no_message (m ∷ ms) name e =
    let f = λ (b : Bool). cond b (Some m.ty) (declared_among ms name) ≡ None → cond b (Some m) (message_among ms name) ≡ None in
    (elim (bytes_eq m.name name) as f [
      | true ↦ λ (there : Some m.ty ≡ None). absurd cc
      | false ↦ no_message ms name
    ]) e

-- ---- the type of a rule in its table

-- the first message of a name has it
pub first_named : (all rest : List AbstractMessage) (i place : ℕ) (name : List ℕ) → drop i all ≡ rest → place_among name i rest ≡ Some place
    → (m : AbstractMessage) × (slice_get all place ≡ Some m) × (m.name ≡ name)
first_named all [] i place name is e = absurd cc
first_named all (m ∷ ms) i place name is e =
    let f = λ (b : Bool). bytes_eq m.name name ≡ b → cond b (Some i) (place_among name (i + 1) ms) ≡ Some place
    → (x : AbstractMessage) × (slice_get all place ≡ Some x) × (x.name ≡ name) in
    (elim (bytes_eq m.name name) as f [
      | true ↦ λ same here. (m, ap (slice_get all) (sym (same_Some _ _ here)) ∙ drop_get all i m ms is, (bytes_eq-Decides m.name name).0 same)
      | false ↦ λ other there. first_named all ms (i + 1) place name (drop_rest all i m ms is) there
    ]) refl e

-- none of the numbers from i on comes before an earlier one
none_before : (name : List ℕ) (i n : ℕ) (rules : List AbstractRule) → n ≤ i → count_by (λ k. nat_lt k n) (numbers_for name i rules) ≡ 0
none_before name i n [] le = refl
none_before name i n (r ∷ rs) le =
    let rest = none_before name (i + 1) n rs (omega (arith, le)) in
    let past : nat_lt i n ≡ false = grind (arith, nat_tests, le) in
    let none : 0 + count_by (λ k. nat_lt k n) (numbers_for name (i + 1) rs) ≡ count_by (λ k. nat_lt k n) (numbers_for name (i + 1) rs) = omega arith in
    elim (bytes_eq r.message name) as (λ (b : Bool). count_by (λ k. nat_lt k n) (cond b (i ∷ numbers_for name (i + 1) rs) (numbers_for name (i + 1) rs)) ≡ 0) [
      | true ↦ sum_by-cons (λ (k : ℕ). cond (nat_lt k n) 1 0) i (numbers_for name (i + 1) rs) ∙ ap (λ (b : Bool). cond b 1 0 + count_by (λ k. nat_lt k n) (numbers_for name (i + 1) rs)) past ∙ none ∙ rest
      | false ↦ rest
    ]

-- the type of the rule of a number is at the place that counts the numbers of its message before it, where the first
-- rule has number i
type_there : (all : List AbstractRule) (i n : ℕ) (r : AbstractRule) (name : List ℕ) → slice_get all n ≡ Some r → bytes_eq r.message name ≡ true
    → slice_get (types_for name all) (count_by (λ k. nat_lt k (i + n)) (numbers_for name i all)) ≡ Some r.ty
type_there [] i n r name there named = absurd cc
type_there (x ∷ xs) i zero r name there named =
    let same : x ≡ r = same_Some _ _ there in
    ap (slice_get (types_for name (x ∷ xs))) (none_before name i (i + 0) (x ∷ xs) (omega arith))
    ∙ ap (λ (b : Bool). slice_get (cond b (x.ty ∷ types_for name xs) (types_for name xs)) 0) (ap (λ (y : AbstractRule). bytes_eq y.message name) same ∙ named)
    ∙ ap (λ (y : AbstractRule). Some y.ty) same
type_there (x ∷ xs) i (suc n) r name there named =
    let rest = numbers_for name (i + 1) xs in
    let next : i + 1 + n ≡ i + suc n = omega arith in
    let before = count_by (λ k. nat_lt k (i + suc n)) rest in
    let below : nat_lt i (i + suc n) ≡ true = grind (arith, nat_tests) in
    let more : slice_get (types_for name xs) before ≡ Some r.ty =
    subst (λ (m : ℕ). slice_get (types_for name xs) (count_by (λ k. nat_lt k m) rest) ≡ Some r.ty) next (type_there xs (i + 1) n r name there named) in
    elim (bytes_eq x.message name) as (λ (b : Bool). slice_get (cond b (x.ty ∷ types_for name xs) (types_for name xs)) (count_by (λ k. nat_lt k (i + suc n)) (cond b (i ∷ rest) rest)) ≡ Some r.ty) [
      | true ↦
          let up : 1 + before ≡ suc before = omega arith in
          ap (slice_get (x.ty ∷ types_for name xs)) (sum_by-cons (λ (k : ℕ). cond (nat_lt k (i + suc n)) 1 0) i rest ∙ ap (λ (b : Bool). cond b 1 0 + before) below ∙ up) ∙ more
      | false ↦ more
    ]

tabled_there : (ms : List KeptMessage) (place : ℕ) (t : Tabled) → slice_get (map tabled_view ms) place ≡ Some t
    → (m : KeptMessage) × (slice_get ms place ≡ Some m) × (tabled_view m ≡ t)
tabled_there [] place t e = absurd cc
tabled_there (m ∷ ms) zero t e = (m, refl, same_Some _ _ e)
tabled_there (m ∷ ms) (suc place) t e = tabled_there ms place t e

rest_of : List AbstractType → List AbstractType
rest_of [] = []
rest_of (t ∷ ts) = ts

-- the type of a rule is found where it is kept
type_found : (messages : List AbstractMessage) (all : List AbstractRule) (n : ℕ) (r : AbstractRule) (l : AbstractListed) (ms : List KeptMessage)
    → slice_get all n ≡ Some r → map tabled_view ms ≡ map (tabled all) messages → listing messages all r.message ≡ Some l
    → found_type ms (type_place l n) ≡ Some r.ty
unfolding rest_of
type_found messages all n r l ms there tables is =
    let parts = listed_parts messages all r.message l is in
    let message = first_named messages messages 0 l.place r.message refl parts.0 in
    let kept = tabled_there ms l.place (tabled all message.0) (ap (λ (ts : List Tabled). slice_get ts l.place) tables ∙ slice_get-map (tabled all) messages l.place ∙ ap (option_map (tabled all)) message.1) in
    let types : rules_of (arc_value kept.0.table) ≡ types_for r.message all = ap (λ (t : Tabled). rest_of t.types) kept.2 ∙ ap (λ (name : List ℕ). types_for name all) message.2 in
    let count = count_by (λ k. nat_lt k n) l.numbers in
    let from_first : 0 + n ≡ n = omega arith in
    let there_from_first : slice_get (types_for r.message all) count ≡ Some r.ty =
    subst (λ (ns : List ℕ). slice_get (types_for r.message all) (count_by (λ k. nat_lt k n) ns) ≡ Some r.ty) (sym parts.1)
    (subst (λ (m : ℕ). slice_get (types_for r.message all) (count_by (λ k. nat_lt k m) (numbers_for r.message 0 all)) ≡ Some r.ty) from_first
    (type_there all 0 n r r.message there ((bytes_eq-Decides r.message r.message).1 refl))) in
    ap (λ (o : Option KeptMessage). option_and_then (λ (m : KeptMessage). slice_get (rules_of (arc_value m.table)) count) o) kept.1
    ∙ ap (λ (ts : List AbstractType). slice_get ts count) types ∙ there_from_first

as_said : (ms : List KeptMessage) (kept : KeptRule) (r : AbstractRule) → IsSaid r kept → found_type ms kept.ty ≡ Some r.ty → kept_rule_view ms kept ≡ r
as_said ms kept r said found =
    let ty : unwrap_or (found_type ms kept.ty) no_type ≡ r.ty = ap (λ (o : Option AbstractType). unwrap_or o no_type) found in
    let name = said.name in let effect = said.effect in let from = said.from in let to = said.to in let message = said.message in
    let home = said.home in let type_name = said.type_name in
    rw (name, effect, from, to, message, home, type_name, ty) refl

-- what is kept of the rule of this number represents it
pub kept_one : (messages : List AbstractMessage) (all : List AbstractRule) (n : ℕ) (r : AbstractRule) (l : AbstractListed) (kept : KeptRule)
    → slice_get all n ≡ Some r → listing messages all r.message ≡ Some l → kept.ty ≡ type_place l n → IsSaid r kept
    → ((ms : List KeptMessage) → map tabled_view ms ≡ map (tabled all) messages → kept_rule_view ms kept ≡ r)
    × (place_among (string_bytes kept.message) 0 messages ≡ Some kept.ty.message)
kept_one messages all n r l kept there listed is said = (
  λ ms tables. as_said ms kept r said (ap (found_type ms) is ∙ type_found messages all n r l ms there tables listed),
  ap (λ (name : List ℕ). place_among name 0 messages) said.message ∙ (listed_parts messages all r.message l listed).0
      ∙ ap (λ (at : TypePlace). Some at.message) (sym is),
)

-- ---- a rule's message is listed, where it is declared

has_place : (messages : List AbstractMessage) (name : List ℕ) (i : ℕ) → list_any (bytes_eq name) (message_names messages) ≡ true → place_among name i messages ≡ None → ⊥
has_place [] name i there none = absurd cc
has_place (m ∷ ms) name i there none =
    (elim (bytes_eq m.name name) as (λ (b : Bool). bytes_eq m.name name ≡ b → cond b (Some i) (place_among name (i + 1) ms) ≡ None → ⊥) [
      | true ↦ λ same e. absurd cc
      | false ↦ λ other e.
          has_place ms name (i + 1)
          (ap (λ (b : Bool). b || list_any (bytes_eq name) (message_names ms)) (sym (alike name m.name ∙ other)) ∙ there) e
    ]) refl none

pub is_listed : (messages : List AbstractMessage) (rules : List AbstractRule) (n : ℕ) (r : AbstractRule) → slice_get rules n ≡ Some r
    → AreDeclared messages rules → listing messages rules r.message ≡ None → ⊥
is_listed messages rules n r there declared none =
    let declares = λ (x : AbstractRule). IsTrue (list_any (bytes_eq x.message) (message_names messages)) in
    has_place messages r.message 0
    (subst declares (get_or_from_slice_get rules n r r there) (All-get_or declares rules n r (slice_get_within rules n r there) declared))
    (unlisted messages rules r.message none)

-- ---- the place of a message, as it is found by its name

place_listed : (name : List ℕ) (rules : List AbstractRule) (o : Option ℕ)
    → option_map (λ (l : AbstractListed). l.place) (option_map (λ place. record { place = place; numbers = numbers_for name 0 rules }) o) ≡ o
place_listed name rules None = refl
place_listed name rules (Some p) = refl

place_viewed : (o : Option (Bor Listed)) → option_map (λ l. l.now.place) o ≡ option_map (λ (l : AbstractListed). l.place) (option_map (λ l. listed_view l.now) o)
place_viewed None = refl
place_viewed (Some l) = refl

pub place_found : (messages : List AbstractMessage) (rules : List AbstractRule) (name : List ℕ) (found : Option (Bor Listed))
    → option_map (λ l. listed_view l.now) found ≡ listing messages rules name → place_among name 0 messages ≡ option_map (λ l. l.now.place) found
place_found messages rules name found e =
    sym (place_viewed found ∙ ap (option_map (λ (l : AbstractListed). l.place)) e ∙ place_listed name rules (place_among name 0 messages))

-- ---- a rule with its type

pub type_missing : (ms : List KeptMessage) (rules : List AbstractRule) (n : ℕ) (r : KeptRule) → Some (kept_rule_view ms r) ≡ slice_get rules n
    → All (λ x. IsTrue (is_sound x.ty)) rules → None ≡ found_type ms r.ty → ⊥
type_missing ms rules n r there sound none =
    let at = sym there in
    let here : IsTrue (is_sound (kept_rule_view ms r).ty) =
    subst (λ (x : AbstractRule). IsTrue (is_sound x.ty)) (get_or_from_slice_get rules n (kept_rule_view ms r) (kept_rule_view ms r) at)
    (All-get_or (λ (x : AbstractRule). IsTrue (is_sound x.ty)) rules n (kept_rule_view ms r) (slice_get_within rules n (kept_rule_view ms r) at) sound) in
    let e : false ≡ true = subst (λ (o : Option AbstractType). IsTrue (is_sound (unwrap_or o no_type))) (sym none) here in
    absurd cc

pub typed_is : (ms : List KeptMessage) (r : KeptRule) (t : AbstractType) → Some t ≡ found_type ms r.ty
    → ◌≡◌ {A = AbstractRule} (record { name = string_bytes r.name; effect = r.effect; from = string_bytes r.from; to = string_bytes r.to; message = string_bytes r.message; home = string_bytes r.home; type_name = string_bytes r.type_name; ty = t }) (kept_rule_view ms r)
typed_is ms r t e =
    ap (λ (o : Option AbstractType). record { name = string_bytes r.name; effect = r.effect; from = string_bytes r.from; to = string_bytes r.to; message = string_bytes r.message; home = string_bytes r.home; type_name = string_bytes r.type_name; ty = unwrap_or o no_type }) e
