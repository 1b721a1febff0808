-- Names that were seen, as a set: it has what a list of them has.
use Rattle.std.proofs.Common.{◌≡◌, ℕ, List, [], ◌∷◌, ◌++◌, map, Bool, true, false, cond, ◌||◌, not, Option, refl, ap, sym, ◌∙◌}
use Rattle.std.specs.Prelude.{bytes_eq}
use Rattle.std.specs.Borrow.{Bor}
use Rattle.std.specs.List.{list_any}
use Rattle.std.specs.Option.{is_some}
use Rattle.std.proofs.lemmas.List.Folds.{list_any-append}
use Rattle.toml.specs.Data.{Members}
use Rattle.guard_policy.specs.declared.entry.Entry.TheVariants as place
use Rattle.guard_policy.specs.declared.entry.Key.TheVariants.{Name, Effect, Message}
use Rattle.guard_policy.specs.Documents.{text_of}
use Rattle.guard_der.specs.NamedTypes.{AbstractTypes}
use Rattle.guard_policy.specs.Entries.{effect_named, type_in}
use Rattle.guard_policy.specs.EntryFaults.{keys_fault, has_names, message_fault, rule_fault}
use Rattle.guard_policy.specs.Names.{is_name}
use Rattle.guard_policy.specs.PolicyFaults.{AbstractFault, first_of, unless, message_keys, rule_keys, bad_name, duplicate_name, no_such_type, no_such_message, bad_effect}
use Rattle.guard_policy.specs.inside.Said.{HaveSame}
use Rattle.guard_policy.proofs.Listed.{alike}

pub any_now : (q : List ℕ) (ks : List (Bor (List ℕ))) → list_any (bytes_eq q) (map (λ k. k.now) ks) ≡ list_any (λ k. bytes_eq q k.now) ks
any_now q [] = refl
any_now q (k ∷ ks) = ap (λ (b : Bool). bytes_eq q k.now || b) (any_now q ks)

last_or : (b x : Bool) → cond b true x ≡ (x || (b || false))
last_or true true = refl
last_or true false = refl
last_or false true = refl
last_or false false = refl

-- one name more
pub seen_more : (old new : List (Bor (List ℕ))) (others : List (List ℕ)) (k : List ℕ)
    → ((q : List ℕ) → list_any (λ x. bytes_eq q x.now) new ≡ cond (bytes_eq k q) true (list_any (λ x. bytes_eq q x.now) old))
    → HaveSame (map (λ x. x.now) old) others → HaveSame (map (λ x. x.now) new) (others ++ k ∷ [])
seen_more old new others k is same q =
    any_now q new ∙ is q
    ∙ ap (λ (b : Bool). cond b true (list_any (λ x. bytes_eq q x.now) old)) (alike k q)
    ∙ ap (cond (bytes_eq q k) true) (sym (any_now q old) ∙ same q)
    ∙ last_or (bytes_eq q k) (list_any (bytes_eq q) others)
    ∙ sym (list_any-append (bytes_eq q) others (k ∷ []))

-- the same, where the set has what the names before and this one have
pub seen_one : (new old others : List (List ℕ)) (k : List ℕ) → HaveSame new (old ++ k ∷ []) → HaveSame old others → HaveSame new (others ++ k ∷ [])
seen_one new old others k is same q =
    is q ∙ list_any-append (bytes_eq q) old (k ∷ []) ∙ ap (λ (b : Bool). b || list_any (bytes_eq q) (k ∷ [])) (same q)
    ∙ sym (list_any-append (bytes_eq q) others (k ∷ []))

-- ---- faults that speak of such names

message_with : AbstractTypes → Bool → ℕ → Members → Option AbstractFault
message_with s before number entry = first_of (
    keys_fault (place.Message number) message_keys entry
    ∷ unless (is_name (text_of Name entry)) (bad_name (place.Message number))
    ∷ unless (not before) (duplicate_name (place.Message number))
    ∷ unless (is_some (type_in s entry)) (no_such_type (place.Message number))
    ∷ [])

pub message_same : (s : AbstractTypes) (before others : List (List ℕ)) (n : ℕ) (entry : Members) → HaveSame before others
    → message_fault s before n entry ≡ message_fault s others n entry
unfolding message_with
message_same s before others n entry same = ap (λ (b : Bool). message_with s b n entry) (same (text_of Name entry))

rule_with : AbstractTypes → Bool → Bool → ℕ → Members → Option AbstractFault
rule_with s declared before number entry = first_of (
    keys_fault (place.Rule number) rule_keys entry
    ∷ unless (has_names entry) (bad_name (place.Rule number))
    ∷ unless (not before) (duplicate_name (place.Rule number))
    ∷ unless (is_some (effect_named (text_of Effect entry))) (bad_effect (place.Rule number))
    ∷ unless declared (no_such_message (place.Rule number))
    ∷ unless (is_some (type_in s entry)) (no_such_type (place.Rule number))
    ∷ [])

pub rule_same : (s : AbstractTypes) (declared messages before others : List (List ℕ)) (n : ℕ) (entry : Members) → HaveSame declared messages → HaveSame before others
    → rule_fault s declared before n entry ≡ rule_fault s messages others n entry
unfolding rule_with
rule_same s declared messages before others n entry same_messages same =
    ap (λ (b : Bool). rule_with s (list_any (bytes_eq (text_of Message entry)) declared) b n entry) (same (text_of Name entry))
    ∙ ap (λ (b : Bool). rule_with s b (list_any (bytes_eq (text_of Name entry)) others) n entry) (same_messages (text_of Message entry))
