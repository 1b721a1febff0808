-- What a policy decides of a body, by the octets of its names or by the names.
use Rattle.std.proofs.Common.{◌≡◌, ◌∙◌, ◌-◌, ◌≤◌, List, ℕ, ◌++◌, true, false, ap, sym, subst, length, take, length-append, arith}
use Rattle.std.specs.Prelude.{Option, Some, None, IfSome}
use Rattle.std.proofs.lemmas.Bool.{false≢true}
use Rattle.std.proofs.lemmas.List.{append_assoc}
use Rattle.std.proofs.Math.Seq.{take-append_seam}
use Rattle.guard_policy.specs.declared.found_route.FoundRoute.{FoundRoute}
use Rattle.guard_policy.specs.declared.passing.Passing.{Passing}
use Rattle.guard_policy.specs.declared.passing.Passing.TheVariants as passing
use Rattle.guard_policy.specs.FoundRoutes.{Answers, Decides}
use Rattle.guard_policy.specs.NamedRoutes.{with_length, IsGiven}
use Rattle.guard_policy.specs.Policies.{AbstractPolicy, AbstractRoute, AbstractRule}
use Rattle.guard_policy.specs.Told.{Tells}
use Rattle.guard_frames.specs.Bodies.{AbstractBody, IsBody, HasNames, header_of, named, parts_in, has_names}
use Rattle.guard_frames.specs.OfPolicy.{route_of, route_body, decision_of, lets_of, reasons_of}
use Rattle.guard_frames.specs.Outcomes.{IsDecided}
use Rattle.guard_frames.specs.Recalling.{recalled, Recalls}
use Rattle.guard_frames.specs.declared.decision.Decided.{Decided}
use Rattle.guard_frames.specs.declared.last_route.LastRoute.{LastRoute}
use Rattle.guard_frames.specs.Deciding.{decided}
use Rattle.guard_frames.proofs.HeaderLaws.{names_in, names_again, parts_take, same_parts}

-- ---- the names, and the message after them

split_of : (octets : List ℕ) (b : AbstractBody) → Some b ≡ parts_in octets → octets ≡ header_of b ++ b.message_octets
split_of octets b e =
    parts_take octets b (sym e)
    ∙ sym (append_assoc (named b.sender) (named b.receiver ++ named b.name) b.message_octets
    ∙ ap (λ (rest : List ℕ). named b.sender ++ rest) (append_assoc (named b.receiver) (named b.name) b.message_octets))

pub message_within : (octets : List ℕ) (b : AbstractBody) → Some b ≡ parts_in octets → length b.message_octets ≤ length octets
message_within octets b e = omega (arith, ap length (split_of octets b e), length-append (header_of b) b.message_octets)

-- what lies before the message
pub header_first : (octets : List ℕ) (b : AbstractBody) → Some b ≡ parts_in octets → take (length octets - length b.message_octets) octets ≡ header_of b
header_first octets b e =
    let split : octets ≡ header_of b ++ b.message_octets = split_of octets b e in
    let long : length octets - length b.message_octets ≡ length (header_of b) = omega (arith, ap length split, length-append (header_of b) b.message_octets) in
    ap (λ k. take k octets) long ∙ ap (take (length (header_of b))) split ∙ take-append_seam (header_of b) b.message_octets

-- and the message
pub names_before : (octets : List ℕ) (b : AbstractBody) → Some b ≡ parts_in octets → octets ≡ take (length octets - length b.message_octets) octets ++ b.message_octets
names_before octets b e = split_of octets b e ∙ ap (λ (x : List ℕ). x ++ b.message_octets) (sym (header_first octets b e))

-- ---- what is told of the body that the octets are

decided_of : (p : AbstractPolicy) (octets : List ℕ) (b : AbstractBody) (told : Passing) → IsBody octets b → Tells p (route_of b) b.message_octets told
    → IsDecided (decision_of p) (lets_of p) (reasons_of p) octets (decided told)
decided_of p octets b (passing.Goes rule) is by = (record { body = b; is = is; decided = by.0 }, (b, is, by))
decided_of p octets b (passing.Stopped reason) is stays = (b, is, stays.0, stays.1)

-- ---- where some rule gives the names

given_body : (rules : List AbstractRule) (octets names message : List ℕ) (route : AbstractRoute) → octets ≡ names ++ message → IsGiven rules names route
    → IsBody octets (route_body route message)
given_body rules octets names message route whole given =
    let from = with_length route.from in
    let to = with_length route.to in
    let name = with_length route.message in
    let joined : octets ≡ from ++ (to ++ (name ++ message)) =
    whole ∙ ap (λ (front : List ℕ). front ++ message) given.octets
    ∙ append_assoc from (to ++ name) message ∙ ap (λ (rest : List ℕ). from ++ rest) (append_assoc to name message) in
    record { joined = joined; names = names_in (route_body route message) given.plain }

pub decided_as_given : (p : AbstractPolicy) (octets names message : List ℕ) (told : Passing) (answer : Decided) → octets ≡ names ++ message →
    ((route : AbstractRoute) × IsGiven p.rules names route × Tells p route message told) → answer ≡ decided told
    → IsDecided (decision_of p) (lets_of p) (reasons_of p) octets answer
decided_as_given p octets names message told answer whole (route, given, tells) is =
    rw is (decided_of p octets (route_body route message) told (given_body p.rules octets names message route whole given) tells)

-- ---- by the names

pub decided_as_named : (p : AbstractPolicy) (octets : List ℕ) (b : AbstractBody) (told : Passing) (answer : Decided) → Some b ≡ parts_in octets → has_names b ≡ true
    → Tells p (route_of b) b.message_octets told → answer ≡ decided told → IsDecided (decision_of p) (lets_of p) (reasons_of p) octets answer
decided_as_named p octets b told answer there named tells is =
    rw is (decided_of p octets b told (record { joined = parts_take octets b (sym there); names = names_in b named }) tells)

-- what is in their places isn't names
pub misnamed : (octets : List ℕ) (b : AbstractBody) → Some b ≡ parts_in octets → has_names b ≡ false → (c : AbstractBody) → IsBody octets c → ⊥
misnamed octets b there none c is = false≢true (sym none ∙ names_again b (subst HasNames (same_parts octets b c there is) is.names))

-- ---- by what was found of a route before

-- the header of a body before another message
with_message : (b : AbstractBody) (message : List ℕ) → has_names b ≡ true → IsBody (header_of b ++ message) (record { sender = b.sender; receiver = b.receiver; name = b.name; message_octets = message })
with_message b message names = record {
  joined =
      append_assoc (named b.sender) (named b.receiver ++ named b.name) message
      ∙ ap (λ (rest : List ℕ). named b.sender ++ rest) (append_assoc (named b.receiver) (named b.name) message);
  names = (let n = names_in b names in record { sender = n.sender; receiver = n.receiver; name = n.name });
}

pub decided_as_recalled : (p : AbstractPolicy) (octets header message : List ℕ) (found : FoundRoute) (last : LastRoute) (told : Passing) (answer : Decided)
    → Recalls (decision_of p) (lets_of p) (reasons_of p) last → recalled last ≡ Some (header, found) → octets ≡ header ++ message → Answers found message told → answer ≡ decided told
    → IsDecided (decision_of p) (lets_of p) (reasons_of p) octets answer
decided_as_recalled p octets header message found last told answer recalls is whole answers same =
    rw (whole, same) (subst (λ (o : Option (List ℕ × FoundRoute)). IfSome o (λ x. (m : List ℕ) (t : Passing) → Answers x.1 m t → IsDecided (decision_of p) (lets_of p) (reasons_of p) (x.0 ++ m) (decided t)))
    is recalls message told answers)

-- what is kept of a body's header and its route
pub recalls_kept : (p : AbstractPolicy) (b : AbstractBody) (header : List ℕ) (found : FoundRoute) (o : Option (List ℕ × FoundRoute)) → has_names b ≡ true → header ≡ header_of b → Decides p (route_of b) found
    → IfSome o (λ last. (last.0 ≡ header) × (last.1 ≡ found))
    → IfSome o (λ x. (m : List ℕ) (t : Passing) → Answers x.1 m t → IsDecided (decision_of p) (lets_of p) (reasons_of p) (x.0 ++ m) (decided t))
recalls_kept p b header found None names is decides kept = tt
recalls_kept p b header found (Some x) names is decides (same, route) = λ m t answers.
    rw (same ∙ is) (decided_of p (header_of b ++ m) _ t (with_message b m names) (decides m t (subst (λ (f : FoundRoute). Answers f m t) route answers)))
