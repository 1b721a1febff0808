-- Octets that are the three names of a route, as the body of a frame without a message, and what is asked by them.
use Rattle.std.proofs.Common.{◌≡◌, ◌∙◌, ◌↔◌, ◌++◌, Bool, true, false, List, ℕ, [], ◌∷◌, length, arith, ap, refl, sym, subst}
use Rattle.std.proofs.lemmas.Bool.{false≢true}
use Rattle.std.specs.Prelude.{IsTrue, Option, Some, None, Result, Ok, Err, if◌then◌else◌}
use Rattle.std.proofs.lemmas.List.{append-nil}
use Rattle.guard_policy.specs.Names.{is_plain}
use Rattle.guard_policy.specs.NamedRoutes.{with_length, IsGiven}
use Rattle.guard_policy.specs.Policies.{AbstractPolicy, AbstractRoute}
use Rattle.guard_policy.specs.Decisions.{Goes}
use Rattle.guard_frames.specs.Bodies.{AbstractBody, IsBody, HasNames, named, body_in}
use Rattle.guard_frames.specs.OfPolicy.{route_of}
use Rattle.guard_frames.proofs.HeaderLaws.{names_in, body_takes, one_body, no_body, none_is_not}
use Rattle.guard_c.specs.declared.status.Status.{Status}
use Rattle.guard_c.specs.declared.status.Status.TheVariants.{NoPolicy, BadNames, OutOfMemory}
use Rattle.guard_c.specs.Asking.{AreNamesOf, Passes, PassesOn, SaidBy, SaidOn}
use Rattle.guard_c.specs.inside.Asked.{if_plain, IsRouteIn, GoesOn, Says}

pub empty_list : (xs : List ℕ) → length xs ≡ 0 → xs ≡ []
empty_list [] none = refl
empty_list (x ∷ xs) none = absurd (omega (arith, none))

abbrev pub body_of : AbstractRoute → AbstractBody
body_of route = record { sender = route.from; receiver = route.to; name = route.message; message_octets = [] }

pub names_body : (names : List ℕ) (route : AbstractRoute) → AreNamesOf names route → IsBody names (body_of route)
names_body names route are = record {
  joined = are.joined ∙ ap (λ (name : List ℕ). with_length route.from ++ (with_length route.to ++ name)) (sym (append-nil (with_length route.message)));
  names = names_in (body_of route) are.plain;
}

pub no_names : (names : List ℕ) → None ≡ body_in names → (route : AbstractRoute) → AreNamesOf names route → ⊥
no_names names none route are = no_body names none (body_of route) (names_body names route are)

-- names with something after them are none
pub names_alone : (names : List ℕ) (b : AbstractBody) → Some b ≡ body_in names → (route : AbstractRoute) → AreNamesOf names route → b.message_octets ≡ []
names_alone names b there route are = ap (λ (c : AbstractBody). c.message_octets) (one_body names b (body_of route) (body_takes names b (sym there)) (names_body names route are))

all_names : (b : AbstractBody) → HasNames b → IsTrue (is_plain (route_of b))
all_names b h = rw (h.sender, h.receiver, h.name) refl

pub are_names : (names : List ℕ) (b : AbstractBody) → Some b ≡ body_in names → b.message_octets ≡ [] → AreNamesOf names (route_of b)
are_names names b there alone =
    let is = body_takes names b (sym there) in
    record {
      joined = is.joined ∙ ap (λ (rest : List ℕ). named b.sender ++ (named b.receiver ++ (named b.name ++ rest))) alone
          ∙ ap (λ (name : List ℕ). named b.sender ++ (named b.receiver ++ name)) (append-nil (named b.name));
      plain = all_names b is.names;
    }

one_route : (names : List ℕ) (r s : AbstractRoute) → AreNamesOf names r → AreNamesOf names s → r ≡ s
one_route names r s are these = ap route_of (one_body names (body_of r) (body_of s) (names_body names r are) (names_body names s these))

-- ---- whether a message passes

passes_named : (p : AbstractPolicy) (names message : List ℕ) (goes : Bool) (route : AbstractRoute) → AreNamesOf names route
    → (IsTrue goes ↔ Goes p route message) → IsTrue goes ↔ Passes (Some p) names message
passes_named p names message goes route are exact = (
  λ yes. (route, are, exact.0 yes),
  λ (other, these, there). exact.1 (subst (λ (r : AbstractRoute). Goes p r message) (one_route names other route these are) there),
)

pub passes_given : (p : AbstractPolicy) (names message : List ℕ) (goes : Bool)
    → ((route : AbstractRoute) × IsGiven p.rules names route × (IsTrue goes ↔ Goes p route message)) → IsTrue goes ↔ Passes (Some p) names message
passes_given p names message goes (route, given, exact) =
    passes_named p names message goes route (record { joined = given.octets; plain = given.plain }) exact

-- on the route that was read of the names
pub passes_read : (policy : Option AbstractPolicy) (names message : List ℕ) (goes : Bool) (route : Option AbstractRoute) → IsRouteIn names route
    → (IsTrue goes ↔ GoesOn policy route message) → IsTrue goes ↔ Passes policy names message
passes_read None names message goes route is exact = exact
passes_read (Some p) names message goes (Some route) are exact = passes_named p names message goes route are exact
passes_read (Some p) names message goes None none exact = (λ yes. absurd (exact.0 yes), λ (route, are, there). absurd (none route are))

passes_if : (b : Bool) (policy : Option AbstractPolicy) (route : AbstractRoute) (message : List ℕ) → is_plain route ≡ b
    → GoesOn policy (if b then Some route else None) message ↔ PassesOn policy route message
passes_if b None route message is = (λ h. h, λ h. h)
passes_if true (Some p) route message is = (λ h. (is, h), λ h. h.1)
passes_if false (Some p) route message is = (λ h. absurd h, λ h. absurd (false≢true (sym is ∙ h.0)))

-- on a route that was looked at
pub passes_plain : (policy : Option AbstractPolicy) (route : AbstractRoute) (message : List ℕ) (goes : Bool) (given : Option AbstractRoute)
    → given ≡ if_plain route → (IsTrue goes ↔ GoesOn policy given message) → IsTrue goes ↔ PassesOn policy route message
passes_plain policy route message goes given same exact =
    let both = passes_if (is_plain route) policy route message refl in
    let at = λ (g : Option AbstractRoute). GoesOn policy g message in
    (λ yes. both.0 (subst at same (exact.0 yes)), λ h. exact.1 (subst at (sym same) (both.1 h)))

-- ---- what is said of it

pub said_read : (policy : Option AbstractPolicy) (names message : List ℕ) (route : Option AbstractRoute) (said : Result (List ℕ) Status)
    → IsRouteIn names route → Says policy route message said → SaidBy policy names message said
said_read (Some p) names message (Some route) (Ok text) are says = (route, are, says)
said_read (Some p) names message None (Ok text) none says = absurd says
said_read None names message route (Ok text) is says = absurd says
said_read policy names message (Some route) (Err BadNames) are says = absurd (none_is_not route (sym says.1))
said_read policy names message None (Err BadNames) none says = (says.0, none)
said_read policy names message route (Err NoPolicy) is says = says
said_read policy names message route (Err OutOfMemory) is says = says
said_read policy names message route (Err _) is says = absurd says

said_if : (b : Bool) (policy : Option AbstractPolicy) (route : AbstractRoute) (message : List ℕ) (said : Result (List ℕ) Status)
    → is_plain route ≡ b → Says policy (if b then Some route else None) message said → SaidOn policy route message said
said_if true (Some p) route message (Ok text) is says = (is, says)
said_if false (Some p) route message (Ok text) is says = absurd says
said_if b None route message (Ok text) is says = absurd says
said_if true policy route message (Err BadNames) is says = absurd (none_is_not route (sym says.1))
said_if false policy route message (Err BadNames) is says = (says.0, is)
said_if b policy route message (Err NoPolicy) is says = says
said_if b policy route message (Err OutOfMemory) is says = says
said_if b policy route message (Err _) is says = absurd says

pub said_plain : (policy : Option AbstractPolicy) (route : AbstractRoute) (message : List ℕ) (given : Option AbstractRoute) (said : Result (List ℕ) Status)
    → given ≡ if_plain route → Says policy given message said → SaidOn policy route message said
said_plain policy route message given said same says =
    said_if (is_plain route) policy route message said refl (subst (λ (g : Option AbstractRoute). Says policy g message said) same says)
