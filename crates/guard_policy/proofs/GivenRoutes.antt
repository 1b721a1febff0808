-- What the octets of a route lead to, as it is made and as it is read.
use Rattle.std.proofs.Common.{◌≡◌, ℕ, List, [], ◌∷◌, ◌++◌, length, take, drop, Bool, true, false, cond, ◌&&◌, ◌||◌, Option, Some, None, option_and_then, refl, ap, sym, ◌∙◌, subst}
use Rattle.std.specs.Prelude.{bytes_eq}
use Rattle.std.specs.List.{list_any}
use Rattle.std.specs.Map.{lookup}
use Rattle.std.specs.Option.{option_or}
use Rattle.std.proofs.lemmas.Option.{same_Some}
use Rattle.std.proofs.lemmas.Slice.Eq.{bytes_eq-Decides}
use Rattle.std.proofs.Math.Seq.{take-append_seam, drop-append_seam}
use Rattle.indexmap.specs.IndexMap.{insert_entry}
use Rattle.guard_policy.specs.declared.leads.Lead.{Lead}
use Rattle.guard_policy.specs.NamedRoutes.{with_length, route_octets, gives, IsGiven}
use Rattle.guard_policy.specs.Names.{is_plain}
use Rattle.guard_policy.specs.Policies.{AbstractRule, AbstractRoute, own_route}
use Rattle.guard_policy.specs.inside.Leads.{given_route}
use Rattle.guard_policy.proofs.PartyNames.{lookup-inserted}

-- ---- the octets of a route are no other's

counted_front : (a b x y : List ℕ) → with_length a ++ x ≡ with_length b ++ y → (a ≡ b) × (x ≡ y)
counted_front a b x y e =
    let n : length a ≡ length b = cc in
    let rest : a ++ x ≡ b ++ y = cc in (
      sym (take-append_seam a x) ∙ ap (λ k. take k (a ++ x)) n ∙ ap (take (length b)) rest ∙ take-append_seam b y,
      sym (drop-append_seam a x) ∙ ap (λ k. drop k (a ++ x)) n ∙ ap (drop (length b)) rest ∙ drop-append_seam b y,
    )

counted_last : (a b : List ℕ) → with_length a ≡ with_length b → a ≡ b
counted_last a b e = cc

pub same_route : (a b : AbstractRoute) → route_octets a ≡ route_octets b → a ≡ b
same_route a b e =
    let f = counted_front a.from b.from (with_length a.to ++ with_length a.message) (with_length b.to ++ with_length b.message) e in
    let t = counted_front a.to b.to (with_length a.message) (with_length b.message) f.1 in
    let m = counted_last a.message b.message t.1 in
    λ i. record { from = f.0 i; to = t.0 i; message = m i }

-- ---- a route that a rule gives

both_true : (a b : Bool) → (a && b) ≡ true → (a ≡ true) × (b ≡ true)
both_true true true e = (refl, refl)
both_true true false e = absurd cc
both_true false b e = absurd cc

equal : (a b : List ℕ) → bytes_eq a b ≡ true → a ≡ b
equal a b e = (bytes_eq-Decides a b).0 e

same : (a : List ℕ) → bytes_eq a a ≡ true
same a = (bytes_eq-Decides a a).1 refl

own_given : (r : AbstractRule) → gives (own_route r) r ≡ true
own_given r = rw (same r.from, same r.to, same r.message) refl

pub gives_own : (route : AbstractRoute) (r : AbstractRule) → gives route r ≡ true → own_route r ≡ route
gives_own route r e =
    let all = both_true (bytes_eq r.from route.from && bytes_eq r.to route.to) (bytes_eq r.message route.message) e in
    let parties = both_true (bytes_eq r.from route.from) (bytes_eq r.to route.to) all.0 in
    let from = equal r.from route.from parties.0 in
    let to = equal r.to route.to parties.1 in
    let message = equal r.message route.message all.1 in
    λ i. record { from = from i; to = to i; message = message i }

-- the rule's own names are names, with these octets
abbrev has_octets : List ℕ → AbstractRule → Bool
has_octets names r = is_plain (own_route r) && bytes_eq names (route_octets (own_route r))

any_more : (b : Bool) (rest : Bool) → rest ≡ true → (b || rest) ≡ true
any_more true rest e = refl
any_more false rest e = e

pub is_given : (names : List ℕ) (rules : List AbstractRule) (route : AbstractRoute) → given_route names rules ≡ Some route → IsGiven rules names route
is_given names [] route e = absurd cc
is_given names (r ∷ rs) route e =
    (elim (has_octets names r) as (λ (b : Bool). has_octets names r ≡ b → cond b (Some (own_route r)) (given_route names rs) ≡ Some route → IsGiven (r ∷ rs) names route) [
      | true ↦ λ here found.
          let is : own_route r ≡ route = same_Some _ _ found in
          let p = both_true (is_plain (own_route r)) (bytes_eq names (route_octets (own_route r))) here in
          subst (IsGiven (r ∷ rs) names) is (record {
            octets = equal names (route_octets (own_route r)) p.1;
            plain = p.0;
            given = ap (λ b. b || list_any (gives (own_route r)) rs) (own_given r);
          })
      | false ↦ λ other found.
          let more = is_given names rs route found in
          record { octets = more.octets; plain = more.plain; given = any_more (gives route r) (list_any (gives route) rs) more.given }
    ]) refl e

plain_octets : (names : List ℕ) (route : AbstractRoute) → names ≡ route_octets route → is_plain route ≡ true → (is_plain route && bytes_eq names (route_octets route)) ≡ true
plain_octets names route octets plain = rw (octets, plain, same (route_octets route)) refl

found_given : (names : List ℕ) (rules : List AbstractRule) (route : AbstractRoute) → names ≡ route_octets route → is_plain route ≡ true → list_any (gives route) rules ≡ true
    → given_route names rules ≡ Some route
found_given names [] route octets plain e = absurd cc
found_given names (r ∷ rs) route octets plain e =
    (elim (has_octets names r) as (λ (b : Bool). has_octets names r ≡ b → cond b (Some (own_route r)) (given_route names rs) ≡ Some route) [
      | true ↦ λ here.
          let p = both_true (is_plain (own_route r)) (bytes_eq names (route_octets (own_route r))) here in
          ap Some (same_route (own_route r) route (sym (equal names (route_octets (own_route r)) p.1) ∙ octets))
      | false ↦ λ other.
          found_given names rs route octets plain
          ((elim (gives route r) as (λ (g : Bool). gives route r ≡ g → (g || list_any (gives route) rs) ≡ true → list_any (gives route) rs ≡ true) [
            | true ↦ λ it is. absurd (let own = gives_own route r it in
                let again = subst (λ (x : AbstractRoute). (is_plain x && bytes_eq names (route_octets x)) ≡ true) (sym own) (plain_octets names route octets plain) in
                let no : false ≡ true = sym other ∙ again in cc)
            | false ↦ λ it is. is
          ]) refl e)
    ]) refl

pub given_is : (names : List ℕ) (rules : List AbstractRule) (route : AbstractRoute) → IsGiven rules names route → given_route names rules ≡ Some route
given_is names rules route g = found_given names rules route g.octets g.plain g.given

-- ---- one rule more

given_route-push : (names : List ℕ) (rules : List AbstractRule) (r : AbstractRule)
    → given_route names (rules ++ r ∷ []) ≡ option_or (given_route names rules) (cond (has_octets names r) (Some (own_route r)) None)
given_route-push names [] r = refl
given_route-push names (x ∷ xs) r =
    elim (has_octets names x) as (λ (b : Bool). cond b (Some (own_route x)) (given_route names (xs ++ r ∷ []))
    ≡ option_or (cond b (Some (own_route x)) (given_route names xs)) (cond (has_octets names r) (Some (own_route r)) None)) [
      | true ↦ refl
      | false ↦ given_route-push names xs r
    ]

module _ (lead : AbstractRoute → Option Lead) (taken : List AbstractRule) (r : AbstractRule) where
  -- what leads nowhere is left out
  pub left_out : cond (is_plain (own_route r)) (lead (own_route r)) None ≡ None
      → (names : List ℕ) → option_and_then lead (given_route names taken) ≡ option_and_then lead (given_route names (taken ++ r ∷ []))
  left_out none names = by (given_route names taken) ∙ ap (option_and_then lead) (sym (given_route-push names taken r))
    where
      nowhere : (p b : Bool) → cond p (lead (own_route r)) None ≡ None → None ≡ option_and_then lead (cond (p && b) (Some (own_route r)) None)
      nowhere true true e = sym e
      nowhere true false e = refl
      nowhere false b e = refl

      by : (o : Option AbstractRoute) → option_and_then lead o ≡ option_and_then lead (option_or o (cond (has_octets names r) (Some (own_route r)) None))
      by (Some route) = refl
      by None = nowhere (is_plain (own_route r)) (bytes_eq names (route_octets (own_route r))) none

  -- what leads somewhere is put in
  pub put_in : {K : Type 0} (items : K → List ℕ) (es new : List (K × Lead)) (k : K) (l : Lead)
      → cond (is_plain (own_route r)) (lead (own_route r)) None ≡ Some l
      → new ≡ insert_entry (λ x y. bytes_eq (items x) (items y)) es k l → items k ≡ route_octets (own_route r)
      → ((names : List ℕ) → lookup (λ x. bytes_eq names (items x)) es ≡ option_and_then lead (given_route names taken))
      → (names : List ℕ) → lookup (λ x. bytes_eq names (items x)) new ≡ option_and_then lead (given_route names (taken ++ r ∷ []))
  put_in {K} items es new k l somewhere more key so_far names =
      ap (lookup (λ x. bytes_eq names (items x))) more ∙ lookup-inserted items es k l names
      ∙ ap (λ (n : List ℕ). cond (bytes_eq names n) (Some l) (lookup (λ x. bytes_eq names (items x)) es)) key
      ∙ ap (cond (bytes_eq names octets) (Some l)) (so_far names)
      ∙ cases (bytes_eq names octets) refl
      ∙ ap (option_and_then lead) (sym (given_route-push names taken r))
    where
      octets : List ℕ
      octets = route_octets (own_route r)

      leads : (p : Bool) → cond p (lead (own_route r)) None ≡ Some l → (p ≡ true) × (lead (own_route r) ≡ Some l)
      leads true e = (refl, e)
      leads false e = absurd cc

      p : (is_plain (own_route r) ≡ true) × (lead (own_route r) ≡ Some l)
      p = leads (is_plain (own_route r)) somewhere

      has : (b : Bool) → (is_plain (own_route r) ≡ true) × (bytes_eq names octets ≡ b) → has_octets names r ≡ b
      has b (plain, e) = rw (plain, e) refl

      or_none : (o : Option AbstractRoute) → o ≡ option_or o None
      or_none None = refl
      or_none (Some x) = refl

      first : (o : Option AbstractRoute) → given_route names taken ≡ o → names ≡ octets
          → Some l ≡ option_and_then lead (option_or o (Some (own_route r)))
      first None e is = sym p.1
      first (Some route) e is =
          let g = is_given names taken route e in
          sym (ap lead (same_route route (own_route r) (sym g.octets ∙ is)) ∙ p.1)

      cases : (b : Bool) → bytes_eq names octets ≡ b
          → cond b (Some l) (option_and_then lead (given_route names taken)) ≡ option_and_then lead (option_or (given_route names taken) (cond (has_octets names r) (Some (own_route r)) None))
      cases true e =
          first (given_route names taken) refl (equal names octets e)
          ∙ ap (λ b. option_and_then lead (option_or (given_route names taken) (cond b (Some (own_route r)) None))) (sym (has true (p.0, e)))
      cases false e =
          ap (option_and_then lead) (or_none (given_route names taken))
          ∙ ap (λ b. option_and_then lead (option_or (given_route names taken) (cond b (Some (own_route r)) None))) (sym (has false (p.0, e)))
