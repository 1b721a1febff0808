-- Three names and a message are read as the body that they are, and nothing else is.
use Rattle.std.proofs.Common.{◌≡◌, ◌≤◌, ℕ, List, [], ◌∷◌, ◌++◌, ◌∙◌, ap, sym, refl, subst, take, drop, length, Bool, true, false, ◌&&◌, inl, inr, length-append, length-take, arith}
use Rattle.std.specs.Prelude.{Option, Some, None, nat_lt}
use Rattle.std.proofs.lemmas.Bool.{ltb-false, le-ltb}
use Rattle.std.proofs.lemmas.List.{take-append-drop}
use Rattle.std.proofs.Math.Seq.{take-append_seam, drop-append_seam}
use Rattle.guard_model.proofs.Tests.{chosen}
use Rattle.guard_frames.specs.Bodies.{AbstractBody, part_of_length, part_first, ◌>>=◌, parts_in, has_names, body_in, named, HasNames, IsBody}

pub same_Some : {A : Type 0} (x y : A) → ◌≡◌ {A = Option A} (Some x) (Some y) → x ≡ y
same_Some x y e = cc

bind_some : {A B : Type 0} (o : Option A) (f : A → Option B) (y : B) → (o >>= f) ≡ Some y → (x : A) × (o ≡ Some x) × (f x ≡ Some y)
bind_some None f y e = absurd cc
bind_some (Some x) f y e = (x, refl, e)

pub none_is_not : {A : Type 0} (x : A) → ◌≡◌ {A = Option A} None (Some x) → ⊥
none_is_not x e = cc

-- ---- the places of three names, and what follows them

part_of : (n : ℕ) (s : List ℕ) (x : List ℕ × List ℕ) → part_of_length n s ≡ Some x → n ∷ s ≡ named x.0 ++ x.1
part_of n s x e = elim (chosen (nat_lt (length s) n) None (Some (take n s, drop n s)) (Some x) e) [
  | inl w ↦ absurd (none_is_not x w.1)
  | inr w ↦
      let le : n ≤ length s = ltb-false (length s) n w.0 in
      let long : length (take n s) ≡ n = omega (arith, length-take n s, le) in
      let whole : n ∷ s ≡ named (take n s) ++ drop n s =
      ap (λ k. k ∷ s) (sym long) ∙ ap (λ t. length (take n s) ∷ t) (sym (take-append-drop n s)) in
      subst (λ (y : List ℕ × List ℕ). n ∷ s ≡ named y.0 ++ y.1) (same_Some (take n s, drop n s) x w.1) whole
]

part_takes : (s : List ℕ) (x : List ℕ × List ℕ) → part_first s ≡ Some x → s ≡ named x.0 ++ x.1
unfolding part_first
part_takes [] x e = absurd cc
part_takes (n ∷ s) x e = part_of n s x e

part_again : (part rest : List ℕ) → part_first (named part ++ rest) ≡ Some (part, rest)
unfolding part_first
part_again part rest =
    let few : nat_lt (length (part ++ rest)) (length part) ≡ false =
    le-ltb (length (part ++ rest)) (length part) (omega (arith, length-append part rest)) in
    rw (few, take-append_seam part rest, drop-append_seam part rest) refl

-- the octets of a body
abbrev pub octets_of : AbstractBody → List ℕ
octets_of b = named b.sender ++ (named b.receiver ++ (named b.name ++ b.message_octets))

pub parts_take : (octets : List ℕ) (b : AbstractBody) → parts_in octets ≡ Some b → octets ≡ octets_of b
unfolding parts_in
parts_take octets b e =
    let s = bind_some (part_first octets) _ b e in
    let r = bind_some (part_first s.0.1) _ b s.2 in
    let n = bind_some (part_first r.0.1) _ b r.2 in
    let joined : octets ≡ named s.0.0 ++ (named r.0.0 ++ (named n.0.0 ++ n.0.1)) =
    part_takes octets s.0 s.1
    ∙ ap (λ x. named s.0.0 ++ x) (part_takes s.0.1 r.0 r.1 ∙ ap (λ x. named r.0.0 ++ x) (part_takes r.0.1 n.0 n.1)) in
    subst (λ (x : AbstractBody). octets ≡ octets_of x) (same_Some _ b n.2) joined

parts_again : (b : AbstractBody) → parts_in (octets_of b) ≡ Some b
unfolding parts_in
parts_again b =
    rw (
      part_again b.sender (named b.receiver ++ (named b.name ++ b.message_octets)),
      part_again b.receiver (named b.name ++ b.message_octets),
      part_again b.name b.message_octets,
    ) refl

-- ---- names in these places

all_three : (a b c : Bool) → ((a && b) && c) ≡ true → (a ≡ true) × (b ≡ true) × (c ≡ true)
all_three true true true e = (refl, refl, refl)
all_three true true false e = absurd cc
all_three true false c e = absurd cc
all_three false b c e = absurd cc

pub names_in : (b : AbstractBody) → has_names b ≡ true → HasNames b
names_in b e = let all = all_three _ _ _ e in record { sender = all.0; receiver = all.1; name = all.2 }

pub names_again : (b : AbstractBody) → HasNames b → has_names b ≡ true
names_again b h = rw (h.sender, h.receiver, h.name) refl

-- ---- the body

pub body_takes : (octets : List ℕ) (b : AbstractBody) → body_in octets ≡ Some b → IsBody octets b
unfolding body_in
body_takes octets b e =
    let x = bind_some (parts_in octets) _ b e in
    elim (chosen (has_names x.0) (Some x.0) None (Some b) x.2) [
      | inl w ↦ subst (IsBody octets) (same_Some x.0 b w.1) (record { joined = parts_take octets x.0 x.1; names = names_in x.0 w.0 })
      | inr w ↦ absurd (none_is_not b w.1)
    ]

pub body_again : (octets : List ℕ) (b : AbstractBody) → IsBody octets b → body_in octets ≡ Some b
unfolding body_in
body_again octets b h = rw (h.joined, parts_again b, names_again b h.names) refl

pub one_body : (octets : List ℕ) (b c : AbstractBody) → IsBody octets b → IsBody octets c → b ≡ c
one_body octets b c h k = same_Some b c (sym (body_again octets b h) ∙ body_again octets c k)

-- what is in these places is the body, where there is one
pub same_parts : (octets : List ℕ) (b c : AbstractBody) → Some b ≡ parts_in octets → IsBody octets c → c ≡ b
same_parts octets b c there is = same_Some c b (sym (parts_again c) ∙ ap parts_in (sym is.joined) ∙ sym there)

-- no other octets have one
pub no_parts : (octets : List ℕ) → None ≡ parts_in octets → None ≡ body_in octets
unfolding body_in
no_parts octets e = rw (← e) refl

pub no_body : (octets : List ℕ) → None ≡ body_in octets → (b : AbstractBody) → IsBody octets b → ⊥
no_body octets none b h = none_is_not b (none ∙ body_again octets b h)
