-- What a source gave, over several calls.
use Rattle.std.proofs.Common.{◌+◌, ◌<◌, ◌≤◌, length-append, ◌≡◌, List, ℕ, [], ◌++◌, ◌∙◌, ap, sym, refl, append_assoc, take, subst, length, ◌∷◌, arith}
use Rattle.std.proofs.lemmas.List.{append-nil}
use Rattle.std.specs.Prelude.{Option, Some, None}
use Rattle.std.specs.List.{concat}
use Rattle.std.specs.Io.KnownBytes.{Consumes, Keeps}
use Rattle.std.proofs.lemmas.Grind.{common_steps}
use Rattle.std.proofs.lemmas.List.Folds.{concat-append}
use Rattle.guard_frames.specs.Runs.{CameInPieces}
use Rattle.guard_frames.proofs.Elements.{All_none, All_more}

pub Consumes_none : (a : Option (List ℕ)) → Consumes a a []
Consumes_none None = tt
Consumes_none (Some xs) = refl

pub Consumes_trans : (a b c : Option (List ℕ)) (x y : List ℕ) → Consumes a b x → Consumes b c y → Consumes a c (x ++ y)
Consumes_trans None b c x y p q = tt
Consumes_trans (Some xs) None c x y p q = absurd p
Consumes_trans (Some xs) (Some ys) None x y p q = absurd q
Consumes_trans (Some xs) (Some ys) (Some zs) x y p q = p ∙ ap (λ s. x ++ s) q ∙ sym (append_assoc x y zs)

pub Consumes_zero : (a b c : Option (List ℕ)) (x : List ℕ) (n : ℕ) (s : List ℕ) → n ≡ 0 →
    Consumes a b x → Consumes b c (take n s) → Consumes a c x
Consumes_zero a b c x n s zero p q =
    let q₁ : Consumes b c [] = subst (λ (k : ℕ). Consumes b c (take k s)) zero q in
    subst (Consumes a c) (append-nil x) (Consumes_trans a b c x [] p q₁)

pub is_empty_list : (s : List ℕ) → length s ≡ 0 → s ≡ []
is_empty_list [] h = refl
is_empty_list (x ∷ s) h = absurd (omega (arith, h))

-- a reader that keeps what it has left has given none of it
pub kept_gives_none : (a b : Option (List ℕ)) (s : List ℕ) → Keeps a b → Consumes a b (take 0 s)
kept_gives_none None b s p = tt
kept_gives_none (Some xs) None s p = absurd p
kept_gives_none (Some xs) (Some ys) s p =
    let none : ys ≡ take 0 s ++ ys = grind (arith, common_steps) in
    sym p ∙ none

-- ---- in pieces

pub no_pieces : CameInPieces 0 []
no_pieces = record {
  pieces = [];
  joined = refl;
  some = All_none (λ p. 0 < length p);
  most = All_none (λ p. length p ≤ 65536);
  many = refl;
}

pub one_more_piece : (k : ℕ) (s p : List ℕ) → CameInPieces k s → 0 < length p → length p ≤ 65536 → CameInPieces (k + 1) (s ++ p)
one_more_piece k s p h some most =
    let one : concat (p ∷ []) ≡ p = append-nil p in
    record {
      pieces = h.pieces ++ p ∷ [];
      joined = ap (λ x. x ++ p) h.joined ∙ ap (λ x. concat h.pieces ++ x) (sym one) ∙ sym (concat-append h.pieces (p ∷ []));
      some = All_more (λ p. 0 < length p) h.pieces p h.some some;
      most = All_more (λ p. length p ≤ 65536) h.pieces p h.most most;
      many = omega (arith, h.many, length-append h.pieces (p ∷ []));
    }
