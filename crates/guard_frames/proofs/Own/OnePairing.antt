-- Each frame is under one policy.
use Rattle.std.proofs.Common.{◌≡◌, ◌<◌, ℕ, ◌+◌, List, [], ◌∷◌, ◌∙◌, ap, sym, refl, subst, length, inl, inr, arith}
use Rattle.guard_policy.specs.Policies.{AbstractPolicy}
use Rattle.guard_frames.specs.Frames.{ConsistsOf}
use Rattle.guard_frames.proofs.Readings.{one_split}
use Rattle.guard_frames.specs.OwnPieces.{OwnPiece, own_stream}
use Rattle.guard_frames.specs.InForce.{Ruled, frames_ruled, policies_of, EndsUnder, AreInForce}

ends_behind : (from : ℕ) (xs : List OwnPiece) (place : ℕ) (p : AbstractPolicy) → EndsUnder from xs place p → from < place
ends_behind from [] place p h = absurd h
ends_behind from (x ∷ xs) place p (inl h) = h.0
ends_behind from (x ∷ xs) place p (inr h) = omega (arith, ends_behind (from + length x.octets) xs place p h)

one_policy : (from : ℕ) (xs : List OwnPiece) (place : ℕ) (p q : AbstractPolicy) → EndsUnder from xs place p → EndsUnder from xs place q → p ≡ q
one_policy from [] place p q a b = absurd a
one_policy from (x ∷ xs) place p q (inl a) (inl b) = sym a.2 ∙ b.2
one_policy from (x ∷ xs) place p q (inl a) (inr b) = absurd (omega (arith, a.1, ends_behind (from + length x.octets) xs place q b))
one_policy from (x ∷ xs) place p q (inr a) (inl b) = absurd (omega (arith, b.1, ends_behind (from + length x.octets) xs place p a))
one_policy from (x ∷ xs) place p q (inr a) (inr b) = one_policy (from + length x.octets) xs place p q a b

pub one_pairing : (from : ℕ) (ps : List OwnPiece) (place : ℕ) (rs ss : List Ruled) → frames_ruled rs ≡ frames_ruled ss →
    AreInForce from ps place rs → AreInForce from ps place ss → policies_of rs ≡ policies_of ss
one_pairing from ps place [] [] e a b = refl
one_pairing from ps place [] (y ∷ ys) e a b = absurd (omega (arith, ap length e))
one_pairing from ps place (x ∷ xs) [] e a b = absurd (omega (arith, ap length e))
one_pairing from ps place (x ∷ xs) (y ∷ ys) e a b =
    let head : x.outcome.frame ≡ y.outcome.frame = cc in
    let tail : frames_ruled xs ≡ frames_ruled ys = cc in
    let long : length x.outcome.frame ≡ length y.outcome.frame = ap length head in
    let b₀ : EndsUnder from ps (place + length x.outcome.frame) y.policy = subst (λ (k : ℕ). EndsUnder from ps (place + k) y.policy) (sym long) b.0 in
    let b₁ : AreInForce from ps (place + length x.outcome.frame) ys = subst (λ (k : ℕ). AreInForce from ps (place + k) ys) (sym long) b.1 in
    let first : x.policy ≡ y.policy = one_policy from ps (place + length x.outcome.frame) x.policy y.policy a.0 b₀ in
    let others : policies_of xs ≡ policies_of ys = one_pairing from ps (place + length x.outcome.frame) xs ys tail a.1 b₁ in
    ap (λ (p : AbstractPolicy). p ∷ policies_of xs) first ∙ ap (λ (ps : List AbstractPolicy). y.policy ∷ ps) others

-- each stream in pieces has one reading as frames, each under one policy
pub one_own : (ps : List OwnPiece) (rs ss : List Ruled) (r q : List ℕ) → ConsistsOf (own_stream ps) (frames_ruled rs) r → ConsistsOf (own_stream ps) (frames_ruled ss) q →
    AreInForce 0 ps 0 rs → AreInForce 0 ps 0 ss → (frames_ruled rs ≡ frames_ruled ss) × (policies_of rs ≡ policies_of ss) × (r ≡ q)
one_own ps rs ss r q x y a b =
    let both = one_split (own_stream ps) (frames_ruled rs) (frames_ruled ss) r q x y in
    (both.0, one_pairing 0 ps 0 rs ss both.0 a b, both.1)
