-- What a sink was asked, over several calls.
use Rattle.std.proofs.Common.{◌≡◌, ◌<◌, ◌≤◌, ◌-◌, ℕ, List, [], ◌∷◌, ◌++◌, ◌∙◌, ap, sym, subst, take, drop, length, append_assoc, length-append, arith}
use Rattle.std.specs.Prelude.{Some, None, codes}
use Rattle.std.proofs.lemmas.List.{append-nil, take_rest, drop-append-le}
use Rattle.std.proofs.lemmas.List.Elements.{All-append, All-cons}
use Rattle.guard_frames.specs.Calls.{Calls, Asks, EndsLine, AsksLines}
use Rattle.guard_frames.proofs.Elements.{All_none}

pub asks_none : (a : Calls) → AsksLines a a
asks_none None = tt
asks_none (Some xs) = ([], sym (append-nil xs), All_none EndsLine)

pub asks_trans : (a b c : Calls) → AsksLines a b → AsksLines b c → AsksLines a c
asks_trans None b c p q = tt
asks_trans (Some xs) None c p q = absurd p
asks_trans (Some xs) (Some ys) None p q = absurd q
asks_trans (Some xs) (Some ys) (Some zs) p q = (
  p.0 ++ q.0,
  q.1 ∙ ap (λ s. s ++ q.0) p.1 ∙ append_assoc xs p.0 q.0,
  All-append EndsLine p.0 q.0 p.2 q.2,
)

pub asks_once : (a b : Calls) (octets : List ℕ) → Asks a octets b → EndsLine octets → AsksLines a b
asks_once None b octets p ends = tt
asks_once (Some xs) None octets p ends = absurd p
asks_once (Some xs) (Some ys) octets p ends = (octets ∷ [], p, All-cons EndsLine octets [] ends (All_none EndsLine))

-- what is left of a line ends it
pub ends_after : (n : ℕ) (s : List ℕ) → n < length s → EndsLine s → EndsLine (drop n s)
ends_after n s less e =
    let within : n ≤ length e.front = omega (arith, less, ap length e.ends, length-append e.front (codes "\n")) in
    record { front = drop n e.front; ends = ap (drop n) e.ends ∙ drop-append-le n e.front (codes "\n") within }

-- a call for the octets from n on, `&s[n..]`
pub asks_rest : (a b c : Calls) (n : ℕ) (s : List ℕ) → n < length s → EndsLine s → AsksLines a b
    → Asks b (take (length s - n) (drop n s)) c → AsksLines a c
asks_rest a b c n s less ends p q =
    let q₁ : Asks b (drop n s) c = subst (λ (x : List ℕ). Asks b x c) (take_rest s n) q in
    asks_trans a b c p (asks_once b c (drop n s) q₁ (ends_after n s less ends))

pub ends_joined : (s t : List ℕ) → EndsLine t → EndsLine (s ++ t)
ends_joined s t e = record { front = s ++ e.front; ends = ap (λ x. s ++ x) e.ends ∙ sym (append_assoc s e.front (codes "\n")) }

pub ends_same : (s t : List ℕ) → s ≡ t → EndsLine t → EndsLine s
ends_same s t e h = subst EndsLine (sym e) h
