-- What a sink took, over several calls.
use Rattle.std.proofs.Common.{◌≡◌, ℕ, ◌+◌, ◌<◌, ◌-◌, List, [], ◌++◌, ◌∙◌, ap, sym, take, drop, length, append_assoc, length-append, length-drop, arith}
use Rattle.std.specs.Prelude.{Option, Some, None}
use Rattle.std.specs.Io.KnownBytes.{Appends, Keeps}
use Rattle.std.proofs.lemmas.Grind.{common_steps}
use Rattle.std.proofs.Math.Seq.{take-add}
use Rattle.std.proofs.lemmas.List.{take_rest, take-append-drop}
pub use Rattle.guard_frames.specs.Added.{sent_more, reported_more}
use Rattle.guard_frames.specs.Added.{Added, nothing, joined, BothAppend}
use Rattle.guard_frames.specs.Prefix.{IsProperPrefix}

pub Appends_none : (a : Option (List ℕ)) → Appends a a []
Appends_none None = tt
Appends_none (Some xs) = grind (arith, common_steps)

pub Appends_trans : (a b c : Option (List ℕ)) (x y : List ℕ) → Appends a b x → Appends b c y → Appends a c (x ++ y)
Appends_trans None b c x y p q = tt
Appends_trans (Some xs) None c x y p q = absurd p
Appends_trans (Some xs) (Some ys) None x y p q = absurd q
Appends_trans (Some xs) (Some ys) (Some zs) x y p q = q ∙ ap (λ s. s ++ y) p ∙ append_assoc xs x y

pub Appends_is : (a b : Option (List ℕ)) (x y : List ℕ) → x ≡ y → Appends a b x → Appends a b y
Appends_is a b x y e p = rw (← e) p

-- what a call took of the octets from n on, `&s[n..]`
pub Appends_more : (a b c : Option (List ℕ)) (n m : ℕ) (s : List ℕ) →
    Appends a b (take n s) → Appends b c (take m (take (length s - n) (drop n s))) → Appends a c (take (n + m) s)
Appends_more a b c n m s p q =
    let q₁ : Appends b c (take m (drop n s)) = Appends_is b c _ _ (ap (take m) (take_rest s n)) q in
    rw (take-add n m s) (Appends_trans a b c (take n s) (take m (drop n s)) p q₁)

pub Prefix_of : (n : ℕ) (s : List ℕ) → n < length s → IsProperPrefix (take n s) s
Prefix_of n s h = record { more = drop n s; joined = take-append-drop n s; missing = omega (arith, length-drop n s) }

-- a sink that keeps what it took has taken none more
pub kept_takes_none : (a b : Option (List ℕ)) (s : List ℕ) → Keeps a b → Appends a b (take 0 s)
kept_takes_none None b s p = tt
kept_takes_none (Some xs) None s p = absurd p
kept_takes_none (Some xs) (Some ys) s p =
    let none : xs ≡ xs ++ take 0 s = grind (arith, common_steps) in
    p ∙ none

-- ---- two parts, one after the other

pub Prefix_first : (part first second : List ℕ) → IsProperPrefix part first → IsProperPrefix part (first ++ second)
Prefix_first part first second h = record {
  more = h.more ++ second;
  joined = sym (append_assoc part h.more second) ∙ ap (λ x. x ++ second) h.joined;
  missing = omega (arith, h.missing, length-append h.more second);
}

pub Prefix_second : (part first second : List ℕ) → IsProperPrefix part second → IsProperPrefix (first ++ part) (first ++ second)
Prefix_second part first second h = record {
  more = h.more;
  joined = append_assoc first part h.more ∙ ap (λ x. first ++ x) h.joined;
  missing = h.missing;
}

-- ---- both sinks

pub both_none : (o r : Option (List ℕ)) → BothAppend (o, o) (r, r) nothing
both_none o r = record { sent = Appends_none o; reported = Appends_none r }

pub both_joined : (o o₁ o₂ r r₁ r₂ : Option (List ℕ)) (a b : Added) → BothAppend (o, o₁) (r, r₁) a →
    BothAppend (o₁, o₂) (r₁, r₂) b → BothAppend (o, o₂) (r, r₂) (joined a b)
both_joined o o₁ o₂ r r₁ r₂ a b h k = record {
  sent = Appends_trans o o₁ o₂ a.out b.out h.sent k.sent;
  reported = Appends_trans r r₁ r₂ a.reports b.reports h.reported k.reported;
}

pub both_sent : (o o₁ o₂ r r₁ : Option (List ℕ)) (a : Added) (s : List ℕ) → BothAppend (o, o₁) (r, r₁) a →
    Appends o₁ o₂ s → BothAppend (o, o₂) (r, r₁) (sent_more a s)
both_sent o o₁ o₂ r r₁ a s h p = record { sent = Appends_trans o o₁ o₂ a.out s h.sent p; reported = h.reported }

pub both_reported : (o o₁ r r₁ r₂ : Option (List ℕ)) (a : Added) (s : List ℕ) → BothAppend (o, o₁) (r, r₁) a →
    Appends r₁ r₂ s → BothAppend (o, o₁) (r, r₂) (reported_more a s)
both_reported o o₁ r r₁ r₂ a s h p = record { sent = h.sent; reported = Appends_trans r r₁ r₂ a.reports s h.reported p }
