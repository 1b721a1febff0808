-- One more message is one more line.
use Rattle.std.proofs.Common.{◌≡◌, ℕ, List, [], ◌∷◌, ◌++◌, refl, sym, ap, ◌∙◌, append_assoc}
use Rattle.std.proofs.lemmas.List.{append-nil}
use Rattle.guard_policy.specs.Policies.{AbstractPolicy}
use Rattle.guard_messages.specs.Printing.{AbstractMessageSent, AreLines, AppendsLine}

pub AreLines-append : (p : AbstractPolicy) (ms : List AbstractMessageSent) (m : AbstractMessageSent) (old new : List ℕ)
    → AreLines p ms old → AppendsLine p m old new → AreLines p (ms ++ m ∷ []) new
AreLines-append p [] m old new lines (line, is, e) = (line, [], is, refl, e ∙ ap (λ (o : List ℕ). o ++ line) lines ∙ sym (append-nil line))
AreLines-append p (n ∷ ms) m old new (first, rest, is_first, others, f) (line, is, e) = (
  first,
  rest ++ line,
  is_first,
  AreLines-append p ms m rest (rest ++ line) others (line, is, refl),
  e ∙ ap (λ (o : List ℕ). o ++ line) f ∙ append_assoc first rest line,
)

-- one line after the other
pub four_lines : (p : AbstractPolicy) (a b c d : AbstractMessageSent) (none one two three four : List ℕ) → none ≡ []
    → AppendsLine p a none one → AppendsLine p b one two → AppendsLine p c two three → AppendsLine p d three four
    → AreLines p (a ∷ b ∷ c ∷ d ∷ []) four
four_lines p a b c d none one two three four is_none first second third fourth =
    AreLines-append p (a ∷ b ∷ c ∷ []) d three four
    (AreLines-append p (a ∷ b ∷ []) c two three
    (AreLines-append p (a ∷ []) b one two
    (AreLines-append p [] a none one is_none first) second) third) fourth
