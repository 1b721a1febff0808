-- A text is cut in one way, and the tokens of one more item follow those of the items before it.
use Rattle.std.proofs.Common.{◌≡◌, ℕ, ◌+◌, ◌-◌, ◌≤◌, List, [], ◌∷◌, ◌++◌, length, Option, None, refl, sym, ap, subst, ◌∙◌, append_assoc, inl, inr, arith}
use Rattle.std.specs.Prelude.{option_to_list}
use Rattle.std.proofs.lemmas.List.{length-append, append-nil}
use Rattle.std.proofs.lemmas.Option.{same_Some, none-some}
use Rattle.guard_lexer.specs.Lexing.{Item, IsLongest, OffsetFault, item_fault, IsCut, token_of, tokens_from, HasFault}
use Rattle.guard_lexer.specs.declared.token.Token.{Token}
use Rattle.guard_lexer.proofs.LongestItems.{one_longest, longest_found}

-- ---- one item more

pub cut-fits : (text : List ℕ) (items : List Item) (left : List ℕ) → IsCut text items left → length left ≤ length text
cut-fits text [] left cut = omega (arith, ap length cut)
cut-fits text (i ∷ is) left cut = omega (arith, cut-fits cut.0 is left cut.3, ap length cut.1.split, length-append i.octets cut.0)

pub cut_push : (text : List ℕ) (items : List Item) (left : List ℕ) (item : Item) (after : List ℕ) → IsCut text items left
    → IsLongest left item after → item_fault item.kind item.octets after ≡ None → IsCut text (items ++ item ∷ []) after
cut_push text [] left item after cut l fine = (after, subst (λ (t : List ℕ). IsLongest t item after) (sym cut) l, fine, refl)
cut_push text (i ∷ is) left item after cut l fine = (cut.0, cut.1, cut.2, cut_push cut.0 is left item after cut.3 l fine)

pub tokens_push : (place : ℕ) (whole text : List ℕ) (start : ℕ) (items : List Item) (left : List ℕ) (item : Item) → IsCut text items left
    → tokens_from place whole start (items ++ item ∷ []) ≡ tokens_from place whole start items ++ option_to_list (token_of place whole (start + (length text - length left)) item)
tokens_push place whole text start [] left item cut =
    let none : start + (length text - length left) ≡ start = omega (arith, ap length cut) in
    append-nil _ ∙ ap (λ (n : ℕ). option_to_list (token_of place whole n item)) (sym none)
tokens_push place whole text start (i ∷ is) left item cut =
    let fits = cut-fits cut.0 is left cut.3 in
    let e : (start + length i.octets) + (length cut.0 - length left) ≡ start + (length text - length left) = omega (arith, ap length cut.1.split, length-append i.octets cut.0) in
    ap (λ (ts : List Token). option_to_list (token_of place whole start i) ++ ts) (tokens_push place whole cut.0 (start + length i.octets) is left item cut.3
    ∙ ap (λ (n : ℕ). tokens_from place whole (start + length i.octets) is ++ option_to_list (token_of place whole n item)) e)
    ∙ sym (append_assoc (option_to_list (token_of place whole start i)) (tokens_from place whole (start + length i.octets) is) (option_to_list (token_of place whole (start + (length text - length left)) item)))

-- ---- one way to cut

-- the text begins with nothing without fault
abbrev pub IsStuck : List ℕ → Type 0
IsStuck left = (item : Item) (after : List ℕ) → IsLongest left item after → item_fault item.kind item.octets after ≡ None → ⊥

nothing_stands : (item : Item) (after : List ℕ) → IsLongest [] item after → ⊥
nothing_stands item after l = none-some _ (longest_found [] item after l)

pub stuck_at_end : IsStuck []
stuck_at_end item after l fine = nothing_stands item after l

abbrev fault_of_item : Item → List ℕ → Option OffsetFault
fault_of_item item after = item_fault item.kind item.octets after

faults-agree : (text : List ℕ) (i j : Item) (after left : List ℕ) → IsLongest text i after → IsLongest text j left → fault_of_item i after ≡ fault_of_item j left
faults-agree text i j after left a b = let one = one_longest text i j after left a b in λ k. fault_of_item (one.0 k) (one.1 k)

pub stuck_at_fault : (left : List ℕ) (wrong : OffsetFault) → HasFault left wrong → IsStuck left
stuck_at_fault left wrong (inl none) item after l fine = none.1 item after l.split l.is_item
stuck_at_fault left wrong (inr faulty) item after l fine =
    none-some wrong (sym fine ∙ faults-agree left item faulty.0 after faulty.1 l faulty.2 ∙ faulty.3)

pub one_offset_fault : (left : List ℕ) (v w : OffsetFault) → HasFault left v → HasFault left w → v ≡ w
one_offset_fault left v w (inl a) (inl b) = a.2 ∙ sym b.2
one_offset_fault left v w (inl a) (inr b) = absurd (a.1 b.0 b.1 b.2.split b.2.is_item)
one_offset_fault left v w (inr a) (inl b) = absurd (b.1 a.0 a.1 a.2.split a.2.is_item)
one_offset_fault left v w (inr a) (inr b) = same_Some v w (sym a.3 ∙ faults-agree left a.0 b.0 a.1 b.1 a.2 b.2 ∙ b.3)

pub none_at_end : (wrong : OffsetFault) → HasFault [] wrong → ⊥
none_at_end wrong (inl none) = omega (arith, none.0)
none_at_end wrong (inr faulty) = nothing_stands faulty.0 faulty.1 faulty.2

pub one_cut : (text : List ℕ) (is js : List Item) (l m : List ℕ) → IsCut text is l → IsStuck l → IsCut text js m → IsStuck m → (is ≡ js) × (l ≡ m)
one_cut text [] [] l m a stuck_l b stuck_m = (refl, sym a ∙ b)
one_cut text [] (j ∷ js) l m a stuck_l b stuck_m = absurd (stuck_l j b.0 (subst (λ (t : List ℕ). IsLongest t j b.0) a b.1) b.2)
one_cut text (i ∷ is) [] l m a stuck_l b stuck_m = absurd (stuck_m i a.0 (subst (λ (t : List ℕ). IsLongest t i a.0) b a.1) a.2)
one_cut text (i ∷ is) (j ∷ js) l m a stuck_l b stuck_m =
    let one = one_longest text i j a.0 b.0 a.1 b.1 in
    let rest = one_cut b.0 is js l m (subst (λ (t : List ℕ). IsCut t is l) one.1 a.3) stuck_l b.3 stuck_m in
    ((λ k. one.0 k ∷ rest.0 k), rest.1)
