-- At most one list of tokens lexes a text, and none where there is a fault.
use Rattle.std.proofs.Common.{◌≡◌, ℕ, ◌+◌, ◌-◌, List, [], length, Result, Ok, Err, sym, ap, subst, ◌∙◌, inl, inr, ◌⊎◌, arith}
use Rattle.std.specs.Prelude.{IfOk, IfErr}
use Rattle.std.specs.Global.{Vec}
use Rattle.guard_model.specs.Answer.{Gives, Refuses}
use Rattle.guard_lexer.specs.Spans.{AreSpans}
use Rattle.guard_lexer.proofs.SpelledTokens.{are_spans}
use Rattle.guard_lexer.specs.Sites.{site_at}
use Rattle.guard_lexer.specs.Lexing.{Item, IsCut, tokens_from, HasFault, FaultAt, Lexes, FirstFault, fault_named}
use Rattle.guard_lexer.specs.declared.fault.LexFault.{LexFault}
use Rattle.guard_lexer.specs.declared.fault.LexFault.TheVariants as faults
use Rattle.guard_lexer.specs.declared.token.Token.{Token}
use Rattle.guard_lexer.proofs.OneCut.{one_cut, stuck_at_end, stuck_at_fault, one_offset_fault, none_at_end}

pub one_list : (place : ℕ) (text : List ℕ) (a b : List Token) → Lexes place text a → Lexes place text b → a ≡ b
one_list place text a b x y =
    let one = one_cut text x.items y.items [] [] x.cut stuck_at_end y.cut stuck_at_end in
    x.tokens_are ∙ ap (tokens_from place text 0) one.0 ∙ sym y.tokens_are

none_with_fault : (place : ℕ) (text : List ℕ) (items : List Item) (fault : LexFault) → IsCut text items [] → FaultAt place text fault → ⊥
none_with_fault place text items fault cut f =
    let one = one_cut text items f.0 [] f.1 cut stuck_at_end f.3 (stuck_at_fault f.1 f.2 f.4) in
    none_at_end f.2 (subst (λ (l : List ℕ). HasFault l f.2) (sym one.1) f.4)

one_fault_at : (place : ℕ) (text : List ℕ) (a b : LexFault) → FaultAt place text a → FaultAt place text b → a ≡ b
one_fault_at place text a b f g =
    let one = one_cut text f.0 g.0 f.1 g.1 f.3 (stuck_at_fault f.1 f.2 f.4) g.3 (stuck_at_fault g.1 g.2 g.4) in
    let wrong : f.2 ≡ g.2 = one_offset_fault g.1 f.2 g.2 (subst (λ (l : List ℕ). HasFault l f.2) one.1 f.4) g.4 in
    f.5 ∙ (λ k. (wrong k).fault (site_at place text (length text - length (one.1 k) + (wrong k).offset))) ∙ sym g.5

pub none_lexed : (place : ℕ) (text : List ℕ) (tokens : List Token) (fault : LexFault) → Lexes place text tokens → FirstFault place text fault → ⊥
none_lexed place text tokens fault x (inl long) = omega (arith, x.lawful.short, long.0)
none_lexed place text tokens fault x (inr (inl bad)) = bad.1 x.lawful.utf8
none_lexed place text tokens fault x (inr (inr f)) = none_with_fault place text x.items fault x.cut f.1

pub one_fault : (place : ℕ) (text : List ℕ) (a b : LexFault) → FirstFault place text a → FirstFault place text b → a ≡ b
one_fault place text a b (inl x) (inl y) = x.1 ∙ sym y.1
one_fault place text a b (inl x) (inr (inl y)) = absurd (omega (arith, x.0, y.0))
one_fault place text a b (inl x) (inr (inr y)) = absurd (omega (arith, x.0, y.0.short))
one_fault place text a b (inr (inl x)) (inl y) = absurd (omega (arith, x.0, y.0))
one_fault place text a b (inr (inl x)) (inr (inl y)) = x.2 ∙ sym y.2
one_fault place text a b (inr (inl x)) (inr (inr y)) = absurd (x.1 y.0.utf8)
one_fault place text a b (inr (inr x)) (inl y) = absurd (omega (arith, x.0.short, y.0))
one_fault place text a b (inr (inr x)) (inr (inl y)) = absurd (y.1 x.0.utf8)
one_fault place text a b (inr (inr x)) (inr (inr y)) = one_fault_at place text a b x.1 y.1

-- a refusal names its fault, unless it says that memory ran out
pub refuses : {Y : Type 0} (e : LexFault) (answer : Result Y LexFault) → ((e ≡ faults.OutOfMemory → ⊥) → answer ≡ Err e) → Refuses (fault_named e) answer
refuses faults.OutOfMemory answer h = tt
refuses _ answer h = h (λ e. cc)

-- ---- what follows of an answer that is right

pub spans_of : (place : ℕ) (text : List ℕ) (r : Result (Vec Token) LexFault) → IfOk r (λ v. Lexes place text v.items) → IfOk r (λ v. AreSpans text v.items)
spans_of place text (Ok v) l = subst (AreSpans text) (sym l.tokens_are) (are_spans place text l.items l.cut)
spans_of place text (Err e) l = tt

pub tokens_answered : (place : ℕ) (text : List ℕ) (r : Result (Vec Token) LexFault) → IfOk r (λ v. Lexes place text v.items) → IfErr r (λ f. (f ≡ faults.OutOfMemory) ⊎ FirstFault place text f)
    → (ts : List Token) → Lexes place text ts → Gives (λ v. v.items) fault_named r (Ok ts)
tokens_answered place text (Ok v) l f ts given = ap (λ (x : List Token). Ok x) (one_list place text ts v.items given l)
tokens_answered place text (Err e) l f ts given = refuses e (Ok ts) (λ some. elim f [ inl none ↦ absurd (some none) | inr first ↦ absurd (none_lexed place text ts e given first) ])

pub fault_answered : (place : ℕ) (text : List ℕ) (r : Result (Vec Token) LexFault) → IfOk r (λ v. Lexes place text v.items) → IfErr r (λ f. (f ≡ faults.OutOfMemory) ⊎ FirstFault place text f)
    → (g : LexFault) → FirstFault place text g → Gives (λ v. v.items) fault_named r (Err g)
fault_answered place text (Ok v) l f g given = absurd (none_lexed place text v.items g l given)
fault_answered place text (Err e) l f g given = refuses e (Err g) (λ some. elim f [ inl none ↦ absurd (some none) | inr first ↦ ap (λ (x : LexFault). Err x) (one_fault place text g e given first) ])
