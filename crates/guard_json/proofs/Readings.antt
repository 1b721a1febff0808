-- Lines of JSON that are read back.
use Rattle.std.proofs.Common.{◌≡◌, ℕ, Bool, true, false, ◌&&◌, not, ◌==◌, cond, List, [], ◌∷◌, ◌++◌, refl, sym, ap, ap₂, ◌∙◌, subst, append-nil, append_assoc}
use Rattle.std.specs.Prelude.{Option, Some, None, option_map, bytes_eq}
use Rattle.std.proofs.lemmas.Bool.{true≢false, false≢true, eqb-true, and_parts, and_from}
use Rattle.std.proofs.lemmas.Slice.Eq.{bytes_eq-Decides}
use Rattle.json.specs.Lex.{tokens}
use Rattle.guard_json.specs.Cutting.{line_feed}
use Rattle.guard_json.specs.Objects.{json_line, json_from, json_text}
use Rattle.guard_json.specs.Taken.{is_one_line, told_by, line_if, line_in, with_line, lines_from, IsJsonOf}
use Rattle.guard_json.proofs.OneLine.{one_line_both}

-- ---- what more is read of more octets

with_more : (o r s : Option (List ℕ)) (p q : List ℕ) → ((x : List ℕ) → r ≡ Some x → s ≡ Some (x ++ q)) → with_line o r ≡ Some p
    → with_line o s ≡ Some (p ++ q)
with_more None r s p q more h = cc
with_more (Some l) None s p q more h = cc
with_more (Some l) (Some x) s p q more h =
    ap (option_map (λ lines. l ++ line_feed ∷ lines)) (more x refl)
    ∙ ap Some (sym (append_assoc l (line_feed ∷ x) q))
    ∙ ap (option_map (λ y. y ++ q)) h

more_at : (b : Bool) (o r s f g : Option (List ℕ)) (p q : List ℕ) → ((x : List ℕ) → r ≡ Some x → s ≡ Some (x ++ q))
    → (f ≡ Some p → g ≡ Some (p ++ q)) → elim b [ true ↦ with_line o r | false ↦ f ] ≡ Some p
    → elim b [ true ↦ with_line o s | false ↦ g ] ≡ Some (p ++ q)
more_at true o r s f g p q more further h = with_more o r s p q more h
more_at false o r s f g p q more further h = further h

pub lines_more : (torn : Bool) (seen a b p q : List ℕ) → lines_from false seen a ≡ Some p → lines_from torn [] b ≡ Some q
    → lines_from torn seen (a ++ b) ≡ Some (p ++ q)
lines_more torn [] [] b p q h k = k ∙ ap (λ o. option_map (λ y. y ++ q) o) h
lines_more torn (s ∷ seen) [] b p q h k = cc
lines_more torn seen (c ∷ cs) b p q h k =
    more_at (c == line_feed) (line_in seen) _ _ _ _ p q (λ x e. lines_more torn [] cs b x q e k)
    (λ e. lines_more torn (seen ++ c ∷ []) cs b p q e k) h

-- an octet that isn't the last of a line
passed : {A : Type 0} (b : Bool) (o r s : A) → not b ≡ true → r ≡ s → elim b [ true ↦ o | false ↦ r ] ≡ s
passed true o r s h e = absurd (false≢true h)
passed false o r s h e = e

pub torn_line : (seen b : List ℕ) → is_one_line b ≡ true → lines_from true seen b ≡ Some []
torn_line [] [] h = refl
torn_line (s ∷ seen) [] h = refl
torn_line seen (c ∷ cs) h =
    let p = and_parts _ _ h in
    passed (c == line_feed) _ _ _ p.0 (torn_line (seen ++ c ∷ []) cs p.1)

whole_from : (torn : Bool) (seen object line : List ℕ) → is_one_line object ≡ true → line_in (seen ++ object) ≡ Some line
    → lines_from torn seen (object ++ line_feed ∷ []) ≡ Some (line ++ line_feed ∷ [])
whole_from torn seen [] line h e = ap (λ o. with_line o (Some [])) (ap line_in (sym (append-nil seen)) ∙ e)
whole_from torn seen (c ∷ cs) line h e =
    let p = and_parts _ _ h in
    passed (c == line_feed) _ _ _ p.0
    (whole_from torn (seen ++ c ∷ []) cs line p.1 (ap line_in (append_assoc seen (c ∷ []) cs) ∙ e))

pub whole_line : (torn : Bool) (object line : List ℕ) → is_one_line object ≡ true → line_in object ≡ Some line
    → lines_from torn [] (object ++ line_feed ∷ []) ≡ Some (line ++ line_feed ∷ [])
whole_line torn object line h e = whole_from torn [] object line h e

-- an object tells its line
pub line_of_object : (line : List ℕ) → told_by (tokens (json_line line)) ≡ line → is_one_line line ≡ true → line_in (json_line line) ≡ Some line
unfolding line_in
line_of_object line h one =
    ap (λ l. line_if l (json_line line)) h
    ∙ ap (λ b. cond b (Some line) None) (and_from _ _ ((bytes_eq-Decides (json_line line) (json_line line)).1 refl) one)

-- ---- what was read is the JSON of lines

-- what was read as a line
pub record IsRead (octets line : List ℕ) : Type 0 where
  pub same : json_line line ≡ octets
  pub one : is_one_line line ≡ true

read_at : (t : Bool) (l octets line : List ℕ) → (t ≡ true → IsRead octets l) → cond t (Some l) None ≡ Some line → IsRead octets line
read_at true l octets line f h = let e : l ≡ line = cc in subst (IsRead octets) e (f refl)
read_at false l octets line f h = absurd (cc)

line_read : (octets line : List ℕ) → line_in octets ≡ Some line → IsRead octets line
unfolding line_in
line_read octets line h =
    let l = told_by (tokens octets) in
    read_at (bytes_eq (json_line l) octets && is_one_line l) l octets line
    (λ t. let p = and_parts (bytes_eq (json_line l) octets) (is_one_line l) t in
    record { same = (bytes_eq-Decides (json_line l) octets).0 p.0; one = p.1 }) h

no_object : (seen b : List ℕ) → is_one_line b ≡ true → json_from seen b ≡ []
no_object seen [] h = refl
no_object seen (c ∷ cs) h =
    let p = and_parts _ _ h in
    passed (c == line_feed) _ _ _ p.0 (no_object (seen ++ c ∷ []) cs p.1)

object_first : (seen line rest : List ℕ) → is_one_line line ≡ true
    → json_from seen (line ++ line_feed ∷ rest) ≡ json_line (seen ++ line) ++ line_feed ∷ json_from [] rest
object_first seen [] rest h = ap (λ s. json_line s ++ line_feed ∷ json_from [] rest) (sym (append-nil seen))
object_first seen (c ∷ cs) rest h =
    let p = and_parts _ _ h in
    passed (c == line_feed) _ _ _ p.0
    (object_first (seen ++ c ∷ []) cs rest p.1
    ∙ ap (λ s. json_line s ++ line_feed ∷ json_from [] rest) (append_assoc seen (c ∷ []) cs))

record Parts (o r : Option (List ℕ)) (p : List ℕ) : Type 0 where
  line : List ℕ
  lines : List ℕ
  first : o ≡ Some line
  rest : r ≡ Some lines
  joined : p ≡ line ++ line_feed ∷ lines

with_parts : (o r : Option (List ℕ)) (p : List ℕ) → with_line o r ≡ Some p → Parts o r p
with_parts None r p h = absurd (cc)
with_parts (Some l) None p h = absurd (cc)
with_parts (Some l) (Some q) p h =
    let e : l ++ line_feed ∷ q ≡ p = cc in
    record { line = l; lines = q; first = refl; rest = refl; joined = sym e }

came_at : (t torn : Bool) (seen : List ℕ) (c : ℕ) (cs p b : List ℕ) → (c == line_feed) ≡ t
    → ((q : List ℕ) → lines_from torn [] cs ≡ Some q → IsJsonOf torn cs (q ++ b))
    → (is_one_line (c ∷ []) ≡ true → lines_from torn (seen ++ c ∷ []) cs ≡ Some p → IsJsonOf torn ((seen ++ c ∷ []) ++ cs) (p ++ b))
    → elim t [ true ↦ with_line (line_in seen) (lines_from torn [] cs) | false ↦ lines_from torn (seen ++ c ∷ []) cs ] ≡ Some p
    → IsJsonOf torn (seen ++ c ∷ cs) (p ++ b)
came_at true torn seen c cs p b e next further h =
    let w = with_parts (line_in seen) (lines_from torn [] cs) p h in
    let read = line_read seen w.line w.first in
    let ih = next w.lines w.rest in
    let t : json_text (p ++ b) ≡ json_line w.line ++ line_feed ∷ json_text (w.lines ++ b) =
    ap (λ x. json_text (x ++ b)) w.joined
    ∙ ap json_text (append_assoc w.line (line_feed ∷ w.lines) b)
    ∙ object_first [] w.line (w.lines ++ b) read.one in
    record {
      rest = ih.rest;
      joined = sym
          (ap (λ x. x ++ ih.rest) t
          ∙ append_assoc (json_line w.line) (line_feed ∷ json_text (w.lines ++ b)) ih.rest
          ∙ ap₂ (λ x y. x ++ line_feed ∷ y) read.same (sym ih.joined)
          ∙ ap (λ x. seen ++ x ∷ cs) (sym (eqb-true c line_feed e)));
      short = ih.short;
      whole = ih.whole;
    }
came_at false torn seen c cs p b e next further h =
    subst (λ x. IsJsonOf torn x (p ++ b)) (append_assoc seen (c ∷ []) cs) (further (ap (λ t. not t && true) e) h)

ended : (p b : List ℕ) → is_one_line b ≡ true → Some [] ≡ Some p → json_text (p ++ b) ≡ []
ended p b e h = let none : [] ≡ p = cc in ap (λ x. json_text (x ++ b)) (sym none) ∙ no_object [] b e

pub came_from : (torn : Bool) (seen since p b : List ℕ) → is_one_line seen ≡ true → is_one_line b ≡ true
    → lines_from torn seen since ≡ Some p → IsJsonOf torn (seen ++ since) (p ++ b)
came_from torn [] [] p b s e h =
    record { rest = []; joined = ap (λ x. x ++ []) (sym (ended p b e h)); short = refl; whole = λ t. refl }
came_from true (c ∷ seen) [] p b s e h = record {
  rest = c ∷ seen;
  joined = append-nil (c ∷ seen) ∙ ap (λ x. x ++ c ∷ seen) (sym (ended p b e h));
  short = s;
  whole = λ t. absurd (true≢false t);
}
came_from false (c ∷ seen) [] p b s e h = absurd (cc)
came_from torn seen (c ∷ cs) p b s e h =
    came_at (c == line_feed) torn seen c cs p b refl (λ q k. came_from torn [] cs q b refl e k)
    (λ one k. came_from torn (seen ++ c ∷ []) cs p b (one_line_both seen (c ∷ []) s one) e k) h
