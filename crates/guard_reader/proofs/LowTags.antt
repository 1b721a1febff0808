-- Tags that stand in one octet.
use Rattle.std.proofs.Common.{◌≡◌, ℕ, ◌<◌, ◌%◌, Bool, true, false, cond, eqb, ltb, leb, List, [], ◌∷◌, length, take, drop, get_or, Option, Some, None, Result, Ok, Err, refl, ap, ◌∙◌, arith}
use Rattle.std.specs.Option.{is_some}
use Rattle.std.proofs.lemmas.Bool.{eqb-true}
use Rattle.guard_model.specs.declared.tag.Tag.{Tag}
use Rattle.guard_model.specs.Answer as answer
use Rattle.guard_der.specs.declared.breach.Code.{Code}
use Rattle.guard_der.specs.declared.breach.Code.TheVariants as code
use Rattle.guard_der.specs.Head.{Head, class_of, head_of, length_at}
use Rattle.guard_reader.specs.Fronts.{after_one}
use Rattle.guard_reader.specs.Judging.{tag_at}
use Rattle.guard_reader.specs.Octets.{cut_at, ok, split}
use Rattle.guard_reader.specs.Octets.{◌>>=◌}
use Rattle.guard_reader.proofs.Fronts.{head_from, head_with, low_head}

abbrev tag_of : Option Head → Option Tag
tag_of h = h >>= λ h. Some h.tag

by_room : (t : Tag) (c : Bool) (os : List ℕ) (l : ℕ × List ℕ) (b room : Bool) → room ≡ is_some {T = List ℕ × List ℕ} (cond b None (Some (take l.0 l.1, drop l.0 l.1)))
    → tag_of (ok (cond b (Err code.Truncated) (Ok (head_from t c os l)))) ≡ cond room (Some t) None
by_room t c os l true true e = absurd cc
by_room t c os l true false e = refl
by_room t c os l false true e = refl
by_room t c os l false false e = absurd cc

by_length : (t : Tag) (c : Bool) (os : List ℕ) (r : Result (ℕ × List ℕ) Code) (room : Bool) → room ≡ is_some (cut_at r) → tag_of (ok (answer.◌>>=◌ r (head_with t c os))) ≡ cond room (Some t) None
by_length t c os (Err k) true e = absurd cc
by_length t c os (Err k) false e = refl
by_length t c os (Ok l) room e = by_room t c os l (ltb (length l.1) l.0) room e

-- the tag that the first octet says
abbrev pub said : List ℕ → Tag
said os = record { class = class_of (get_or os 0 0); number = get_or os 0 0 % 32 }

pub by_octet : (os : List ℕ) (room : Bool) → 0 < length os → get_or os 0 0 % 32 < 31 → room ≡ is_some (split (after_one os)) → tag_at os ≡ cond room (Some (said os)) None
unfolding split
by_octet [] room some low e = absurd (omega (arith, some))
by_octet (o ∷ os) room some low e =
    ap (λ (r : Result Head Code). tag_of (ok r)) (low_head o os low)
    ∙ by_length (said (o ∷ os)) (leb 32 (o % 64)) os (length_at os) room e

pub nothing : (os : List ℕ) → eqb (length os) 0 ≡ true → None ≡ tag_at os
unfolding head_of
nothing [] e = refl
nothing (o ∷ os) e = absurd (omega (arith, eqb-true (length (o ∷ os)) 0 e))
