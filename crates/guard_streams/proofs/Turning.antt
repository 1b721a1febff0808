-- Records that are taken in turn, and what is written of them.
use Rattle.std.proofs.Common.{◌≡◌, ◌∙◌, max, ℕ, zero, suc, Bool, true, false, cond, List, [], ◌∷◌, ◌++◌, ap, refl, sym, subst, drop, map, arith, append_assoc, slice_get, slice_set}
use Rattle.std.specs.Prelude.{Option, Some}
use Rattle.std.specs.List.{concat}
use Rattle.std.specs.Io.KnownBytes.{Appends}
use Rattle.std.proofs.lemmas.List.{append-nil, map-append}
use Rattle.std.proofs.lemmas.List.Folds.{concat-append}
use Rattle.std.proofs.lemmas.Option.{same_Some, none-some}
use Rattle.guard_frames.proofs.Appending.{Appends_trans, Appends_is}
use Rattle.guard_frames.specs.LinkView.{AbstractLink}
use Rattle.guard_files.specs.Devices.{Device, device}
use Rattle.guard_files.specs.Records.{Record}
use Rattle.guard_files.specs.Records.Record.{end}
use Rattle.guard_streams.specs.Muxing.{WritesPart}
use Rattle.guard_streams.specs.Turns.{AbstractMux, Written, Happens, InTurn, all_out, all_err, status_of, ends_left}

-- ---- one more

pub one_more : (path : List ℕ) (a b c : AbstractMux) (rs : List Record) (ws : List Written) (r : Record) (w : Written)
    → InTurn path a rs ws b → Happens path b r w c → InTurn path a (rs ++ r ∷ []) (ws ++ w ∷ []) c
one_more path a b c [] ws r w h next = (
  w,
  [],
  c,
  ap (λ (x : List Written). x ++ w ∷ []) h.0,
  subst (λ
      (x : AbstractMux). Happens path x r w c) h.1 next,
  (refl, refl),
)
one_more path a b c (q ∷ rs) ws r w h next = (
  h.0,
  h.1 ++ w ∷ [],
  h.2,
  ap (λ (x : List Written). x ++ w ∷ []) h.3,
  h.4,
  one_more path h.2 b c rs h.1 r w h.5
      next,
)

pub all_out-append : (xs ys : List Written) → all_out (xs ++ ys) ≡ all_out xs ++ all_out ys
all_out-append xs ys = ap concat (map-append (λ (w : Written). w.out) xs ys)
    ∙ concat-append (map (λ w. w.out) xs) (map (λ w. w.out) ys)

pub all_err-append : (xs ys : List Written) → all_err (xs ++ ys) ≡ all_err xs ++ all_err ys
all_err-append xs ys = ap concat (map-append (λ (w : Written). w.err) xs ys)
    ∙ concat-append (map (λ w. w.err) xs) (map (λ w. w.err) ys)

pub status_of-append : (xs ys : List Written) → status_of (xs ++ ys) ≡ max (status_of xs) (status_of ys)
status_of-append [] ys = omega arith
status_of-append (x ∷ xs) ys = let rest = status_of-append xs ys in omega (arith, rest)

pub all_out-more : (ws : List Written) (w : Written) → all_out (ws ++ w ∷ []) ≡ all_out ws ++ w.out
all_out-more ws w = all_out-append ws (w ∷ []) ∙ ap (λ (s : List ℕ). all_out ws ++ s) (append-nil w.out)

pub all_err-more : (ws : List Written) (w : Written) → all_err (ws ++ w ∷ []) ≡ all_err ws ++ w.err
all_err-more ws w = all_err-append ws (w ∷ []) ∙ ap (λ (s : List ℕ). all_err ws ++ s) (append-nil w.err)

pub status_of-more : (ws : List Written) (w : Written) → status_of (ws ++ w ∷ []) ≡ max (status_of ws) w.status
status_of-more ws w = let all = status_of-append ws (w ∷ []) in omega (arith, all)

-- ---- what an output took, after what it took before

pub sent_more : (a b c : Option (List ℕ)) (ws : List Written) (w : Written) → Appends a b (all_out ws)
    → Appends b c w.out → Appends a c (all_out (ws ++ w ∷ []))
sent_more a b c ws w p q = Appends_is a c (all_out ws ++ w.out) (all_out (ws ++ w ∷ [])) (sym (all_out-more ws w))
    (Appends_trans a b c (all_out ws) w.out p q)

pub told_more : (a b c : Option (List ℕ)) (ws : List Written) (w : Written) → Appends a b (all_err ws)
    → Appends b c w.err → Appends a c (all_err (ws ++ w ∷ []))
told_more a b c ws w p q = Appends_is a c (all_err ws ++ w.err) (all_err (ws ++ w ∷ [])) (sym (all_err-more ws w))
    (Appends_trans a b c (all_err ws) w.err p q)

pub sent_then : (a b c : Option (List ℕ)) (xs ys : List Written) (part : List ℕ) → Appends a b (all_out xs)
    → Appends b c (all_out ys ++ part) → Appends a c (all_out (xs ++ ys) ++ part)
sent_then a b c xs ys part p q =
    Appends_is a c (all_out xs ++ (all_out ys ++ part)) (all_out (xs ++ ys) ++ part)
    (sym (append_assoc (all_out xs) (all_out ys) part)
    ∙ ap (λ (s : List ℕ). s ++ part) (sym (all_out-append xs ys)))
    (Appends_trans a b c (all_out xs) (all_out ys ++ part) p q)

pub told_then : (a b c : Option (List ℕ)) (xs ys : List Written) (part : List ℕ) → Appends a b (all_err xs)
    → Appends b c (all_err ys ++ part) → Appends a c (all_err (xs ++ ys) ++ part)
told_then a b c xs ys part p q =
    Appends_is a c (all_err xs ++ (all_err ys ++ part)) (all_err (xs ++ ys) ++ part)
    (sym (append_assoc (all_err xs) (all_err ys) part)
    ∙ ap (λ (s : List ℕ). s ++ part) (sym (all_err-append xs ys)))
    (Appends_trans a b c (all_err xs) (all_err ys ++ part) p q)

-- an output fails after what was written before
pub after : (path : List ℕ) (old : AbstractMux) (r : Record) (xs ys : List Written)
    (o o₁ o₂ e e₁ e₂ : Option (List ℕ)) (f k k₁ : Bool)
    (Breaks : Device → Device → Written → List ℕ → List ℕ → Type 0)
    → ((w : Written) (s t : List ℕ) → Breaks (device o₁ o₂ f) (device e₁ e₂ k) w s t
    → Breaks (device o o₂ f) (device e e₂ k₁) w s t)
    → Appends o o₁ (all_out xs) → Appends e e₁ (all_err xs)
    → WritesPart path old r ys (device o₁ o₂ f) (device e₁ e₂ k) Breaks
    → WritesPart path old r (xs ++ ys) (device o o₂ f) (device e e₂ k₁) Breaks
after path old r xs ys o o₁ o₂ e e₁ e₂ f k k₁ Breaks moved p q h = record {
  w = h.w;
  new = h.new;
  happens = h.happens;
  out_part = h.out_part;
  err_part = h.err_part;
  breaks = moved h.w h.out_part h.err_part h.breaks;
  sent = sent_then o o₁ o₂ xs ys h.out_part p h.sent;
  told = told_then e e₁ e₂ xs ys h.err_part q h.told;
}

-- ---- the ends that are left

pub ends_closed : (k : ℕ) (l : AbstractLink) (ls : List AbstractLink) → l.closed ≡ true
    → ends_left k (l ∷ ls) ≡ ends_left (suc k) ls
ends_closed k l ls is = ap (λ b. cond b (ends_left (suc k) ls) (end k ∷ ends_left (suc k) ls)) is

pub ends_open : (k : ℕ) (l : AbstractLink) (ls : List AbstractLink) → l.closed ≡ false
    → ends_left k (l ∷ ls) ≡ end k ∷ ends_left (suc k) ls
ends_open k l ls is = ap (λ b. cond b (ends_left (suc k) ls) (end k ∷ ends_left (suc k) ls)) is

pub drop_there : (ls : List AbstractLink) (k : ℕ) (l : AbstractLink) → slice_get ls k ≡ Some l
    → drop k ls ≡ l ∷ drop (suc k) ls
drop_there [] k l h = absurd (none-some l h)
drop_there (x ∷ ls) zero l h = ap (λ (y : AbstractLink). y ∷ ls) (same_Some x l h)
drop_there (x ∷ ls) (suc k) l h = drop_there ls k l h

pub drop_set : (ls : List AbstractLink) (k : ℕ) (l : AbstractLink) → drop (suc k) (slice_set ls k l) ≡ drop (suc k) ls
drop_set [] k l = refl
drop_set (x ∷ ls) zero l = refl
drop_set (x ∷ ls) (suc k) l = drop_set ls k l
