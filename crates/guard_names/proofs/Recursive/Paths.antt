-- A search through chains of uses. Its path is cut into parts, and chains lead from each definition of a part to the
-- first one.
use Rattle.std.proofs.Common.{◌≡◌, ◌≢◌, ◌⊎◌, inl, inr, ⊎_elim, ℕ, ◌+◌, ◌-◌, ◌<◌, ◌≤◌, Bool, true, false, List, ◌++◌, length, Option, Some, Contains, refl, sym, ◌∙◌, ap, subst, arith}
use Rattle.std.specs.Prelude.{nat_eq}
use Rattle.std.specs.List.{AllPairs}
use Rattle.std.proofs.lemmas.Bool.{cases_lt}
use Rattle.std.proofs.lemmas.Bool.Decides.{eqb_tells}
use Rattle.std.proofs.lemmas.List.Elements.{Contains-append_left, Contains-append_right, Contains-append_cases}
use Rattle.guard_names.specs.declared.recursion.Mark.{Mark}
use Rattle.guard_names.specs.declared.recursion.Mark.TheVariants.{New, OnPath, Done}
use Rattle.guard_names.specs.declared.recursion.Pending.{Pending}
use Rattle.guard_names.specs.Order.{Leads, at_once, through, IsRecursive}
use Rattle.guard_names.specs.inside.Queues.{UsesIn}
use Rattle.guard_names.specs.inside.Searches.{Reaches, IsFollowed, left, pending_use, on_path, IsPath, IsLeast}
use Rattle.guard_names.proofs.InOrder.Chains.{leads_on}

-- ---- chains

module _ {uses : ℕ → ℕ → Type 0} where
  pub reach_lead : {a b c : ℕ} → Reaches uses a b → Leads uses b c → Leads uses a c
  reach_lead {a} {b} {c} (inl same) chain = subst (λ x. Leads uses x c) (sym same) chain
  reach_lead (inr first) chain = leads_on first chain

  pub lead_reach : {a b c : ℕ} → Leads uses a b → Reaches uses b c → Leads uses a c
  lead_reach chain (inl same) = subst (Leads uses _) same chain
  lead_reach chain (inr rest) = leads_on chain rest

  pub reach_reach : {a b c : ℕ} → Reaches uses a b → Reaches uses b c → Reaches uses a c
  reach_reach {a} {b} {c} (inl same) rest = subst (λ x. Reaches uses x c) (sym same) rest
  reach_reach (inr first) rest = inr (lead_reach first rest)

-- marks differ
done_new : {P : Type 0} → Done ≡ New → P
done_new h = absurd cc

done_on : {P : Type 0} {q : ℕ} → Done ≡ OnPath q → P
done_on h = absurd cc

on_new : {P : Type 0} {q : ℕ} → OnPath q ≡ New → P
on_new h = absurd cc

same_place : (p q : ℕ) → OnPath p ≡ OnPath q → p ≡ q
same_place p q h = cc

true_false : {P : Type 0} → true ≡ false → P
true_false h = absurd cc

abbrev pub None_excepted : ℕ → Type 0
None_excepted used = ⊥

module _ (us : List (List ℕ)) where
  -- ---- going on to a definition that is new

  module _ (len : ℕ) (node node' start start' : ℕ → ℕ) (cyclic cyclic' : ℕ → Bool) (pending more : List Pending) (mark mark' : ℕ → Mark) (v : ℕ)
      (s : IsPath us len node start cyclic pending mark (λ used. used ≡ v)) (new : mark v ≡ New) (inside' : v < length us)
      (comes : (q : ℕ) → q < len → Leads (UsesIn us) (node q) v)
      (node_before : (q : ℕ) → q < len → node' q ≡ node q) (node_at : node' len ≡ v)
      (start_before : (q : ℕ) → q < len → start' q ≡ start q) (start_at : start' len ≡ len)
      (cyclic_before : (q : ℕ) → q < len → cyclic' q ≡ cyclic q) (cyclic_at : cyclic' len ≡ false)
      (mark_at : mark' v ≡ OnPath len) (mark_other : (k : ℕ) → k ≢ v → mark' k ≡ mark k)
      (more_place : (e : Pending) → Contains more e → (e.place ≡ len) × UsesIn us v e.used)
      (more_used : (used : ℕ) → UsesIn us v used → Contains more (record { place = len; used = used }))
      (more_rising : AllPairs (λ a b. a.place ≤ b.place) (pending ++ more)) where
    last_or_before : (q : ℕ) → q < len + 1 → (q < len) ⊎ (q ≡ len)
    last_or_before q h = ⊎_elim (λ (l : q < len). inl l) (λ (g : len ≤ q). inr (omega arith)) (cases_lt q len)

    is_other : (k : ℕ) (m : Mark) → mark k ≡ m → (New ≡ m → ⊥) → k ≢ v
    is_other k m e differs same = differs (sym new ∙ ap mark (sym same) ∙ e)

    keeps_done : (k : ℕ) → mark k ≡ Done → mark' k ≡ Done
    keeps_done k e = mark_other k (is_other k Done e (λ h. done_new (sym h))) ∙ e

    was_done : (k : ℕ) → mark' k ≡ Done → mark k ≡ Done
    was_done k e = sym (mark_other k (λ same. done_on (sym e ∙ ap mark' same ∙ mark_at))) ∙ e

    rising_to : (p : ℕ) → (p < len) ⊎ (p ≡ len) → start' p ≤ len
    rising_to p (inl l) = rw (start_before p l) (omega (arith, s.below p l, l))
    rising_to p (inr e) = rw (e, start_at) (omega arith)

    place : (k q : ℕ) → mark' k ≡ OnPath q → ((nat_eq k v ≡ true) × (k ≡ v)) ⊎ ((nat_eq k v ≡ false) × (k ≢ v)) → (q < len + 1) × (node' q ≡ k)
    place k q e (inl same) =
        let p : q ≡ len = same_place q len (sym e ∙ ap mark' same.1 ∙ mark_at) in
        (omega arith, ap node' p ∙ node_at ∙ sym same.1)
    place k q e (inr apart) =
        let p = s.at_place k q (sym (mark_other k apart.1) ∙ e) in
        (omega (arith, p.0), node_before q p.0 ∙ p.1)

    still_followed : (q used : ℕ) → q < len → IsFollowed us len node start cyclic pending mark q used ⊎ (used ≡ v) → IsFollowed us (len + 1) node' start' cyclic' (pending ++ more) mark' q used
    still_followed q used l (inl (left done)) = left (keeps_done used done)
    still_followed q used l (inl (pending_use is)) = pending_use (Contains-append_left pending more _ is)
    still_followed q used l (inl (on_path other lo is up same)) =
        on_path other (omega arith) (node_before other lo ∙ is) (rw (start_before q l, start_before other lo) up)
        (λ e. cyclic_before q l ∙ same (sym (start_before q l) ∙ e ∙ start_before other lo))
    still_followed q used l (inr is) =
        on_path len (omega arith) (node_at ∙ sym is) (rw (start_before q l, start_at) (omega (arith, s.below q l, l)))
        (λ e. absurd (omega (arith, s.below q l, l, start_before q l, start_at, e)))

    follows : (q used : ℕ) → (q < len) ⊎ (q ≡ len) → UsesIn us (node' q) used → IsFollowed us (len + 1) node' start' cyclic' (pending ++ more) mark' q used
    follows q used (inl l) u = still_followed q used l (s.followed q used l (subst (λ x. UsesIn us x used) (node_before q l) u))
    follows q used (inr e) u =
        subst (λ x. IsFollowed us (len + 1) node' start' cyclic' (pending ++ more) mark' x used) (sym e)
        (pending_use (Contains-append_right pending more _ (more_used used (subst (λ x. UsesIn us x used) (ap node' e ∙ node_at) u))))

    pub enters : IsPath us (len + 1) node' start' cyclic' (pending ++ more) mark' None_excepted
    enters = record {
      marked = λ q h. ⊎_elim
          (λ (l : q < len). ap mark' (node_before q l) ∙ mark_other (node q) (is_other (node q) (OnPath q) (s.marked q l) (λ e. on_new (sym e))) ∙ s.marked q l)
          (λ (e : q ≡ len). ap (λ x. mark' (node' x)) e ∙ ap mark' node_at ∙ mark_at ∙ ap OnPath (sym e)) (last_or_before q h);
      inside = λ q h. ⊎_elim (λ (l : q < len). subst (λ x. x < length us) (sym (node_before q l)) (s.inside q l)) (λ (e : q ≡ len). subst (λ x. x < length us) (sym (ap node' e ∙ node_at)) inside') (last_or_before q h);
      at_place = λ k q e. place k q e (eqb_tells k v);
      ahead = λ p q before h. ⊎_elim
          (λ (l : q < len). let lp : p < len = omega arith in rw (node_before p lp, node_before q l) (s.ahead p q before l))
          (λ (e : q ≡ len). let lp : p < len = omega arith in rw (e, node_before p lp, node_at) (comes p lp)) (last_or_before q h);
      back = λ q h. ⊎_elim
          (λ (l : q < len). let ls : start q < len = omega (arith, s.below q l) in rw (start_before q l, node_before q l, node_before (start q) ls) (s.back q l))
          (λ (e : q ≡ len). rw (e, start_at) (inl refl)) (last_or_before q h);
      below = λ q h. ⊎_elim (λ (l : q < len). rw (start_before q l) (s.below q l)) (λ (e : q ≡ len). rw (e, start_at) (omega arith)) (last_or_before q h);
      rising = λ p q before h. ⊎_elim
          (λ (l : q < len). let lp : p < len = omega arith in rw (start_before p lp, start_before q l) (s.rising p q before l))
          (λ (e : q ≡ len). rw (e, start_at) (rising_to p (last_or_before p (omega arith)))) (last_or_before q h);
      first_of_part = λ q h. ⊎_elim
          (λ (l : q < len). let ls : start q < len = omega (arith, s.below q l) in rw (start_before q l, start_before (start q) ls) (s.first_of_part q l))
          (λ (e : q ≡ len). rw (e, start_at) start_at) (last_or_before q h);
      same_part = λ q h. ⊎_elim
          (λ (l : q < len). let ls : start q < len = omega (arith, s.below q l) in rw (start_before q l, cyclic_before q l, cyclic_before (start q) ls) (s.same_part q l))
          (λ (e : q ≡ len). rw (e, start_at) refl) (last_or_before q h);
      followed = λ q used h u. inl (follows q used (last_or_before q h) u);
      cycles = λ q h c. ⊎_elim
          (λ (l : q < len). subst (IsRecursive (UsesIn us)) (sym (node_before q l)) (s.cycles q l (sym (cyclic_before q l) ∙ c)))
          (λ (e : q ≡ len). true_false (sym c ∙ ap cyclic' e ∙ cyclic_at)) (last_or_before q h);
      closed = λ k used e u. keeps_done used (s.closed k used (was_done k e) u);
      pending_used = λ e h. ⊎_elim
          (λ (old : Contains pending e). let p = s.pending_used e old in (omega (arith, p.0), subst (λ x. UsesIn us x e.used) (sym (node_before e.place p.0)) p.1))
          (λ (is : Contains more e). let p = more_place e is in (omega (arith, p.0), subst (λ x. UsesIn us x e.used) (sym (ap node' p.0 ∙ node_at)) p.1)) (Contains-append_cases pending more e h);
      pending_rising = more_rising;
    }

  -- ---- what is used is left already

  pub passes_left : (len : ℕ) (node start : ℕ → ℕ) (cyclic : ℕ → Bool) (pending : List Pending) (mark : ℕ → Mark) (v : ℕ)
      → IsPath us len node start cyclic pending mark (λ used. used ≡ v) → mark v ≡ Done → IsPath us len node start cyclic pending mark None_excepted
  passes_left len node start cyclic pending mark v s done =
      record {
        marked = s.marked;
        inside = s.inside;
        at_place = s.at_place;
        ahead = s.ahead;
        back = s.back;
        below = s.below;
        rising = s.rising;
        first_of_part = s.first_of_part;
        same_part = s.same_part;
        cycles = s.cycles;
        closed = s.closed;
        pending_used = s.pending_used;
        pending_rising = s.pending_rising;
        followed = λ q used l u. inl (⊎_elim (λ (f : IsFollowed us len node start cyclic pending mark q used). f) (λ (is : used ≡ v). left (ap mark is ∙ done)) (s.followed q used l u));
      }

  -- a chain leads from each definition on the path to what one of the last part uses
  pub comes_to : (len : ℕ) (node start : ℕ → ℕ) (cyclic : ℕ → Bool) (pending : List Pending) (mark : ℕ → Mark) (excepted : ℕ → Type 0)
      → IsPath us len node start cyclic pending mark excepted → (from v : ℕ) → from < len → start (len - 1) ≤ from → UsesIn us (node from) v → (q : ℕ) → q < len → Leads (UsesIn us) (node q) v
  comes_to len node start cyclic pending mark excepted s from v inside last uses q l = reach_lead (by (cases_lt q from)) (at_once uses)
    where
      from_first : (p : ℕ) → p ≤ from → Reaches (UsesIn us) (node p) (node from)
      from_first p h = ⊎_elim (λ (b : p < from). inr (s.ahead p from b inside)) (λ (b : from ≤ p). inl (ap node (let e : p ≡ from = omega arith in e))) (cases_lt p from)

      by : (q < from) ⊎ (from ≤ q) → Reaches (UsesIn us) (node q) (node from)
      by (inl b) = inr (s.ahead q from b inside)
      by (inr b) =
          let top : start q ≤ from = omega (arith, s.rising q (len - 1) (omega arith) (omega arith), last) in
          reach_reach (s.back q l) (from_first (start q) top)

  -- ---- what is used is on the path: all after it become one part

  module _ (len : ℕ) (node start start' : ℕ → ℕ) (cyclic cyclic' : ℕ → Bool) (pending : List Pending) (mark : ℕ → Mark) (v at from : ℕ)
      (s : IsPath us len node start cyclic pending mark (λ used. used ≡ v)) (on : mark v ≡ OnPath at)
      (inside' : from < len) (last : start (len - 1) ≤ from) (uses : UsesIn us (node from) v)
      (start_before : (q : ℕ) → q < start at → start' q ≡ start q) (start_after : (q : ℕ) → start at ≤ q → start' q ≡ start at)
      (cyclic_before : (q : ℕ) → q < start at → cyclic' q ≡ cyclic q) (cyclic_after : (q : ℕ) → start at ≤ q → cyclic' q ≡ true) where
    at_is : (at < len) × (node at ≡ v)
    at_is = s.at_place v at on

    cut : (q : ℕ) → (q < start at) ⊎ (start at ≤ q)
    cut q = cases_lt q (start at)

    -- a chain leads from each to the one that is followed
    to_last : (q : ℕ) → q < len → Reaches (UsesIn us) (node q) (node from)
    to_last q l = by (cases_lt q from)
      where
        from_first : (p : ℕ) → p ≤ from → Reaches (UsesIn us) (node p) (node from)
        from_first p h = ⊎_elim (λ (b : p < from). inr (s.ahead p from b inside')) (λ (b : from ≤ p). inl (ap node (let e : p ≡ from = omega arith in e))) (cases_lt p from)

        by : (q < from) ⊎ (from ≤ q) → Reaches (UsesIn us) (node q) (node from)
        by (inl b) = inr (s.ahead q from b inside')
        by (inr b) =
            let top : start q ≤ from = omega (arith, s.rising q (len - 1) (omega arith) (omega arith), last) in
            reach_reach (s.back q l) (from_first (start q) top)

    -- and on to the first of the new part
    to_first : (q : ℕ) → q < len → Leads (UsesIn us) (node q) (node (start at))
    to_first q l = lead_reach (reach_lead (to_last q l) (at_once uses)) (subst (λ x. Reaches (UsesIn us) x (node (start at))) at_is.1 (s.back at at_is.0))

    first_inside : start at ≤ at
    first_inside = s.below at at_is.0

    from_first_on : (q : ℕ) → start at ≤ q → q < len → Reaches (UsesIn us) (node (start at)) (node q)
    from_first_on q h l = ⊎_elim (λ (b : start at < q). inr (s.ahead (start at) q b l)) (λ (b : q ≤ start at). inl (ap node (let e : start at ≡ q = omega arith in e))) (cases_lt (start at) q)

    after_rises : (q : ℕ) → start at ≤ q → q < len → start at ≤ start q
    after_rises q h l = omega (arith, s.rising (start at) q h l, s.first_of_part at at_is.0)

    follows_after : (q used : ℕ) → q < len → IsFollowed us len node start cyclic pending mark q used ⊎ (used ≡ v) → (q < start at) ⊎ (start at ≤ q) → IsFollowed us len node start' cyclic' pending mark q used
    follows_after q used l (inl (left done)) c = left done
    follows_after q used l (inl (pending_use is)) c = pending_use is
    follows_after q used l (inr is) (inl b) =
        on_path at at_is.0 (at_is.1 ∙ sym is) (rw (start_before q b, start_after at first_inside) (omega (arith, s.below q l)))
        (λ e. absurd (omega (arith, s.below q l, start_before q b, start_after at first_inside, e)))
    follows_after q used l (inr is) (inr b) =
        on_path at at_is.0 (at_is.1 ∙ sym is) (rw (start_after q b, start_after at first_inside) (omega arith)) (λ e. cyclic_after q b)
    follows_after q used l (inl (on_path other lo is up same)) (inl b) = by (cut other)
      where
        by : (other < start at) ⊎ (start at ≤ other) → IsFollowed us len node start' cyclic' pending mark q used
        by (inl bo) = on_path other lo is (rw (start_before q b, start_before other bo) up) (λ e. cyclic_before q b ∙ same (sym (start_before q b) ∙ e ∙ start_before other bo))
        by (inr bo) = on_path other lo is (rw (start_before q b, start_after other bo) (omega (arith, s.below q l)))
            (λ e. absurd (omega (arith, s.below q l, start_before q b, start_after other bo, e)))
    follows_after q used l (inl (on_path other lo is up same)) (inr b) =
        let bo : start at ≤ other = omega (arith, after_rises q b l, up, s.below other lo) in
        on_path other lo is (rw (start_after q b, start_after other bo) (omega arith)) (λ e. cyclic_after q b)

    pub joins : IsPath us len node start' cyclic' pending mark None_excepted
    joins = record {
      marked = s.marked;
      inside = s.inside;
      at_place = s.at_place;
      ahead = s.ahead;
      back = λ q l. ⊎_elim (λ (b : q < start at). rw (start_before q b) (s.back q l)) (λ (b : start at ≤ q). rw (start_after q b) (inr (to_first q l))) (cut q);
      below = λ q l. ⊎_elim (λ (b : q < start at). rw (start_before q b) (s.below q l)) (λ (b : start at ≤ q). rw (start_after q b) b) (cut q);
      rising = λ p q before l. ⊎_elim
          (λ (b : q < start at). let bp : p < start at = omega arith in rw (start_before p bp, start_before q b) (s.rising p q before l))
          (λ (b : start at ≤ q). rw (start_after q b)
          (⊎_elim (λ (bp : p < start at). rw (start_before p bp) (omega (arith, s.below p (let lp : p < len = omega arith in lp)))) (λ (bp : start at ≤ p). rw (start_after p bp) (omega arith)) (cut p))) (cut q);
      first_of_part = λ q l. ⊎_elim
          (λ (b : q < start at). let bs : start q < start at = omega (arith, s.below q l) in rw (start_before q b, start_before (start q) bs) (s.first_of_part q l))
          (λ (b : start at ≤ q). rw (start_after q b) (start_after (start at) (omega arith))) (cut q);
      same_part = λ q l. ⊎_elim
          (λ (b : q < start at). let bs : start q < start at = omega (arith, s.below q l) in rw (start_before q b, cyclic_before q b, cyclic_before (start q) bs) (s.same_part q l))
          (λ (b : start at ≤ q). rw (start_after q b, cyclic_after q b) (cyclic_after (start at) (omega arith))) (cut q);
      followed = λ q used l u. inl (follows_after q used l (s.followed q used l u) (cut q));
      cycles = λ q l c. ⊎_elim (λ (b : q < start at). s.cycles q l (sym (cyclic_before q b) ∙ c)) (λ (b : start at ≤ q). lead_reach (to_first q l) (from_first_on q b l)) (cut q);
      closed = s.closed;
      pending_used = s.pending_used;
      pending_rising = s.pending_rising;
    }

  -- ---- the same path, otherwise kept

  pub same_path : (len : ℕ) (node node' start start' : ℕ → ℕ) (cyclic cyclic' : ℕ → Bool) (pending : List Pending) (mark : ℕ → Mark)
      → IsPath us len node start cyclic pending mark None_excepted
      → ((q : ℕ) → q < len → node' q ≡ node q) → ((q : ℕ) → q < len → start' q ≡ start q) → ((q : ℕ) → q < len → cyclic' q ≡ cyclic q)
      → IsPath us len node' start' cyclic' pending mark None_excepted
  same_path len node node' start start' cyclic cyclic' pending mark s nodes starts cyclics = record {
    marked = λ q h. ap mark (nodes q h) ∙ s.marked q h;
    inside = λ q h. subst (λ x. x < length us) (sym (nodes q h)) (s.inside q h);
    at_place = λ k q e. let p = s.at_place k q e in (p.0, nodes q p.0 ∙ p.1);
    ahead = λ p q before h. let lp : p < len = omega arith in rw (nodes p lp, nodes q h) (s.ahead p q before h);
    back = λ q h. let ls : start q < len = omega (arith, s.below q h) in rw (starts q h, nodes q h, nodes (start q) ls) (s.back q h);
    below = λ q h. rw (starts q h) (s.below q h);
    rising = λ p q before h. let lp : p < len = omega arith in rw (starts p lp, starts q h) (s.rising p q before h);
    first_of_part = λ q h. let ls : start q < len = omega (arith, s.below q h) in rw (starts q h, starts (start q) ls) (s.first_of_part q h);
    same_part = λ q h. let ls : start q < len = omega (arith, s.below q h) in rw (starts q h, cyclics q h, cyclics (start q) ls) (s.same_part q h);
    followed = λ q used h u. inl (by q used h (s.followed q used h (subst (λ x. UsesIn us x used) (nodes q h) u)));
    cycles = λ q h c. subst (IsRecursive (UsesIn us)) (sym (nodes q h)) (s.cycles q h (sym (cyclics q h) ∙ c));
    closed = s.closed;
    pending_used = λ e h. let p = s.pending_used e h in (p.0, subst (λ x. UsesIn us x e.used) (sym (nodes e.place p.0)) p.1);
    pending_rising = s.pending_rising;
  }
    where
      by : (q used : ℕ) → q < len → IsFollowed us len node start cyclic pending mark q used ⊎ ⊥ → IsFollowed us len node' start' cyclic' pending mark q used
      by q used h (inl (left done)) = left done
      by q used h (inl (pending_use is)) = pending_use is
      by q used h (inl (on_path other lo is up same)) =
          on_path other lo (nodes other lo ∙ is) (rw (starts q h, starts other lo) up) (λ e. cyclics q h ∙ same (sym (starts q h) ∙ e ∙ starts other lo))
      by q used h (inr never) = absurd never

  -- ---- a part is left

  -- a definition to which a chain leads from one that is left is left
  closed_along : {len : ℕ} {node start : ℕ → ℕ} {cyclic : ℕ → Bool} {pending : List Pending} {mark : ℕ → Mark} {excepted : ℕ → Type 0}
      → IsPath us len node start cyclic pending mark excepted → {a b : ℕ} → Leads (UsesIn us) a b → mark a ≡ Done → mark b ≡ Done
  closed_along s (at_once u) done = s.closed _ _ done u
  closed_along s (through u chain) done = closed_along s chain (s.closed _ _ done u)

  module _ (len top : ℕ) (node start : ℕ → ℕ) (cyclic : ℕ → Bool) (pending : List Pending) (mark mark' : ℕ → Mark)
      (s : IsPath us len node start cyclic pending mark None_excepted) (some : 0 < len) (top_is : start (len - 1) ≡ top)
      (all_before : (e : Pending) → Contains pending e → e.place < top)
      (mark_left : (k q : ℕ) → mark k ≡ OnPath q → top ≤ q → mark' k ≡ Done) (mark_kept : (k q : ℕ) → mark k ≡ OnPath q → q < top → mark' k ≡ OnPath q)
      (mark_done : (k : ℕ) → mark k ≡ Done → mark' k ≡ Done) (mark_new : (k : ℕ) → mark k ≡ New → mark' k ≡ New) where
    top_before : top < len
    top_before = omega (arith, s.below (len - 1) (omega arith), top_is)

    in_top : (q : ℕ) → top ≤ q → q < len → start q ≡ top
    in_top q h l =
        let a = s.rising q (len - 1) (omega arith) (omega arith) in
        let b = s.rising top q h l in
        let c : start top ≡ top = ap start (sym top_is) ∙ s.first_of_part (len - 1) (omega arith) ∙ top_is in
        omega (arith, a, b, c, top_is)

    top_cyclic : (q : ℕ) → top ≤ q → q < len → cyclic q ≡ cyclic (len - 1)
    top_cyclic q h l = sym (s.same_part q l) ∙ ap cyclic (in_top q h l ∙ sym top_is) ∙ s.same_part (len - 1) (omega arith)

    -- what is used by one that is left is left
    left_then : (q used : ℕ) → top ≤ q → q < len → IsFollowed us len node start cyclic pending mark q used ⊎ ⊥ → mark' used ≡ Done
    left_then q used h l (inl (left done)) = mark_done used done
    left_then q used h l (inl (pending_use is)) = absurd (omega (arith, all_before _ is, h))
    left_then q used h l (inl (on_path other lo is up same)) =
        let b : top ≤ other = omega (arith, in_top q h l, up, s.below other lo) in
        mark_left used other (ap mark (sym is) ∙ s.marked other lo) b
    left_then q used h l (inr never) = absurd never

    follows_before : (q used : ℕ) → q < top → IsFollowed us len node start cyclic pending mark q used ⊎ ⊥ → IsFollowed us top node start cyclic pending mark' q used
    follows_before q used h (inl (left done)) = left (mark_done used done)
    follows_before q used h (inl (pending_use is)) = pending_use is
    follows_before q used h (inl (on_path other lo is up same)) =
        ⊎_elim (λ (b : other < top). on_path other b is up same) (λ (b : top ≤ other). left (mark_left used other (ap mark (sym is) ∙ s.marked other lo) b)) (cases_lt other top)
    follows_before q used h (inr never) = absurd never

    by_mark : {P : Type 0} (k : ℕ) → (mark k ≡ New → P) → ((q : ℕ) → mark k ≡ OnPath q → P) → (mark k ≡ Done → P) → P
    by_mark {P} k new on done = go (mark k) refl
      where
        go : (m : Mark) → mark k ≡ m → P
        go New e = new e
        go (OnPath q) e = on q e
        go Done e = done e

    place_kept : (k q : ℕ) → mark' k ≡ OnPath q → (q < top) × (node q ≡ k)
    place_kept k q e = by_mark k
        (λ new. on_new (sym e ∙ mark_new k new))
        (λ p on. ⊎_elim
        (λ (b : p < top). let same : q ≡ p = same_place q p (sym e ∙ mark_kept k p on b) in let at = s.at_place k p on in (omega arith, ap node same ∙ at.1))
        (λ (b : top ≤ p). done_on (sym (mark_left k p on b) ∙ e)) (cases_lt p top))
        (λ done. done_on (sym (mark_done k done) ∙ e))

    -- what is left now was left before, or was on the path in the last part
    pub left_before : (k : ℕ) → mark' k ≡ Done → (mark k ≡ Done) ⊎ ((q : ℕ) × (top ≤ q) × (q < len) × (node q ≡ k))
    left_before k e = by_mark k
        (λ new. done_new (sym e ∙ mark_new k new))
        (λ p on. ⊎_elim
        (λ (b : p < top). done_on (sym e ∙ mark_kept k p on b))
        (λ (b : top ≤ p). let at = s.at_place k p on in inr (p, b, at.0, at.1)) (cases_lt p top))
        inl

    pub leaves : IsPath us top node start cyclic pending mark' None_excepted
    leaves = record {
      marked = λ q h. mark_kept (node q) q (s.marked q (omega (arith, top_before))) h;
      inside = λ q h. s.inside q (omega (arith, top_before));
      at_place = place_kept;
      ahead = λ p q before h. s.ahead p q before (omega (arith, top_before));
      back = λ q h. s.back q (omega (arith, top_before));
      below = λ q h. s.below q (omega (arith, top_before));
      rising = λ p q before h. s.rising p q before (omega (arith, top_before));
      first_of_part = λ q h. s.first_of_part q (omega (arith, top_before));
      same_part = λ q h. s.same_part q (omega (arith, top_before));
      followed = λ q used h u. inl (follows_before q used h (s.followed q used (omega (arith, top_before)) u));
      cycles = λ q h. s.cycles q (omega (arith, top_before));
      closed = λ k used e u. ⊎_elim
          (λ (done : mark k ≡ Done). mark_done used (s.closed k used done u))
          (λ at. left_then at.0 used at.1 at.2 (s.followed at.0 used at.2 (subst (λ x. UsesIn us x used) (sym at.3) u))) (left_before k e);
      pending_used = λ e h. let p = s.pending_used e h in (all_before e h, p.1);
      pending_rising = s.pending_rising;
    }

    -- where the part isn't cyclic, its definitions don't use themselves
    not_recursive : (q : ℕ) → top ≤ q → q < len → cyclic (len - 1) ≡ false → IsRecursive (UsesIn us) (node q) → ⊥
    not_recursive q h l not_cyclic chain = by_use (first_use chain)
      where
        on : mark (node q) ≡ OnPath q
        on = s.marked q l

        first_use : {a b : ℕ} → Leads (UsesIn us) a b → (used : ℕ) × UsesIn us a used × Reaches (UsesIn us) used b
        first_use (at_once u) = (_, u, inl refl)
        first_use (through u rest) = (_, u, inr rest)

        back_to : (used : ℕ) → Reaches (UsesIn us) used (node q) → mark used ≡ Done → ⊥
        back_to used (inl same) done = done_on (sym done ∙ ap mark same ∙ on)
        back_to used (inr rest) done = done_on (sym (closed_along s rest done) ∙ on)

        by_followed : (used : ℕ) → Reaches (UsesIn us) used (node q) → IsFollowed us len node start cyclic pending mark q used ⊎ ⊥ → ⊥
        by_followed used rest (inl (left done)) = back_to used rest done
        by_followed used rest (inl (pending_use is)) = omega (arith, all_before _ is, h)
        by_followed used rest (inl (on_path other lo is up same)) =
            let e : start q ≡ start other = omega (arith, in_top q h l, up, s.rising other (len - 1) (omega arith) (omega arith), top_is) in
            true_false (sym (same e) ∙ top_cyclic q h l ∙ not_cyclic)
        by_followed used rest (inr never) = never

        by_use : (used : ℕ) × UsesIn us (node q) used × Reaches (UsesIn us) used (node q) → ⊥
        by_use f = by_followed f.0 f.2 (s.followed q f.0 l f.1)

    pub least_kept : (first first' : Option ℕ) → IsLeast us mark first
        → ((k : ℕ) → first' ≡ Some k → (first ≡ Some k) ⊎ ((cyclic (len - 1) ≡ true) × ((q : ℕ) × (top ≤ q) × (q < len) × (node q ≡ k))))
        → ((k : ℕ) → first ≡ Some k → (least : ℕ) × (first' ≡ Some least) × (least ≤ k))
        → (cyclic (len - 1) ≡ true → (q : ℕ) → top ≤ q → q < len → (least : ℕ) × (first' ≡ Some least) × (least ≤ node q))
        → IsLeast us mark' first'
    least_kept first first' old from_where older newer = record {
      recursive = λ k e. ⊎_elim
          (λ (was : first ≡ Some k). old.recursive k was)
          (λ now. let at = now.1 in subst (IsRecursive (UsesIn us)) at.3 (s.cycles at.0 at.2 (top_cyclic at.0 at.1 at.2 ∙ now.0))) (from_where k e);
      least = λ k e chain. ⊎_elim
          (λ (done : mark k ≡ Done). let b = old.least k done chain in let c = older b.0 b.1 in (c.0, c.1, omega (arith, b.2, c.2)))
          (λ at. by (cyclic (len - 1)) refl k at.0 at.1 at.2 at.3 chain) (left_before k e);
    }
      where
        by : (c : Bool) → cyclic (len - 1) ≡ c → (k q : ℕ) → top ≤ q → q < len → node q ≡ k → IsRecursive (UsesIn us) k → (least : ℕ) × (first' ≡ Some least) × (least ≤ k)
        by true e k q h l is chain = let b = newer e q h l in (b.0, b.1, subst (λ x. b.0 ≤ x) is b.2)
        by false e k q h l is chain = absurd (not_recursive q h l e (subst (IsRecursive (UsesIn us)) (sym is) chain))
