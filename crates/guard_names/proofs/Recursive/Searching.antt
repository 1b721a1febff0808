-- The steps of a search, on the lists that the code keeps.
use Rattle.std.proofs.Common.{◌≡◌, ◌≢◌, ◌⊎◌, inl, inr, ⊎_elim, ℕ, ◌+◌, ◌-◌, ◌<◌, ◌≤◌, Bool, true, false, cond, List, [], ◌∷◌, ◌++◌, length, map, get_or, set, take, drop, Option, Some, None, Contains, refl, sym, ◌∙◌, ap, subst, arith, length-append, length-set}
use Rattle.std.specs.Prelude.{nat_eq, fold, replicate, MatchOption}
use Rattle.std.specs.List.{AllPairs}
use Rattle.std.proofs.lemmas.Bool.{cases_lt}
use Rattle.std.proofs.lemmas.Bool.Decides.{eqb_tells}
use Rattle.std.proofs.lemmas.List.{get_or-set_same, get_or-set_other, get_or_append_left, get_or_push, get_or-map, length-map, get_or-drop, get_or-take, length-drop, length-take-le, take_more, take_all, take-append-le, get_or-replicate, length-replicate}
use Rattle.std.proofs.Math.ListN.{get_or-eq_default}
use Rattle.std.proofs.lemmas.List.Elements.{Contains-append_left, Contains-push, Contains-push_cases}
use Rattle.guard_names.specs.declared.recursion.Mark.{Mark}
use Rattle.guard_names.specs.declared.recursion.Mark.TheVariants.{New, OnPath, Done}
use Rattle.guard_names.specs.declared.recursion.Part.{Part}
use Rattle.guard_names.specs.declared.recursion.Pending.{Pending}
use Rattle.guard_names.specs.Order.{is_listed, Leads, at_once, through, IsRecursive, IsFirstRecursive}
use Rattle.guard_names.specs.inside.Queues.{UsesIn, used_by}
use Rattle.guard_names.specs.inside.Searches.{IsFollowed, left, pending_use, on_path, IsPath, IsLeast, IsSearchOf, part_at, StartsFirst, Rises, Joins, IsUsedFrom, lesser, new_left}
use Rattle.guard_names.proofs.InOrder.Settling.{place_of, listed_at, unchanged_listed}
use Rattle.guard_names.proofs.InOrder.Queueing.{listed_last}
use Rattle.guard_names.proofs.Recursive.Paths.{enters, passes_left, joins, leaves, least_kept, same_path}
use Rattle.guard_names.proofs.Recursive.Parts.{part_after, part_before, rises_pushed, rises_popped, starts_pushed, starts_popped, joined_before, joined_after, joined_starts, joined_rises, new_entered, new_done}
use Rattle.guard_names.proofs.Recursive.Lists.{pending_grows, lesser_from, lesser_older, lesser_newer}

done_on : {P : Type 0} {q : ℕ} → Done ≡ OnPath q → P
done_on h = absurd cc

on_new : {P : Type 0} {q : ℕ} → OnPath q ≡ New → P
on_new h = absurd cc

same_place : (p q : ℕ) → OnPath p ≡ OnPath q → p ≡ q
same_place p q h = cc

-- what is written back over a list of the same length
pub refilled : (marks new : List Mark) (n : ℕ) → length new ≡ length marks → n ≡ length marks → take n (new ++ drop (length new) marks) ≡ new
refilled marks new n e f = ap (λ k. take k (new ++ drop (length new) marks)) (f ∙ sym e) ∙ take-append-le (length new) new (drop (length new) marks) (omega arith) ∙ take_all (length new) new (omega arith)

module _ (us : List (List ℕ)) where
  least_same : (mark mark' : ℕ → Mark) (first : Option ℕ) → ((k : ℕ) → mark' k ≡ Done → mark k ≡ Done) → IsLeast us mark first → IsLeast us mark' first
  least_same mark mark' first h s = record { recursive = s.recursive; least = λ k e chain. s.least k (h k e) chain }

  -- ---- at the beginning

  pub none_searched : (marks : List Mark) → marks ≡ replicate (length us) New → IsSearchOf us marks [] [] [] None (λ _. ⊥)
  none_searched marks e = record {
    sized = ap length e ∙ length-replicate (length us) New;
    starts = refl;
    rises = omega arith;
    is_path = record {
      marked = λ q h. absurd (omega (arith, h));
      inside = λ q h. absurd (omega (arith, h));
      at_place = λ k q h. on_new (sym h ∙ all_new k);
      ahead = λ p q before h. absurd (omega (arith, h));
      back = λ q h. absurd (omega (arith, h));
      below = λ q h. absurd (omega (arith, h));
      rising = λ p q before h. absurd (omega (arith, h));
      first_of_part = λ q h. absurd (omega (arith, h));
      same_part = λ q h. absurd (omega (arith, h));
      followed = λ q used h u. absurd (omega (arith, h));
      cycles = λ q h c. absurd (omega (arith, h));
      closed = λ k used h u. done_new (sym h ∙ all_new k);
      pending_used = λ e' h. absurd (omega (arith, h.1));
      pending_rising = λ i j d l h. absurd (omega (arith, h));
    };
    is_least = record { recursive = λ k h. absurd cc; least = λ k h chain. done_new (sym h ∙ all_new k) };
  }
    where
      done_new : {P : Type 0} → Done ≡ New → P
      done_new h = absurd cc

      all_new : (k : ℕ) → get_or marks k New ≡ New
      all_new k = ap (λ x. get_or x k New) e ∙ ⊎_elim (λ (l : k < length us). get_or-replicate (length us) k New New l)
          (λ (g : length us ≤ k). get_or-eq_default (replicate (length us) New) New (let z = length-replicate {A = Mark} (length us) New in omega (arith, z, g))) (cases_lt k (length us))

  -- ---- a use is taken to be followed

  pub searched_taken : (marks : List Mark) (path : List ℕ) (parts : List Part) (pending rest : List Pending) (first : Option ℕ) (taken : Pending)
      → IsSearchOf us marks path parts pending first (λ _. ⊥) → pending ≡ rest ++ taken ∷ [] → IsSearchOf us marks path parts rest first (λ used. used ≡ taken.used)
  searched_taken marks path parts pending rest first taken s e = record {
    sized = s.sized;
    starts = s.starts;
    rises = s.rises;
    is_least = s.is_least;
    is_path = record {
      marked = s.is_path.marked;
      inside = s.is_path.inside;
      at_place = s.is_path.at_place;
      ahead = s.is_path.ahead;
      back = s.is_path.back;
      below = s.is_path.below;
      rising = s.is_path.rising;
      first_of_part = s.is_path.first_of_part;
      same_part = s.is_path.same_part;
      cycles = s.is_path.cycles;
      closed = s.is_path.closed;
      followed = λ q used h u. by q used (s.is_path.followed q used h u);
      pending_used = λ x h. s.is_path.pending_used x (subst (λ l. Contains l x) (sym e) (Contains-append_left rest (taken ∷ []) x h));
      pending_rising = λ i j d l h.
          let size = length-append rest (taken ∷ []) in
          let a = get_or_append_left rest (taken ∷ []) d i (omega (arith, l, h)) in
          let b = get_or_append_left rest (taken ∷ []) d j h in
          let r = subst (AllPairs (λ a b. a.place ≤ b.place)) e s.is_path.pending_rising i j d l (omega (arith, size, h)) in
          let a' : (get_or (rest ++ taken ∷ []) i d).place ≡ (get_or rest i d).place = ap (λ x. x.place) a in
          let b' : (get_or (rest ++ taken ∷ []) j d).place ≡ (get_or rest j d).place = ap (λ x. x.place) b in
          omega (arith, r, a', b');
    };
  }
    where
      by : (q used : ℕ) → IsFollowed us (length path) (λ q. get_or path q 0) (λ q. (part_at parts q).start) (λ q. (part_at parts q).cyclic) pending (λ k. get_or marks k New) q used ⊎ ⊥
          → IsFollowed us (length path) (λ q. get_or path q 0) (λ q. (part_at parts q).start) (λ q. (part_at parts q).cyclic) rest (λ k. get_or marks k New) q used ⊎ (used ≡ taken.used)
      by q used (inl (left done)) = inl (left done)
      by q used (inl (on_path other lo is up same)) = inl (on_path other lo is up same)
      by q used (inl (pending_use is)) = ⊎_elim
          (λ (old : Contains rest (record { place = q; used = used })). inl (pending_use old))
          (λ (same : taken ≡ record { place = q; used = used }). inr (sym (ap (λ x. x.used) same)))
          (Contains-push_cases rest taken (record { place = q; used = used }) (subst (λ l. Contains l (record { place = q; used = used })) e is))
      by q used (inr never) = absurd never

  -- ---- going on to a definition

  pub searched_enter : (marks : List Mark) (path : List ℕ) (parts : List Part) (pending : List Pending) (first : Option ℕ) (v : ℕ) (row : List ℕ)
      → IsSearchOf us marks path parts pending first (λ used. used ≡ v) → get_or marks v New ≡ New → v < length us → row ≡ used_by us v
      → ((q : ℕ) → q < length path → Leads (UsesIn us) (get_or path q 0) v)
      → IsSearchOf us (set marks v (OnPath (length path))) (path ++ v ∷ []) (parts ++ record { start = length path; cyclic = false } ∷ []) (pending ++ map (λ used. record { place = length path; used = used }) row) first (λ _. ⊥)
  searched_enter marks path parts pending first v row s new inside row_is comes = record {
    sized = length-set marks v (OnPath (length path)) ∙ s.sized;
    starts = starts_pushed parts (length path) part (length (path ++ v ∷ [])) s.starts refl;
    rises = subst (Rises 0 (parts ++ part ∷ [])) (sym size) (rises_pushed 0 parts (length path) part s.rises refl);
    is_path = subst (λ n. IsPath us n (λ q. get_or (path ++ v ∷ []) q 0) (λ q. (part_at (parts ++ part ∷ []) q).start) (λ q. (part_at (parts ++ part ∷ []) q).cyclic) (pending ++ more) (λ k. get_or (set marks v (OnPath (length path))) k New) (λ _. ⊥)) (sym size)
        (enters us (length path) (λ q. get_or path q 0) (λ q. get_or (path ++ v ∷ []) q 0) (λ q. (part_at parts q).start) (λ q. (part_at (parts ++ part ∷ []) q).start)
        (λ q. (part_at parts q).cyclic) (λ q. (part_at (parts ++ part ∷ []) q).cyclic) pending more (λ k. get_or marks k New) (λ k. get_or (set marks v (OnPath (length path))) k New) v
        s.is_path new inside comes
        (λ q h. get_or_append_left path (v ∷ []) 0 q h) (get_or_push path v 0 (length path) refl)
        (λ q h. ap (λ p. p.start) (part_before parts part q h)) (ap (λ p. p.start) (part_after parts part (length path) (omega arith)))
        (λ q h. ap (λ p. p.cyclic) (part_before parts part q h)) (ap (λ p. p.cyclic) (part_after parts part (length path) (omega arith)))
        (get_or-set_same marks v (OnPath (length path)) New here) (λ k apart. get_or-set_other marks v k (OnPath (length path)) New apart)
        more_place more_used
        (pending_grows pending more (length path) s.is_path.pending_rising (λ e h. (s.is_path.pending_used e h).0) (λ e h. (more_place e h).0)));
    is_least = least_same (λ k. get_or marks k New) (λ k. get_or (set marks v (OnPath (length path))) k New) first (λ k h. was_done k h (eqb_tells k v)) s.is_least;
  }
    where
      part : Part
      part = record { start = length path; cyclic = false }

      use_at : ℕ → Pending
      use_at used = record { place = length path; used = used }

      more : List Pending
      more = map (λ used. record { place = length path; used = used }) row

      size : length (path ++ v ∷ []) ≡ length path + 1
      size = length-append path (v ∷ [])

      here : v < length marks
      here = omega (arith, s.sized, inside)

      was_done : (k : ℕ) → get_or (set marks v (OnPath (length path))) k New ≡ Done → ((nat_eq k v ≡ true) × (k ≡ v)) ⊎ ((nat_eq k v ≡ false) × (k ≢ v)) → get_or marks k New ≡ Done
      was_done k h (inl same) = done_on (sym h ∙ ap (λ x. get_or (set marks v (OnPath (length path))) x New) same.1 ∙ get_or-set_same marks v (OnPath (length path)) New here)
      was_done k h (inr apart) = sym (get_or-set_other marks v k (OnPath (length path)) New apart.1) ∙ h

      more_place : (e : Pending) → Contains more e → (e.place ≡ length path) × UsesIn us v e.used
      more_place e (k, l, is) =
          let lk : k < length row = omega (arith, length-map row use_at, l) in
          let same : e ≡ use_at (get_or row k 0) = sym is ∙ get_or-map use_at row k 0 e lk in
          (ap (λ x. x.place) same, subst (λ x. is_listed x e.used ≡ true) row_is (subst (λ x. is_listed row x ≡ true) (sym (ap (λ x. x.used) same)) (listed_at row k lk)))

      more_used : (used : ℕ) → UsesIn us v used → Contains more (record { place = length path; used = used })
      more_used used u =
          let at = place_of row used (subst (λ x. is_listed x used ≡ true) (sym row_is) u) in
          (at.0, omega (arith, length-map row use_at, at.1), get_or-map use_at row at.0 0 (use_at used) at.1 ∙ ap use_at at.2)

  -- ---- what is used is left already

  pub searched_left : (marks : List Mark) (path : List ℕ) (parts : List Part) (pending : List Pending) (first : Option ℕ) (v : ℕ)
      → IsSearchOf us marks path parts pending first (λ used. used ≡ v) → get_or marks v New ≡ Done → IsSearchOf us marks path parts pending first (λ _. ⊥)
  searched_left marks path parts pending first v s done = record {
    sized = s.sized;
    starts = s.starts;
    rises = s.rises;
    is_least = s.is_least;
    is_path = passes_left us (length path) (λ q. get_or path q 0) (λ q. (part_at parts q).start) (λ q. (part_at parts q).cyclic) pending (λ k. get_or marks k New) v s.is_path done;
  }

  -- ---- what is used is on the path

  pub searched_joined : (marks : List Mark) (path : List ℕ) (parts joined : List Part) (pending : List Pending) (first : Option ℕ) (v place from : ℕ)
      → IsSearchOf us marks path parts pending first (λ used. used ≡ v) → get_or marks v New ≡ OnPath place → Joins parts place joined
      → from < length path → (part_at parts (length path - 1)).start ≤ from → UsesIn us (get_or path from 0) v
      → IsSearchOf us marks path joined pending first (λ _. ⊥)
  searched_joined marks path parts joined pending first v place from s on j inside last uses = record {
    sized = s.sized;
    is_least = s.is_least;
    starts = joined_starts parts place joined j (length path) s.starts;
    rises = joined_rises parts place joined j (length path) s.rises;
    is_path = joins us (length path) (λ q. get_or path q 0) (λ q. (part_at parts q).start) (λ q. (part_at joined q).start) (λ q. (part_at parts q).cyclic) (λ q. (part_at joined q).cyclic)
        pending (λ k. get_or marks k New) v place from s.is_path on inside last uses
        (λ q h. ap (λ p. p.start) (joined_before parts place joined j q h)) (λ q h. ap (λ p. p.start) (joined_after parts place joined j q h))
        (λ q h. ap (λ p. p.cyclic) (joined_before parts place joined j q h)) (λ q h. ap (λ p. p.cyclic) (joined_after parts place joined j q h));
  }

  -- ---- a part is left

  module _ (marks marks' : List Mark) (path : List ℕ) (rest : List Part) (part : Part) (pending : List Pending) (first first' : Option ℕ)
      (s : IsSearchOf us marks path (rest ++ part ∷ []) pending first (λ _. ⊥))
      (before : (e : Pending) → Contains pending e → e.place < part.start)
      (size : length marks' ≡ length marks)
      (listed : (k : ℕ) → is_listed (drop part.start path) k ≡ true → get_or marks' k New ≡ Done)
      (others : (k : ℕ) → is_listed (drop part.start path) k ≡ false → get_or marks' k New ≡ get_or marks k New)
      (first_is : first' ≡ cond part.cyclic (fold lesser first (drop part.start path)) first) where
    abbrev node : ℕ → ℕ
    node q = get_or path q 0

    top_inside : part.start < length path
    top_inside = (rises_popped 0 rest (length path) part s.rises).1

    last_is : part_at (rest ++ part ∷ []) (length path - 1) ≡ part
    last_is = part_after rest part (length path - 1) (omega (arith, top_inside))

    by_listed : {P : Type 0} (k : ℕ) → (is_listed (drop part.start path) k ≡ true → P) → (is_listed (drop part.start path) k ≡ false → P) → P
    by_listed {P} k listed_here elsewhere = go (is_listed (drop part.start path) k) refl
      where
        go : (b : Bool) → is_listed (drop part.start path) k ≡ b → P
        go true e = listed_here e
        go false e = elsewhere e

    -- where it is on the path
    place_after : (k : ℕ) → is_listed (drop part.start path) k ≡ true → (q : ℕ) × (part.start ≤ q) × (q < length path) × (get_or path q 0 ≡ k)
    place_after k h =
        let at = place_of (drop part.start path) k h in
        (part.start + at.0, omega arith, omega (arith, at.1, length-drop part.start path), sym (get_or-drop part.start path at.0 0) ∙ at.2)

    listed_after : (q : ℕ) → part.start ≤ q → q < length path → is_listed (drop part.start path) (get_or path q 0) ≡ true
    listed_after q h l =
        let e : get_or (drop part.start path) (q - part.start) 0 ≡ get_or path q 0 =
        get_or-drop part.start path (q - part.start) 0 ∙ ap (λ n. get_or path n 0) (let z : part.start + (q - part.start) ≡ q = omega (arith, h) in z) in
        subst (λ x. is_listed (drop part.start path) x ≡ true) e (listed_at (drop part.start path) (q - part.start) (omega (arith, length-drop part.start path, h, l)))

    is_on : (k : ℕ) → is_listed (drop part.start path) k ≡ true → (q : ℕ) × (part.start ≤ q) × (get_or marks k New ≡ OnPath q)
    is_on k h = let at = place_after k h in (at.0, at.1, subst (λ x. get_or marks x New ≡ OnPath at.0) at.3 (s.is_path.marked at.0 at.2))

    mark_left : (k q : ℕ) → get_or marks k New ≡ OnPath q → part.start ≤ q → get_or marks' k New ≡ Done
    mark_left k q on h =
        let at = s.is_path.at_place k q on in
        listed k (subst (λ x. is_listed (drop part.start path) x ≡ true) at.1 (listed_after q h at.0))

    mark_kept : (k q : ℕ) → get_or marks k New ≡ OnPath q → q < part.start → get_or marks' k New ≡ OnPath q
    mark_kept k q on h = by_listed k
        (λ here. let at = is_on k here in let e : at.0 ≡ q = same_place at.0 q (sym at.2 ∙ on) in absurd (omega (arith, e, at.1, h)))
        (λ away. others k away ∙ on)

    mark_done : (k : ℕ) → get_or marks k New ≡ Done → get_or marks' k New ≡ Done
    mark_done k done = by_listed k (λ here. listed k here) (λ away. others k away ∙ done)

    mark_new : (k : ℕ) → get_or marks k New ≡ New → get_or marks' k New ≡ New
    mark_new k new = by_listed k (λ here. let at = is_on k here in on_new (sym at.2 ∙ new)) (λ away. others k away ∙ new)

    abbrev start_all : ℕ → ℕ
    start_all q = (part_at (rest ++ part ∷ []) q).start

    abbrev cyclic_all : ℕ → Bool
    cyclic_all q = (part_at (rest ++ part ∷ []) q).cyclic

    start_is : start_all (length path - 1) ≡ part.start
    start_is = ap (λ p. p.start) last_is

    from_where : (k : ℕ) → first' ≡ Some k → (first ≡ Some k) ⊎ ((cyclic_all (length path - 1) ≡ true) × ((q : ℕ) × (part.start ≤ q) × (q < length path) × (get_or path q 0 ≡ k)))
    from_where k e = by part.cyclic refl (sym first_is ∙ e)
      where
        by : (b : Bool) → part.cyclic ≡ b → cond b (fold lesser first (drop part.start path)) first ≡ Some k
            → (first ≡ Some k) ⊎ ((cyclic_all (length path - 1) ≡ true) × ((q : ℕ) × (part.start ≤ q) × (q < length path) × (get_or path q 0 ≡ k)))
        by false c h = inl h
        by true c h = ⊎_elim (λ (o : first ≡ Some k). inl o)
            (λ at. inr (ap (λ p. p.cyclic) last_is ∙ c, (part.start + at.0, omega arith, omega (arith, at.1, length-drop part.start path), sym (get_or-drop part.start path at.0 0) ∙ at.2)))
            (lesser_from (drop part.start path) first k h)

    older : (k : ℕ) → first ≡ Some k → (least : ℕ) × (first' ≡ Some least) × (least ≤ k)
    older k e = by part.cyclic first_is
      where
        by : (b : Bool) → first' ≡ cond b (fold lesser first (drop part.start path)) first → (least : ℕ) × (first' ≡ Some least) × (least ≤ k)
        by false h = (k, h ∙ e, omega arith)
        by true h = let r = lesser_older (drop part.start path) first k e in (r.0, h ∙ r.1, r.2)

    newer : cyclic_all (length path - 1) ≡ true → (q : ℕ) → part.start ≤ q → q < length path → (least : ℕ) × (first' ≡ Some least) × (least ≤ get_or path q 0)
    newer c q h l =
        let r = lesser_newer (drop part.start path) first (q - part.start) (omega (arith, length-drop part.start path, h, l)) in
        let e : get_or (drop part.start path) (q - part.start) 0 ≡ get_or path q 0 =
        get_or-drop part.start path (q - part.start) 0 ∙ ap (λ n. get_or path n 0) (let z : part.start + (q - part.start) ≡ q = omega (arith, h) in z) in
        let cyclic_is : part.cyclic ≡ true = ap (λ p. p.cyclic) (sym last_is) ∙ c in
        (r.0, first_is ∙ ap (λ b. cond b (fold lesser first (drop part.start path)) first) cyclic_is ∙ r.1, subst (λ x. r.0 ≤ x) e r.2)

    pub searched_leave : IsSearchOf us marks' (take part.start path) rest pending first' (λ _. ⊥)
    searched_leave = record {
      sized = size ∙ s.sized;
      starts = subst (StartsFirst rest) (sym size_is) (starts_popped rest part (length path) s.starts);
      rises = subst (Rises 0 rest) (sym size_is) (rises_popped 0 rest (length path) part s.rises).0;
      is_path = subst (λ n. IsPath us n (λ q. get_or (take part.start path) q 0) (λ q. (part_at rest q).start) (λ q. (part_at rest q).cyclic) pending (λ k. get_or marks' k New) (λ _. ⊥)) (sym size_is)
          (same_path us part.start node (λ q. get_or (take part.start path) q 0) start_all (λ q. (part_at rest q).start) cyclic_all (λ q. (part_at rest q).cyclic) pending (λ k. get_or marks' k New)
          (leaves us (length path) part.start node start_all cyclic_all pending (λ k. get_or marks k New) (λ k. get_or marks' k New) s.is_path (omega (arith, top_inside)) start_is before mark_left mark_kept mark_done mark_new)
          (λ q h. get_or-take part.start path q 0 h)
          (λ q h. ap (λ p. p.start) (sym (part_before rest part q h)))
          (λ q h. ap (λ p. p.cyclic) (sym (part_before rest part q h))));
      is_least = least_kept us (length path) part.start node start_all cyclic_all pending (λ k. get_or marks k New) (λ k. get_or marks' k New) s.is_path (omega (arith, top_inside)) start_is before mark_left mark_kept mark_done mark_new
          first first' s.is_least from_where older newer;
    }
      where
        size_is : length (take part.start path) ≡ part.start
        size_is = length-take-le part.start path (omega (arith, top_inside))

  -- ---- at the end

  user_inside : (number used : ℕ) → UsesIn us number used → number < length us
  user_inside number used u = ⊎_elim (λ (l : number < length us). l)
      (λ (g : length us ≤ number). not_listed (subst (λ x. is_listed x used ≡ true) (get_or-eq_default us [] g) u)) (cases_lt number (length us))
    where
      not_listed : {P : Type 0} → false ≡ true → P
      not_listed h = absurd cc

  recursive_inside : (a b : ℕ) → Leads (UsesIn us) a b → a < length us
  recursive_inside a b (at_once u) = user_inside a b u
  recursive_inside a b (through u chain) = user_inside a _ u

  pub first_of_search : (mark : ℕ → Mark) (first : Option ℕ) → IsLeast us mark first → ((k : ℕ) → k < length us → mark k ≡ Done)
      → MatchOption first ((number : ℕ) → IsRecursive (UsesIn us) number → ⊥) (IsFirstRecursive (UsesIn us))
  first_of_search mark None s done = λ number chain. let b = s.least number (done number (recursive_inside number number chain)) chain in no_some b.1
    where
      no_some : {k : ℕ} → None ≡ Some k → ⊥
      no_some h = cc
  first_of_search mark (Some f) s done = record {
    recursive = s.recursive f refl;
    first = λ other l chain.
        let b = s.least other (done other (recursive_inside other other chain)) chain in
        let e : f ≡ b.0 = same_some b.1 in
        omega (arith, e, b.2, l);
  }
    where
      same_some : {k : ℕ} → Some f ≡ Some k → f ≡ k
      same_some h = cc

  -- where the path is empty, what was met is left
  pub met_is_done : (marks : List Mark) (path : List ℕ) (parts : List Part) (pending : List Pending) (first : Option ℕ) → IsSearchOf us marks path parts pending first (λ _. ⊥) → path ≡ []
      → (k : ℕ) → ¬ (get_or marks k New ≡ New) → get_or marks k New ≡ Done
  met_is_done marks path parts pending first s e k met = by (get_or marks k New) refl
    where
      by : (m : Mark) → get_or marks k New ≡ m → get_or marks k New ≡ Done
      by New is = absurd (met is)
      by (OnPath q) is = let at = s.is_path.at_place k q is in let z : length path ≡ 0 = ap length e in absurd (omega (arith, at.0, z))
      by Done is = is

  -- ---- the same, as the code has the lists

  pub searched_entered : (marks : List Mark) (path path' : List ℕ) (parts parts' : List Part) (pending pending' : List Pending) (first : Option ℕ) (v place : ℕ) (row : List ℕ)
      → IsSearchOf us marks path parts pending first (λ used. used ≡ v) → get_or marks v New ≡ New → v < length us → row ≡ used_by us v
      → ((q : ℕ) → q < length path → Leads (UsesIn us) (get_or path q 0) v)
      → path' ≡ path ++ v ∷ [] → parts' ≡ parts ++ record { start = place; cyclic = false } ∷ [] → pending' ≡ pending ++ map (λ used. record { place = place; used = used }) row → place ≡ length path
      → IsSearchOf us (set marks v (OnPath place)) path' parts' pending' first (λ _. ⊥)
  searched_entered marks path path' parts parts' pending pending' first v place row s new inside row_is comes e f g h =
      rw (e, f, g, h) (searched_enter marks path parts pending first v row s new inside row_is comes)

  pub searched_leaving : (marks marks2 new : List Mark) (n : ℕ) (path path2 kept : List ℕ) (parts parts' rest : List Part) (part : Part) (pending : List Pending) (first first' : Option ℕ)
      → IsSearchOf us marks path parts pending first (λ _. ⊥) → parts ≡ rest ++ part ∷ [] → parts' ≡ rest → path2 ≡ path → marks2 ≡ marks → kept ≡ take part.start path
      → ((e : Pending) → Contains pending e → e.place < part.start) → length new ≡ length marks2 → n ≡ length marks
      → ((k : ℕ) → is_listed (take (length path2 - part.start) (drop part.start path2)) k ≡ true → get_or new k New ≡ Done)
      → ((k : ℕ) → is_listed (take (length path2 - part.start) (drop part.start path2)) k ≡ false → get_or new k New ≡ get_or marks2 k New)
      → first' ≡ cond part.cyclic (fold lesser first (take (length path2 - part.start) (drop part.start path2))) first
      → IsSearchOf us (take n (new ++ drop (length new) marks)) kept parts' pending first' (λ _. ⊥)
  searched_leaving marks marks2 new n path path2 kept parts parts' rest part pending first first' s e f p2 m2 kept_is before size n_is listed others first_is =
      let size' : length new ≡ length marks = size ∙ ap length m2 in
      let left_is : take (length path2 - part.start) (drop part.start path2) ≡ drop part.start path =
      ap (λ x. take (length x - part.start) (drop part.start x)) p2 ∙ take_all (length path - part.start) (drop part.start path) (omega (arith, length-drop part.start path)) in
      let r = searched_leave marks new path rest part pending first first' (subst (λ x. IsSearchOf us marks path x pending first (λ _. ⊥)) e s) before size'
      (λ k h. listed k (ap (λ x. is_listed x k) left_is ∙ h))
      (λ k h. others k (ap (λ x. is_listed x k) left_is ∙ h) ∙ ap (λ x. get_or x k New) m2)
      (first_is ∙ ap (λ x. cond part.cyclic (fold lesser first x) first) left_is) in
      rw (refilled marks new n size' n_is, kept_is, f) r

  -- a use that is taken is one of the last part
  pub taken_from : (marks : List Mark) (path : List ℕ) (parts rest : List Part) (part : Part) (pending before : List Pending) (first : Option ℕ) (place used : ℕ)
      → IsSearchOf us marks path parts pending first (λ _. ⊥) → parts ≡ rest ++ part ∷ [] → pending ≡ before ++ record { place = place; used = used } ∷ [] → part.start ≤ place → IsUsedFrom us path parts used
  taken_from marks path parts rest part pending before first place used s e f h =
      let taken : Pending = record { place = place; used = used } in
      let p = s.is_path.pending_used taken (subst (λ x. Contains x taken) (sym f) (Contains-push before taken)) in
      let inside = (rises_popped 0 rest (length path) part (subst (λ x. Rises 0 x (length path)) e s.rises)).1 in
      let last : part_at parts (length path - 1) ≡ part = ap (λ x. part_at x (length path - 1)) e ∙ part_after rest part (length path - 1) (omega (arith, inside)) in
      record { from = place; here = p.0; last = subst (λ x. x.start ≤ place) (sym last) h; uses = p.1 }

-- ---- one more is marked

module _ (marks old : List Mark) (numbers : List ℕ) (i : ℕ) (h : i < length numbers) (here : get_or numbers i 0 < length marks) where
  pub listed_more : ((k : ℕ) → is_listed (take i numbers) k ≡ true → get_or marks k New ≡ Done)
      → (k : ℕ) → is_listed (take (i + 1) numbers) k ≡ true → get_or (set marks (get_or numbers i 0) Done) k New ≡ Done
  listed_more before k l = by (eqb_tells k (get_or numbers i 0))
    where
      by : ((nat_eq k (get_or numbers i 0) ≡ true) × (k ≡ get_or numbers i 0)) ⊎ ((nat_eq k (get_or numbers i 0) ≡ false) × (k ≢ get_or numbers i 0)) → get_or (set marks (get_or numbers i 0) Done) k New ≡ Done
      by (inl same) = ap (λ x. get_or (set marks (get_or numbers i 0) Done) x New) same.1 ∙ get_or-set_same marks (get_or numbers i 0) Done New here
      by (inr apart) = get_or-set_other marks (get_or numbers i 0) k Done New apart.1
          ∙ before k (sym (unchanged_listed (take i numbers) (get_or numbers i 0) k apart.0) ∙ ap (λ x. is_listed x k) (sym (take_more numbers i 0 h)) ∙ l)

  pub others_more : ((k : ℕ) → is_listed (take i numbers) k ≡ false → get_or marks k New ≡ get_or old k New)
      → (k : ℕ) → is_listed (take (i + 1) numbers) k ≡ false → get_or (set marks (get_or numbers i 0) Done) k New ≡ get_or old k New
  others_more before k l = by (eqb_tells k (get_or numbers i 0))
    where
      true_false : {P : Type 0} → true ≡ false → P
      true_false e = absurd cc

      by : ((nat_eq k (get_or numbers i 0) ≡ true) × (k ≡ get_or numbers i 0)) ⊎ ((nat_eq k (get_or numbers i 0) ≡ false) × (k ≢ get_or numbers i 0)) → get_or (set marks (get_or numbers i 0) Done) k New ≡ get_or old k New
      by (inl same) = true_false (sym (listed_last (take i numbers) (get_or numbers i 0)) ∙ ap (λ x. is_listed x (get_or numbers i 0)) (sym (take_more numbers i 0 h)) ∙ ap (is_listed (take (i + 1) numbers)) (sym same.1) ∙ l)
      by (inr apart) = get_or-set_other marks (get_or numbers i 0) k Done New apart.1
          ∙ before k (sym (unchanged_listed (take i numbers) (get_or numbers i 0) k apart.0) ∙ ap (λ x. is_listed x k) (sym (take_more numbers i 0 h)) ∙ l)

  pub left_more : ((us : List (List ℕ)) → new_left marks us ≤ new_left old us) → (us : List (List ℕ)) → new_left (set marks (get_or numbers i 0) Done) us ≤ new_left old us
  left_more before us = let a = new_done marks us (get_or numbers i 0) in let b = before us in omega (arith, a, b)

-- the steps that are left, where a definition is entered
pub steps_entered : (us : List (List ℕ)) (marks : List Mark) (v place a a' b b' : ℕ) (row : List ℕ) → get_or marks v New ≡ New → length marks ≡ length us → v < length us → row ≡ used_by us v → a' ≡ a + length row → b' ≡ b + 1
    → new_left (set marks v (OnPath place)) us + a' + b' ≡ new_left marks us + a + b
steps_entered us marks v place a a' b b' row new size inside row_is e f =
    let n = new_entered marks us v place new (omega (arith, size, inside)) inside in
    let l : length row ≡ length (get_or us v []) = ap length row_is in
    omega (arith, n, l, e, f)
