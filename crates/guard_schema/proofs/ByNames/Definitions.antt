-- Types by the names of definitions, as a schema keeps them.
use Rattle.std.proofs.Common.{◌≡◌, ℕ, zero, suc, ◌+◌, Bool, true, false, cond, List, [], ◌∷◌, ◌++◌, length, map, drop}
use Rattle.std.specs.Arc.{arc_value}
use Rattle.std.proofs.Common.{get_or, Option, Some, None, Bor, MatchOption, option_map, slice_get, refl, sym, ap, subst, ◌∙◌}
use Rattle.std.proofs.Common.{append_assoc, arith}
use Rattle.std.specs.Prelude.{All, option_and_then, ◌<◌, ◌≤◌}
use Rattle.std.specs.List.{HoldsAt}
use Rattle.std.proofs.Math.Path.{fun_ext}
use Rattle.std.proofs.lemmas.Option.{slice_get_past, slice_get_read}
use Rattle.std.proofs.lemmas.List.{append-nil, length-append, length-map, map_push, at_drop_more, at_drop_all, drop-map}
use Rattle.std.proofs.lemmas.List.Elements.{All-nil, All-cons, All-head, All-tail, All-map}
use Rattle.std.proofs.Math.Seq.{drop-append_seam}
use Rattle.guard_model.specs.AbstractType.{AbstractType}
use Rattle.guard_model.specs.TypeView.{shared_type_view}
use Rattle.guard_model.specs.declared.ty.Ty.{Ty}
use Rattle.guard_model.specs.declared.value.Value.{Value}
use Rattle.std.specs.Global.{Global}
use Rattle.std.specs.declared.sync.Arc.{Arc}
use Rattle.guard_syntax.specs.ModuleViews.{module_view, assignment_view}
use Rattle.guard_syntax.specs.Trees.{WrittenAssignment, WrittenModule}
use Rattle.guard_syntax.specs.declared.tree.Assignment.{Assignment}
use Rattle.guard_syntax.specs.declared.tree.Module.{Module}
use Rattle.guard_names.specs.Declarations.{Definition, definitions, defined_in}
use Rattle.guard_names.specs.Places.{place_in}
use Rattle.guard_schema.specs.Entries.{Entry, entries_from, place_named, unvalued}
use Rattle.guard_schema.specs.Known.{built_at}
use Rattle.guard_schema.specs.Pairs.{paired, built_view}
use Rattle.guard_schema.specs.Schemas.{AbstractSchema, assigns, number_assigned, assigned_type, schema_of}
use Rattle.guard_schema.specs.Views.{entry_view, unvalued_at, type_place}
use Rattle.guard_schema.specs.declared.build.NamedDefinition.{NamedDefinition}

-- ---- entries, one definition after another

module _ (place : ℕ → Option ℕ) where
  entries_append : (n : ℕ) (ds es : List Definition)
      → entries_from place n (ds ++ es) ≡ entries_from place n ds ++ entries_from place (n + length ds) es
  entries_append n [] es = let e : n ≡ n + 0 = omega arith in ap (λ k. entries_from place k es) e
  entries_append n (d ∷ ds) es =
      let e : (n + 1) + length ds ≡ n + suc (length ds) = omega arith in
      ap (λ xs. record { home = d.home.name; name = d.assignment.name; place = place n } ∷ xs)
      (entries_append (n + 1) ds es ∙ ap (λ k. entries_from place (n + 1) ds ++ entries_from place k es) e)

  pub entries_length : (n : ℕ) (ds : List Definition) → length (entries_from place n ds) ≡ length ds
  entries_length n [] = refl
  entries_length n (d ∷ ds) = ap suc (entries_length (n + 1) ds)

  -- one more entry
  pub one_more : (done : List Entry) (n : ℕ) (d : Definition) (rest : List Definition) (e : Entry)
      → e ≡ record { home = d.home.name; name = d.assignment.name; place = place n }
      → (done ++ e ∷ []) ++ entries_from place (n + 1) rest ≡ done ++ entries_from place n (d ∷ rest)
  one_more done n d rest e is = append_assoc done (e ∷ []) (entries_from place (n + 1) rest)
      ∙ ap (λ x. done ++ x ∷ entries_from place (n + 1) rest) is

  -- those of one more module
  pub several_more : (done all : List Entry) (n : ℕ) (ds rest : List Definition) → all ≡ done ++ entries_from place n ds
      → all ++ entries_from place (n + length ds) rest ≡ done ++ entries_from place n (ds ++ rest)
  several_more done all n ds rest is =
      ap (λ xs. xs ++ entries_from place (n + length ds) rest) is
      ∙ append_assoc done (entries_from place n ds) (entries_from place (n + length ds) rest)
      ∙ ap (λ xs. done ++ xs) (sym (entries_append n ds rest))

  pub several_length : (done all : List Entry) (n : ℕ) (ds : List Definition) → length done ≡ n
      → all ≡ done ++ entries_from place n ds → length all ≡ n + length ds
  several_length done all n ds e is = ap length is ∙ length-append done (entries_from place n ds)
      ∙ ap (λ k. length done + k) (entries_length n ds) ∙ ap (λ k. k + length ds) e

  -- ---- the first with two names

  shifted : (n : ℕ) (o : Option ℕ) → option_and_then place (option_map (λ i. (n + 1) + i) o) ≡ option_and_then place
      (option_map (λ i. n + i) (option_map suc o))
  shifted n None = refl
  shifted n (Some i) = let e : (n + 1) + i ≡ n + suc i = omega arith in ap place e

  unshifted : (o : Option ℕ) → option_and_then place (option_map (λ i. 0 + i) o) ≡ option_and_then place o
  unshifted None = refl
  unshifted (Some i) = let e : 0 + i ≡ i = omega arith in ap place e

  found_at : (n : ℕ) (home name : List ℕ) (ds : List Definition) (b : Bool)
      → place_named home name (entries_from place (n + 1) ds) ≡ option_and_then place
      (option_map (λ i. (n + 1) + i) (number_assigned home name ds))
      → cond b (place n) (place_named home name (entries_from place (n + 1) ds)) ≡ option_and_then place
      (option_map (λ i. n + i) (cond b (Some 0) (option_map suc (number_assigned home name ds))))
  found_at n home name ds true after = let e : n ≡ n + 0 = omega arith in ap place e
  found_at n home name ds false after = after ∙ shifted n (number_assigned home name ds)

  found_from : (n : ℕ) (home name : List ℕ) (ds : List Definition)
      → place_named home name (entries_from place n ds) ≡ option_and_then place
      (option_map (λ i. n + i) (number_assigned home name ds))
  found_from n home name [] = refl
  found_from n home name (d ∷ ds) = found_at n home name ds (assigns home name d) (found_from (n + 1) home name ds)

  found : (home name : List ℕ) (ds : List Definition)
      → place_named home name (entries_from place 0 ds) ≡ option_and_then place (number_assigned home name ds)
  found home name ds = found_from 0 home name ds ∙ unshifted (number_assigned home name ds)

-- ---- types by their places

abbrev taken : Option (Arc Ty Global) → Option (Option (Arc Value Global)) → Option AbstractType
taken None v = None
taken (Some t) None = None
taken (Some t) (Some None) = Some (shared_type_view t)
taken (Some t) (Some (Some v)) = None

nothing_there : (t : Option (Arc Ty Global)) → taken t None ≡ None
nothing_there None = refl
nothing_there (Some t) = refl

type_there : (t : Option (Arc Ty Global)) → taken t (Some None) ≡ option_map shared_type_view t
type_there None = refl
type_there (Some t) = refl

value_there : (t : Option (Arc Ty Global)) (v : Arc Value Global) → taken t (Some (Some v)) ≡ None
value_there None v = refl
value_there (Some t) v = refl

first_there : (t : Arc Ty Global) (v : Option (Arc Value Global)) → assigned_type (Some (built_view (arc_value t) v)) ≡ taken (Some t) (Some v)
first_there t None = refl
first_there t (Some v) = refl

at_place : (ts : List (Arc Ty Global)) (vs : List (Option (Arc Value Global))) (p : ℕ)
    → assigned_type (slice_get (paired ts vs) p) ≡ taken (slice_get ts p) (slice_get vs p)
at_place [] vs p = refl
at_place (t ∷ ts) [] p = sym (nothing_there (slice_get (t ∷ ts) p))
at_place (t ∷ ts) (v ∷ vs) zero = first_there t v
at_place (t ∷ ts) (v ∷ vs) (suc p) = at_place ts vs p

module _ (order : List ℕ) (ts : List (Arc Ty Global)) (vs : List (Option (Arc Value Global))) where
  kept : (p : ℕ) (v : Option (Option (Arc Value Global))) → option_map shared_type_view
      (option_and_then (slice_get ts) (unvalued p v)) ≡ taken (slice_get ts p) v
  kept p None = sym (nothing_there (slice_get ts p))
  kept p (Some None) = sym (type_there (slice_get ts p))
  kept p (Some (Some v)) = sym (value_there (slice_get ts p) v)

  placed : (o : Option ℕ) → option_map shared_type_view (option_and_then (slice_get ts) (unvalued_at vs o)) ≡ assigned_type
      (built_at (paired ts vs) o)
  placed None = refl
  placed (Some p) = kept p (slice_get vs p) ∙ sym (at_place ts vs p)

  numbered : (o : Option ℕ) → option_map shared_type_view
      (option_and_then (slice_get ts) (option_and_then (type_place order vs) o)) ≡ assigned_type
      (built_at (paired ts vs) (option_and_then (place_in order) o))
  numbered None = refl
  numbered (Some n) = placed (place_in order n)

  module _ (ms : List WrittenModule) (names : List (List ℕ)) (es : List Entry) (named : names ≡ map (λ m. m.name) ms)
      (are : es ≡ entries_from (type_place order vs) 0 (definitions ms)) where
    by_name : (home name : List ℕ) → option_map shared_type_view (option_and_then (slice_get ts) (place_named home name es))
        ≡ assigned_type (built_at (paired ts vs)
        (option_and_then (place_in order) (number_assigned home name (definitions ms))))
    by_name home name =
        ap (λ xs. option_map shared_type_view (option_and_then (slice_get ts) (place_named home name xs))) are
        ∙ ap (λ o. option_map shared_type_view (option_and_then (slice_get ts) o))
        (found (type_place order vs) home name (definitions ms))
        ∙ numbered (number_assigned home name (definitions ms))

    pub schema_is : ◌≡◌ {A = AbstractSchema} (record {
      modules = names;
      types = λ home name. option_map shared_type_view
          (option_and_then (slice_get ts) (place_named home name es));
    })
        (schema_of (record { modules = ms; order = order; built = paired ts vs }))
    schema_is =
        let types : (λ (home name : List ℕ). option_map shared_type_view
        (option_and_then (slice_get ts) (place_named home name es)))
        ≡ (λ (home name : List ℕ). assigned_type
        (built_at (paired ts vs) (option_and_then (place_in order) (number_assigned home name (definitions ms))))) =
        fun_ext (λ home. fun_ext (λ name. by_name home name)) in
        ap (λ (ns : List (List ℕ)). record {
          modules = ns;
          types =
              λ home name. option_map shared_type_view (option_and_then (slice_get ts) (place_named home name es));
        }) named
        ∙ ap (λ (f : List ℕ → List ℕ → Option AbstractType). record { modules = map (λ m. m.name) ms; types = f }) types

-- ---- what `get` finds

pub got : {X : Type 0} (found : Option (Bor X)) (xs : List X) (i : ℕ)
    → MatchOption found (length xs ≤ i) (λ t. (i < length xs) × HoldsAt (λ d. t.now ≡ d) xs i)
    → option_map (λ t. t.now) found ≡ slice_get xs i
got None xs i h = sym (slice_get_past xs i h)
got (Some t) xs i h = sym (slice_get_read xs (length xs) i t.now refl h.0 (h.1 t.now))

-- ---- those of a module from a place on

abbrev pub defined_after : Module → ℕ → List Definition
defined_after m i = map (λ a. record { home = module_view m; assignment = a })
    (map assignment_view (drop i m.assignments.items))

module _ (place : ℕ → Option ℕ) (total : List Entry) where
  module _ (m : Module) (i : ℕ) (all : List NamedDefinition)
      (so_far : map entry_view all ++ entries_from place (length all) (defined_after m i) ≡ total) where
    pub next_definition : (after : List NamedDefinition) (a : Assignment) (n : NamedDefinition)
        → i < length m.assignments.items → a ≡ get_or m.assignments.items i a
        → entry_view n ≡ record {
          home = (module_view m).name;
          name = (assignment_view a).name;
          place =
              place (length all);
        } → after ≡ all ++ n ∷ []
        → map entry_view after ++ entries_from place (length after) (defined_after m (i + 1)) ≡ total
    next_definition after a n lt is entry pushed =
        let d : Definition = record { home = module_view m; assignment = assignment_view a } in
        let of = λ (xs : List Assignment). map (λ b. record { home = module_view m; assignment = b })
        (map assignment_view xs) in
        let split : defined_after m i ≡ d ∷ defined_after m (i + 1) =
        at_drop_more of m.assignments.items i a lt
        ∙ ap (λ (b : Assignment). of (b ∷ drop (i + 1) m.assignments.items)) (sym is) in
        let views : map entry_view after ≡ map entry_view all ++ entry_view n ∷ [] =
        ap (map entry_view) pushed ∙ map_push entry_view all n in
        let count : length after ≡ length all + 1 = ap length pushed ∙ length-append all (n ∷ []) in
        ap (λ (xs : List Entry). xs ++ entries_from place (length after) (defined_after m (i + 1))) views
        ∙ ap (λ (k : ℕ). (map entry_view all ++ entry_view n ∷ []) ++ entries_from place k (defined_after m (i + 1)))
        count
        ∙ one_more place (map entry_view all) (length all) d (defined_after m (i + 1)) (entry_view n) entry
        ∙ ap (λ (ds : List Definition). map entry_view all ++ entries_from place (length all) ds) (sym split)
        ∙ so_far

    pub last_definition : length m.assignments.items ≤ i → map entry_view all ≡ total
    last_definition le =
        let none : defined_after m i ≡ [] = at_drop_all
        (λ (xs : List Assignment). map (λ b. record { home = module_view m; assignment = b })
        (map assignment_view xs)) m.assignments.items i le in
        sym (append-nil (map entry_view all))
        ∙ ap (λ (ds : List Definition). map entry_view all ++ entries_from place (length all) ds) (sym none)
        ∙ so_far

  module _ (ms : List Module) (i : ℕ) (all : List NamedDefinition)
      (so_far : map entry_view all ++ entries_from place (length all)
      (definitions (map module_view (drop i ms))) ≡ total) where
    pub next_module : (after : List NamedDefinition) (m : Module) → i < length ms → m ≡ get_or ms i m
        → map entry_view after ≡ map entry_view all ++ entries_from place (length all) (defined_in (module_view m))
        → map entry_view after ++ entries_from place (length after)
        (definitions (map module_view (drop (i + 1) ms))) ≡ total
    next_module after m lt is more =
        let rest = definitions (map module_view (drop (i + 1) ms)) in
        let split : definitions (map module_view (drop i ms)) ≡ defined_in (module_view m) ++ rest =
        at_drop_more (λ (xs : List Module). definitions (map module_view xs)) ms i m lt
        ∙ ap (λ (n : Module). definitions (map module_view (n ∷ drop (i + 1) ms))) (sym is) in
        let count : length after ≡ length all + length (defined_in (module_view m)) =
        sym (length-map after entry_view) ∙ several_length place (map entry_view all) (map entry_view after)
        (length all) (defined_in (module_view m)) (length-map all entry_view) more in
        ap (λ (k : ℕ). map entry_view after ++ entries_from place k rest) count
        ∙ several_more place (map entry_view all) (map entry_view after) (length all)
        (defined_in (module_view m)) rest more
        ∙ ap (λ (ds : List Definition). map entry_view all ++ entries_from place (length all) ds) (sym split)
        ∙ so_far

    pub last_module : length ms ≤ i → map entry_view all ≡ total
    last_module le =
        let none : definitions (map module_view (drop i ms)) ≡ [] =
        at_drop_all (λ (xs : List Module). definitions (map module_view xs)) ms i le in
        sym (append-nil (map entry_view all))
        ∙ ap (λ (ds : List Definition). map entry_view all ++ entries_from place (length all) ds) (sym none)
        ∙ so_far

-- ---- those of one module, after those of others

entries_of_home : (place : ℕ → Option ℕ) (n : ℕ) (m : WrittenModule) (all : List WrittenAssignment)
    → All (λ e. e.home ≡ m.name) (entries_from place n (map (λ a. record { home = m; assignment = a }) all))
entries_of_home place n m [] = All-nil (λ (e : Entry). e.home ≡ m.name)
entries_of_home place n m (a ∷ all) =
    All-cons (λ (e : Entry). e.home ≡ m.name) (record { home = m.name; name = a.name; place = place n }) _ refl
    (entries_of_home place (n + 1) m all)

seen_all : (home : List ℕ) (ds : List NamedDefinition) → All (λ e. e.home ≡ home) (map entry_view ds)
    → All (λ d. d.home.now ≡ home) ds
seen_all home [] h = All-nil (λ (d : NamedDefinition). d.home.now ≡ home)
seen_all home (d ∷ ds) h =
    All-cons (λ (d : NamedDefinition). d.home.now ≡ home) d ds
    (All-head (λ (e : Entry). e.home ≡ home) (entry_view d) (map entry_view ds) h)
    (seen_all home ds (All-tail (λ (e : Entry). e.home ≡ home) (entry_view d) (map entry_view ds) h))

pub all_own : (home : List ℕ) (ds : List NamedDefinition) → All (λ d. d.home.now ≡ home) ds
    → All (λ e. e.home ≡ home) (map entry_view ds)
all_own home ds own = All-map (λ (e : Entry). e.home ≡ home) entry_view ds own

module _ (place : ℕ → Option ℕ) (before after : List NamedDefinition) (m : WrittenModule)
    (more : map entry_view after ≡ map entry_view before ++ entries_from place (length before) (defined_in m)) where
  pub module_entries : (n : ℕ) → n ≡ length before
      → map entry_view (drop n after) ≡ entries_from place (length before) (defined_in m)
  module_entries n e =
      let es = entries_from place (length before) (defined_in m) in
      let same : n ≡ length (map entry_view before) = e ∙ sym (length-map before entry_view) in
      sym (drop-map entry_view n after) ∙ ap (drop n) more
      ∙ ap (λ (k : ℕ). drop k (map entry_view before ++ es)) same
      ∙ drop-append_seam (map entry_view before) es

  pub module_from : (n : ℕ) → n ≡ length before → n ≤ length after
  module_from n e =
      let es = entries_from place (length before) (defined_in m) in
      let count : length after ≡ length before + length es =
      sym (length-map after entry_view) ∙ ap length more ∙ length-append (map entry_view before) es
      ∙ ap (λ (k : ℕ). k + length es) (length-map before entry_view) in
      omega (arith, count, e)

  pub module_homes : (n : ℕ) → n ≡ length before → All (λ d. d.home.now ≡ m.name) (drop n after)
  module_homes n e =
      seen_all m.name (drop n after)
      (subst (λ (es : List Entry). All (λ x. x.home ≡ m.name) es) (sym (module_entries n e))
      (entries_of_home place (length before) m m.assignments))
