-- Look-ups in a table, and in the declarations of which it is made.
use Rattle.std.proofs.Common.{◌≡◌, inl, inr, ℕ, ◌+◌, ◌<◌, Bool, true, false, cond, ◌&&◌, List, [], ◌∷◌, ◌++◌, map, length, get_or, take, drop, Option, Some, None, option_map, is_some, refl, sym, ◌∙◌, ap, subst}
use Rattle.std.specs.Prelude.{bytes_eq, nat_eq}
use Rattle.std.specs.List.{find}
use Rattle.std.specs.Map.{lookup}
use Rattle.std.specs.Option.{option_eq, option_or}
use Rattle.std.specs.Cmp.Lexicographic.{nat_list_eq_equiv, bytes_decides}
use Rattle.std.proofs.lemmas.List.{map_more, drop_more, get_or-map, length-map}
use Rattle.std.proofs.lemmas.List.Folds.{find-append}
use Rattle.indexmap.specs.IndexMap.{insert_entry}
use Rattle.std.specs.Borrow.{Bor}
use Rattle.std.proofs.lemmas.Bool.Decides.{eqb_tells}
use Rattle.guard_syntax.specs.Trees.{WrittenModule}
use Rattle.guard_model.specs.declared.site.Site.{Site}
use Rattle.guard_names.specs.declared.table.Key.{Key}
use Rattle.guard_names.specs.declared.meanings.Meanings.{Meanings}
use Rattle.guard_names.specs.declared.meanings.Within.{Within}
use Rattle.guard_names.specs.declared.declarations.Origin.{Origin}
use Rattle.guard_names.specs.declared.declarations.Declaration.{Declaration}
use Rattle.guard_names.specs.declared.declarations.Home.{Home}
use Rattle.guard_names.specs.Declarations as declared
use Rattle.guard_names.specs.Declarations.{declares, origin_there, definition_of}
use Rattle.guard_names.specs.inside.DeclarationViews.{scope_view, origin_view, declaration_view}
use Rattle.guard_names.specs.Faults.{duplicate_after}
use Rattle.guard_names.proofs.Declared.Meaning.{never_before}
use Rattle.guard_names.proofs.Declared.Modules.{one_name}
use Rattle.guard_names.specs.TableViews.{module_number, is_number, is_scope, is_key, meaning_in}
use Rattle.guard_names.specs.inside.Numbered.{HasNumber}

-- how keys are compared
abbrev pub key_eq : Key → Key → Bool
key_eq k j = option_eq nat_eq k.scope j.scope && bytes_eq k.name.now j.name.now

-- the number that a declaration is looked up by
abbrev pub number_in : Option Home → Option ℕ
number_in scope = option_map (λ home. home.number) scope

both_so : (a b : Bool) → a ≡ true → b ≡ true → a ≡ b
both_so a b h g = h ∙ sym g

nat_itself : (n : ℕ) → nat_eq n n ≡ true
nat_itself n = elim (eqb_tells n n) [
  | inl h ↦ h.0
  | inr h ↦ absurd (h.1 refl)
]

-- a name is looked up by its number where it is the name of the module there
number_tells : (ms : List WrittenModule) (n : ℕ) (home h : List ℕ) → module_number ms h ≡ Some n → is_number (module_number ms home) (Some n) ≡ bytes_eq home h
number_tells ms n home h is = by (bytes_eq home h) refl (module_number ms home) refl
  where
    by : (b : Bool) → bytes_eq home h ≡ b → (k : Option ℕ) → module_number ms home ≡ k → is_number k (Some n) ≡ bytes_eq home h
    by true same k at =
        let one : home ≡ h = (bytes_decides home h).0 same in
        let here : k ≡ Some n = sym at ∙ ap (module_number ms) one ∙ is in
        ap (λ o. is_number o (Some n)) here ∙ nat_itself n ∙ sym same
    by false other None at = sym other
    by false other (Some k) at = elim (eqb_tells k n) [
      | inl h' ↦ absurd (let one : home ≡ h = one_name ms n home h (at ∙ ap (λ (x : ℕ). Some x) h'.1) is in let same : bytes_eq home h ≡ true = (bytes_decides home h).1 one in let no : false ≡ true = sym other ∙ same in cc)
      | inr h' ↦ h'.0 ∙ sym other
    ]

no_number : (k : Option ℕ) → is_number k None ≡ false
no_number None = refl
no_number (Some k) = refl

scope_tells : (ms : List WrittenModule) (scope : Option (List ℕ)) (s : Option Home) → HasNumber ms s → is_scope ms scope (number_in s) ≡ option_eq bytes_eq scope (scope_view s)
scope_tells ms None None is = refl
scope_tells ms None (Some h) is = refl
scope_tells ms (Some home) None is = no_number (module_number ms home)
scope_tells ms (Some home) (Some h) is = number_tells ms h.number home h.name.now is

-- the scope of a key
abbrev pub IsScopeOf : List WrittenModule → Option (List ℕ) → Option ℕ → Type 0
IsScopeOf ms None k = k ≡ None
IsScopeOf ms (Some home) k = (n : ℕ) × (k ≡ Some n) × (module_number ms home ≡ Some n)

pub scope_of : (ms : List WrittenModule) (s : Option Home) → HasNumber ms s → IsScopeOf ms (scope_view s) (number_in s)
scope_of ms None is = refl
scope_of ms (Some h) is = (h.number, refl, is)

key_eq-is_key : (ms : List WrittenModule) (scope : Option (List ℕ)) (k j : Key) → IsScopeOf ms scope k.scope → key_eq k j ≡ is_key ms scope k.name.now j
key_eq-is_key ms None k j is = ap (λ s. option_eq nat_eq s j.scope && bytes_eq k.name.now j.name.now) is
key_eq-is_key ms (Some home) k j (n, at, number) =
    ap (λ s. option_eq nat_eq s j.scope && bytes_eq k.name.now j.name.now) at
    ∙ ap (λ o. is_number o j.scope && bytes_eq k.name.now j.name.now) (sym number)

lookup_agrees : {K X : Type 0} (p q : K → Bool) → ((k : K) → p k ≡ q k) → (es : List (K × X)) → lookup p es ≡ lookup q es
lookup_agrees p q same [] = refl
lookup_agrees p q same (e ∷ es) = rw (same e.0, lookup_agrees p q same es) refl

-- a look-up by a key is one by its scope and name
pub lookup_key : {X : Type 0} (ms : List WrittenModule) (scope : Option (List ℕ)) (k : Key) → IsScopeOf ms scope k.scope → (es : List (Key × X)) → lookup (key_eq k) es ≡ lookup (is_key ms scope k.name.now) es
lookup_key ms scope k is es = lookup_agrees (key_eq k) (is_key ms scope k.name.now) (λ j. key_eq-is_key ms scope k j is) es

-- nothing is looked up in a module that isn't there
pub nothing_there : {X : Type 0} (ms : List WrittenModule) (home name : List ℕ) (es : List (Key × X)) → None ≡ module_number ms home → lookup (is_key ms (Some home) name) es ≡ None
nothing_there ms home name [] none = refl
nothing_there ms home name (e ∷ es) none =
    ap (λ o. cond (is_number o e.0.scope && bytes_eq name e.0.name.now) (Some e.1) (lookup (is_key ms (Some home) name) es)) (sym none)
    ∙ nothing_there ms home name es none

lookup-push : {K X : Type 0} (p : K → Bool) (es : List (K × X)) (k : K) (v : X) → lookup p (es ++ (k, v) ∷ []) ≡ option_or (lookup p es) (cond (p k) (Some v) None)
lookup-push p [] k v = refl
lookup-push p (e ∷ es) k v = by_test (p e.0) (lookup-push p es k v)
  where
    by_test : (b : Bool) → lookup p (es ++ (k, v) ∷ []) ≡ option_or (lookup p es) (cond (p k) (Some v) None)
        → cond b (Some e.1) (lookup p (es ++ (k, v) ∷ [])) ≡ option_or (cond b (Some e.1) (lookup p es)) (cond (p k) (Some v) None)
    by_test true rest = refl
    by_test false rest = rest

-- a new key goes last
insert_entry-absent : {X : Type 0} (es : List (Key × X)) (k : Key) (v : X) → lookup (key_eq k) es ≡ None → insert_entry key_eq es k v ≡ es ++ (k, v) ∷ []
insert_entry-absent [] k v absent = refl
insert_entry-absent (e ∷ es) k v absent = by_test (key_eq k e.0) (insert_entry-absent es k v) absent
  where
    by_test : (b : Bool) → (lookup (key_eq k) es ≡ None → insert_entry key_eq es k v ≡ es ++ (k, v) ∷ []) → cond b (Some e.1) (lookup (key_eq k) es) ≡ None
        → cond b ((e.0, v) ∷ es) (e ∷ insert_entry key_eq es k v) ≡ e ∷ (es ++ (k, v) ∷ [])
    by_test true rest there = absurd cc
    by_test false rest there = ap (λ all. e ∷ all) (rest there)

-- the origins of the entries are those of the declarations
abbrev pub AreOrigins : List WrittenModule → List (Key × Origin) → List declared.Declaration → Type 0
AreOrigins ms es ds = (scope : Option (List ℕ)) (name : List ℕ) → option_map origin_view (lookup (is_key ms scope name) es) ≡ origin_there ds scope name

origin-push : (ds : List declared.Declaration) (d : declared.Declaration) (scope : Option (List ℕ)) (name : List ℕ)
    → origin_there (ds ++ d ∷ []) scope name ≡ option_or (origin_there ds scope name) (cond (declares scope name d) (Some d.origin) None)
origin-push ds d scope name =
    ap (option_map (λ e. e.origin)) (find-append (declares scope name) ds (d ∷ [])) ∙ by (find (declares scope name) ds) (declares scope name d)
  where
    by : (f : Option declared.Declaration) (b : Bool) → option_map (λ e. e.origin) (option_or f (cond b (Some d) None)) ≡ option_or (option_map (λ e. e.origin) f) (cond b (Some d.origin) None)
    by None true = refl
    by None false = refl
    by (Some e) b = refl

view-or : (f : Option Origin) (b : Bool) (o : Origin) → option_map origin_view (option_or f (cond b (Some o) None)) ≡ option_or (option_map origin_view f) (cond b (Some (origin_view o)) None)
view-or None true o = refl
view-or None false o = refl
view-or (Some x) b o = refl

some_mapped : (o : Option Origin) → is_some (option_map origin_view o) ≡ is_some o
some_mapped None = refl
some_mapped (Some x) = refl

module _ (ms : List WrittenModule) (xs : List Declaration) (i : ℕ) (d : Declaration) (inside : i < length xs) (numbered : HasNumber ms (get_or xs i d).scope) (key : Key)
    (by_name : key.name ≡ (get_or xs i d).name) (by_number : key.scope ≡ number_in (get_or xs i d).scope) where
  abbrev pub here : declared.Declaration
  here = declaration_view (get_or xs i d)

  key_scope : IsScopeOf ms here.scope key.scope
  key_scope = subst (IsScopeOf ms here.scope) (sym by_number) (scope_of ms (get_or xs i d).scope numbered)

  -- the key is that of the names that are declared
  pub key_tells : (scope : Option (List ℕ)) (name : List ℕ) → is_key ms scope name key ≡ declares scope name here
  key_tells scope name =
      ap (λ s. is_scope ms scope s && bytes_eq name key.name.now) by_number
      ∙ ap (λ b. b && bytes_eq name key.name.now) (scope_tells ms scope (get_or xs i d).scope numbered)
      ∙ ap (λ (n : Bor (List ℕ)). option_eq bytes_eq scope here.scope && bytes_eq name n.now) by_name

  -- what the table has at the next key
  pub same_before : (es : List (Key × Origin)) → AreOrigins ms es (map declaration_view (take i xs))
      → option_map origin_view (lookup (key_eq key) es) ≡ origin_there (map declaration_view (take i xs)) here.scope here.name
  same_before es are =
      ap (option_map origin_view) (lookup_key ms here.scope key key_scope es) ∙ are here.scope key.name.now
      ∙ ap (λ (n : Bor (List ℕ)). origin_there (map declaration_view (take i xs)) here.scope n.now) by_name

  -- one more entry, one more declaration
  pub more_origins : (es new : List (Key × Origin)) → AreOrigins ms es (map declaration_view (take i xs)) → lookup (key_eq key) es ≡ None → new ≡ insert_entry key_eq es key (get_or xs i d).origin
      → AreOrigins ms new (map declaration_view (take (i + 1) xs))
  more_origins es new are absent is scope name =
      ap (λ (all : List (Key × Origin)). option_map origin_view (lookup (is_key ms scope name) all)) (is ∙ insert_entry-absent es key (get_or xs i d).origin absent)
      ∙ ap (option_map origin_view) (lookup-push (is_key ms scope name) es key (get_or xs i d).origin)
      ∙ view-or (lookup (is_key ms scope name) es) (is_key ms scope name key) (get_or xs i d).origin
      ∙ ap (λ b. option_or (option_map origin_view (lookup (is_key ms scope name) es)) (cond b (Some here.origin) None)) (key_tells scope name)
      ∙ ap (λ f. option_or f (cond (declares scope name here) (Some here.origin) None)) (are scope name)
      ∙ sym (ap (λ ds. origin_there ds scope name) (map_more declaration_view xs i d inside) ∙ origin-push (map declaration_view (take i xs)) here scope name)

  -- the next one is declared before, or it isn't
  next_declaration :
      duplicate_after (map declaration_view (take i xs)) (map declaration_view (drop i xs))
      ≡ cond (is_some (origin_there (map declaration_view (take i xs)) here.scope here.name)) (Some here.site) (duplicate_after (map declaration_view (take (i + 1) xs)) (map declaration_view (drop (i + 1) xs)))
  next_declaration = rw (drop_more xs i d inside, map_more declaration_view xs i d inside) refl

  -- where it isn't, the search goes on
  pub passes_new : (es : List (Key × Origin)) → AreOrigins ms es (map declaration_view (take i xs)) → lookup (key_eq key) es ≡ None → (total : Option Site)
      → duplicate_after (map declaration_view (take i xs)) (map declaration_view (drop i xs)) ≡ total
      → duplicate_after (map declaration_view (take (i + 1) xs)) (map declaration_view (drop (i + 1) xs)) ≡ total
  passes_new es are absent total so_far =
      sym (next_declaration ∙ ap (λ o. cond (is_some o) (Some here.site) (duplicate_after (map declaration_view (take (i + 1) xs)) (map declaration_view (drop (i + 1) xs)))) (sym (same_before es are) ∙ ap (option_map origin_view) absent))
      ∙ so_far

  -- where it is, it is the first one that is declared twice
  pub is_duplicate : (es : List (Key × Origin)) → AreOrigins ms es (map declaration_view (take i xs)) → is_some (lookup (key_eq key) es) ≡ true → (total : Option Site)
      → duplicate_after (map declaration_view (take i xs)) (map declaration_view (drop i xs)) ≡ total → total ≡ Some here.site
  is_duplicate es are found total so_far =
      sym so_far ∙ next_declaration
      ∙ ap (λ b. cond b (Some here.site) (duplicate_after (map declaration_view (take (i + 1) xs)) (map declaration_view (drop (i + 1) xs)))) (ap is_some (sym (same_before es are)) ∙ some_mapped (lookup (key_eq key) es) ∙ found)

pub some_from_old : {X : Type 0} (o p : Option X) → o ≡ p → true ≡ is_some o → is_some p ≡ true
some_from_old o p is some = ap is_some (sym is) ∙ sym some

pub none_from_old : {X : Type 0} (o p : Option X) → o ≡ p → false ≡ is_some o → p ≡ None
none_from_old None p is none = sym is
none_from_old (Some x) p is none = absurd cc

-- where none is declared twice, each comes from where its declaration says
pub own_origin : (origins : declared.Origins) (xs : List Declaration) (i : ℕ) (d : Declaration) → i < length xs → duplicate_after [] (map declaration_view xs) ≡ None
    → ((scope : Option (List ℕ)) (name : List ℕ) → origins scope name ≡ origin_there (map declaration_view xs) scope name)
    → origins (scope_view (get_or xs i d).scope) (get_or xs i d).name.now ≡ Some (origin_view (get_or xs i d).origin)
own_origin origins xs i d inside once are =
    let one = declaration_view (get_or xs i d) in
    are one.scope one.name
    ∙ never_before [] (map declaration_view xs) once i one (subst (λ n. i < n) (sym (length-map xs declaration_view)) inside) (get_or-map declaration_view xs i d one inside)

-- ---- what the declared names mean

both_true : (a b : Bool) → (a && b) ≡ true → (a ≡ true) × (b ≡ true)
both_true true true h = (refl, refl)
both_true true false h = absurd cc
both_true false b h = absurd cc

cond-same : {X : Type 0} (b : Bool) (x : X) → x ≡ cond b x x
cond-same true x = refl
cond-same false x = refl

-- the definition of a name, where it is declared
abbrev pub known_number : declared.Origins → List declared.Declaration → List ℕ → List ℕ → Option ℕ
known_number origins ds home name = cond (is_some (origin_there ds (Some home) name)) (definition_of origins home name) None

known-cases : {X : Type 0} (o : Option declared.Origin) (b : Bool) (p : declared.Origin) (n : Option X) → cond (is_some (option_or o (cond b (Some p) None))) n None ≡ cond b n (cond (is_some o) n None)
known-cases None true p n = refl
known-cases None false p n = refl
known-cases (Some q) true p n = refl
known-cases (Some q) false p n = refl

module _ (ms : List WrittenModule) (origins : declared.Origins) (xs : List Declaration) (i : ℕ) (d : Declaration) (inside : i < length xs)
    (own : origins (scope_view (get_or xs i d).scope) (get_or xs i d).name.now ≡ Some (origin_view (get_or xs i d).origin)) where
  abbrev pub one : declared.Declaration
  one = declaration_view (get_or xs i d)

  abbrev pub meant_here : Option ℕ
  meant_here = declared.number_of_origin origins one.name (Some one.origin)

  known_more : (home name : List ℕ) → known_number origins (map declaration_view (take (i + 1) xs)) home name
      ≡ cond (declares (Some home) name one) (definition_of origins home name) (known_number origins (map declaration_view (take i xs)) home name)
  known_more home name =
      rw (map_more declaration_view xs i d inside, origin-push (map declaration_view (take i xs)) one (Some home) name)
      (known-cases (origin_there (map declaration_view (take i xs)) (Some home) name) (declares (Some home) name one) one.origin (definition_of origins home name))

  scopes_same : (home : List ℕ) (s : Option (List ℕ)) → option_eq bytes_eq (Some home) s ≡ true → Some home ≡ s
  scopes_same home None h = absurd cc
  scopes_same home (Some x) h = ap Some ((bytes_decides home x).0 h)

  -- where it is declared, the name means what the declaration says
  means_here : (home name : List ℕ) → declares (Some home) name one ≡ true → definition_of origins home name ≡ meant_here
  means_here home name alike =
      let same = both_true (option_eq bytes_eq (Some home) one.scope) (bytes_eq name one.name) alike in
      let s : Some home ≡ one.scope = scopes_same home one.scope same.0 in
      let n : name ≡ one.name = (bytes_decides name one.name).0 same.1 in
      ap (λ x. declared.number_of_origin origins x (origins (Some home) x)) n
      ∙ ap (λ o. declared.number_of_origin origins one.name (origins o one.name)) s
      ∙ ap (declared.number_of_origin origins one.name) own

  -- a name that has no definition
  pub passes_unknown : meant_here ≡ None → (home name : List ℕ) (old : Option ℕ)
      → old ≡ known_number origins (map declaration_view (take i xs)) home name → old ≡ known_number origins (map declaration_view (take (i + 1) xs)) home name
  passes_unknown unknown home name old was =
      was ∙ sym (known_more home name ∙ keeps (declares (Some home) name one) refl)
    where
      keeps : (b : Bool) → declares (Some home) name one ≡ b
          → cond b (definition_of origins home name) (known_number origins (map declaration_view (take i xs)) home name) ≡ known_number origins (map declaration_view (take i xs)) home name
      keeps false other = refl
      keeps true alike =
          let none : definition_of origins home name ≡ None = means_here home name alike ∙ unknown in
          rw none (cond-same (is_some (origin_there (map declaration_view (take i xs)) (Some home) name)) None)

  -- a name that has one, under the key that is looked up
  pub takes_number : (numbered : HasNumber ms (get_or xs i d).scope) (key : Key) (by_name : key.name ≡ (get_or xs i d).name) (by_number : key.scope ≡ number_in (get_or xs i d).scope)
      → (n : ℕ) → meant_here ≡ Some n → (home name : List ℕ) (old new : Option ℕ)
      → old ≡ known_number origins (map declaration_view (take i xs)) home name
      → new ≡ cond (is_key ms (Some home) name key) (Some n) old
      → new ≡ known_number origins (map declaration_view (take (i + 1) xs)) home name
  takes_number numbered key by_name by_number n known home name old new was is =
      is ∙ ap (λ b. cond b (Some n) old) (key_tells ms xs i d inside numbered key by_name by_number (Some home) name)
      ∙ ap (λ o. cond (declares (Some home) name one) (Some n) o) was
      ∙ sym (known_more home name ∙ knows (declares (Some home) name one) refl)
    where
      knows : (b : Bool) → declares (Some home) name one ≡ b
          → cond b (definition_of origins home name) (known_number origins (map declaration_view (take i xs)) home name)
          ≡ cond b (Some n) (known_number origins (map declaration_view (take i xs)) home name)
      knows false other = refl
      knows true alike = means_here home name alike ∙ known

-- ---- what is looked up after an insertion

eq_either : (a b : ℕ) → nat_eq a b ≡ nat_eq b a
eq_either a b = elim (eqb_tells a b) [
  | inl h ↦ h.0 ∙ sym (ap (nat_eq b) h.1 ∙ nat_itself b)
  | inr h ↦ elim (eqb_tells b a) [
    | inl g ↦ absurd (h.1 (sym g.1))
    | inr g ↦ h.0 ∙ sym g.0
  ]
]

scope_either : (a b : Option ℕ) → option_eq nat_eq a b ≡ option_eq nat_eq b a
scope_either None None = refl
scope_either None (Some b) = refl
scope_either (Some a) None = refl
scope_either (Some a) (Some b) = eq_either a b

key_either : (k j : Key) → key_eq k j ≡ key_eq j k
key_either k j =
    ap (λ b. b && bytes_eq k.name.now j.name.now) (scope_either k.scope j.scope)
    ∙ ap (λ b. option_eq nat_eq j.scope k.scope && b) (nat_list_eq_equiv.symm k.name.now j.name.now)

lent : List ℕ → Bor (List ℕ)
lent name = record { ref_ptr = (0, 0); now = name }

pub after_insert : {X : Type 0} (ms : List WrittenModule) (home name : List ℕ) (old new : List (Key × X)) (key : Key) (x : X)
    → ((k : Key) → lookup (key_eq k) new ≡ cond (key_eq key k) (Some x) (lookup (key_eq k) old))
    → lookup (is_key ms (Some home) name) new ≡ cond (is_key ms (Some home) name key) (Some x) (lookup (is_key ms (Some home) name) old)
unfolding lent
after_insert ms home name old new key x updated = by (module_number ms home) refl
  where
    by : (number : Option ℕ) → module_number ms home ≡ number
        → lookup (is_key ms (Some home) name) new ≡ cond (is_key ms (Some home) name key) (Some x) (lookup (is_key ms (Some home) name) old)
    by None none =
        nothing_there ms home name new (sym none)
        ∙ sym (ap (λ o. cond (is_number o key.scope && bytes_eq name key.name.now) (Some x) (lookup (is_key ms (Some home) name) old)) none
        ∙ nothing_there ms home name old (sym none))
    by (Some n) at =
        let k : Key = record { scope = Some n; name = lent name } in
        let is : IsScopeOf ms (Some home) k.scope = (n, refl, at) in
        sym (lookup_key ms (Some home) k is new) ∙ updated k
        ∙ ap (λ b. cond b (Some x) (lookup (key_eq k) old)) (key_either key k ∙ key_eq-is_key ms (Some home) k key is)
        ∙ ap (λ o. cond (is_key ms (Some home) name key) (Some x) o) (lookup_key ms (Some home) k is old)

-- what names mean within a module
pub moved_within : (w : Within) (m : Meanings) (home : List ℕ) → w.meanings.now ≡ m → w.home.now ≡ home → (P : declared.Numbers → List ℕ → Type 0) → P (meaning_in w.meanings.now) w.home.now → P (meaning_in m) home
moved_within w m home first second P h = subst (λ x. P (meaning_in m) x) second (subst (λ (x : Meanings). P (meaning_in x) w.home.now) first h)

-- what isn't declared has no definition
pub known_all : (origins : declared.Origins) (ds : List declared.Declaration) → ((scope : Option (List ℕ)) (name : List ℕ) → origins scope name ≡ origin_there ds scope name)
    → (home name : List ℕ) → known_number origins ds home name ≡ definition_of origins home name
known_all origins ds are home name = by (origin_there ds (Some home) name) (are (Some home) name)
  where
    by : (o : Option declared.Origin) → origins (Some home) name ≡ o → cond (is_some o) (definition_of origins home name) None ≡ definition_of origins home name
    by None e = rw e refl
    by (Some x) e = refl
