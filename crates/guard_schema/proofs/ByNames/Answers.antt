-- What texts denote, put together from its steps; and what the public clauses say of one answer.
use Rattle.std.proofs.Common.{◌≡◌, ◌<◌, ◌-◌, ℕ, zero, suc, List, [], ◌∷◌, Option, Some, None, Result, Ok, Err, Bor}
use Rattle.std.specs.declared.sync.Arc.{Arc}
use Rattle.std.proofs.Common.{MatchOption, inl, inr, ◌≤◌, length, option_map, slice_get, map, refl, sym, ap, subst, ◌∙◌}
use Rattle.std.proofs.Common.{IsTrue, arith}
use Rattle.std.specs.Prelude.{IfOk, IfErr, IfSome, All, IsUtf8, option_and_then}
use Rattle.std.specs.Global.{Global, Vec}
use Rattle.std.specs.List.{HoldsAt}
use Rattle.std.proofs.lemmas.Option.{slice_get_past, slice_get_read}
use Rattle.std.proofs.lemmas.Bool.Decides.{nat_tests}
use Rattle.std.proofs.lemmas.List.{length-map}
use Rattle.guard_der.specs.Sound.{is_sound}
use Rattle.guard_model.specs.Answer.{Gives, Refuses}
use Rattle.guard_model.specs.TypeView.{shared_type_view}
use Rattle.guard_model.specs.declared.ty.Ty.{Ty}
use Rattle.guard_syntax.specs.Trees.{WrittenModule}
use Rattle.guard_names.specs.declared.fault.NameFault.{NameFault}
use Rattle.guard_names.specs.declared.names.Names.{Names}
use Rattle.guard_names.specs.Declarations.{definitions}
use Rattle.guard_names.specs.Faults as names
use Rattle.guard_names.specs.Meanings.{Uses}
use Rattle.guard_names.specs.NamesView.{modules_of, order_of}
use Rattle.guard_names.specs.Order.{IsOrder}
use Rattle.guard_syntax.specs.ModuleViews.{module_view}
use Rattle.guard_syntax.specs.declared.tree.Module.{Module}
use Rattle.guard_tagging.specs.Spelled.{IsSpelledModule}
use Rattle.guard_values.specs.declared.scope.Known as code
use Rattle.guard_schema.specs.declared.progress.Progress.{Progress}
use Rattle.guard_schema.specs.declared.fault.SchemaFault.{SchemaFault}
use Rattle.guard_schema.specs.declared.schema.Schema.{Schema}
use Rattle.guard_schema.specs.Accepts.{OrdersNames, ReadsModules, KnowsModules, Denotes, Accepts, IsRefused}
use Rattle.guard_schema.specs.Building.{BuildsAll}
use Rattle.guard_schema.specs.Faults.{AbstractFault, Name, named}
use Rattle.guard_schema.specs.Known.{Built, Known, none_known}
use Rattle.guard_schema.specs.Outcomes.{RefusesBy, Answers}
use Rattle.guard_schema.specs.OneAnswer.{IsDecided}
use Rattle.guard_schema.specs.Schemas.{AbstractSchema, schema_of, module_named}
use Rattle.guard_schema.specs.Texts.{ReadsTexts, CountsTexts, AreOfTexts}
use Rattle.guard_schema.specs.Views.{schema_view, place_in, built_in, known_view}
use Rattle.guard_schema.specs.Pairs.{paired}
use Rattle.guard_schema.proofs.Built.Visible.{all_at}
use Rattle.guard_schema.proofs.Modules.Texts.{few_modules}

-- ---- the modules of texts

module _ (texts : List (List ℕ)) where
  pub count_refused : (f : Option AbstractFault) → RefusesBy f (CountsTexts texts) → RefusesBy f (ReadsModules texts)
  count_refused None h = tt
  count_refused (Some f) h = inr (f, h, refl)

  module _ (counted : CountsTexts texts (Ok tt)) where
    texts_refused : (f : Option AbstractFault) → RefusesBy f (ReadsTexts [] texts) → RefusesBy f (ReadsModules texts)
    texts_refused None h = tt
    texts_refused (Some f) h = inl (tt, counted, h)

    pub modules_answered : (result : Result (Vec Module) SchemaFault)
        → Answers (λ (v : Vec Module). map module_view v.items) named result (ReadsTexts [] texts)
        → Answers (λ (v : Vec Module). map module_view v.items) named result (ReadsModules texts)
    modules_answered (Ok v) h = inl (tt, counted, h)
    modules_answered (Err e) h = texts_refused (named e) h

    pub modules_kept : (result : Result (Vec Module) SchemaFault)
        → Answers (λ (v : Vec Module). map module_view v.items) named result (ReadsTexts [] texts)
        → IfOk result (λ v. All IsSpelledModule (map module_view v.items))
        → IfOk result (λ v. All (λ m. IsUtf8 m.name) (map module_view v.items))
        → IfOk result (λ v. AreOfTexts (map module_view v.items))
    modules_kept (Ok v) read spelled text = record {
      few = few_modules texts counted (map module_view v.items) read;
      named = text;
      spelled = spelled;
    }
    modules_kept (Err e) read spelled text = tt

-- ---- what is known of modules

module _ (ms : List WrittenModule) where
  pub names_refused : (f : Option AbstractFault) → RefusesBy f (OrdersNames ms) → RefusesBy f (KnowsModules ms)
  names_refused None h = tt
  names_refused (Some f) h = inr (f, h, refl)

  module _ (order : List ℕ) (ordered : OrdersNames ms (Ok order)) where
    building_refused : (f : Option AbstractFault) → RefusesBy f (BuildsAll (none_known ms order) order)
        → RefusesBy f (KnowsModules ms)
    building_refused None h = tt
    building_refused (Some f) h = inl (order, ordered, inr (f, h, refl))

    all_known : (built : List Built) (k : Known) → BuildsAll (none_known ms order) order (Ok built)
        → k ≡ record { modules = ms; order = order; built = built } → KnowsModules ms (Ok k)
    all_known built k h e = inl (order, ordered, inl (built, h, ap Ok e))

-- ---- what texts denote

module _ (texts : List (List ℕ)) where
  pub modules_refused : (f : Option AbstractFault) → RefusesBy f (ReadsModules texts) → RefusesBy f (Denotes texts)
  modules_refused None h = tt
  modules_refused (Some f) h = inr (f, inr (f, h, refl), refl)

  module _ (ms : List WrittenModule) (read : ReadsModules texts (Ok ms)) where
    pub known_refused : (f : Option AbstractFault) → RefusesBy f (KnowsModules ms) → RefusesBy f (Denotes texts)
    known_refused None h = tt
    known_refused (Some f) h = inr (f, inl (ms, read, h), refl)

    pub whole : (k : Known) (s : AbstractSchema) → KnowsModules ms (Ok k) → s ≡ schema_of k → Denotes texts (Ok s)
    whole k s h e = inl (k, inl (ms, read, h), ap Ok e)

  -- ---- one answer

  pub accepted : (result : Result Schema SchemaFault) → Answers schema_view named result (Denotes texts)
      → IfOk result (λ s. Accepts texts (schema_view s))
  accepted (Ok s) h = h
  accepted (Err e) h = tt

  pub refused_by : (f : Option AbstractFault) → RefusesBy f (Denotes texts) → IfSome f (IsRefused texts)
  refused_by None h = tt
  refused_by (Some f) h = h

  pub refused : (result : Result Schema SchemaFault) → Answers schema_view named result (Denotes texts)
      → IfErr result (λ e. IfSome (named e) (IsRefused texts))
  refused (Ok s) h = tt
  refused (Err e) h = refused_by (named e) h

  module _ (decided : IsDecided (Denotes texts)) (s : AbstractSchema) (accepts : Accepts texts s) where
    never : (f : Option AbstractFault) → RefusesBy f (Denotes texts) → Refuses {Y = AbstractSchema} f (Ok s)
    never None h = tt
    never (Some f) h = absurd (decided.alone s f accepts h)

    pub only : (result : Result Schema SchemaFault) → Answers schema_view named result (Denotes texts)
        → Gives schema_view named result (Ok s)
    only (Ok x) h = ap Ok (decided.one s (schema_view x) accepts h)
    only (Err e) h = never (named e) h

-- ---- names

name_fault : (ms : List WrittenModule) (o : Option NameFault) → IfSome o (names.IsFirstFault ms)
    → RefusesBy (option_map Name o) (OrdersNames ms)
name_fault ms None h = tt
name_fault ms (Some f) h = h

pub names_fault : (ms : List WrittenModule) (f : NameFault) (y : Option AbstractFault)
    → y ≡ option_map Name (names.named f) → IfSome (names.named f) (names.IsFirstFault ms)
    → RefusesBy y (OrdersNames ms)
names_fault ms f y is h = subst (λ o. RefusesBy o (OrdersNames ms)) (sym is) (name_fault ms (names.named f) h)

-- ---- its types are sound

sound_there : (ts : List (Arc Ty Global)) (t : Option (Arc Ty Global)) → ((u : Arc Ty Global) → t ≡ Some u → IsTrue (is_sound (shared_type_view u)))
    → IfSome (option_map shared_type_view t) (λ u. IsTrue (is_sound u))
sound_there ts None h = tt
sound_there ts (Some t) h = h t refl

pub types_sound : (ts : List (Arc Ty Global)) → All (λ t. IsTrue (is_sound (shared_type_view t))) ts → (o : Option ℕ)
    → IfSome (option_map shared_type_view (option_and_then (slice_get ts) o)) (λ u. IsTrue (is_sound u))
types_sound ts h None = tt
types_sound ts h (Some p) = sound_there ts (slice_get ts p)
    (λ u e. all_at (λ (t : Arc Ty Global). IsTrue (is_sound (shared_type_view t))) ts p u h e)

pub sound : (result : Result Schema SchemaFault)
    → IfOk result (λ s. (home name : List ℕ) → IfSome ((schema_view s).types home name) (λ t. IsTrue (is_sound t)))
sound (Ok s) = λ home name. types_sound s.known.types.items s.sound (place_in s.index home name)
sound (Err e) = tt

-- ---- from the texts to the schema

abbrev contents : Bor (List ℕ) → List ℕ
contents t = t.now

pub few_texts : (ts : List (Bor (List ℕ))) → CountsTexts (map contents ts) (Ok tt) → length ts ≤ 64
few_texts ts h =
    let few : length (map contents ts) ≤ 64 = grind (arith, nat_tests) in
    omega (arith, few, length-map ts contents)

module _ (ms : List WrittenModule) (n : Names) (same : modules_of n ≡ ms) (faultless : names.AreFaultless ms) where
  ordered : OrdersNames ms (Ok (order_of n))
  ordered = (
    faultless,
    subst (λ (xs : List WrittenModule). IsOrder (length (definitions xs)) (Uses xs) (order_of n)) same n.ordered,
  )

  pub progress_refused : (f : Option AbstractFault)
      → RefusesBy f (BuildsAll (none_known (modules_of n) (order_of n)) (order_of n)) → RefusesBy f (KnowsModules ms)
  progress_refused f h = building_refused ms (order_of n) ordered f
      (subst (λ (xs : List WrittenModule). RefusesBy f (BuildsAll (none_known xs (order_of n)) (order_of n))) same h)

  -- what is kept is what was built
  kept_so : (p : Progress) (s : Schema) → s.known ≡ p.known
      → ◌≡◌ {A = Known} (record {
        modules = modules_of n;
        order = order_of n;
        built = paired s.known.types.items s.known.values.items;
      }) (record { modules = ms; order = order_of n; built = built_in p })
  kept_so p s kept =
      ap (λ (k : code.Known). record {
        modules = modules_of n;
        order = order_of n;
        built = paired k.types.items k.values.items;
      }) kept
      ∙ ap (λ (xs : List WrittenModule). record { modules = xs; order = order_of n; built = built_in p }) same

  pub known_whole : (p : Progress)
      → BuildsAll (none_known (modules_of n) (order_of n)) (order_of n) (Ok (built_in p))
      → (s : Schema) → s.known ≡ p.known
      → KnowsModules ms (Ok (record {
        modules = modules_of n;
        order = order_of n;
        built = paired s.known.types.items s.known.values.items;
      }))
  known_whole p h s kept =
      all_known ms (order_of n) ordered (built_in p) (record {
        modules = modules_of n;
        order = order_of n;
        built = paired s.known.types.items s.known.values.items;
      })
      (subst (λ (xs : List WrittenModule). BuildsAll (none_known xs (order_of n)) (order_of n) (Ok (built_in p))) same
      h) (kept_so p s kept)

-- its types are those that are known
pub schema_known : (p : Progress) (n : Names) → p.names.now ≡ n → (s : Schema) → s.known ≡ p.known
    → schema_view s ≡ schema_of (known_view p)
    → schema_view s ≡ schema_of (record {
      modules = modules_of n;
      order = order_of n;
      built = paired s.known.types.items s.known.values.items;
    })
schema_known p n is s kept e =
    e ∙ ap (λ (m : Names). schema_of (record { modules = modules_of m; order = order_of m; built = built_in p })) is
    ∙ ap (λ (k : code.Known). schema_of (record {
      modules = modules_of n;
      order = order_of n;
      built = paired k.types.items k.values.items;
    })) (sym kept)

-- ---- names of modules by their places

pub named_before : (s : AbstractSchema) (text : ℕ) → 0 < text → module_named s text ≡ slice_get s.modules (text - 1)
named_before s zero h = absurd (omega (arith, h))
named_before s (suc text) h = let e : text ≡ suc text - 1 = omega arith in ap (slice_get s.modules) e

seen_there : {X : Type 0} (f : X → List ℕ) (names : List X) (i : ℕ) (x : X) → slice_get names i ≡ Some x
    → slice_get (map f names) i ≡ Some (f x)
seen_there f [] i x e = absurd cc
seen_there f (n ∷ names) zero x e = ap (option_map f) e
seen_there f (n ∷ names) (suc i) x e = seen_there f names i x e

got_seen : {X : Type 0} (f : X → List ℕ) (found : Option (Bor X)) (names : List X) (i : ℕ)
    → MatchOption found (length names ≤ i) (λ t. (i < length names) × HoldsAt (λ d. t.now ≡ d) names i)
    → option_map (λ t. f t.now) found ≡ slice_get (map f names) i
got_seen f None names i h = sym (slice_get_past (map f names) i (omega (arith, h, length-map names f)))
got_seen f (Some t) names i h = sym (seen_there f names i t.now
    (slice_get_read names (length names) i t.now refl h.0 (h.1 t.now)))

module _ {X : Type 0} (f : X → List ℕ) (found : Option (Bor X)) (names : List X) (i : ℕ)
    (h : MatchOption found (length names ≤ i) (λ t. (i < length names) × HoldsAt (λ d. t.now ≡ d) names i)) where
  pub name_there : (n : Bor X) → found ≡ Some n → Some (f n.now) ≡ slice_get (map f names) i
  name_there n is = ap (option_map (λ (t : Bor X). f t.now)) (sym is) ∙ got_seen f found names i h

  pub name_nowhere : found ≡ None → None ≡ slice_get (map f names) i
  name_nowhere is = ap (option_map (λ (t : Bor X). f t.now)) (sym is) ∙ got_seen f found names i h
