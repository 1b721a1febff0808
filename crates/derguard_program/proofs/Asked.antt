-- Words in which nothing is wrong ask for a request.
use Rattle.std.proofs.Common.{◌≡◌, ◌∙◌, ◌&&◌, ◌||◌, ℕ, Bool, cond, true, false, not, refl, sym, List, [], ◌∷◌, codes, Option, Some, None, arith, true≢false}
use Rattle.std.specs.Prelude.{IfSome, is_some, nat_eq, option_and_then, option_map, slice_get, unwrap_or}
use Rattle.std.specs.List.{find, list_all, list_any}
use Rattle.std.specs.Option.{option_map_or}
use Rattle.std.specs.Str.{bytes_eq}
use Rattle.std.proofs.lemmas.Slice.Eq.{bytes_eq-Decides}
use Rattle.clap.specs.Walk.{Names, Row, Rule, Text, action_of, answers_to, first_of, nothing_held, rows_after, walk, walk_from}
use Rattle.clap.specs.Facts.{explicit_source, unwrap_or_range}
use Rattle.clap.specs.Takes.{is_given}
use Rattle.clap.specs.Faults.{check_fault, defaults_fault, entered_fault, fault_of, level_fault, settle_fault, walk_fault}
use Rattle.clap.specs.Kinds.{Kinds, check_kinds, or_else}
use Rattle.clap.specs.Simple.{App, Shape, argument_words, built, built_leaf, entered, help_shape, inherited, label_of, marked_built, names_of, rows_at, with_leaf_noted}
use Rattle.clap.specs.declared.builder.action.ArgAction.{ArgAction}
use Rattle.clap.specs.declared.builder.action.ArgAction.TheVariants.{Help, Set, SetTrue, Version}
use Rattle.clap.specs.declared.error.kind.ErrorKind.TheVariants as kind
use Rattle.derguard_program.specs.Requests.{AbstractRequest, check, decide, show, encode, test, compare, run, ask, mux}
use Rattle.derguard_program.specs.Words.{AreFound, IsCommand, ask_shape, check_shape, checking_at, compare_shape, comparing_at, decide_shape, decision_at, encode_shape, encoding_at, flag_of, mux_shape, run_shape, show_shape, showing_at, test_shape, the_app, trial_at, value_of}
use Rattle.derguard_program.proofs.Filled.{AllFill, Filled, Fills, IsFilled, NotHelp, both_none, finished_filled, flag_fills, set_fills, some_kind, still_fills, walk_keeps}

-- ---- what is required has a value

head_of : (vs : List Text) → IsFilled vs → slice_get vs 0 ≡ Some (unwrap_or (slice_get vs 0) [])
head_of [] h = absurd h
head_of (v ∷ vs) h = refl

found_filled : (p : Row → Bool) (rows : List Row) → Filled rows → IfSome (find p rows) (λ r. IsFilled r.values)
found_filled p [] h = tt
found_filled p (r ∷ rs) h = go (p r) (found_filled p rs h.1)
  where
    go : (b : Bool) → IfSome (find p rs) (λ r. IsFilled r.values) → IfSome (cond b (Some r) (find p rs)) (λ r. IsFilled r.values)
    go true rest = h.0
    go false rest = rest

given_value : (id : Text) (rows : List Row) → Filled rows → is_given id rows ≡ true → first_of id rows ≡ Some (value_of id rows)
given_value id rows h given = go (find (λ r. bytes_eq r.id id) rows) (found_filled (λ r. bytes_eq r.id id) rows h) given
  where
    go : (o : Option Row) → IfSome o (λ r. IsFilled r.values) → option_map_or (λ r. explicit_source r.source) o false ≡ true
        → option_and_then (λ r. slice_get r.values 0) o ≡ Some (unwrap_or (option_and_then (λ r. slice_get r.values 0) o) [])
    go None filled e = absurd (true≢false (sym e))
    go (Some r) filled e = head_of r.values filled

AllThere : List Rule → List Row → Type 0
AllThere [] rows = Unit {0}
AllThere (a ∷ c) rows = (a.required ≡ true → first_of a.id rows ≡ Some (value_of a.id rows)) × AllThere c rows

all_there : (c : List Rule) (rows : List Row) → Filled rows → list_any (λ a. a.required && not (is_given a.id rows)) c ≡ false → AllThere c rows
unfolding AllThere
all_there [] rows filled e = tt
all_there (a ∷ c) rows filled e =
    let parts = go a.required (is_given a.id rows) (list_any (λ a. a.required && not (is_given a.id rows)) c) e in
    (λ is. given_value a.id rows filled (parts.0 is), all_there c rows filled parts.1)
  where
    go : (required given others : Bool) → (required && not given || others) ≡ false → (required ≡ true → given ≡ true) × (others ≡ false)
    go true true others e = (λ _. refl, e)
    go true false others e = absurd (true≢false e)
    go false given others e = (λ is. absurd (true≢false (sym is)), e)

none_missing : (wants_help wants_command negates missing : Bool) → check_kinds wants_help wants_command (not (negates && false) && missing) ≡ [] → missing ≡ false
none_missing true wants_command negates missing e = absurd (some_kind _ _ e)
none_missing false true negates missing e = absurd (some_kind _ _ e)
none_missing false false true true e = absurd (some_kind _ _ e)
none_missing false false false true e = absurd (some_kind _ _ e)
none_missing false false negates false e = refl

module _ (s : Shape) (names : Names) (words : List Text) (has : Bool) (below : Kinds) (e : level_fault s names nothing_held words has below ≡ []) where
  walk_none : walk_fault s names (walk_from nothing_held) words ≡ []
  walk_none = (both_none _ _ e).0

  below_none : below ≡ []
  below_none = (both_none _ _ (both_none (walk_fault s names (walk_from nothing_held) words) _ e).1).0

  after_walk : or_else (settle_fault s.rules s.args_override_self (walk s.rules names nothing_held words).held)
      (or_else (defaults_fault (Rattle.clap.specs.Walk.settled s.rules (walk s.rules names nothing_held words).held).rows s.rules)
      (check_fault s (rows_after s.rules names words) has)) ≡ []
  after_walk = (both_none below _ (both_none (walk_fault s names (walk_from nothing_held) words) _ e).1).1

  check_none : check_fault s (rows_after s.rules names words) has ≡ []
  check_none = (both_none _ _ (both_none (settle_fault s.rules s.args_override_self (walk s.rules names nothing_held words).held) _ after_walk).1).1

  rows_filled : AllFill s.rules → Filled (rows_after s.rules names words)
  rows_filled fill =
      finished_filled s names fill (walk s.rules names nothing_held words).held (both_none _ _ after_walk).0
      (walk_keeps s names fill words (walk_from nothing_held) walk_none (tt, tt)).0

-- ---- the commands of the program, as they are built

abbrev ready : App
ready = built the_app

abbrev ready_leaf : Shape → Shape
ready_leaf s = built_leaf (inherited (with_leaf_noted (marked_built the_app.top)) s)

-- a use of an argument with such an action leaves a value
abbrev leaves_value : ArgAction → List Text → ℕ → Bool
leaves_value Set missing least = nat_eq least 1
leaves_value SetTrue (v ∷ []) least = true
leaves_value Help missing least = true
leaves_value Version missing least = true
leaves_value action missing least = false

fills_by : (a : Rule) (action : ArgAction) (missing : List Text) (least : ℕ) → action_of a ≡ action → a.missing ≡ missing
    → (unwrap_or_range a.range).start_inclusive ≡ least → leaves_value action missing least ≡ true → Fills a
fills_by a Set missing least acts none few e = set_fills a acts (few ∙ grind (arith, e))
fills_by a SetTrue (v ∷ []) least acts none few e = flag_fills a acts v none
fills_by a Help missing least acts none few e = still_fills a Help acts (λ values rows. refl)
fills_by a Version missing least acts none few e = still_fills a Version acts (λ values rows. refl)
fills_by a action missing least acts none few e = absurd (true≢false (sym e))

both_true : (a b : Bool) → (a && b) ≡ true → (a ≡ true) × (b ≡ true)
both_true true b e = (refl, e)
both_true false b e = absurd (true≢false (sym e))

abbrev leave_values : List Rule → Bool
leave_values c = list_all (λ a. leaves_value (action_of a) a.missing (unwrap_or_range a.range).start_inclusive) c

all_fill : (c : List Rule) → leave_values c ≡ true → AllFill c
all_fill [] e = tt
all_fill (a ∷ c) e =
    let parts = both_true _ _ e in
    (fills_by a _ _ _ refl refl refl parts.0, all_fill c parts.1)

-- a command with these values asks for a request
abbrev Requests : Text → List Row → Type 0
Requests name rows = (request : AbstractRequest) × IsCommand name rows request

-- ---- the command that the words name

abbrev Enters : Text × List Text → Option Shape → Type 0
Enters p found =
    (request : AbstractRequest) × (name : Text) × (rows : List Row) × (option_map (λ s. rows_at s p.1) found ≡ Some (name, rows)) × IsCommand name rows request

as_entered : (p : Text × List Text) (s : Shape) → Requests s.name (rows_after s.rules [] p.1) → Enters p (Some s)
as_entered p s h = (h.0, s.name, rows_after s.rules [] p.1, refl, h.1)

not_help_met : (name : Text) → bytes_eq name (codes "help") ≡ false → (bytes_eq (codes "help") name || false) ≡ true → ⊥
not_help_met name another met = go (bytes_eq (codes "help") name) refl met
  where
    go : (b : Bool) → bytes_eq (codes "help") name ≡ b → (b || false) ≡ true → ⊥
    go true e is =
        let same : codes "help" ≡ name = (bytes_eq-Decides (codes "help") name).0 e in
        true≢false (sym ((bytes_eq-Decides name (codes "help")).1 (sym same)) ∙ another)
    go false e is = true≢false (sym is)

-- a command is picked by the first of these names that the word is
module _ (p : Text × List Text) where
  Picks : Option Shape → Type 0
  Picks found =
      option_map_or (λ s. level_fault s [] nothing_held p.1 false []) found [] ≡ [] → is_some (option_map (λ s. rows_at s p.1) found) ≡ true → Enters p found

  or_next : (is : Bool) (s : Shape) (rest : Option Shape) → leave_values s.rules ≡ true → ((rows : List Row) → AllThere s.rules rows → Requests s.name rows) → Picks rest
      → Picks (cond is (Some s) rest)
  unfolding Picks
  or_next true s rest fill asks more e there = as_entered p s (asks _ (all_there s.rules _ (rows_filled s [] p.1 false [] e (all_fill s.rules fill)) (none_missing _ _ _ _ (check_none s [] p.1 false [] e))))
  or_next false s rest fill asks more e there = more e there

  no_help : (is : Bool) → (is ≡ true → ⊥) → Picks (cond is (Some (built_leaf help_shape)) None)
  unfolding Picks
  no_help true another e there = absurd (another refl)
  no_help false another e there = absurd (true≢false (sym there))

entered_asks : (stop : Option (Text × List Text)) → NotHelp false stop → entered_fault ready stop ≡ [] → is_some (entered ready stop) ≡ true
    → (request : AbstractRequest) × (name : Text) × (rows : List Row) × (entered ready stop ≡ Some (name, rows)) × IsCommand name rows request
unfolding Picks AllThere
entered_asks None another e there = absurd (true≢false (sym there))
entered_asks (Some p) another e there =
    let is : Shape → Bool = λ s. answers_to p.0 (label_of (ready_leaf s)) in
    or_next p (is check_shape) (ready_leaf check_shape) _ refl (λ rows h. (check (checking_at rows), (refl, h.0 refl, refl)))
    (or_next p (is decide_shape) (ready_leaf decide_shape) _ refl (λ rows h. (decide (decision_at rows), (refl, h.0 refl, refl)))
    (or_next p (is show_shape) (ready_leaf show_shape) _ refl (λ rows h. (show (showing_at rows), (refl, h.0 refl, refl)))
    (or_next p (is encode_shape) (ready_leaf encode_shape) _ refl (λ rows h. (encode (encoding_at rows), (refl, h.0 refl, h.1.0 refl, refl)))
    (or_next p (is test_shape) (ready_leaf test_shape) _ refl (λ rows h. (test (trial_at rows), (refl, h.0 refl, refl)))
    (or_next p (is compare_shape) (ready_leaf compare_shape) _ refl (λ rows h. (compare (comparing_at rows), (refl, h.0 refl, h.1.0 refl, refl)))
    (or_next p (is run_shape) (ready_leaf run_shape) _ refl (λ rows h. (run (value_of (codes "policy") rows) (flag_of (codes "verbose") rows) (first_of (codes "counts") rows), (refl, h.0 refl, refl, refl)))
    (or_next p (is ask_shape) (ready_leaf ask_shape) _ refl (λ rows h. (ask (value_of (codes "policy") rows), (refl, h.0 refl)))
    (or_next p (is mux_shape) (ready_leaf mux_shape) _ refl (λ rows h. (mux (value_of (codes "policy") rows) (flag_of (codes "verbose") rows) (first_of (codes "counts") rows), (refl, h.0 refl, refl, refl)))
    (no_help p (answers_to p.0 (label_of (built_leaf help_shape))) (not_help_met p.0 (another refl))))))))))) e there

command_there : (b : Bool) (others : Kinds)
    → ◌≡◌ {A = Kinds} (cond (not b && false) (kind.DisplayHelpOnMissingArgumentOrSubcommand ∷ []) (cond (not b && true) (kind.MissingSubcommand ∷ []) others)) [] → b ≡ true
command_there true others e = refl
command_there false others e = absurd (some_kind _ _ e)

pub asked : (words : List Text) → fault_of the_app words ≡ [] → (request : AbstractRequest) × (json : Bool) × AreFound words request json
asked words e =
    let given = argument_words the_app words in
    let stop = (walk ready.top.rules (names_of ready) nothing_held given).stopped in
    let has = is_some (entered ready stop) in
    let below = entered_fault ready stop in
    let past = (walk_keeps ready.top (names_of ready) (all_fill ready.top.rules refl) given (walk_from nothing_held) (walk_none ready.top (names_of ready) given has below e) (tt, tt)).1 in
    let found = entered_asks stop past (below_none ready.top (names_of ready) given has below e) (command_there has _ (check_none ready.top (names_of ready) given has below e)) in
    (found.0, flag_of (codes "json") found.2, (e, (found.1, found.2, found.3, found.4, refl)))
