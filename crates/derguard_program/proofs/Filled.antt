-- Where a command finds nothing wrong with its words, each row has a value, and they stop at no word `help`.
use Rattle.std.proofs.Common.{◌≡◌, ◌++◌, ◌&&◌, ℕ, Bool, cond, true, false, not, zero, suc, refl, sym, ap, subst, List, [], ◌∷◌, codes, length, drop, Option, Some, None, true≢false}
use Rattle.std.specs.Prelude.{IfSome, slice_get, is_some, encode_utf8}
use Rattle.std.specs.List.{find, fold}
use Rattle.std.specs.Option.{option_map_or}
use Rattle.std.specs.Str.{bytes_eq, chars}
use Rattle.clap.specs.Walk
use Rattle.clap.specs.Walk.{Held, Names, Outcome, Row, Rule, Step, Text, Waiting, Walk, action_of, after_flag, after_step, arg_by_id, arg_by_index, arg_by_long, arg_by_short, at_row, attached_value, bundle, bundle_met, bundle_step, default_rows, done, finished, flag_met, has_row, idle, is_pending, long_met, long_or_other, more_values, most_values, next, option, option_met, plain, plain_word, positional, pushed, reacted, reading_by, refused, settled, settled_rows, short_met, short_or_plain, subcommand, subcommand_met, subcommand_or_other, takes_several, takes_values, to_positional, trailing, used, used_as, value, values_or_missing, waits, walked, walked_from, with_default, with_values, without, word_met}
use Rattle.clap.specs.Lexer.{long_of, short_of}
use Rattle.clap.specs.Facts.{unwrap_or_range}
use Rattle.clap.specs.Faults.{bundle_fault, bundle_step_fault, flag_word_fault, flags_fault, long_fault, option_fault, other_fault, positional_fault, react_fault, settle_fault, short_fault, step_fault, stray_fault, turn_fault, use_fault, walk_fault, word_fault}
use Rattle.clap.specs.Kinds.{Kinds, or_else, range_kinds}
use Rattle.clap.specs.Simple.{Shape}
use Rattle.clap.specs.declared.builder.action.ArgAction.{ArgAction}
use Rattle.clap.specs.declared.builder.action.ArgAction.TheVariants.{Set, SetTrue}
use Rattle.clap.specs.declared.builder.value_parser.Reading.{Reading}
use Rattle.clap.specs.declared.error.kind.ErrorKind.{ErrorKind}
use Rattle.clap.specs.declared.error.kind.ErrorKind.TheVariants as kind
use Rattle.clap.specs.declared.parser.matches.ValueSource.{ValueSource}
use Rattle.clap.specs.declared.parser.matches.ValueSource.TheVariants.{DefaultValue, CommandLine}

-- ---- lists of kinds

abbrev none_there : Kinds → Bool
none_there [] = true
none_there (k ∷ ks) = false

pub some_kind : (k : ErrorKind) (ks : Kinds) → ◌≡◌ {A = Kinds} (k ∷ ks) [] → ⊥
some_kind k ks e = true≢false (sym (ap none_there e))

pub both_none : (a b : Kinds) → or_else a b ≡ [] → (a ≡ []) × (b ≡ [])
both_none [] b e = (refl, e)
both_none (k ∷ ks) b e = absurd (some_kind k ks e)

-- ---- rows

abbrev pub IsFilled : List Text → Type 0
IsFilled [] = ⊥
IsFilled (v ∷ vs) = Unit {0}

abbrev pub Filled : List Row → Type 0
Filled [] = Unit {0}
Filled (r ∷ rs) = IsFilled r.values × Filled rs

filled_more : (vs ws : List Text) → IsFilled vs → IsFilled (vs ++ ws)
filled_more [] ws h = absurd h
filled_more (v ∷ vs) ws h = tt

filled_both : (xs ys : List Row) → Filled xs → Filled ys → Filled (xs ++ ys)
filled_both [] ys h more = more
filled_both (x ∷ xs) ys h more = (h.0, filled_both xs ys h.1 more)

filled_at : (id : Text) (change : Row → List Row) (missing : List Row) → ((r : Row) → IsFilled r.values → Filled (change r)) → Filled missing
    → (rows : List Row) → Filled rows → Filled (at_row id change missing rows)
filled_at id change missing changed more [] h = more
filled_at id change missing changed more (r ∷ rs) h = go (bytes_eq r.id id) (filled_at id change missing changed more rs h.1)
  where
    go : (b : Bool) → Filled (at_row id change missing rs) → Filled (cond b (change r ++ rs) (r ∷ at_row id change missing rs))
    go true rest = filled_both (change r) rs (changed r h.0) h.1
    go false rest = (h.0, rest)

filled_without : (id : Text) (rows : List Row) → Filled rows → Filled (without id rows)
filled_without id rows h = filled_at id (λ _. []) [] (λ r is. tt) tt rows h

filled_with : (id : Text) (how : Reading) (s : ValueSource) (v : Text) (vs : List Text) (rows : List Row) → Filled rows → Filled (with_values id how s (v ∷ vs) rows)
filled_with id how s v vs rows h =
    filled_at id (more_values s (v ∷ vs)) (record { id = id; values = v ∷ vs; count = None; source = Some s; reading = how } ∷ [])
    (λ r is. (filled_more r.values (v ∷ vs) is, tt)) (tt, tt) rows h

filled_default : (rows : List Row) (a : Rule) → Filled rows → Filled (with_default rows a)
filled_default rows a h = go (has_row a.id rows) a.defaults
  where
    go : (b : Bool) (vs : List Text) → Filled (cond b rows (default_rows a.id (reading_by a) vs rows))
    go true vs = h
    go false [] = h
    go false (v ∷ vs) = filled_with a.id (reading_by a) DefaultValue v vs rows h

filled_defaults : (c : List Rule) (rows : List Row) → Filled rows → Filled (fold with_default rows c)
filled_defaults [] rows h = h
filled_defaults (a ∷ c) rows h = filled_defaults c (with_default rows a) (filled_default rows a h)

-- ---- what a word and a walk leave

-- where the subcommand `help` isn't disabled, this is another one
abbrev IsNoHelp : Bool → Text → Type 0
IsNoHelp disabled name = disabled ≡ false → bytes_eq name (codes "help") ≡ false

abbrev PassesHelp : Bool → Step → Type 0
PassesHelp disabled (next waiting) = Unit {0}
PassesHelp disabled (trailing position) = Unit {0}
PassesHelp disabled (subcommand name) = IsNoHelp disabled name
PassesHelp disabled value = Unit {0}

abbrev pub NotHelp : Bool → Option (Text × List Text) → Type 0
NotHelp disabled stopped = IfSome stopped (λ p. IsNoHelp disabled p.0)

abbrev Passes : Bool → Held × Step → Type 0
Passes disabled met = Filled met.0.rows × PassesHelp disabled met.1

abbrev pub Keeps : Bool → Walk → Type 0
Keeps disabled w = Filled w.held.rows × NotHelp disabled w.stopped

-- ---- arguments

-- a use of the argument leaves each row with a value
abbrev pub Fills : Rule → Type 0
Fills a = (again : Bool) (values : List Text) (rows : List Row) → use_fault again a values rows ≡ [] → Filled rows → Filled (used a values rows)

abbrev pub AllFill : List Rule → Type 0
AllFill [] = Unit {0}
AllFill (a ∷ c) = Fills a × AllFill c

-- one value and no other number
pub set_fills : (a : Rule) → action_of a ≡ Set → (unwrap_or_range a.range).start_inclusive ≡ 1 → Fills a
set_fills a set least again [] rows e h = absurd (some_kind kind.InvalidValue [] (none_given least (both_none _ _ e).0))
  where
    none_given : {n : ℕ} → n ≡ 1 → range_kinds n (most_values a) 0 ≡ [] → ◌≡◌ {A = Kinds} (kind.InvalidValue ∷ []) []
    none_given {n} one e = subst (λ (k : ℕ). range_kinds k (most_values a) 0 ≡ []) one e
set_fills a set least again (v ∷ vs) rows e h =
    subst (λ (x : ArgAction). Filled (used_as x a.id (reading_by a) (v ∷ vs) rows)) (sym set)
    (filled_with a.id (reading_by a) CommandLine v vs (without a.id rows) (filled_without a.id rows h))

-- no value, in whose place this one comes
pub flag_fills : (a : Rule) → action_of a ≡ SetTrue → (v : Text) → a.missing ≡ v ∷ [] → Fills a
flag_fills a set w missing again [] rows e h =
    subst (λ (x : ArgAction). Filled (used_as x a.id (reading_by a) a.missing rows)) (sym set)
    (subst (λ (ws : List Text). Filled (with_values a.id (reading_by a) CommandLine ws (without a.id rows))) (sym missing)
    (filled_with a.id (reading_by a) CommandLine w [] (without a.id rows) (filled_without a.id rows h)))
flag_fills a set w missing again (v ∷ vs) rows e h =
    subst (λ (x : ArgAction). Filled (used_as x a.id (reading_by a) (v ∷ vs) rows)) (sym set)
    (filled_with a.id (reading_by a) CommandLine v vs (without a.id rows) (filled_without a.id rows h))

-- an action that leaves the rows as they are
pub still_fills : (a : Rule) (action : ArgAction) → action_of a ≡ action
    → ((values : List Text) (rows : List Row) → used_as action a.id (reading_by a) values rows ≡ rows) → Fills a
still_fills a action is still again values rows e h =
    subst (λ (x : ArgAction). Filled (used_as x a.id (reading_by a) (values_or_missing a values) rows)) (sym is)
    (subst Filled (sym (still (values_or_missing a values) rows)) h)

found_fills : (p : Rule → Bool) (c : List Rule) → AllFill c → IfSome (find p c) Fills
found_fills p [] h = tt
found_fills p (a ∷ c) h = go (p a) (found_fills p c h.1)
  where
    go : (b : Bool) → IfSome (find p c) Fills → IfSome (cond b (Some a) (find p c)) Fills
    go true rest = h.0
    go false rest = rest

module _ (c : List Rule) (again : Bool) (fill : AllFill c) where
  used_filled : (found : Option Rule) → IfSome found Fills → (values : List Text) (rows : List Row)
      → option_map_or (λ a. use_fault again a values rows) found [] ≡ [] → Filled rows → Filled (Rattle.clap.specs.Walk.used_by_id found values rows)
  used_filled None fills values rows e h = h
  used_filled (Some a) fills values rows e h = fills again values rows e h

  pending_filled : (p : Option (Text × List Text)) (rows : List Row)
      → option_map_or (λ q. option_map_or (λ a. use_fault again a q.1 rows) (arg_by_id c q.0) []) p [] ≡ [] → Filled rows → Filled (settled_rows c p rows)
  pending_filled None rows e h = h
  pending_filled (Some q) rows e h = used_filled (arg_by_id c q.0) (found_fills (λ a. bytes_eq a.id q.0) c fill) q.1 rows e h

  settled_filled : (h : Held) → settle_fault c again h ≡ [] → Filled h.rows → Filled (settled c h).rows
  settled_filled h e rows = pending_filled h.pending h.rows e rows

  reacted_filled : (a : Rule) → Fills a → (values : List Text) (h : Held) → react_fault c again a values h ≡ [] → Filled h.rows → Filled (reacted c a values h).rows
  reacted_filled a fills values h e rows =
      let parts = both_none _ _ e in
      fills again values (settled c h).rows parts.1 (settled_filled h parts.0 rows)

  option_filled : (a : Rule) → Fills a → (v : Option Text) (h : Held) → option_fault c again a v h ≡ [] → Filled h.rows → Filled (option_met c a v h).0.rows
  option_filled a fills None h e rows = settled_filled h e rows
  option_filled a fills (Some v) h e rows = reacted_filled a fills (v ∷ []) h e rows

  long_filled : (found : Option Rule) → IfSome found Fills → (v : Option Text) (h : Held) → long_fault c again found v h ≡ [] → Filled h.rows
      → Filled (long_met c found v h).0.rows
  long_filled None fills v h e rows = rows
  long_filled (Some a) fills v h e rows = go (takes_values a) v e
    where
      go : (b : Bool) (v : Option Text)
          → cond b (option_fault c again a v h) (cond (is_some v) (kind.TooManyValues ∷ []) (react_fault c again a [] h)) ≡ []
          → Filled (cond b (option_met c a v h) (flag_met c a v h)).0.rows
      go true v e = option_filled a fills v h e rows
      go false None e = reacted_filled a fills [] h e rows
      go false (Some x) e = rows

  -- ---- a bundle of flags

  short_filled : (found : Option Rule) → IfSome found Fills → (rest : Text) (h : Held) (after : Held → Held × Outcome) (fault : Held → Kinds)
      → ((x : Held) → fault x ≡ [] → Filled x.rows → Filled (after x).0.rows)
      → short_fault c again found rest h fault ≡ [] → Filled h.rows → Filled (short_met c found rest h after).0.rows
  short_filled None fills rest h after fault more e rows = rows
  short_filled (Some a) fills rest h after fault more e rows = go (takes_values a) e
    where
      go : (b : Bool) → cond b (option_fault c again a (attached_value rest) h) (or_else (react_fault c again a [] h) (fault (reacted c a [] h))) ≡ []
          → Filled (cond b (option_met c a (attached_value rest) h) (after (reacted c a [] h))).0.rows
      go true e = option_filled a fills (attached_value rest) h e rows
      go false e =
          let parts = both_none _ _ e in
          more (reacted c a [] h) parts.1 (reacted_filled a fills [] h parts.0 rows)

  step_filled : (x : Option ℕ) (flags : Text) (skip : ℕ) (so_far : Outcome) (h : Held) (after : Text → ℕ → Outcome → Held → Held × Outcome) (fault : Text → ℕ → Held → Kinds)
      → ((f : Text) (n : ℕ) (o : Outcome) (y : Held) → fault f n y ≡ [] → Filled y.rows → Filled (after f n o y).0.rows)
      → bundle_step_fault c again x flags skip h fault ≡ [] → Filled h.rows → Filled (bundle_step c x flags skip so_far h after).0.rows
  step_filled None flags skip so_far h after fault more e rows = rows
  step_filled (Some x) flags zero so_far h after fault more e rows =
      let rest = drop (length (encode_utf8 x)) flags in
      short_filled (arg_by_short c x) (found_fills _ c fill) rest h (after rest 0 done) (fault rest 0) (λ y none filled. more rest 0 done y none filled) e rows
  step_filled (Some x) flags (suc skip) so_far h after fault more e rows =
      more (drop (length (encode_utf8 x)) flags) skip so_far h e rows

  flags_filled : (k : ℕ) (flags : Text) (skip : ℕ) (so_far : Outcome) (h : Held) → flags_fault c again k flags skip h ≡ [] → Filled h.rows
      → Filled (bundle_met c k flags skip so_far h).0.rows
  unfolding bundle_met flags_fault
  flags_filled zero flags skip so_far h e rows = rows
  flags_filled (suc k) flags skip so_far h e rows =
      step_filled (slice_get (chars flags) 0) flags skip so_far h (bundle_met c k) (flags_fault c again k) (flags_filled k) e rows

  -- ---- a word

  plain_passes : (disabled : Bool) (waiting : Waiting) (word : Text) (h : Held) → Filled h.rows → Passes disabled (plain_word c waiting word h)
  plain_passes disabled idle word h rows = (rows, tt)
  plain_passes disabled (option id) word h rows = (option_word_filled (arg_by_id c id) rows, tt)
    where
      option_word_filled : (found : Option Rule) → Filled h.rows → Filled (Rattle.clap.specs.Walk.option_word found id word h).0.rows
      option_word_filled None rows = rows
      option_word_filled (Some a) rows = rows
  plain_passes disabled positional word h rows = (rows, tt)

  flag_passes : (disabled : Bool) (waiting : Waiting) (word : Text) (h : Held) (outcome : Outcome) → Filled h.rows → Passes disabled (after_flag c waiting word h outcome)
  flag_passes disabled waiting word h done rows = (rows, tt)
  flag_passes disabled waiting word h (waits id) rows = (rows, tt)
  flag_passes disabled waiting word h plain rows = plain_passes disabled waiting word h rows
  flag_passes disabled waiting word h refused rows = plain_passes disabled waiting word h rows

  short_passes : (disabled : Bool) (waiting : Waiting) (word : Text) (flags : Option Text) (h : Held) → option_map_or (λ f. bundle_fault c again f h) flags [] ≡ []
      → Filled h.rows → Passes disabled (short_or_plain c waiting word flags h)
  short_passes disabled waiting word None h e rows = plain_passes disabled waiting word h rows
  short_passes disabled waiting word (Some flags) h e rows =
      flag_passes disabled waiting word (bundle c flags h).0 (bundle c flags h).1 (flags_filled (length flags) flags h.skip plain (record h { skip = 0 }) e rows)

  other_passes : (disabled : Bool) (waiting : Waiting) (word : Text) (long : Option (Text × Option Text)) (h : Held) → flag_word_fault c again long word h ≡ []
      → Filled h.rows → Passes disabled (long_or_other c waiting word long h)
  other_passes disabled waiting word None h e rows = short_passes disabled waiting word (short_of word) h e rows
  other_passes disabled waiting word (Some p) h e rows =
      let met = long_met c (arg_by_long c p.0) p.1 h in
      flag_passes disabled waiting word met.0 met.1 (long_filled (arg_by_long c p.0) (found_fills _ c fill) p.1 h e rows)

  positional_keeps : (disabled : Bool) (found : Option Rule) (word : Text) (w : Walk) (h : Held) (stray : Kinds)
      → option_map_or (λ a. positional_fault c again a h) found stray ≡ [] → Filled h.rows → NotHelp disabled w.stopped → Keeps disabled (to_positional c found word w h)
  positional_keeps disabled None word w h stray e rows is = (rows, is)
  positional_keeps disabled (Some a) word w h stray e rows is = (go (is_pending a h.pending && takes_several a) e, tt)
    where
      go : (b : Bool) → cond b [] (settle_fault c again h) ≡ [] → Filled (pushed a.id word (cond b h (settled c h))).rows
      go true e = rows
      go false e = settled_filled h e rows

-- ---- the walk

module _ (s : Shape) (names : Names) (fill : AllFill s.rules) where
  abbrev pub disabled : Bool
  disabled = s.disable_help_subcommand

  met_passes : (name : Option Text) (waiting : Waiting) (position : ℕ) (word : Text) (h : Held) → other_fault s name word h ≡ [] → Filled h.rows
      → Passes disabled (subcommand_or_other s.rules name waiting position word h)
  met_passes (Some name) waiting position word h e rows = (rows, go (bytes_eq name (codes "help")) disabled e)
    where
      go : (b d : Bool) → ◌≡◌ {A = Kinds} (cond (b && not d) (kind.DisplayHelp ∷ kind.InvalidSubcommand ∷ []) []) [] → d ≡ false → b ≡ false
      go true true e is = is
      go true false e is = absurd (some_kind _ _ e)
      go false d e is = refl
  met_passes None waiting position word h e rows = go (bytes_eq word (45 ∷ 45 ∷ [])) e
    where
      go : (b : Bool) → cond b [] (flag_word_fault s.rules s.args_override_self (long_of word) word h) ≡ []
          → Passes disabled (cond b (h, trailing position) (long_or_other s.rules waiting word (long_of word) h))
      go true e = (rows, tt)
      go false e = other_passes s.rules s.args_override_self fill disabled waiting word (long_of word) h e rows

  word_passes : (is_trailing : Bool) (waiting : Waiting) (position : ℕ) (word : Text) (h : Held) → word_fault s names is_trailing waiting word h ≡ [] → Filled h.rows
      → Passes disabled (word_met s.rules names is_trailing waiting position word h)
  word_passes true waiting position word h e rows = (rows, tt)
  word_passes false waiting position word h e rows = met_passes (subcommand_met names waiting word) waiting position word h e rows

  after_keeps : (word : Text) (w : Walk) (h : Held) (step : Step) → step_fault s w.position h step ≡ [] → Filled h.rows → PassesHelp disabled step
      → NotHelp disabled w.stopped → Keeps disabled (after_step s.rules word w h step)
  after_keeps word w h (next waiting) e rows passes is = (rows, is)
  after_keeps word w h (trailing position) e rows passes is = (rows, is)
  after_keeps word w h (subcommand name) e rows passes is = (rows, passes)
  after_keeps word w h value e rows passes is =
      positional_keeps s.rules s.args_override_self fill disabled (arg_by_index s.rules w.position) word w h (stray_fault s) e rows is

  turn_keeps : (w : Walk) (word : Text) → turn_fault s names w word ≡ [] → Keeps disabled w → Keeps disabled (walked s.rules names w word)
  unfolding walked
  turn_keeps w word e kept = go w.stopped e kept.1
    where
      go : (stopped : Option (Text × List Text))
          → cond (is_some stopped) [] (or_else (word_fault s names w.is_trailing w.waiting word w.held) (step_fault s w.position (word_met s.rules names w.is_trailing w.waiting w.position word w.held).0 (word_met s.rules names w.is_trailing w.waiting w.position word w.held).1)) ≡ []
          → NotHelp disabled stopped → Keeps disabled (walked_from s.rules names stopped w word)
      go (Some p) e now = (kept.0, now)
      go None e now =
          let parts = both_none _ _ e in
          let passes = word_passes w.is_trailing w.waiting w.position word w.held parts.0 kept.0 in
          after_keeps word w (word_met s.rules names w.is_trailing w.waiting w.position word w.held).0 (word_met s.rules names w.is_trailing w.waiting w.position word w.held).1 parts.1
          passes.0 passes.1 kept.1

  pub walk_keeps : (words : List Text) (w : Walk) → walk_fault s names w words ≡ [] → Keeps disabled w → Keeps disabled (fold (walked s.rules names) w words)
  unfolding walk_fault
  walk_keeps [] w e kept = kept
  walk_keeps (word ∷ words) w e kept =
      let parts = both_none _ _ e in
      walk_keeps words (walked s.rules names w word) parts.1 (turn_keeps w word parts.0 kept)

  pub finished_filled : (h : Held) → settle_fault s.rules s.args_override_self h ≡ [] → Filled h.rows → Filled (finished s.rules h)
  finished_filled h e rows = filled_defaults s.rules (settled s.rules h).rows (settled_filled s.rules s.args_override_self fill h e rows)
