-- What the search for a clash says of components where it finds none.
use Rattle.std.proofs.Common.{◌≡◌, ℕ, suc, Bool, true, false, cond, List, Option, Some, None, refl, ap, inl, inr}
use Rattle.std.specs.Prelude.{◌&&◌, ◌||◌, not, ◌⊎◌}
use Rattle.std.proofs.lemmas.Bool.{and_from}
use Rattle.std.specs.Option.{option_or}
use Rattle.guard_model.proofs.Options.{option_or_none}
use Rattle.guard_model.specs.AbstractType.{AbstractType, AbstractPresence, Components, no_components, component}
use Rattle.guard_model.specs.declared.site.Step.TheVariants.{Component}
use Rattle.guard_tagcheck.specs.Distinct.{AbstractClash}
use Rattle.guard_tagcheck.specs.Search as search
use Rattle.guard_tagcheck.specs.Search.{share_tag, partner, first_pair, paired, here, inside, first_clash, clash_inside, is_mandatory}
use Rattle.guard_der.specs.Sound.{none_clash}
use Rattle.guard_tagcheck.proofs.Options.{inside_none, here_none, paired_none}

-- no tag begins encodings of both
abbrev pub differ : AbstractType → AbstractType → Bool
differ t u = not (share_tag t u)

abbrev pub differs_from_all : AbstractType → Components → Bool
differs_from_all t no_components = true
differs_from_all t (component name u presence rest) = differ t u && differs_from_all t rest

-- from those that may come where it is absent: the next ones, up to and with a mandatory one
abbrev pub differs_from_next : AbstractType → Components → Bool
differs_from_next t no_components = true
differs_from_next t (component name u presence rest) = differ t u && (is_mandatory presence || differs_from_next t rest)

abbrev pub all_differ : Components → Bool
all_differ no_components = true
all_differ (component name t presence rest) = differs_from_all t rest && all_differ rest

abbrev pub optional_differ : Components → Bool
optional_differ no_components = true
optional_differ (component name t presence rest) = (is_mandatory presence || differs_from_next t rest) && optional_differ rest

pub no_clash : (c : Option AbstractClash) → none_clash c ≡ true → c ≡ None
no_clash None e = refl
no_clash (Some c) e = absurd cc

-- ---- partners

all_from : (shares : Bool) (j : ℕ) (later : Option ℕ) → ◌≡◌ {A = Option ℕ} (cond shares (Some j) (cond true later None)) None → (shares ≡ false) × (later ≡ None)
all_from true j later e = absurd cc
all_from false j later e = (refl, e)

next_from : (shares mandatory : Bool) (j : ℕ) (later : Option ℕ) → ◌≡◌ {A = Option ℕ} (cond shares (Some j) (cond (not mandatory) later None)) None → (shares ≡ false) × ((mandatory ≡ true) ⊎ (later ≡ None))
next_from true mandatory j later e = absurd cc
next_from false true j later e = (refl, inl refl)
next_from false false j later e = (refl, inr e)

or_true : (a b : Bool) → (a ≡ true) ⊎ (b ≡ true) → (a || b) ≡ true
or_true true b h = refl
or_true false b (inl e) = absurd cc
or_true false b (inr e) = e

no_partner : (t : AbstractType) (j : ℕ) (cs : Components) → partner false t j cs ≡ None → differs_from_all t cs ≡ true
no_partner t j no_components e = refl
no_partner t j (component name u presence rest) e =
    let a = all_from (share_tag t u) j (partner false t (suc j) rest) e in
    and_from (differ t u) (differs_from_all t rest) (ap not a.0) (no_partner t (suc j) rest a.1)

later : (t : AbstractType) (presence : AbstractPresence) (rest : Components) (o : Option ℕ) → (o ≡ None → differs_from_next t rest ≡ true) → (search.is_mandatory presence ≡ true) ⊎ (o ≡ None) → (is_mandatory presence ≡ true) ⊎ (differs_from_next t rest ≡ true)
later t presence rest o next (inl e) = inl e
later t presence rest o next (inr e) = inr (next e)

no_next : (t : AbstractType) (j : ℕ) (cs : Components) → partner true t j cs ≡ None → differs_from_next t cs ≡ true
no_next t j no_components e = refl
no_next t j (component name u presence rest) e =
    let a = next_from (share_tag t u) (search.is_mandatory presence) j (partner true t (suc j) rest) e in
    and_from (differ t u) (is_mandatory presence || differs_from_next t rest) (ap not a.0) (or_true (is_mandatory presence) (differs_from_next t rest) (later t presence rest (partner true t (suc j) rest) (λ e. no_next t (suc j) rest e) a.1))

-- ---- pairs

pub no_pair : (i : ℕ) (cs : Components) → first_pair false i cs ≡ None → all_differ cs ≡ true
no_pair i no_components e = refl
no_pair i (component name t presence rest) e =
    let n = option_or_none (paired i (partner false t (suc i) rest)) (first_pair false (suc i) rest) e in
    and_from (differs_from_all t rest) (all_differ rest) (no_partner t (suc i) rest (paired_none i (partner false t (suc i) rest) n.0)) (no_pair (suc i) rest n.1)

passed : (mandatory : Bool) (pair : Option (ℕ × ℕ)) → ◌≡◌ {A = Option (ℕ × ℕ)} (cond (not mandatory) pair None) None → (mandatory ≡ true) ⊎ (pair ≡ None)
passed true pair e = inl refl
passed false pair e = inr e

either : (t : AbstractType) (presence : AbstractPresence) (rest : Components) (i : ℕ) → (search.is_mandatory presence ≡ true) ⊎ (paired i (partner true t (suc i) rest) ≡ None) → (is_mandatory presence ≡ true) ⊎ (differs_from_next t rest ≡ true)
either t presence rest i (inl e) = inl e
either t presence rest i (inr e) = inr (no_next t (suc i) rest (paired_none i (partner true t (suc i) rest) e))

pub no_optional_pair : (i : ℕ) (cs : Components) → first_pair true i cs ≡ None → optional_differ cs ≡ true
no_optional_pair i no_components e = refl
no_optional_pair i (component name t presence rest) e =
    let n = option_or_none (cond (not (search.is_mandatory presence)) (paired i (partner true t (suc i) rest)) None) (first_pair true (suc i) rest) e in
    and_from (is_mandatory presence || differs_from_next t rest) (optional_differ rest)
    (or_true (is_mandatory presence) (differs_from_next t rest) (either t presence rest i (passed (search.is_mandatory presence) (paired i (partner true t (suc i) rest)) n.0))) (no_optional_pair (suc i) rest n.1)

-- ---- kinds

pub list_clash : (in_sequence : Bool) (cs : Components) → option_or (here (first_pair in_sequence 0 cs)) (clash_inside 0 cs) ≡ None → (first_pair in_sequence 0 cs ≡ None) × (clash_inside 0 cs ≡ None)
list_clash in_sequence cs e = let n = option_or_none (here (first_pair in_sequence 0 cs)) (clash_inside 0 cs) e in (here_none (first_pair in_sequence 0 cs) n.0, n.1)

pub part_clash : (i : ℕ) (name : List ℕ) (t : AbstractType) (presence : AbstractPresence) (rest : Components) → clash_inside i (component name t presence rest) ≡ None → (first_clash t ≡ None) × (clash_inside (suc i) rest ≡ None)
part_clash i name t presence rest e = let n = option_or_none (inside (Component i) (first_clash t)) (clash_inside (suc i) rest) e in (inside_none (Component i) (first_clash t) n.0, n.1)
