-- The search through all parts of a type finds the first of its nodes that has too many conditions.
use Rattle.std.proofs.Common.{◌≡◌, ℕ, suc, Bool, true, false, List, [], ◌∷◌, ◌++◌, map, Option, Some, None, Result, Ok, Err, refl, sym, ap, ◌∙◌, append_assoc}
use Rattle.std.specs.Prelude.{◌||◌, option_map, if◌then◌else◌}
use Rattle.std.specs.List.{list_any, find}
use Rattle.std.specs.Option.{is_some, option_or}
use Rattle.std.specs.Global.{Vec}
use Rattle.std.proofs.Math.Bool.{cond}
use Rattle.std.proofs.lemmas.List.{append-nil}
use Rattle.std.specs.Result.{IfOk}
use Rattle.guard_model.specs.AbstractType as type
use Rattle.guard_model.specs.AbstractType.{AbstractType, AbstractKind, Components, type_of, no_components, component}
use Rattle.guard_tables.specs.Conditions.{is_crowded, has_crowded_node, crowded_node}
use Rattle.guard_tables.specs.Nodes.{ways, ways_inside, ways_among}
use Rattle.guard_tables.specs.inside.Search.{crowded_from, crowded_inside, crowded_among}

-- the first of the nodes to which these ways lead from the end of this way
abbrev first_crowded : List AbstractType → List ℕ → List (List ℕ) → Option (List ℕ)
first_crowded types way [] = None
first_crowded types way (on ∷ ws) = if is_crowded types (way ++ on) then Some (way ++ on) else first_crowded types way ws

or_if : (b : Bool) (x : List ℕ) (o p : Option (List ℕ)) → option_or (if b then Some x else o) p ≡ (if b then Some x else option_or o p)
or_if true x o p = refl
or_if false x o p = refl

first_of_both : (types : List AbstractType) (way : List ℕ) (vs ws : List (List ℕ)) → first_crowded types way (vs ++ ws) ≡ option_or (first_crowded types way vs) (first_crowded types way ws)
first_of_both types way [] ws = refl
first_of_both types way (v ∷ vs) ws =
    ap (λ (o : Option (List ℕ)). if is_crowded types (way ++ v) then Some (way ++ v) else o) (first_of_both types way vs ws)
    ∙ sym (or_if (is_crowded types (way ++ v)) (way ++ v) (first_crowded types way vs) (first_crowded types way ws))

one_step_on : (types : List AbstractType) (way : List ℕ) (place : ℕ) (ws : List (List ℕ)) → first_crowded types way (map (λ on. place ∷ on) ws) ≡ first_crowded types (way ++ place ∷ []) ws
one_step_on types way place [] = refl
one_step_on types way place (w ∷ ws) =
    ap (λ (x : List ℕ). if is_crowded types x then Some x else first_crowded types way (map (λ on. place ∷ on) ws)) (sym (append_assoc way (place ∷ []) w))
    ∙ ap (λ (o : Option (List ℕ)). if is_crowded types ((way ++ place ∷ []) ++ w) then Some ((way ++ place ∷ []) ++ w) else o) (one_step_on types way place ws)

mutual
  from_told : (types : List AbstractType) (way : List ℕ) (t : AbstractType) → crowded_from types way t ≡ first_crowded types way (ways t)
  from_told types way (type_of tags kind cons) =
      ap (λ (x : List ℕ). if is_crowded types x then Some x else crowded_inside types way kind) (sym (append-nil way))
      ∙ ap (λ (o : Option (List ℕ)). if is_crowded types (way ++ []) then Some (way ++ []) else o) (inside_told types way kind)

  inside_told : (types : List AbstractType) (way : List ℕ) (kind : AbstractKind) → crowded_inside types way kind ≡ first_crowded types way (ways_inside kind)
  inside_told types way (type.sequence cs) = among_told types way 0 cs
  inside_told types way (type.set cs) = among_told types way 0 cs
  inside_told types way (type.choice cs) = among_told types way 0 cs
  inside_told types way (type.sequence_of t) = from_told types (way ++ 0 ∷ []) t ∙ sym (one_step_on types way 0 (ways t))
  inside_told types way (type.set_of t) = from_told types (way ++ 0 ∷ []) t ∙ sym (one_step_on types way 0 (ways t))
  inside_told types way _ = refl

  among_told : (types : List AbstractType) (way : List ℕ) (place : ℕ) (cs : Components) → crowded_among types way place cs ≡ first_crowded types way (ways_among place cs)
  among_told types way place no_components = refl
  among_told types way place (component name t presence cs) =
      ap (λ (o : Option (List ℕ)). option_or o (crowded_among types way (suc place) cs)) (from_told types (way ++ place ∷ []) t ∙ sym (one_step_on types way place (ways t)))
      ∙ ap (λ (o : Option (List ℕ)). option_or (first_crowded types way (map (λ on. place ∷ on) (ways t))) o) (among_told types way (suc place) cs)
      ∙ sym (first_of_both types way (map (λ on. place ∷ on) (ways t)) (ways_among (suc place) cs))

found_step : (b : Bool) (x : List ℕ) (o p : Option (List ℕ)) → o ≡ p → (if b then Some x else o) ≡ cond b (Some x) p
found_step true x o p e = refl
found_step false x o p e = e

from_the_top : (types : List AbstractType) (ws : List (List ℕ)) → first_crowded types [] ws ≡ find (is_crowded types) ws
from_the_top types [] = refl
from_the_top types (w ∷ ws) = found_step (is_crowded types w) w (first_crowded types [] ws) (find (is_crowded types) ws) (from_the_top types ws)

search_told : (types : List AbstractType) (t : AbstractType) → crowded_from types [] t ≡ crowded_node types t
search_told types t = from_told types [] t ∙ from_the_top types (ways t)

any_step : (b c : Bool) (x : List ℕ) (o : Option (List ℕ)) → is_some o ≡ c → is_some (cond b (Some x) o) ≡ (b || c)
any_step true c x o e = refl
any_step false c x o e = e

some_found : (types : List AbstractType) (ws : List (List ℕ)) → is_some (find (is_crowded types) ws) ≡ list_any (is_crowded types) ws
some_found types [] = refl
some_found types (w ∷ ws) = any_step (is_crowded types w) (list_any (is_crowded types) ws) w (find (is_crowded types) ws) (some_found types ws)

-- as the code answers it
pub way_told : {E : Type 0} (types : List AbstractType) (t : AbstractType) (way : List ℕ) → way ≡ [] → (r : Result (Option (Vec ℕ)) E) → IfOk r (λ found. option_map (λ w. w.items) found ≡ crowded_from types way t) → IfOk r (λ found. option_map (λ w. w.items) found ≡ crowded_node types t)
way_told types t way none (Ok found) e = e ∙ ap (λ (x : List ℕ). crowded_from types x t) none ∙ search_told types t
way_told types t way none (Err x) e = tt

pub has_told : (types : List AbstractType) (t : AbstractType) (found : Option (Vec ℕ)) → option_map (λ w. w.items) found ≡ crowded_node types t → is_some found ≡ has_crowded_node types t
has_told types t None e = ap is_some e ∙ some_found types (ways t)
has_told types t (Some w) e = ap is_some e ∙ some_found types (ways t)
