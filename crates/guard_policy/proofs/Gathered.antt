-- What is read from a list, item by item.
use Rattle.std.proofs.Common.{◌≡◌, List, [], ◌∷◌, ◌++◌, Option, Some, None, option_map, refl, ap, sym, ◌∙◌, append_assoc}
use Rattle.std.proofs.lemmas.List.{append-nil}
use Rattle.toml.specs.Data.{Data, Items, no_items, item}
use Rattle.guard_policy.specs.Documents.{with_first, items_as}

-- what is read of those that are left, after what was read, is what is read of all
abbrev pub Gathered : {A : Type 0} → (Data → Option A) → List A → Items → Option (List A) → Type 0
Gathered kind done left all = option_map (λ more. done ++ more) (items_as kind left) ≡ all

behind : {A : Type 0} (done : List A) (a : A) (r : Option (List A))
    → option_map (λ more. (done ++ a ∷ []) ++ more) r ≡ option_map (λ more. done ++ more) (option_map (λ more. a ∷ more) r)
behind done a None = refl
behind done a (Some more) = ap Some (append_assoc done (a ∷ []) more)

pub gathered_one : {A : Type 0} (kind : Data → Option A) (done : List A) (a : A) (d : Data) (rest : Items) (all : Option (List A))
    → kind d ≡ Some a → Gathered kind done (item d rest) all → Gathered kind (done ++ a ∷ []) rest all
gathered_one kind done a d rest all e g =
    behind done a (items_as kind rest) ∙ ap (λ first. option_map (λ more. done ++ more) (with_first first (items_as kind rest))) (sym e) ∙ g

pub gathered_none : {A : Type 0} (kind : Data → Option A) (done : List A) (d : Data) (rest : Items) (all : Option (List A))
    → kind d ≡ None → Gathered kind done (item d rest) all → None ≡ all
gathered_none kind done d rest all e g =
    ap (λ first. option_map (λ more. done ++ more) (with_first first (items_as kind rest))) (sym e) ∙ g

pub gathered_all : {A : Type 0} (kind : Data → Option A) (done : List A) (all : Option (List A)) → Gathered kind done no_items all → Some done ≡ all
gathered_all kind done all g = ap Some (sym (append-nil done)) ∙ g

pub gathered_start : {A : Type 0} (kind : Data → Option A) (r : Option (List A)) → option_map (λ (more : List A). [] ++ more) r ≡ r
gathered_start kind None = refl
gathered_start kind (Some more) = refl
