-- Where all definitions are built in an order, each one was built where those before it were.
use Rattle.std.proofs.Common.{◌≡◌, ℕ, zero, suc, ◌+◌, List, [], ◌∷◌, ◌++◌, length, slice_get, Some, Ok, inl, inr, refl}
use Rattle.std.proofs.Common.{sym, subst, ◌∙◌, arith, append_assoc}
use Rattle.std.proofs.lemmas.List.{append-nil, length-append}
use Rattle.std.proofs.lemmas.Option.{same_Some}
use Rattle.guard_model.proofs.Results.{same_Ok}
use Rattle.guard_syntax.specs.Trees.{WrittenModule}
use Rattle.guard_schema.specs.Known.{Built, Known, with_built}
use Rattle.guard_schema.specs.Building.{BuildsNumber, BuildsAll}

-- what is built so far stays, and more follows it
built_more : (numbers : List ℕ) (k : Known) (built : List Built) → BuildsAll k numbers (Ok built) → (more : List Built)
    × (built ≡ k.built ++ more)
built_more [] k built e = ([], same_Ok built k.built e ∙ sym (append-nil k.built))
built_more (n ∷ ns) k built (inl (b, h, rest)) =
    let later = built_more ns (with_built k b) built rest in
    (b ∷ later.0, later.1 ∙ append_assoc k.built (b ∷ []) later.0)
built_more (n ∷ ns) k built (inr (f, h, e)) = absurd cc

-- what was built before the definition at a place of the order, what it is, and what was built after it
pub record BuiltThere (ms : List WrittenModule) (order : List ℕ) (built : List Built) (place number : ℕ) : Type 0 where
  pub before : List Built
  pub definition : Built
  pub after : List Built
  pub split : built ≡ before ++ definition ∷ after
  pub many : length before ≡ place
  pub builds : BuildsNumber (record { modules = ms; order = order; built = before }) number (Ok definition)

pub built_there : (numbers : List ℕ) (k : Known) (built : List Built) → BuildsAll k numbers (Ok built)
    → (place number : ℕ) → slice_get numbers place ≡ Some number
    → BuiltThere k.modules k.order built (length k.built + place) number
built_there [] k built h place number e = absurd cc
built_there (n ∷ ns) k built (inr (f, h, d)) place number e = absurd cc
built_there (n ∷ ns) k built (inl (b, h, rest)) zero number e =
    let later = built_more ns (with_built k b) built rest in
    record {
      before = k.built;
      definition = b;
      after = later.0;
      split = later.1 ∙ append_assoc k.built (b ∷ []) later.0;
      many = omega arith;
      builds = subst (λ (m : ℕ). BuildsNumber k m (Ok b)) (same_Some n number e) h;
    }
built_there (n ∷ ns) k built (inl (b, h, rest)) (suc place) number e =
    let later = built_there ns (with_built k b) built rest place number e in
    let count : length (k.built ++ b ∷ []) ≡ length k.built + length (b ∷ []) = length-append k.built (b ∷ []) in
    record {
      before = later.before;
      definition = later.definition;
      after = later.after;
      split = later.split;
      many = (let there = later.many in omega (arith, there, count));
      builds = later.builds;
    }

-- what comes after others
pub at_seam : {A : Type 0} (xs : List A) (y : A) (ys : List A) (place : ℕ) → length xs ≡ place
    → slice_get (xs ++ y ∷ ys) place ≡ Some y
at_seam [] y ys zero e = refl
at_seam [] y ys (suc place) e = absurd (omega (arith, e))
at_seam (x ∷ xs) y ys zero e = absurd (omega (arith, e))
at_seam (x ∷ xs) y ys (suc place) e = at_seam xs y ys place (omega (arith, e))
