-- A number that the contents of single values don't exceed, while it grows.
use Rattle.std.proofs.Common.{◌≡◌, ℕ, ◌≤◌, Bool, true, false, not, ◌||◌, List, [], ◌∷◌, ◌++◌, length, map, max, Option, Some, None, refl, sym, subst, IsTrue, IfSome, arith}
use Rattle.std.specs.Prelude.{nat_le, if◌then◌else◌}
use Rattle.std.specs.Cmp.Derive.{both_true}
use Rattle.std.proofs.lemmas.Bool.{and_parts, le-leb, leb-true}
use Rattle.std.proofs.Math.Nat.{le-max_left, le-max_right}
use Rattle.guard_model.specs.declared.site.Site.{Site}
use Rattle.guard_model.specs.declared.ty.Cons.{Cons}
use Rattle.guard_model.specs.TypeView.{constraint_view, constraints_of}
use Rattle.guard_model.specs.AbstractType as type
use Rattle.guard_model.specs.AbstractType.{AbstractType, AbstractKind, Constraint, Constraints, Element, type_of}
use Rattle.guard_model.specs.AbstractValue.{AbstractValue}
use Rattle.guard_model.specs.Kinds.{kind_of}
use Rattle.guard_der.specs.Fits.{fits_kind}
use Rattle.guard_der.specs.Der.{contents_octets}
use Rattle.guard_der.specs.Encoding.{longest_encoding, short_length}
use Rattle.guard_values.specs.SingleValues.{each_value, each_value_there, each_value_in_all, are_within, has_within, is_bounded}
use Rattle.guard_values.specs.KeptLengths.{contents_length}
use Rattle.guard_constraints.specs.Denotes.{joined}
use Rattle.guard_constraints.specs.declared.joining.Join.{Join}
use Rattle.guard_constraints.specs.declared.joining.Join.TheVariants as join
use Rattle.guard_constraints.specs.inside.Reading.{joined_by}
use Rattle.guard_constraints.specs.Noted.{add, with_constraint}
use Rattle.guard_constraints.specs.inside.Bounds.{is_within, bounds, bounds_all, Grows}

-- ---- what passes one test passes another

module _ (p q : AbstractValue → Bool) (more : (v : AbstractValue) → IsTrue (p v) → IsTrue (q v)) where
  mutual
    weaker : (c : Constraint) → IsTrue (each_value p c) → IsTrue (each_value q c)
    weaker (type.at site e) h = weaker_there e h

    weaker_there : (e : Element) → IsTrue (each_value_there p e) → IsTrue (each_value_there q e)
    weaker_there (type.single_value v) h = more v h
    weaker_there (type.union all) h = weaker_in_all all h
    weaker_there (type.intersection all) h = weaker_in_all all h
    weaker_there (type.except c d) h =
        let both = and_parts (each_value p c) (each_value p d) h in
        both_true (weaker c both.0) (weaker d both.1)
    weaker_there (type.all_except c) h = weaker c h
    weaker_there e h = refl

    pub weaker_in_all : (all : Constraints) → IsTrue (each_value_in_all p all) → IsTrue (each_value_in_all q all)
    weaker_in_all type.no_constraints h = refl
    weaker_in_all (type.constraint c all) h =
        let both = and_parts (each_value p c) (each_value_in_all p all) h in
        both_true (weaker c both.0) (weaker_in_all all both.1)

-- what each value passes
module _ (test : AbstractValue → Bool) (each : (v : AbstractValue) → IsTrue (test v)) where
  mutual
    passes : (c : Constraint) → IsTrue (each_value test c)
    passes (type.at site e) = passes_there e

    passes_there : (e : Element) → IsTrue (each_value_there test e)
    passes_there (type.single_value v) = each v
    passes_there (type.union all) = passes_all all
    passes_there (type.intersection all) = passes_all all
    passes_there (type.except c d) = both_true (passes c) (passes d)
    passes_there (type.all_except c) = passes c
    passes_there e = refl

    pub passes_all : (all : Constraints) → IsTrue (each_value_in_all test all)
    passes_all type.no_constraints = refl
    passes_all (type.constraint c all) = both_true (passes c) (passes_all all)

-- ---- one constraint more

pub added : (test : AbstractValue → Bool) (all : Constraints) (c : Constraint) → IsTrue (each_value_in_all test all)
    → IsTrue (each_value test c) → IsTrue (each_value_in_all test (add all c))
added test type.no_constraints c h one = both_true one refl
added test (type.constraint d all) c h one =
    let both = and_parts (each_value test d) (each_value_in_all test all) h in
    both_true both.0 (added test all c both.1 one)

pub one_more_bounded : (m n : Option ℕ) (t : AbstractType) (c : Constraint) → Grows m n → IsTrue (is_bounded m t)
    → IsTrue (bounds n t c) → IsTrue (is_bounded n (with_constraint t c))
one_more_bounded m None (type_of tags kind all) c grows before one = refl
one_more_bounded None (Some n) (type_of tags kind all) c grows before one =
    added (has_within n kind) all c (weaker_in_all (is_within None kind) (has_within n kind) (grows kind) all (passes_all (is_within None kind) (λ v. refl) all)) one
one_more_bounded (Some m) (Some n) (type_of tags kind all) c grows before one =
    added (has_within n kind) all c (weaker_in_all (has_within m kind) (has_within n kind) (grows kind) all before) one

-- ---- of lengths

more_octets : (fit : Bool) (os : Option (List ℕ)) (m n : ℕ) → m ≤ n → IsTrue (not fit || are_within m os)
    → IsTrue (not fit || are_within n os)
more_octets false os m n le h = refl
more_octets true None m n le h = absurd cc
more_octets true (Some os) m n le h = le-leb (length os) n (omega (arith, leb-true (length os) m h, le))

pub grows_to : (m n : ℕ) → m ≤ n → Grows (Some m) (Some n)
grows_to m n le kind v h = more_octets (fits_kind kind v) (contents_octets kind v) m n le h

pub grows_by : (m n : ℕ) → Grows (Some m) (Some (max m n)) × Grows (Some n) (Some (max m n))
grows_by m n = (grows_to m (max m n) (le-max_left m n), grows_to n (max m n) (le-max_right m n))

pub unknown_then : (m : Option ℕ) → Grows m None
unknown_then m kind v h = refl

pub grows_itself : (m : Option ℕ) → Grows m m
grows_itself m kind v h = h

-- contents that were counted are no longer than that
told_by : (low : Bool) (l : ℕ) → IfSome (if low then Some l else None) (λ n. IsTrue (nat_le l n))
told_by true l = le-leb l l (omega arith)
told_by false l = tt

told : (os : Option (List ℕ)) → IfSome (short_length os) (λ n. IsTrue (are_within n os))
told None = tt
told (Some os) = told_by (nat_le (length os) longest_encoding) (length os)

where_fit : (fit within : Bool) → IsTrue within → IsTrue (not fit || within)
where_fit true within h = h
where_fit false within h = refl

pub within_counted : (n : Option ℕ) (t : AbstractType) (v : AbstractValue) → n ≡ contents_length t v
    → IsTrue (is_within n (kind_of t) v)
within_counted None t v e = refl
within_counted (Some n) t v e =
    let os = contents_octets (kind_of t) v in
    where_fit (fits_kind (kind_of t) v) (are_within n os)
    (subst (λ (x : Option ℕ). IfSome x (λ m. IsTrue (are_within m os))) (sym e) (told os))

-- ---- sets

joined_within : (test : AbstractValue → Bool) (j : Join) (site : Site) (c : Constraint) (cs : Constraints)
    → IsTrue (each_value test c) → IsTrue (each_value_in_all test cs) → IsTrue (each_value test (joined (joined_by j) site c cs))
joined_within test j site c type.no_constraints one all = one
joined_within test join.Union site c (type.constraint d ds) one all = both_true one all
joined_within test join.Intersection site c (type.constraint d ds) one all = both_true one all

pub pushed_within : (test : AbstractValue → Bool) (xs : List Cons) (x : Cons)
    → IsTrue (each_value_in_all test (constraints_of (map constraint_view xs))) → IsTrue (each_value test (constraint_view x))
    → IsTrue (each_value_in_all test (constraints_of (map constraint_view (xs ++ x ∷ []))))
pushed_within test [] x all one = both_true one refl
pushed_within test (y ∷ xs) x all one =
    let both = and_parts (each_value test (constraint_view y)) (each_value_in_all test (constraints_of (map constraint_view xs))) all in
    both_true both.0 (pushed_within test xs x both.1 one)

-- ---- where the number grows between the first part and the others

module _ (m n : Option ℕ) (t : AbstractType) (grows : Grows m n) (c : Constraint) (first : IsTrue (bounds m t c)) where
  still : IsTrue (bounds n t c)
  still = weaker (is_within m (kind_of t)) (is_within n (kind_of t)) (grows (kind_of t)) c first

  pub joined_bounds : (j : Join) (site : Site) (cs : Constraints) → IsTrue (bounds_all n t cs)
      → IsTrue (bounds n t (joined (joined_by j) site c cs))
  joined_bounds j site cs others = joined_within (is_within n (kind_of t)) j site c cs still others

  pub except_bounds : (d : Constraint) → IsTrue (bounds n t d)
      → IsTrue (each_value_there (is_within n (kind_of t)) (type.except c d))
  except_bounds d less = both_true still less
