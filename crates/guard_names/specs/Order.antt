-- The order in which each definition comes after all that it uses, where there is one. Definitions are named by their
-- numbers; `uses` says which uses which, and there are `count` of them.
use Rattle.std.specs.Prelude.{◌≡◌, ℕ, ◌<◌, Bool, false, List, [], ◌∷◌, ◌++◌, IsTrue, nat_eq}
use Rattle.std.specs.List.{list_any}

abbrev pub is_listed : List ℕ → ℕ → Bool
is_listed listed number = list_any (nat_eq number) listed

module _ (count : ℕ) (uses : ℕ → ℕ → Type 0) where
  -- the definition isn't listed yet, and all that it uses is
  pub record IsReady (listed : List ℕ) (number : ℕ) : Type 0 where
    pub below : number < count
    pub unlisted : is_listed listed number ≡ false
    pub met : (used : ℕ) → uses number used → IsTrue (is_listed listed used)

  -- the definition is the first that is ready
  pub record IsNext (listed : List ℕ) (number : ℕ) : Type 0 where
    pub ready : IsReady listed number
    pub first : (other : ℕ) → other < number → ¬ IsReady listed other

  -- each of these is the next one after those listed before it
  abbrev pub Follow : List ℕ → List ℕ → Type 0
  Follow listed [] = Unit {0}
  Follow listed (number ∷ rest) = IsNext listed number × Follow (listed ++ number ∷ []) rest

  -- Again and again the first definition whose uses are all listed; in the end each definition is.
  pub record IsOrder (numbers : List ℕ) : Type 0 where
    pub follow : Follow [] numbers
    pub all : (number : ℕ) → number < count → IsTrue (is_listed numbers number)

  -- there is one such order at most
  abbrev pub OneOrder : Type 0
  OneOrder = (numbers others : List ℕ) → IsOrder numbers → IsOrder others → numbers ≡ others

module _ (uses : ℕ → ℕ → Type 0) where
  -- a chain of uses leads from the first to the second
  pub data Leads : ℕ → ℕ → Type 0 where
    at_once : {a b : ℕ} → uses a b → Leads a b
    through : {a b c : ℕ} → uses a b → Leads b c → Leads a c

  -- the definition uses itself, directly or through others
  abbrev pub IsRecursive : ℕ → Type 0
  IsRecursive number = Leads number number

  -- the definition is the first that uses itself
  pub record IsFirstRecursive (number : ℕ) : Type 0 where
    pub recursive : IsRecursive number
    pub first : (other : ℕ) → other < number → ¬ IsRecursive other
