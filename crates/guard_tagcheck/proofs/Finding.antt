-- What the search with a map finds is the type's clash.
use Rattle.std.proofs.Common.{◌≡◌, Option, Some, None, ap, ◌∙◌, refl, sym}
use Rattle.std.specs.Prelude.{IfOk, IfSome, Result, Ok, Err, option_map}
use Rattle.guard_model.specs.TypeView.{type_view}
use Rattle.guard_model.specs.declared.memory.OutOfMemory.{OutOfMemory}
use Rattle.guard_model.specs.declared.ty.Ty.{Ty}
use Rattle.guard_tagcheck.specs.declared.clash.Clash.{Clash}
use Rattle.guard_tagcheck.specs.Distinct.{Distinct, AbstractClash, IsClash}
use Rattle.guard_tagcheck.specs.Search.{first_clash}
use Rattle.guard_tagcheck.specs.Views.{clash_view}
use Rattle.guard_tagcheck.proofs.Clashes.{type_some, type_none}
use Rattle.guard_tagcheck.proofs.OneClash.{one_clash, not_distinct}

abbrev pub Finds : Ty → Result (Option Clash) OutOfMemory → Type 0
Finds ty answer = IfOk answer (λ found. option_map clash_view found ≡ first_clash (type_view ty))

pub found_distinct : (ty : Ty) (answer : Result (Option Clash) OutOfMemory) → Finds ty answer → IfOk answer (λ found. found ≡ None → Distinct (type_view ty))
found_distinct ty (Err e) is = tt
found_distinct ty (Ok found) is = λ none. type_none (type_view ty) (sym is ∙ ap (option_map clash_view) none)

pub distinct_found : (ty : Ty) (answer : Result (Option Clash) OutOfMemory) → Finds ty answer → Distinct (type_view ty) → IfOk answer (λ found. found ≡ None)
distinct_found ty (Err e) is distinct = tt
distinct_found ty (Ok None) is distinct = refl
distinct_found ty (Ok (Some clash)) is distinct = absurd (not_distinct (type_view ty) (clash_view clash) (type_some (type_view ty) (clash_view clash) (sym is)) distinct)

pub found_is_clash : (ty : Ty) (answer : Result (Option Clash) OutOfMemory) → Finds ty answer → IfOk answer (λ found. IfSome found (λ c. IsClash (type_view ty) (clash_view c)))
found_is_clash ty (Err e) is = tt
found_is_clash ty (Ok None) is = tt
found_is_clash ty (Ok (Some clash)) is = type_some (type_view ty) (clash_view clash) (sym is)

pub clash_is_found : (ty : Ty) (answer : Result (Option Clash) OutOfMemory) → Finds ty answer → (c : AbstractClash) → IsClash (type_view ty) c → IfOk answer (λ found. option_map clash_view found ≡ Some c)
clash_is_found ty (Err e) is c clash = tt
clash_is_found ty (Ok None) is c clash = absurd (not_distinct (type_view ty) c clash (type_none (type_view ty) (sym is)))
clash_is_found ty (Ok (Some found)) is c clash = ap Some (one_clash (type_view ty) (clash_view found) c (type_some (type_view ty) (clash_view found) (sym is)) clash)
