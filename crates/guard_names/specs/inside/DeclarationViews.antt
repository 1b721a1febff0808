-- What the definitions see of declarations of the code.
use Rattle.std.specs.Prelude.{ℕ, List, Option, Some, None}
use Rattle.guard_names.specs.Declarations as declared
use Rattle.guard_names.specs.declared.declarations.Declaration.{Declaration}
use Rattle.guard_names.specs.declared.declarations.Home.{Home}
use Rattle.guard_names.specs.declared.declarations.Origin.{Origin}
use Rattle.guard_names.specs.declared.declarations.Origin.TheVariants as origin

abbrev pub scope_view : Option Home → Option (List ℕ)
scope_view None = None
scope_view (Some home) = Some home.name.now

abbrev pub origin_view : Origin → declared.Origin
origin_view origin.Module = declared.of_module
origin_view (origin.Import from number) = declared.imported_from from.now
origin_view (origin.Assignment number exports) = declared.assigned_by number exports

abbrev pub declaration_view : Declaration → declared.Declaration
declaration_view d = record {
  scope = scope_view d.scope;
  name = d.name.now;
  site = d.site;
  origin = origin_view d.origin;
}
