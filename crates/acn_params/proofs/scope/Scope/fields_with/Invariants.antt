use Rattle.std.proofs.Common.{◌≡◌, drop, map, option_map}
use Rattle.std.specs.Option.{option_or}
use Rattle.acn_params.specs.Paths.{last_with}
use Rattle.acn_params.specs.View.{fields_view}
use Rattle.acn_params.proofs.scope.Scope.fields_with.Given as goal

abbrev pub invariant-loop-fields : goal.invariant-loop-fields
invariant-loop-fields l = option_or (last_with l.name (map fields_view (drop l.fields-index l.fields-items))) (option_map (λ fields. fields_view fields.now) l.found) ≡ last_with l.name (map fields_view l.fields-items)
