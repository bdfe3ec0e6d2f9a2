use Rattle.std.proofs.Common.{◌≡◌, drop}
use Rattle.std.specs.List.{list_any}
use Rattle.acn_sites.specs.Attributes.{is_of}
use Rattle.acn_reasons.proofs.standing.has_kind.Given as goal

abbrev pub invariant-loop-attr : goal.invariant-loop-attr
invariant-loop-attr l = list_any (is_of l.kind) (drop l.attr-index l.attributes) ≡ list_any (is_of l.kind) l.attributes
