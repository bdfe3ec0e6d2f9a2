-- Alternatives as a row.
use Rattle.std.proofs.Common.{◌≡◌, suc, List, [], ◌∷◌, length, refl, ap}
use Rattle.acn_grammar.specs.Walk.{conditions_of}
use Rattle.acn_grammar.specs.View.{alternatives_view}
use Rattle.acn_grammar.specs.declared.node.Alternative.{Alternative}

pub alternatives_counted : (as' : List Alternative) → length as' ≡ length (conditions_of (alternatives_view as'))
alternatives_counted [] = refl
alternatives_counted (a ∷ as') = ap suc (alternatives_counted as')
