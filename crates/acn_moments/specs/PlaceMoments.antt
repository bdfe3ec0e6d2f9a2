-- What the place of a component asks, which may be empty. (This profile's own.)
use Rattle.std.specs.Prelude.{ℕ, true, false, List, ◌++◌, Option, Some, None}
use Rattle.acn_grammar.specs.Asks as asks
use Rattle.acn_grammar.specs.Asks.{FieldPaths}
use Rattle.acn_grammar.specs.Grammar.{Grammar, Data}
use Rattle.acn_grammar.specs.declared.node.Presence.{Presence}

abbrev pub place_moments : (root : Grammar) → Grammar → Presence → (own : Option ℕ) → FieldPaths → List ℕ → Option Data → List asks.Moment
place_moments root g presence own paths path (Some d) = asks.own_asks paths path own d ++ asks.presence_asks paths path true presence ++ asks.moments root g paths path d
place_moments root g presence own paths path None = asks.presence_asks paths path false presence
