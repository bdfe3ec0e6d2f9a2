-- The parts of a value that is made, as they are made one by one.
use Rattle.std.specs.Prelude.{ℕ, if◌then◌else◌, Option, Some, None}
use Rattle.acn_grammar.specs.Grammar.{Grammar, Alternatives, Data, alt}
use Rattle.acn_tree.specs.Made.{Drawn, after, is, pick, presence, made, alternative_count, alternative_made}
use Rattle.acn_grammar.specs.declared.node.Presence.{Presence}

-- the place of a component
abbrev pub place_made : Presence → Grammar → ℕ → Drawn (Option Data)
place_made p g s = after (presence p s) (λ there t. if there then is Some (made g t) else record { value = None; state = t })

-- one of the alternatives
abbrev pub choice_made : Alternatives → ℕ → Drawn Data
choice_made cases s = after (pick (alternative_count cases) s) (λ i t. is (alt i) (alternative_made cases i t))
