-- A chain as plain data.
use Rattle.std.specs.Prelude.{ℕ, List, map}
use Rattle.std.specs.Borrow.{Bor}
use Rattle.acn_asn_syntax.specs.Mirror as plain
use Rattle.acn_asn_syntax.specs.View.{type_view, constraint_view}
use Rattle.acn_asn_syntax.specs.declared.types.Constraint.{Constraint}
use Rattle.acn_acn_syntax.specs.View.{entry_of}
use Rattle.acn_index.specs.Lookup as lookup
use Rattle.acn_index.specs.Chains.{ChainOf}
use Rattle.acn_world.specs.declared.entries.EntryAt.{EntryAt}
use Rattle.acn_world.specs.declared.chains.Chain.{Chain}

abbrev pub constraints_view : List (ℕ × Bor Constraint) → List (ℕ × plain.Constraint)
constraints_view cs = map (λ (c : ℕ × Bor Constraint). (c.0, constraint_view c.1.now)) cs

abbrev pub entry_view : EntryAt → lookup.EntryAt
entry_view e = record { owner = e.module; acn = e.acn; entry = e.entry; is = entry_of e.is.now }

abbrev pub entries_view : List EntryAt → List lookup.EntryAt
entries_view es = map entry_view es

abbrev pub chain_view : Chain → ChainOf
chain_view c = record { base = type_view c.base.now; owner = c.module; constraints = constraints_view c.constraints; entries = entries_view c.entries }
