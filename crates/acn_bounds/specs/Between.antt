-- What bounds say of the spellings of a packet. (This profile's own.)
use Rattle.std.specs.Prelude.{◌≡◌, ℕ, ◌≤◌, Bool, List, [], length, Some}
use Rattle.acn_grammar.specs.Code.{Mode}
use Rattle.acn_grammar.specs.Env.{Env}
use Rattle.acn_grammar.specs.Grammar.{Grammar, Data}
use Rattle.acn_grammar.specs.Meets.{Meets}
use Rattle.acn_grammar.specs.Paths.{node_at}
use Rattle.acn_grammar.specs.Spell.{Spell}
use Rattle.acn_grammar.specs.declared.bounds.Bounds.{Bounds}
use Rattle.acn_grammar.specs.declared.limits.TheConstants.{MOST_PACKET_BITS}

-- so many bits are no fewer and no more than the two
abbrev pub Holds : Bounds → (bits : ℕ) → Type 0
Holds b bits = (b.least ≤ bits) × (bits ≤ b.greatest)

-- every spelling of a packet, written or read, has so many bits
abbrev pub SpellingsLieBetween : Grammar → Bounds → Type 0
SpellingsLieBetween root b = (mode : Mode) (d : Data) (bs : List Bool) → Spell root mode root [] d 0 bs → Holds b (length bs)

-- So has every spelling of a value that meets the node at the path, wherever it begins and whatever the numbers of slots are, where the greatest bound is within a packet's limit.
abbrev pub NodeLiesBetween : Grammar → (path : List ℕ) → Bounds → Type 0
NodeLiesBetween root path b =
    (g : Grammar) (mode : Mode) (env : Env) (d : Data) (at : ℕ) (bs : List Bool) → node_at root path ≡ Some g → b.greatest ≤ MOST_PACKET_BITS → Meets g d → Spell root mode g env d at bs → Holds b (length bs)
