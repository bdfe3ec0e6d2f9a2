-- How many octets the contents of a value have.
use Rattle.std.proofs.Common.{◌≡◌, ℕ, Bool, List, arith}
use Rattle.acn_num.specs.Bits.{octets as octets_for}
use Rattle.acn_grammar.specs.Code.{Mode}
use Rattle.acn_grammar.specs.Env.{Env}
use Rattle.acn_grammar.specs.Grammar.{Grammar, Data}
use Rattle.acn_grammar.specs.Length.{bit_length}
use Rattle.acn_grammar.specs.Spell.{Spell, Window, Fill}
use Rattle.acn_grammar.proofs.SpellLength.{Steady, then-length}
use Rattle.acn_packet_laws.proofs.LengthLaw.{length_law}

pub content_octets : (root : Grammar) (mode : Mode) (g : Grammar) → Steady g → (env : Env) (d : Data) (n at : ℕ) (bs : List Bool) → Window (Spell root mode g env d) (Fill mode) n at bs → n ≡ octets_for (bit_length g 0 d)
content_octets root mode g w env d n at bs t =
    let l = length_law root mode g w env d 0 t.inside.front t.inside.first in
    omega (arith, t.size, then-length t.inside, l, t.inside.second.aligned, t.inside.second.few)
