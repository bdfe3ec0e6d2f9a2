-- What packing in place answers. (This profile's own.)
use Rattle.std.specs.Prelude.{◌≡◌, ℕ, Bool, List, [], drop, length, take}
use Rattle.acn_num.specs.Bits.{bits, filled, octets}
use Rattle.acn_grammar.specs.Code.{Mode}
use Rattle.acn_grammar.specs.Front.{IsWritten}
use Rattle.acn_grammar.specs.Grammar.{Grammar, Data}
use Rattle.acn_grammar.specs.Meets.{Unfit}
use Rattle.acn_grammar.specs.Refused.{Refused}
use Rattle.acn_grammar.specs.Spell.{Spell}
use Rattle.acn_reads.specs.Answers.{IsReadAgain}

-- n bits are written for the value, and nothing else is; they begin the buffer, with the fewest zeros behind them that make whole
-- octets, and all later octets are as before
pub record IsPacked (root : Grammar) (d : Data) (n : ℕ) (before after : List ℕ) : Type 0 where
  pub spelling : List Bool
  pub written : IsWritten root d spelling
  pub only : (other : List Bool) → IsWritten root d other → other ≡ spelling
  pub counted : n ≡ length spelling
  pub first : bits (take (octets n) after) ≡ filled spelling
  pub later : drop (octets n) after ≡ drop (octets n) before

-- followed by any bits, the first n bits of the buffer are the one front, and nothing fails
abbrev pub PackedIsReadAgain : (root : Grammar) → Data → (n : ℕ) → (after : List ℕ) → Type 0
PackedIsReadAgain root d n after = IsReadAgain root d (take n (bits after))

-- the value is refused for this and for nothing else, and no bits spell it, neither written nor read
pub record IsRefusedFor (root : Grammar) (d : Data) (why : Unfit) : Type 0 where
  pub refused : Refused root d why
  pub only : (other : Unfit) → Refused root d other → other ≡ why
  pub unspelled : (mode : Mode) (bs : List Bool) → Spell root mode root [] d 0 bs → ⊥
