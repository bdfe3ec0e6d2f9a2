-- What holds of every grammar that the checker accepts. (This profile's own.)
use Rattle.std.specs.Prelude.{◌≡◌, ◌↔◌, ◌⊎◌, ℕ, ◌≤◌, Bool, List, [], ◌++◌, length}
use Rattle.acn_grammar.specs.Code.{Any}
use Rattle.acn_grammar.specs.Fails.{Fault, Refusal}
use Rattle.acn_grammar.specs.Front.{Front, IsWritten}
use Rattle.acn_grammar.specs.Grammar.{Grammar, Data}
use Rattle.acn_grammar.specs.Interval.{span}
use Rattle.acn_grammar.specs.Meets.{Meets}
use Rattle.acn_grammar.specs.Spell.{Spell}
use Rattle.acn_packet_laws.specs.Laws.{IsAccepted}

module _ (g : Grammar) where
  -- some numbers satisfy the determinants of the value: it has a spelling
  abbrev pub HasSpelling : Data → Type 0
  HasSpelling d = (bs : List Bool) × Spell g Any g [] d 0 bs

  abbrev pub HasWriting : Data → Type 0
  HasWriting d = (bs : List Bool) × IsWritten g d bs

  -- these bits begin with a spelling of the value that has so many bits, with no other, and nothing fails
  pub record IsOnlyFront (input : List Bool) (d : Data) (n : ℕ) : Type 0 where
    pub front : Front g input d n
    pub alone : (other : Data) (m : ℕ) → Front g input other m → (other ≡ d) × (m ≡ n)
    pub sound : (fault : Fault) (reach : ℕ) → Refusal g input fault reach → ⊥

  -- these bits fail in this way, in no other, and begin with no spelling
  pub record IsOnlyFailure (input : List Bool) (fault : Fault) : Type 0 where
    pub reach : ℕ
    pub fails : Refusal g input fault reach
    pub alone : (other : Fault) (more : ℕ) → Refusal g input other more → other ≡ fault
    pub no_front : (d : Data) (n : ℕ) → Front g input d n → ⊥

  pub record KeepsItsPromise : Type 0 where
    -- a value is written exactly where some numbers satisfy its determinants
    pub written : (d : Data) → HasWriting d ↔ HasSpelling d
    -- and then it meets its constraints
    pub meets : (d : Data) → HasSpelling d → Meets g d
    -- in one way
    pub one_way : (d : Data) (bs other : List Bool) → IsWritten g d bs → IsWritten g d other → other ≡ bs
    -- what is written is read as that value whatever follows, and has exactly its bits
    pub read_again : (d : Data) (bs more : List Bool) → IsWritten g d bs → IsOnlyFront (bs ++ more) d (length bs)
    -- and lies within the bounds
    pub within : (d : Data) (bs : List Bool) → IsWritten g d bs → ((span g).least ≤ length bs) × (length bs ≤ (span g).greatest)
    -- an input is read exactly where it begins with a spelling, and fails in one way where it doesn't
    pub read : (input : List Bool) → ((d : Data) × (n : ℕ) × IsOnlyFront input d n) ⊎ ((fault : Fault) × IsOnlyFailure input fault)

abbrev pub EachGrammarKeepsItsPromise : Type 0
EachGrammarKeepsItsPromise = (g : Grammar) → IsAccepted g → KeepsItsPromise g
