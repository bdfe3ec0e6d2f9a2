-- What a line gives.
use Rattle.std.proofs.Common.{◌≡◌, ℕ, ◌<◌, false, List, [], ◌∷◌, length, Result, Ok, Err, sym, ap, arith}
use Rattle.acn_grammar.specs.Grammar.{Grammar, Data}
use Rattle.acn_json.specs.Reads.{LineFault, made, line_gives}
use Rattle.acn_json.specs.declared.json_fault.JsonFault.{JsonFault}
use Rattle.acn_stream.specs.Encoding.{IsWrittenPacket, IsBad, is_blank, line_fault_of}
use Rattle.acn_stream.specs.Passing.{Adds, PutsValue, PutsLine, RefusesValue, Fails}
use Rattle.acn_stream.specs.declared.lines.LineFault.{LineFault as Why}
use Rattle.acn_stream.specs.declared.lines.LineFault.TheVariants as why
use Rattle.acn_stream.proofs.Joining.{joined_one}
use Rattle.std.proofs.Common.{Some}

pub bad_line : (g : Grammar) (line : List ℕ) (fault : JsonFault) (kept : LineFault) → is_blank line ≡ false → line_fault_of fault ≡ Some kept → Err kept ≡ line_gives g line → IsBad g line fault
bad_line g line fault kept blank told e = record { kept = kept; told = told; gives = rw blank (ap (made (λ (d : Data). d ∷ [])) (sym e)) }

pub some_bytes_there : (line : List ℕ) → is_blank line ≡ false → 0 < length line
some_bytes_there [] h = absurd cc
some_bytes_there (b ∷ line) h = omega arith

adds_one : (g : Grammar) (line : List ℕ) (d : Data) (old new : List ℕ) (count : ℕ) → is_blank line ≡ false → Ok d ≡ line_gives g line → PutsValue g d old new (Ok count) → Adds g line old new count
adds_one g line d old new count blank e p = record {
  values = d ∷ [];
  packets = p.0;
  gives = rw blank (ap (made (λ (x : Data). x ∷ [])) (sym e));
  are = joined_one (IsWrittenPacket g) d p.0 p.2;
  added = p.1;
  counted = sym p.3;
  few = omega (arith, p.3);
  short = omega (arith, p.3, some_bytes_there line blank);
}

-- the packet of the value that a line gives is that of the line
pub puts_line : (g : Grammar) (line : List ℕ) (d : Data) (old new : List ℕ) (result : Result ℕ Why) → is_blank line ≡ false → Ok d ≡ line_gives g line → PutsValue g d old new result → PutsLine g line old new result
puts_line g line d old new (Ok count) blank e p = adds_one g line d old new count blank e p
puts_line g line d old new (Err fault) blank e p = (p.0, some_bytes_there line blank, fails fault p.1)
  where
    fails : (fault : Why) → RefusesValue g d fault → Fails g line fault
    fails (why.Bad bad) r = absurd r
    fails (why.Unfit unfit) r = record { value = d; gives = rw blank (ap (made (λ (x : Data). x ∷ [])) (sym e)); refused = r.0; only = r.1; unspelled = r.2 }
    fails why.NoMemory r = tt
