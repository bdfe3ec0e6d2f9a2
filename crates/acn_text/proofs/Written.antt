-- Texts that are written in parts.
use Rattle.std.proofs.Common.{◌≡◌, ℕ, ◌+◌, Bool, List, ◌++◌, length, sym, ap, ◌∙◌, subst, arith}
use Rattle.acn_bits.specs.Writing.{Writes, place_of, Puts}
use Rattle.acn_bits.specs.declared.write_cursor.WriteCursor.{WriteCursor}
use Rattle.acn_ints.proofs.Writings.{writes_twice}
use Rattle.acn_grammar.specs.Length.{text_length}
use Rattle.acn_grammar.specs.declared.node.TextLeaf.{TextLeaf}
use Rattle.acn_text.specs.Texts.{TextCode, given_size}
use Rattle.acn_text.specs.Steps.{text_bits}
use Rattle.acn_text.proofs.Spelled.{MeetsText, text_spelled, text_bits_long}
use Rattle.acn_grammar.proofs.TextRules.{TextRules}

-- two writings, the second where the first ends
pub two_writes : {N : ℕ} (old mid new : WriteCursor N) (a b : List Bool) (n m : ℕ) → Writes old mid (place_of old) a (place_of old + n) → n ≡ length a → Writes mid new (place_of mid) b (place_of mid + m) → Writes old new (place_of old) (a ++ b) (place_of old + (n + m))
two_writes old mid new a b n m x e y =
    let at = x.moved in
    let y' : Writes mid new (place_of old + n) b (place_of mid + m) = subst (λ (k : ℕ). Writes mid new k b (place_of mid + m)) at y in
    let end : place_of mid + m ≡ place_of old + (n + m) = omega (arith, at) in
    subst (λ (k : ℕ). Writes old new (place_of old) (a ++ b) k) end (writes_twice old mid new (place_of old) (place_of old + n) (place_of mid + m) a b x (ap (λ (k : ℕ). place_of old + k) e) y')

-- what was written is the text's code
pub text_puts : {N : ℕ} (leaf : TextLeaf) (cs : List ℕ) (old new : WriteCursor N) (n : ℕ) → TextRules leaf → MeetsText leaf cs → n ≡ text_length leaf.ended leaf (length cs) → Writes old new (place_of old) (text_bits leaf.ended leaf cs) (place_of old + n) → Puts (TextCode leaf (given_size leaf.sized.rule (length cs)) cs) old new
text_puts leaf cs old new n f m e w = record {
  code = text_bits leaf.ended leaf cs;
  writes = subst (λ (k : ℕ). Writes old new (place_of old) (text_bits leaf.ended leaf cs) (place_of old + k)) (e ∙ sym (text_bits_long leaf f leaf.ended cs m)) w;
  holds = text_spelled leaf f cs m;
}

-- a writing behind no bits
pub behind_none : {N : ℕ} (old new : WriteCursor N) (bs : List Bool) (n : ℕ) → Writes old new (place_of old) bs (place_of old + (0 + n)) → Writes old new (place_of old) bs (place_of old + n)
behind_none old new bs n w = (let e : 0 + n ≡ n = omega arith in subst (λ (k : ℕ). Writes old new (place_of old) bs (place_of old + k)) e w)
