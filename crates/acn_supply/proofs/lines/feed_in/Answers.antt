use Rattle.std.proofs.Common.{◌≡◌, ℕ, ◌+◌, ◌<◌, List, ◌∷◌, ◌++◌, Option, None, Some, MatchOption, length, take, drop, subst, arith}
use Rattle.std.proofs.lemmas.List.{take_all}
use Rattle.memchr.specs.Find.{IsFirstByte, is_byte}
use Rattle.acn_supply.specs.Cutting.{IsOneLine}
use Rattle.acn_supply.proofs.Pieces.{one_below, cut_there}
use Rattle.acn_supply.proofs.lines.feed_in.Goals as goal

found : (bytes : List ℕ) (r : Option ℕ) → IsFirstByte (is_byte 10) bytes r
    → MatchOption r (IsOneLine bytes) (λ at. (at < length bytes) × IsOneLine (take at bytes) × (bytes ≡ take at bytes ++ 10 ∷ drop (at + 1) bytes))
found bytes None h = subst IsOneLine (take_all (length bytes) bytes (omega arith)) (one_below bytes (length bytes) (λ j less. h j (omega arith) less))
found bytes (Some at) h = (h.0.high, one_below bytes at (λ j less. h.0.before j (omega arith) less), cut_there bytes at h.0.high h.1)

pub returns : goal.returns
returns c = found c.args.bytes.now c.memchr.result c.memchr.ensures
