-- The bits that were taken are the code of the number that is as far behind the least one as the code is behind the first one.
use Rattle.std.proofs.Common.{◌≡◌, ℕ, ◌+◌, ◌-◌, ◌%◌, ◌^◌, ◌<◌, ◌≤◌, ℤ, pos, ◌+ℤ◌, length, take, arith}
use Rattle.std.proofs.Math.Nat.{pow-le-pow_right}
use Rattle.std.proofs.lemmas.List.{length-take-le}
use Rattle.acn_num.specs.Bits.{number}
use Rattle.acn_bits.specs.Reading.{Reading, Reads, passed}
use Rattle.acn_bits.proofs.Readings.{reads_passed}
use Rattle.acn_grammar.specs.Code.{Any, Code}
use Rattle.acn_grammar.specs.declared.node.NumLeaf.{NumLeaf}
use Rattle.acn_cut.specs.Cuts.{IsCut}
use Rattle.acn_cut.specs.declared.cut.Cut.{Cut}

-- what so many bits hold lies below what a word holds
below_word : (first span width : ℕ) → width ≤ 64 → first + span < 2 ^ width → first + span < 2 ^ 64
below_word first span width few fits =
    let room = pow-le-pow_right {n = 2} (omega arith) {i = width} {j = 64} few in
    omega (arith, room, fits)

pub reads_code : (cut : Cut) (leaf : NumLeaf) (code : ℕ) (x : ℤ) (old new : Reading) → IsCut cut leaf → code ≡ number (take cut.width old.rest) → cut.width ≤ length old.rest → new ≡ passed cut.width old
    → code < 18446744073709551616 → (code + (18446744073709551616 - cut.first)) % 18446744073709551616 ≤ cut.span → x ≡ cut.low +ℤ pos ((code + (18446744073709551616 - cut.first)) % 18446744073709551616)
    → Reads (Code Any leaf x) old new
reads_code cut leaf code x old new is value within moved fits few far =
    let last = below_word cut.first cut.span cut.width is.width is.fits in
    reads_passed (Code Any leaf x) cut.width old new within moved (rw far (is.codes Any _ (take cut.width old.rest) few (record { width = length-take-le cut.width old.rest within; value = omega arith })))
