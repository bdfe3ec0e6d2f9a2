-- Padding that there is none of.
use Rattle.std.proofs.Common.{◌≡◌, ℕ, [], refl, sym, subst, arith}
use Rattle.acn_bits.specs.Reading.{Reading}
use Rattle.acn_reads.specs.Steps.{PadPassed}

pub no_padding : (align : ℕ) (a : Reading) → align ≡ 1 → PadPassed align a a
no_padding align a is = subst (λ n. PadPassed n a a) (sym is) (record { front = []; split = refl; moved = omega arith; window = refl; holds = record { aligned = omega arith; fewest = omega arith; zeros = λ e. refl } })
