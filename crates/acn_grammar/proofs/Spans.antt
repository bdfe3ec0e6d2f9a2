-- Lengths between bounds: parts that follow each other, one of two, and as many as there are.
use Rattle.std.proofs.Common.{◌≡◌, ℕ, zero, suc, ◌+◌, ◌*◌, ◌^◌, ◌<◌, ◌≤◌, refl, sym, ap, ◌∙◌, arith, length, [], true, false, subst}
use Rattle.std.proofs.Math.Nat.{mul-le-mul_right}
use Rattle.acn_num.specs.Bits.{octets as octets_for}
use Rattle.acn_grammar.specs.Interval.{held, exactly, plus, times, hull, in_octets, component_span}
use Rattle.acn_grammar.specs.Length.{bit_before}
use Rattle.acn_grammar.specs.Shaped.{may_be_absent}
use Rattle.acn_grammar.specs.declared.bounds.Bounds.{Bounds}
use Rattle.acn_grammar.specs.declared.node.Presence.{Presence}
use Rattle.acn_grammar.specs.declared.node.Presence.TheVariants.{Always, Bit, When}
use Rattle.acn_grammar.proofs.Monotone.{Has}

-- The least is no more than the number, and the greatest no less, where it isn't held down.
pub record Between (b : Bounds) (n : ℕ) : Type 0 where
  pub low : b.least ≤ n
  pub high : b.greatest < 2 ^ 40 → n ≤ b.greatest

pub exactly_spans : (n : ℕ) → Between (exactly n) n
exactly_spans n = record { low = omega arith; high = λ h. omega arith }

pub plus_spans : (a b : Bounds) (m n : ℕ) → Between a m → Between b n → Between (plus a b) (m + n)
plus_spans a b m n p q =
    let one = p.low in
    let two = q.low in
    record { low = omega arith; high = λ h. omega (arith, p.high (omega arith), q.high (omega arith)) }

pub hull_first : (a b : Bounds) (n : ℕ) → Between a n → Between (hull a b) n
hull_first a b n p = let one = p.low in record { low = omega arith; high = λ h. omega (arith, p.high (omega arith)) }

pub hull_second : (a b : Bounds) (n : ℕ) → Between b n → Between (hull a b) n
hull_second a b n p = let one = p.low in record { low = omega arith; high = λ h. omega (arith, p.high (omega arith)) }

times_high : (a e : Bounds) (c n : ℕ) → c ≤ a.greatest → (e.greatest < 2 ^ 40 → n ≤ c * e.greatest) → (c ≡ 0 → n ≡ 0) → held (a.greatest * e.greatest) < 2 ^ 40 → n ≤ held (a.greatest * e.greatest)
times_high a e zero n h high none small = let z = none refl in omega arith
times_high a e (suc c) n h high none small =
    let one = mul-le-mul_right {m = 1} {n = a.greatest} e.greatest (omega arith) in
    let two = mul-le-mul_right {m = suc c} {n = a.greatest} e.greatest h in
    let three = high (omega arith) in
    omega arith

pub times_spans : (a e : Bounds) (c n : ℕ) → Has a c → c * e.least ≤ n → (e.greatest < 2 ^ 40 → n ≤ c * e.greatest) → (c ≡ 0 → n ≡ 0) → Between (times a e) n
times_spans a e c n h low high none =
    record { low = omega (arith, mul-le-mul_right {m = a.least} {n = c} e.least h.0); high = times_high a e c n h.1 high none }

-- as many parts of one width
pub same_spans : (a : Bounds) (c w n : ℕ) → Has a c → n ≡ w * c → Between (times a (exactly w)) n
same_spans a c w n h e =
    times_spans a (exactly w) c n h (omega (arith, held_low c w, e)) (λ small. omega (arith, held_high c w small, e)) (λ z. none c w n z e)
  where
    held_low : (c w : ℕ) → c * held w ≤ w * c
    held_low c w = omega (arith, mul-le-mul_right {m = held w} {n = w} c (omega arith))

    held_high : (c w : ℕ) → held w < 2 ^ 40 → w * c ≤ c * held w
    held_high c w s = omega (arith, mul-le-mul_right {m = w} {n = held w} c (omega arith))

    none : (c w n : ℕ) → c ≡ 0 → n ≡ w * c → n ≡ 0
    none c w n z e = e ∙ (ap (λ k. w * k) z ∙ omega arith)

pub octets_span : (b : Bounds) (m : ℕ) → Between b m → Between (in_octets b) (8 * octets_for m)
octets_span b m p = let low = p.low in record { low = omega arith; high = λ s. omega (arith, p.high (omega arith)) }

pub there_spans : (presence : Presence) (b : Bounds) (n : ℕ) → Between b n → Between (component_span presence b) (length (bit_before presence true []) + n)
there_spans Always b n p = let one = p.low in record { low = omega arith; high = λ h. omega (arith, p.high h) }
there_spans Bit b n p = record { low = omega arith; high = λ h. omega (arith, p.high (omega arith)) }
there_spans (When ts) b n p = record { low = omega arith; high = λ h. omega (arith, p.high h) }

pub away_spans : (presence : Presence) (b : Bounds) → may_be_absent presence ≡ true → Between (component_span presence b) (length (bit_before presence false []))
away_spans Always b p = cc
away_spans Bit b p = record { low = omega arith; high = λ h. omega arith }
away_spans (When ts) b p = record { low = omega arith; high = λ h. omega arith }

pub moved_spans : (b : Bounds) (m n : ℕ) → m ≡ n → Between b n → Between b m
moved_spans b m n e p = subst (Between b) (sym e) p
