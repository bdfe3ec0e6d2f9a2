-- Codes that are written in parts.
use Rattle.std.proofs.Common.{◌≡◌, ℕ, ◌+◌, ◌*◌, ◌^◌, ◌<◌, ◌≤◌, ℤ, pos, ◌+ℤ◌, Bool, false, List, ◌++◌, length, take, drop, refl, sym, ap, ◌∙◌, subst, arith, length-append}
use Rattle.std.proofs.lemmas.List.{take_at}
use Rattle.acn_num.specs.Bits.{number, signed_number, low_bits, bits, IsNumber, IsSigned}
use Rattle.acn_bits.specs.Overwrite.{overwritten}
use Rattle.acn_bits.specs.Writing.{Writes, place_of, Puts}
use Rattle.acn_bits.specs.declared.write_cursor.WriteCursor.{WriteCursor}
use Rattle.acn_num.proofs.BitLists.{length-low_bits, number_below}
use Rattle.acn_bits.proofs.Parts.{overwritten-append, length-overwritten}
use Rattle.acn_grammar.specs.Code.{Written, CodingCode, Counted}
use Rattle.acn_grammar.specs.Length.{least_octets, least_signed_octets}
use Rattle.acn_ints.specs.Limits.{CanWrite}
use Rattle.acn_grammar.specs.declared.node.NumCoding.TheVariants.{CountedFrom, CountedSigned}
use Rattle.acn_ints.proofs.PieceLemmas.{low_same}
use Rattle.acn_ints.proofs.CountedCodes.{least_octets_le, least_signed_le, signed_within}
use Rattle.acn_grammar.proofs.Counts.{number_bits}

-- two writings, one behind the other, are one
pub writes_twice : {N : ℕ} (old mid new : WriteCursor N) (at m end : ℕ) (a b : List Bool) → Writes old mid at a m → m ≡ at + length a → Writes mid new m b end → Writes old new at (a ++ b) end
writes_twice old mid new at m end a b x e y =
    let long : length (bits mid.buf.now) ≡ length (bits old.buf.now) = ap length x.changed ∙ length-overwritten (bits old.buf.now) at a x.within in
    let sum = length-append a b in
    let w = y.within in
    record {
      within = omega (arith, sum, long, w, e);
      same_buffer = y.same_buffer ∙ x.same_buffer;
      changed = y.changed ∙ ap (λ (t : List Bool). overwritten t m b) x.changed ∙ ap (λ (k : ℕ). overwritten (overwritten (bits old.buf.now) at a) k b) e ∙ overwritten-append (bits old.buf.now) at a b x.within;
      moved = y.moved;
    }

-- a count and its octets are a counted code
counted_code : (fits : ℕ → List Bool → Type 0) (c v : ℕ) → 0 < c → c ≤ 8 → fits c (low_bits (8 * c) v) → ((d : ℕ) (other : List Bool) → 0 < d → fits d other → c ≤ d) → Counted fits (low_bits 8 c ++ low_bits (8 * c) v)
counted_code fits c v some few spells least = record {
  count = c;
  front = low_bits 8 c;
  body = low_bits (8 * c) v;
  whole = refl;
  counts = number_bits 8 c (omega arith);
  spells = spells;
  positive = some;
  least = least;
}

counted_puts : {N : ℕ} (P : List Bool → Type 0) (old new : WriteCursor N) (c v : ℕ) → Writes old new (place_of old) (low_bits 8 c ++ low_bits (8 * c) v) (place_of old + (8 + 8 * c)) → P (low_bits 8 c ++ low_bits (8 * c) v) → Puts P old new
counted_puts P old new c v w holds =
    let long : length (low_bits 8 c ++ low_bits (8 * c) v) ≡ 8 + 8 * c = length-append (low_bits 8 c) (low_bits (8 * c) v) ∙ ap (λ (k : ℕ). 8 + k) (length-low_bits (8 * c) v) in
    record {
      code = low_bits 8 c ++ low_bits (8 * c) v;
      writes = subst (λ (k : ℕ). Writes old new (place_of old) (low_bits 8 c ++ low_bits (8 * c) v) (place_of old + k)) (sym long) w;
      holds = holds;
    }

pub from_puts : {N : ℕ} (low y : ℤ) (old new : WriteCursor N) (c v : ℕ) (can : CanWrite (CountedFrom low) y) → v ≡ can.0 → c ≡ least_octets v → 0 < c → c ≤ 8 → v < 2 ^ (8 * c)
    → Writes old new (place_of old) (low_bits 8 c ++ low_bits (8 * c) v) (place_of old + (8 + 8 * c)) → Puts (CodingCode Written (CountedFrom low) false y) old new
from_puts low y old new c v can e l some few fits w =
    counted_puts (CodingCode Written (CountedFrom low) false y) old new c v w
    (v, can.1 ∙ ap (λ (k : ℕ). low +ℤ pos k) (sym e), counted_code (λ d body. IsNumber (8 * d) v body) c v some few (number_bits (8 * c) v fits) (λ d other p is. le_from c (least_octets v) d l (least_octets_le d v p (below_of d other is))))
  where
    le_from : (a b d : ℕ) → a ≡ b → b ≤ d → a ≤ d
    le_from a b d x y = omega arith

    below_of : (d : ℕ) (other : List Bool) → IsNumber (8 * d) v other → v < 2 ^ (8 * d)
    below_of d other is = subst (λ (k : ℕ). v < 2 ^ k) is.width (subst (λ (k : ℕ). k < 2 ^ length other) is.value (number_below other))

pub signed_puts : {N : ℕ} (y : ℤ) (old new : WriteCursor N) (c v : ℕ) → ((bs : List Bool) → IsNumber (8 * c) v bs → signed_number bs ≡ y) → c ≡ least_signed_octets y → 0 < c → c ≤ 8 → v < 2 ^ (8 * c)
    → Writes old new (place_of old) (low_bits 8 c ++ low_bits (8 * c) v) (place_of old + (8 + 8 * c)) → Puts (CodingCode Written CountedSigned false y) old new
signed_puts y old new c v value l some few fits w =
    let body : IsSigned (8 * c) y (low_bits (8 * c) v) = record { width = length-low_bits (8 * c) v; value = value (low_bits (8 * c) v) (number_bits (8 * c) v fits) } in
    counted_puts (CodingCode Written CountedSigned false y) old new c v w (counted_code (λ d bs. IsSigned (8 * d) y bs) c v some few body least_of)
  where
    least_of : (d : ℕ) (other : List Bool) → 0 < d → IsSigned (8 * d) y other → c ≤ d
    least_of d other p is =
        let b = signed_within (8 * d) other y (omega (arith, p)) is in
        let up = least_signed_le d y p b.0 b.1 in
        omega (arith, up, l)

pub octets_written : {N : ℕ} (old mid new : WriteCursor N) (c c' v : ℕ) → c' ≡ c → Writes old mid (place_of old) (low_bits 8 c') (place_of old + 8) → Writes mid new (place_of mid) (low_bits (8 * c) v) (place_of mid + 8 * c)
    → Writes old new (place_of old) (low_bits 8 c ++ low_bits (8 * c) v) (place_of old + (8 + 8 * c))
octets_written old mid new c c' v e x y =
    let x' : Writes old mid (place_of old) (low_bits 8 c) (place_of mid) = record { within = x.within; same_buffer = x.same_buffer; changed = x.changed ∙ ap (λ (k : ℕ). overwritten (bits old.buf.now) (place_of old) (low_bits 8 k)) e; moved = refl } in
    let both = writes_twice old mid new (place_of old) (place_of mid) (place_of mid + 8 * c) (low_bits 8 c) (low_bits (8 * c) v) x' x.moved y in
    let end : place_of mid + 8 * c ≡ place_of old + (8 + 8 * c) = let m = x.moved in omega (arith, m) in
    subst (λ (k : ℕ). Writes old new (place_of old) (low_bits 8 c ++ low_bits (8 * c) v) k) end both

-- a code that is written alone stands at the front of the buffer
pub alone : {N : ℕ} (P : List Bool → Type 0) (n : ℕ) (old new : WriteCursor N) (final : List ℕ) → final ≡ new.buf.now → place_of old ≡ 0 → Puts P old new → place_of new ≡ place_of old + n
    → P (take n (bits final)) × (length (take n (bits final)) ≡ n)
alone P n old new final is front p long =
    let m = p.writes.moved in
    let size : length p.code ≡ n = omega (arith, m, long) in
    let all : bits final ≡ p.code ++ drop (0 + length p.code) (bits old.buf.now) = ap bits is ∙ p.writes.changed ∙ ap (λ (k : ℕ). overwritten (bits old.buf.now) k p.code) front in
    let cut : take n (bits final) ≡ p.code = ap (take n) all ∙ take_at p.code (drop (0 + length p.code) (bits old.buf.now)) n size in
    (subst P (sym cut) p.holds, ap length cut ∙ size)

-- the number at the front spells the code
pub front_code : (P : List Bool → Type 0) (width n v : ℕ) (all : List Bool) → width ≡ n → P (take n all) → length (take n all) ≡ n → v ≡ number (take width all) → (v < 2 ^ width) × P (low_bits width v)
front_code P width n v all e holds long is =
    let value : number (take n all) ≡ v = ap (λ (k : ℕ). number (take k all)) (sym e) ∙ sym is in
    let number_is : IsNumber n v (take n all) = record { width = long; value = value } in
    let below : number (take n all) < 2 ^ n = subst (λ (k : ℕ). number (take n all) < 2 ^ k) long (number_below (take n all)) in
    (subst (λ (k : ℕ). v < 2 ^ k) (sym e) (subst (λ (k : ℕ). k < 2 ^ n) value below), subst (λ (k : ℕ). P (low_bits k v)) (sym e) (subst P (sym (low_same n v (take n all) number_is)) holds))
