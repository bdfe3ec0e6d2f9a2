-- Bits that were read, and put as digits.
use Rattle.std.proofs.Common.{◌≡◌, ℕ, ◌+◌, ◌<◌, ◌≤◌, Bool, true, false, List, [], ◌∷◌, ◌++◌, length, take, refl, sym, ap, ◌∙◌, arith, inl, inr, ◌⊎◌, append-nil, append_assoc, length-append}
use Rattle.std.specs.Prelude.{map}
use Rattle.json.specs.Print.{quoted}
use Rattle.acn_num.specs.Bits.{number}
use Rattle.acn_bits.specs.Reading.{Reading, Reads, passed}
use Rattle.acn_bits.proofs.Readings.{reads_nothing, reads_join}
use Rattle.acn_json.specs.Lines.{bit_digit}
use Rattle.acn_json.proofs.Escapes.{digits-escape}
use Rattle.acn_reads.specs.Steps.{AreBits}
use Rattle.acn_reads.proofs.StringReads.{no_bits, bits_more, one_bit}

-- so many bits were read, and their digits put
abbrev pub PutsBits : ℕ → (text text' : List ℕ) → Reading → Reading → Type 0
PutsBits n text text' a b = (bs : List Bool) × Reads (AreBits n bs) a b × (text' ≡ text ++ map bit_digit bs)

map_append : (a b : List Bool) → map bit_digit (a ++ b) ≡ map bit_digit a ++ map bit_digit b
map_append [] b = refl
map_append (x ∷ a) b = ap (λ r. bit_digit x ∷ r) (map_append a b)

pub no_bits_put : (text : List ℕ) (a : Reading) → PutsBits 0 text text a a
no_bits_put text a = ([], reads_nothing (AreBits 0 []) a a refl (record { size = refl; same = refl }), sym (append-nil text))

pub more_bits_put : (n m : ℕ) (s t u : List ℕ) (a b c : Reading) → PutsBits n s t a b → PutsBits m t u b c → PutsBits (n + m) s u a c
more_bits_put n m s t u a b c p q = (
  p.0 ++ q.0,
  reads_join (AreBits n p.0) (AreBits m q.0) (AreBits (n + m) (p.0 ++ q.0)) a b c
      (λ x y f g. record {
        size = length-append p.0 q.0 ∙ (ap (λ (i : ℕ). i + length q.0) f.size ∙ ap (λ (i : ℕ). n + i) g.size);
        same = ap (λ r. r ++ y) f.same ∙ ap (λ r. p.0 ++ r) g.same;
      }) p.1 q.1,
  q.2 ∙ (ap (λ r. r ++ map bit_digit q.0) p.2 ∙ (append_assoc s (map bit_digit p.0) (map bit_digit q.0) ∙ ap (λ r. s ++ r) (sym (map_append p.0 q.0)))),
)

pub bits_left : (n i : ℕ) (s t : List ℕ) (a b : Reading) → i < n → n ≤ length a.rest → PutsBits i s t a b → 1 ≤ length b.rest
bits_left n i s t a b h room p =
    let l = ap length p.1.split ∙ length-append p.1.front b.rest in
    let f = ap length p.1.holds.same ∙ p.1.holds.size in
    omega (arith, l, f, room, h)

pub bit_small : (bs : List Bool) → 1 ≤ length bs → number (take 1 bs) < 2
bit_small bs h = by (one_bit bs h)
  where
    by : (take 1 bs ≡ true ∷ []) ⊎ (take 1 bs ≡ false ∷ []) → number (take 1 bs) < 2
    by (inl e) = rw e (omega arith)
    by (inr e) = rw e (omega arith)

pub bit_put : (v : ℕ) (s t : List ℕ) (a b : Reading) → 1 ≤ length a.rest → v ≡ number (take 1 a.rest) → b ≡ passed 1 a → t ≡ s ++ (48 + v) ∷ [] → PutsBits 1 s t a b
bit_put v s t a b room e moved put = by (one_bit a.rest room)
  where
    by : (take 1 a.rest ≡ true ∷ []) ⊎ (take 1 a.rest ≡ false ∷ []) → PutsBits 1 s t a b
    by (inl q) = (true ∷ [], (bits_more 1 0 [] true a a b (omega arith) (no_bits 1 a room) (sym q) moved).read, put ∙ ap (λ (n : ℕ). s ++ (48 + n) ∷ []) (e ∙ ap number q))
    by (inr q) = (false ∷ [], (bits_more 1 0 [] false a a b (omega arith) (no_bits 1 a room) (sym q) moved).read, put ∙ ap (λ (n : ℕ). s ++ (48 + n) ∷ []) (e ∙ ap number q))

-- the string of so many bits, with its quotes
pub binary_put : (n : ℕ) (s t u v : List ℕ) (a b : Reading) → t ≡ s ++ 34 ∷ [] → PutsBits n t u a b → v ≡ u ++ 34 ∷ [] → (bs : List Bool) × Reads (AreBits n bs) a b × (v ≡ s ++ quoted (map bit_digit bs))
binary_put n s t u v a b begun p ended =
    let digits = map bit_digit p.0 in (
      p.0,
      p.1,
      ended ∙ (ap (λ x. x ++ 34 ∷ []) (p.2 ∙ ap (λ x. x ++ digits) begun)
          ∙ (append_assoc (s ++ 34 ∷ []) digits (34 ∷ []) ∙ (append_assoc s (34 ∷ []) (digits ++ 34 ∷ []) ∙ ap (λ d. s ++ 34 ∷ (d ++ 34 ∷ [])) (sym (digits-escape p.0))))),
    )
