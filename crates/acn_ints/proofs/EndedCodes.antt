-- Ended numbers: what their digits, end and sign say of the leaf.
use Rattle.std.proofs.Common.{◌≡◌, ℕ, ◌+◌, ◌^◌, ◌<◌, ◌≤◌, ℤ, pos, Bool, true, false, List, [], ◌∷◌, ◌++◌, length, take, refl, sym, ap, ◌∙◌, subst, arith, inl, inr, length-append, append_assoc, append-nil, ◌⊎◌, max}
use Rattle.std.specs.Prelude.{Result, Ok, Err, IfOk, IfErr}
use Rattle.std.proofs.lemmas.List.{length-take-le}
use Rattle.std.proofs.Math.Seq.{take-append_seam}
use Rattle.acn_num.specs.Bits.{number, low_bits}
use Rattle.acn_bits.specs.Reading.{Reading, Reads}
use Rattle.acn_num.proofs.BitLists.{number_same, number-low_bits, length-low_bits}
use Rattle.acn_bits.proofs.Loads.{small}
use Rattle.acn_grammar.specs.Code.{Any, CodingCode, IsMinimal, InMinimalDigits, nibbles, digit_octets}
use Rattle.acn_grammar.specs.Images.{images_of}
use Rattle.acn_grammar.specs.LeafFails.{Reason, bad_digit, too_long, not_minimal, out_of_range, DigitAt, EndAt, CharacterFails, cut, end_cut, digit_too_many, no_digit_no_end, end_alone, not_shortest, not_permitted, EndedFails, NoneHas, Positive, most_digits}
use Rattle.acn_grammar.specs.ReadFaults.{reason_of}
use Rattle.acn_grammar.specs.declared.node.NumLeaf.{NumLeaf}
use Rattle.acn_grammar.specs.declared.node.NumCoding.TheVariants.{BcdEnded, AsciiEnded}
use Rattle.acn_grammar.specs.declared.read_fault.ReadFault.{ReadFault}
use Rattle.acn_grammar.specs.declared.read_fault.ReadFault.TheVariants.{NotMinimal}
use Rattle.acn_ints.specs.declared.said.Said.{Said}
use Rattle.acn_ints.specs.EndedReads.{digit_codes, AreDecimal, NoDigit, PassedEnded, CharacterWrong, EndedWrong, IsSignedValue}
use Rattle.acn_ints.specs.Reads.{IsSaid, Refuses}
use Rattle.acn_bits.proofs.Readings.{reads_map}

-- the two ways to write digits are one

pub nibbles-codes : (ds : List ℕ) → nibbles ds ≡ digit_codes 4 0 ds
nibbles-codes [] = refl
nibbles-codes (d ∷ ds) = let e : 0 + d ≡ d = omega arith in rw e (ap (λ (t : List Bool). low_bits 4 d ++ t) (nibbles-codes ds))

pub octets-codes : (ds : List ℕ) → digit_octets ds ≡ digit_codes 8 48 ds
octets-codes [] = refl
octets-codes (d ∷ ds) = ap (λ (t : List Bool). low_bits 8 (48 + d) ++ t) (octets-codes ds)

-- A way to write digits.
pub record Style (code : List ℕ → List Bool) (size z : ℕ) : Type 0 where
  pub same : (ds : List ℕ) → code ds ≡ digit_codes size z ds
  pub fits : z + 10 ≤ 2 ^ size

module _ (code : List ℕ → List Bool) (size z : ℕ) (style : Style code size z) (end : List Bool) where
  one_code : (d : ℕ) → code (d ∷ []) ≡ low_bits size (z + d)
  one_code d = style.same (d ∷ []) ∙ append-nil (low_bits size (z + d))

  one_long : (d : ℕ) → length (code (d ∷ [])) ≡ size
  one_long d = ap length (one_code d) ∙ length-low_bits size (z + d)

  digit_at : (rest : List Bool) (d : ℕ) → size ≤ length rest → d < 10 → number (take size rest) ≡ z + d → DigitAt code rest
  digit_at rest d long below value =
      let fits = style.fits in
      let front : take size rest ≡ low_bits size (z + d) = number_same (take size rest) (low_bits size (z + d)) (length-take-le size rest long ∙ sym (length-low_bits size (z + d))) (value ∙ sym (number-low_bits size (z + d) ∙ small (z + d) (2 ^ size) (omega (arith, fits, below)))) in
      record { digit = d; below = below; stands = ap (λ (k : ℕ). take k rest) (one_long d) ∙ front ∙ sym (one_code d) }

  no_digit_at : (rest : List Bool) → NoDigit size z rest → DigitAt code rest → ⊥
  no_digit_at rest none at =
      let fits = style.fits in
      let below = at.below in
      let front : take size rest ≡ low_bits size (z + at.digit) = ap (λ (k : ℕ). take k rest) (sym (one_long at.digit)) ∙ at.stands ∙ one_code at.digit in
      none at.digit at.below (ap number front ∙ number-low_bits size (z + at.digit) ∙ small (z + at.digit) (2 ^ size) (omega (arith, fits, below)))

  -- the reason and how far it reaches
  abbrev pub Fails : NumLeaf → (most : ℕ) → (IsValue : ℕ → ℤ → Type 0) → List Bool → Reason → Type 0
  Fails leaf most IsValue rest r = (reach : ℕ) × EndedFails leaf code size end most IsValue rest r reach

  fails_at : (leaf : NumLeaf) (most : ℕ) (IsValue : ℕ → ℤ → Type 0) (rest behind : List Bool) (ds : List ℕ) (r : Reason) (more : ℕ) → rest ≡ digit_codes size z ds ++ behind → AreDecimal ds → length ds ≤ most
      → CharacterFails leaf code size end most IsValue ds behind r more → Fails leaf most IsValue rest r
  fails_at leaf most IsValue rest behind ds r more whole are few f =
      (length (code ds) + more, record { digits = ds; behind = behind; whole = whole ∙ ap (λ (t : List Bool). t ++ behind) (sym (style.same ds)); are = are; few = few; more = more; fails = f; reaches = refl })

  pub ended_wrong : (leaf : NumLeaf) (most : ℕ) (IsValue : ℕ → ℤ → Type 0) (rest : List Bool) (r : Reason) → EndedWrong size z end most rest r → Fails leaf most IsValue rest r
  ended_wrong leaf most IsValue rest r w = go w.wrong
    where
      at : (more : ℕ) → CharacterFails leaf code size end most IsValue w.digits w.behind r more → Fails leaf most IsValue rest r
      at more f = fails_at leaf most IsValue rest w.behind w.digits r more w.whole w.are w.few f

      go : CharacterWrong size z end w.behind r
          ⊎ ((size ≤ length w.behind) × ((d : ℕ) × (d < 10) × (number (take size w.behind) ≡ z + d)) × (length w.digits ≡ most) × (r ≡ too_long))
          ⊎ ((length end ≤ length w.behind) × EndAt end w.behind × (w.digits ≡ []) × (r ≡ bad_digit)) → Fails leaf most IsValue rest r
      go (inl (inl c)) = at (length w.behind) (cut (c.0, c.1, refl))
      go (inl (inr (inl c))) = at (length w.behind) (end_cut (c.0, no_digit_at w.behind c.1, c.2, c.3, refl))
      go (inl (inr (inr c))) = at (max size (length end)) (no_digit_no_end (c.0, no_digit_at w.behind c.1, c.2, c.3, c.4, refl))
      go (inr (inl c)) = at size (digit_too_many (c.0, digit_at w.behind c.1.0 c.0 c.1.1 c.1.2, c.2, c.3, refl))
      go (inr (inr c)) = at (length end) (end_alone (c.0, c.1, c.2, c.3, refl))

  -- what stands behind the digits
  behind_long : (new : Reading) → length end ≤ length (end ++ new.rest)
  behind_long new = let l = length-append end new.rest in omega arith

  behind_end : (new : Reading) → EndAt end (end ++ new.rest)
  behind_end new = take-append_seam end new.rest

  whole_of : (most k : ℕ) (minimal : Bool) (old new : Reading) → (p : PassedEnded size z end most old new k minimal) → old.rest ≡ digit_codes size z p.digits ++ (end ++ new.rest)
  whole_of most k minimal old new p = p.read.split ∙ ap (λ (t : List Bool). t ++ new.rest) p.read.holds ∙ append_assoc (digit_codes size z p.digits) end new.rest

  pub ended_not_minimal : (leaf : NumLeaf) (most k : ℕ) (minimal : Bool) (IsValue : ℕ → ℤ → Type 0) (old new : Reading) → PassedEnded size z end most old new k minimal → ((minimal ≡ true) × ((x : ℤ) × IsValue k x) → ⊥) → Fails leaf most IsValue old.rest not_minimal
  ended_not_minimal leaf most k minimal IsValue old new p none =
      fails_at leaf most IsValue old.rest (end ++ new.rest) p.digits not_minimal (length end) (whole_of most k minimal old new p) p.are p.few
      (not_shortest (behind_long new, behind_end new, p.some, (λ both. none (is_true minimal p.longer both.0, (both.1.0, subst (λ (j : ℕ). IsValue j both.1.0) (sym p.value) both.1.1))), refl, refl))
    where
      is_true : (b : Bool) → ((b ≡ true → ⊥) → IsMinimal p.digits → ⊥) → IsMinimal p.digits → b ≡ true
      is_true true f m = refl
      is_true false f m = absurd (f (λ e. cc) m)

  pub ended_out_of_range : (leaf : NumLeaf) (most k : ℕ) (minimal : Bool) (IsValue : ℕ → ℤ → Type 0) (old new : Reading) (x : ℤ) → PassedEnded size z end most old new k minimal → minimal ≡ true → IsValue k x → NoneHas leaf x → Fails leaf most IsValue old.rest (out_of_range x)
  ended_out_of_range leaf most k minimal IsValue old new x p m v none =
      fails_at leaf most IsValue old.rest (end ++ new.rest) p.digits (out_of_range x) (length end) (whole_of most k minimal old new p) p.are p.few
      (not_permitted (behind_long new, behind_end new, p.least m, (x, subst (λ (j : ℕ). IsValue j x) p.value v, none, refl), refl))

  pub ended_read : (most k : ℕ) (minimal : Bool) (old new : Reading) → PassedEnded size z end most old new k minimal → minimal ≡ true → Reads (InMinimalDigits k code [] end) old new
  ended_read most k minimal old new p m =
      reads_map (λ f. f ≡ digit_codes size z p.digits ++ end) (InMinimalDigits k code [] end) old new (λ f e. record { digits = p.digits; spell = record { digits = p.are; value = sym p.value }; minimal = p.least m; whole = e ∙ ap (λ (t : List Bool). t ++ end) (sym (style.same p.digits)) }) p.read

pub four_bits : Style nibbles 4 0
four_bits = record { same = nibbles-codes; fits = omega arith }

pub octet_style : Style digit_octets 8 48
octet_style = record { same = octets-codes; fits = omega arith }

-- Numbers without a sign.

plain_value : (minimal : Bool) (k : ℕ) (v : ℤ) → IsSignedValue false minimal k v → v ≡ pos k
plain_value minimal k v s = s.is

bcd_said : (leaf : NumLeaf) (most k : ℕ) (minimal : Bool) (old new : Reading) (wire image : ℤ) → most_digits (images_of leaf) ≡ most → PassedEnded 4 0 (low_bits 4 15) most old new k minimal → IsSignedValue false minimal k wire → IsSignedValue false minimal k image → IsSaid BcdEnded leaf old new wire image
bcd_said leaf most k minimal old new wire image e p w i = record {
  read = reads_map (InMinimalDigits k nibbles [] (low_bits 4 15)) (CodingCode Any BcdEnded leaf.little image) old new (λ f h. (k, i.is, h)) (ended_read nibbles 4 0 four_bits (low_bits 4 15) most k minimal old new p w.shortest);
  refused = λ none.
      let same : image ≡ wire = i.is ∙ sym w.is in
      subst (λ (m : ℕ). (reach : ℕ) × EndedFails leaf nibbles 4 (low_bits 4 15) m Positive old.rest (out_of_range wire) reach) (sym e)
      (ended_out_of_range nibbles 4 0 four_bits (low_bits 4 15) leaf most k minimal Positive old new wire p w.shortest w.is (subst (NoneHas leaf) same none));
}

pub bcd_said_at : (most k : ℕ) (minimal : Bool) (old new : Reading) (r : Result Said ReadFault) → PassedEnded 4 0 (low_bits 4 15) most old new k minimal → IfOk r (λ s. IsSignedValue false minimal k s.wire) → IfOk r (λ s. IsSignedValue false minimal k s.image)
    → IfOk r (λ s. (leaf : NumLeaf) → most_digits (images_of leaf) ≡ most → IsSaid BcdEnded leaf old new s.wire s.image)
bcd_said_at most k minimal old new (Ok s) p w i = λ leaf e. bcd_said leaf most k minimal old new s.wire s.image e p w i
bcd_said_at most k minimal old new (Err x) p w i = tt

-- why digits with a sign are no code
abbrev pub NotShortest : (negative minimal : Bool) → ℕ → ReadFault → Type 0
NotShortest negative minimal k x = (x ≡ NotMinimal) × (minimal ≡ true → (negative ≡ true → 0 < k) → ⊥)

no_positive : (minimal : Bool) (k : ℕ) → (minimal ≡ true → (false ≡ true → 0 < k) → ⊥) → (minimal ≡ true) × ((x : ℤ) × Positive k x) → ⊥
no_positive minimal k h both = h both.0 (λ e. absurd (cc e))

bcd_not_minimal : (leaf : NumLeaf) (most k : ℕ) (minimal : Bool) (old new : Reading) (x : ReadFault) → most_digits (images_of leaf) ≡ most → PassedEnded 4 0 (low_bits 4 15) most old new k minimal → NotShortest false minimal k x → Refuses BcdEnded leaf old.rest (reason_of x)
bcd_not_minimal leaf most k minimal old new x e p n =
    subst (λ (f : ReadFault). Refuses BcdEnded leaf old.rest (reason_of f)) (sym n.0)
    (subst (λ (m : ℕ). (reach : ℕ) × EndedFails leaf nibbles 4 (low_bits 4 15) m Positive old.rest not_minimal reach) (sym e)
    (ended_not_minimal nibbles 4 0 four_bits (low_bits 4 15) leaf most k minimal Positive old new p (no_positive minimal k n.1)))

pub bcd_not_minimal_at : (most k : ℕ) (minimal : Bool) (old new : Reading) (r : Result Said ReadFault) → PassedEnded 4 0 (low_bits 4 15) most old new k minimal → IfErr r (NotShortest false minimal k)
    → IfErr r (λ x. (leaf : NumLeaf) → most_digits (images_of leaf) ≡ most → Refuses BcdEnded leaf old.rest (reason_of x))
bcd_not_minimal_at most k minimal old new (Ok s) p n = tt
bcd_not_minimal_at most k minimal old new (Err x) p n = λ leaf e. bcd_not_minimal leaf most k minimal old new x e p n

pub bcd_wrong : (most : ℕ) (old : Reading) (x : ReadFault) → EndedWrong 4 0 (low_bits 4 15) most old.rest (reason_of x) → (leaf : NumLeaf) → most_digits (images_of leaf) ≡ most → Refuses BcdEnded leaf old.rest (reason_of x)
bcd_wrong most old x w leaf e =
    subst (λ (m : ℕ). (reach : ℕ) × EndedFails leaf nibbles 4 (low_bits 4 15) m Positive old.rest (reason_of x) reach) (sym e)
    (ended_wrong nibbles 4 0 four_bits (low_bits 4 15) leaf most Positive old.rest (reason_of x) w)

-- The same in octets.

plain_said : (end : List Bool) (leaf : NumLeaf) (most k : ℕ) (minimal : Bool) (old new : Reading) (wire image : ℤ) → most_digits (images_of leaf) ≡ most → PassedEnded 8 48 end most old new k minimal → IsSignedValue false minimal k wire → IsSignedValue false minimal k image
    → IsSaid (AsciiEnded end false) leaf old new wire image
plain_said end leaf most k minimal old new wire image e p w i = record {
  read = reads_map (InMinimalDigits k digit_octets [] end) (CodingCode Any (AsciiEnded end false) leaf.little image) old new (λ f h. (k, [], (i.is, refl), h)) (ended_read digit_octets 8 48 octet_style end most k minimal old new p w.shortest);
  refused = λ none.
      let same : image ≡ wire = i.is ∙ sym w.is in
      subst (λ (m : ℕ). (reach : ℕ) × EndedFails leaf digit_octets 8 end m Positive old.rest (out_of_range wire) reach) (sym e)
      (ended_out_of_range digit_octets 8 48 octet_style end leaf most k minimal Positive old new wire p w.shortest w.is (subst (NoneHas leaf) same none));
}

pub plain_said_at : (end : List Bool) (most k : ℕ) (minimal : Bool) (old new : Reading) (r : Result Said ReadFault) → PassedEnded 8 48 end most old new k minimal → IfOk r (λ s. IsSignedValue false minimal k s.wire) → IfOk r (λ s. IsSignedValue false minimal k s.image)
    → IfOk r (λ s. (leaf : NumLeaf) → most_digits (images_of leaf) ≡ most → IsSaid (AsciiEnded end false) leaf old new s.wire s.image)
plain_said_at end most k minimal old new (Ok s) p w i = λ leaf e. plain_said end leaf most k minimal old new s.wire s.image e p w i
plain_said_at end most k minimal old new (Err x) p w i = tt

pub plain_not_minimal_at : (end : List Bool) (most k : ℕ) (minimal : Bool) (old new : Reading) (r : Result Said ReadFault) → PassedEnded 8 48 end most old new k minimal → IfErr r (NotShortest false minimal k)
    → IfErr r (λ x. (leaf : NumLeaf) → most_digits (images_of leaf) ≡ most → Refuses (AsciiEnded end false) leaf old.rest (reason_of x))
plain_not_minimal_at end most k minimal old new (Ok s) p n = tt
plain_not_minimal_at end most k minimal old new (Err x) p n = λ leaf e.
    subst (λ (f : ReadFault). Refuses (AsciiEnded end false) leaf old.rest (reason_of f)) (sym n.0)
    (subst (λ (m : ℕ). (reach : ℕ) × EndedFails leaf digit_octets 8 end m Positive old.rest not_minimal reach) (sym e)
    (ended_not_minimal digit_octets 8 48 octet_style end leaf most k minimal Positive old new p (no_positive minimal k n.1)))

pub plain_wrong : (end : List Bool) (most : ℕ) (old : Reading) (x : ReadFault) → EndedWrong 8 48 end most old.rest (reason_of x) → (leaf : NumLeaf) → most_digits (images_of leaf) ≡ most → Refuses (AsciiEnded end false) leaf old.rest (reason_of x)
plain_wrong end most old x w leaf e =
    subst (λ (m : ℕ). (reach : ℕ) × EndedFails leaf digit_octets 8 end m Positive old.rest (reason_of x) reach) (sym e)
    (ended_wrong digit_octets 8 48 octet_style end leaf most Positive old.rest (reason_of x) w)
