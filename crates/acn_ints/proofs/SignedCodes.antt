-- Numbers in octets with a sign in front of their digits.
use Rattle.std.proofs.Common.{◌≡◌, ℕ, zero, suc, ◌+◌, ◌*◌, ◌<◌, ◌≤◌, ℤ, Bool, true, false, List, [], ◌∷◌, ◌++◌, length, take, drop, refl, sym, ap, ◌∙◌, subst, arith, inl, inr, length-drop, length-append, append_assoc, append-nil, take-append-drop}
use Rattle.std.specs.Prelude.{Result, Ok, Err, IfOk, IfErr}
use Rattle.std.proofs.lemmas.List.{length-take-le, drop-take, take-take}
use Rattle.acn_num.specs.Bits.{number, low_bits}
use Rattle.acn_bits.specs.Reading.{Reading, passed, Reads, Stays}
use Rattle.acn_num.proofs.BitLists.{number_same}
use Rattle.acn_grammar.specs.Code.{Any, CodingCode, InMinimalDigits, SignOctet, digit_octets}
use Rattle.acn_grammar.specs.Images.{images_of}
use Rattle.acn_grammar.specs.LeafFails.{Reason, bad_digit, not_minimal, out_of_range, says, wrong, NoneHas, Positive, Negative, most_digits, EndedFails, AllDigits, value_of, octet_values, SignedWire, plus_digits, minus_digits, minus_nothing, no_signed_digits, sign_cut, fails_behind_plus, fails_behind_minus, no_sign_octet}
use Rattle.acn_grammar.specs.ReadFaults.{reason_of}
use Rattle.acn_grammar.specs.declared.node.NumLeaf.{NumLeaf}
use Rattle.acn_grammar.specs.declared.node.NumCoding.TheVariants.{Ascii, AsciiEnded}
use Rattle.acn_grammar.specs.declared.read_fault.ReadFault.{ReadFault}
use Rattle.acn_ints.specs.declared.said.Said.{Said}
use Rattle.acn_ints.specs.EndedReads.{PassedEnded, EndedWrong, PassedSign, SignWrong, IsSignedValue, sign_code}
use Rattle.acn_ints.specs.DigitReads.{groups, AreRead}
use Rattle.acn_ints.specs.FixedReads.{FixedSaid, FixedWrong}
use Rattle.acn_ints.specs.Reads.{IsSaid, Refuses}
use Rattle.acn_ints.proofs.DigitLemmas.{groups-take, octets-groups, digits_from, small_digits, octets-joined}
use Rattle.acn_ints.proofs.EndedCodes.{octet_style, ended_wrong, ended_not_minimal, ended_out_of_range, ended_read, NotShortest}
use Rattle.acn_ints.proofs.EndedLemmas.{passed_twice}
use Rattle.acn_bits.proofs.Readings.{reads_passed, stays_twice, reads_map}

-- the sign's octet
sign_bits : (old mid : Reading) (negative : Bool) → PassedSign old mid negative → take 8 old.rest ≡ low_bits 8 (sign_code negative)
sign_bits old mid negative p = number_same (take 8 old.rest) (low_bits 8 (sign_code negative)) (length-take-le 8 old.rest p.within ∙ sym (long negative)) (p.value ∙ value negative)
  where
    long : (b : Bool) → length (low_bits 8 (sign_code b)) ≡ 8
    long true = refl
    long false = refl

    value : (b : Bool) → sign_code b ≡ number (low_bits 8 (sign_code b))
    value true = refl
    value false = refl

signs : (negative minimal : Bool) (k : ℕ) (v : ℤ) → IsSignedValue negative minimal k v → SignOctet true v k (low_bits 8 (sign_code negative))
signs false minimal k v s = subst (λ (z : ℤ). SignOctet true z k (low_bits 8 43)) (sym s.is) (refl, refl)
signs true minimal zero v s = let h = s.some refl in absurd (omega arith)
signs true minimal (suc k) v s = subst (λ (z : ℤ). SignOctet true z (suc k) (low_bits 8 45)) (sym s.is) (refl, refl)

pub sign_stays : (old mid : Reading) (negative : Bool) → PassedSign old mid negative → Stays old mid
sign_stays old mid negative p = reads_passed (λ _. Unit {0}) 8 old mid p.within p.moved tt

pub behind_stays : (old mid new : Reading) (negative : Bool) → PassedSign old mid negative → Stays mid new → Stays old new
behind_stays old mid new negative p s = stays_twice old mid new (sign_stays old mid negative p) s

pub ended_stays : (size z : ℕ) (end : List Bool) (most : ℕ) (old new : Reading) (k : ℕ) (minimal : Bool) → PassedEnded size z end most old new k minimal → Stays old new
ended_stays size z end most old new k minimal p = record { front = p.read.front; split = p.read.split; moved = p.read.moved; window = p.read.window; holds = tt }

-- Ended numbers.

abbrev ValueOf : Bool → ℕ → ℤ → Type 0
ValueOf true = Negative
ValueOf false = Positive

value_of_sign : (negative minimal : Bool) (k : ℕ) (v : ℤ) → IsSignedValue negative minimal k v → ValueOf negative k v
value_of_sign true minimal k v s = (s.some refl, s.is)
value_of_sign false minimal k v s = s.is

abbrev Behind : NumLeaf → (end : List Bool) → (most : ℕ) → (IsValue : ℕ → ℤ → Type 0) → List Bool → Reason → Type 0
Behind leaf end most IsValue rest r = (reach : ℕ) × EndedFails leaf digit_octets 8 end most IsValue rest r reach

-- what fails behind a sign fails with it
sign_fails : (end : List Bool) (leaf : NumLeaf) (most : ℕ) (old mid : Reading) (negative : Bool) (r : Reason) → most_digits (images_of leaf) ≡ most → PassedSign old mid negative → Behind leaf end most (ValueOf negative) mid.rest r → Refuses (AsciiEnded end true) leaf old.rest r
sign_fails end leaf most old mid negative r e p b = by_sign negative p.value (subst (λ (bs : List Bool). Behind leaf end (most_digits (images_of leaf)) (ValueOf negative) bs r) rest (subst (λ (m : ℕ). Behind leaf end m (ValueOf negative) mid.rest r) (sym e) b))
  where
    rest : mid.rest ≡ drop 8 old.rest
    rest = ap (λ (x : Reading). x.rest) p.moved

    by_sign : (negative : Bool) → number (take 8 old.rest) ≡ sign_code negative → Behind leaf end (most_digits (images_of leaf)) (ValueOf negative) (drop 8 old.rest) r → Refuses (AsciiEnded end true) leaf old.rest r
    by_sign false is f = (8 + f.0, fails_behind_plus (p.within, is, record { more = f.0; fails = f.1; reaches = refl }))
    by_sign true is f = (8 + f.0, fails_behind_minus (p.within, is, record { more = f.0; fails = f.1; reaches = refl }))

reads_signed : (end : List Bool) (k : ℕ) (negative : Bool) (old mid new : Reading) → PassedSign old mid negative → Reads (InMinimalDigits k digit_octets [] end) mid new → Reads (InMinimalDigits k digit_octets (low_bits 8 (sign_code negative)) end) old new
reads_signed end k negative old mid new p r =
    let d = r.holds in
    let rest : mid.rest ≡ drop 8 old.rest = ap (λ (x : Reading). x.rest) p.moved in
    let at : mid.at ≡ old.at + 8 = ap (λ (x : Reading). x.at) p.moved in
    let origin : mid.origin ≡ old.origin = ap (λ (x : Reading). x.origin) p.moved in
    let long = length-append (take 8 old.rest) r.front in
    let eight = length-take-le 8 old.rest p.within in
    let m = r.moved in
    record {
      front = take 8 old.rest ++ r.front;
      split = sym (take-append-drop 8 old.rest) ∙ ap (λ (t : List Bool). take 8 old.rest ++ t) (sym rest ∙ r.split) ∙ sym (append_assoc (take 8 old.rest) r.front new.rest);
      moved = omega (arith, at, long, eight, m);
      window = r.window ∙ origin;
      holds = record { digits = d.digits; spell = d.spell; minimal = d.minimal; whole = joined (sign_bits old mid negative p) d.whole };
    }
  where
    joined : {x y p q : List Bool} → x ≡ y → p ≡ q → x ++ p ≡ y ++ q
    joined e f = cc

signed_said : (end : List Bool) (leaf : NumLeaf) (most k : ℕ) (negative minimal : Bool) (old mid new : Reading) (wire image : ℤ) → most_digits (images_of leaf) ≡ most → PassedSign old mid negative → PassedEnded 8 48 end most mid new k minimal
    → IsSignedValue negative minimal k wire → IsSignedValue negative minimal k image → IsSaid (AsciiEnded end true) leaf old new wire image
signed_said end leaf most k negative minimal old mid new wire image e p d w i = record {
  read = reads_map (InMinimalDigits k digit_octets (low_bits 8 (sign_code negative)) end) (CodingCode Any (AsciiEnded end true) leaf.little image) old new (λ f h. (k, low_bits 8 (sign_code negative), signs negative minimal k image i, h))
      (reads_signed end k negative old mid new p (ended_read digit_octets 8 48 octet_style end most k minimal mid new d w.shortest));
  refused = λ none.
      let same : image ≡ wire = i.is ∙ sym w.is in
      sign_fails end leaf most old mid negative (out_of_range wire) e p
      (ended_out_of_range digit_octets 8 48 octet_style end leaf most k minimal (ValueOf negative) mid new wire d w.shortest (value_of_sign negative minimal k wire w) (subst (NoneHas leaf) same none));
}

pub signed_said_at : (end : List Bool) (most k : ℕ) (negative minimal : Bool) (old mid new : Reading) (r : Result Said ReadFault) → PassedSign old mid negative → PassedEnded 8 48 end most mid new k minimal
    → IfOk r (λ s. IsSignedValue negative minimal k s.wire) → IfOk r (λ s. IsSignedValue negative minimal k s.image)
    → IfOk r (λ s. (leaf : NumLeaf) → most_digits (images_of leaf) ≡ most → IsSaid (AsciiEnded end true) leaf old new s.wire s.image)
signed_said_at end most k negative minimal old mid new (Ok s) p d w i = λ leaf e. signed_said end leaf most k negative minimal old mid new s.wire s.image e p d w i
signed_said_at end most k negative minimal old mid new (Err x) p d w i = tt

no_value : (negative minimal : Bool) (k : ℕ) → (minimal ≡ true → (negative ≡ true → 0 < k) → ⊥) → (minimal ≡ true) × ((x : ℤ) × ValueOf negative k x) → ⊥
no_value true minimal k h both = h both.0 (λ _. both.1.1.0)
no_value false minimal k h both = h both.0 (λ e. absurd (cc e))

pub signed_not_minimal_at : (end : List Bool) (most k : ℕ) (negative minimal : Bool) (old mid new : Reading) (r : Result Said ReadFault) → PassedSign old mid negative → PassedEnded 8 48 end most mid new k minimal → IfErr r (NotShortest negative minimal k)
    → IfErr r (λ x. (leaf : NumLeaf) → most_digits (images_of leaf) ≡ most → Refuses (AsciiEnded end true) leaf old.rest (reason_of x))
signed_not_minimal_at end most k negative minimal old mid new (Ok s) p d n = tt
signed_not_minimal_at end most k negative minimal old mid new (Err x) p d n = λ leaf e.
    subst (λ (f : ReadFault). Refuses (AsciiEnded end true) leaf old.rest (reason_of f)) (sym n.0)
    (sign_fails end leaf most old mid negative not_minimal e p
    (ended_not_minimal digit_octets 8 48 octet_style end leaf most k minimal (ValueOf negative) mid new d (no_value negative minimal k n.1)))

pub signed_wrong : (end : List Bool) (most : ℕ) (old mid : Reading) (negative : Bool) (x : ReadFault) → PassedSign old mid negative → EndedWrong 8 48 end most mid.rest (reason_of x) → (leaf : NumLeaf) → most_digits (images_of leaf) ≡ most → Refuses (AsciiEnded end true) leaf old.rest (reason_of x)
signed_wrong end most old mid negative x p w leaf e =
    sign_fails end leaf most old mid negative (reason_of x) e p (ended_wrong digit_octets 8 48 octet_style end leaf most (ValueOf negative) mid.rest (reason_of x) w)

pub sign_wrong : (end : List Bool) (most : ℕ) (old : Reading) (x : ReadFault) → SignWrong old.rest (reason_of x) → (leaf : NumLeaf) → most_digits (images_of leaf) ≡ most → Refuses (AsciiEnded end true) leaf old.rest (reason_of x)
sign_wrong end most old x (inl w) leaf e = (length old.rest, sign_cut (w.0, w.1, refl))
sign_wrong end most old x (inr w) leaf e = (8, no_sign_octet (w.0, w.1, w.2, refl))

-- One width.

front_values : (n count : ℕ) (old : Reading) → n ≡ 8 + 8 * count → n ≤ length old.rest → octet_values (take n old.rest) ≡ number (take 8 old.rest) ∷ groups 8 count (drop 8 old.rest)
front_values n count old e within =
    let whole : n ≡ 8 * suc count = omega arith in
    let long : length (take n old.rest) ≡ 8 * suc count = length-take-le n old.rest within ∙ whole in
    octets-groups (suc count) (take n old.rest) long ∙ ap (λ (m : ℕ). groups 8 (suc count) (take m old.rest)) whole ∙ groups-take 8 (suc count) old.rest

digits_here : (old mid : Reading) (negative : Bool) → PassedSign old mid negative → mid.rest ≡ drop 8 old.rest
digits_here old mid negative p = ap (λ (x : Reading). x.rest) p.moved

tells : (negative minimal : Bool) (k s : ℕ) (ds : List ℕ) (wire image : ℤ) → s ≡ sign_code negative → AllDigits 48 ds → value_of 48 ds ≡ k → IsSignedValue negative minimal k wire → IsSignedValue negative minimal k image → SignedWire (s ∷ ds) (says wire image)
tells false minimal k s ds wire image c all value w i = plus_digits (c, all, rw (w.is, i.is, value) refl)
tells true minimal k s ds wire image c all value w i = let some = w.some refl in minus_digits (c, all, omega (arith, value, some), rw (w.is, i.is, value) refl)

pub ascii_signed_said : (n count : ℕ) (little negative minimal : Bool) (old mid new : Reading) (k : ℕ) (wire image : ℤ) → n ≡ 8 + 8 * count → n ≤ length old.rest → PassedSign old mid negative → AreRead 48 8 count mid new k
    → IsSignedValue negative minimal k wire → IsSignedValue negative minimal k image → FixedSaid (Ascii n true) little n old new wire image
ascii_signed_said n count little negative minimal old mid new k wire image e within p r w i =
    let rest = digits_here old mid negative p in
    let all : AllDigits 48 (groups 8 count (drop 8 old.rest)) = subst (λ (bs : List Bool). AllDigits 48 (groups 8 count bs)) rest r.digits in
    let value : value_of 48 (groups 8 count (drop 8 old.rest)) ≡ k = ap (λ (bs : List Bool). value_of 48 (groups 8 count bs)) (sym rest) ∙ r.value in
    let B = take n old.rest in
    let long : length B ≡ n = length-take-le n old.rest within in
    let front : take 8 B ≡ take 8 old.rest = take-take 8 n old.rest (omega arith) in
    let back : drop 8 B ≡ take (8 * count) (drop 8 old.rest) = ap (λ (m : ℕ). drop 8 (take m old.rest)) e ∙ drop-take 8 (8 * count) old.rest in
    let here : groups 8 count (drop 8 B) ≡ groups 8 count (drop 8 old.rest) = ap (groups 8 count) back ∙ groups-take 8 count (drop 8 old.rest) in
    let size : length (drop 8 B) ≡ 8 * count = length-drop 8 B ∙ omega (arith, long, e) in
    let bits = octets-joined count (drop 8 B) size (subst (AllDigits 48) (sym here) all) in
    let octets : digit_octets (digits_from 48 (groups 8 count (drop 8 old.rest))) ≡ drop 8 B = ap (λ (ds : List ℕ). digit_octets (digits_from 48 ds)) (sym here) ∙ bits in
    record {
      within = within;
      moved = r.moved ∙ ap (passed (8 * count)) p.moved ∙ passed_twice 8 (8 * count) old ∙ ap (λ (m : ℕ). passed m old) (sym e);
      spells = (
        k,
        low_bits 8 (sign_code negative),
        signs negative minimal k image i,
        long,
        record {
          digits = digits_from 48 (groups 8 count (drop 8 old.rest));
          spell = record { digits = small_digits 48 (groups 8 count (drop 8 old.rest)) all; value = value };
          whole = sym (take-append-drop 8 B) ∙ joined (front ∙ sign_bits old mid negative p) (sym octets ∙ sym (append-nil (digit_octets (digits_from 48 (groups 8 count (drop 8 old.rest))))));
        },
      );
      told = subst (λ (ds : List ℕ). SignedWire ds (says wire image)) (sym (front_values n count old e within)) (tells negative minimal k (number (take 8 old.rest)) (groups 8 count (drop 8 old.rest)) wire image p.value all value w i);
    }
  where
    joined : {x y p q : List Bool} → x ≡ y → p ≡ q → x ++ p ≡ y ++ q
    joined e f = cc

pub ascii_signed_said_at : (n count : ℕ) (little negative minimal : Bool) (old mid new : Reading) (k : ℕ) (r : Result Said ReadFault) → n ≡ 8 + 8 * count → n ≤ length old.rest → PassedSign old mid negative → AreRead 48 8 count mid new k
    → IfOk r (λ s. IsSignedValue negative minimal k s.wire) → IfOk r (λ s. IsSignedValue negative minimal k s.image) → IfOk r (λ s. FixedSaid (Ascii n true) little n old new s.wire s.image)
ascii_signed_said_at n count little negative minimal old mid new k (Ok s) e within p r w i = ascii_signed_said n count little negative minimal old mid new k s.wire s.image e within p r w i
ascii_signed_said_at n count little negative minimal old mid new k (Err x) e within p r w i = tt

-- a sign that is none, digits that are none, and a minus before zero

pub no_sign : (n count : ℕ) (little : Bool) (old new : Reading) (x : ReadFault) → n ≡ 8 + 8 * count → n ≤ length old.rest → SignWrong old.rest (reason_of x) → Stays old new → FixedWrong (Ascii n true) little n old new (reason_of x)
no_sign n count little old new x e within (inl w) s = let few = w.0 in absurd (omega arith)
no_sign n count little old new x e within (inr w) s =
    inr (within, s, subst (λ (ds : List ℕ). SignedWire ds (wrong (reason_of x))) (sym (front_values n count old e within)) (no_signed_digits ((λ c _. w.1 c), ap wrong w.2)))

pub no_digits : (n count : ℕ) (little negative : Bool) (old mid new : Reading) → n ≡ 8 + 8 * count → n ≤ length old.rest → PassedSign old mid negative → (AllDigits 48 (groups 8 count mid.rest) → ⊥) → Stays mid new → FixedWrong (Ascii n true) little n old new bad_digit
no_digits n count little negative old mid new e within p bad s =
    let rest = digits_here old mid negative p in
    inr (within, behind_stays old mid new negative p s, subst (λ (ds : List ℕ). SignedWire ds (wrong bad_digit)) (sym (front_values n count old e within)) (no_signed_digits ((λ c all. bad (subst (λ (bs : List Bool). AllDigits 48 (groups 8 count bs)) (sym rest) all)), refl)))

pub minus_zero_at : (n count : ℕ) (little negative : Bool) (old mid new : Reading) (k : ℕ) (r : Result Said ReadFault) → n ≡ 8 + 8 * count → n ≤ length old.rest → PassedSign old mid negative → AreRead 48 8 count mid new k → IfErr r (NotShortest negative true k)
    → IfErr r (λ x. FixedWrong (Ascii n true) little n old new (reason_of x))
minus_zero_at n count little negative old mid new k (Ok s) e within p r h = tt
minus_zero_at n count little negative old mid new k (Err x) e within p r h =
    let rest = digits_here old mid negative p in
    let all : AllDigits 48 (groups 8 count (drop 8 old.rest)) = subst (λ (bs : List Bool). AllDigits 48 (groups 8 count bs)) rest r.digits in
    let value : value_of 48 (groups 8 count (drop 8 old.rest)) ≡ k = ap (λ (bs : List Bool). value_of 48 (groups 8 count bs)) (sym rest) ∙ r.value in
    let read : Stays mid new = reads_passed (λ _. Unit {0}) (8 * count) mid new (room rest) r.moved tt in
    subst (λ (f : ReadFault). FixedWrong (Ascii n true) little n old new (reason_of f)) (sym h.0)
    (inr (within, behind_stays old mid new negative p read, subst (λ (ds : List ℕ). SignedWire ds (wrong not_minimal)) (sym (front_values n count old e within)) (minus_zero negative p.value all value h.1)))
  where
    room : mid.rest ≡ drop 8 old.rest → 8 * count ≤ length mid.rest
    room rest = let l = ap length rest ∙ length-drop 8 old.rest in omega (arith, l, e, within)

    minus_zero : (negative : Bool) → number (take 8 old.rest) ≡ sign_code negative → AllDigits 48 (groups 8 count (drop 8 old.rest)) → value_of 48 (groups 8 count (drop 8 old.rest)) ≡ k → (true ≡ true → (negative ≡ true → 0 < k) → ⊥)
        → SignedWire (number (take 8 old.rest) ∷ groups 8 count (drop 8 old.rest)) (wrong not_minimal)
    minus_zero false c all value f = absurd (f refl (λ e. absurd (cc e)))
    minus_zero true c all value f = minus_nothing (c, all, zero_is (λ h. f refl (λ _. h)) value, refl)
      where
        zero_is : (0 < k → ⊥) → value_of 48 (groups 8 count (drop 8 old.rest)) ≡ k → value_of 48 (groups 8 count (drop 8 old.rest)) ≡ 0
        zero_is h value = value ∙ none k h
          where
            none : (k : ℕ) → (0 < k → ⊥) → k ≡ 0
            none zero h = refl
            none (suc k) h = absurd (h (omega arith))
