-- Numbers behind a count of their octets.
use Rattle.std.proofs.Common.{◌≡◌, ℕ, zero, suc, ◌+◌, ◌-◌, ◌*◌, ◌^◌, ◌<◌, ◌≤◌, ℤ, pos, neg_ℤ, ◌+ℤ◌, ◌≤ℤ◌, ◌<ℤ◌, Bool, true, false, List, [], ◌∷◌, length, take, drop, refl, sym, ap, ◌∙◌, subst, inl, inr, arith, length-drop, nat_abs}
use Rattle.std.proofs.lemmas.List.{length-take-le, drop-drop}
use Rattle.std.proofs.lemmas.Int.{ints}
use Rattle.std.proofs.lemmas.Bool.Decides.{nat_tests}
use Rattle.acn_num.specs.Bits.{number, signed_number, IsNumber, IsSigned}
use Rattle.acn_bits.specs.Reading.{Reading, passed, Reads}
use Rattle.acn_num.proofs.BitLists.{number_below}
use Rattle.acn_bits.proofs.Loads.{take_add}
use Rattle.acn_grammar.specs.Code.{Any, CodingCode, Counted}
use Rattle.acn_grammar.specs.LeafFails.{NoneHas, CountedFails, Reason, short, not_minimal, out_of_range, no_count, none_counted, many_counted, octets_cut, octets_to_spare, counted_not_permitted}
use Rattle.acn_grammar.specs.Length.{least_octets, least_signed_octets}
use Rattle.acn_grammar.specs.declared.node.NumLeaf.{NumLeaf}
use Rattle.acn_grammar.specs.declared.node.NumCoding.TheVariants.{CountedFrom, CountedSigned}
use Rattle.acn_ints.specs.Reads.{IsSaid, Refuses}
use Rattle.acn_grammar.specs.ReadFaults.{reason_of}
use Rattle.acn_grammar.specs.declared.read_fault.ReadFault.{ReadFault}
use Rattle.acn_grammar.specs.declared.read_fault.ReadFault.TheVariants.{Short}
use Rattle.acn_ints.specs.FixedReads.{Taken, TooFew}
use Rattle.acn_ints.specs.Counts.{IsCount, CountWrong}
use Rattle.acn_ints.proofs.FixedCodes.{is_number}
use Rattle.acn_bits.proofs.Readings.{reads_passed, reads_map}

-- what a count and its octets are, in the bits that were there before
pub record Parts (old new : Reading) (c v : ℕ) : Type 0 where
  pub count : number (take 8 old.rest) ≡ c
  pub eight : 8 ≤ length old.rest
  pub within : 8 + 8 * c ≤ length old.rest
  pub some : 0 < c
  pub few : c ≤ 8
  pub body : IsNumber (8 * c) v (take (8 * c) (drop 8 old.rest))
  pub moved : new ≡ passed (8 + 8 * c) old

pub parts_of : (old mid new : Reading) (c v : ℕ) → IsCount old mid c → Taken (8 * c) mid new v → Parts old new c v
parts_of old mid new c v i t =
    let t' : Taken (8 * c) (passed 8 old) new v = subst (λ (m : Reading). Taken (8 * c) m new v) i.taken.moved t in
    let long = length-drop 8 old.rest in
    let w = i.taken.within in
    let w' = t'.within in
    record {
      count = sym i.taken.value;
      eight = i.taken.within;
      within = omega (arith, long, w, w');
      some = i.some;
      few = i.few;
      body = is_number (8 * c) (passed 8 old) new v t';
      moved = t'.moved ∙ twice old (8 * c);
    }
  where
    twice : (r : Reading) (n : ℕ) → passed n (passed 8 r) ≡ passed (8 + n) r
    twice r n = rw (drop-drop n 8 r.rest, plus r.at n) refl
      where
        plus : (a n : ℕ) → a + 8 + n ≡ a + (8 + n)
        plus a n = omega arith

-- the least counts of octets

pub least_octets_le : (c v : ℕ) → 0 < c → v < 2 ^ (8 * c) → least_octets v ≤ c
least_octets_le zero v p h = absurd (omega arith)
least_octets_le (suc zero) v p h = grind (arith, nat_tests)
least_octets_le (suc (suc zero)) v p h = grind (arith, nat_tests)
least_octets_le (suc (suc (suc zero))) v p h = grind (arith, nat_tests)
least_octets_le (suc (suc (suc (suc zero)))) v p h = grind (arith, nat_tests)
least_octets_le (suc (suc (suc (suc (suc zero))))) v p h = grind (arith, nat_tests)
least_octets_le (suc (suc (suc (suc (suc (suc zero)))))) v p h = grind (arith, nat_tests)
least_octets_le (suc (suc (suc (suc (suc (suc (suc zero))))))) v p h = grind (arith, nat_tests)
least_octets_le (suc (suc (suc (suc (suc (suc (suc (suc c)))))))) v p h = grind (arith, nat_tests)

pub least_signed_le : (c : ℕ) (y : ℤ) → 0 < c → neg_ℤ (pos (2 ^ (8 * c - 1))) ≤ℤ y → y <ℤ pos (2 ^ (8 * c - 1)) → least_signed_octets y ≤ c
least_signed_le zero y p l h = absurd (omega arith)
least_signed_le (suc zero) y p l h = grind (arith, ints, nat_tests)
least_signed_le (suc (suc zero)) y p l h = grind (arith, ints, nat_tests)
least_signed_le (suc (suc (suc zero))) y p l h = grind (arith, ints, nat_tests)
least_signed_le (suc (suc (suc (suc zero)))) y p l h = grind (arith, ints, nat_tests)
least_signed_le (suc (suc (suc (suc (suc zero))))) y p l h = grind (arith, ints, nat_tests)
least_signed_le (suc (suc (suc (suc (suc (suc zero)))))) y p l h = grind (arith, ints, nat_tests)
least_signed_le (suc (suc (suc (suc (suc (suc (suc zero))))))) y p l h = grind (arith, ints, nat_tests)
least_signed_le (suc (suc (suc (suc (suc (suc (suc (suc c)))))))) y p l h = grind (arith, ints, nat_tests)

pub signed_bounds : (b : Bool) (bs : List Bool) → (neg_ℤ (pos (2 ^ length bs)) ≤ℤ signed_number (b ∷ bs)) × (signed_number (b ∷ bs) <ℤ pos (2 ^ length bs))
signed_bounds true bs = let h = number_below bs in (omega (arith, ints, h), omega (arith, ints, h))
signed_bounds false bs = let h = number_below bs in (omega (arith, ints, h), omega (arith, ints, h))

pub signed_within : (n : ℕ) (bs : List Bool) (y : ℤ) → 0 < n → IsSigned n y bs → (neg_ℤ (pos (2 ^ (n - 1))) ≤ℤ y) × (y <ℤ pos (2 ^ (n - 1)))
signed_within n [] y p is = let w = is.width in absurd (omega (arith, w))
signed_within n (b ∷ bs) y p is =
    let w = is.width in
    let e : length bs ≡ n - 1 = omega (arith, w) in
    let B : ℕ → ℤ → Type 0 = λ k z. (neg_ℤ (pos (2 ^ k)) ≤ℤ z) × (z <ℤ pos (2 ^ k)) in
    let h : B (length bs) (signed_number (b ∷ bs)) = signed_bounds b bs in
    subst (λ (z : ℤ). B (n - 1) z) is.value (subst (λ (k : ℕ). B k (signed_number (b ∷ bs))) e h)

-- what the parts say, for any way to read the octets

module _ (number_in : List Bool → ℤ) (least : ℤ → ℕ) (image : ℤ → ℤ) where
  abbrev pub Last : NumLeaf → List Bool → Reason → (reach : ℕ) → ℕ → Type 0
  Last leaf rest r reach c =
      (8 + 8 * c ≤ length rest) × (0 < c) × (c ≤ 8) × (least (number_in (take (8 * c) (drop 8 rest))) ≡ c) × NoneHas leaf (image (number_in (take (8 * c) (drop 8 rest)))) × (r ≡ out_of_range (number_in (take (8 * c) (drop 8 rest)))) × (reach ≡ 8 + 8 * c)

  -- the reason, and how far it reaches
  abbrev pub Counts : NumLeaf → List Bool → Reason → Type 0
  Counts leaf rest r = (reach : ℕ) × CountedFails leaf number_in least image rest r reach

  pub count_refused : (leaf : NumLeaf) (old new : Reading) (c v : ℕ) (y : ℤ) → Parts old new c v → number_in (take (8 * c) (drop 8 old.rest)) ≡ y → least y ≡ c → NoneHas leaf (image y) → Counts leaf old.rest (out_of_range y)
  count_refused leaf old new c v y p e l none =
      let B = take (8 * c) (drop 8 old.rest) in
      let last : Last leaf old.rest (out_of_range y) (8 + 8 * c) c =
      (p.within, p.some, p.few, ap least e ∙ l, subst (λ (z : ℤ). NoneHas leaf (image z)) (sym e) none, ap out_of_range (sym e), refl) in
      (8 + 8 * c, counted_not_permitted (subst (Last leaf old.rest (out_of_range y) (8 + 8 * c)) (sym p.count) last))

  pub count_not_minimal : (leaf : NumLeaf) (old new : Reading) (c v : ℕ) (y : ℤ) → Parts old new c v → number_in (take (8 * c) (drop 8 old.rest)) ≡ y → least y < c → Counts leaf old.rest not_minimal
  count_not_minimal leaf old new c v y p e l =
      let Some : ℕ → Type 0 = λ d. (8 + 8 * d ≤ length old.rest) × (0 < d) × (d ≤ 8) × (least (number_in (take (8 * d) (drop 8 old.rest))) < d) × (not_minimal ≡ not_minimal) × (8 + 8 * c ≡ 8 + 8 * d) in
      let here : Some c = (p.within, p.some, p.few, subst (λ (z : ℤ). least z < c) (sym e) l, refl, refl) in
      (8 + 8 * c, octets_to_spare (subst Some (sym p.count) here))

pub counted_read : (fits : ℕ → List Bool → Type 0) (old new : Reading) (c v : ℕ) → Parts old new c v → fits c (take (8 * c) (drop 8 old.rest)) → ((d : ℕ) (other : List Bool) → 0 < d → fits d other → c ≤ d)
    → Reads (Counted fits) old new
counted_read fits old new c v p spells least =
    reads_passed (Counted fits) (8 + 8 * c) old new p.within p.moved (record {
      count = c;
      front = take 8 old.rest;
      body = take (8 * c) (drop 8 old.rest);
      whole = take_add 8 (8 * c) old.rest;
      counts = record { width = length-take-le 8 old.rest p.eight; value = p.count };
      spells = spells;
      positive = p.some;
      least = least;
    })

pub from_said : (low : ℤ) (old new : Reading) (c v : ℕ) (wire image : ℤ) → Parts old new c v → c ≤ least_octets v → wire ≡ pos v → image ≡ low +ℤ pos v → (leaf : NumLeaf) → IsSaid (CountedFrom low) leaf old new wire image
from_said low old new c v wire image p minimal w i leaf =
    let below : v < 2 ^ (8 * c) = subst (λ (k : ℕ). v < 2 ^ k) p.body.width (subst (λ (k : ℕ). k < 2 ^ length (take (8 * c) (drop 8 old.rest))) p.body.value (number_below (take (8 * c) (drop 8 old.rest)))) in
    let up = least_octets_le c v p.some below in
    let exact : least_octets v ≡ c = omega (arith, up, minimal) in
    record {
      read = reads_map (Counted (λ d body. IsNumber (8 * d) v body)) (CodingCode Any (CountedFrom low) leaf.little image) old new (λ front h. (v, i, h))
          (counted_read (λ d body. IsNumber (8 * d) v body) old new c v p p.body (λ d other some is. le_trans c (least_octets v) d minimal (least_octets_le d v some (below_of d v other is))));
      refused = λ none. subst (λ (z : ℤ). Refuses (CountedFrom low) leaf old.rest (out_of_range z)) (sym w)
          (count_refused (λ b. pos (number b)) (λ x. least_octets (nat_abs x)) (λ x. low +ℤ x) leaf old new c v (pos v) p (ap pos p.body.value) exact (subst (NoneHas leaf) i none));
    }
  where
    le_trans : (a b d : ℕ) → a ≤ b → b ≤ d → a ≤ d
    le_trans a b d x y = omega arith

    below_of : (d v : ℕ) (other : List Bool) → IsNumber (8 * d) v other → v < 2 ^ (8 * d)
    below_of d v other is = subst (λ (k : ℕ). v < 2 ^ k) is.width (subst (λ (k : ℕ). k < 2 ^ length other) is.value (number_below other))

pub signed_said : (old new : Reading) (c v : ℕ) (y : ℤ) → Parts old new c v → ((bs : List Bool) → IsNumber (8 * c) v bs → signed_number bs ≡ y) → c ≤ least_signed_octets y → (leaf : NumLeaf) → IsSaid CountedSigned leaf old new y y
signed_said old new c v y p value minimal leaf =
    let e : signed_number (take (8 * c) (drop 8 old.rest)) ≡ y = value (take (8 * c) (drop 8 old.rest)) p.body in
    let body : IsSigned (8 * c) y (take (8 * c) (drop 8 old.rest)) = record { width = p.body.width; value = e } in
    let some = p.some in
    let b = signed_within (8 * c) (take (8 * c) (drop 8 old.rest)) y (omega (arith, some)) body in
    let up = least_signed_le c y p.some b.0 b.1 in
    let exact : least_signed_octets y ≡ c = omega (arith, up, minimal) in
    record {
      read = counted_read (λ d bs. IsSigned (8 * d) y bs) old new c v p body (λ d other some is. least_of d other some is);
      refused = λ none. count_refused signed_number least_signed_octets (λ x. x) leaf old new c v y p e exact none;
    }
  where
    least_of : (d : ℕ) (other : List Bool) → 0 < d → IsSigned (8 * d) y other → c ≤ d
    least_of d other some is =
        let b = signed_within (8 * d) other y (omega (arith, some)) is in
        let up = least_signed_le d y some b.0 b.1 in
        omega (arith, up, minimal)

-- the reasons at the count, and behind it

module _ (number_in : List Bool → ℤ) (least : ℤ → ℕ) (image : ℤ → ℤ) where
  pub count_wrong : (leaf : NumLeaf) (rest : List Bool) (r : Reason) → CountWrong rest r → Counts number_in least image leaf rest r
  count_wrong leaf rest r (inl t) = (length rest, no_count (t.0, t.1, refl))
  count_wrong leaf rest r (inr (inl t)) = (8, none_counted (t.0, t.1, t.2, refl))
  count_wrong leaf rest r (inr (inr t)) = (8, many_counted (t.0, t.1, t.2, refl))

  pub body_short : (leaf : NumLeaf) (old mid new : Reading) (c : ℕ) (x : ReadFault) → IsCount old mid c → (x ≡ Short) × TooFew (8 * c) mid new → Counts number_in least image leaf old.rest (reason_of x)
  body_short leaf old mid new c x i t =
      let n = ap (λ (r : Reading). length r.rest) i.taken.moved ∙ length-drop 8 old.rest in
      let few = t.1.few in
      let within = i.taken.within in
      let Some : ℕ → Type 0 = λ d. (8 ≤ length old.rest) × (0 < d) × (d ≤ 8) × (length old.rest < 8 + 8 * d) × (short ≡ short) × (length old.rest ≡ length old.rest) in
      let here : Some c = (within, i.some, i.few, omega (arith, n, few, within), refl, refl) in
      subst (λ (f : ReadFault). Counts number_in least image leaf old.rest (reason_of f)) (sym t.0) (length old.rest, octets_cut (subst Some i.taken.value here))
