-- The same of numbers with a count octet in front.
use Rattle.std.proofs.Common.{◌≡◌, ℕ, zero, suc, ◌+◌, ◌*◌, ◌^◌, ◌<◌, ◌≤◌, ℤ, pos, ◌+ℤ◌, Bool, true, List, ◌++◌, length, take, drop, Some, refl, sym, ap, ◌∙◌, arith, append_assoc, length-append, take-append-drop, inl, inr, ◌⊎◌, subst, IsTrue}
use Rattle.std.specs.Prelude.{nat_abs}
use Rattle.std.proofs.lemmas.List.{length-take-le, length-drop}
use Rattle.std.proofs.Math.Nat.{pow-le-pow_right}
use Rattle.acn_num.specs.Bits.{number, signed_number, IsNumber, IsSigned}
use Rattle.acn_num.specs.Ranges.{has}
use Rattle.acn_grammar.specs.Code.{Any, CodingCode, image_of}
use Rattle.acn_grammar.specs.LeafFails.{Reason, short, out_of_range, not_minimal, too_long, NoneHas, CountedFails, no_count, none_counted, many_counted, octets_cut, octets_to_spare, counted_not_permitted}
use Rattle.acn_grammar.specs.Leaves.{num_fine}
use Rattle.acn_grammar.specs.Length.{least_octets, least_signed_octets, fits_octets}
use Rattle.acn_grammar.specs.declared.node.NumCoding.{NumCoding}
use Rattle.acn_grammar.specs.declared.node.NumCoding.TheVariants.{CountedFrom, CountedSigned}
use Rattle.acn_grammar.specs.declared.node.NumLeaf.{NumLeaf}
use Rattle.acn_grammar.proofs.Counts.{counted-octets, counted-signed, code_fits, fits_more}
use Rattle.acn_packet_laws.specs.Laws.{CodeAtFront}
use Rattle.acn_packet_laws.proofs.HasCode.{counted_code, counted_signed_code}
use Rattle.acn_packet_laws.proofs.LeafTotal.{is_or_not, image_or_none}
use Rattle.acn_num.proofs.BitLists.{number_below}
use Rattle.acn_grammar.proofs.FirstPlaces.{less_or_not}

-- The least count.

least_at : (k : ℕ) → k < 2 ^ 64 → (c : ℕ) (other : List Bool) → 0 < c → IsNumber (8 * c) k other → least_octets k ≤ c
least_at k small c other p s =
    let t = counted_code k small in
    let long = counted-octets k t.0 small t.1 in
    let whole = ap length (t.1).whole ∙ length-append (t.1).front (t.1).body in
    let front = (t.1).counts.width in
    let body = (t.1).spells.width in
    let least = (t.1).least c other p s in
    omega arith

signed_at : (y : ℤ) → fits_octets y 8 ≡ true → (c : ℕ) (other : List Bool) → 0 < c → IsSigned (8 * c) y other → least_signed_octets y ≤ c
signed_at y small c other p s =
    let t = counted_signed_code y small in
    let long = counted-signed y t.0 small t.1 in
    let whole = ap length (t.1).whole ∙ length-append (t.1).front (t.1).body in
    let front = (t.1).counts.width in
    let body = (t.1).spells.width in
    let least = (t.1).least c other p s in
    omega arith

small_number : (c : ℕ) (body : List Bool) → c ≤ 8 → length body ≡ 8 * c → number body < 2 ^ 64
small_number c body few l =
    let b = number_below body in
    let m = pow-le-pow_right {n = 2} (omega arith) {i = length body} {j = 64} (omega arith) in
    omega arith

-- what a coding with a count says of its octets
pub record CountedCoding (coding : NumCoding) (little : Bool) (number_in : List Bool → ℤ) (needs : ℤ → ℕ) (image : ℤ → ℤ) : Type 0 where
  pub enough : (c : ℕ) (body : List Bool) → 0 < c → c ≤ 8 → length body ≡ 8 * c → needs (number_in body) ≤ c
  pub codes : (c : ℕ) (front body : List Bool) → 0 < c → c ≤ 8 → length body ≡ 8 * c → needs (number_in body) ≡ c → IsNumber 8 c front → CodingCode Any coding little (image (number_in body)) (front ++ body)

pub from_low : (low : ℤ) (little : Bool) → CountedCoding (CountedFrom low) little (λ b. pos (number b)) (λ x. least_octets (nat_abs x)) (λ x. low +ℤ x)
from_low low little = record {
  enough = λ c body p few l. least_at (number body) (small_number c body few l) c body p (record { width = l; value = refl });
  codes = λ c front body p few l need counts. (
    number body,
    refl,
    record {
      count = c;
      front = front;
      body = body;
      whole = refl;
      counts = counts;
      spells = record { width = l; value = refl };
      positive = p;
      least = λ d other q s. (let m = least_at (number body) (small_number c body few l) d other q s in omega (arith, need));
    },
  );
}

pub from_signed : (little : Bool) → CountedCoding CountedSigned little signed_number least_signed_octets (λ x. x)
from_signed little = record {
  enough = λ c body p few l. signed_at (signed_number body) (eight c body p few l) c body p (record { width = l; value = refl });
  codes = λ c front body p few l need counts. record {
    count = c;
    front = front;
    body = body;
    whole = refl;
    counts = counts;
    spells = record { width = l; value = refl };
    positive = p;
    least = λ d other q s. (let m = signed_at (signed_number body) (eight c body p few l) d other q s in omega (arith, need));
  };
}
  where
    eight : (c : ℕ) (body : List Bool) → 0 < c → c ≤ 8 → length body ≡ 8 * c → fits_octets (signed_number body) 8 ≡ true
    eight c body p few l = fits_more (signed_number body) c 8 few (code_fits (signed_number body) c body p (record { width = l; value = refl }))

module _ (leaf : NumLeaf) (fine : IsTrue (num_fine leaf)) (coding : NumCoding) (is : leaf.coding ≡ coding) (number_in : List Bool → ℤ) (needs : ℤ → ℕ) (image : ℤ → ℤ) (counted : CountedCoding coding leaf.little number_in needs image) (input : List Bool) where
  abbrev Result : Type 0
  Result = CodeAtFront leaf input ⊎ ((r : Reason) × (reach : ℕ) × CountedFails leaf number_in needs image input r reach)

  c : ℕ
  c = number (take 8 input)

  body : List Bool
  body = take (8 * number (take 8 input)) (drop 8 input)

  body_long : 8 + 8 * number (take 8 input) ≤ length input → length (take (8 * number (take 8 input)) (drop 8 input)) ≡ 8 * number (take 8 input)
  body_long h = length-take-le (8 * number (take 8 input)) (drop 8 input) (omega (arith, length-drop 8 input))

  last : 8 + 8 * number (take 8 input) ≤ length input → 0 < number (take 8 input) → number (take 8 input) ≤ 8 → needs (number_in (take (8 * number (take 8 input)) (drop 8 input))) ≡ number (take 8 input)
      → ((x : ℤ) × (has leaf.set x ≡ true) × (image_of leaf x ≡ Some (image (number_in (take (8 * number (take 8 input)) (drop 8 input)))))) ⊎ NoneHas leaf (image (number_in (take (8 * number (take 8 input)) (drop 8 input)))) → Result
  last long some few need (inl i) = inl (record {
    number = i.0;
    code = take 8 input ++ take (8 * number (take 8 input)) (drop 8 input);
    behind = drop (8 * number (take 8 input)) (drop 8 input);
    whole = sym (append_assoc (take 8 input) (take (8 * number (take 8 input)) (drop 8 input)) (drop (8 * number (take 8 input)) (drop 8 input)) ∙ (ap (λ z. take 8 input ++ z) (take-append-drop (8 * number (take 8 input)) (drop 8 input)) ∙ take-append-drop 8 input));
    codes = record {
      permitted = i.1;
      image = image (number_in (take (8 * number (take 8 input)) (drop 8 input)));
      maps = i.2;
      spelled = subst (λ (z : NumCoding). CodingCode Any z leaf.little (image (number_in (take (8 * number (take 8 input)) (drop 8 input)))) (take 8 input ++ take (8 * number (take 8 input)) (drop 8 input))) (sym is)
          (counted.codes (number (take 8 input)) (take 8 input) (take (8 * number (take 8 input)) (drop 8 input)) some few (body_long long) need (record { width = length-take-le 8 input (omega arith); value = refl }));
    };
  })
  last long some few need (inr none) = inr (out_of_range (number_in (take (8 * number (take 8 input)) (drop 8 input))), 8 + 8 * number (take 8 input), counted_not_permitted (long, some, few, need, none, refl, refl))

  enough : 8 + 8 * number (take 8 input) ≤ length input → 0 < number (take 8 input) → number (take 8 input) ≤ 8 → (needs (number_in (take (8 * number (take 8 input)) (drop 8 input))) < number (take 8 input)) ⊎ (number (take 8 input) ≤ needs (number_in (take (8 * number (take 8 input)) (drop 8 input)))) → Result
  enough long some few (inl h) = inr (not_minimal, 8 + 8 * number (take 8 input), octets_to_spare (long, some, few, h, refl, refl))
  enough long some few (inr h) =
      let most = counted.enough (number (take 8 input)) (take (8 * number (take 8 input)) (drop 8 input)) some few (body_long long) in
      last long some few (omega arith) (image_or_none leaf fine (image (number_in (take (8 * number (take 8 input)) (drop 8 input)))))

  octets : 8 ≤ length input → 0 < number (take 8 input) → number (take 8 input) ≤ 8 → (length input < 8 + 8 * number (take 8 input)) ⊎ (8 + 8 * number (take 8 input) ≤ length input) → Result
  octets eight some few (inl h) = inr (short, length input, octets_cut (eight, some, few, h, refl, refl))
  octets eight some few (inr h) = enough h some few (less_or_not (needs (number_in (take (8 * number (take 8 input)) (drop 8 input)))) (number (take 8 input)))

  count : 8 ≤ length input → (number (take 8 input) ≡ 0) ⊎ (number (take 8 input) ≡ 0 → ⊥) → (8 < number (take 8 input)) ⊎ (number (take 8 input) ≤ 8) → Result
  count eight (inl z) m = inr (not_minimal, 8, none_counted (eight, z, refl, refl))
  count eight (inr s) (inl over) = inr (too_long, 8, many_counted (eight, over, refl, refl))
  count eight (inr s) (inr few) = octets eight (positive (number (take 8 input)) s) few (less_or_not (length input) (8 + 8 * number (take 8 input)))
    where
      positive : (n : ℕ) → (n ≡ 0 → ⊥) → 0 < n
      positive zero h = absurd (h refl)
      positive (suc n) h = omega arith

  first : (length input < 8) ⊎ (8 ≤ length input) → Result
  first (inl h) = inr (short, length input, no_count (h, refl, refl))
  first (inr h) = count h (is_or_not (number (take 8 input)) 0) (less_or_not 8 (number (take 8 input)))

  pub counted_total : Result
  counted_total = first (less_or_not (length input) 8)
