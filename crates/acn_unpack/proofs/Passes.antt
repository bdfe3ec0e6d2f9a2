-- What is passed over spells some value.
use Rattle.std.proofs.Common.{◌≡◌, ℕ, zero, suc, ◌-◌, ◌*◌, ◌^◌, ◌<◌, ◌≤◌, ℤ, pos, negsuc, Bool, true, false, List, [], ◌∷◌, ◌++◌, length, take, drop, length-take-le, length-drop, take-append-drop, refl, sym, ap, ◌∙◌, arith, subst, IsTrue, ◌⊎◌, inl, inr}
use Rattle.std.specs.Prelude.{nat_lt, ◌≤ℤ◌, ◌&&◌}
use Rattle.std.proofs.lemmas.Bool.{and_parts}
use Rattle.std.proofs.lemmas.Bool.Decides.{nat_tests}
use Rattle.std.proofs.lemmas.Int.{ints}
use Rattle.acn_num.specs.Bits.{number, low_bits}
use Rattle.acn_num.specs.Ranges.{In}
use Rattle.acn_num.proofs.BitLists.{number_below, low_bits-number}
use Rattle.acn_bits.specs.Reading.{Reading, passed}
use Rattle.acn_bits.proofs.Readings.{reads_passed}
use Rattle.acn_grammar.specs.Code.{Any, NumberOf}
use Rattle.acn_grammar.specs.Env.{Env}
use Rattle.acn_grammar.specs.Grammar.{Grammar, Data, Form, octets, bits, octet_string, bit_string, int, boolean, item, null}
use Rattle.acn_grammar.specs.LeafFails.{short}
use Rattle.acn_grammar.specs.Leaves.{num_fine, set_fine, is_range, no_items, items_fine}
use Rattle.acn_grammar.specs.Spell.{FormPart, SizePart}
use Rattle.acn_grammar.specs.declared.node.NumKind.{NumKind}
use Rattle.acn_grammar.specs.declared.node.NumKind.TheVariants.{Integer, Boolean, Enumerated, Null}
use Rattle.acn_grammar.specs.declared.node.NumLeaf.{NumLeaf}
use Rattle.acn_grammar.specs.declared.node.Sizing.{Sizing}
use Rattle.acn_grammar.proofs.FineLeaves.{rules_of}
use Rattle.acn_reads.specs.Decoded.{Passes}
use Rattle.acn_reads.specs.Steps.{AreBits, AreOctets, Named, NoForm}
use Rattle.acn_reads.specs.declared.stop.Stop.{Stop}
use Rattle.acn_reads.specs.declared.stop.Stop.TheVariants.{Fails as Failed, NoMemory}
use Rattle.acn_reads.proofs.Small.{in_range, null_number}
use Rattle.acn_reads.proofs.StringReads.{octets_read, bits_read}
use Rattle.acn_unpack.specs.Keeps.{Halts, IsShort}

-- Octets and bits.

whole_octets : (n : ℕ) (bs : List Bool) → length bs ≡ 8 * n → (os : List ℕ) × AreOctets n os bs
whole_octets zero [] e = ([], record { size = refl; octets = refl; same = refl })
whole_octets zero (b ∷ bs) e = absurd (omega (arith, e))
whole_octets (suc n) bs e =
    let room : 8 ≤ length bs = omega (arith, e) in
    let l = length-take-le 8 bs room in
    let d = length-drop 8 bs in
    let r = whole_octets n (drop 8 bs) (omega (arith, e, d)) in
    let small : number (take 8 bs) < 256 = subst (λ (k : ℕ). number (take 8 bs) < 2 ^ k) l (number_below (take 8 bs)) in
    let test : nat_lt (number (take 8 bs)) 256 ≡ true = grind (arith, nat_tests) in
    let front : low_bits 8 (number (take 8 bs)) ≡ take 8 bs = sym (ap (λ (k : ℕ). low_bits k (number (take 8 bs))) l) ∙ low_bits-number (take 8 bs) in (
      number (take 8 bs) ∷ r.0,
      record {
        size = ap suc r.1.size;
        octets = rw (test, r.1.octets) refl;
        same = sym (take-append-drop 8 bs) ∙ (ap (λ (x : List Bool). x ++ drop 8 bs) (sym front) ∙ ap (λ (x : List Bool). low_bits 8 (number (take 8 bs)) ++ x) r.1.same);
      },
    )

module _ (sizing : Sizing) (n : ℕ) (t : Env) (a b c : Reading) (sized : Passes (λ env. SizePart sizing env n) t a b) where
  pub octets_passed : 8 * n ≤ length b.rest → c ≡ passed (8 * n) b → (d : Data) × ((root : Grammar) → Passes (λ env. FormPart root Any (octets sizing) env d) t a c)
  octets_passed room moved =
      let w = whole_octets n (take (8 * n) b.rest) (length-take-le (8 * n) b.rest room) in
      (octet_string w.0, λ root. octets_read root sizing n w.0 t a b c sized (reads_passed (AreOctets n w.0) (8 * n) b c room moved w.1))

  pub bits_passed : n ≤ length b.rest → c ≡ passed n b → (d : Data) × ((root : Grammar) → Passes (λ env. FormPart root Any (bits sizing) env d) t a c)
  bits_passed room moved =
      (bit_string (take n b.rest), λ root. bits_read root sizing n (take n b.rest) t a b c sized (reads_passed (AreBits n (take n b.rest)) n b c room moved (record { size = length-take-le n b.rest room; same = refl })))

-- the stop of a string whose bits aren't there
pub short_form : (e : Stop) (L few : Type 0) (inside : Bool) (from : ℕ) (form : Form) (t : Env) (a : Reading) → (few → NoForm form t a short) → IsShort inside from few e → Halts L e (Named inside from (NoForm form t a))
short_form (Failed reason at) L few inside from form t a f h = (h.0, (short, h.1, f h.2))
short_form NoMemory L few inside from form t a f h = absurd h

-- Numbers.

zero_or_one : (x : ℤ) → (pos 0 ≤ℤ x) × (x ≤ℤ pos 1) → (x ≡ pos 0) ⊎ (x ≡ pos 1)
zero_or_one (pos zero) r = inl refl
zero_or_one (pos (suc zero)) r = inr refl
zero_or_one (pos (suc (suc n))) r = (let b = r.1 in absurd (omega (arith, ints)))
zero_or_one (negsuc n) r = (let b = r.0 in absurd (omega (arith, ints)))

a_boolean : (x : ℤ) → (x ≡ pos 0) ⊎ (x ≡ pos 1) → (d : Data) × NumberOf Boolean d x
a_boolean x (inl e) = (boolean false, e)
a_boolean x (inr e) = (boolean true, e)

an_item : (x : ℤ) → pos 0 ≤ℤ x → (d : Data) × NumberOf Enumerated d x
an_item (pos n) h = (item n, refl)
an_item (negsuc n) h = absurd (omega (arith, ints))

-- a permitted number of a leaf is that of a value
pub some_value : (leaf : NumLeaf) (x : ℤ) → IsTrue (num_fine leaf) → In leaf.set x → (d : Data) × NumberOf leaf.kind d x
some_value leaf x fine p = by leaf.kind refl
  where
    set_of : (kind : NumKind) → leaf.kind ≡ kind → set_fine kind leaf.coding leaf.items leaf.table leaf.set ≡ true
    set_of kind e = subst (λ (k : NumKind). set_fine k leaf.coding leaf.items leaf.table leaf.set ≡ true) e (rules_of leaf fine).set

    to_leaf : (kind : NumKind) → leaf.kind ≡ kind → (d : Data) × NumberOf kind d x → (d : Data) × NumberOf leaf.kind d x
    to_leaf kind e h = (h.0, subst (λ (k : NumKind). NumberOf k h.0 x) (sym e) h.1)

    by : (kind : NumKind) → leaf.kind ≡ kind → (d : Data) × NumberOf leaf.kind d x
    by Integer e = to_leaf Integer e (int x, refl)
    by Boolean e = to_leaf Boolean e (a_boolean x (zero_or_one x (in_range (pos 0) (pos 1) leaf.set x (and_parts (is_range (pos 0) (pos 1) leaf.set) (no_items leaf.items) (set_of Boolean e)).0 p)))
    by Null e = (null, null_number leaf x fine e p)
    by Enumerated e =
        let f = and_parts (nat_lt 0 (length leaf.items.items)) (is_range (pos 0) (pos (length leaf.items.items - 1)) leaf.set && items_fine leaf.coding leaf.items) (set_of Enumerated e) in
        let r = in_range (pos 0) (pos (length leaf.items.items - 1)) leaf.set x (and_parts (is_range (pos 0) (pos (length leaf.items.items - 1)) leaf.set) (items_fine leaf.coding leaf.items) f.1).0 p in
        to_leaf Enumerated e (an_item x r.0)
