-- The width of a leaf is the length of all its codes.
use Rattle.std.proofs.Common.{◌≡◌, ℕ, ℤ, Bool, true, false, Option, Some, None, refl, ◌∙◌, arith, nat_eq, IsTrue}
use Rattle.std.specs.Prelude.{if◌then◌else◌}
use Rattle.acn_num.specs.Ranges.{has}
use Rattle.acn_grammar.specs.Check.{HasWidth}
use Rattle.acn_grammar.specs.Code.{Any}
use Rattle.acn_grammar.specs.Images.{images_of}
use Rattle.acn_grammar.specs.Interval.{fixed_width, code_lengths, one_length, width_by, width_of}
use Rattle.acn_grammar.specs.Leaves.{num_fine}
use Rattle.acn_grammar.specs.Length.{coding_length}
use Rattle.acn_grammar.specs.declared.bounds.Bounds.{Bounds}
use Rattle.acn_grammar.specs.declared.node.NumLeaf.{NumLeaf}
use Rattle.acn_grammar.proofs.FineLeaves.{rules_of}
use Rattle.acn_grammar.proofs.LeafLengths.{coding-length, limits_of}
use Rattle.acn_grammar.proofs.Monotone.{Has, lengths_have}
use Rattle.acn_grammar.proofs.SpanLaw.{fixed_is, varies_if}
use Rattle.acn_grammar.proofs.Within.{image_has}
use Rattle.std.proofs.lemmas.Bool.{eqb-true}

one_is : (b : Bounds) (n w : ℕ) → one_length b ≡ Some w → Has b n → n ≡ w
one_is b n w e h = by (nat_eq b.least b.greatest) (eqb-true b.least b.greatest) e
  where
    by : (t : Bool) → (t ≡ true → b.least ≡ b.greatest) → (if t then Some b.least else None) ≡ Some w → n ≡ w
    by true f e =
        let same = f refl in
        let is : b.least ≡ w = cc in
        let low = h.0 in
        let high = h.1 in
        omega arith
    by false f e = cc

pub by_width : (leaf : NumLeaf) (o : Option ℕ) (y : ℤ) (w : ℕ) → o ≡ fixed_width leaf.coding → width_by leaf o ≡ Some w → has (images_of leaf) y ≡ true → coding_length leaf.coding y ≡ w
by_width leaf (Some v) y w e k h = let one = fixed_is leaf.coding v y e in let two : v ≡ w = cc in one ∙ two
by_width leaf None y w e k h = one_is (code_lengths leaf) (coding_length leaf.coding y) w k (lengths_have leaf.coding (varies_if leaf.coding e) (images_of leaf) y h)

pub width_holds : (leaf : NumLeaf) (w : ℕ) → IsTrue (num_fine leaf) → width_of leaf ≡ Some w → HasWidth leaf w
width_holds leaf w h k x bs c =
    coding-length leaf.coding leaf.little Any c.image bs (rules_of leaf h).coding (limits_of leaf x c.image h c.permitted c.maps) c.spelled
    ∙ by_width leaf (fixed_width leaf.coding) c.image w refl k (image_has leaf x c.image c.permitted c.maps)
