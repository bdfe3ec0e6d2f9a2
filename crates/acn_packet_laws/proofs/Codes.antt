-- Every permitted number of a leaf that keeps its rules has a code.
use Rattle.std.proofs.Common.{◌≡◌, zero, suc, ℤ, pos, negsuc, true, List, Option, Some, None, refl, arith, inl, inr, ◌⊎◌}
use Rattle.std.specs.Prelude.{◌≤ℤ◌, if◌then◌else◌}
use Rattle.std.proofs.lemmas.Int.{ints}
use Rattle.acn_num.specs.Ranges.{has}
use Rattle.acn_grammar.specs.Code.{image_by, item_number}
use Rattle.acn_grammar.specs.Images.{ends, images_of}
use Rattle.acn_packet_laws.specs.Laws.{EachNumberHasACode}
use Rattle.acn_grammar.specs.Leaves.{takes, set_fine, is_range, no_items, only_integer}
use Rattle.acn_grammar.specs.declared.node.Items.{Items}
use Rattle.acn_grammar.specs.declared.node.NumCoding.{NumCoding}
use Rattle.acn_grammar.specs.declared.node.NumCoding.TheVariants.{Range, CountedFrom, CountedSigned, PosInt, Twos, Bcd, BcdEnded, Ascii, AsciiEnded, Flag, Fixed}
use Rattle.acn_grammar.specs.declared.node.NumKind.{NumKind}
use Rattle.acn_grammar.specs.declared.node.NumKind.TheVariants.{Integer, Boolean, Enumerated, Null}
use Rattle.acn_grammar.specs.declared.node.Table.{Table}
use Rattle.acn_grammar.proofs.FineLeaves.{rules_of, no_values}
use Rattle.acn_packet_laws.proofs.HasCode.{Special, has_code}
use Rattle.acn_grammar.proofs.LeafLengths.{limits_of, some_ends, plain_image}
use Rattle.acn_grammar.proofs.Within.{image_has, ends-has}
use Rattle.std.proofs.lemmas.Bool.{and_parts}
use Rattle.acn_grammar.proofs.HasImage.{range_within, has_image}

-- Booleans and NULLs write their own numbers.

no_table : (kind : NumKind) (table : Option Table) → only_integer kind table ≡ true → (kind ≡ Integer → ⊥) → table ≡ None
no_table Integer table h n = absurd (n refl)
no_table Boolean None h n = refl
no_table Enumerated None h n = refl
no_table Null None h n = refl
no_table Boolean (Some t) h n = cc
no_table Enumerated (Some t) h n = cc
no_table Null (Some t) h n = cc

zero_or_one : (x : ℤ) → pos 0 ≤ℤ x → x ≤ℤ pos 1 → (x ≡ pos 0) ⊎ (x ≡ pos 1)
zero_or_one (pos zero) a b = inl refl
zero_or_one (pos (suc zero)) a b = inr refl
zero_or_one (pos (suc (suc n))) a b = absurd (omega (arith, ints))
zero_or_one (negsuc n) a b = absurd (omega (arith, ints))

special_by : (coding : NumCoding) (kind : NumKind) (items : Items) (table : Option Table) (set : List (ℤ × ℤ)) (x y : ℤ) → takes kind coding ≡ true → set_fine kind coding items table set ≡ true → only_integer kind table ≡ true → has set x ≡ true → (if items.values then item_number items.items x else image_by table x) ≡ Some y → Special coding y
special_by (Flag p q) Boolean items table set x y t s o h i =
    let f = and_parts (is_range (pos 0) (pos 1) set) (no_items items) s in
    let w = range_within (pos 0) (pos 1) set x f.0 h in
    let same = plain_image items.values items table x y (no_values items f.1) (no_table Boolean table o (λ e. cc)) i in
    rw (← same) (zero_or_one x w.0 w.1)
special_by (Flag p q) Integer items table set x y t s o h i = cc
special_by (Flag p q) Enumerated items table set x y t s o h i = cc
special_by (Flag p q) Null items table set x y t s o h i = cc
special_by (Fixed pattern) Null items table set x y t s o h i =
    let f = and_parts (is_range (pos 0) (pos 0) set) (no_items items) s in
    let w = range_within (pos 0) (pos 0) set x f.0 h in
    let same = plain_image items.values items table x y (no_values items f.1) (no_table Null table o (λ e. cc)) i in
    rw (← same) (none_else x w.0 w.1)
  where
    none_else : (x : ℤ) → pos 0 ≤ℤ x → x ≤ℤ pos 0 → x ≡ pos 0
    none_else x a b = omega (arith, ints)
special_by (Fixed pattern) Integer items table set x y t s o h i = cc
special_by (Fixed pattern) Boolean items table set x y t s o h i = cc
special_by (Fixed pattern) Enumerated items table set x y t s o h i = cc
special_by (Range low width) kind items table set x y t s o h i = tt
special_by (CountedFrom low) kind items table set x y t s o h i = tt
special_by CountedSigned kind items table set x y t s o h i = tt
special_by (PosInt n) kind items table set x y t s o h i = tt
special_by (Twos n) kind items table set x y t s o h i = tt
special_by (Bcd n) kind items table set x y t s o h i = tt
special_by BcdEnded kind items table set x y t s o h i = tt
special_by (Ascii n signed) kind items table set x y t s o h i = tt
special_by (AsciiEnded end signed) kind items table set x y t s o h i = tt

pub each_number_has_a_code : EachNumberHasACode
each_number_has_a_code mode leaf h x p =
    let r = rules_of leaf h in
    let i = has_image leaf h x p in
    let e = some_ends leaf.coding (ends (images_of leaf)) r.writes in
    let w = ends-has (images_of leaf) i.0 e.0 (image_has leaf x i.0 p i.1) e.1 in
    let c = has_code mode leaf.coding leaf.little e.0 i.0 r.coding r.little e.2 w.0 w.1 (limits_of leaf x i.0 h p i.1) (special_by leaf.coding leaf.kind leaf.items leaf.table leaf.set x i.0 r.kind r.set r.integer p i.1) in
    (c.0, record { permitted = p; image = i.0; maps = i.1; spelled = c.1 })
