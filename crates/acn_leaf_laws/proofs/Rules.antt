-- The rules of a number leaf make it fine.
use Rattle.std.proofs.Common.{◌≡◌, Bool, true, false, [], ◌∷◌, refl}
use Rattle.std.specs.List.{list_all}
use Rattle.acn_grammar.specs.Images.{written_ends}
use Rattle.acn_grammar.specs.Leaves.{takes, coding_fine, implies, can_be_little, is_signed_text, begins_below_zero, set_fine, only_integer, table_fine, values_fine, can_write_all, num_fine}
use Rattle.acn_grammar.specs.declared.node.NumLeaf.{NumLeaf}
use Rattle.acn_grammar.proofs.FineLeaves.{Rules}

nine : (a b c d e f g i j : Bool) → a ≡ true → b ≡ true → c ≡ true → d ≡ true → e ≡ true → f ≡ true → g ≡ true → i ≡ true → j ≡ true → list_all (λ x. x) (a ∷ b ∷ c ∷ d ∷ e ∷ f ∷ g ∷ i ∷ j ∷ []) ≡ true
nine a b c d e f g i j ha hb hc hd he hf hg hi hj = rw (ha, hb, hc, hd, he, hf, hg, hi, hj) refl

pub fine_by : (leaf : NumLeaf) → Rules leaf → num_fine leaf ≡ true
fine_by leaf r =
    nine (takes leaf.kind leaf.coding) (coding_fine leaf.coding) (implies leaf.little (can_be_little leaf.coding)) (implies (is_signed_text leaf.coding) (begins_below_zero leaf.set))
    (set_fine leaf.kind leaf.coding leaf.items leaf.table leaf.set) (only_integer leaf.kind leaf.table) (table_fine leaf.coding leaf.set leaf.table) (values_fine leaf.items.values leaf.coding (written_ends leaf)) (can_write_all leaf.coding (written_ends leaf))
    r.kind r.coding r.little r.sign r.set r.integer r.table r.values r.writes

pub implied : (a b : Bool) → (a ≡ true → b ≡ true) → implies a b ≡ true
implied true b h = h refl
implied false b h = refl
