-- How many modules and assignments there are.
use Rattle.std.proofs.Common.{◌≡◌, ℕ, zero, suc, ◌<◌, ◌≤◌, List, [], ◌∷◌, length, get_or, Some, refl, arith, length-append}
use Rattle.std.specs.Prelude.{map, slice_get, flat_map}
use Rattle.acn_asn_syntax.specs.Mirror.{AsnModule}
use Rattle.acn_asn_syntax.specs.View.{module_view, assign_view}
use Rattle.acn_asn_syntax.specs.declared.modules.AsnModule as tree
use Rattle.acn_index.specs.World.{World, count, IsSmall}

pub length_map : {A B : Type 0} (f : A → B) (xs : List A) → length (map f xs) ≡ length xs
length_map f [] = refl
length_map f (x ∷ xs) = let e = length_map f xs in omega arith

pub items_fit : (ms : List AsnModule) (k : ℕ) (m : AsnModule) → Some m ≡ slice_get ms k → length m.items ≤ length (flat_map (λ (m : AsnModule). m.items) ms)
items_fit [] k m e = absurd (cc e)
items_fit (x ∷ ms) zero m e = let same : m ≡ x = cc e in rw same (omega (arith, length-append x.items (flat_map (λ (m : AsnModule). m.items) ms)))
items_fit (x ∷ ms) (suc k) m e = let h = items_fit ms k m e in omega (arith, length-append x.items (flat_map (λ (m : AsnModule). m.items) ms))

pub few_items : (w : World) → IsSmall w → length (flat_map (λ (m : AsnModule). m.items) w.modules) < 4294967296
unfolding count
few_items w small = omega arith

-- the assignments of one module can be numbered by 32 bits
pub items_small : (w : World) (k : ℕ) (m : AsnModule) → Some m ≡ slice_get w.modules k → IsSmall w → length m.items < 4294967296
unfolding count
items_small w k m e small = let h = items_fit w.modules k m e in omega arith

-- one module of the program's own has at most as many assignments as all
pub part_fits : (ms : List tree.AsnModule) (k : ℕ) (d : tree.AsnModule) → k < length ms → length (get_or ms k d).items ≤ length (flat_map (λ (m : AsnModule). m.items) (map module_view ms))
part_fits [] k d lt = absurd (omega arith)
part_fits (m ∷ ms) zero d lt = omega (arith, length-append (module_view m).items (flat_map (λ (m : AsnModule). m.items) (map module_view ms)), length_map assign_view m.items)
part_fits (m ∷ ms) (suc k) d lt =
    let h = part_fits ms k d (omega arith) in
    omega (arith, length-append (module_view m).items (flat_map (λ (m : AsnModule). m.items) (map module_view ms)))
