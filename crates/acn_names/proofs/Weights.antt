-- How many modules and assignments there are, part by part.
use Rattle.std.proofs.Common.{◌≡◌, ℕ, zero, suc, ◌+◌, ◌<◌, ◌≤◌, min, List, [], ◌∷◌, ◌++◌, length, get_or, drop, map, refl, sym, ap, ◌∙◌, arith, length-append}
use Rattle.std.specs.Prelude.{flat_map, IsTrue, ◌↔◌, nat_lt}
use Rattle.std.proofs.lemmas.Bool.{ltb-true, lt-ltb}
use Rattle.acn_asn_syntax.specs.Mirror.{AsnModule}
use Rattle.acn_asn_syntax.specs.View.{module_view}
use Rattle.acn_asn_syntax.specs.declared.modules.AsnModule as tree
use Rattle.acn_asn_syntax.specs.declared.modules.AsnModules.{AsnModules}
use Rattle.acn_index.specs.World.{asn_modules}
use Rattle.acn_names.specs.Few.{weight}

pub weight_is : (ms : List AsnModule) → weight ms ≡ length ms + length (flat_map (λ (m : AsnModule). m.items) ms)
weight_is [] = refl
weight_is (m ∷ ms) = let h = weight_is ms in let a = length-append m.items (flat_map (λ (m : AsnModule). m.items) ms) in omega arith

pub weight-append : (ms ns : List AsnModule) → weight (ms ++ ns) ≡ weight ms + weight ns
weight-append [] ns = omega arith
weight-append (m ∷ ms) ns = let h = weight-append ms ns in omega arith

-- one module, and one file
pub weight_opened : (ms : List tree.AsnModule) (k : ℕ) (m : tree.AsnModule) → k < length ms → m ≡ get_or ms k m
    → weight (map module_view (drop k ms)) ≡ suc (length (module_view m).items) + weight (map module_view (drop (suc k) ms))
weight_opened [] k m lt e = absurd (omega arith)
weight_opened (x ∷ ms) zero m lt e = ap (λ (y : tree.AsnModule). suc (length (module_view y).items) + weight (map module_view ms)) (sym e)
weight_opened (x ∷ ms) (suc k) m lt e = weight_opened ms k m (omega arith) e

pub file_opened : (files : List AsnModules) (k : ℕ) (file : AsnModules) → k < length files → file ≡ get_or files k file
    → weight (asn_modules (drop k files)) ≡ weight (map module_view file.modules) + weight (asn_modules (drop (suc k) files))
file_opened [] k file lt e = absurd (omega arith)
file_opened (x ∷ files) zero file lt e = weight-append (map module_view x.modules) (asn_modules files) ∙ ap (λ (y : AsnModules). weight (map module_view y.modules) + weight (asn_modules files)) (sym e)
file_opened (x ∷ files) (suc k) file lt e = file_opened files k file (omega arith) e

pub capped_more : (all next here rest whole : ℕ) → next ≡ min (all + here) 4294967296 → min (all + (here + rest)) 4294967296 ≡ whole → min (next + rest) 4294967296 ≡ whole
capped_more all next here rest whole e told = omega arith

-- few are those whose capped weight is below the cap
pub few_iff : (ms : List AsnModule) (n : ℕ) → n ≡ min (weight ms) 4294967296 → (IsTrue (nat_lt n 4294967296) ↔ (length ms + length (flat_map (λ (m : AsnModule). m.items) ms) < 4294967296))
few_iff ms n e = let w = weight_is ms in (λ h. (let lt = ltb-true n 4294967296 h in omega arith), λ h. lt-ltb n 4294967296 (omega arith))
