-- Sizes in front.
use Rattle.std.proofs.Common.{◌≡◌, ℕ, ◌+◌, ◌^◌, ◌<◌, ◌≤◌, pos, Bool, List, [], length, take, Option, Some, None, refl, sym, subst, arith, IsTrue}
use Rattle.std.specs.Prelude.{IfSome}
use Rattle.std.proofs.Math.Nat.{pow-le-pow_right}
use Rattle.std.proofs.lemmas.List.{length-take-le}
use Rattle.acn_num.specs.Bits.{number}
use Rattle.acn_num.specs.Ranges.{In}
use Rattle.acn_num.proofs.BitLists.{number_below}
use Rattle.acn_bits.specs.Reading.{Reading, passed}
use Rattle.acn_bits.proofs.Readings.{reads_passed, reads_nothing}
use Rattle.acn_grammar.specs.Env.{Env, at_slot}
use Rattle.acn_grammar.specs.Leaves.{sizing_fine}
use Rattle.acn_grammar.specs.Spell.{SizePart, RulePart}
use Rattle.acn_grammar.specs.declared.node.SizeRule.{SizeRule}
use Rattle.acn_grammar.specs.declared.node.SizeRule.TheVariants.{Prefix, Slot}
use Rattle.acn_grammar.specs.declared.node.Sizing.{Sizing}
use Rattle.acn_reads.specs.Decoded.{Follows, Passes}
use Rattle.acn_text.specs.Steps.{RuleFits}
use Rattle.acn_text.proofs.Fine.{sizing_fits}

pub in_front : (sizing : Sizing) (low width n : ℕ) (t : Env) (a b : Reading) → sizing.rule ≡ Prefix low width → In sizing.sizes (pos n) → width ≤ length a.rest → n ≡ low + number (take width a.rest) → b ≡ passed width a → Passes (λ env. SizePart sizing env n) t a b
in_front sizing low width n t a b is permitted room value moved = reads_passed (λ bs. (env : Env) → Follows t env → SizePart sizing env n a.at bs) width a b room moved
    (λ env f. record {
      given = permitted;
      spelled = subst (λ (r : SizeRule). RulePart r env n a.at (take width a.rest)) (sym is) (record { given = omega (arith, value); spelled = record { width = length-take-le width a.rest room; value = omega (arith, value) } });
    })

pub few_in_front : (sizing : Sizing) (low width : ℕ) → IsTrue (sizing_fine sizing) → sizing.rule ≡ Prefix low width → width ≤ 64
few_in_front sizing low width fine is =
    let fits = (subst (λ (r : SizeRule). RuleFits r) is (sizing_fits sizing fine)).1 in
    omega (arith, fits)

pub small_in_front : (sizing : Sizing) (low width v : ℕ) (rest : List Bool) → IsTrue (sizing_fine sizing) → sizing.rule ≡ Prefix low width → width ≤ length rest → v ≡ number (take width rest) → low + v < 2 ^ 64
small_in_front sizing low width v rest fine is room value =
    let fits = subst (λ (r : SizeRule). RuleFits r) is (sizing_fits sizing fine) in
    let least = fits.0 in
    let below : v < 2 ^ width = subst (λ (k : ℕ). k < 2 ^ width) (sym value) (subst (λ (k : ℕ). number (take width rest) < 2 ^ k) (length-take-le width rest room) (number_below (take width rest))) in
    let wide = pow-le-pow_right {n = 2} (omega arith) {i = width} {j = 17} fits.1 in
    omega (arith, least, below, wide)

-- a permitted size that a slot says
pub slot_said : (sizing : Sizing) (slot n : ℕ) (t : Env) (a : Reading) → sizing.rule ≡ Slot slot → In sizing.sizes (pos n) → at_slot t slot ≡ Some (pos n) → Passes (λ env. SizePart sizing env n) t a a
slot_said sizing slot n t a is permitted there = reads_nothing (λ bs. (env : Env) → Follows t env → SizePart sizing env n a.at bs) a a refl
    (λ env f. record { given = permitted; spelled = subst (λ (r : SizeRule). RulePart r env n a.at []) (sym is) (f slot (pos n) there, refl) })

-- what holds wherever one reads, and so here
pub held_here : (o : Option ℕ) (P : ℕ → Reading → Type 0) (a : Reading) → IfSome o (λ n. (cur : Reading) → P n cur) → IfSome o (λ n. P n a)
held_here None P a h = tt
held_here (Some n) P a h = h a
