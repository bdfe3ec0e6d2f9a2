-- The least and the greatest size that the sizes and the slot permit.
use Rattle.std.proofs.Common.{◌≡◌, ℕ, ◌≤◌, ℤ, pos, negsuc, Bool, true, false, ◌&&◌, [], ◌∷◌, ◌++◌, length, Some, refl, sym, ◌∙◌, arith, subst, nat_lt}
use Rattle.std.proofs.lemmas.Bool.{and_parts}
use Rattle.std.proofs.lemmas.Int.{ints}
use Rattle.std.specs.Prelude.{◌≤ℤ◌, int_le, if◌then◌else◌}
use Rattle.std.specs.Int.{int_max, int_min}
use Rattle.acn_num.proofs.Members.{has_meet}
use Rattle.acn_num.specs.Ranges.{Ranges, In, has, piece, clip, meet, are_ranges, all_within}
use Rattle.acn_grammar.specs.Grammar.{Grammar}
use Rattle.acn_grammar.specs.Images.{ends}
use Rattle.acn_grammar.specs.Leaves.{sizes_fine}
use Rattle.acn_grammar.specs.Slots.{domain_of}
use Rattle.acn_grammar.specs.declared.node.Sizing.{Sizing}
use Rattle.acn_grammar.specs.declared.node.SizeRule.{SizeRule}
use Rattle.acn_grammar.specs.declared.node.SizeRule.TheVariants.{Prefix, Slot, Ended}
use Rattle.acn_num.specs.declared.limits.TheConstants.{MOST_SIZE}
use Rattle.acn_grammar.proofs.HasImage.{ordered_ranges, Ordered as OrderedRanges}
use Rattle.acn_grammar.proofs.WholeTests.{either, le_fact}
use Rattle.acn_grammar.proofs.Within.{ends-has, between}
use Rattle.acn_extreme_laws.specs.Laws.{Ordered}
use Rattle.acn_extreme_laws.specs.Reach.{natural, sizes_by, sizes_can}
use Rattle.acn_extreme_laws.specs.Best.{end_of, is_enough}
use Rattle.acn_extreme_laws.specs.declared.side.Side.{Side}
use Rattle.acn_extreme_laws.specs.declared.side.Side.TheVariants.{Shortest, Longest}
use Rattle.acn_extreme_laws.proofs.Parts.{ends_are_members}

joined : (xs ys : Ranges) → Ordered xs → Ordered ys → Ordered (xs ++ ys)
joined [] ys h k = k
joined (x ∷ xs) ys h k = (h.0, joined xs ys h.1 k)

piece_ordered : (r s : ℤ × ℤ) → Ordered (piece r s)
piece_ordered r s = by (int_le (int_max r.0 s.0) (int_min r.1 s.1)) refl
  where
    by : (b : Bool) → int_le (int_max r.0 s.0) (int_min r.1 s.1) ≡ b → Ordered (if b then (int_max r.0 s.0, int_min r.1 s.1) ∷ [] else [])
    by true e = (le_fact (int_max r.0 s.0) (int_min r.1 s.1) e, tt)
    by false e = tt

clip_ordered : (r : ℤ × ℤ) (s : Ranges) → Ordered (clip r s)
clip_ordered r [] = tt
clip_ordered r (q ∷ s) = joined (piece r q) (clip r s) (piece_ordered r q) (clip_ordered r s)

meet_ordered : (a b : Ranges) → Ordered (meet a b)
meet_ordered [] b = tt
meet_ordered (r ∷ a) b = joined (clip r b) (meet a b) (clip_ordered r b) (meet_ordered a b)

pub same_order : (rs : Ranges) → OrderedRanges rs → Ordered rs
same_order [] h = tt
same_order (r ∷ rs) h = (h.0, same_order rs h.1)

pub sizes_ordered : (root : Grammar) (sizing : Sizing) → sizes_fine sizing.sizes ≡ true → Ordered (sizes_can root sizing)
sizes_ordered root sizing fine = by sizing.rule
  where
    own : Ordered sizing.sizes
    own =
        let a = and_parts (nat_lt 0 (length sizing.sizes)) (are_ranges sizing.sizes && all_within (pos 0) (pos MOST_SIZE) sizing.sizes) fine in
        same_order sizing.sizes (ordered_ranges sizing.sizes (and_parts (are_ranges sizing.sizes) (all_within (pos 0) (pos MOST_SIZE) sizing.sizes) a.1).0)

    by : (rule : SizeRule) → Ordered (sizes_by root rule sizing.sizes)
    by (Slot s) = meet_ordered sizing.sizes (domain_of root s)
    by (Prefix low width) = own
    by (Ended p) = own

pub naturals : (x y : ℤ) → x ≤ℤ y → natural x ≤ natural y
naturals (pos m) (pos n) h = omega (arith, ints)
naturals (pos m) (negsuc n) h = absurd (omega (arith, ints))
naturals (negsuc m) y h = omega arith

pub low_high : (rs : Ranges) → Ordered rs → (e : ℤ × ℤ) → ends rs ≡ Some e → natural e.0 ≤ natural e.1
low_high rs o e is = let m = ends_are_members rs e o is in naturals e.0 e.1 (ends-has rs e.0 e m.0 is).1

-- Which sizes are chosen.

pub lies_within : (low high : ℤ) (rs : Ranges) (x : ℤ) → all_within low high rs ≡ true → has rs x ≡ true → (low ≤ℤ x) × (x ≤ℤ high)
lies_within low high [] x h k = cc
lies_within low high (r ∷ rs) x h k =
    let f = and_parts (int_le low r.0) (int_le r.1 high && all_within low high rs) h in
    let g = and_parts (int_le r.1 high) (all_within low high rs) f.1 in
    either {F = (low ≤ℤ x) × (x ≤ℤ high)} (int_le r.0 x && int_le x r.1) (has rs x) k
    (λ q. let w = between r.0 r.1 x q in let a = le_fact low r.0 f.0 in let b = w.0 in let c = le_fact r.1 high g.0 in let d = w.1 in (omega (arith, ints), omega (arith, ints)))
    (λ q. lies_within low high rs x g.1 q)

pub natural_back : (x : ℤ) → pos 0 ≤ℤ x → pos (natural x) ≡ x
natural_back (pos n) h = refl
natural_back (negsuc n) h = absurd (omega (arith, ints))

end_in : (side : Side) (rs : Ranges) (e : ℤ × ℤ) → Ordered rs → ends rs ≡ Some e → has rs (end_of side e) ≡ true
end_in Shortest rs e o is = (ends_are_members rs e o is).0
end_in Longest rs e o is = (ends_are_members rs e o is).1

-- the size is one of the sizes, and one that the slot says
pub record IsSize (root : Grammar) (sizing : Sizing) (n : ℕ) : Type 0 where
  pub permitted : has sizing.sizes (pos n) ≡ true
  pub told : (s : ℕ) → sizing.rule ≡ Slot s → In (domain_of root s) (pos n)

size_of_member : (root : Grammar) (sizing : Sizing) (x : ℤ) → sizes_fine sizing.sizes ≡ true → has (sizes_can root sizing) x ≡ true → IsSize root sizing (natural x)
size_of_member root sizing x fine h = by sizing.rule refl h
  where
    whole : all_within (pos 0) (pos MOST_SIZE) sizing.sizes ≡ true
    whole = (and_parts (are_ranges sizing.sizes) (all_within (pos 0) (pos MOST_SIZE) sizing.sizes) (and_parts (nat_lt 0 (length sizing.sizes)) (are_ranges sizing.sizes && all_within (pos 0) (pos MOST_SIZE) sizing.sizes) fine).1).1

    back : has sizing.sizes x ≡ true → pos (natural x) ≡ x
    back q = natural_back x (lies_within (pos 0) (pos MOST_SIZE) sizing.sizes x whole q).0

    here : has sizing.sizes x ≡ true → has sizing.sizes (pos (natural x)) ≡ true
    here q = subst (λ z. has sizing.sizes z ≡ true) (sym (back q)) q

    by : (rule : SizeRule) → sizing.rule ≡ rule → has (sizes_by root rule sizing.sizes) x ≡ true → IsSize root sizing (natural x)
    by (Slot s) e q =
        let both = and_parts (has sizing.sizes x) (has (domain_of root s) x) (sym (has_meet sizing.sizes (domain_of root s) x) ∙ q) in
        record { permitted = here both.0; told = λ t same. subst (λ z. In (domain_of root z) (pos (natural x))) (slot_is s t (sym e ∙ same)) (subst (λ z. has (domain_of root s) z ≡ true) (sym (back both.0)) both.1) }
      where
        slot_is : (s t : ℕ) → Slot s ≡ Slot t → s ≡ t
        slot_is s t q = cc
    by (Prefix low width) e q = record { permitted = here q; told = λ t same. absurd (other t (sym e ∙ same)) }
      where
        other : (t : ℕ) → Prefix low width ≡ Slot t → ⊥
        other t q = cc
    by (Ended p) e q = record { permitted = here q; told = λ t same. absurd (other t (sym e ∙ same)) }
      where
        other : (t : ℕ) → Ended p ≡ Slot t → ⊥
        other t q = cc

pub chosen_size : (root : Grammar) (side : Side) (sizing : Sizing) (e : ℤ × ℤ) → sizes_fine sizing.sizes ≡ true → ends (sizes_can root sizing) ≡ Some e → IsSize root sizing (natural (end_of side e))
chosen_size root side sizing e fine is = size_of_member root sizing (end_of side e) fine (end_in side (sizes_can root sizing) e (sizes_ordered root sizing fine) is)

pub least_size : (root : Grammar) (sizing : Sizing) (e : ℤ × ℤ) → sizes_fine sizing.sizes ≡ true → ends (sizes_can root sizing) ≡ Some e → IsSize root sizing (natural e.0)
least_size root sizing e fine is = chosen_size root Shortest sizing e fine is

pub enough_size : (root : Grammar) (side : Side) (sizing : Sizing) → sizes_fine sizing.sizes ≡ true → (k : ℕ) → is_enough side (sizes_can root sizing) k ≡ true → IsSize root sizing k
enough_size root Shortest sizing fine k h = cc
enough_size root Longest sizing fine k h = size_of_member root sizing (pos k) fine h
