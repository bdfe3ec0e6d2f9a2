-- Digits and ends, character by character.
use Rattle.std.proofs.Common.{◌≡◌, ℕ, suc, ◌+◌, ◌-◌, ◌*◌, ◌^◌, ◌<◌, ◌≤◌, Bool, true, false, List, [], ◌∷◌, ◌++◌, length, take, drop, refl, sym, ap, ◌∙◌, subst, arith, inl, inr, length-drop, length-append, take-append-drop, append_assoc, append-nil, ◌⊎◌, nat_eq}
use Rattle.std.proofs.Math.Nat.{pow-le-pow_right, pow-suc}
use Rattle.std.proofs.lemmas.List.{drop-drop, drop-take, take-take, length-take-le}
use native.Mathlib.Decide.{dec_lt}
use Rattle.acn_num.specs.Bits.{number, low_bits}
use Rattle.acn_bits.specs.Reading.{Reading, passed, Reads, Stays}
use Rattle.acn_num.proofs.BitLists.{number_same, number-low_bits, length-low_bits}
use Rattle.acn_bits.proofs.Loads.{take_add, small}
use Rattle.acn_grammar.specs.Code.{decimal_number, IsMinimal}
use Rattle.acn_grammar.specs.LeafFails.{Reason, bad_digit, too_long, EndAt}
use Rattle.acn_grammar.proofs.Counts.{digits-below}
use Rattle.std.specs.Prelude.{Result, Ok, Err, IfOk, OnErr}
use Rattle.acn_grammar.specs.declared.read_fault.ReadFault.{ReadFault}
use Rattle.acn_ints.specs.declared.ended.Ended.{Ended}
use Rattle.acn_ints.specs.FixedReads.{Taken}
use Rattle.acn_ints.specs.EndedReads.{digit_codes, AreDecimal, NoDigit, PassedDigit, PassedEnd, PassedRest, PassedEnded, RestWrong, CharacterWrong, EndedWrong, AreSoFar, starts_with_zero}
use Rattle.acn_ints.proofs.SaidLemmas.{taken_stays}
use Rattle.acn_bits.proofs.Readings.{reads_passed, stays_twice, reads_join}

pub passed_twice : (n m : ℕ) (r : Reading) → passed m (passed n r) ≡ passed (n + m) r
passed_twice n m r = rw (drop-drop m n r.rest, plus r.at n m) refl
  where
    plus : (a n m : ℕ) → a + n + m ≡ a + (n + m)
    plus a n m = omega arith

pub digit_passed : (size z : ℕ) (old new : Reading) (v d : ℕ) → Taken size old new v → d < 10 → v ≡ z + d → PassedDigit size z old new d
digit_passed size z old new v d t below e = record { below = below; within = t.within; value = sym t.value ∙ e; moved = t.moved }

-- the end is its first bits and the rest
pub end_stands : (size v : ℕ) (end : List Bool) (old mid new : Reading) → size ≤ length end → Taken size old mid v → PassedRest size v end mid new → PassedEnd end old new
end_stands size v end old mid new long t p =
    let m = length end - size in
    let rest : mid.rest ≡ drop size old.rest = ap (λ (r : Reading). r.rest) t.moved in
    let n = length-drop size old.rest in
    let w = t.within in
    let w' : m ≤ length (drop size old.rest) = subst (λ (bs : List Bool). m ≤ length bs) rest p.within in
    let whole : size + m ≡ length end = omega arith in
    let front : take size old.rest ≡ take size end = number_same (take size old.rest) (take size end) (length-take-le size old.rest t.within ∙ sym (length-take-le size end long)) (sym t.value ∙ p.head) in
    let tails : number (take m (drop size old.rest)) ≡ number (drop size end) = subst (λ (bs : List Bool). number (take m bs) ≡ number (drop size end)) rest p.tail in
    let back : take m (drop size old.rest) ≡ drop size end = number_same (take m (drop size old.rest)) (drop size end) (length-take-le m (drop size old.rest) w' ∙ sym (length-drop size end)) tails in
    record {
      within = omega (arith, n, w, w');
      stands = ap (λ (k : ℕ). take k old.rest) (sym whole) ∙ take_add size m old.rest ∙ joined front back ∙ take-append-drop size end;
      moved = p.moved ∙ ap (passed m) t.moved ∙ passed_twice size m old ∙ ap (λ (k : ℕ). passed k old) whole;
    }
  where
    joined : {x y p q : List Bool} → x ≡ y → p ≡ q → x ++ p ≡ y ++ q
    joined e f = cc

abbrev pub IsNoDigit : (z v : ℕ) → Type 0
IsNoDigit z v = (d : ℕ) → d < 10 → v ≡ z + d → ⊥

no_digit : (size z v : ℕ) (old mid : Reading) → Taken size old mid v → IsNoDigit z v → NoDigit size z old.rest
no_digit size z v old mid t none d below e = none d below (t.value ∙ e)

pub rest_wrong : (size z v : ℕ) (end : List Bool) (old mid : Reading) (r : Reason) → size ≤ length end → Taken size old mid v → IsNoDigit z v → RestWrong size v end mid.rest r → CharacterWrong size z end old.rest r
rest_wrong size z v end old mid r long t none (inl w) =
    let n = ap (λ (x : Reading). length x.rest) t.moved ∙ length-drop size old.rest in
    let few = w.0 in
    let h = t.within in
    inr (inl (t.within, no_digit size z v old mid t none, omega (arith, n, few, h, long), w.1))
rest_wrong size z v end old mid r long t none (inr w) =
    let m = length end - size in
    let n = ap (λ (x : Reading). length x.rest) t.moved ∙ length-drop size old.rest in
    let many = w.0 in
    let h = t.within in
    let whole : size + m ≡ length end = omega (arith, long) in
    let rest : mid.rest ≡ drop size old.rest = ap (λ (x : Reading). x.rest) t.moved in
    inr (inr (t.within, no_digit size z v old mid t none, omega (arith, n, many, h, long), (λ at. differ m whole rest at), w.2))
  where
    differ : (m : ℕ) → size + m ≡ length end → mid.rest ≡ drop size old.rest → EndAt end old.rest → ⊥
    differ m whole rest at =
        let all : take (size + m) old.rest ≡ end = ap (λ (k : ℕ). take k old.rest) whole ∙ at in
        let head : take size old.rest ≡ take size end = sym (take-take size (size + m) old.rest (omega arith)) ∙ ap (λ (bs : List Bool). take size bs) all in
        let tail : take m (drop size old.rest) ≡ drop size end = sym (drop-take size m old.rest) ∙ ap (λ (bs : List Bool). drop size bs) all in
        let same : m ≡ length end - size = omega (arith, whole) in
        w.1 (t.value ∙ ap number head) (ap number (ap (λ (bs : List Bool). take (length end - size) bs) rest ∙ ap (λ (k : ℕ). take k (drop size old.rest)) (sym same) ∙ tail))

pub stays_rest : (size v : ℕ) (old mid new : Reading) → Taken size old mid v → Stays mid new → Stays old new
stays_rest size v old mid new t s = stays_twice old mid new (taken_stays size old mid v t) s

-- Digits in a row.

pub codes-append : (size z : ℕ) (ds es : List ℕ) → digit_codes size z (ds ++ es) ≡ digit_codes size z ds ++ digit_codes size z es
codes-append size z [] es = refl
codes-append size z (d ∷ ds) es = ap (λ (t : List Bool). low_bits size (z + d) ++ t) (codes-append size z ds es) ∙ sym (append_assoc (low_bits size (z + d)) (digit_codes size z ds) (digit_codes size z es))

-- what is known behind some digits
pub record Upto (size z most : ℕ) (old now : Reading) (i count value : ℕ) (leading : Bool) : Type 0 where
  pub digits : List ℕ
  pub so_far : AreSoFar digits count value leading
  pub read : Reads (λ front. front ≡ digit_codes size z digits) old now
  pub index : count ≡ i
  pub few : i ≤ most

pub at_start : (size z most : ℕ) (old : Reading) → Upto size z most old old 0 0 0 false
at_start size z most old = record {
  digits = [];
  so_far = record { are = tt; long = refl; spells = refl; first = refl };
  read = record { front = []; split = refl; moved = none old.at; window = refl; holds = refl };
  index = refl;
  few = omega arith;
}
  where
    none : (n : ℕ) → n ≡ n + 0
    none n = omega arith

pub value_small : (size z most : ℕ) (old now : Reading) (i count value : ℕ) (leading : Bool) → most ≤ 20 → Upto size z most old now i count value leading → value < 10 ^ 20
value_small size z most old now i count value leading m u =
    let b = digits-below u.digits u.so_far.are in
    let l = u.so_far.long in
    let v = u.so_far.spells in
    let x = u.index in
    let f = u.few in
    let wide : 10 ^ length u.digits ≤ 10 ^ 20 = pow-le-pow_right {n = 10} (omega arith) {i = length u.digits} {j = 20} (omega (arith, l, x, f, m)) in
    omega (arith, b, v, wide)

pub upto_next : (size z most : ℕ) (old now new : Reading) (i count value d count' value' : ℕ) (leading leading' : Bool) → z + 10 ≤ 2 ^ size → Upto size z most old now i count value leading → (i ≡ most → ⊥) → i < most + 1 → PassedDigit size z now new d
    → count' ≡ count + 1 → ((ds : List ℕ) → AreSoFar ds count value leading → AreSoFar (ds ++ d ∷ []) count' value' leading') → Upto size z most old new (i + 1) count' value' leading'
upto_next size z most old now new i count value d count' value' leading leading' fit u other inside p counts more =
    let below = p.below in
    let front : take size now.rest ≡ low_bits size (z + d) = number_same (take size now.rest) (low_bits size (z + d)) (length-take-le size now.rest p.within ∙ sym (length-low_bits size (z + d))) (p.value ∙ sym (number-low_bits size (z + d) ∙ small (z + d) (2 ^ size) (omega (arith, fit, below)))) in
    let one : Reads (λ f. f ≡ digit_codes size z (d ∷ [])) now new = reads_passed (λ f. f ≡ digit_codes size z (d ∷ [])) size now new p.within p.moved (front ∙ sym (append-nil (low_bits size (z + d)))) in
    let x = u.index in
    let g = differs i most other inside in
    record {
      digits = u.digits ++ d ∷ [];
      so_far = more u.digits u.so_far;
      read = reads_join (λ f. f ≡ digit_codes size z u.digits) (λ f. f ≡ digit_codes size z (d ∷ [])) (λ f. f ≡ digit_codes size z (u.digits ++ d ∷ [])) old now new (λ a b e f. joined e f ∙ sym (codes-append size z u.digits (d ∷ []))) u.read one;
      index = counts ∙ ap (λ (k : ℕ). k + 1) x;
      few = omega (arith, g);
    }
  where
    joined : {x y p q : List Bool} → x ≡ y → p ≡ q → x ++ p ≡ y ++ q
    joined e f = cc

    differs : (i most : ℕ) → (i ≡ most → ⊥) → i < most + 1 → i < most
    differs i most apart h = elim (dec_lt i most) [ yes p ↦ p | no p ↦ absurd (apart (omega arith)) ]

pub ended_passed : (size z most : ℕ) (end : List Bool) (old now new : Reading) (i count value k : ℕ) (leading minimal : Bool) → Upto size z most old now i count value leading → PassedEnd end now new → 0 < count → k ≡ value
    → ((ds : List ℕ) → AreSoFar ds count value leading → minimal ≡ true → IsMinimal ds) → ((ds : List ℕ) → AreSoFar ds count value leading → (minimal ≡ true → ⊥) → IsMinimal ds → ⊥) → PassedEnded size z end most old new k minimal
ended_passed size z most end old now new i count value k leading minimal u p some is least longer =
    let l = u.so_far.long in
    let x = u.index in
    let f = u.few in
    let one : Reads (λ t. t ≡ end) now new = reads_passed (λ t. t ≡ end) (length end) now new p.within p.moved p.stands in
    record {
      digits = u.digits;
      are = u.so_far.are;
      some = omega (arith, l, some);
      few = omega (arith, l, x, f);
      value = is ∙ sym u.so_far.spells;
      least = least u.digits u.so_far;
      longer = longer u.digits u.so_far;
      read = reads_join (λ t. t ≡ digit_codes size z u.digits) (λ t. t ≡ end) (λ t. t ≡ digit_codes size z u.digits ++ end) old now new (λ a b e f. joined e f) u.read one;
    }
  where
    joined : {x y p q : List Bool} → x ≡ y → p ≡ q → x ++ p ≡ y ++ q
    joined e f = cc

upto_wrong : (size z most : ℕ) (end : List Bool) (old now : Reading) (i count value : ℕ) (leading : Bool) (r : Reason) → (u : Upto size z most old now i count value leading)
    → (CharacterWrong size z end now.rest r
    ⊎ ((size ≤ length now.rest) × ((d : ℕ) × (d < 10) × (number (take size now.rest) ≡ z + d)) × (length u.digits ≡ most) × (r ≡ too_long))
    ⊎ ((length end ≤ length now.rest) × EndAt end now.rest × (u.digits ≡ []) × (r ≡ bad_digit)))
    → EndedWrong size z end most old.rest r
upto_wrong size z most end old now i count value leading r u w =
    let l = u.so_far.long in
    let x = u.index in
    let f = u.few in
    record {
      digits = u.digits;
      behind = now.rest;
      are = u.so_far.are;
      few = omega (arith, l, x, f);
      whole = u.read.split ∙ ap (λ (t : List Bool). t ++ now.rest) u.read.holds;
      wrong = w;
    }

pub character_wrong : (size z most : ℕ) (end : List Bool) (old now : Reading) (i count value : ℕ) (leading : Bool) (r : Reason) → Upto size z most old now i count value leading → CharacterWrong size z end now.rest r → EndedWrong size z end most old.rest r
character_wrong size z most end old now i count value leading r u w = upto_wrong size z most end old now i count value leading r u (inl w)

pub digit_too_many : (size z most : ℕ) (end : List Bool) (old now new : Reading) (i count value d : ℕ) (leading : Bool) → Upto size z most old now i count value leading → i ≡ most → PassedDigit size z now new d → EndedWrong size z end most old.rest too_long
digit_too_many size z most end old now new i count value d leading u last p =
    upto_wrong size z most end old now i count value leading too_long u (inr (inl (p.within, (d, p.below, p.value), u.so_far.long ∙ (u.index ∙ last), refl)))

pub no_digit_at_all : (size z most : ℕ) (end : List Bool) (old now new : Reading) (i count value : ℕ) (leading : Bool) → Upto size z most old now i count value leading → count ≡ 0 → PassedEnd end now new → EndedWrong size z end most old.rest bad_digit
no_digit_at_all size z most end old now new i count value leading u none p =
    upto_wrong size z most end old now i count value leading bad_digit u (inr (inr (p.within, p.stands, empty u.digits (u.so_far.long ∙ none), refl)))
  where
    empty : (ds : List ℕ) → length ds ≡ 0 → ds ≡ []
    empty [] e = refl
    empty (d ∷ ds) e = absurd (omega arith)

pub upto_stays : (size z most : ℕ) (old now new : Reading) (i count value : ℕ) (leading : Bool) → Upto size z most old now i count value leading → Stays now new → Stays old new
upto_stays size z most old now new i count value leading u s =
    reads_join (λ front. front ≡ digit_codes size z u.digits) (λ _. Unit {0}) (λ _. Unit {0}) old now new (λ a b e f. tt) u.read s

pub digit_stays : (size z : ℕ) (now new : Reading) (d : ℕ) → PassedDigit size z now new d → Stays now new
digit_stays size z now new d p = reads_passed (λ _. Unit {0}) size now new p.within p.moved tt

pub end_stays : (end : List Bool) (now new : Reading) → PassedEnd end now new → Stays now new
end_stays end now new p = reads_passed (λ _. Unit {0}) (length end) now new p.within p.moved tt

-- one digit more

decimal-snoc : (ds : List ℕ) (d : ℕ) → decimal_number (ds ++ d ∷ []) ≡ 10 * decimal_number ds + d
decimal-snoc [] d = omega arith
decimal-snoc (e ∷ ds) d =
    let l = length-append ds (d ∷ []) in
    let p : length (ds ++ d ∷ []) ≡ suc (length ds) = omega arith in
    let r = decimal-snoc ds d in
    rw (p, pow-suc) (omega (arith, r))

decimal-push : (ds : List ℕ) (d : ℕ) → AreDecimal ds → d < 10 → AreDecimal (ds ++ d ∷ [])
decimal-push [] d h b = (b, tt)
decimal-push (e ∷ ds) d h b = (h.0, decimal-push ds d h.1 b)

pub so_far_more : (ds : List ℕ) (count value d count' value' : ℕ) (leading leading' : Bool) → d < 10 → count' ≡ count + 1 → value' ≡ 10 * value + d → (count ≡ 0 → leading' ≡ nat_eq d 0) → ((count ≡ 0 → ⊥) → leading' ≡ leading) → AreSoFar ds count value leading → AreSoFar (ds ++ d ∷ []) count' value' leading'
so_far_more ds count value d count' value' leading leading' below c v front later s = record {
  are = decimal-push ds d s.are below;
  long = let a = length-append ds (d ∷ []) in let l = s.long in omega arith;
  spells = decimal-snoc ds d ∙ (ap (λ (k : ℕ). 10 * k + d) s.spells ∙ sym v);
  first = starts ds s.long s.first;
}
  where
    starts : (ds : List ℕ) → length ds ≡ count → leading ≡ starts_with_zero ds → leading' ≡ starts_with_zero (ds ++ d ∷ [])
    starts [] l f = front (sym l)
    starts (e ∷ ds) l f = later (λ z. absurd (omega arith)) ∙ f

-- what holds of the result of the last step

pub small_at : (r : Result Ended ReadFault) (v : ℕ) → IfOk r (λ n. n.magnitude ≡ v) → v < 10 ^ 20 → IfOk r (λ n. n.magnitude < 10 ^ 20)
small_at (Ok n) v e h = rw e h
small_at (Err x) v e h = tt

pub stays_at : {A : Type 0} (r : Result A ReadFault) (F : Type 0) → F → OnErr r F
stays_at (Ok n) F h = tt
stays_at (Err x) F h = h
