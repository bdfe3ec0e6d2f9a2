-- Numbers of slots, conditions and lengths under which something can be reached.
use Rattle.std.proofs.Common.{◌≡◌, ℕ, zero, suc, ◌+◌, ◌-◌, ◌*◌, ◌/◌, ◌%◌, ◌<◌, ◌≤◌, ℤ, pos, negsuc, Bool, true, false, not, ◌&&◌, ◌||◌, List, [], ◌∷◌, ◌++◌, length, Option, Some, None, refl, sym, ap, ◌∙◌, arith, inl, inr, ◌⊎◌, nat_eq, subst, IsTrue}
use Rattle.std.proofs.lemmas.Bool.{and_parts, or_left, or_right, or_parts, eqb-true}
use Rattle.std.proofs.lemmas.Bool.Decides.{nat_tests}
use Rattle.std.proofs.lemmas.Int.{ints}
use Rattle.std.proofs.Math.Nat.{div-add-mod, mod-lt, mod_self, mod-eq_of_lt, mul-le-mul_left, mul-suc}
use Rattle.std.specs.Prelude.{if◌then◌else◌, ◌≤ℤ◌, int_le, slice_get}
use Rattle.std.specs.Ordering.{int_eq}
use Rattle.std.specs.List.{AllByRecursion, zip}
use Rattle.acn_num.proofs.Members.{has_meet}
use Rattle.acn_num.specs.Bits.{octets as octets_for}
use Rattle.acn_num.specs.Ranges.{In, Ranges, has}
use Rattle.acn_grammar.specs.Asks.{same_name}
use Rattle.acn_grammar.specs.Code.{Mode, Code}
use Rattle.acn_grammar.specs.Env.{Env, at_slot, Holds, AllHold, MayBeThere, MayBeAway}
use Rattle.acn_grammar.specs.Grammar.{Grammar}
use Rattle.acn_grammar.specs.Images.{ends}
use Rattle.acn_grammar.specs.Leaves.{num_fine}
use Rattle.acn_grammar.specs.Length.{padding}
use Rattle.acn_grammar.specs.Scoped.{Known, Permitted, TestIn}
use Rattle.acn_grammar.specs.Slots.{domain_of, items_of}
use Rattle.acn_grammar.specs.Sound.{PresenceSound}
use Rattle.acn_grammar.specs.Spell.{SizePart, RulePart, Chosen, with_home}
use Rattle.acn_grammar.specs.Tree.{holds}
use Rattle.acn_grammar.specs.declared.bounds.Bounds.{Bounds}
use Rattle.acn_grammar.specs.declared.node.ChoiceRule.{ChoiceRule}
use Rattle.acn_grammar.specs.declared.node.ChoiceRule.TheVariants.{Index, Tests, Item}
use Rattle.acn_grammar.specs.declared.node.NumLeaf.{NumLeaf}
use Rattle.acn_grammar.specs.declared.node.Presence.{Presence}
use Rattle.acn_grammar.specs.declared.node.Presence.TheVariants.{Always, Bit, When}
use Rattle.acn_grammar.specs.declared.node.Sizing.{Sizing}
use Rattle.acn_grammar.specs.declared.node.SizeRule.{SizeRule}
use Rattle.acn_grammar.specs.declared.node.SizeRule.TheVariants.{Prefix, Slot, Ended}
use Rattle.acn_grammar.specs.declared.node.Test.{Test}
use Rattle.acn_grammar.specs.declared.node.Test.TheVariants.{Flag, Equals}
use Rattle.acn_grammar.proofs.FirstPlaces.{less_or_not}
use Rattle.acn_grammar.proofs.LeafLengths.{code-length}
use Rattle.acn_grammar.proofs.SlotLists.{holds-append}
use Rattle.acn_grammar.proofs.WholeTests.{either, eq_fact, eq_self}
use Rattle.acn_grammar.proofs.Within.{ends-has, between}
use Rattle.acn_extreme_laws.proofs.Codes.{lengths_between}
use Rattle.acn_extreme_laws.specs.Laws.{Reaches}
use Rattle.acn_extreme_laws.specs.Reach.{later, padded, and_then, or_else, where_can, num_reach, natural, parts_reach, tested_slot, tested_number, has_other, agrees, item_can, sizes_by, sizes_can, tests_can, tests_can_fail, can_be_there, can_be_away, can_be_chosen}

-- Padding keeps order.

padding_is : (a at : ℕ) → 0 < a → ((at % a ≡ 0) × (padding a at ≡ 0)) ⊎ ((0 < at % a) × (padding a at + at % a ≡ a))
padding_is a at h = by (at % a) refl
  where
    by : (r : ℕ) → at % a ≡ r → ((at % a ≡ 0) × (padding a at ≡ 0)) ⊎ ((0 < at % a) × (padding a at + at % a ≡ a))
    by zero e =
        let whole : a - at % a ≡ a = omega arith in
        inl (e, ap (λ x. x % a) whole ∙ mod_self a)
    by (suc r) e =
        let below = mod-lt at {m = a} h in
        let few : a - at % a < a = omega arith in
        let is = mod-eq_of_lt few in
        inr (omega arith, omega arith)

grow : (a q r s t x y : ℕ) → a * q + r ≤ a * t + s → s < a → ((r ≡ 0) × (x ≡ 0)) ⊎ ((0 < r) × (x + r ≡ a)) → ((s ≡ 0) × (y ≡ 0)) ⊎ ((0 < s) × (y + s ≡ a)) → a * q + r + x ≤ a * t + s + y
grow a q r s t x y h k p o = by (less_or_not t q) p o
  where
    by : (t < q) ⊎ (q ≤ t) → ((r ≡ 0) × (x ≡ 0)) ⊎ ((0 < r) × (x + r ≡ a)) → ((s ≡ 0) × (y ≡ 0)) ⊎ ((0 < s) × (y + s ≡ a)) → a * q + r + x ≤ a * t + s + y
    by (inl l) u v =
        let m = mul-le-mul_left {m = suc t} {n = q} a l in
        let n = mul-suc a t in
        absurd (omega arith)
    by (inr l) (inl u) v = omega (arith, u.0, u.1)
    by (inr l) (inr u) (inr v) =
        let m = mul-le-mul_left {m = q} {n = t} a l in
        omega (arith, u.1, v.1)
    by (inr l) (inr u) (inl v) = strict (less_or_not q t)
      where
        strict : (q < t) ⊎ (t ≤ q) → a * q + r + x ≤ a * t + s + y
        strict (inl g) =
            let m = mul-le-mul_left {m = suc q} {n = t} a g in
            let n = mul-suc a q in
            omega (arith, u.1)
        strict (inr g) =
            let m = mul-le-mul_left {m = t} {n = q} a g in
            absurd (omega (arith, u.0, v.0))

padding_grows : (a : ℕ) → 0 < a → (at later : ℕ) → at ≤ later → at + padding a at ≤ later + padding a later
padding_grows a h at later l =
    let one = div-add-mod at a in
    let two = div-add-mod later a in
    let g = grow a (at / a) (at % a) (later % a) (later / a) (padding a at) (padding a later) (omega arith) (mod-lt later {m = a} h) (padding_is a at h) (padding_is a later h) in
    omega arith

-- a position within some bounds
abbrev pub Starts : Bounds → ℕ → Type 0
Starts b at = (b.least ≤ at) × (at ≤ b.greatest)

pub padded_starts : (a : ℕ) → 0 < a → (b : Bounds) (at : ℕ) → Starts b at → Starts (padded a b) (at + padding a at)
padded_starts a h b at s = (padding_grows a h b.least at s.0, padding_grows a h at b.greatest s.1)

pub later_starts : (n : ℕ) (b : Bounds) (at : ℕ) → Starts b at → Starts (later n b) (at + n)
later_starts n b at s = (omega (arith, s.0), omega (arith, s.1))

-- Ways.

pub reaches_then : (o : Option Bounds) (next : Bounds → Option Bounds) (n m : ℕ) → Reaches o n → ((r : Bounds) → Starts r n → Reaches (next r) m) → Reaches (and_then o next) m
reaches_then None next n m h f = absurd h
reaches_then (Some r) next n m h f = f r h

pub reaches_left : (a b : Option Bounds) (n : ℕ) → Reaches a n → Reaches (or_else a b) n
reaches_left None b n h = absurd h
reaches_left (Some r) None n h = h
reaches_left (Some r) (Some q) n h = (let one = h.0 in let two = h.1 in (omega arith, omega arith))

pub reaches_right : (a b : Option Bounds) (n : ℕ) → Reaches b n → Reaches (or_else a b) n
reaches_right None b n h = h
reaches_right (Some r) None n h = absurd h
reaches_right (Some r) (Some q) n h = (let one = h.0 in let two = h.1 in (omega arith, omega arith))

pub reaches_where : (can : Bool) (o : Option Bounds) (n : ℕ) → can ≡ true → Reaches o n → Reaches (where_can can o) n
reaches_where true o n e h = h
reaches_where false o n e h = cc

-- Numbers.

pub code_reaches : (mode : Mode) (leaf : NumLeaf) → IsTrue (num_fine leaf) → (x : ℤ) (bs : List Bool) → Code mode leaf x bs → (b : Bounds) (at : ℕ) → Starts b at → Reaches (Some (num_reach leaf b)) (at + length bs)
code_reaches mode leaf h x bs c b at s =
    let is = code-length mode leaf h x bs c in
    let two = lengths_between leaf h x c.permitted in
    (omega (arith, s.0, two.0, is), omega (arith, s.1, two.1, is))

natural_least : (x : ℤ) (n : ℕ) → x ≤ℤ pos n → natural x ≤ n
natural_least (pos m) n h = omega (arith, ints)
natural_least (negsuc m) n h = omega arith

natural_greatest : (x : ℤ) (n : ℕ) → pos n ≤ℤ x → n ≤ natural x
natural_greatest (pos m) n h = omega (arith, ints)
natural_greatest (negsuc m) n h = absurd (omega (arith, ints))

-- how many there can be
pub record Counted (rs : Ranges) (n : ℕ) : Type 0 where
  pub two : ℤ × ℤ
  pub are : ends rs ≡ Some two
  pub low : natural two.0 ≤ n
  pub high : n ≤ natural two.1

pub counted : (rs : Ranges) (n : ℕ) → has rs (pos n) ≡ true → Counted rs n
counted rs n h = by (ends rs) refl
  where
    some_ends : (rs : Ranges) (x : ℤ) → has rs x ≡ true → ends rs ≡ None → ⊥
    some_ends [] x h e = cc
    some_ends (r ∷ rs) x h e = cc

    by : (o : Option (ℤ × ℤ)) → ends rs ≡ o → Counted rs n
    by (Some e) is = (let w = ends-has rs (pos n) e h is in record { two = e; are = is; low = natural_least e.0 n w.0; high = natural_greatest e.1 n w.1 })
    by None is = absurd (some_ends rs (pos n) h is)

pub parts_reaches : (rs : Ranges) (unit n : ℕ) → has rs (pos n) ≡ true → (b : Bounds) (at : ℕ) → Starts b at → Reaches (parts_reach rs unit b) (at + unit * n)
parts_reaches rs unit n h b at s =
    let c = counted rs n h in
    let low = mul-le-mul_left {m = natural (c.two).0} {n = n} unit c.low in
    let high = mul-le-mul_left {m = n} {n = natural (c.two).1} unit c.high in
    rw c.are (omega (arith, s.0), omega (arith, s.1))

-- Envs.

module _ (root : Grammar) where
  pub permitted_at : (env : Env) (s : ℕ) (x : ℤ) → Permitted root env → at_slot env s ≡ Some x → In (domain_of root s) x
  permitted_at [] s x p e = cc
  permitted_at (e' ∷ env) s x p e = by (nat_eq e'.0 s) (eqb-true e'.0 s) e (λ q. permitted_at env s x p.1 q)
    where
      by : (t : Bool) → (t ≡ true → e'.0 ≡ s) → (if t then Some e'.1 else at_slot env s) ≡ Some x → (at_slot env s ≡ Some x → In (domain_of root s) x) → In (domain_of root s) x
      by true f e rest = let same = f refl in let value : e'.1 ≡ x = cc in rw (← same, ← value) p.0
      by false f e rest = rest e

  pub permitted_whole : (home : List ℕ) (ys : List ℤ) (outer : Env) → AllByRecursion (λ e. In (domain_of root e.0) e.1) (zip home ys) → Permitted root outer → Permitted root (with_home home ys outer)
  permitted_whole [] ys outer a p = p
  permitted_whole (k ∷ home) [] outer a p = p
  permitted_whole (k ∷ home) (y ∷ ys) outer a p = (a.0, permitted_whole home ys outer a.1 p)

  -- it has permitted numbers, and one for each slot at home round
  pub record InEnv (around : List ℕ) (env : Env) : Type 0 where
    pub permitted : Permitted root env
    pub have : (s : ℕ) → holds around s ≡ true → (x : ℤ) × (at_slot env s ≡ Some x)

extended : (home : List ℕ) (xs : List ℤ) (env : Env) (s : ℕ) → holds home s ≡ false → at_slot (with_home home xs env) s ≡ at_slot env s
extended [] xs env s h = refl
extended (k ∷ home) [] env s h = refl
extended (k ∷ home) (x ∷ xs) env s h = (let n = or_parts (nat_eq k s) (holds home s) h in rw n.0 (extended home xs env s n.1))

home_has : (home : List ℕ) (xs : List ℤ) (env : Env) (s : ℕ) → length xs ≡ length home → holds home s ≡ true → (x : ℤ) × (at_slot (with_home home xs env) s ≡ Some x)
home_has [] xs env s l h = cc
home_has (k ∷ home) [] env s l h = absurd (omega arith)
home_has (k ∷ home) (x ∷ xs) env s l h = by (nat_eq k s) refl (λ n. home_has home xs env s (omega arith) (rest (nat_eq k s) (holds home s) h n))
  where
    rest : (a b : Bool) → (a || b) ≡ true → a ≡ false → b ≡ true
    rest true b h e = cc
    rest false b h e = h

    by : (t : Bool) → nat_eq k s ≡ t → (t ≡ false → (y : ℤ) × (at_slot (with_home home xs env) s ≡ Some y)) → (y : ℤ) × ((if nat_eq k s then Some x else at_slot (with_home home xs env) s) ≡ Some y)
    by true e f = (x, ap (λ (b : Bool). if b then Some x else at_slot (with_home home xs env) s) e)
    by false e f = (let r = f refl in (r.0, ap (λ (b : Bool). if b then Some x else at_slot (with_home home xs env) s) e ∙ r.1))

pub in_home : (root : Grammar) (around home : List ℕ) (xs : List ℤ) (env : Env) → length xs ≡ length home → AllByRecursion (λ e. In (domain_of root e.0) e.1) (zip home xs) → InEnv root around env → InEnv root (home ++ around) (with_home home xs env)
in_home root around home xs env l a g = record {
  permitted = permitted_whole root home xs env a g.permitted;
  have = λ s h. by s (holds home s) refl (sym (holds-append home around s) ∙ h);
}
  where
    by : (s : ℕ) (t : Bool) → holds home s ≡ t → (holds home s || holds around s) ≡ true → (x : ℤ) × (at_slot (with_home home xs env) s ≡ Some x)
    by s true e h = home_has home xs env s l e
    by s false e h =
        let there : holds around s ≡ true = sym (ap (λ b. b || holds around s) e) ∙ h in
        let x = g.have s there in
        (x.0, extended home xs env s e ∙ x.1)

-- Sizes.

pub size_can : (root : Grammar) (env : Env) → Permitted root env → (sizing : Sizing) (n at : ℕ) (bs : List Bool) → SizePart sizing env n at bs → has (sizes_can root sizing) (pos n) ≡ true
size_can root env p sizing n at bs t = by sizing.rule t.spelled
  where
    by : (rule : SizeRule) → RulePart rule env n at bs → has (sizes_by root rule sizing.sizes) (pos n) ≡ true
    by (Prefix low width) h = t.given
    by (Ended q) h = absurd h.0
    by (Slot s) h = has_meet sizing.sizes (domain_of root s) (pos n) ∙ rw (t.given, permitted_at root env s (pos n) p h.0) refl

-- Conditions.

holds_is : (env : Env) (t : Test) → Holds env t → at_slot env (tested_slot t) ≡ Some (tested_number t)
holds_is env (Flag s) h = h
holds_is env (Equals s k) h = h

is_held : (env : Env) (t : Test) → at_slot env (tested_slot t) ≡ Some (tested_number t) → Holds env t
is_held env (Flag s) h = h
is_held env (Equals s k) h = h

agree_held : (env : Env) (t : Test) (ts : List Test) → Holds env t → AllHold env ts → agrees t ts ≡ true
agree_held env t [] h a = refl
agree_held env t (u ∷ us) h a = rw (agree_held env t us h a.1) (by (nat_eq (tested_slot t) (tested_slot u)) refl)
  where
    some_one : (x y : ℤ) → Some x ≡ Some y → x ≡ y
    some_one x y e = cc

    by : (b : Bool) → nat_eq (tested_slot t) (tested_slot u) ≡ b → ((not (nat_eq (tested_slot t) (tested_slot u)) || int_eq (tested_number t) (tested_number u)) && true) ≡ true
    by false e = rw e refl
    by true e =
        let same = eqb-true (tested_slot t) (tested_slot u) e in
        let one : tested_number t ≡ tested_number u = some_one (tested_number t) (tested_number u) (sym (holds_is env t h) ∙ ap (at_slot env) same ∙ holds_is env u a.0) in
        rw (e, one, eq_self (tested_number u)) refl

pub tests_held : (root : Grammar) (env : Env) → Permitted root env → (ts : List Test) → AllHold env ts → tests_can root ts ≡ true
tests_held root env p [] a = refl
tests_held root env p (t ∷ ts) a = rw (permitted_at root env (tested_slot t) (tested_number t) p (holds_is env t a.0), agree_held env t ts a.0 a.1, tests_held root env p ts a.1) refl

other_there : (rs : Ranges) (x k : ℤ) → has rs x ≡ true → (x ≡ k → ⊥) → has_other rs k ≡ true
other_there [] x k h n = cc
other_there (r ∷ rs) x k h n = either {F = has_other (r ∷ rs) k ≡ true} (int_le r.0 x && int_le x r.1) (has rs x) h
    (λ o. or_left (not (int_eq r.0 k && int_eq r.1 k)) (has_other rs k) (by (int_eq r.0 k && int_eq r.1 k) refl (between r.0 r.1 x o)))
    (λ o. or_right (not (int_eq r.0 k && int_eq r.1 k)) (has_other rs k) (other_there rs x k o n))
  where
    by : (b : Bool) → (int_eq r.0 k && int_eq r.1 k) ≡ b → (r.0 ≤ℤ x) × (x ≤ℤ r.1) → not (int_eq r.0 k && int_eq r.1 k) ≡ true
    by false e w = rw e refl
    by true e w =
        let both = and_parts (int_eq r.0 k) (int_eq r.1 k) e in
        let low = eq_fact r.0 k both.0 in
        let high = eq_fact r.1 k both.1 in
        absurd (n (omega (arith, ints, w.0, w.1, low, high)))

pub there_can : (root : Grammar) (env : Env) → Permitted root env → (presence : Presence) → MayBeThere env presence → can_be_there root presence ≡ true
there_can root env p Always h = refl
there_can root env p Bit h = refl
there_can root env p (When ts) h = tests_held root env p ts h

test_known : (ks : Known) (t : Test) → TestIn ks t → ks (tested_slot t) ≡ true
test_known ks (Flag s) h = h
test_known ks (Equals s k) h = h

pub away_can : (root : Grammar) (env : Env) (around : List ℕ) (ks : Known) → InEnv root around env → ((s : ℕ) → ks s ≡ true → holds around s ≡ true) → (presence : Presence) → PresenceSound ks presence → MayBeAway env presence → can_be_away root presence ≡ true
away_can root env around ks g o Always sound h = absurd h
away_can root env around ks g o Bit sound h = refl
away_can root env around ks g o (When []) sound h = absurd (h tt)
away_can root env around ks g o (When (t ∷ ts)) sound h = by ts sound h
  where
    by : (ts : List Test) → PresenceSound ks (When (t ∷ ts)) → (AllHold env (t ∷ ts) → ⊥) → tests_can_fail root (t ∷ ts) ≡ true
    by (u ∷ us) sound h = absurd (omega (arith, sound.0))
    by [] sound h =
        let x = g.have (tested_slot t) (o (tested_slot t) (test_known ks t (sound.1).0)) in
        or_left (has_other (domain_of root (tested_slot t)) (tested_number t)) false
        (other_there (domain_of root (tested_slot t)) x.0 (tested_number t) (permitted_at root env (tested_slot t) x.0 g.permitted x.1) (λ e. h (is_held env t (x.1 ∙ ap Some e), tt)))

same_self : (xs : List ℕ) → same_name xs xs ≡ true
same_self [] = refl
same_self (x ∷ xs) = (let e : nat_eq x x ≡ true = grind (arith, nat_tests) in rw e (same_self xs))

item_found : (set : Ranges) (items : List (List ℕ × ℤ)) (k i : ℕ) (name : List ℕ) (x : ℤ) → slice_get items i ≡ Some (name, x) → has set (pos (k + i)) ≡ true → item_can set k items name ≡ true
item_found set [] k i name x e h = cc
item_found set (named ∷ items) k zero name x e h =
    let is : named ≡ (name, x) = cc in
    let at : k + 0 ≡ k = omega arith in
    or_left (same_name named.0 name && has set (pos k)) (item_can set (suc k) items name) (rw is (rw (same_self name) (subst (λ n. has set (pos n) ≡ true) at h)))
item_found set (named ∷ items) k (suc i) name x e h =
    let at : k + suc i ≡ suc k + i = omega arith in
    or_right (same_name named.0 name && has set (pos k)) (item_can set (suc k) items name) (item_found set items (suc k) i name x e (subst (λ n. has set (pos n) ≡ true) at h))

from_zero : (n : ℕ) → n ≡ 0 + n
from_zero n = omega arith

pub chosen_can : (root : Grammar) (env : Env) → Permitted root env → (rule : ChoiceRule) (name : List ℕ) (ts : List Test) → Chosen root rule env name ts → can_be_chosen root rule name ts ≡ true
chosen_can root env p (Index width) name ts h = refl
chosen_can root env p Tests name ts h = tests_held root env p ts h
chosen_can root env p (Item s) name ts h = item_found (domain_of root s) (items_of root s) 0 h.0 name h.1 h.3 (subst (λ n. has (domain_of root s) (pos n) ≡ true) (from_zero h.0) (permitted_at root env s (pos h.0) p h.2))

-- Contents.

pub octets_between : (low n c : ℕ) → low ≤ c → c ≤ 8 * n → octets_for low ≤ n
octets_between low n c h k =
    let e = div-add-mod (low + 7) 8 in
    omega arith

pub octets_reach : (high n c : ℕ) → c ≤ high → 8 * n < c + 8 → n ≤ octets_for high
octets_reach high n c h k =
    let e = div-add-mod (high + 7) 8 in
    let m = mod-lt (high + 7) {m = 8} (omega arith) in
    omega arith
