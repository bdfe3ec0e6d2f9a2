-- Envs whose numbers move: the same slots, other permitted numbers.
use Rattle.std.proofs.Common.{◌≡◌, ℕ, suc, ◌+◌, ◌<◌, ◌≤◌, ℤ, pos, negsuc, Bool, true, false, not, ◌&&◌, ◌||◌, List, [], ◌∷◌, ◌++◌, length, take, drop, Option, Some, None, refl, sym, ap, ◌∙◌, arith, inl, inr, ◌⊎◌, nat_eq, subst, take-append-drop}
use Rattle.std.proofs.lemmas.Bool.{or_left, or_parts, or_right, and_parts, eqb-true}
use Rattle.std.specs.Prelude.{if◌then◌else◌, ◌<ℤ◌, ◌≤ℤ◌, int_le}
use Rattle.std.specs.List.{zip, AllByRecursion}
use Rattle.std.proofs.lemmas.Int.{ints}
use Rattle.std.proofs.lemmas.List.{length-take-le}
use Rattle.acn_num.specs.Bits.{number}
use Rattle.acn_num.specs.Ranges.{In, has, are_ranges, all_within}
use Rattle.acn_grammar.specs.Env.{Env, at_slot}
use Rattle.acn_grammar.specs.Fails.{Failing, Here, Fault, seen, RuleFails, SizeFails, kept, prefix_cut, prefix_not_permitted}
use Rattle.acn_grammar.specs.Grammar.{Grammar}
use Rattle.acn_grammar.specs.LeafFails.{Reason, short, size_out_of_range}
use Rattle.acn_grammar.specs.Leaves.{sizes_fine, sizing_fine, rule_fine}
use Rattle.acn_grammar.specs.Scoped.{Known, RuleIn, Permitted}
use Rattle.acn_grammar.specs.Slots.{domain_of}
use Rattle.acn_grammar.specs.Spell.{Part, SizePart, RulePart, with_home}
use Rattle.acn_grammar.specs.Tree.{holds}
use Rattle.acn_grammar.specs.declared.node.Sizing.{Sizing}
use Rattle.acn_grammar.specs.declared.node.SizeRule.{SizeRule}
use Rattle.acn_grammar.specs.declared.node.SizeRule.TheVariants.{Prefix, Slot, Ended}
use Rattle.acn_packet_laws.proofs.Moves.{or_either, self_eq}
use Rattle.acn_grammar.proofs.FirstPlaces.{less_or_not}

abbrev pub SameKeys : Env → Env → Type 0
SameKeys [] [] = Unit {0}
SameKeys (e ∷ env) (e' ∷ env') = (e.0 ≡ e'.0) × SameKeys env env'
SameKeys _ _ = ⊥

pub keys_self : (env : Env) → SameKeys env env
keys_self [] = tt
keys_self (e ∷ env) = (refl, keys_self env)

pub keys_trans : (a b c : Env) → SameKeys a b → SameKeys b c → SameKeys a c
keys_trans [] [] [] p q = tt
keys_trans (x ∷ a) (y ∷ b) (z ∷ c) p q = (p.0 ∙ q.0, keys_trans a b c p.1 q.1)
keys_trans [] [] (z ∷ c) p q = absurd q
keys_trans [] (y ∷ b) c p q = absurd p
keys_trans (x ∷ a) [] c p q = absurd p
keys_trans (x ∷ a) (y ∷ b) [] p q = absurd q

pub keys_have : (env env' : Env) (s : ℕ) (x : ℤ) → SameKeys env env' → at_slot env s ≡ Some x → (y : ℤ) × (at_slot env' s ≡ Some y)
keys_have [] [] s x k h = cc
keys_have [] (e' ∷ env') s x k h = absurd k
keys_have (e ∷ env) [] s x k h = absurd k
keys_have (e ∷ env) (e' ∷ env') s x k h = by (nat_eq e'.0 s) refl (λ n. keys_have env env' s x k.1 (sym (ap (λ (b : Bool). if b then Some e.1 else at_slot env s) (ap (λ (z : ℕ). nat_eq z s) k.0 ∙ n)) ∙ h))
  where
    by : (t : Bool) → nat_eq e'.0 s ≡ t → (t ≡ false → (y : ℤ) × (at_slot env' s ≡ Some y)) → (y : ℤ) × ((if nat_eq e'.0 s then Some e'.1 else at_slot env' s) ≡ Some y)
    by true e f = (e'.1, ap (λ (b : Bool). if b then Some e'.1 else at_slot env' s) e)
    by false e f = (let r = f refl in (r.0, ap (λ (b : Bool). if b then Some e'.1 else at_slot env' s) e ∙ r.1))

pub keys_none : (env env' : Env) (s : ℕ) → SameKeys env env' → at_slot env s ≡ None → at_slot env' s ≡ None
keys_none [] [] s k h = refl
keys_none [] (e' ∷ env') s k h = absurd k
keys_none (e ∷ env) [] s k h = absurd k
keys_none (e ∷ env) (e' ∷ env') s k h = by (nat_eq e.0 s) refl h (λ g. keys_none env env' s k.1 g)
  where
    by : (t : Bool) → nat_eq e.0 s ≡ t → (if t then Some e.1 else at_slot env s) ≡ None → (at_slot env s ≡ None → at_slot env' s ≡ None) → (if nat_eq e'.0 s then Some e'.1 else at_slot env' s) ≡ None
    by true e h f = cc
    by false eq h f = ap (λ (b : Bool). if b then Some e'.1 else at_slot env' s) (ap (λ (z : ℕ). nat_eq z s) (sym k.0) ∙ eq) ∙ f h

extended : (home : List ℕ) (xs : List ℤ) (env : Env) (s : ℕ) → holds home s ≡ false → at_slot (with_home home xs env) s ≡ at_slot env s
extended [] xs env s h = refl
extended (k ∷ home) [] env s h = refl
extended (k ∷ home) (x ∷ xs) env s h = (let n = or_parts (nat_eq k s) (holds home s) h in rw n.0 (extended home xs env s n.1))

home_has : (home : List ℕ) (xs : List ℤ) (env : Env) (s : ℕ) → length xs ≡ length home → holds home s ≡ true → (x : ℤ) × (at_slot (with_home home xs env) s ≡ Some x)
home_has [] xs env s l h = cc
home_has (k ∷ home) [] env s l h = absurd (omega arith)
home_has (k ∷ home) (x ∷ xs) env s l h = by (nat_eq k s) refl (λ n. home_has home xs env s (omega arith) (rest (nat_eq k s) (holds home s) h n))
  where
    rest : (a b : Bool) → (a || b) ≡ true → a ≡ false → b ≡ true
    rest true b h e = cc
    rest false b h e = h

    by : (t : Bool) → nat_eq k s ≡ t → (t ≡ false → (y : ℤ) × (at_slot (with_home home xs env) s ≡ Some y)) → (y : ℤ) × ((if nat_eq k s then Some x else at_slot (with_home home xs env) s) ≡ Some y)
    by true e f = (x, ap (λ (b : Bool). if b then Some x else at_slot (with_home home xs env) s) e)
    by false e f = (let r = f refl in (r.0, ap (λ (b : Bool). if b then Some x else at_slot (with_home home xs env) s) e ∙ r.1))

-- The env that a SEQUENCE extended, and its homes' numbers, behind a move.

pub record Split (home : List ℕ) (env now : Env) : Type 0 where
  pub numbers : List ℤ
  pub outer : Env
  pub whole : now ≡ with_home home numbers outer
  pub count : length numbers ≡ length home
  pub same : SameKeys env outer

pub split : (home : List ℕ) (xs : List ℤ) (env now : Env) → length xs ≡ length home → SameKeys (with_home home xs env) now → Split home env now
split [] [] env now l k = record { numbers = []; outer = now; whole = refl; count = refl; same = k }
split [] (x ∷ xs) env now l k = absurd (omega arith)
split (h ∷ home) [] env now l k = absurd (omega arith)
split (h ∷ home) (x ∷ xs) env [] l k = absurd k
split (h ∷ home) (x ∷ xs) env (e ∷ now) l k =
    let r = split home xs env now (omega arith) k.1 in
    record { numbers = e.1 ∷ r.numbers; outer = r.outer; whole = ap (λ (z : ℕ). (z, e.1) ∷ now) (sym k.0) ∙ ap (λ (z : Env). (h, e.1) ∷ z) r.whole; count = ap suc r.count; same = r.same }

module _ (root : Grammar) where
  -- it has permitted numbers for these slots and no others
  pub record Good (keys : Known) (env : Env) : Type 0 where
    pub permitted : Permitted root env
    pub have : (s : ℕ) → keys s ≡ true → (x : ℤ) × (at_slot env s ≡ Some x)
    pub only : (s : ℕ) → keys s ≡ false → at_slot env s ≡ None

  pub same_good : (keys : Known) (env env' : Env) → Good keys env → SameKeys env env' → Permitted root env' → Good keys env'
  same_good keys env env' g k p = record {
    permitted = p;
    have = λ s h. (let x = g.have s h in keys_have env env' s x.0 k x.1);
    only = λ s h. keys_none env env' s k (g.only s h);
  }

  permitted_parts : (home : List ℕ) (ys : List ℤ) (outer : Env) → length ys ≡ length home → Permitted root (with_home home ys outer) → AllByRecursion (λ e. In (domain_of root e.0) e.1) (zip home ys) × Permitted root outer
  permitted_parts [] [] outer l p = (tt, p)
  permitted_parts [] (y ∷ ys) outer l p = absurd (omega arith)
  permitted_parts (k ∷ home) [] outer l p = absurd (omega arith)
  permitted_parts (k ∷ home) (y ∷ ys) outer l p = (let r = permitted_parts home ys outer (omega arith) p.1 in ((p.0, r.0), r.1))

  permitted_whole : (home : List ℕ) (ys : List ℤ) (outer : Env) → AllByRecursion (λ e. In (domain_of root e.0) e.1) (zip home ys) → Permitted root outer → Permitted root (with_home home ys outer)
  permitted_whole [] ys outer a p = p
  permitted_whole (k ∷ home) [] outer a p = p
  permitted_whole (k ∷ home) (y ∷ ys) outer a p = (a.0, permitted_whole home ys outer a.1 p)

  -- a number for each slot at home
  pub record Numbers (home : List ℕ) : Type 0 where
    pub numbers : List ℤ
    pub count : length numbers ≡ length home
    pub permitted : AllByRecursion (λ e. In (domain_of root e.0) e.1) (zip home numbers)

  pub some_numbers : (home : List ℕ) → ((s : ℕ) → holds home s ≡ true → (x : ℤ) × In (domain_of root s) x) → Numbers home
  some_numbers [] h = record { numbers = []; count = refl; permitted = tt }
  some_numbers (k ∷ home) h =
      let x = h k (or_left (nat_eq k k) (holds home k) (self_eq k)) in
      let r = some_numbers home (λ s g. h s (or_right (nat_eq k s) (holds home s) g)) in
      record { numbers = x.0 ∷ r.numbers; count = ap suc r.count; permitted = (x.1, r.permitted) }

  pub good_home : (keys : Known) (home : List ℕ) (n : Numbers home) (env : Env) → Good keys env → Good (λ s. holds home s || keys s) (with_home home n.numbers env)
  good_home keys home n env g = record {
    permitted = permitted_whole home n.numbers env n.permitted g.permitted;
    have = λ s h. by s (holds home s) refl h;
    only = λ s h. (let o = or_parts (holds home s) (keys s) h in extended home n.numbers env s o.0 ∙ g.only s o.1);
  }
    where
      by : (s : ℕ) (t : Bool) → holds home s ≡ t → (t || keys s) ≡ true → (x : ℤ) × (at_slot (with_home home n.numbers env) s ≡ Some x)
      by s true e h = home_has home n.numbers env s n.count e
      by s false e h = (let x = g.have s h in (x.0, extended home n.numbers env s e ∙ x.1))

  -- An env that moved at some slots.
  pub record Moved (keys : Known) (o : ℕ → Bool) (env : Env) : Type 0 where
    pub now : Env
    pub good : Good keys now
    pub same : SameKeys env now
    pub rest : (s : ℕ) → o s ≡ false → at_slot env s ≡ at_slot now s

  abbrev pub unmoved : (keys : Known) (o : ℕ → Bool) (env : Env) → Good keys env → Moved keys o env
  unmoved keys o env g = record { now = env; good = g; same = keys_self env; rest = λ s h. refl }

  abbrev pub moved_more : (keys : Known) (p q o : ℕ → Bool) (env : Env) (m : Moved keys p env) → Moved keys q m.now → ((s : ℕ) → o s ≡ false → (p s ≡ false) × (q s ≡ false)) → Moved keys o env
  moved_more keys p q o env m n h = record {
    now = n.now;
    good = n.good;
    same = keys_trans env m.now n.now m.same n.same;
    rest = λ s k. (let b = h s k in m.rest s b.0 ∙ n.rest s b.1);
  }

  abbrev pub moved_as : (keys : Known) (p o : ℕ → Bool) (env : Env) → Moved keys p env → ((s : ℕ) → o s ≡ false → p s ≡ false) → Moved keys o env
  moved_as keys p o env m h = record { now = m.now; good = m.good; same = m.same; rest = λ s k. m.rest s (h s k) }

  -- one number moves
  record Set (env : Env) (s : ℕ) (y : ℤ) : Type 0 where
    now : Env
    same : SameKeys env now
    is : at_slot now s ≡ Some y
    rest : (t : ℕ) → nat_eq s t ≡ false → at_slot env t ≡ at_slot now t
    permitted : Permitted root env → In (domain_of root s) y → Permitted root now

  set_slot : (env : Env) (s : ℕ) (y x : ℤ) → at_slot env s ≡ Some x → Set env s y
  set_slot [] s y x h = cc
  set_slot (e ∷ env) s y x h = by (nat_eq e.0 s) refl (λ n. set_slot env s y x (sym (ap (λ (b : Bool). if b then Some e.1 else at_slot env s) n) ∙ h))
    where
      one : (b : Bool) (u v : Option ℤ) → b ≡ false → u ≡ v → (w w' : Option ℤ) → (if b then w else u) ≡ (if b then w' else v)
      one true u v f e w w' = cc
      one false u v f e w w' = e

      either : (b : Bool) (w u v : Option ℤ) → u ≡ v → (if b then w else u) ≡ (if b then w else v)
      either true w u v e = refl
      either false w u v e = e

      by : (t : Bool) → nat_eq e.0 s ≡ t → (t ≡ false → Set env s y) → Set (e ∷ env) s y
      by true q f = record {
        now = (e.0, y) ∷ env;
        same = (refl, keys_self env);
        is = ap (λ (b : Bool). if b then Some y else at_slot env s) q;
        rest = λ t n. one (nat_eq e.0 t) (at_slot env t) (at_slot env t) (ap (λ (z : ℕ). nat_eq z t) (eqb-true e.0 s q) ∙ n) refl (Some e.1) (Some y);
        permitted = λ p i. (subst (λ (z : ℕ). In (domain_of root z) y) (sym (eqb-true e.0 s q)) i, p.1);
      }
      by false q f =
          let u = f refl in
          record {
            now = e ∷ u.now;
            same = (refl, u.same);
            is = ap (λ (b : Bool). if b then Some e.1 else at_slot u.now s) q ∙ u.is;
            rest = λ t n. either (nat_eq e.0 t) (Some e.1) (at_slot env t) (at_slot u.now t) (u.rest t n);
            permitted = λ p i. (p.0, u.permitted p.1 i);
          }

  pub record MovedTo (keys : Known) (s : ℕ) (y : ℤ) (env : Env) : Type 0 where
    pub moved : Moved keys (nat_eq s) env
    pub is : at_slot moved.now s ≡ Some y

  pub move_to : (keys : Known) (s : ℕ) (y : ℤ) (env : Env) → Good keys env → keys s ≡ true → In (domain_of root s) y → MovedTo keys s y env
  move_to keys s y env g k i =
      let h = g.have s k in
      let u = set_slot env s y h.0 h.1 in
      record { moved = record { now = u.now; good = same_good keys env u.now g u.same (u.permitted g.permitted i); same = u.same; rest = u.rest }; is = u.is }

  -- behind the fields of a SEQUENCE the env round it has moved at those that are at home outside
  pub record Outside (keys : Known) (home : List ℕ) (o : ℕ → Bool) (env : Env) (now : Env) : Type 0 where
    pub numbers : List ℤ
    pub moved : Moved keys o env
    pub whole : now ≡ with_home home numbers moved.now
    pub count : length numbers ≡ length home
    pub permitted : AllByRecursion (λ e. In (domain_of root e.0) e.1) (zip home numbers)

  pub outside : (keys : Known) (home : List ℕ) (n : Numbers home) (o : ℕ → Bool) (env : Env) → Good keys env → ((s : ℕ) → holds home s ≡ true → keys s ≡ false) → (m : Moved (λ s. holds home s || keys s) o (with_home home n.numbers env)) → Outside keys home (λ s. o s && not (holds home s)) env m.now
  outside keys home n o env g apart m =
      let sp = split home n.numbers env m.now n.count m.same in
      let ok = permitted_parts home sp.numbers sp.outer sp.count (subst (Permitted root) sp.whole m.good.permitted) in
      let good = same_good keys env sp.outer g sp.same ok.1 in
      record {
        numbers = sp.numbers;
        moved = record { now = sp.outer; good = good; same = sp.same; rest = λ s h. by s sp.numbers sp.outer sp.whole good (holds home s) refl h };
        whole = sp.whole;
        count = sp.count;
        permitted = ok.0;
      }
    where
      and_not : (a : Bool) → (a && not false) ≡ false → a ≡ false
      and_not true h = cc
      and_not false h = refl

      by : (s : ℕ) (ys : List ℤ) (outer : Env) → m.now ≡ with_home home ys outer → Good keys outer → (t : Bool) → holds home s ≡ t → (o s && not t) ≡ false → at_slot env s ≡ at_slot outer s
      by s ys outer whole good true e h = g.only s (apart s e) ∙ sym (good.only s (apart s e))
      by s ys outer whole good false e h = sym (extended home n.numbers env s e) ∙ (m.rest s (and_not (o s) h) ∙ (ap (λ (z : Env). at_slot z s) whole ∙ extended home ys outer s e))

-- Sizes.

pub record FrontOf (P : Part) (at : ℕ) (rest : List Bool) : Type 0 where
  pub front : List Bool
  pub back : List Bool
  pub whole : rest ≡ front ++ back
  pub spelled : P at front

abbrev pub Stuck : Failing → ℕ → List Bool → Type 0
Stuck F at rest = (fault : Fault) × (reach : ℕ) × F at rest fault reach

abbrev pub says : Here → Reason → Fault
says here r = record { path = here.path; reason = seen here.inside r; at = here.place }

pub in_or_not : (rs : List (ℤ × ℤ)) (x : ℤ) → In rs x ⊎ (In rs x → ⊥)
in_or_not rs x = by (has rs x) refl
  where
    by : (t : Bool) → has rs x ≡ t → In rs x ⊎ (In rs x → ⊥)
    by true e = inl e
    by false e = inr (λ h. let k : has rs x ≡ true = h in cc)

pub record ASize (sizing : Sizing) (env : Env) (at : ℕ) (rest : List Bool) : Type 0 where
  pub n : ℕ
  pub front : FrontOf (SizePart sizing env n) at rest

-- no permitted size is below zero
below_zero : (rs : List (ℤ × ℤ)) (k : ℕ) → all_within (pos 0) (pos 65536) rs ≡ true → has rs (negsuc k) ≡ true → ⊥
below_zero [] k h p = cc
below_zero (r ∷ rs) k h p =
    let f = and_parts (int_le (pos 0) r.0) (int_le r.1 (pos 65536) && all_within (pos 0) (pos 65536) rs) h in
    each f.0 (or_either (int_le r.0 (negsuc k) && int_le (negsuc k) r.1) (has rs (negsuc k)) p) (λ q. below_zero rs k (and_parts (int_le r.1 (pos 65536)) (all_within (pos 0) (pos 65536) rs) f.1).1 q)
  where
    clash : (a : ℤ) → int_le (pos 0) a ≡ true → int_le a (negsuc k) ≡ true → ⊥
    clash a h g = absurd (grind (arith, ints, Rattle.std.proofs.lemmas.Bool.Decides.nat_tests))

    each : int_le (pos 0) r.0 ≡ true → ((int_le r.0 (negsuc k) && int_le (negsuc k) r.1) ≡ true) ⊎ (has rs (negsuc k) ≡ true) → (has rs (negsuc k) ≡ true → ⊥) → ⊥
    each low (inl q) f = clash r.0 low (and_parts (int_le r.0 (negsuc k)) (int_le (negsuc k) r.1) q).0
    each low (inr q) f = f q

module _ (root : Grammar) where
  pub size_total : (here : Here) (sizing : Sizing) → sizing_fine sizing ≡ true → (ks keys : Known) → RuleIn ks sizing.rule → ((s : ℕ) → ks s ≡ true → keys s ≡ true) → (env : Env) → Good root keys env → (at : ℕ) (rest : List Bool) → ASize sizing env at rest ⊎ Stuck (SizeFails here sizing env) at rest
  size_total here sizing fine ks keys known within env g at rest = by sizing.rule refl known (and_parts (sizes_fine sizing.sizes) (rule_fine sizing.sizes sizing.rule) fine)
    where
      Goal : Type 0
      Goal = ASize sizing env at rest ⊎ Stuck (RuleFails here sizing sizing.rule env) at rest

      given : (rule : SizeRule) → sizing.rule ≡ rule → (n : ℕ) (front back : List Bool) → rest ≡ front ++ back → In sizing.sizes (pos n) → RulePart rule env n at front → Goal
      given rule e n front back whole i p = inl (record { n = n; front = record { front = front; back = back; whole = whole; spelled = record { given = i; spelled = subst (λ (z : SizeRule). RulePart z env n at front) (sym e) p } } })

      failed : (rule : SizeRule) → sizing.rule ≡ rule → (fault : Fault) (reach : ℕ) → RuleFails here sizing rule env at rest fault reach → Goal
      failed rule e fault reach f = inr (fault, reach, subst (λ (z : SizeRule). RuleFails here sizing z env at rest fault reach) (sym e) f)

      prefix : (low width : ℕ) → sizing.rule ≡ Prefix low width → (length rest < width) ⊎ (width ≤ length rest) → In sizing.sizes (pos (low + number (take width rest))) ⊎ (In sizing.sizes (pos (low + number (take width rest))) → ⊥) → Goal
      prefix low width e (inl h) i = failed (Prefix low width) e (says here short) (length rest) (prefix_cut (h, refl, refl))
      prefix low width e (inr h) (inl i) =
          given (Prefix low width) e (low + number (take width rest)) (take width rest) (drop width rest) (sym (take-append-drop width rest)) i
          (record { given = omega arith; spelled = record { width = length-take-le width rest h; value = omega arith } })
      prefix low width e (inr h) (inr i) = failed (Prefix low width) e (says here (size_out_of_range (low + number (take width rest)))) width (prefix_not_permitted (h, i, refl, refl))

      slot : (s : ℕ) → sizing.rule ≡ Slot s → (x : ℤ) → at_slot env s ≡ Some x → In sizing.sizes x ⊎ (In sizing.sizes x → ⊥) → sizes_fine sizing.sizes ≡ true → Goal
      slot s e (pos n) h (inl i) f = given (Slot s) e n [] rest refl i (h, refl)
      slot s e (negsuc n) h (inl i) f =
          absurd (below_zero sizing.sizes n (and_parts (are_ranges sizing.sizes) (all_within (pos 0) (pos 65536) sizing.sizes) (and_parts (Rattle.std.specs.Prelude.nat_lt 0 (length sizing.sizes)) (are_ranges sizing.sizes && all_within (pos 0) (pos 65536) sizing.sizes) f).1).1 i)
      slot s e x h (inr i) f = failed (Slot s) e (says here (size_out_of_range (kept x))) 0 (record { number = x; stands = h; refused = i; says = refl; reaches = refl })

      by : (rule : SizeRule) → sizing.rule ≡ rule → RuleIn ks sizing.rule → (sizes_fine sizing.sizes ≡ true) × (rule_fine sizing.sizes sizing.rule ≡ true) → Goal
      by (Prefix low width) e k f = prefix low width e (less_or_not (length rest) width) (in_or_not sizing.sizes (pos (low + number (take width rest))))
      by (Slot s) e k f = (let x = g.have s (within s (subst (RuleIn ks) e k)) in slot s e x.0 x.1 (in_or_not sizing.sizes x.0) f.0)
      by (Ended p) e k f = absurd (let r : rule_fine sizing.sizes (Ended p) ≡ true = subst (λ (z : SizeRule). rule_fine sizing.sizes z ≡ true) e f.1 in cc)
