-- What is spelled at the front excludes a failure, and two failures are one: how parts join.
use Rattle.std.proofs.Common.{◌≡◌, ℕ, zero, suc, ◌+◌, ◌≤◌, ℤ, pos, Bool, List, [], ◌∷◌, ◌++◌, length, take, drop, Some, refl, sym, ap, ◌∙◌, arith, append_assoc, subst, length-append}
use Rattle.acn_num.specs.Bits.{number}
use Rattle.acn_num.specs.Ranges.{In}
use Rattle.acn_grammar.specs.Env.{Env}
use Rattle.acn_grammar.specs.Fails.{Fault, Failing, Behind, Here, Short, RuleFails, SizeFails, RunFails, seen, kept, SizedFails, prefix_cut, prefix_not_permitted, fails_at_size, fails_behind_size, fails_at_element, fails_behind_element}
use Rattle.acn_grammar.specs.LeafFails.{size_out_of_range}
use Rattle.acn_grammar.specs.Grammar.{Grammar, Data, Elements, no_elements, element, element_count}
use Rattle.acn_grammar.specs.Scoped.{Known, Agree, RuleIn}
use Rattle.acn_grammar.specs.Spell.{Part, ◌then◌, Where, RulePart, SizePart, RunPart}
use Rattle.acn_grammar.specs.declared.node.SizeRule.{SizeRule}
use Rattle.acn_grammar.specs.declared.node.SizeRule.TheVariants.{Prefix, Slot, Ended}
use Rattle.acn_grammar.specs.declared.node.Sizing.{Sizing}
use Rattle.acn_grammar.proofs.Prefix.{Law, same_front}
use Rattle.acn_packet_laws.proofs.PrefixNodes.{rule_law}
use Rattle.acn_grammar.proofs.Texts.{given_law}
use Rattle.std.proofs.Math.Seq.{take-append_seam}

-- the part's bits aren't at the front where it fails
abbrev pub Excl : Part → Failing → Type 0
Excl P F = (at : ℕ) (a r : List Bool) (fault : Fault) (reach : ℕ) → P at a → F at (a ++ r) fault reach → ⊥

-- the failures are one, and rest on the same bits
abbrev pub Same : Failing → Failing → Type 0
Same F G = (at : ℕ) (rest : List Bool) (f g : Fault) (m n : ℕ) → F at rest f m → G at rest g n → (f ≡ g) × (m ≡ n)

-- not both fail
abbrev pub Clash : Failing → Failing → Type 0
Clash F G = (at : ℕ) (rest : List Bool) (f g : Fault) (m n : ℕ) → F at rest f m → G at rest g n → ⊥

pub drop_front : (a r : List Bool) → drop (length a) (a ++ r) ≡ r
drop_front [] r = refl
drop_front (x ∷ a) r = drop_front a r

pub take_n : (n : ℕ) (a r : List Bool) → length a ≡ n → take n (a ++ r) ≡ a
take_n n a r e = rw (← e) (take-append_seam a r)

pub drop_n : (n : ℕ) (a r : List Bool) → length a ≡ n → drop n (a ++ r) ≡ r
drop_n n a r e = rw (← e) (drop_front a r)

pub whole_of : (a front back r : List Bool) → a ≡ front ++ back → a ++ r ≡ front ++ (back ++ r)
whole_of a front back r e = ap (λ x. x ++ r) e ∙ append_assoc front back r

pub excl_first : {P P2 : Part} (F : Failing) → Excl P F → Excl (P then P2) F
excl_first {P} {P2} F h at a r fault reach t f = h at t.front (t.back ++ r) fault reach t.first (subst (λ (x : List Bool). F at x fault reach) (whole_of a t.front t.back r t.whole) f)

pub excl_given : {A : Type 0} {P : Part} (F : Failing) → Excl P F → Excl (Where A P) F
excl_given F h at a r fault reach t f = h at a r fault reach t.spelled f

pub where_law : {A F : Type 0} {P Q : Part} → Law P Q F → Law (Where A P) Q F
where_law h at a b r s p q e = h at a b r s p.spelled q e

pub excl_behind : {P P2 Q : Part} {F : Failing} {A : Type 0} → Law P Q A → (A → Excl P2 F) → Excl (P then P2) (Behind Q F)
excl_behind {P} {P2} {Q} {F} {A} law two at a r fault reach t f =
    let shifted : t.front ++ (t.back ++ r) ≡ f.front ++ f.back = sym (whole_of a t.front t.back r t.whole) ∙ f.whole in
    let one = law at t.front f.front (t.back ++ r) f.back t.first f.spelled shifted in
    let rest : t.back ++ r ≡ f.back = (same_front t.front f.front (t.back ++ r) f.back (ap length one.0) shifted).1 in
    two one.1 (at + length t.front) t.back r fault f.more t.second (subst (λ (x : List Bool). F (at + length t.front) x fault f.more) (sym rest) (subst (λ (x : List Bool). F (at + length x) f.back fault f.more) (sym one.0) f.fails))

pub same_behind : {P Q : Part} {F G : Failing} {A : Type 0} → Law P Q A → (A → Same F G) → Same (Behind P F) (Behind Q G)
same_behind {P} {Q} {F} {G} {A} law two at rest f g m n p q =
    let shifted : p.front ++ p.back ≡ q.front ++ q.back = sym p.whole ∙ q.whole in
    let one = law at p.front q.front p.back q.back p.spelled q.spelled shifted in
    let back : p.back ≡ q.back = (same_front p.front q.front p.back q.back (ap length one.0) shifted).1 in
    let second = two one.1 (at + length p.front) p.back f g p.more q.more p.fails (subst (λ (x : List Bool). G (at + length p.front) x g q.more) (sym back) (subst (λ (x : List Bool). G (at + length x) q.back g q.more) (sym one.0) q.fails)) in
    let long : length p.front ≡ length q.front = ap length one.0 in
    let more = second.1 in
    let pr = p.reaches in
    let qr = q.reaches in
    (second.0, omega arith)

-- what fails where a part is spelled clashes with what fails behind it
pub clash_behind : {P : Part} {G : Failing} (F : Failing) → Excl P F → Clash F (Behind P G)
clash_behind {P} {G} F h at rest f g m n p q = h at q.front q.back f m q.spelled (subst (λ (x : List Bool). F at x f m) q.whole p)

pub clash_back : {F G : Failing} → Clash F G → Clash G F
clash_back h at rest f g m n p q = h at rest g f n m q p

pub excl_short : {P : Part} (here : Here) (n : ℕ) → ((at : ℕ) (a : List Bool) → P at a → n ≤ length a) → Excl P (Short here n)
excl_short here n h at a r fault reach p f = let l = h at a p in let s = f.0 in let w = length-append a r in absurd (omega arith)

pub same_short : (here : Here) (n : ℕ) → Same (Short here n) (Short here n)
same_short here n at rest f g m k p q = (p.1 ∙ sym q.1, p.2 ∙ sym q.2)

-- Sizes.

some_one : {A : Type 0} (x y : A) → Some x ≡ Some y → x ≡ y
some_one x y e = cc

module _ (root : Grammar) where
  rule_excl : (here : Here) (sizing : Sizing) (rule : SizeRule) (ks : Known) → RuleIn ks rule → (env env' : Env) → Agree ks env env' → (n : ℕ) → In sizing.sizes (pos n) → Excl (RulePart rule env n) (RuleFails here sizing rule env')
  rule_excl here sizing (Prefix low width) ks known env env' same n inside at a r fault reach p (prefix_cut f) = let w = p.spelled.width in let s = f.0 in let l = length-append a r in absurd (omega arith)
  rule_excl here sizing (Prefix low width) ks known env env' same n inside at a r fault reach p (prefix_not_permitted f) =
      let v = p.spelled.value in
      let over = p.given in
      let is : low + number (take width (a ++ r)) ≡ n = ap (λ x. low + number x) (take_n width a r p.spelled.width) ∙ omega arith in
      f.1 (subst (λ (x : ℕ). In sizing.sizes (pos x)) (sym is) inside)
  rule_excl here sizing (Ended end) ks known env env' same n inside at a r fault reach p f = f
  rule_excl here sizing (Slot s) ks known env env' same n inside at a r fault reach p f =
      let is : pos n ≡ f.number = some_one (pos n) f.number (sym p.0 ∙ (same s known ∙ f.stands)) in
      f.refused (subst (λ (x : ℤ). In sizing.sizes x) is inside)

  rule_same : (here : Here) (sizing : Sizing) (rule : SizeRule) (ks : Known) → RuleIn ks rule → (env env' : Env) → Agree ks env env' → Same (RuleFails here sizing rule env) (RuleFails here sizing rule env')
  rule_same here sizing (Prefix low width) ks known env env' same at rest f g m n (prefix_cut p) (prefix_cut q) = (p.1 ∙ sym q.1, p.2 ∙ sym q.2)
  rule_same here sizing (Prefix low width) ks known env env' same at rest f g m n (prefix_cut p) (prefix_not_permitted q) = let a = p.0 in let b = q.0 in absurd (omega arith)
  rule_same here sizing (Prefix low width) ks known env env' same at rest f g m n (prefix_not_permitted p) (prefix_cut q) = let a = p.0 in let b = q.0 in absurd (omega arith)
  rule_same here sizing (Prefix low width) ks known env env' same at rest f g m n (prefix_not_permitted p) (prefix_not_permitted q) = (p.2 ∙ sym q.2, p.3 ∙ sym q.3)
  rule_same here sizing (Ended end) ks known env env' same at rest f g m n p q = absurd p
  rule_same here sizing (Slot s) ks known env env' same at rest f g m n p q =
      let is : p.number ≡ q.number = some_one p.number q.number (sym p.stands ∙ (same s known ∙ q.stands)) in
      (p.says ∙ (ap (λ x. record { path = here.path; reason = seen here.inside (size_out_of_range (kept x)); at = here.place }) is ∙ sym q.says), p.reaches ∙ sym q.reaches)

  size_excl : (here : Here) (sizing : Sizing) (ks : Known) → RuleIn ks sizing.rule → (env env' : Env) → Agree ks env env' → (n : ℕ) → Excl (SizePart sizing env n) (SizeFails here sizing env')
  size_excl here sizing ks known env env' same n at a r fault reach p f = rule_excl here sizing sizing.rule ks known env env' same n p.given at a r fault reach p.spelled f

  size_law : (sizing : Sizing) (ks : Known) → RuleIn ks sizing.rule → (env env' : Env) → Agree ks env env' → (m n : ℕ) → Law (SizePart sizing env m) (SizePart sizing env' n) (m ≡ n)
  size_law sizing ks known env env' same m n = given_law (λ _ _. rule_law root sizing.rule ks known env env' same m n)

  -- a size, and parts of that many behind it
  pub sized_excl : (here : Here) (sizing : Sizing) (ks : Known) → RuleIn ks sizing.rule → (env env' : Env) → Agree ks env env' → (n : ℕ) (P : Part) (F : ℕ → Failing) → ((m : ℕ) → n ≡ m → Excl P (F m))
      → (at : ℕ) (a r : List Bool) (fault : Fault) (reach : ℕ) → (SizePart sizing env n then P) at a → SizedFails here sizing env' F at (a ++ r) fault reach → ⊥
  sized_excl here sizing ks known env env' same n P F h at a r fault reach t (fails_at_size f) = excl_first {P = SizePart sizing env n} {P2 = P} (SizeFails here sizing env') (size_excl here sizing ks known env env' same n) at a r fault reach t f
  sized_excl here sizing ks known env env' same n P F h at a r fault reach t (fails_behind_size f) = excl_behind (size_law sizing ks known env env' same n f.n) (λ e. h f.n e) at a r fault reach t f.behind

  pub sized_same : (here : Here) (sizing : Sizing) (ks : Known) → RuleIn ks sizing.rule → (env env' : Env) → Agree ks env env' → (F G : ℕ → Failing) → ((m n : ℕ) → m ≡ n → Same (F m) (G n))
      → (at : ℕ) (rest : List Bool) (f g : Fault) (m n : ℕ) → SizedFails here sizing env F at rest f m → SizedFails here sizing env' G at rest g n → (f ≡ g) × (m ≡ n)
  sized_same here sizing ks known env env' same F G h at rest f g m n (fails_at_size p) (fails_at_size q) = rule_same here sizing sizing.rule ks known env env' same at rest f g m n p q
  sized_same here sizing ks known env env' same F G h at rest f g m n (fails_at_size p) (fails_behind_size q) = absurd (clash_behind (SizeFails here sizing env) (size_excl here sizing ks known env' env (λ s k. sym (same s k)) q.n) at rest f g m n p q.behind)
  sized_same here sizing ks known env env' same F G h at rest f g m n (fails_behind_size p) (fails_at_size q) = absurd (clash_behind (SizeFails here sizing env') (size_excl here sizing ks known env env' same p.n) at rest g f n m q p.behind)
  sized_same here sizing ks known env env' same F G h at rest f g m n (fails_behind_size p) (fails_behind_size q) = same_behind (size_law sizing ks known env env' same p.n q.n) (λ e. h p.n q.n e) at rest f g m n p.behind q.behind

-- Elements.

pub run_excl : (each other : Data → Part) (fails : ℕ → Failing) → ((d : Data) (k : ℕ) → Excl (each d) (fails k)) → ((d d' : Data) → Law (each d) (other d') (d ≡ d')) → (es : Elements) (n k : ℕ) → element_count es ≡ n → Excl (RunPart each es) (RunFails other fails n k)
run_excl each other fails h law es zero k c at a r fault reach t f = absurd f
run_excl each other fails h law no_elements (suc n) k c at a r fault reach t f = cc
run_excl each other fails h law (element d es) (suc n) k c at a r fault reach t (fails_at_element f) = excl_first {P = each d} {P2 = RunPart each es} (fails k) (h d k) at a r fault reach t f
run_excl each other fails h law (element d es) (suc n) k c at a r fault reach t (fails_behind_element f) = excl_behind (law d f.0) (λ _. run_excl each other fails h law es n (suc k) cc) at a r fault reach t f.1

pub run_same : (each other : Data → Part) (fails fails' : ℕ → Failing) → ((k : ℕ) → Same (fails k) (fails' k)) → ((d : Data) (k : ℕ) → Excl (each d) (fails' k)) → ((d : Data) (k : ℕ) → Excl (other d) (fails k)) → ((d d' : Data) → Law (each d) (other d') (d ≡ d')) → (n k : ℕ) → Same (RunFails each fails n k) (RunFails other fails' n k)
run_same each other fails fails' h x y law zero k at rest f g m n p q = absurd p
run_same each other fails fails' h x y law (suc n) k at rest f g m l (fails_at_element p) (fails_at_element q) = h k at rest f g m l p q
run_same each other fails fails' h x y law (suc n) k at rest f g m l (fails_at_element p) (fails_behind_element q) = absurd (clash_behind (fails k) (y q.0 k) at rest f g m l p q.1)
run_same each other fails fails' h x y law (suc n) k at rest f g m l (fails_behind_element p) (fails_at_element q) = absurd (clash_behind (fails' k) (x p.0 k) at rest g f l m q p.1)
run_same each other fails fails' h x y law (suc n) k at rest f g m l (fails_behind_element p) (fails_behind_element q) = same_behind (law p.0 q.0) (λ _. run_same each other fails fails' h x y law n (suc k)) at rest f g m l p.1 q.1
