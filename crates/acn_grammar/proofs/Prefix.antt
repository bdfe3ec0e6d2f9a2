-- No spelling begins another.
use Rattle.std.proofs.Common.{◌≡◌, ℕ, ◌+◌, ◌*◌, ℤ, pos, ◌+ℤ◌, Bool, List, [], ◌∷◌, ◌++◌, length, Some, None, refl, sym, ap, ◌∙◌, arith, append_assoc, inl, inr}
use Rattle.acn_num.specs.Bits.{IsNumber, number, signed_number}
use Rattle.acn_num.specs.Ranges.{In}
use Rattle.acn_grammar.specs.Grammar.{Grammar, Data, node, num}
use Rattle.acn_grammar.specs.Code.{Mode, Any, CodingCode, in_order, image_of, NumberOf}
use Rattle.acn_grammar.specs.Env.{Env}
use Rattle.acn_grammar.specs.Spell.{Part, ◌then◌, Padding, Spell}
use Rattle.acn_grammar.specs.declared.node.NumLeaf.{NumLeaf}
use Rattle.acn_grammar.specs.declared.node.NumCoding.{NumCoding}
use Rattle.acn_grammar.specs.declared.node.NumCoding.TheVariants.{Range, CountedFrom, PosInt, Twos, Flag, Fixed}
use Rattle.acn_grammar.proofs.SpellLength.{Padding-length}

-- fronts of one length are one
pub same_front : (a b r s : List Bool) → length a ≡ length b → a ++ r ≡ b ++ s → (a ≡ b) × (r ≡ s)
same_front [] [] r s l e = (refl, e)
same_front [] (y ∷ b) r s l e = absurd (omega arith)
same_front (x ∷ a) [] r s l e = absurd (omega arith)
same_front (x ∷ a) (y ∷ b) r s l e =
    let h : x ≡ y = cc in
    let t : a ++ r ≡ b ++ s = cc in
    let m : length a ≡ length b = omega arith in
    let both = same_front a b r s m t in
    let p = both.0 in
    (cc, both.1)

-- Where one part's bits begin the other's, the bits are one, and the fact holds.
abbrev pub Law : Part → Part → Type 0 → Type 0
Law P Q F = (at : ℕ) (a b r s : List Bool) → P at a → Q at b → a ++ r ≡ b ++ s → (a ≡ b) × F

pub then_law : {P P' Q Q' : Part} (F G : Type 0) → Law P P' F → (F → Law Q Q' G) → Law (P then Q) (P' then Q') (F × G)
then_law {P} {P'} {Q} {Q'} F G one two at a b r s t u e =
    let shifted : t.front ++ (t.back ++ r) ≡ u.front ++ (u.back ++ s) =
    sym (append_assoc t.front t.back r) ∙ (ap (λ x. x ++ r) (sym t.whole) ∙ (e ∙ (ap (λ x. x ++ s) u.whole ∙ append_assoc u.front u.back s))) in
    let first = one at t.front u.front (t.back ++ r) (u.back ++ s) t.first u.first shifted in
    let rest : t.back ++ r ≡ u.back ++ s = (same_front t.front u.front (t.back ++ r) (u.back ++ s) (ap length first.0) shifted).1 in
    let moved : Q' (at + length t.front) u.back = rw first.0 u.second in
    let second = two first.1 (at + length t.front) t.back u.back r s t.second moved rest in
    let front_is = first.0 in
    let back_is = second.0 in
    (cc, (first.1, second.1))

pub padding_law : (mode : Mode) (align : ℕ) → Law (Padding mode align) (Padding mode align) (Unit {0})
padding_law mode align at a b r s p q e =
    ((same_front a b r s (Padding-length mode align at a p ∙ sym (Padding-length mode align at b q)) e).0, tt)

-- fixed widths: the bits tell the number
abbrev pub CodeLaw : NumCoding → Bool → Type 0
CodeLaw coding little = (y z : ℤ) → Law (λ at bs. CodingCode Any coding little y bs) (λ at bs. CodingCode Any coding little z bs) (y ≡ z)

pub number_law : (n j k : ℕ) (a b r s : List Bool) → IsNumber n j a → IsNumber n k b → a ++ r ≡ b ++ s → (a ≡ b) × (j ≡ k)
number_law n j k a b r s p q e =
    let h = (same_front a b r s (p.width ∙ sym q.width) e).0 in
    (h, sym p.value ∙ (ap number h ∙ q.value))

pub range_law : (low : ℤ) (width : ℕ) (little : Bool) → CodeLaw (Range low width) little
range_law low width little y z at a b r s p q e =
    let h = number_law width p.0 q.0 a b r s p.2 q.2 e in
    (h.0, p.1 ∙ (ap (λ k. low +ℤ pos k) h.1 ∙ sym q.1))

pub pos_int_law : (n : ℕ) (little : Bool) → CodeLaw (PosInt n) little
pos_int_law n little y z at a b r s p q e =
    let h = (same_front a b r s (p.0 ∙ sym q.0) e).0 in
    (h, p.1 ∙ (ap (λ c. pos (number (in_order little c))) h ∙ sym q.1))

pub twos_law : (n : ℕ) (little : Bool) → CodeLaw (Twos n) little
twos_law n little y z at a b r s p q e =
    let h = (same_front a b r s (p.0 ∙ sym q.0) e).0 in
    (h, p.1 ∙ (ap (λ c. signed_number (in_order little c)) h ∙ sym q.1))

pub fixed_law : (pattern : List Bool) (little : Bool) → CodeLaw (Fixed pattern) little
fixed_law pattern little y z at a b r s p q e = (p.1 ∙ sym q.1, p.0 ∙ sym q.0)

-- one Boolean pattern: every other pattern of its length is the other value
pub flag_law : (p : List Bool) (little : Bool) → CodeLaw (Flag (Some p) None) little
flag_law p little y z at a b r s (inl x) (inl w) e = (x.1 ∙ sym w.1, x.0 ∙ sym w.0)
flag_law p little y z at a b r s (inr x) (inr w) e = ((same_front a b r s (x.1.0 ∙ sym w.1.0) e).0, x.0 ∙ sym w.0)
flag_law p little y z at a b r s (inl x) (inr w) e = absurd (w.1.1 (sym ((same_front a b r s (ap length x.1 ∙ sym w.1.0) e).0) ∙ x.1))
flag_law p little y z at a b r s (inr x) (inl w) e = absurd (x.1.1 ((same_front a b r s (x.1.0 ∙ sym (ap length w.1)) e).0 ∙ w.1))

-- a count, and that many octets: the count tells where the octets end
pub counted_law : (low : ℤ) (little : Bool) → CodeLaw (CountedFrom low) little
counted_law low little y z at a b r s p q e =
    let t = p.2 in
    let u = q.2 in
    let shifted : t.front ++ (t.body ++ r) ≡ u.front ++ (u.body ++ s) =
    sym (append_assoc t.front t.body r) ∙ (ap (λ x. x ++ r) (sym t.whole) ∙ (e ∙ (ap (λ x. x ++ s) u.whole ∙ append_assoc u.front u.body s))) in
    let first = number_law 8 t.count u.count t.front u.front _ _ t.counts u.counts shifted in
    let rest = (same_front t.front u.front _ _ (ap length first.0) shifted).1 in
    let spells : IsNumber (8 * t.count) q.0 u.body = rw first.1 u.spells in
    let second = number_law (8 * t.count) p.0 q.0 t.body u.body r s t.spells spells rest in
    let front_is = first.0 in
    let back_is = second.0 in
    (cc, p.1 ∙ (ap (λ k. low +ℤ pos k) second.1 ∙ sym q.1))

-- a leaf whose codes and images tell the number
pub record Lawful (leaf : NumLeaf) : Type 0 where
  pub codes : CodeLaw leaf.coding leaf.little
  pub images : (x x' y : ℤ) → In leaf.set x → In leaf.set x' → image_of leaf x ≡ Some y → image_of leaf x' ≡ Some y → x ≡ x'

-- A leaf, its padding before it: with a coding whose law holds and images that tell the numbers.
pub leaf_law : (root : Grammar) (env env' : Env) (align : ℕ) (leaf : NumLeaf) (d d' : Data)
    → CodeLaw leaf.coding leaf.little
    → ((x x' y : ℤ) → In leaf.set x → In leaf.set x' → image_of leaf x ≡ Some y → image_of leaf x' ≡ Some y → x ≡ x')
    → ((x : ℤ) → NumberOf leaf.kind d x → NumberOf leaf.kind d' x → d ≡ d')
    → Law (Spell root Any (node align (num leaf)) env d) (Spell root Any (node align (num leaf)) env' d') (Unit {0} × (d ≡ d'))
leaf_law root env env' align leaf d d' code images values = then_law (Unit {0}) (d ≡ d') (padding_law Any align) (λ _ at a b r s p q e.
    let h = code p.2.image q.2.image at a b r s p.2.spelled q.2.spelled e in
    let same : p.0 ≡ q.0 = images p.0 q.0 q.2.image p.2.permitted q.2.permitted (p.2.maps ∙ ap Some h.1) q.2.maps in
    (h.0, values p.0 p.1 (rw same q.1)))
