-- Each test that is made decides what it stands for.
use Rattle.std.specs.Bool.{Decides}
use Rattle.std.specs.Prelude.{nat_le}
use Rattle.std.specs.Ordering.{int_eq}
use Rattle.std.specs.Cmp.Lexicographic.{pointwise, pointwise_decides, bytes_decides}
use mathlib.Core.Bool.{beq}
use Rattle.std.proofs.Common.{◌≡◌, ℕ, suc, ℤ, Bool, true, false, ◌&&◌, ◌||◌, List, [], ◌∷◌, length, Option, Some, None, refl, sym, ap, ◌∙◌, arith, nat_eq}
use Rattle.std.proofs.lemmas.Bool.{and_parts, and_from, true≢false, leb-true, le-leb}
use Rattle.std.proofs.lemmas.Bool.Decides.{Decides-eqb, Decides-int_eq, Decides-like}
use Rattle.acn_num.specs.Ranges.{Ranges}
use Rattle.acn_grammar.specs.Fails.{count_of}
use Rattle.acn_grammar.specs.Grammar.{Form, Alternatives, num, octets, bits, text, seq, list, choice, contained}
use Rattle.acn_grammar.specs.Walk.{conditions_of}
use Rattle.acn_grammar.specs.declared.node.NumKind.{NumKind}
use Rattle.acn_grammar.specs.declared.node.NumKind.TheVariants.{Integer, Boolean, Enumerated, Null}
use Rattle.acn_grammar.specs.declared.node.NumCoding.{NumCoding}
use Rattle.acn_grammar.specs.declared.node.NumCoding.TheVariants.{Range, CountedFrom, CountedSigned, PosInt, Twos, Bcd, BcdEnded, Ascii, AsciiEnded, Flag, Fixed}
use Rattle.acn_grammar.specs.declared.node.NumLeaf.{NumLeaf}
use Rattle.acn_grammar.specs.declared.node.Table.{Table}
use Rattle.acn_grammar.specs.declared.node.TextLeaf.{TextLeaf}
use Rattle.acn_grammar.specs.declared.node.SizeRule.{SizeRule}
use Rattle.acn_grammar.specs.declared.node.SizeRule.TheVariants.{Prefix, Slot, Ended}
use Rattle.acn_grammar.specs.declared.node.Presence.{Presence}
use Rattle.acn_grammar.specs.declared.node.Presence.TheVariants.{Always, Bit, When}
use Rattle.acn_grammar.specs.declared.node.Test.{Test}
use Rattle.acn_grammar.specs.declared.node.Test.TheVariants as test
use Rattle.acn_grammar.specs.declared.node.ChoiceRule.{ChoiceRule}
use Rattle.acn_grammar.specs.declared.node.ChoiceRule.TheVariants.{Index, Tests, Item}
use Rattle.acn_compare.specs.Accepts.{Answering, answers, AllAnswer, Head, heads, Together, table_lines, SameKind, SameRule, SameNumberCoding, SameTextCoding, SameIndex, SameCoding, SameNames, SameFields, BothBy, SamePresence, SameTest, SameTests, SameConditions, BothSay, SameSlot, SameChooser, SameDeterminants, BothChoose, SameAlternatives}
use Rattle.acn_compare.specs.Tests.{together, Slots, answer, Tells, kinds_same, same_kind, same_pattern, same_end, same_num_coding, same_line, same_table, same_leaf, same_rule, same_range, same_places, same_characters, same_text, same_index, same_coding, same_word, same_item, same_component, same_alternative, same_names, same_place, same_fields, both_by, same_presence, same_test, same_conditions, both_say, same_field, same_slot, same_case, same_chooser, same_determinants, both_choose, same_alternatives}

so : {P : Type 0} → P → Decides true P
so p = (λ h. p, λ q. refl)

not_so : {P : Type 0} → (P → ⊥) → Decides false P
not_so f = (λ h. absurd (true≢false (sym h)), λ p. absurd (f p))

both : {P Q : Type 0} (a b : Bool) → Decides a P → Decides b Q → Decides (a && b) (P × Q)
both a b d e = (λ h. (let w = and_parts a b h in (d.0 w.0, e.0 w.1)), λ p. and_from a b (d.1 p.0) (e.1 p.1))

booleans : (a b : Bool) → Decides (beq a b) (a ≡ b)
booleans true true = so refl
booleans true false = not_so (λ e. true≢false e)
booleans false true = not_so (λ e. true≢false (sym e))
booleans false false = so refl

together_decides : {A : Type 0} (p : A → A → Bool) (P : A → A → Type 0) → ((a b : A) → Decides (p a b) (P a b)) → (xs ys : List A) → Decides (together p xs ys) (Together P xs ys)
together_decides p P d [] [] = so tt
together_decides p P d [] (y ∷ ys) = so tt
together_decides p P d (x ∷ xs) [] = so tt
together_decides p P d (x ∷ xs) (y ∷ ys) = both (p x y) (together p xs ys) (d x y) (together_decides p P d xs ys)

-- Kinds.

kinds_decide : (k m : NumKind) → Decides (kinds_same k m) (k ≡ m)
kinds_decide Integer Integer = so refl
kinds_decide Boolean Boolean = so refl
kinds_decide Enumerated Enumerated = so refl
kinds_decide Null Null = so refl
kinds_decide Integer _ = not_so (λ e. cc)
kinds_decide Boolean _ = not_so (λ e. cc)
kinds_decide Enumerated _ = not_so (λ e. cc)
kinds_decide Null _ = not_so (λ e. cc)

pub kind_decides : (f g : Form) → Decides (same_kind f g) (SameKind f g)
kind_decides (num l) (num m) = kinds_decide l.kind m.kind
kind_decides (octets z) (octets y) = so tt
kind_decides (bits z) (bits y) = so tt
kind_decides (text l) (text m) = so tt
kind_decides (seq fs home) (seq gs home') = so tt
kind_decides (list z g) (list y h) = so tt
kind_decides (choice cs p) (choice ds q) = so tt
kind_decides (contained z g) (contained y h) = so tt
kind_decides (num l) _ = not_so (λ e. e)
kind_decides (octets z) _ = not_so (λ e. e)
kind_decides (bits z) _ = not_so (λ e. e)
kind_decides (text l) _ = not_so (λ e. e)
kind_decides (seq fs home) _ = not_so (λ e. e)
kind_decides (list z g) _ = not_so (λ e. e)
kind_decides (choice cs p) _ = not_so (λ e. e)
kind_decides (contained z g) _ = not_so (λ e. e)

-- Codings.

pattern_decides : (p q : List Bool) → Decides (same_pattern p q) (p ≡ q)
pattern_decides = pointwise_decides booleans

end_decides : (p q : Option (List Bool)) → Decides (same_end p q) (p ≡ q)
end_decides None None = so refl
end_decides (Some p) (Some q) = Decides-like (same_pattern p q) (λ e. ap Some e) (λ e. cc) (pattern_decides p q)
end_decides None (Some q) = not_so (λ e. cc)
end_decides (Some p) None = not_so (λ e. cc)

num_coding_decides : (c d : NumCoding) → Decides (same_num_coding c d) (c ≡ d)
num_coding_decides (Range low width) (Range low' width') =
    Decides-like (int_eq low low' && nat_eq width width') (λ p. (let a = p.0 in let b = p.1 in cc)) (λ e. (cc, cc)) (both (int_eq low low') (nat_eq width width') (Decides-int_eq low low') (Decides-eqb width width'))
num_coding_decides (CountedFrom low) (CountedFrom low') = Decides-like (int_eq low low') (λ e. ap CountedFrom e) (λ e. cc) (Decides-int_eq low low')
num_coding_decides CountedSigned CountedSigned = so refl
num_coding_decides (PosInt n) (PosInt m) = Decides-like (nat_eq n m) (λ e. ap PosInt e) (λ e. cc) (Decides-eqb n m)
num_coding_decides (Twos n) (Twos m) = Decides-like (nat_eq n m) (λ e. ap Twos e) (λ e. cc) (Decides-eqb n m)
num_coding_decides (Bcd n) (Bcd m) = Decides-like (nat_eq n m) (λ e. ap Bcd e) (λ e. cc) (Decides-eqb n m)
num_coding_decides BcdEnded BcdEnded = so refl
num_coding_decides (Ascii n s) (Ascii m t) =
    Decides-like (nat_eq n m && beq s t) (λ p. (let a = p.0 in let b = p.1 in cc)) (λ e. (cc, cc)) (both (nat_eq n m) (beq s t) (Decides-eqb n m) (booleans s t))
num_coding_decides (AsciiEnded p s) (AsciiEnded q t) =
    Decides-like (beq s t && same_pattern p q) (λ p. (let a = p.0 in let b = p.1 in cc)) (λ e. (cc, cc)) (both (beq s t) (same_pattern p q) (booleans s t) (pattern_decides p q))
num_coding_decides (Flag p r) (Flag q s) =
    Decides-like (same_end p q && same_end r s) (λ p. (let a = p.0 in let b = p.1 in cc)) (λ e. (cc, cc)) (both (same_end p q) (same_end r s) (end_decides p q) (end_decides r s))
num_coding_decides (Fixed p) (Fixed q) = Decides-like (same_pattern p q) (λ e. ap Fixed e) (λ e. cc) (pattern_decides p q)
num_coding_decides (Range low width) _ = not_so (λ e. cc)
num_coding_decides (CountedFrom low) _ = not_so (λ e. cc)
num_coding_decides CountedSigned _ = not_so (λ e. cc)
num_coding_decides (PosInt n) _ = not_so (λ e. cc)
num_coding_decides (Twos n) _ = not_so (λ e. cc)
num_coding_decides (Bcd n) _ = not_so (λ e. cc)
num_coding_decides BcdEnded _ = not_so (λ e. cc)
num_coding_decides (Ascii n s) _ = not_so (λ e. cc)
num_coding_decides (AsciiEnded p s) _ = not_so (λ e. cc)
num_coding_decides (Flag p r) _ = not_so (λ e. cc)
num_coding_decides (Fixed p) _ = not_so (λ e. cc)

line_decides : (l m : ℤ × ℤ × ℤ) → Decides (same_line l m) (l ≡ m)
line_decides l m = Decides-like (same_line l m) (λ p. λ i. ((p.0).0 i, (p.0).1 i, p.1 i)) (λ e. ((ap (λ z. z.0) e, ap (λ z. z.1) e), ap (λ z. z.2) e))
    (both (int_eq l.0 m.0 && int_eq l.1 m.1) (int_eq l.2 m.2) (both (int_eq l.0 m.0) (int_eq l.1 m.1) (Decides-int_eq l.0 m.0) (Decides-int_eq l.1 m.1)) (Decides-int_eq l.2 m.2))

table_decides : (t u : Option Table) → Decides (same_table t u) (table_lines t ≡ table_lines u)
table_decides None None = so refl
table_decides (Some t) (Some u) = Decides-like (pointwise same_line t.lines u.lines) (λ e. ap Some e) (λ e. cc) (pointwise_decides line_decides t.lines u.lines)
table_decides None (Some u) = not_so (λ e. cc)
table_decides (Some t) None = not_so (λ e. cc)

leaf_decides : (l m : NumLeaf) → Decides (same_leaf l m) (SameNumberCoding l m)
leaf_decides l m =
    let rest = both (same_table l.table m.table) (beq l.items.values m.items.values) (table_decides l.table m.table) (booleans l.items.values m.items.values) in
    let two = both (beq l.little m.little) (same_table l.table m.table && beq l.items.values m.items.values) (booleans l.little m.little) rest in
    Decides-like (same_leaf l m) (λ p. record { coding = p.0; little = (p.1).0; table = ((p.1).1).0; values = ((p.1).1).1 }) (λ r. (r.coding, (r.little, (r.table, r.values))))
    (both (same_num_coding l.coding m.coding) (beq l.little m.little && (same_table l.table m.table && beq l.items.values m.items.values)) (num_coding_decides l.coding m.coding) two)

rule_decides : (p q : SizeRule) → Decides (same_rule p q) (SameRule p q)
rule_decides (Prefix low width) (Prefix low' width') = both (nat_eq low low') (nat_eq width width') (Decides-eqb low low') (Decides-eqb width width')
rule_decides (Slot s) (Slot t) = so tt
rule_decides (Ended p) (Ended q) = pattern_decides p q
rule_decides (Prefix low width) _ = not_so (λ e. e)
rule_decides (Slot s) _ = not_so (λ e. e)
rule_decides (Ended p) _ = not_so (λ e. e)

range_decides : (r s : ℤ × ℤ) → Decides (same_range r s) (r ≡ s)
range_decides r s = Decides-like (same_range r s) (λ p. λ i. (p.0 i, p.1 i)) (λ e. (ap (λ z. z.0) e, ap (λ z. z.1) e)) (both (int_eq r.0 s.0) (int_eq r.1 s.1) (Decides-int_eq r.0 s.0) (Decides-int_eq r.1 s.1))

places_decide : (i : Bool) (r s : Ranges) → Decides (same_places i r s) (i ≡ true → r ≡ s)
places_decide true r s = Decides-like (pointwise same_range r s) (λ q e. q) (λ q. q refl) (pointwise_decides range_decides r s)
places_decide false r s = so (λ e. absurd (true≢false (sym e)))

text_decides : (l m : TextLeaf) → Decides (same_text l m) (SameTextCoding l m)
text_decides l m =
    let at = both (beq l.indexed m.indexed) (same_places l.indexed l.alphabet m.alphabet) (booleans l.indexed m.indexed) (places_decide l.indexed l.alphabet m.alphabet) in
    let characters = both (nat_eq l.width m.width) (beq l.indexed m.indexed && same_places l.indexed l.alphabet m.alphabet) (Decides-eqb l.width m.width) at in
    let rest = both (same_end l.ended m.ended) (same_characters l m) (end_decides l.ended m.ended) characters in
    Decides-like (same_text l m) (λ p. record { rule = p.0; ended = (p.1).0; width = ((p.1).1).0; indexed = (((p.1).1).1).0; places = (((p.1).1).1).1 })
    (λ r. (r.rule, (r.ended, (r.width, (r.indexed, r.places)))))
    (both (same_rule l.sized.rule m.sized.rule) (same_end l.ended m.ended && same_characters l m) (rule_decides l.sized.rule m.sized.rule) rest)

index_decides : (p q : ChoiceRule) → Decides (same_index p q) (SameIndex p q)
index_decides (Index width) (Index width') = Decides-eqb width width'
index_decides (Index width) _ = so tt
index_decides Tests _ = so tt
index_decides (Item s) _ = so tt

pub coding_decides : (f g : Form) → Decides (same_coding f g) (SameCoding f g)
coding_decides (num l) (num m) = leaf_decides l m
coding_decides (octets z) (octets y) = rule_decides z.rule y.rule
coding_decides (bits z) (bits y) = rule_decides z.rule y.rule
coding_decides (text l) (text m) = text_decides l m
coding_decides (list z g) (list y h) = rule_decides z.rule y.rule
coding_decides (choice cs p) (choice ds q) = index_decides p q
coding_decides (contained z g) (contained y h) = rule_decides z.rule y.rule
coding_decides (num l) _ = so tt
coding_decides (octets z) _ = so tt
coding_decides (bits z) _ = so tt
coding_decides (text l) _ = so tt
coding_decides (seq fs home) _ = so tt
coding_decides (list z g) _ = so tt
coding_decides (choice cs p) _ = so tt
coding_decides (contained z g) _ = so tt

-- Names.

item_decides : (a b : List ℕ × ℤ) → Decides (same_item a b) (a ≡ b)
item_decides a b = Decides-like (same_item a b) (λ p. λ i. (p.0 i, p.1 i)) (λ e. (ap (λ z. z.0) e, ap (λ z. z.1) e)) (both (same_word a.0 b.0) (int_eq a.1 b.1) (bytes_decides a.0 b.0) (Decides-int_eq a.1 b.1))

named : (i j : Bool) (n m : List ℕ) → Decides (i || (j || same_word n m)) (i ≡ false → j ≡ false → n ≡ m)
named true j n m = so (λ e f. absurd (true≢false e))
named false true n m = so (λ e f. absurd (true≢false f))
named false false n m = Decides-like (same_word n m) (λ q e f. q) (λ q. q refl refl) (bytes_decides n m)

pub names_decide : (f g : Form) → Decides (same_names f g) (SameNames f g)
names_decide (num l) (num m) = pointwise_decides item_decides l.items.items m.items.items
names_decide (seq fs home) (seq gs home') = together_decides same_component (λ h k. h.inserted ≡ false → k.inserted ≡ false → h.name ≡ k.name) (λ h k. named h.inserted k.inserted h.name k.name) (heads fs) (heads gs)
names_decide (choice cs p) (choice ds q) = together_decides same_alternative (λ c d. c.0 ≡ d.0) (λ c d. bytes_decides c.0 d.0) (conditions_of cs) (conditions_of ds)
names_decide (num l) _ = so tt
names_decide (octets z) _ = so tt
names_decide (bits z) _ = so tt
names_decide (text l) _ = so tt
names_decide (seq fs home) _ = so tt
names_decide (list z g) _ = so tt
names_decide (choice cs p) _ = so tt
names_decide (contained z g) _ = so tt

-- Fields and their presence.

rows_decide : (hs ks : List Head) → Decides (pointwise same_place hs ks) ((length hs ≡ length ks) × Together (λ h k. h.inserted ≡ k.inserted) hs ks)
rows_decide [] [] = so (refl, tt)
rows_decide [] (k ∷ ks) = not_so (λ p. (let e = p.0 in omega arith))
rows_decide (h ∷ hs) [] = not_so (λ p. (let e = p.0 in omega arith))
rows_decide (h ∷ hs) (k ∷ ks) =
    Decides-like (beq h.inserted k.inserted && pointwise same_place hs ks) (λ p. (ap suc (p.1).0, (p.0, (p.1).1))) (λ p. ((p.1).0, (less p.0, (p.1).1))) (both (beq h.inserted k.inserted) (pointwise same_place hs ks) (booleans h.inserted k.inserted) (rows_decide hs ks))
  where
    less : {m n : ℕ} → suc m ≡ suc n → m ≡ n
    less e = omega arith

pub fields_decide : (f g : Form) → Decides (same_fields f g) (SameFields f g)
fields_decide (seq fs home) (seq gs home') = rows_decide (heads fs) (heads gs)
fields_decide (num l) _ = so tt
fields_decide (octets z) _ = so tt
fields_decide (bits z) _ = so tt
fields_decide (text l) _ = so tt
fields_decide (seq fs home) _ = so tt
fields_decide (list z g) _ = so tt
fields_decide (choice cs p) _ = so tt
fields_decide (contained z g) _ = so tt

by_decides : (p q : Presence) → Decides (both_by p q) (BothBy p q)
by_decides Always Always = so tt
by_decides Bit Bit = so tt
by_decides (When ts) (When us) = so tt
by_decides Always _ = not_so (λ e. e)
by_decides Bit _ = not_so (λ e. e)
by_decides (When ts) _ = not_so (λ e. e)

pub presence_decides : (f g : Form) → Decides (same_presence f g) (SamePresence f g)
presence_decides (seq fs home) (seq gs home') = together_decides (λ h k. both_by h.presence k.presence) (λ h k. BothBy h.presence k.presence) (λ h k. by_decides h.presence k.presence) (heads fs) (heads gs)
presence_decides (num l) _ = so tt
presence_decides (octets z) _ = so tt
presence_decides (bits z) _ = so tt
presence_decides (text l) _ = so tt
presence_decides (seq fs home) _ = so tt
presence_decides (list z g) _ = so tt
presence_decides (choice cs p) _ = so tt
presence_decides (contained z g) _ = so tt

-- Determinants.

say_decides : (s t : Option ℕ) → Decides (both_say s t) (BothSay s t)
say_decides None None = so tt
say_decides (Some s) (Some t) = so tt
say_decides None (Some t) = not_so (λ e. e)
say_decides (Some s) None = not_so (λ e. e)

module _ (by : Answering) (slots : Slots) (tells : Tells by slots) where
  answer_decides : (s t : ℕ) → Decides (answer slots s t) (answers by s t ≡ true)
  answer_decides s t = (λ h. sym (tells s t) ∙ h, λ h. tells s t ∙ h)

  homes_decide : (ss ts : List ℕ) → Decides (pointwise (answer slots) ss ts) (AllAnswer by ss ts)
  homes_decide [] [] = so tt
  homes_decide [] (t ∷ ts) = not_so (λ e. e)
  homes_decide (s ∷ ss) [] = not_so (λ e. e)
  homes_decide (s ∷ ss) (t ∷ ts) = both (answer slots s t) (pointwise (answer slots) ss ts) (answer_decides s t) (homes_decide ss ts)

  test_decides : (t u : Test) → Decides (same_test slots t u) (SameTest by t u)
  test_decides (test.Flag s) (test.Flag t) = answer_decides s t
  test_decides (test.Equals s k) (test.Equals t m) = both (answer slots s t) (int_eq k m) (answer_decides s t) (Decides-int_eq k m)
  test_decides (test.Flag s) (test.Equals t m) = not_so (λ e. e)
  test_decides (test.Equals s k) (test.Flag t) = not_so (λ e. e)

  tests_decide : (ts us : List Test) → Decides (pointwise (same_test slots) ts us) (SameTests by ts us)
  tests_decide [] [] = so tt
  tests_decide [] (u ∷ us) = not_so (λ e. e)
  tests_decide (t ∷ ts) [] = not_so (λ e. e)
  tests_decide (t ∷ ts) (u ∷ us) = both (same_test slots t u) (pointwise (same_test slots) ts us) (test_decides t u) (tests_decide ts us)

  conditions_decide : (p q : Presence) → Decides (same_conditions slots p q) (SameConditions by p q)
  conditions_decide (When ts) (When us) = tests_decide ts us
  conditions_decide (When ts) _ = so tt
  conditions_decide Always _ = so tt
  conditions_decide Bit _ = so tt

  slot_decides : (p q : SizeRule) → Decides (same_slot slots p q) (SameSlot by p q)
  slot_decides (Slot s) (Slot t) = answer_decides s t
  slot_decides (Slot s) _ = so tt
  slot_decides (Prefix low width) _ = so tt
  slot_decides (Ended p) _ = so tt

  chooser_decides : (cs : Alternatives) (p : ChoiceRule) (ds : Alternatives) (q : ChoiceRule) → Decides (same_chooser slots cs p ds q) (SameChooser by cs p ds q)
  chooser_decides cs Tests ds Tests = together_decides (same_case slots) (λ c d. SameTests by c.1 d.1) (λ c d. tests_decide c.1 d.1) (conditions_of cs) (conditions_of ds)
  chooser_decides cs (Item s) ds (Item t) = answer_decides s t
  chooser_decides cs Tests ds _ = so tt
  chooser_decides cs (Item s) ds _ = so tt
  chooser_decides cs (Index width) ds _ = so tt

  pub determinants_decide : (f g : Form) → Decides (same_determinants slots f g) (SameDeterminants by f g)
  determinants_decide (octets z) (octets y) = slot_decides z.rule y.rule
  determinants_decide (bits z) (bits y) = slot_decides z.rule y.rule
  determinants_decide (text l) (text m) = slot_decides l.sized.rule m.sized.rule
  determinants_decide (list z g) (list y h) = slot_decides z.rule y.rule
  determinants_decide (contained z g) (contained y h) = slot_decides z.rule y.rule
  determinants_decide (choice cs p) (choice ds q) = chooser_decides cs p ds q
  determinants_decide (seq fs home) (seq gs home') = both (pointwise (answer slots) home home') (together (same_field slots) (heads fs) (heads gs)) (homes_decide home home')
      (together_decides (same_field slots) (λ h k. BothSay h.slot k.slot × SameConditions by h.presence k.presence) (λ h k. both (both_say h.slot k.slot) (same_conditions slots h.presence k.presence) (say_decides h.slot k.slot) (conditions_decide h.presence k.presence)) (heads fs) (heads gs))
  determinants_decide (num l) _ = so tt
  determinants_decide (octets z) _ = so tt
  determinants_decide (bits z) _ = so tt
  determinants_decide (text l) _ = so tt
  determinants_decide (seq fs home) _ = so tt
  determinants_decide (list z g) _ = so tt
  determinants_decide (choice cs p) _ = so tt
  determinants_decide (contained z g) _ = so tt

-- Alternatives.

choose_decides : (p q : ChoiceRule) → Decides (both_choose p q) (BothChoose p q)
choose_decides (Index width) (Index width') = so tt
choose_decides Tests Tests = so tt
choose_decides (Item s) (Item t) = so tt
choose_decides (Index width) _ = not_so (λ e. e)
choose_decides Tests _ = not_so (λ e. e)
choose_decides (Item s) _ = not_so (λ e. e)

pub alternatives_decide : (f g : Form) → Decides (same_alternatives f g) (SameAlternatives f g)
alternatives_decide (choice cs p) (choice ds q) = both (both_choose p q) (nat_le (count_of cs) (count_of ds)) (choose_decides p q) (leb-true (count_of cs) (count_of ds), le-leb (count_of cs) (count_of ds))
alternatives_decide (num l) _ = so tt
alternatives_decide (octets z) _ = so tt
alternatives_decide (bits z) _ = so tt
alternatives_decide (text l) _ = so tt
alternatives_decide (seq fs home) _ = so tt
alternatives_decide (list z g) _ = so tt
alternatives_decide (choice cs p) _ = so tt
alternatives_decide (contained z g) _ = so tt
