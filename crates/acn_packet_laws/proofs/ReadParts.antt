-- What a reader meets, part by part: padding, values of numbers, strings, contents, conditions, presence bits and alternatives.
use Rattle.std.proofs.Common.{◌≡◌, ℕ, zero, suc, ◌+◌, ◌-◌, ◌*◌, ◌/◌, ◌%◌, ◌^◌, ◌<◌, ◌≤◌, ℤ, pos, negsuc, Bool, true, false, ◌&&◌, List, [], ◌∷◌, ◌++◌, length, Option, Some, None, refl, sym, ap, ◌∙◌, arith, inl, inr, ◌⊎◌, length-append, subst}
use Rattle.std.specs.Prelude.{slice_get, ◌≤ℤ◌, nat_lt}
use Rattle.std.specs.Ordering.{int_eq}
use Rattle.std.proofs.lemmas.Int.{ints}
use Rattle.std.proofs.lemmas.Bool.Decides.{nat_tests}
use Rattle.std.proofs.lemmas.Nat.{div-add-mod', mod-mul-add}
use Rattle.std.proofs.Math.Nat.{mod-lt, mod-eq_of_lt}
use Rattle.acn_num.specs.Bits.{number}
use Rattle.acn_num.specs.Ranges.{has}
use Rattle.acn_grammar.specs.Asks.{same_name}
use Rattle.acn_grammar.specs.Code.{Any, NumberOf}
use Rattle.acn_grammar.specs.Env.{Env, at_slot, Holds, AllHold, MayBeThere, MayBeAway}
use Rattle.acn_grammar.specs.Fails.{presence_count, IsThere, flags_behind, count_of, NoneChosen}
use Rattle.acn_grammar.specs.Grammar.{Grammar, Fields, Data, component, int, boolean, item, null, Alternatives, octets, bits, contained, no_alternatives, alternative, octet_string, bit_string}
use Rattle.acn_grammar.specs.LeafFails.{octet_values}
use Rattle.acn_grammar.specs.Leaves.{set_fine, is_range, no_items, items_fine}
use Rattle.acn_grammar.specs.Length.{padding, bit_before, number_of}
use Rattle.acn_grammar.specs.Scoped.{Known, Agree, PresenceIn}
use Rattle.acn_grammar.specs.Shaped.{are_octets}
use Rattle.acn_grammar.specs.Spell.{Padding, SizePart, Spell, FormPart, Chosen}
use Rattle.acn_grammar.specs.declared.node.NumKind.{NumKind}
use Rattle.acn_grammar.specs.declared.node.NumKind.TheVariants.{Integer, Boolean, Enumerated, Null}
use Rattle.acn_grammar.specs.declared.node.NumLeaf.{NumLeaf}
use Rattle.acn_grammar.specs.declared.node.Presence.{Presence}
use Rattle.acn_grammar.specs.declared.node.Presence.TheVariants.{Always, Bit, When}
use Rattle.acn_grammar.specs.declared.node.Test.{Test}
use Rattle.acn_grammar.specs.declared.node.Test.TheVariants.{Flag, Equals}
use Rattle.acn_packet_laws.proofs.Moves.{there_moves}
use Rattle.std.proofs.lemmas.Bool.{and_parts}
use Rattle.acn_grammar.specs.Slots.{items_of}
use Rattle.acn_grammar.specs.declared.node.ChoiceRule.{ChoiceRule}
use Rattle.acn_grammar.specs.declared.node.ChoiceRule.TheVariants.{Index, Tests, Item}
use Rattle.acn_grammar.specs.declared.node.Sizing.{Sizing}
use Rattle.acn_packet_laws.proofs.LeafTotal.{octets_whole}
use Rattle.acn_num.proofs.BitLists.{number_below}
use Rattle.acn_grammar.proofs.HasImage.{range_within}

-- Padding.

pub pad_is : (align at : ℕ) → 0 < align → ((at + padding align at) % align ≡ 0) × (padding align at < align)
pad_is align at some = by (at % align) refl
  where
    whole : at / align * align + at % align ≡ at
    whole = div-add-mod' at align

    by : (r : ℕ) → at % align ≡ r → ((at + (align - at % align) % align) % align ≡ 0) × ((align - at % align) % align < align)
    by zero e =
        let none : (align - at % align) % align ≡ 0 = ap (λ m. m % align) (omega (arith, e)) ∙ mod-mul-add 1 align 0 some in
        (ap (λ m. m % align) (omega (arith, none)) ∙ e, omega (arith, none, some))
    by (suc r) e =
        let low : at % align < align = mod-lt at some in
        let rest : (align - at % align) % align ≡ align - at % align = mod-eq_of_lt (omega (arith, e, some)) in
        (ap (λ m. m % align) (omega (arith, rest, low, whole, more (at / align) align)) ∙ mod-mul-add (at / align + 1) align 0 some, omega (arith, rest, e, some))
      where
        more : (q a : ℕ) → (q + 1) * a ≡ q * a + a
        more q a = omega (arith, Rattle.std.proofs.Math.Nat.add-mul q 1 a)

pub padded : (align at : ℕ) → 0 < align → (bs : List Bool) → length bs ≡ padding align at → Padding Any align at bs
padded align at some bs l = (let p = pad_is align at some in record { aligned = ap (λ n. (at + n) % align) l ∙ p.0; fewest = omega (arith, l, p.1); zeros = λ e. cc })

-- Values of numbers.

pub bit_of : (x : ℤ) → pos 0 ≤ℤ x → x ≤ℤ pos 1 → (d : Data) × NumberOf Boolean d x
bit_of (pos zero) a b = (boolean false, refl)
bit_of (pos (suc zero)) a b = (boolean true, refl)
bit_of (pos (suc (suc n))) a b = absurd (omega (arith, ints))
bit_of (negsuc n) a b = absurd (omega (arith, ints))

pub item_of : (x : ℤ) → pos 0 ≤ℤ x → (d : Data) × NumberOf Enumerated d x
item_of (pos i) a = (item i, refl)
item_of (negsuc n) a = absurd (omega (arith, ints))

pub zero_of : (x : ℤ) → pos 0 ≤ℤ x → x ≤ℤ pos 0 → x ≡ pos 0
zero_of x a b = omega (arith, ints)

pub value_by : (leaf : NumLeaf) (kind : NumKind) (x : ℤ) → set_fine kind leaf.coding leaf.items leaf.table leaf.set ≡ true → has leaf.set x ≡ true → (d : Data) × NumberOf kind d x
value_by leaf Integer x h p = (int x, refl)
value_by leaf Boolean x h p = (let r = range_within (pos 0) (pos 1) leaf.set x (and_parts (is_range (pos 0) (pos 1) leaf.set) (no_items leaf.items) h).0 p in bit_of x r.0 r.1)
value_by leaf Null x h p = (let r = range_within (pos 0) (pos 0) leaf.set x (and_parts (is_range (pos 0) (pos 0) leaf.set) (no_items leaf.items) h).0 p in (null, zero_of x r.0 r.1))
value_by leaf Enumerated x h p =
    let f = and_parts (nat_lt 0 (length leaf.items.items)) (is_range (pos 0) (pos (length leaf.items.items - 1)) leaf.set && items_fine leaf.coding leaf.items) h in
    let r = range_within (pos 0) (pos (length leaf.items.items - 1)) leaf.set x (and_parts (is_range (pos 0) (pos (length leaf.items.items - 1)) leaf.set) (items_fine leaf.coding leaf.items) f.1).0 p in
    item_of x r.0

pub number_is : (kind : NumKind) (d : Data) (x : ℤ) → NumberOf kind d x → number_of d ≡ x
number_is Integer (int y) x h = sym h
number_is Boolean (boolean true) x h = sym h
number_is Boolean (boolean false) x h = sym h
number_is Enumerated (item i) x h = sym h
number_is Null null x h = sym h
number_is _ _ x h = absurd h

pub null_is : (d : Data) (x : ℤ) → NumberOf Null d x → d ≡ null
null_is null x h = refl
null_is _ x h = absurd h

-- Octets.

pub octets_count : (k : ℕ) (bs : List Bool) → length bs ≡ 8 * k → length (octet_values bs) ≡ k
octets_count zero [] l = refl
octets_count zero (x ∷ bs) l = absurd (omega arith)
octets_count (suc k) (a ∷ b ∷ c ∷ d ∷ e ∷ f ∷ g ∷ h ∷ rest) l = ap suc (octets_count k rest (omega arith))
octets_count (suc k) _ l = absurd (omega arith)

pub octets_are : (k : ℕ) (bs : List Bool) → length bs ≡ 8 * k → are_octets (octet_values bs) ≡ true
octets_are zero [] l = refl
octets_are zero (x ∷ bs) l = absurd (omega arith)
octets_are (suc k) (a ∷ b ∷ c ∷ d ∷ e ∷ f ∷ g ∷ h ∷ rest) l = both (nat_lt (number (a ∷ b ∷ c ∷ d ∷ e ∷ f ∷ g ∷ h ∷ [])) 256) (are_octets (octet_values rest)) (small (number (a ∷ b ∷ c ∷ d ∷ e ∷ f ∷ g ∷ h ∷ [])) (number_below (a ∷ b ∷ c ∷ d ∷ e ∷ f ∷ g ∷ h ∷ []))) (octets_are k rest (omega arith))
  where
    small : (n : ℕ) → n < 2 ^ 8 → nat_lt n 256 ≡ true
    small n h = grind (arith, nat_tests)

    both : (a b : Bool) → a ≡ true → b ≡ true → (a && b) ≡ true
    both true b h k = k
    both false b h k = cc
octets_are (suc k) _ l = absurd (omega arith)

-- Conditions.

pub int_or_not : (x y : ℤ) → (x ≡ y) ⊎ (x ≡ y → ⊥)
int_or_not x y = by (int_eq x y) refl
  where
    is : int_eq x y ≡ true → x ≡ y
    is h = Rattle.acn_grammar.proofs.WholeTests.eq_fact x y h

    differ : int_eq x y ≡ false → x ≡ y → ⊥
    differ h e = absurd (grind (arith, ints, nat_tests))

    by : (t : Bool) → int_eq x y ≡ t → (x ≡ y) ⊎ (x ≡ y → ⊥)
    by true e = inl (is e)
    by false e = inr (differ e)

pub some_or_not : (o : Option ℤ) (y : ℤ) → (o ≡ Some y) ⊎ (o ≡ Some y → ⊥)
some_or_not None y = inr (λ e. cc)
some_or_not (Some x) y = by (int_or_not x y)
  where
    by : (x ≡ y) ⊎ (x ≡ y → ⊥) → (Some x ≡ Some y) ⊎ (Some x ≡ Some y → ⊥)
    by (inl e) = inl (ap Some e)
    by (inr e) = inr (λ h. e cc)

pub holds_or_not : (env : Env) (t : Test) → Holds env t ⊎ (Holds env t → ⊥)
holds_or_not env (Flag s) = some_or_not (at_slot env s) (pos 1)
holds_or_not env (Equals s k) = some_or_not (at_slot env s) k

pub all_or_not : (env : Env) (ts : List Test) → AllHold env ts ⊎ (AllHold env ts → ⊥)
all_or_not env [] = inl tt
all_or_not env (t ∷ ts) = by (holds_or_not env t) (all_or_not env ts)
  where
    by : Holds env t ⊎ (Holds env t → ⊥) → AllHold env ts ⊎ (AllHold env ts → ⊥) → (Holds env t × AllHold env ts) ⊎ (Holds env t × AllHold env ts → ⊥)
    by (inl a) (inl b) = inl (a, b)
    by (inr a) b = inr (λ h. a h.0)
    by (inl a) (inr b) = inr (λ h. b h.1)

pub there_or_not : (env : Env) (presence : Presence) (flags : List Bool) → IsThere env presence flags ⊎ (IsThere env presence flags → ⊥)
there_or_not env Always flags = inl tt
there_or_not env Bit [] = inr (λ h. h)
there_or_not env Bit (true ∷ flags) = inl tt
there_or_not env Bit (false ∷ flags) = inr (λ h. h)
there_or_not env (When ts) flags = all_or_not env ts

pub may_be_there : (env : Env) (presence : Presence) (flags : List Bool) → IsThere env presence flags → MayBeThere env presence
may_be_there env Always flags h = tt
may_be_there env Bit flags h = tt
may_be_there env (When ts) flags h = h

pub may_be_away : (env : Env) (presence : Presence) (flags : List Bool) → (IsThere env presence flags → ⊥) → MayBeAway env presence
may_be_away env Always flags h = h tt
may_be_away env Bit flags h = tt
may_be_away env (When ts) flags h = h

pub is_there_moves : (root : Grammar) (presence : Presence) (flags : List Bool) (ks : Known) → PresenceIn ks presence → (env env' : Env) → Agree ks env env' → IsThere env presence flags → IsThere env' presence flags
is_there_moves root Always flags ks known env env' a h = tt
is_there_moves root Bit (true ∷ flags) ks known env env' a h = tt
is_there_moves root Bit (false ∷ flags) ks known env env' a h = absurd h
is_there_moves root Bit [] ks known env env' a h = absurd h
is_there_moves root (When ts) flags ks known env env' a h = there_moves root (When ts) ks known env env' a h

pub flags_there : (presence : Presence) (env : Env) (flags bs : List Bool) → IsThere env presence flags → bs ≡ flags_behind presence flags → bit_before presence true bs ≡ flags
flags_there Always env flags bs h e = e
flags_there (When ts) env flags bs h e = e
flags_there Bit env (true ∷ flags) bs h e = ap (λ z. true ∷ z) e
flags_there Bit env (false ∷ flags) bs h e = absurd h
flags_there Bit env [] bs h e = absurd h

abbrev pub bit_count : Presence → ℕ
bit_count Bit = 1
bit_count _ = 0

pub flags_away : (presence : Presence) (env : Env) (flags bs : List Bool) → bit_count presence ≤ length flags → (IsThere env presence flags → ⊥) → bs ≡ flags_behind presence flags → bit_before presence false bs ≡ flags
flags_away Always env flags bs l h e = e
flags_away (When ts) env flags bs l h e = e
flags_away Bit env (true ∷ flags) bs l h e = absurd (h tt)
flags_away Bit env (false ∷ flags) bs l h e = ap (λ z. false ∷ z) e
flags_away Bit env [] bs l h e = absurd (omega arith)

pub flags_left : (presence : Presence) (name : List ℕ) (g : Grammar) (default : Option (List ℕ)) (own : Option ℕ) (fs : Fields) (flags : List Bool) → length flags ≡ presence_count (component name g presence default own fs) → (bit_count presence ≤ length flags) × (length (flags_behind presence flags) ≡ presence_count fs)
flags_left Always name g default own fs flags l = (omega arith, l)
flags_left (When ts) name g default own fs flags l = (omega arith, l)
flags_left Bit name g default own fs [] l = absurd (omega arith)
flags_left Bit name g default own fs (b ∷ flags) l = (omega arith, omega arith)

pub name_or_not : (items : List (List ℕ × ℤ)) (i : ℕ) (name : List ℕ) → ((x : ℤ) × (slice_get items i ≡ Some (name, x))) ⊎ (((x : ℤ) × (slice_get items i ≡ Some (name, x))) → ⊥)
name_or_not [] i name = inr (λ h. let e = h.1 in cc)
name_or_not (e ∷ items) (suc i) name = name_or_not items i name
name_or_not (e ∷ items) zero name = by (same_name e.0 name) refl
  where
    by : (t : Bool) → same_name e.0 name ≡ t → ((x : ℤ) × (Some e ≡ Some (name, x))) ⊎ (((x : ℤ) × (Some e ≡ Some (name, x))) → ⊥)
    by true q = inl (e.1, ap (λ (n : List ℕ). Some (n, e.1)) (Rattle.acn_grammar.proofs.Characters.same_name-is e.0 name q))
    by false q = inr (λ h. differ (h.0) h.1)
      where
        one : (x y : List ℕ × ℤ) → Some x ≡ Some y → x ≡ y
        one x y h = cc

        differ : (x : ℤ) → Some e ≡ Some (name, x) → ⊥
        differ x h = (let s : e.0 ≡ name = ap (λ z. z.0) (one e (name, x) h) in let t = Rattle.acn_grammar.proofs.Characters.same_name-refl name in let u : same_name e.0 name ≡ true = ap (λ (n : List ℕ). same_name n name) s ∙ t in cc)

module _ (root : Grammar) where
  -- Strings and contents.

  pub octets_make : (sizing : Sizing) (env : Env) (at n : ℕ) (bs : List Bool) → length bs ≡ 8 * n → (d : Data) × ((front : List Bool) → SizePart sizing env n at front → FormPart root Any (octets sizing) env d at (front ++ bs))
  octets_make sizing env at n bs l = (
    octet_string (octet_values bs),
    λ front s. record {
      front = front;
      back = bs;
      whole = refl;
      first = subst (λ (m : ℕ). SizePart sizing env m at front) (sym (octets_count n bs l)) s;
      second = record { given = octets_are n bs l; spelled = sym (octets_whole n bs l) };
    },
  )

  pub bits_make : (sizing : Sizing) (env : Env) (at n : ℕ) (bs : List Bool) → length bs ≡ 1 * n → (d : Data) × ((front : List Bool) → SizePart sizing env n at front → FormPart root Any (bits sizing) env d at (front ++ bs))
  bits_make sizing env at n bs l =
      (bit_string bs, λ front s. record { front = front; back = bs; whole = refl; first = subst (λ (m : ℕ). SizePart sizing env m at front) (omega arith) s; second = refl })

  -- octets round a content, which leaves fewer than eight bits
  pub content_makes : (sizing : Sizing) (g : Grammar) (env : Env) (d : Data) (at n : ℕ) (front window inner left : List Bool) → SizePart sizing env n at front → length window ≡ 8 * n → window ≡ inner ++ left → Spell root Any g env d 0 inner → length left < 8 → FormPart root Any (contained sizing g) env d at (front ++ window)
  content_makes sizing g env d at n front window inner left size l e spelled few = record {
    some = n;
    spelled = record {
      front = front;
      back = window;
      whole = refl;
      first = size;
      second = record { size = l; inside = record { front = inner; back = left; whole = e; first = spelled; second = record { aligned = filled_up (length inner) (length left) (sym (ap length e ∙ length-append inner left) ∙ l); few = few; zeros = λ z. cc } } };
    };
  }
    where
      filled_up : (a b : ℕ) → a + b ≡ 8 * n → ((0 + a) + b) % 8 ≡ 0
      filled_up a b h = omega (arith, h)

  -- Alternatives.

  -- what chooses alternative i chooses it
  abbrev pub ChosenAt : Alternatives → ChoiceRule → Env → ℕ → Type 0
  ChosenAt no_alternatives rule env i = ⊥
  ChosenAt (alternative name g tests more) rule env zero = Chosen root rule env name tests
  ChosenAt (alternative name g tests more) rule env (suc i) = ChosenAt more rule env i

  pub index_chosen : (cases : Alternatives) (width : ℕ) (env : Env) (i : ℕ) → i < count_of cases → ChosenAt cases (Index width) env i
  index_chosen no_alternatives width env i h = absurd (omega arith)
  index_chosen (alternative name g tests more) width env zero h = tt
  index_chosen (alternative name g tests more) width env (suc i) h = index_chosen more width env i (omega arith)

  pub item_chosen : (env : Env) (s : ℕ) (name : List ℕ) (o : Option ℤ) → at_slot env s ≡ o → Chosen root (Item s) env name [] ⊎ (Chosen root (Item s) env name [] → ⊥)
  item_chosen env s name None e = inr (λ c. let h = c.2 in cc)
  item_chosen env s name (Some (negsuc n)) e = inr (λ c. let h = c.2 in cc)
  item_chosen env s name (Some (pos i)) e = by (name_or_not (items_of root s) i name)
    where
      by : ((x : ℤ) × (slice_get (items_of root s) i ≡ Some (name, x))) ⊎ (((x : ℤ) × (slice_get (items_of root s) i ≡ Some (name, x))) → ⊥) → Chosen root (Item s) env name [] ⊎ (Chosen root (Item s) env name [] → ⊥)
      by (inl h) = inl (i, h.0, e, h.1)
      by (inr h) = inr (λ c. h (c.1, ap (slice_get (items_of root s)) (same_index i c.0 (sym e ∙ c.2)) ∙ c.3))
        where
          same_index : (i j : ℕ) → Some (pos i) ≡ Some (pos j) → i ≡ j
          same_index i j q = cc

  pub chosen_or_not : (rule : ChoiceRule) (env : Env) (name : List ℕ) (tests : List Test) → Chosen root rule env name tests ⊎ (Chosen root rule env name tests → ⊥)
  chosen_or_not (Index width) env name tests = inl tt
  chosen_or_not Tests env name tests = all_or_not env tests
  chosen_or_not (Item s) env name tests = item_chosen env s name (at_slot env s) refl

  pub choose : (cases : Alternatives) (rule : ChoiceRule) (env : Env) → ((i : ℕ) × ChosenAt cases rule env i) ⊎ NoneChosen root cases rule env
  choose no_alternatives rule env = inr tt
  choose (alternative name g tests more) rule env = by (chosen_or_not rule env name tests) (choose more rule env)
    where
      by : Chosen root rule env name tests ⊎ (Chosen root rule env name tests → ⊥) → ((i : ℕ) × ChosenAt more rule env i) ⊎ NoneChosen root more rule env → ((i : ℕ) × ChosenAt (alternative name g tests more) rule env i) ⊎ NoneChosen root (alternative name g tests more) rule env
      by (inl c) r = inl (zero, c)
      by (inr c) (inl r) = inl (suc r.0, r.1)
      by (inr c) (inr r) = inr (c, r)
