-- Every input begins with a text, or the text fails: characters, and texts with a size.
use Rattle.std.proofs.Common.{◌≡◌, ℕ, zero, suc, ◌+◌, ◌-◌, ◌*◌, ◌^◌, ◌<◌, ◌≤◌, ℤ, pos, negsuc, ◌+ℤ◌, Bool, true, false, not, ◌&&◌, ◌||◌, List, [], ◌∷◌, ◌++◌, length, take, drop, Option, Some, None, refl, sym, ap, ◌∙◌, arith, append_assoc, take-append-drop, inl, inr, ◌⊎◌, nat_eq, nat_lt, subst}
use Rattle.std.specs.Prelude.{◌≤ℤ◌, ◌-ℤ◌, int_le, int_lt, nat_abs, if◌then◌else◌}
use Rattle.std.proofs.lemmas.Int.{ints}
use Rattle.std.proofs.lemmas.Bool.Decides.{nat_tests}
use Rattle.std.proofs.lemmas.List.{length-take-le, length-drop}
use Rattle.acn_num.specs.Bits.{number}
use Rattle.acn_num.specs.Ranges.{In, has, are_ranges, are_ranges_above, all_within, greatest, count}
use Rattle.acn_grammar.specs.Env.{Env}
use Rattle.acn_grammar.specs.Fails.{Here, Fault, SizeFails, NoText, CharactersFail, TextFails, fails_at_size, fails_behind_size, characters_cut, characters_not_permitted}
use Rattle.acn_grammar.specs.Interval.{size_of}
use Rattle.acn_grammar.specs.LeafFails.{short, bad_character}
use Rattle.acn_grammar.specs.Leaves.{width_fine, holds_characters, same_truth, is_beyond}
use Rattle.acn_grammar.specs.Spell.{CharactersPart, SizePart, EndedPart, character_number, place_in}
use Rattle.acn_grammar.specs.declared.node.TextLeaf.{TextLeaf}
use Rattle.acn_grammar.proofs.SpanLaw.{size_has}
use Rattle.acn_packet_laws.proofs.Envs.{FrontOf, Stuck, says, in_or_not, ASize}
use Rattle.acn_packet_laws.proofs.Exclusion.{take_n, drop_n}
use Rattle.acn_packet_laws.proofs.LeafTotal.{is_or_not}
use Rattle.acn_packet_laws.proofs.Moves.{or_either}
use Rattle.std.proofs.lemmas.Bool.{and_parts, eqb-true}
use Rattle.acn_grammar.proofs.WholeTests.{le_self}
use Rattle.acn_grammar.proofs.TextRules.{small_character}
use Rattle.acn_grammar.proofs.FirstPlaces.{less_or_not}

abbrev pub IsChar : TextLeaf → ℕ → ℕ → Type 0
IsChar leaf v c = (has leaf.alphabet (pos c) ≡ true) × (character_number leaf c ≡ v)

char_below : (leaf : TextLeaf) (v n : ℕ) → ((c : ℕ) × IsChar leaf v c) ⊎ ((c : ℕ) → c < n → IsChar leaf v c → ⊥)
char_below leaf v zero = inr (λ c h i. absurd (omega arith))
char_below leaf v (suc n) = by (char_below leaf v n) (in_or_not leaf.alphabet (pos n)) (is_or_not (character_number leaf n) v)
  where
    last : ((c : ℕ) → c < n → IsChar leaf v c → ⊥) → (IsChar leaf v n → ⊥) → (c : ℕ) → c < suc n → IsChar leaf v c → ⊥
    last f g c h i = at (less_or_not c n)
      where
        at : (c < n) ⊎ (n ≤ c) → ⊥
        at (inl k) = f c k i
        at (inr k) = g (subst (IsChar leaf v) (same c n h k) i)
          where
            same : (c n : ℕ) → c < suc n → n ≤ c → c ≡ n
            same c n h k = omega arith

    by : ((c : ℕ) × IsChar leaf v c) ⊎ ((c : ℕ) → c < n → IsChar leaf v c → ⊥) → In leaf.alphabet (pos n) ⊎ (In leaf.alphabet (pos n) → ⊥) → (character_number leaf n ≡ v) ⊎ (character_number leaf n ≡ v → ⊥) → ((c : ℕ) × IsChar leaf v c) ⊎ ((c : ℕ) → c < suc n → IsChar leaf v c → ⊥)
    by (inl f) a b = inl f
    by (inr f) (inl a) (inl b) = inl (n, (a, b))
    by (inr f) (inr a) b = inr (last f (λ i. a i.0))
    by (inr f) (inl a) (inr b) = inr (last f (λ i. b i.1))

char_or_not : (leaf : TextLeaf) → all_within (pos 0) (pos 127) leaf.alphabet ≡ true → (v : ℕ) → ((c : ℕ) × IsChar leaf v c) ⊎ ((c : ℕ) → IsChar leaf v c → ⊥)
char_or_not leaf within v = by (char_below leaf v 128)
  where
    by : ((c : ℕ) × IsChar leaf v c) ⊎ ((c : ℕ) → c < 128 → IsChar leaf v c → ⊥) → ((c : ℕ) × IsChar leaf v c) ⊎ ((c : ℕ) → IsChar leaf v c → ⊥)
    by (inl f) = inl f
    by (inr f) = inr (λ c i. f c (small_character leaf.alphabet c within i.0) i)

-- characters, as many as the bits have
pub chars_total : (leaf : TextLeaf) → all_within (pos 0) (pos 127) leaf.alphabet ≡ true → (leaf.width ≡ 0 → (c : ℕ) × IsChar leaf 0 c) → (n : ℕ) (bs : List Bool) → length bs ≡ leaf.width * n
    → ((cs : List ℕ) × (length cs ≡ n) × ((at : ℕ) → CharactersPart leaf cs at bs)) ⊎ NoText leaf bs
chars_total leaf within some zero [] l = inl ([], refl, λ at. refl)
chars_total leaf within some zero (x ∷ bs) l = absurd (omega arith)
chars_total leaf within some (suc n) bs l = by (char_or_not leaf within (number (take leaf.width bs))) (chars_total leaf within some n (drop leaf.width bs) (left (length (drop leaf.width bs)) (length bs) leaf.width (length-drop leaf.width bs) l))
  where
    left : (d b w : ℕ) → d ≡ b - w → b ≡ w * suc n → d ≡ w * n
    left d b w h k = omega (arith, h, k, Rattle.std.proofs.Math.Nat.mul-suc w n)

    long : leaf.width ≤ length bs
    long = omega (arith, l, Rattle.std.proofs.Math.Nat.mul-suc leaf.width n)

    empty : bs ≡ [] → leaf.width ≡ 0
    empty e = omega (arith, l, ap length e, Rattle.std.proofs.Math.Nat.mul-suc leaf.width n)

    nothing : (bs : List Bool) (w : ℕ) → bs ≡ [] → drop w bs ≡ []
    nothing [] zero e = refl
    nothing [] (suc w) e = refl
    nothing (x ∷ bs) w e = cc

    no_number : (bs : List Bool) (w : ℕ) → w ≡ 0 → number (take w bs) ≡ 0
    no_number bs zero e = refl
    no_number bs (suc w) e = cc

    by : ((c : ℕ) × IsChar leaf (number (take leaf.width bs)) c) ⊎ ((c : ℕ) → IsChar leaf (number (take leaf.width bs)) c → ⊥) → ((cs : List ℕ) × (length cs ≡ n) × ((at : ℕ) → CharactersPart leaf cs at (drop leaf.width bs))) ⊎ NoText leaf (drop leaf.width bs)
        → ((cs : List ℕ) × (length cs ≡ suc n) × ((at : ℕ) → CharactersPart leaf cs at bs)) ⊎ NoText leaf bs
    by (inl c) (inl r) =
        inl (
          c.0 ∷ r.0,
          ap suc r.1,
          λ at. record {
            front = take leaf.width bs;
            back = drop leaf.width bs;
            whole = sym (take-append-drop leaf.width bs);
            first = record { given = c.1.0; spelled = record { width = length-take-le leaf.width bs long; value = sym c.1.1 } };
            second = r.2 (at + length (take leaf.width bs));
          },
        )
    by (inl c) (inr other) = inr gone
      where
        gone : (cs : List ℕ) (at : ℕ) → CharactersPart leaf cs at bs → ⊥
        gone [] at t = other [] 0 (nothing bs leaf.width t)
        gone (x ∷ cs) at t = other cs (at + length t.front) (subst (CharactersPart leaf cs (at + length t.front)) (sym (ap (drop leaf.width) t.whole ∙ drop_n leaf.width t.front t.back t.first.spelled.width)) t.second)
    by (inr c) r = inr gone
      where
        gone : (cs : List ℕ) (at : ℕ) → CharactersPart leaf cs at bs → ⊥
        gone [] at t = (let w = empty t in let z = some w in c z.0 (z.1.0, z.1.1 ∙ sym (no_number bs leaf.width w)))
        gone (x ∷ cs) at t = c x (t.first.given, sym t.first.spelled.value ∙ ap number (sym (ap (take leaf.width) t.whole ∙ take_n leaf.width t.front t.back t.first.spelled.width)))

-- With no bits there is one character.

wider : (rs : List (ℤ × ℤ)) → all_within (pos 0) (pos 127) rs ≡ true → all_within (pos 0) (pos 65536) rs ≡ true
wider [] h = refl
wider (r ∷ rs) h =
    let f = and_parts (int_le (pos 0) r.0) (int_le r.1 (pos 127) && all_within (pos 0) (pos 127) rs) h in
    let g = and_parts (int_le r.1 (pos 127)) (all_within (pos 0) (pos 127) rs) f.1 in
    all (int_le (pos 0) r.0) (int_le r.1 (pos 65536)) (all_within (pos 0) (pos 65536) rs) f.0 (top r.1 g.0) (wider rs g.1)
  where
    top : (a : ℤ) → int_le a (pos 127) ≡ true → int_le a (pos 65536) ≡ true
    top a h = grind (arith, ints, nat_tests)

    all : (a b c : Bool) → a ≡ true → b ≡ true → c ≡ true → (a && (b && c)) ≡ true
    all true true c h k m = m
    all true false c h k m = cc
    all false b c h k m = cc

record First (rs : List (ℤ × ℤ)) : Type 0 where
  least : ℕ
  there : has rs (pos least) ≡ true
  place : place_in rs (pos least) ≡ 0

first_of : (rs : List (ℤ × ℤ)) → nat_lt 0 (length rs) ≡ true → are_ranges rs ≡ true → all_within (pos 0) (pos 127) rs ≡ true → First rs
first_of [] some order within = cc
first_of ((negsuc n, b) ∷ rs) some order within = cc
first_of ((pos n, b) ∷ rs) some order within =
    let le : int_le (pos n) b ≡ true = (and_parts (int_le (pos n) b) (are_ranges_above (b +ℤ pos 1) rs) order).0 in
    record { least = n; there = or_true (le_self (pos n)) le; place = at_first le }
  where
    or_true : int_le (pos n) (pos n) ≡ true → int_le (pos n) b ≡ true → ((int_le (pos n) (pos n) && int_le (pos n) b) || has rs (pos n)) ≡ true
    or_true h k = rw (h, k) refl

    none_off : (x : ℤ) → nat_abs (x -ℤ x) ≡ 0
    none_off x = omega (arith, ints)

    at_first : int_le (pos n) b ≡ true → (if int_le (pos n) b then nat_abs (pos n -ℤ pos n) else nat_abs (b -ℤ pos n) + 1 + place_in rs (pos n)) ≡ 0
    at_first h = ap (λ (t : Bool). if t then nat_abs (pos n -ℤ pos n) else nat_abs (b -ℤ pos n) + 1 + place_in rs (pos n)) h ∙ none_off (pos n)

pub one_char : (leaf : TextLeaf) → nat_lt 0 (length leaf.alphabet) ≡ true → are_ranges leaf.alphabet ≡ true → all_within (pos 0) (pos 127) leaf.alphabet ≡ true → width_fine leaf ≡ true → leaf.width ≡ 0 → (c : ℕ) × IsChar leaf 0 c
one_char leaf some order within fine w = wide (or_either (nat_eq leaf.width 8 && not leaf.indexed) (holds_characters (count leaf.alphabet) leaf.width && same_truth leaf.indexed (is_beyond leaf.width (greatest leaf.alphabet))) fine)
  where
    first : First leaf.alphabet
    first = first_of leaf.alphabet some order within

    small : (o : Option ℤ) (n : ℕ) → not (is_beyond 0 o) ≡ true → n ≤ size_of o → n ≡ 0
    small None n h k = omega arith
    small (Some (pos m)) n h k = below m n (one m h) k
      where
        one : (m : ℕ) → not (int_le (pos (2 ^ 0)) (pos m)) ≡ true → m < 1
        one m h = grind (arith, ints, nat_tests)

        below : (m n : ℕ) → m < 1 → n ≤ Rattle.std.specs.Prelude.min m 65536 → n ≡ 0
        below m n h k = omega (arith, h, k)
    small (Some (negsuc m)) n h k = omega arith

    three : (a b c : Bool) → a ≡ true → b ≡ true → c ≡ true → (a && (b && c)) ≡ true
    three true true c h k m = m
    three true false c h k m = cc
    three false b c h k m = cc

    at_most : first.least ≤ size_of (greatest leaf.alphabet)
    at_most = (size_has leaf.alphabet first.least (three (nat_lt 0 (length leaf.alphabet)) (are_ranges leaf.alphabet) (all_within (pos 0) (pos 65536) leaf.alphabet) some order (wider leaf.alphabet within)) first.there).1

    by : (t : Bool) → leaf.indexed ≡ t → same_truth t (is_beyond leaf.width (greatest leaf.alphabet)) ≡ true → (c : ℕ) × IsChar leaf 0 c
    by true e h = (first.least, (first.there, ap (λ (t : Bool). if t then place_in leaf.alphabet (pos first.least) else first.least) e ∙ first.place))
    by false e h = (first.least, (first.there, ap (λ (t : Bool). if t then place_in leaf.alphabet (pos first.least) else first.least) e ∙ small (greatest leaf.alphabet) first.least (subst (λ (n : ℕ). not (is_beyond n (greatest leaf.alphabet)) ≡ true) w h) at_most))

    wide : ((nat_eq leaf.width 8 && not leaf.indexed) ≡ true) ⊎ ((holds_characters (count leaf.alphabet) leaf.width && same_truth leaf.indexed (is_beyond leaf.width (greatest leaf.alphabet))) ≡ true) → (c : ℕ) × IsChar leaf 0 c
    wide (inl h) = absurd (let e = eqb-true leaf.width 8 (and_parts (nat_eq leaf.width 8) (not leaf.indexed) h).0 in omega arith)
    wide (inr h) = by leaf.indexed refl (and_parts (holds_characters (count leaf.alphabet) leaf.width) (same_truth leaf.indexed (is_beyond leaf.width (greatest leaf.alphabet))) h).1

-- Texts with a size.

abbrev pub Result : Here → Option (List Bool) → TextLeaf → Env → ℕ → List Bool → Type 0
Result here end leaf env at rest = ((cs : List ℕ) × FrontOf (EndedPart end leaf env cs) at rest) ⊎ Stuck (TextFails here end leaf env) at rest

pub sized_total : (here : Here) (leaf : TextLeaf) → all_within (pos 0) (pos 127) leaf.alphabet ≡ true → (leaf.width ≡ 0 → (c : ℕ) × IsChar leaf 0 c) → (env : Env) (at : ℕ) (rest : List Bool) → ASize leaf.sized env at rest ⊎ Stuck (SizeFails here leaf.sized env) at rest → Result here None leaf env at rest
sized_total here leaf within some env at rest (inr f) = inr (f.0, f.1, fails_at_size f.2)
sized_total here leaf within some env at rest (inl s) = by (less_or_not (length s.front.back) (leaf.width * s.n))
  where
    stuck : (fault : Fault) (reach : ℕ) → CharactersFail here leaf s.n (at + length s.front.front) s.front.back fault reach → Result here None leaf env at rest
    stuck fault reach f = inr (fault, length s.front.front + reach, fails_behind_size (record { n = s.n; behind = record { front = s.front.front; back = s.front.back; whole = s.front.whole; spelled = s.front.spelled; more = reach; fails = f; reaches = refl } }))

    read : leaf.width * s.n ≤ length s.front.back → ((cs : List ℕ) × (length cs ≡ s.n) × ((at' : ℕ) → CharactersPart leaf cs at' (take (leaf.width * s.n) s.front.back))) ⊎ NoText leaf (take (leaf.width * s.n) s.front.back) → Result here None leaf env at rest
    read h (inr n) = stuck (says here bad_character) (leaf.width * s.n) (characters_not_permitted (h, n, refl, refl))
    read h (inl c) = inl (
      c.0,
      record {
        front = s.front.front ++ take (leaf.width * s.n) s.front.back;
        back = drop (leaf.width * s.n) s.front.back;
        whole = s.front.whole ∙ (ap (λ z. s.front.front ++ z) (sym (take-append-drop (leaf.width * s.n) s.front.back)) ∙ sym (append_assoc s.front.front (take (leaf.width * s.n) s.front.back) (drop (leaf.width * s.n) s.front.back)));
        spelled = record {
          front = s.front.front;
          back = take (leaf.width * s.n) s.front.back;
          whole = refl;
          first = subst (λ (m : ℕ). SizePart leaf.sized env m at s.front.front) (sym c.1) s.front.spelled;
          second = c.2 (at + length s.front.front);
        };
      },
    )

    by : (length s.front.back < leaf.width * s.n) ⊎ (leaf.width * s.n ≤ length s.front.back) → Result here None leaf env at rest
    by (inl h) = stuck (says here short) (length s.front.back) (characters_cut (h, refl, refl))
    by (inr h) = read h (chars_total leaf within some s.n (take (leaf.width * s.n) s.front.back) (length-take-le (leaf.width * s.n) s.front.back h))
