-- Texts up to their ends.
use Rattle.std.proofs.Common.{◌≡◌, ℕ, zero, suc, ◌+◌, ◌-◌, ◌*◌, ◌/◌, ◌%◌, ◌^◌, ◌<◌, ◌≤◌, pos, Bool, true, false, List, [], ◌∷◌, ◌++◌, length, take, drop, Option, Some, None, refl, sym, ap, ◌∙◌, subst, arith, length-drop, inl, inr, ◌&&◌}
use Rattle.std.specs.Prelude.{◌⊎◌, Result, Ok, Err, IfOk, IfErr, OnOk}
use Rattle.std.specs.List.{list_all}
use Rattle.std.proofs.lemmas.List.{length-take, length-take-le, drop-drop}
use Rattle.std.proofs.Math.Seq.{take-add}
use Rattle.acn_num.specs.Bits.{number}
use Rattle.acn_num.specs.Ranges.{In, has, greatest}
use Rattle.acn_bits.specs.Reading.{Reading, passed, Stays}
use Rattle.acn_num.proofs.BitLists.{number_same, number_below}
use Rattle.acn_grammar.specs.Fails.{Here, NoText, TextFails, input_ended, end_too_late, length_not_permitted, character_not_permitted, FoundFails, found_end}
use Rattle.acn_grammar.specs.Interval.{size_of}
use Rattle.acn_grammar.specs.LeafFails.{Reason, short, too_long, size_out_of_range, bad_character, octet_values}
use Rattle.acn_grammar.specs.Spell.{CharactersPart, EndedPart, octet_numbers, character_number}
use Rattle.acn_grammar.specs.declared.node.TextLeaf.{TextLeaf}
use Rattle.acn_grammar.specs.declared.read_fault.ReadFault.{ReadFault}
use Rattle.acn_text.specs.Texts.{TextCode, PassedText, NoTextAt, fault_here}
use Rattle.acn_text.proofs.Ends.{end_long, end_not_found, end_found, ends_first}
use Rattle.std.proofs.lemmas.Bool.{and_parts}
use Rattle.acn_grammar.proofs.Octets.{octets_few, octets_most, octets-take, octets-drop, octet_first, octet_next}
use Rattle.acn_text.proofs.Windows.{first_of_window, next_window}
use Rattle.acn_grammar.proofs.TextRules.{EndRules}
use Rattle.acn_bits.proofs.Readings.{reads_passed}

-- Characters of 8 bits each.

abbrev pub all_permitted : TextLeaf → List ℕ → Bool
all_permitted leaf os = list_all (λ o. has leaf.alphabet (pos o)) os

module _ (leaf : TextLeaf) (width : leaf.width ≡ 8) (plain : leaf.indexed ≡ false) where
  own_number : (c : ℕ) → character_number leaf c ≡ c
  own_number c = rw plain refl

  -- permitted octets are a text
  octets_spell : (k at : ℕ) (l : List Bool) → 8 * k ≤ length l → all_permitted leaf (take k (octet_values l)) ≡ true → CharactersPart leaf (take k (octet_values l)) at (take (8 * k) l)
  octets_spell zero at l h p = refl
  octets_spell (suc k) at l h p =
      let e = octet_next l (omega (arith, h)) in
      let d = length-drop 8 l in
      let q : all_permitted leaf (number (take 8 l) ∷ take k (octet_values (drop 8 l))) ≡ true = ap (λ os. all_permitted leaf (take (suc k) os)) (sym e) ∙ p in
      let r = and_parts (has leaf.alphabet (pos (number (take 8 l)))) (all_permitted leaf (take k (octet_values (drop 8 l)))) q in
      let whole : take (8 * suc k) l ≡ take 8 l ++ take (8 * k) (drop 8 l) = ap (λ n. take n l) (omega arith) ∙ take-add 8 (8 * k) l in
      subst (λ (os : List ℕ). CharactersPart leaf (take (suc k) os) at (take (8 * suc k) l)) (sym e)
      (record {
        front = take 8 l;
        back = take (8 * k) (drop 8 l);
        whole = whole;
        first = record { given = r.0; spelled = record { width = length-take-le 8 l (omega (arith, h)) ∙ sym width; value = sym (own_number (number (take 8 l))) } };
        second = octets_spell k (at + length (take 8 l)) (drop 8 l) (omega (arith, h, d)) r.1;
      })

  -- a text's octets are its characters, and permitted
  characters_are : (cs : List ℕ) (at : ℕ) (bs : List Bool) → CharactersPart leaf cs at bs → (octet_values bs ≡ cs) × (all_permitted leaf cs ≡ true)
  characters_are [] at bs t = (ap octet_values t, refl)
  characters_are (c ∷ cs) at bs t =
      let more = characters_are cs (at + length t.front) t.back t.second in
      let value : number t.front ≡ c = t.first.spelled.value ∙ own_number c in
      (ap octet_values t.whole ∙ (octet_first t.front t.back (t.first.spelled.width ∙ width) ∙ joined value more.0), both (has leaf.alphabet (pos c)) (all_permitted leaf cs) t.first.given more.1)
    where
      joined : {x y : ℕ} {xs ys : List ℕ} → x ≡ y → xs ≡ ys → x ∷ xs ≡ y ∷ ys
      joined e f = cc

      both : (a b : Bool) → a ≡ true → b ≡ true → (a && b) ≡ true
      both a b p q = rw (p, q) refl

  -- where an octet isn't permitted there is no text
  no_octets : (k : ℕ) (l : List Bool) → all_permitted leaf (take k (octet_values l)) ≡ false → NoText leaf (take (8 * k) l)
  no_octets k l p cs at t =
      let a = characters_are cs at (take (8 * k) l) t in
      let e : take k (octet_values l) ≡ cs = sym (octets-take k l) ∙ a.0 in
      let q = ap (all_permitted leaf) e ∙ a.1 in
      cc

-- How far a reader has come.

pub record UptoEnd (leaf : TextLeaf) (end : List Bool) (Gives : List ℕ → Type 0) (old now : Reading) (n seen : ℕ) (fine : Bool) : Type 0 where
  pub within : 8 * n + length end ≤ length old.rest
  pub moved : now ≡ passed (8 * n + length end) old
  pub is : seen ≡ number (take (length end) (drop (8 * n) old.rest))
  pub before : (j : ℕ) → j < n → take (length end) (drop (8 * j) old.rest) ≡ end → ⊥
  pub permitted : fine ≡ all_permitted leaf (take n (octet_values old.rest))
  pub given : List ℕ
  pub gives : Gives given
  pub all : fine ≡ true → given ≡ take n (octet_values old.rest)

pub at_start : (leaf : TextLeaf) (end : List Bool) (Gives : List ℕ → Type 0) (old now : Reading) (seen : ℕ) → Gives [] → length end ≤ length old.rest → now ≡ passed (length end) old → seen ≡ number (take (length end) old.rest) → UptoEnd leaf end Gives old now 0 seen true
at_start leaf end Gives old now seen g within moved is = record {
  within = omega (arith, within);
  moved = moved ∙ ap (λ (k : ℕ). passed k old) (omega arith);
  is = is;
  before = λ j h. absurd (omega (arith, h));
  permitted = refl;
  given = [];
  gives = g;
  all = λ _. refl;
}

module _ (leaf : TextLeaf) (end : List Bool) (f : EndRules leaf end) (Gives : List ℕ → Type 0) (old now : Reading) (n seen : ℕ) (fine : Bool) (u : UptoEnd leaf end Gives old now n seen fine) where
  octets_are : length end ≡ 8 * (length end / 8)
  octets_are = f.octets

  some : 8 ≤ length end
  some = let a = f.octets in let b = f.some in omega (arith, a, b)

  abbrev here : List Bool
  here = drop (8 * n) old.rest

  here_long : length end ≤ length here
  here_long = let d = length-drop (8 * n) old.rest in let w = u.within in omega (arith, d, w)

  pub seen_below : seen < 2 ^ length end
  seen_below =
      let l = length-take-le (length end) here here_long in
      let b = number_below (take (length end) here) in
      rw u.is (subst (λ (k : ℕ). number (take (length end) here) < 2 ^ k) l b)

  -- the first octet of the window
  pub octet_is : seen / 2 ^ (length end - 8) ≡ number (take 8 here)
  octet_is = ap (λ (k : ℕ). k / 2 ^ (length end - 8)) u.is ∙ first_of_window (length end) here some here_long

  next_octet : take (n + 1) (octet_values old.rest) ≡ take n (octet_values old.rest) ++ (number (take 8 here) ∷ [])
  next_octet = ap (λ k. take k (octet_values old.rest)) (one_up n) ∙ more n (octet_values old.rest) (number (take 8 here)) (octet_values (drop 8 here)) (sym (octets-drop n old.rest) ∙ octet_next here (omega (arith, some, here_long)))
    where
      one_up : (k : ℕ) → k + 1 ≡ suc k
      one_up k = omega arith

      more : (n : ℕ) (os : List ℕ) (x : ℕ) (r : List ℕ) → drop n os ≡ x ∷ r → take (suc n) os ≡ take n os ++ (x ∷ [])
      more zero [] x r e = cc
      more zero (o ∷ os) x r e = cc
      more (suc n) [] x r e = cc
      more (suc n) (o ∷ os) x r e = ap (λ t. o ∷ t) (more n os x r e)

  -- the end stands here
  pub stands : seen ≡ number end → take (length end) here ≡ end
  stands e = number_same (take (length end) here) end (length-take-le (length end) here here_long) (sym u.is ∙ e)

  rest_left : length now.rest ≡ length old.rest - (8 * n + length end)
  rest_left = ap (λ (r : Reading). length r.rest) u.moved ∙ length-drop (8 * n + length end) old.rest

  pub now_stays : Stays old now
  now_stays = reads_passed (λ _. Unit {0}) (8 * n + length end) old now u.within u.moved tt

  -- an octet further
  pub one_further : (More : List ℕ → Type 0) (new : Reading) (octet next : ℕ) (fine' : Bool) (cs : List ℕ) → (seen ≡ number end → ⊥) → octet ≡ seen / 2 ^ (length end - 8) → fine' ≡ (fine && has leaf.alphabet (pos octet)) → (fine' ≡ true → cs ≡ octet ∷ [])
      → ((xs : List ℕ) → Gives xs → More (xs ++ cs)) → 8 ≤ length now.rest → new ≡ passed 8 now → next ≡ seen % 2 ^ (length end - 8) * 256 + number (take 8 now.rest) → UptoEnd leaf end More old new (n + 1) next fine'
  one_further More new octet next fine' cs other o g c more room moved is =
      let left = rest_left in
      let w = u.within in
      let o' : octet ≡ number (take 8 here) = o ∙ octet_is in
      let rest_is : now.rest ≡ drop (length end) here = ap (λ (r : Reading). r.rest) u.moved ∙ sym (drop-drop (length end) (8 * n) old.rest) in
      let room' : 8 ≤ length (drop (length end) here) = subst (λ (t : List Bool). 8 ≤ length t) rest_is room in
      let step = next_window (length end) here some here_long room' in
      let eight : drop 8 here ≡ drop (8 * (n + 1)) old.rest = drop-drop 8 (8 * n) old.rest ∙ ap (λ k. drop k old.rest) (omega arith) in
      record {
        within = omega (arith, left, w, room);
        moved = moved ∙ (ap (passed 8) u.moved ∙ twice);
        is = is ∙ (ap (λ k. k % 2 ^ (length end - 8) * 256 + number (take 8 now.rest)) u.is ∙ (ap (λ t. number (take (length end) here) % 2 ^ (length end - 8) * 256 + number (take 8 t)) rest_is ∙ (step ∙ ap (λ t. number (take (length end) t)) eight)));
        before = λ j h. before_or_here j h (order j n h);
        permitted = g ∙ (both u.permitted (ap (λ k. has leaf.alphabet (pos k)) o') ∙ (sym (all_push (take n (octet_values old.rest)) (number (take 8 here))) ∙ ap (all_permitted leaf) (sym next_octet)));
        given = u.given ++ cs;
        gives = more u.given u.gives;
        all = λ t. joined (u.all (left_true fine (has leaf.alphabet (pos octet)) (sym g ∙ t))) (c t ∙ ap (λ k. k ∷ []) o') ∙ sym next_octet;
      }
    where
      swap : (a b : ℕ) → a + b ≡ b + a
      swap a b = omega arith

      twice : passed 8 (passed (8 * n + length end) old) ≡ passed (8 * (n + 1) + length end) old
      twice = same (drop-drop 8 (8 * n + length end) old.rest ∙ ap (λ k. drop k old.rest) (omega arith)) (omega arith)
        where
          same : {a b : List Bool} {c d : ℕ} → a ≡ b → c ≡ d → ◌≡◌ {A = Reading} (record { rest = a; at = c; origin = old.origin }) (record { rest = b; at = d; origin = old.origin })
          same e f = cc

      order : (j n : ℕ) → j < n + 1 → (j < n) ⊎ (j ≡ n)
      order zero zero h = inr refl
      order zero (suc n) h = inl (omega arith)
      order (suc j) zero h = absurd (omega (arith, h))
      order (suc j) (suc n) h = elim (order j n (omega (arith, h))) [ inl g ↦ inl (omega arith) | inr g ↦ inr (ap suc g) ]

      before_or_here : (j : ℕ) → j < n + 1 → (j < n) ⊎ (j ≡ n) → take (length end) (drop (8 * j) old.rest) ≡ end → ⊥
      before_or_here j h (inl l) e = u.before j l e
      before_or_here j h (inr l) e = other (u.is ∙ ap number (ap (λ k. take (length end) (drop (8 * k) old.rest)) (sym l) ∙ e))

      both : {a b c d : Bool} → a ≡ b → c ≡ d → (a && c) ≡ (b && d)
      both e f = cc

      joined : {x y z w : List ℕ} → x ≡ y → z ≡ w → x ++ z ≡ y ++ w
      joined e f = cc

      left_true : (a b : Bool) → (a && b) ≡ true → a ≡ true
      left_true true b h = refl
      left_true false b h = h

      all_push : (xs : List ℕ) (x : ℕ) → all_permitted leaf (xs ++ (x ∷ [])) ≡ (all_permitted leaf xs && has leaf.alphabet (pos x))
      all_push [] x = last (has leaf.alphabet (pos x))
        where
          last : (b : Bool) → (b && true) ≡ (true && b)
          last true = refl
          last false = refl
      all_push (y ∷ xs) x = ap (λ b. has leaf.alphabet (pos y) && b) (all_push xs x) ∙ assoc (has leaf.alphabet (pos y)) (all_permitted leaf xs) (has leaf.alphabet (pos x))
        where
          assoc : (a b c : Bool) → (a && (b && c)) ≡ ((a && b) && c)
          assoc true b c = refl
          assoc false b c = refl

  -- what is known of the octets of the window
  few_octets : n + length end / 8 ≤ length (octet_values old.rest)
  few_octets = let m = octets_most old.rest in let w = u.within in let e = f.octets in omega (arith, m, w, e)

  end_size : length (octet_numbers end) ≡ length end / 8
  end_size = end_long end (length end / 8) f.octets f.some

  abbrev most : ℕ
  most = size_of (greatest leaf.sized.sizes) + length (octet_numbers end)

  found : seen ≡ number end → n ≤ size_of (greatest leaf.sized.sizes) → found_end (octet_numbers end) (take most (octet_values old.rest)) ≡ Some n
  found e h = let s = end_size in end_found end (length end / 8) f.octets f.some old.rest most n u.before u.within (omega (arith, h, s)) (stands e)

  -- a reason behind an end that was found
  pub found_wrong : (r : Reason) → leaf.ended ≡ Some end → seen ≡ number end → n ≤ size_of (greatest leaf.sized.sizes)
      → ((In leaf.sized.sizes (pos n) → ⊥) × (r ≡ size_out_of_range n)) ⊎ (In leaf.sized.sizes (pos n) × (fine ≡ false) × (r ≡ bad_character)) → NoTextAt leaf None old.rest r
  found_wrong r is e h why = record {
    reach = 8 * n + length end;
    fails = λ it env at says. subst (λ (o : Option (List Bool)). TextFails it o leaf env at old.rest (fault_here it r) (8 * n + length end)) (sym is)
        (subst (λ (o : Option ℕ). FoundFails it leaf (length end) most (length (octet_values old.rest)) old.rest o (fault_here it r) (8 * n + length end)) (sym (found e h)) (by it why));
  }
    where
      by : (it : Here) → ((In leaf.sized.sizes (pos n) → ⊥) × (r ≡ size_out_of_range n)) ⊎ (In leaf.sized.sizes (pos n) × (fine ≡ false) × (r ≡ bad_character)) → FoundFails it leaf (length end) most (length (octet_values old.rest)) old.rest (Some n) (fault_here it r) (8 * n + length end)
      by it (inl w) = length_not_permitted (w.0, ap (fault_here it) w.1, refl)
      by it (inr w) = character_not_permitted (w.0, no_octets leaf f.width f.plain n old.rest (sym u.permitted ∙ w.1), ap (fault_here it) w.2, refl)

  -- the text that was found
  pub text_found : leaf.ended ≡ Some end → seen ≡ number end → In leaf.sized.sizes (pos n) → fine ≡ true → PassedText leaf None Gives old now n
  text_found is e p t = record {
    text = take n (octet_values old.rest);
    size = size_is;
    gives = subst Gives (u.all t) u.gives;
    read = reads_passed (TextCode leaf None (take n (octet_values old.rest))) (8 * n + length end) old now u.within u.moved (λ env at says.
        subst (λ (o : Option (List Bool)). EndedPart o leaf env (take n (octet_values old.rest)) at (take (8 * n + length end) old.rest)) (sym is)
        (record {
          given = (subst (λ (k : ℕ). In leaf.sized.sizes (pos k)) (sym size_is) p, ends_first end (length end / 8) f.octets f.some old.rest n u.before u.within (stands e));
          spelled = record {
            front = take (8 * n) old.rest;
            back = end;
            whole = take-add (8 * n) (length end) old.rest ∙ ap (λ k. take (8 * n) old.rest ++ k) (stands e);
            first = octets_spell leaf f.width f.plain n at old.rest eight (sym u.permitted ∙ t);
            second = refl;
          };
        }));
  }
    where
      size_is : length (take n (octet_values old.rest)) ≡ n
      size_is = let a = length-take n (octet_values old.rest) in let b = few_octets in omega (arith, a, b)

      eight : 8 * n ≤ length old.rest
      eight = let w = u.within in omega (arith, w)

  not_here : (seen ≡ number end → ⊥) → 8 * n + length end ≤ length old.rest → take (length end) (drop (8 * n) old.rest) ≡ end → ⊥
  not_here other w e = other (u.is ∙ ap number e)

  -- no octet is left, or not enough of them stand before an end
  pub ran_short : leaf.ended ≡ Some end → (seen ≡ number end → ⊥) → n < size_of (greatest leaf.sized.sizes) → length now.rest < 8 → NoTextAt leaf None old.rest short
  ran_short is other h l = record {
    reach = length old.rest;
    fails = λ it env at says. subst (λ (o : Option (List Bool)). TextFails it o leaf env at old.rest (fault_here it short) (length old.rest)) (sym is)
        (subst (λ (o : Option ℕ). FoundFails it leaf (length end) most (length (octet_values old.rest)) old.rest o (fault_here it short) (length old.rest)) (sym none) (input_ended (below, refl, refl)));
  }
    where
      exactly : length (octet_values old.rest) ≤ n + length end / 8
      exactly = let a = octets_few old.rest in let b = rest_left in let w = u.within in let e = f.octets in omega (arith, a, b, w, e, l)

      none : found_end (octet_numbers end) (take most (octet_values old.rest)) ≡ None
      none = let c = length-take most (octet_values old.rest) in let x = exactly in end_not_found end (length end / 8) f.octets f.some old.rest most n u.before (not_here other) (omega (arith, c, x))

      below : length (octet_values old.rest) < most
      below = let x = exactly in let s = end_size in omega (arith, x, s, h)

  pub ran_long : leaf.ended ≡ Some end → (seen ≡ number end → ⊥) → n ≡ size_of (greatest leaf.sized.sizes) → NoTextAt leaf None old.rest too_long
  ran_long is other h = record {
    reach = 8 * most;
    fails = λ it env at says. subst (λ (o : Option (List Bool)). TextFails it o leaf env at old.rest (fault_here it too_long) (8 * most)) (sym is)
        (subst (λ (o : Option ℕ). FoundFails it leaf (length end) most (length (octet_values old.rest)) old.rest o (fault_here it too_long) (8 * most)) (sym none) (end_too_late (enough, refl, refl)));
  }
    where
      none : found_end (octet_numbers end) (take most (octet_values old.rest)) ≡ None
      none = let c = length-take most (octet_values old.rest) in let s = end_size in end_not_found end (length end / 8) f.octets f.some old.rest most n u.before (not_here other) (omega (arith, c, s, h))

      enough : most ≤ length (octet_values old.rest)
      enough = let s = end_size in let x = few_octets in omega (arith, x, s, h)

-- fewer bits are left than the end has
pub no_room : (leaf : TextLeaf) (end : List Bool) (rest : List Bool) → EndRules leaf end → leaf.ended ≡ Some end → length rest < length end → NoTextAt leaf None rest short
no_room leaf end rest f is l = record {
  reach = length rest;
  fails = λ it env at says. subst (λ (o : Option (List Bool)). TextFails it o leaf env at rest (fault_here it short) (length rest)) (sym is)
      (subst (λ (o : Option ℕ). FoundFails it leaf (length end) most (length (octet_values rest)) rest o (fault_here it short) (length rest)) (sym none) (input_ended (below, refl, refl)));
}
  where
    most : ℕ
    most = size_of (greatest leaf.sized.sizes) + length (octet_numbers end)

    size : length (octet_numbers end) ≡ length end / 8
    size = end_long end (length end / 8) f.octets f.some

    none : found_end (octet_numbers end) (take most (octet_values rest)) ≡ None
    none =
        let a = octets_few rest in
        let c = length-take most (octet_values rest) in
        let e = f.octets in
        end_not_found end (length end / 8) f.octets f.some rest most 0 (λ j h. absurd (omega (arith, h))) (λ w. absurd (omega (arith, w, l))) (omega (arith, a, c, e, l))

    below : length (octet_values rest) < most
    below = let a = octets_few rest in let e = f.octets in omega (arith, a, e, l, size)

-- What a result says of what was found.

pub found_at : {A B : Type 0} (r : Result ℕ ReadFault) (n : ℕ) (F : ℕ → Type 0) → IfOk r (λ k. k ≡ n) → OnOk r A → OnOk r B → (A → B → F n) → IfOk r F
found_at (Ok k) n F e a b f = subst F (sym e) (f a b)
found_at (Err x) n F e a b f = tt

pub refused_at : (r : Result ℕ ReadFault) (W F : ReadFault → Type 0) → IfErr r W → ((e : ReadFault) → W e → F e) → IfErr r F
refused_at (Ok k) W F w f = tt
refused_at (Err x) W F w f = f x w
