-- The bits that are written spell the text.
use Rattle.std.proofs.Common.{◌≡◌, ℕ, zero, suc, ◌+◌, ◌-◌, ◌*◌, ◌<◌, ◌≤◌, pos, Bool, true, false, not, List, [], ◌∷◌, ◌++◌, length, take, drop, Option, Some, None, refl, sym, ap, ◌∙◌, arith, length-append, inl, inr, nat_lt}
use Rattle.std.specs.Prelude.{position, cond, ◌⊎◌}
use Rattle.std.specs.List.{AllByRecursion, position_or_len}
use Rattle.std.proofs.lemmas.Bool.Decides.{nat_tests}
use Rattle.std.proofs.lemmas.List.{length-take-le}
use Rattle.acn_num.specs.Bits.{low_bits}
use Rattle.acn_num.specs.Ranges.{In, has}
use Rattle.acn_num.proofs.BitLists.{length-low_bits}
use Rattle.acn_grammar.specs.Asks.{same_name}
use Rattle.acn_grammar.specs.Env.{Env}
use Rattle.acn_grammar.specs.Length.{text_length, rule_width}
use Rattle.acn_grammar.specs.Meets.{text_breach, size_breach, unless, where_found, end_breach, first_end, bad_character, size_out_of_range, terminator_inside, Why}
use Rattle.acn_grammar.specs.Spell.{RulePart, CharactersPart, EndedPart, EndsFirst, octet_numbers, character_number}
use Rattle.acn_grammar.specs.declared.node.SizeRule.{SizeRule}
use Rattle.acn_grammar.specs.declared.node.SizeRule.TheVariants.{Prefix, Slot, Ended}
use Rattle.acn_grammar.specs.declared.node.TextLeaf.{TextLeaf}
use Rattle.acn_text.specs.Texts.{TextCode, SlotSays, given_size}
use Rattle.acn_text.specs.Steps.{SizeFits, NumbersFit, size_bits, character_bits, text_bits}
use Rattle.acn_text.proofs.Fine.{size_fits}
use Rattle.acn_text.proofs.Places.{character_below}
use Rattle.acn_grammar.proofs.Characters.{same_name-refl, characters_long}
use Rattle.acn_grammar.proofs.FirstPlaces.{none_passes}
use Rattle.acn_grammar.proofs.TextRules.{TextRules}
use Rattle.acn_grammar.proofs.Counts.{number_bits}

-- What a text that meets the leaf keeps.

pub record MeetsText (leaf : TextLeaf) (cs : List ℕ) : Type 0 where
  pub size : In leaf.sized.sizes (pos (length cs))
  pub permitted : position (λ c. not (has leaf.alphabet (pos c))) cs ≡ None
  pub ended : end_breach leaf.ended cs ≡ []

no_first : (a b : List Why) → a ++ b ≡ [] → (a ≡ []) × (b ≡ [])
no_first [] b e = (refl, e)
no_first (x ∷ a) b e = cc

pub meets_text : (leaf : TextLeaf) (cs : List ℕ) → text_breach leaf cs ≡ [] → MeetsText leaf cs
meets_text leaf cs e =
    let a = no_first (size_breach leaf.sized (length cs) ++ where_found (position (λ c. not (has leaf.alphabet (pos c))) cs) bad_character) (end_breach leaf.ended cs) e in
    let b = no_first (size_breach leaf.sized (length cs)) (where_found (position (λ c. not (has leaf.alphabet (pos c))) cs) bad_character) a.0 in
    record { size = held (has leaf.sized.sizes (pos (length cs))) (size_out_of_range (length cs)) b.0; permitted = nowhere (position (λ c. not (has leaf.alphabet (pos c))) cs) bad_character b.1; ended = a.1 }
  where
    held : (t : Bool) (why : Why) → unless t why ≡ [] → t ≡ true
    held true why h = refl
    held false why h = cc

    nowhere : (o : Option ℕ) (why : ℕ → Why) → where_found o why ≡ [] → o ≡ None
    nowhere None why h = refl
    nowhere (Some i) why h = cc

none_passing : (p : ℕ → Bool) (xs : List ℕ) → position p xs ≡ None → AllByRecursion (λ x. p x ≡ false) xs
none_passing p [] h = tt
none_passing p (x ∷ xs) h = by (p x) (nat_lt (position_or_len p xs) (length xs)) refl refl (λ e. none_passing p xs e)
  where
    some_less : (a : ℕ) → nat_lt 0 (suc a) ≡ true
    some_less a = grind (arith, nat_tests)

    both_more : (a b : ℕ) → nat_lt a b ≡ true → nat_lt (1 + a) (suc b) ≡ true
    both_more a b l = grind (arith, nat_tests)

    by : (t u : Bool) → p x ≡ t → nat_lt (position_or_len p xs) (length xs) ≡ u → (position p xs ≡ None → AllByRecursion (λ x. p x ≡ false) xs) → AllByRecursion (λ x. p x ≡ false) (x ∷ xs)
    by true u e f more =
        let z : cond (nat_lt 0 (suc (length xs))) (Some 0) None ≡ None = rw e at h in
        let y = rw (some_less (length xs)) at z in
        cc
    by false true e f more =
        let z : cond (nat_lt (1 + position_or_len p xs) (suc (length xs))) (Some (1 + position_or_len p xs)) None ≡ None = rw e at h in
        let y = rw (both_more (position_or_len p xs) (length xs) f) at z in
        cc
    by false false e f more = (e, more (rw f refl))

is_not_false : (b : Bool) → not b ≡ false → b ≡ true
is_not_false true h = refl
is_not_false false h = cc

module _ (leaf : TextLeaf) (f : TextRules leaf) where
  numbers_fit : (cs : List ℕ) → AllByRecursion (λ c. not (has leaf.alphabet (pos c)) ≡ false) cs → NumbersFit leaf cs
  numbers_fit [] h = tt
  numbers_fit (c ∷ cs) h = let p = is_not_false (has leaf.alphabet (pos c)) h.0 in ((p, character_below leaf f c p), numbers_fit cs h.1)

  pub text_numbers : (cs : List ℕ) → MeetsText leaf cs → NumbersFit leaf cs
  text_numbers cs m = numbers_fit cs (none_passing (λ c. not (has leaf.alphabet (pos c))) cs m.permitted)

  characters_spell : (cs : List ℕ) (at : ℕ) → NumbersFit leaf cs → CharactersPart leaf cs at (character_bits leaf cs)
  characters_spell [] at h = refl
  characters_spell (c ∷ cs) at h = record {
    front = low_bits leaf.width (character_number leaf c);
    back = character_bits leaf cs;
    whole = refl;
    first = record { given = h.0.0; spelled = number_bits leaf.width (character_number leaf c) h.0.1 };
    second = characters_spell cs (at + length (low_bits leaf.width (character_number leaf c))) h.1;
  }

  pub character_bits_long : (cs : List ℕ) → NumbersFit leaf cs → length (character_bits leaf cs) ≡ leaf.width * length cs
  character_bits_long cs h = characters_long leaf cs 0 (character_bits leaf cs) (characters_spell cs 0 h)

  size_spell : (rule : SizeRule) (n at : ℕ) (env : Env) → SizeFits rule n → SlotSays rule (given_size rule n) env → RulePart rule env n at (size_bits rule n)
  size_spell (Prefix low width) n at env h says = record { given = h.0; spelled = number_bits width (n - low) h.2 }
  size_spell (Slot s) n at env h says = (says.2 ∙ ap (λ k. Some (pos k)) (same (sym says.1)), refl)
    where
      same : {a b : ℕ} → ◌≡◌ {A = Option ℕ} (Some a) (Some b) → a ≡ b
      same e = cc
  size_spell (Ended p) n at env h says = absurd h

  end_first : (end : List Bool) (cs : List ℕ) → end_breach (Some end) cs ≡ [] → EndsFirst (octet_numbers end) cs
  end_first end cs e i h = by (order i (length cs))
    where
      nowhere : (o : Option ℕ) (why : ℕ → Why) → where_found o why ≡ [] → o ≡ None
      nowhere None why h = refl
      nowhere (Some i) why h = cc

      order : (i k : ℕ) → (i < k) ⊎ (k ≤ i)
      order i zero = inr (omega arith)
      order zero (suc k) = inl (omega arith)
      order (suc i) (suc k) = elim (order i k) [ inl g ↦ inl (omega arith) | inr g ↦ inr (omega arith) ]

      by : (i < length cs) ⊎ (length cs ≤ i) → length cs ≤ i
      by (inr g) = g
      by (inl g) =
          let p : ℕ → Bool = λ j. same_name (take (length (octet_numbers end)) (drop j (cs ++ octet_numbers end))) (octet_numbers end) in
          absurd (none_passes p (length cs) i (nowhere (first_end (octet_numbers end) cs) terminator_inside e) g (ap (λ t. same_name t (octet_numbers end)) h ∙ same_name-refl (octet_numbers end)))

  spelled_by : (o : Option (List Bool)) (cs : List ℕ) → leaf.ended ≡ o → MeetsText leaf cs → (env : Env) (at : ℕ) → SlotSays leaf.sized.rule (given_size leaf.sized.rule (length cs)) env → EndedPart o leaf env cs at (text_bits o leaf cs)
  spelled_by None cs is m env at says = record {
    front = size_bits leaf.sized.rule (length cs);
    back = character_bits leaf cs;
    whole = refl;
    first = record { given = m.size; spelled = size_spell leaf.sized.rule (length cs) at env (size_fits leaf (length cs) f is m.size) says };
    second = characters_spell cs (at + length (size_bits leaf.sized.rule (length cs))) (text_numbers cs m);
  }
  spelled_by (Some end) cs is m env at says = record {
    given = (m.size, end_first end cs (ap (λ o. end_breach o cs) (sym is) ∙ m.ended));
    spelled = record { front = character_bits leaf cs; back = end; whole = refl; first = characters_spell cs at (text_numbers cs m); second = refl };
  }

  -- the written bits are the text's code
  pub text_spelled : (cs : List ℕ) → MeetsText leaf cs → TextCode leaf (given_size leaf.sized.rule (length cs)) cs (text_bits leaf.ended leaf cs)
  text_spelled cs m env at says = spelled_by leaf.ended cs refl m env at says

  pub size_bits_long : (rule : SizeRule) (n : ℕ) → length (size_bits rule n) ≡ rule_width rule
  size_bits_long (Prefix low width) n = length-low_bits width (n - low)
  size_bits_long (Slot s) n = refl
  size_bits_long (Ended p) n = refl

  pub text_bits_long : (o : Option (List Bool)) (cs : List ℕ) → MeetsText leaf cs → length (text_bits o leaf cs) ≡ text_length o leaf (length cs)
  text_bits_long None cs m =
      let a = length-append (size_bits leaf.sized.rule (length cs)) (character_bits leaf cs) in
      let b = size_bits_long leaf.sized.rule (length cs) in
      let c = character_bits_long cs (text_numbers cs m) in
      omega (arith, a, b, c)
  text_bits_long (Some end) cs m =
      let a = length-append (character_bits leaf cs) end in
      let c = character_bits_long cs (text_numbers cs m) in
      omega (arith, a, c)

  -- the bits of the first characters
  pub front_long : (cs : List ℕ) (i : ℕ) → i < length cs → NumbersFit leaf cs → length (character_bits leaf (take i cs)) ≡ leaf.width * i
  front_long cs i h n = character_bits_long (take i cs) (first_fit cs i n) ∙ ap (λ k. leaf.width * k) (length-take-le i cs (omega (arith, h)))
    where
      first_fit : (cs : List ℕ) (i : ℕ) → NumbersFit leaf cs → NumbersFit leaf (take i cs)
      first_fit cs zero n = tt
      first_fit [] (suc i) n = tt
      first_fit (c ∷ cs) (suc i) n = (n.0, first_fit cs i n.1)
