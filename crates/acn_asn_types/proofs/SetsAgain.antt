-- Each proper set is read from its tokens.
use Rattle.std.proofs.Common.{◌≡◌, ℕ, zero, suc, ◌≤◌, length-append, ◌<◌, Bool, true, false, cond, List, [], ◌∷◌, ◌++◌, length, Option, Some, None, refl, sym, ap, subst, ◌∙◌, append_assoc, arith}
use Rattle.std.specs.Prelude.{codes, option_map, Ok}
use Rattle.std.specs.List.{flat_map, list_all, AllByRecursion}
use Rattle.std.proofs.lemmas.Bool.{and_parts}
use Rattle.std.specs.Str.{bytes_eq}
use Rattle.acn_lex.specs.declared.Kind.TheVariants.{Word, Mark}
use Rattle.acn_lex.specs.Lexeme.{Lexeme, same_kind}
use Rattle.acn_cursor.specs.Steps.{Parser, sees, many}
use Rattle.acn_cursor.proofs.Laws.{then_again, given_again, eat_again, eat_nothing, expect_again, many_again, sees_again, sees_kind, sees_text}
use Rattle.acn_asn_syntax.specs.declared.values.AsnValue.{AsnValue}
use Rattle.acn_asn_syntax.specs.declared.sets.AsnRange.{AsnRange}
use Rattle.acn_asn_syntax.specs.declared.sets.Element.{Element}
use Rattle.acn_asn_syntax.specs.declared.sets.Element.TheVariants as element
use Rattle.acn_asn_syntax.specs.declared.sets.Set.{Set}
use Rattle.acn_asn_syntax.specs.declared.sets.Set.TheVariants as set
use Rattle.acn_asn_syntax.specs.declared.sets.Meet.{Meet, roll-Meet}
use Rattle.acn_asn_syntax.specs.declared.sets.Part.{Part, roll-Part}
use Rattle.acn_lex.specs.Words.{is_identifier}
use Rattle.acn_asn_syntax.specs.Values.{word, mark, value_tokens, value_fits, end_tokens, end_fits, range_tokens, in_parentheses}
use Rattle.acn_asn_syntax.specs.Trees.{element_tokens, set_tokens, meet_tokens, part_tokens, element_fits, set_fits, meet_fits, part_fits}
use Rattle.acn_asn_syntax.proofs.SetTokens.{joined_tokens, but_tokens, but_proper}
use Rattle.acn_asn_syntax.proofs.SetTokens as form
use Rattle.acn_asn_types.specs.Sets.{end, range_from, plain, mark_at, has_mark, part_mark, has_part_mark, meet_mark, has_meet_mark, group, inner_at, element_at, but_at, part, next_part, meet, next_meet, union, all_except, set_in, set_at}
use Rattle.acn_asn_types.proofs.ValueLaws.{Passes, IsOther, value_word, value_mark, value_again}

-- ---- ranges

end_again : (text : List ℕ) (o : Option AsnValue) (r : List Lexeme) → Passes end_fits o → IsOther text → end text (end_tokens text o ++ r) ≡ Ok (o, r)
unfolding end end_tokens
end_again text None r fits h = then_again _ _ _ _ _ (eat_again _ _ _) refl
end_again text (Some v) r fits h =
    then_again _ _ _ _ _ (eat_nothing _ _ _ (value_word v text r fits h))
    (then_again _ _ _ _ _ (value_again v r fits) refl)

end_mark : (word : List ℕ) (o : Option AsnValue) (text : List ℕ) (r : List Lexeme) → bytes_eq (codes "-") text ≡ false → sees Mark text (end_tokens word o ++ r) ≡ false
unfolding end_tokens same_kind
end_mark word None text r h = sees_kind _ _ _ _ _ refl
end_mark word (Some v) text r h = value_mark v text r h

-- what may stand behind an element
record EndsElement (r : List Lexeme) : Type 0 where
  less : sees Mark (codes "<") r ≡ false
  dots : sees Mark (codes "..") r ≡ false

is_min : IsOther (codes "MIN")
unfolding is_identifier
is_min = record { is_upper = refl; is_not_true = refl; is_not_false = refl; is_not_null = refl }

is_max : IsOther (codes "MAX")
unfolding is_identifier
is_max = record { is_upper = refl; is_not_true = refl; is_not_false = refl; is_not_null = refl }

plain_value : (v : AsnValue) (r : List Lexeme) → Passes value_fits v → EndsElement r → plain (value_tokens v ++ r) ≡ Ok (element.Value v, r)
unfolding plain end
plain_value v r fits ends =
    then_again _ _ _ _ _ (then_again _ _ _ _ _ (eat_nothing _ _ _ (value_word v (codes "MIN") r fits is_min)) (then_again _ _ _ _ _ (value_again v r fits) refl))
    (then_again _ _ _ _ _ (eat_nothing _ _ _ ends.less)
    (then_again _ _ _ _ _ (eat_nothing _ _ _ ends.dots) refl))

plain_range : (g : AsnRange) (r : List Lexeme) → Passes end_fits g.low → Passes end_fits g.high → plain (range_tokens g ++ r) ≡ Ok (element.Range g, r)
unfolding plain range_tokens range_from
plain_range g r low high =
    simp append_assoc
    (then_again _ _ _ _ _ (end_again _ g.low _ low is_min)
    (then_again _ _ _ _ _ (given_again _ _ g.low_out _ (sees_text _ _ _ _ refl))
    (then_again _ _ _ _ _ (eat_again _ _ _)
    (then_again _ _ _ _ _ (given_again _ _ g.high_out _ (end_mark (codes "MAX") g.high (codes "<") r refl))
    (then_again _ _ _ _ _ (end_again _ g.high _ high is_max) refl)))))

pass_all : {A : Type 0} (test : A → Bool) (xs : List A) → list_all test xs ≡ true → AllByRecursion (Passes test) xs
pass_all test [] h = tt
pass_all test (x ∷ xs) h = let b = and_parts (test x) (list_all test xs) h in (b.0, pass_all test xs b.1)

-- ---- what an element doesn't begin with

pub record IsOtherHere (text : List ℕ) : Type 0 where
  pub plain : IsOther text
  pub is_not_min : bytes_eq (codes "MIN") text ≡ false
  pub is_not_size : bytes_eq (codes "SIZE") text ≡ false
  pub is_not_from : bytes_eq (codes "FROM") text ≡ false

low_word : (text : List ℕ) (o : Option AsnValue) (r : List Lexeme) → Passes end_fits o → IsOther text → bytes_eq (codes "MIN") text ≡ false → sees Word text (end_tokens (codes "MIN") o ++ r) ≡ false
unfolding end_tokens
low_word text None r fits h k = sees_text _ _ _ _ k
low_word text (Some v) r fits h k = value_word v text r fits h

range_word : (text : List ℕ) (g : AsnRange) (r : List Lexeme) → Passes end_fits g.low → IsOther text → bytes_eq (codes "MIN") text ≡ false → sees Word text (range_tokens g ++ r) ≡ false
unfolding range_tokens
range_word text g r fits h k = simp append_assoc (low_word text g.low _ fits h k)

range_mark : (text : List ℕ) (g : AsnRange) (r : List Lexeme) → bytes_eq (codes "-") text ≡ false → sees Mark text (range_tokens g ++ r) ≡ false
unfolding range_tokens
range_mark text g r h = simp append_assoc (end_mark (codes "MIN") g.low text _ h)

group_word : (text : List ℕ) (s : List Lexeme) (r : List Lexeme) → sees Word text (in_parentheses s ++ r) ≡ false
unfolding same_kind
group_word text s r = sees_kind _ _ _ _ _ refl

pub element_word : (x : Element) (text : List ℕ) (r : List Lexeme) → Passes element_fits x → IsOtherHere text → sees Word text (element_tokens x ++ r) ≡ false
element_word x text r = form.by_element (λ x. Passes element_fits x → IsOtherHere text → sees Word text (element_tokens x ++ r) ≡ false)
    (λ v fits h. rw form.tokens_Value (value_word v text r (sym (form.fits_Value v) ∙ fits) h.plain))
    (λ g fits h. rw form.tokens_Range (range_word text g r (and_parts (end_fits g.low) (end_fits g.high) (sym (form.fits_Range g) ∙ fits)).0 h.plain h.is_not_min))
    (λ s fits h. rw form.tokens_SizeOf (sees_text _ _ _ _ h.is_not_size))
    (λ s fits h. rw form.tokens_From (sees_text _ _ _ _ h.is_not_from))
    (λ s fits h. rw form.tokens_Inner (group_word text (set_tokens s) r))
    x

-- ---- sets, over a parser of those in parentheses

abbrev pub closing : List Lexeme → List Lexeme
closing r = mark (codes ")") ∷ r

record EndsPart (r : List Lexeme) : Type 0 where
  element : EndsElement r
  but : sees Word (codes "EXCEPT") r ≡ false

record EndsMeet (r : List Lexeme) : Type 0 where
  part : EndsPart r
  mark : has_part_mark r ≡ false

is_size : IsOther (codes "SIZE")
unfolding is_identifier
is_size = record { is_upper = refl; is_not_true = refl; is_not_false = refl; is_not_null = refl }

is_from : IsOther (codes "FROM")
unfolding is_identifier
is_from = record { is_upper = refl; is_not_true = refl; is_not_false = refl; is_not_null = refl }

module _ (inner : Parser Set) (limit : ℕ) (again : (s : Set) (r : List Lexeme) → length (set_tokens s ++ closing r) ≤ limit → Passes set_fits s → inner (set_tokens s ++ closing r) ≡ Ok (s, closing r)) where
  group_again : (s : Set) (r : List Lexeme) → length (in_parentheses (set_tokens s) ++ r) ≤ suc limit → Passes set_fits s → group inner (in_parentheses (set_tokens s) ++ r) ≡ Ok (s, r)
  unfolding group
  group_again s r bound fits =
      let regroup : (set_tokens s ++ mark (codes ")") ∷ []) ++ r ≡ set_tokens s ++ closing r = append_assoc (set_tokens s) (mark (codes ")") ∷ []) r in
      let inside : length (set_tokens s ++ closing r) ≤ limit = omega (arith, ap length regroup) in
      simp append_assoc
      (then_again _ _ _ _ _ (expect_again _ _ _)
      (then_again _ _ _ _ _ (again s r inside fits)
      (then_again _ _ _ _ _ (expect_again _ _ _) refl)))

  element_again : (x : Element) (r : List Lexeme) → length (element_tokens x ++ r) ≤ suc limit → Passes element_fits x → EndsElement r → element_at inner (element_tokens x ++ r) ≡ Ok (x, r)
  unfolding element_at inner_at same_kind
  element_again x r = form.by_element (λ x. length (element_tokens x ++ r) ≤ suc limit → Passes element_fits x → EndsElement r → element_at inner (element_tokens x ++ r) ≡ Ok (x, r))
      (λ v bound fits ends. let fits' = sym (form.fits_Value v) ∙ fits in
      rw form.tokens_Value
      (then_again _ _ _ _ _ (eat_nothing _ _ _ (value_word v _ r fits' is_size))
      (then_again _ _ _ _ _ (eat_nothing _ _ _ (value_word v _ r fits' is_from))
      (rw (value_mark v (codes "(") r refl) (plain_value v r fits' ends)))))
      (λ g bound fits ends. let fits' = and_parts (end_fits g.low) (end_fits g.high) (sym (form.fits_Range g) ∙ fits) in
      rw form.tokens_Range
      (then_again _ _ _ _ _ (eat_nothing _ _ _ (range_word _ g r fits'.0 is_size refl))
      (then_again _ _ _ _ _ (eat_nothing _ _ _ (range_word _ g r fits'.0 is_from refl))
      (rw (range_mark (codes "(") g r refl) (plain_range g r fits'.0 fits'.1)))))
      (λ s bound fits ends.
      rw form.tokens_SizeOf
      (then_again _ _ _ _ _ (eat_again _ _ _)
      (then_again _ _ _ _ _ (group_again s r (omega (arith, ap (λ (z : List Lexeme). length (z ++ r)) (form.tokens_SizeOf s))) (sym (form.fits_SizeOf s) ∙ fits)) refl)))
      (λ s bound fits ends.
      rw form.tokens_From
      (then_again _ _ _ _ _ (eat_nothing _ _ _ (sees_text _ _ _ _ refl))
      (then_again _ _ _ _ _ (eat_again _ _ _)
      (then_again _ _ _ _ _ (group_again s r (omega (arith, ap (λ (z : List Lexeme). length (z ++ r)) (form.tokens_From s))) (sym (form.fits_From s) ∙ fits)) refl))))
      (λ s bound fits ends.
      rw form.tokens_Inner
      (then_again _ _ _ _ _ (eat_nothing _ _ _ (group_word _ (set_tokens s) r))
      (then_again _ _ _ _ _ (eat_nothing _ _ _ (group_word _ (set_tokens s) r))
      (rw (sees_again Mark (codes "(") ((set_tokens s ++ mark (codes ")") ∷ []) ++ r))
      (then_again _ _ _ _ _ (group_again s r (omega (arith, ap (λ (z : List Lexeme). length (z ++ r)) (form.tokens_Inner s))) (sym (form.fits_Inner s) ∙ fits)) refl)))))
      x

  but_again : (o : Option Element) (r : List Lexeme) → length (but_tokens (option_map element_tokens o) ++ r) ≤ suc limit → but_proper (option_map element_fits o) ≡ true → EndsPart r
      → but_at inner (but_tokens (option_map element_tokens o) ++ r) ≡ Ok (o, r)
  unfolding but_at
  but_again None r bound fits ends = then_again _ _ _ _ _ (eat_nothing _ _ _ ends.but) refl
  but_again (Some x) r bound fits ends =
      then_again _ _ _ _ _ (eat_again _ _ _)
      (then_again _ _ _ _ _ (element_again x r (omega arith) fits ends.element) refl)

  -- an element may end before EXCEPT, and where a part may
  element_ends : (o : Option Element) (r : List Lexeme) → EndsPart r → EndsElement (but_tokens (option_map element_tokens o) ++ r)
  unfolding same_kind
  element_ends None r ends = ends.element
  element_ends (Some x) r ends = record { less = sees_kind _ _ _ _ _ refl; dots = sees_kind _ _ _ _ _ refl }

  part_again : (x : Part) (r : List Lexeme) → length (part_tokens x ++ r) ≤ suc limit → Passes part_fits x → EndsPart r → part inner (part_tokens x ++ r) ≡ Ok (x, r)
  unfolding part
  part_again x r = form.by_part (λ x. length (part_tokens x ++ r) ≤ suc limit → Passes part_fits x → EndsPart r → part inner (part_tokens x ++ r) ≡ Ok (x, r))
      (λ e but bound fits ends.
      let t = form.tokens_part e but in
      let whole : part_tokens (roll-Part (record { element = e; but = but })) ++ r ≡ element_tokens e ++ (but_tokens (option_map element_tokens but) ++ r) = rw (t, append_assoc) refl in
      let f = and_parts (element_fits e) (but_proper (option_map element_fits but)) (sym (form.fits_part e but) ∙ fits) in
      let in_all : length (element_tokens e ++ (but_tokens (option_map element_tokens but) ++ r)) ≤ suc limit = subst (λ (z : List Lexeme). length z ≤ suc limit) whole bound in
      let in_rest : length (but_tokens (option_map element_tokens but) ++ r) ≤ suc limit = omega (arith, length-append (element_tokens e) (but_tokens (option_map element_tokens but) ++ r)) in
      rw whole
      (then_again _ _ _ _ _ (element_again e _ in_all f.0 (element_ends but r ends))
      (then_again _ _ _ _ _ (but_again but r in_rest f.1 ends) refl)))
      x

  abbrev next_part_tokens : Bool × Part → List Lexeme
  next_part_tokens p = joined_tokens (codes "^") (codes "INTERSECTION") (p.0, part_tokens p.1)

  mark_again : (sign written : List ℕ) (w : Bool) (r : List Lexeme) → mark_at sign written ((cond w (word written) (mark sign)) ∷ r) ≡ Ok (w, r)
  unfolding mark_at same_kind
  mark_again sign written true r = then_again _ _ _ _ _ (eat_again _ _ _) refl
  mark_again sign written false r =
      then_again _ _ _ _ _ (eat_nothing _ _ _ (sees_kind _ _ _ _ _ refl))
      (then_again _ _ _ _ _ (expect_again _ _ _) refl)

  next_part_again : (x : Bool × Part) (r : List Lexeme) → length (next_part_tokens x ++ r) ≤ suc limit → Passes (λ p. part_fits p.1) x → EndsPart r → next_part inner (next_part_tokens x ++ r) ≡ Ok (x, r)
  unfolding next_part part_mark
  next_part_again x r bound fits ends =
      then_again _ _ _ _ _ (mark_again _ _ x.0 (part_tokens x.1 ++ r))
      (then_again _ _ _ _ _ (part_again x.1 r (omega arith) fits ends) refl)

  next_part_starts : (x : Bool × Part) (r : List Lexeme) → Passes (λ p. part_fits p.1) x → has_part_mark (next_part_tokens x ++ r) ≡ true
  unfolding has_part_mark same_kind
  next_part_starts x r fits = by_mark x.0
    where
      by_mark : (w : Bool) → has_mark (codes "^") (codes "INTERSECTION") ((cond w (word (codes "INTERSECTION")) (mark (codes "^"))) ∷ (part_tokens x.1 ++ r)) ≡ true
      by_mark true = rw (sees_again Word (codes "INTERSECTION") (part_tokens x.1 ++ r)) refl
      by_mark false = rw (sees_again Mark (codes "^") (part_tokens x.1 ++ r), sees_kind Word Mark (codes "INTERSECTION") (codes "^") (part_tokens x.1 ++ r) refl) refl

  next_part_ends : (x : Bool × Part) (r : List Lexeme) → Passes (λ p. part_fits p.1) x → EndsPart (next_part_tokens x ++ r)
  unfolding same_kind
  next_part_ends x r fits = by_mark x.0
    where
      by_mark : (w : Bool) → EndsPart ((cond w (word (codes "INTERSECTION")) (mark (codes "^"))) ∷ (part_tokens x.1 ++ r))
      by_mark true = record { element = record { less = sees_kind _ _ _ _ _ refl; dots = sees_kind _ _ _ _ _ refl }; but = sees_text _ _ _ _ refl }
      by_mark false = record { element = record { less = sees_text _ _ _ _ refl; dots = sees_text _ _ _ _ refl }; but = sees_kind _ _ _ _ _ refl }

  next_part_some : (x : Bool × Part) → Passes (λ p. part_fits p.1) x → 0 < length (next_part_tokens x)
  next_part_some x fits = omega arith

  parts_again : (xs : List (Bool × Part)) (r : List Lexeme) → length (flat_map next_part_tokens xs ++ r) ≤ suc limit → AllByRecursion (Passes (λ p. part_fits p.1)) xs → EndsMeet r
      → many has_part_mark (next_part inner) (flat_map next_part_tokens xs ++ r) ≡ Ok (xs, r)
  parts_again xs r bound fits ends = many_again has_part_mark (next_part inner) next_part_tokens (Passes (λ p. part_fits p.1)) EndsPart (suc limit) next_part_again next_part_starts next_part_ends next_part_some xs r bound fits ends.part ends.mark

  parts_end : (xs : List (Bool × Part)) (r : List Lexeme) → AllByRecursion (Passes (λ p. part_fits p.1)) xs → EndsPart r → EndsPart (flat_map next_part_tokens xs ++ r)
  parts_end [] r fits ends = ends
  parts_end (x ∷ xs) r fits ends = subst EndsPart (sym (append_assoc (next_part_tokens x) (flat_map next_part_tokens xs) r)) (next_part_ends x (flat_map next_part_tokens xs ++ r) fits.0)

  meet_again : (x : Meet) (r : List Lexeme) → length (meet_tokens x ++ r) ≤ suc limit → Passes meet_fits x → EndsMeet r → meet inner (meet_tokens x ++ r) ≡ Ok (x, r)
  unfolding meet
  meet_again x r = form.by_meet (λ x. length (meet_tokens x ++ r) ≤ suc limit → Passes meet_fits x → EndsMeet r → meet inner (meet_tokens x ++ r) ≡ Ok (x, r))
      (λ first more bound fits ends.
      let whole : meet_tokens (roll-Meet (record { first = first; more = more })) ++ r ≡ part_tokens first ++ (flat_map next_part_tokens more ++ r) = rw (form.tokens_meet first more, append_assoc) refl in
      let f = and_parts (part_fits first) (list_all (λ (p : Bool × Part). part_fits p.1) more) (sym (form.fits_meet first more) ∙ fits) in
      let all = pass_all (λ (p : Bool × Part). part_fits p.1) more f.1 in
      let in_all : length (part_tokens first ++ (flat_map next_part_tokens more ++ r)) ≤ suc limit = subst (λ (z : List Lexeme). length z ≤ suc limit) whole bound in
      let in_rest : length (flat_map next_part_tokens more ++ r) ≤ suc limit = omega (arith, length-append (part_tokens first) (flat_map next_part_tokens more ++ r)) in
      rw whole
      (then_again _ _ _ _ _ (part_again first _ in_all f.0 (parts_end more r all ends.part))
      (then_again _ _ _ _ _ (parts_again more r in_rest all ends) refl)))
      x

  abbrev next_meet_tokens : Bool × Meet → List Lexeme
  next_meet_tokens p = joined_tokens (codes "|") (codes "UNION") (p.0, meet_tokens p.1)

  next_meet_again : (x : Bool × Meet) (r : List Lexeme) → length (next_meet_tokens x ++ r) ≤ suc limit → Passes (λ p. meet_fits p.1) x → EndsMeet r → next_meet inner (next_meet_tokens x ++ r) ≡ Ok (x, r)
  unfolding next_meet meet_mark
  next_meet_again x r bound fits ends =
      then_again _ _ _ _ _ (mark_again _ _ x.0 (meet_tokens x.1 ++ r))
      (then_again _ _ _ _ _ (meet_again x.1 r (omega arith) fits ends) refl)

  next_meet_starts : (x : Bool × Meet) (r : List Lexeme) → Passes (λ p. meet_fits p.1) x → has_meet_mark (next_meet_tokens x ++ r) ≡ true
  unfolding has_meet_mark same_kind
  next_meet_starts x r fits = by_mark x.0
    where
      by_mark : (w : Bool) → has_mark (codes "|") (codes "UNION") ((cond w (word (codes "UNION")) (mark (codes "|"))) ∷ (meet_tokens x.1 ++ r)) ≡ true
      by_mark true = rw (sees_again Word (codes "UNION") (meet_tokens x.1 ++ r)) refl
      by_mark false = rw (sees_again Mark (codes "|") (meet_tokens x.1 ++ r), sees_kind Word Mark (codes "UNION") (codes "|") (meet_tokens x.1 ++ r) refl) refl

  next_meet_ends : (x : Bool × Meet) (r : List Lexeme) → Passes (λ p. meet_fits p.1) x → EndsMeet (next_meet_tokens x ++ r)
  unfolding has_part_mark same_kind
  next_meet_ends x r fits = by_mark x.0
    where
      by_mark : (w : Bool) → EndsMeet ((cond w (word (codes "UNION")) (mark (codes "|"))) ∷ (meet_tokens x.1 ++ r))
      by_mark true = record {
        part = record { element = record { less = sees_kind _ _ _ _ _ refl; dots = sees_kind _ _ _ _ _ refl }; but = sees_text _ _ _ _ refl };
        mark = rw (sees_text Word (codes "INTERSECTION") (codes "UNION") (meet_tokens x.1 ++ r) refl) (sees_kind _ _ _ _ _ refl);
      }
      by_mark false = record {
        part = record { element = record { less = sees_text _ _ _ _ refl; dots = sees_text _ _ _ _ refl }; but = sees_kind _ _ _ _ _ refl };
        mark = rw (sees_kind Word Mark (codes "INTERSECTION") (codes "|") (meet_tokens x.1 ++ r) refl) (sees_text _ _ _ _ refl);
      }

  next_meet_some : (x : Bool × Meet) → Passes (λ p. meet_fits p.1) x → 0 < length (next_meet_tokens x)
  next_meet_some x fits = omega arith

  -- a closing parenthesis ends all
  closing_ends : (r : List Lexeme) → EndsMeet (closing r)
  unfolding has_part_mark same_kind
  closing_ends r = record {
    part = record { element = record { less = sees_text _ _ _ _ refl; dots = sees_text _ _ _ _ refl }; but = sees_kind _ _ _ _ _ refl };
    mark = rw (sees_kind Word Mark (codes "INTERSECTION") (codes ")") r refl) (sees_text _ _ _ _ refl);
  }

  closing_no_meet : (r : List Lexeme) → has_meet_mark (closing r) ≡ false
  unfolding has_meet_mark same_kind
  closing_no_meet r = rw (sees_kind Word Mark (codes "UNION") (codes ")") r refl) (sees_text _ _ _ _ refl)

  meets_again : (xs : List (Bool × Meet)) (r : List Lexeme) → length (flat_map next_meet_tokens xs ++ closing r) ≤ suc limit → AllByRecursion (Passes (λ p. meet_fits p.1)) xs
      → many has_meet_mark (next_meet inner) (flat_map next_meet_tokens xs ++ closing r) ≡ Ok (xs, closing r)
  meets_again xs r bound fits = many_again has_meet_mark (next_meet inner) next_meet_tokens (Passes (λ p. meet_fits p.1)) EndsMeet (suc limit) next_meet_again next_meet_starts next_meet_ends next_meet_some xs (closing r) bound fits (closing_ends r) (closing_no_meet r)

  meets_end : (xs : List (Bool × Meet)) (r : List Lexeme) → AllByRecursion (Passes (λ p. meet_fits p.1)) xs → EndsMeet (flat_map next_meet_tokens xs ++ closing r)
  meets_end [] r fits = closing_ends r
  meets_end (x ∷ xs) r fits = subst EndsMeet (sym (append_assoc (next_meet_tokens x) (flat_map next_meet_tokens xs) (closing r))) (next_meet_ends x (flat_map next_meet_tokens xs ++ closing r) fits.0)

  is_all : IsOtherHere (codes "ALL")
  unfolding is_identifier
  is_all = record { plain = record { is_upper = refl; is_not_true = refl; is_not_false = refl; is_not_null = refl }; is_not_min = refl; is_not_size = refl; is_not_from = refl }

  part_word : (x : Part) (r : List Lexeme) → Passes part_fits x → sees Word (codes "ALL") (part_tokens x ++ r) ≡ false
  part_word x r = form.by_part (λ x. Passes part_fits x → sees Word (codes "ALL") (part_tokens x ++ r) ≡ false)
      (λ e but fits. rw (form.tokens_part e but, append_assoc) (element_word e _ _ (and_parts (element_fits e) (but_proper (option_map element_fits but)) (sym (form.fits_part e but) ∙ fits)).0 is_all))
      x

  meet_word : (x : Meet) (r : List Lexeme) → Passes meet_fits x → sees Word (codes "ALL") (meet_tokens x ++ r) ≡ false
  meet_word x r = form.by_meet (λ x. Passes meet_fits x → sees Word (codes "ALL") (meet_tokens x ++ r) ≡ false)
      (λ first more fits. rw (form.tokens_meet first more, append_assoc) (part_word first _ (and_parts (part_fits first) (list_all (λ (p : Bool × Part). part_fits p.1) more) (sym (form.fits_meet first more) ∙ fits)).0))
      x

  set_in_again : (x : Set) (r : List Lexeme) → length (set_tokens x ++ closing r) ≤ suc limit → Passes set_fits x → set_in inner (set_tokens x ++ closing r) ≡ Ok (x, closing r)
  unfolding set_in all_except union
  set_in_again x r = form.by_set (λ x. length (set_tokens x ++ closing r) ≤ suc limit → Passes set_fits x → set_in inner (set_tokens x ++ closing r) ≡ Ok (x, closing r))
      (λ e bound fits.
      let t = form.tokens_AllExcept e in
      let in_element : length (element_tokens e ++ closing r) ≤ suc limit = omega (arith, ap (λ (z : List Lexeme). length (z ++ closing r)) t) in
      rw t
      (then_again _ _ _ _ _ (eat_again _ _ _)
      (then_again _ _ _ _ _ (expect_again _ _ _)
      (then_again _ _ _ _ _ (element_again e _ in_element (sym (form.fits_AllExcept e) ∙ fits) (closing_ends r).part.element) refl))))
      (λ m more bound fits.
      let whole : set_tokens (set.Union m more) ++ closing r ≡ meet_tokens m ++ (flat_map next_meet_tokens more ++ closing r) = rw (form.tokens_Union m more, append_assoc) refl in
      let f = and_parts (meet_fits m) (list_all (λ (p : Bool × Meet). meet_fits p.1) more) (sym (form.fits_Union m more) ∙ fits) in
      let all = pass_all (λ (p : Bool × Meet). meet_fits p.1) more f.1 in
      let in_all : length (meet_tokens m ++ (flat_map next_meet_tokens more ++ closing r)) ≤ suc limit = subst (λ (z : List Lexeme). length z ≤ suc limit) whole bound in
      let in_rest : length (flat_map next_meet_tokens more ++ closing r) ≤ suc limit = omega (arith, length-append (meet_tokens m) (flat_map next_meet_tokens more ++ closing r)) in
      rw whole
      (then_again _ _ _ _ _ (eat_nothing _ _ _ (meet_word m _ f.0))
      (then_again _ _ _ _ _ (meet_again m _ in_all f.0 (meets_end more r all))
      (then_again _ _ _ _ _ (meets_again more r in_rest all) refl))))
      x

-- Each proper set is read from its tokens, where as many sets may be in one another as there are tokens.
pub set_again : (n : ℕ) (s : Set) (r : List Lexeme) → length (set_tokens s ++ closing r) ≤ n → Passes set_fits s → set_at n (set_tokens s ++ closing r) ≡ Ok (s, closing r)
set_again zero s r bound fits = absurd (omega (arith, length-append (set_tokens s) (closing r)))
set_again (suc n) s r bound fits = set_in_again (set_at n) n (set_again n) s r bound fits
