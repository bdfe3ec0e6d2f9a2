-- The tokens of each form of a set, and when it is proper.
use Rattle.std.proofs.Common.{◌≡◌, Bool, true, false, ◌&&◌, cond, List, [], ◌∷◌, ◌++◌, Option, Some, None, refl, sym, ap, subst, ◌∙◌}
use Rattle.std.specs.Prelude.{codes, map, option_map}
use Rattle.std.specs.List.{flat_map, list_all}
use Rattle.std.specs.Prelude.{ℕ}
use Rattle.std.proofs.lemmas.List.{append-nil}
use Rattle.acn_lex.specs.Lexeme.{Lexeme}
use Rattle.acn_asn_syntax.specs.declared.values.AsnValue.{AsnValue}
use Rattle.acn_asn_syntax.specs.declared.sets.AsnRange.{AsnRange}
use Rattle.acn_asn_syntax.specs.declared.sets.Element.{Element}
use Rattle.acn_asn_syntax.specs.declared.sets.Element.TheVariants as element
use Rattle.acn_asn_syntax.specs.declared.sets.Set.{Set}
use Rattle.acn_asn_syntax.specs.declared.sets.Set.TheVariants as set
use Rattle.acn_asn_syntax.specs.declared.sets.Meet.{Meet}
use Rattle.acn_asn_syntax.specs.declared.sets.Part.{Part}
use Rattle.acn_asn_syntax.specs.declared.sets.Element.TheOpen.{Element-F, Set-F}
use Rattle.acn_asn_syntax.specs.declared.sets.Element.TheViews.{roll-Element, roll-Set, roll-Meet, roll-Part, out-Element, out-Set, out-Meet, out-Part, roll-out-Element, roll-out-Set, roll-out-Meet, roll-out-Part}
use Rattle.acn_asn_syntax.specs.declared.sets.Element.TheFolds.{fold-roll-Element, fold-roll-Set, fold-roll-Meet, fold-roll-Part}
use Rattle.acn_asn_syntax.specs.Mirror as plain
use Rattle.acn_asn_syntax.specs.Spelling as spelling
use Rattle.acn_asn_syntax.specs.Values.{word, mark, value_tokens, value_fits, range_tokens, range_fits, in_parentheses}
use Rattle.acn_asn_syntax.specs.View.{seen_meet, seen_part, element_view, set_view, meet_view, part_view, element_step, set_step, meet_step, part_step, meets_of, parts_of}
use Rattle.acn_asn_syntax.specs.Trees.{element_tokens, set_tokens, meet_tokens, part_tokens, element_fits, set_fits, meet_fits, part_fits}
use Rattle.acn_asn_syntax.proofs.Views.{view_Value, view_Range, view_Sized, view_Letters, view_Inner, view_AllExcept, view_Union, view_meet, view_part, view_but}

-- what stands behind its mark, which is a word or a sign
abbrev pub joined_tokens : List ℕ → List ℕ → Bool × List Lexeme → List Lexeme
joined_tokens sign written p = (cond p.0 (word written) (mark sign)) ∷ p.1

abbrev pub but_tokens : Option (List Lexeme) → List Lexeme
but_tokens None = []
but_tokens (Some e) = word (codes "EXCEPT") ∷ e

abbrev pub but_proper : Option Bool → Bool
but_proper None = true
but_proper (Some e) = e

abbrev pub more_meets : List (Bool × Meet) → List Lexeme
more_meets = flat_map (λ p. joined_tokens (codes "|") (codes "UNION") (p.0, meet_tokens p.1))

abbrev pub more_parts : List (Bool × Part) → List Lexeme
more_parts = flat_map (λ p. joined_tokens (codes "^") (codes "INTERSECTION") (p.0, part_tokens p.1))

-- ---- lists of them

meets_tokens : (more : List (Bool × Meet)) → spelling.meets_tokens (meets_of (map seen_meet more)) ≡ more_meets more
unfolding spelling.meets_tokens meet_tokens
meets_tokens [] = refl
meets_tokens (p ∷ more) = ap (λ z. (cond p.0 (word (codes "UNION")) (mark (codes "|"))) ∷ (spelling.meet_tokens (meet_view p.1) ++ z)) (meets_tokens more)

parts_tokens : (more : List (Bool × Part)) → spelling.parts_tokens (parts_of (map seen_part more)) ≡ more_parts more
unfolding spelling.parts_tokens part_tokens
parts_tokens [] = refl
parts_tokens (p ∷ more) = ap (λ z. (cond p.0 (word (codes "INTERSECTION")) (mark (codes "^"))) ∷ (spelling.part_tokens (part_view p.1) ++ z)) (parts_tokens more)

meets_fit : (more : List (Bool × Meet)) → spelling.meets_fits (meets_of (map seen_meet more)) ≡ list_all (λ p. meet_fits p.1) more
unfolding spelling.meets_fits meet_fits
meets_fit [] = refl
meets_fit (p ∷ more) = ap (λ b. spelling.meet_fits (meet_view p.1) && b) (meets_fit more)

parts_fit : (more : List (Bool × Part)) → spelling.parts_fits (parts_of (map seen_part more)) ≡ list_all (λ p. part_fits p.1) more
unfolding spelling.parts_fits part_fits
parts_fit [] = refl
parts_fit (p ∷ more) = ap (λ b. spelling.part_fits (part_view p.1) && b) (parts_fit more)

-- ---- the tokens of each form

pub tokens_Value : (v : AsnValue) → element_tokens (element.Value v) ≡ value_tokens v
unfolding element_tokens spelling.element_tokens
tokens_Value v = ap spelling.element_tokens (view_Value v)

pub tokens_Range : (r : AsnRange) → element_tokens (element.Range r) ≡ range_tokens r
unfolding element_tokens spelling.element_tokens
tokens_Range r = ap spelling.element_tokens (view_Range r)

pub tokens_SizeOf : (s : Set) → element_tokens (element.SizeOf s) ≡ word (codes "SIZE") ∷ in_parentheses (set_tokens s)
unfolding element_tokens set_tokens spelling.element_tokens
tokens_SizeOf s = ap spelling.element_tokens (view_Sized s)

pub tokens_From : (s : Set) → element_tokens (element.From s) ≡ word (codes "FROM") ∷ in_parentheses (set_tokens s)
unfolding element_tokens set_tokens spelling.element_tokens
tokens_From s = ap spelling.element_tokens (view_Letters s)

pub tokens_Inner : (s : Set) → element_tokens (element.Inner s) ≡ in_parentheses (set_tokens s)
unfolding element_tokens set_tokens spelling.element_tokens
tokens_Inner s = ap spelling.element_tokens (view_Inner s)

pub tokens_AllExcept : (e : Element) → set_tokens (set.AllExcept e) ≡ word (codes "ALL") ∷ word (codes "EXCEPT") ∷ element_tokens e
unfolding element_tokens set_tokens spelling.set_tokens
tokens_AllExcept e = ap spelling.set_tokens (view_AllExcept e)

pub tokens_Union : (m : Meet) (more : List (Bool × Meet)) → set_tokens (set.Union m more) ≡ meet_tokens m ++ more_meets more
unfolding set_tokens meet_tokens spelling.set_tokens
tokens_Union m more = ap spelling.set_tokens (view_Union m more) ∙ ap (λ (z : List Lexeme). spelling.meet_tokens (meet_view m) ++ z) (meets_tokens more)

pub tokens_meet : (first : Part) (more : List (Bool × Part)) → meet_tokens (roll-Meet (record { first = first; more = more })) ≡ part_tokens first ++ more_parts more
unfolding meet_tokens part_tokens spelling.meet_tokens
tokens_meet first more = ap spelling.meet_tokens (view_meet first more) ∙ ap (λ (z : List Lexeme). spelling.part_tokens (part_view first) ++ z) (parts_tokens more)

pub tokens_part : (e : Element) (but : Option Element) → part_tokens (roll-Part (record { element = e; but = but })) ≡ element_tokens e ++ but_tokens (option_map element_tokens but)
unfolding part_tokens element_tokens spelling.part_tokens
tokens_part e None = ap spelling.part_tokens (view_part e) ∙ sym (append-nil (spelling.element_tokens (element_view e)))
tokens_part e (Some f) = ap spelling.part_tokens (view_but e f)

-- ---- and when it is proper

pub fits_Value : (v : AsnValue) → element_fits (element.Value v) ≡ value_fits v
unfolding element_fits spelling.element_fits
fits_Value v = ap spelling.element_fits (view_Value v)

pub fits_Range : (r : AsnRange) → element_fits (element.Range r) ≡ range_fits r
unfolding element_fits spelling.element_fits
fits_Range r = ap spelling.element_fits (view_Range r)

pub fits_SizeOf : (s : Set) → element_fits (element.SizeOf s) ≡ set_fits s
unfolding element_fits set_fits spelling.element_fits
fits_SizeOf s = ap spelling.element_fits (view_Sized s)

pub fits_From : (s : Set) → element_fits (element.From s) ≡ set_fits s
unfolding element_fits set_fits spelling.element_fits
fits_From s = ap spelling.element_fits (view_Letters s)

pub fits_Inner : (s : Set) → element_fits (element.Inner s) ≡ set_fits s
unfolding element_fits set_fits spelling.element_fits
fits_Inner s = ap spelling.element_fits (view_Inner s)

pub fits_AllExcept : (e : Element) → set_fits (set.AllExcept e) ≡ element_fits e
unfolding element_fits set_fits spelling.set_fits
fits_AllExcept e = ap spelling.set_fits (view_AllExcept e)

pub fits_Union : (m : Meet) (more : List (Bool × Meet)) → set_fits (set.Union m more) ≡ meet_fits m && list_all (λ p. meet_fits p.1) more
unfolding set_fits meet_fits spelling.set_fits
fits_Union m more = ap spelling.set_fits (view_Union m more) ∙ ap (λ b. spelling.meet_fits (meet_view m) && b) (meets_fit more)

pub fits_meet : (first : Part) (more : List (Bool × Part)) → meet_fits (roll-Meet (record { first = first; more = more })) ≡ part_fits first && list_all (λ p. part_fits p.1) more
unfolding meet_fits part_fits spelling.meet_fits
fits_meet first more = ap spelling.meet_fits (view_meet first more) ∙ ap (λ b. spelling.part_fits (part_view first) && b) (parts_fit more)

and_true : (b : Bool) → b ≡ b && true
and_true true = refl
and_true false = refl

pub fits_part : (e : Element) (but : Option Element) → part_fits (roll-Part (record { element = e; but = but })) ≡ element_fits e && but_proper (option_map element_fits but)
unfolding part_fits element_fits spelling.part_fits
fits_part e None = ap spelling.part_fits (view_part e) ∙ and_true (spelling.element_fits (element_view e))
fits_part e (Some f) = ap spelling.part_fits (view_but e f)

-- ---- what is shown of each form is shown of all

pub by_element : (P : Element → Type 0) → ((v : AsnValue) → P (element.Value v)) → ((r : AsnRange) → P (element.Range r)) → ((s : Set) → P (element.SizeOf s)) → ((s : Set) → P (element.From s)) → ((s : Set) → P (element.Inner s)) → (x : Element) → P x
by_element P value range size from inner x = subst P (roll-out-Element x) (at (out-Element x))
  where
    at : (y : Element-F Element Set Meet Part) → P (roll-Element y)
    at (Element-F.Value v) = subst P (sym (element.rolls-Value v)) (value v)
    at (Element-F.Range r) = subst P (sym (element.rolls-Range r)) (range r)
    at (Element-F.SizeOf s) = subst P (sym (element.rolls-SizeOf s)) (size s)
    at (Element-F.From s) = subst P (sym (element.rolls-From s)) (from s)
    at (Element-F.Inner s) = subst P (sym (element.rolls-Inner s)) (inner s)

pub by_set : (P : Set → Type 0) → ((e : Element) → P (set.AllExcept e)) → ((m : Meet) (more : List (Bool × Meet)) → P (set.Union m more)) → (x : Set) → P x
by_set P all union x = subst P (roll-out-Set x) (at (out-Set x))
  where
    at : (y : Set-F Element Set Meet Part) → P (roll-Set y)
    at (Set-F.AllExcept e) = subst P (sym (set.rolls-AllExcept e)) (all e)
    at (Set-F.Union m more) = subst P (sym (set.rolls-Union m more)) (union m more)

pub by_meet : (P : Meet → Type 0) → ((first : Part) (more : List (Bool × Part)) → P (roll-Meet (record { first = first; more = more }))) → (x : Meet) → P x
by_meet P made x = subst P (roll-out-Meet x) (made (out-Meet x).first (out-Meet x).more)

pub by_part : (P : Part → Type 0) → ((e : Element) (but : Option Element) → P (roll-Part (record { element = e; but = but }))) → (x : Part) → P x
by_part P made x = subst P (roll-out-Part x) (made (out-Part x).element (out-Part x).but)
