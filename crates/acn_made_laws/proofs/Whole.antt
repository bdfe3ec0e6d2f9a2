-- All rules of a tree at once.
use Rattle.std.proofs.Common.{◌≡◌, Bool, true, false, true≢false, ◌&&◌, nat_le, List, [], ◌∷◌, length, Option, Some, None, refl, sym}
use Rattle.std.specs.List.{AllByRecursion, list_all, range_with_len}
use Rattle.acn_acn_syntax.specs.declared.modules.Alignment.TheVariants as alignment
use Rattle.acn_acn_syntax.specs.declared.modules.Attr.{Attr}
use Rattle.acn_acn_syntax.specs.declared.modules.Attr.TheVariants as attr
use Rattle.acn_grammar.specs.Tree.{is_align, form_fine, role_fine, own_used, names_open, home_fine, slots_of, same_numbers, stand_rules, all_true, are_fine}
use Rattle.acn_grammar.specs.Walk.{Stand}
use Rattle.acn_grammar.specs.declared.limits.TheConstants.{MOST_NODES}
use Rattle.acn_home_laws.specs.Rules.{slot_rules, slots_fine}
use Rattle.acn_home_laws.proofs.Members.{each_has, all_pass, each_passes}
use Rattle.acn_home_laws.proofs.Onward.{both_true, true_both}
use Rattle.acn_made.specs.Made.{alignment_in, alignment_by, alignment_at}
use Rattle.acn_num.specs.declared.limits.TheConstants.{MOST_STEPS}
use Rattle.acn_sites.specs.Attributes.{Given, nearest}
use Rattle.acn_sites.specs.Sites.{Site}
use Rattle.acn_sites.specs.declared.attributes.AttrKind.TheVariants as kind

-- ---- alignments

align_in : (a : Attr) → is_align (alignment_in a) ≡ true
align_in (attr.Size x) = refl
align_in (attr.Encoding e) = refl
align_in (attr.Endianness e) = refl
align_in (attr.AlignToNext alignment.Byte) = refl
align_in (attr.AlignToNext alignment.Word) = refl
align_in (attr.AlignToNext alignment.Dword) = refl
align_in attr.EncodeValues = refl
align_in (attr.TrueValue l) = refl
align_in (attr.FalseValue l) = refl
align_in (attr.Pattern l) = refl
align_in (attr.TerminationPattern l) = refl
align_in (attr.PresentWhen cs) = refl
align_in (attr.Determinant p) = refl
align_in (attr.MappingFunction n) = refl

align_by : (o : Option Given) → is_align (alignment_by o) ≡ true
align_by None = refl
align_by (Some g) = align_in g.attr

pub align_fine : (s : Site) → is_align (alignment_at s) ≡ true
align_fine s = align_by (nearest kind.AlignToNext s)

-- ---- the rules of a node

seven : (a b c d e f g : Bool) → a ≡ true → b ≡ true → c ≡ true → d ≡ true → all_true (e ∷ f ∷ g ∷ []) ≡ true → all_true (a ∷ b ∷ c ∷ d ∷ e ∷ f ∷ g ∷ []) ≡ true
seven true true true true e f g h k l m n = n
seven true true true false e f g h k l m n = absurd (true≢false (sym m))
seven true true false d e f g h k l m n = absurd (true≢false (sym l))
seven true false c d e f g h k l m n = absurd (true≢false (sym k))
seven false b c d e f g h k l m n = absurd (true≢false (sym h))

pub fine_whole : (all : List Stand) → nat_le (length all) MOST_NODES ≡ true → AllByRecursion (λ (at : Stand). nat_le (length at.path) MOST_STEPS ≡ true) all → AllByRecursion (λ (at : Stand). is_align at.align ≡ true) all
    → AllByRecursion (λ (at : Stand). form_fine at.form ≡ true) all → AllByRecursion (λ (at : Stand). role_fine at.role at.form ≡ true) all → slots_fine all ≡ true → are_fine all ≡ true
fine_whole all few short aligned formed roles slots =
    let s = both_true (same_numbers (slots_of all) (range_with_len 0 (length (slots_of all)))) (list_all (λ at. all_true (slot_rules all at)) all) slots in
    true_both (nat_le (length all) MOST_NODES) (same_numbers (slots_of all) (range_with_len 0 (length (slots_of all))) && list_all (λ at. all_true (stand_rules all at)) all) few
    (true_both (same_numbers (slots_of all) (range_with_len 0 (length (slots_of all)))) (list_all (λ at. all_true (stand_rules all at)) all) s.0
    (all_pass (λ at. all_true (stand_rules all at)) all
    (λ at m. seven (nat_le (length at.path) MOST_STEPS) (is_align at.align) (form_fine at.form) (role_fine at.role at.form) (own_used all at.role) (names_open at) (home_fine all at at.form)
    (each_has (λ (at : Stand). nat_le (length at.path) MOST_STEPS ≡ true) all short at m)
    (each_has (λ (at : Stand). is_align at.align ≡ true) all aligned at m)
    (each_has (λ (at : Stand). form_fine at.form ≡ true) all formed at m)
    (each_has (λ (at : Stand). role_fine at.role at.form ≡ true) all roles at m)
    (each_passes (λ at. all_true (slot_rules all at)) all s.1 at m))))
