-- What the patterns of a site are.
use Rattle.std.proofs.Common.{◌≡◌, ℕ, Bool, true, false, not, ◌&&◌, ◌||◌, List, length, Option, Some, None, refl, subst, arith}
use Rattle.std.specs.Prelude.{nat_lt, nat_le, if◌then◌else◌, option_map}
use Rattle.std.proofs.lemmas.Bool.{or_parts, not-false}
use Rattle.std.proofs.lemmas.Bool.Decides.{nat_tests}
use Rattle.acn_acn_syntax.specs.declared.modules.Literal.{Literal}
use Rattle.acn_codings.specs.Literals.{bits_in, fitting}
use Rattle.acn_grammar.specs.Leaves.{is_pattern, is_terminator, flag_patterns_fine}
use Rattle.acn_grammar.specs.declared.limits.TheConstants.{MOST_PATTERN_BITS}
use Rattle.acn_sites.specs.Sites.{Site}
use Rattle.acn_sites.specs.declared.attributes.AttrKind.{AttrKind}
use Rattle.acn_sites.specs.declared.attributes.AttrKind.TheVariants as kind
use Rattle.acn_written.specs.Ends.{zero_octet, or_zero_octet, end_of}
use Rattle.acn_written.specs.Patterns.{pattern_attr, bits_given, is_unfit, clashes, flags_clash, ends_number}
use Rattle.acn_written.specs.Says.{literal_attr}

same_test : (n : ℕ) → (nat_lt 0 n && nat_le n MOST_PATTERN_BITS) ≡ true → (nat_le 1 n && nat_le n MOST_PATTERN_BITS) ≡ true
same_test n h = grind (arith, nat_tests)

fitting_pattern : (bits p : List Bool) → fitting bits ≡ Some p → is_pattern p ≡ true
fitting_pattern bits p h = by (nat_lt 0 (length bits) && nat_le (length bits) MOST_PATTERN_BITS) refl h
  where
    by : (t : Bool) → (nat_lt 0 (length bits) && nat_le (length bits) MOST_PATTERN_BITS) ≡ t → ◌≡◌ {A = Option (List Bool)} (if t then Some bits else None) (Some p) → is_pattern p ≡ true
    by true e f = let i : bits ≡ p = cc in subst (λ (z : List Bool). is_pattern z ≡ true) i (same_test (length bits) e)
    by false e f = cc

-- the bits that an attribute gives are a pattern
pub pattern_given : (k : AttrKind) (s : Site) (p : List Bool) → bits_given (pattern_attr k s) ≡ Some p → is_pattern p ≡ true
pattern_given k s p h = by (literal_attr k s) h
  where
    by : (o : Option Literal) → bits_given (option_map (λ (l : Literal). fitting (bits_in l)) o) ≡ Some p → is_pattern p ≡ true
    by None f = cc
    by (Some l) f = fitting_pattern (bits_in l) p f

zero_pattern : is_pattern zero_octet ≡ true
zero_pattern = refl

-- and so is the end of a number, a text or a list
pub end_pattern : (s : Site) → is_pattern (end_of s) ≡ true
end_pattern s = by (bits_given (pattern_attr kind.TerminationPattern s)) refl
  where
    by : (o : Option (List Bool)) → bits_given (pattern_attr kind.TerminationPattern s) ≡ o → is_pattern (or_zero_octet o) ≡ true
    by None e = zero_pattern
    by (Some p) e = pattern_given kind.TerminationPattern s p e

-- where no pattern clashes the end is one that may stand
pub end_may : (may : List Bool → Bool) (s : Site) → may zero_octet ≡ true → clashes may (pattern_attr kind.TerminationPattern s) ≡ false → may (end_of s) ≡ true
end_may may s zeros h = by (pattern_attr kind.TerminationPattern s) h
  where
    by : (o : Option (Option (List Bool))) → clashes may o ≡ false → may (or_zero_octet (bits_given o)) ≡ true
    by None f = zeros
    by (Some None) f = cc
    by (Some (Some bits)) f = not-false (may bits) f

pub number_end : (s : Site) → clashes ends_number (pattern_attr kind.TerminationPattern s) ≡ false → ends_number (end_of s) ≡ true
number_end s h = end_may ends_number s refl h

pub text_end : (s : Site) → clashes is_terminator (pattern_attr kind.TerminationPattern s) ≡ false → is_terminator (end_of s) ≡ true
text_end s h = end_may is_terminator s refl h

pub flags : (ones zeros : Option (Option (List Bool))) → flags_clash ones zeros ≡ false → flag_patterns_fine (bits_given ones) (bits_given zeros) ≡ true
flags ones zeros h =
    let one = or_parts (is_unfit ones) (is_unfit zeros || not (flag_patterns_fine (bits_given ones) (bits_given zeros))) h in
    let two = or_parts (is_unfit zeros) (not (flag_patterns_fine (bits_given ones) (bits_given zeros))) one.1 in
    not-false (flag_patterns_fine (bits_given ones) (bits_given zeros)) two.1
