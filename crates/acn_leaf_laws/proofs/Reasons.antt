-- At a site without a reason none of the reasons holds.
use Rattle.std.proofs.Common.{◌≡◌, ℕ, zero, suc, Bool, true, false, List, [], ◌∷◌, drop, Option, None, refl}
use Rattle.std.specs.Prelude.{option_map}
use Rattle.acn_enum_values.specs.EnumValues.{enum_values}
use Rattle.acn_index.specs.World.{World}
use Rattle.acn_reasons.specs.Constrained.{constraint_fault}
use Rattle.acn_reasons.specs.Standing.{attribute_not_here}
use Rattle.acn_sites.specs.Sites.{Site}
use Rattle.acn_survey.specs.Reasons as survey
use Rattle.acn_survey.specs.Reasons.{Reason, given, first, reasons_at, reason_at}
use Rattle.acn_written.specs.Mapped.{bad_mapping}
use Rattle.acn_written.specs.Numbers.{too_narrow}
use Rattle.acn_written.specs.Patterns.{pattern_clash}
use Rattle.acn_written.specs.Widths.{bad_size, bad_endianness}
use Rattle.acn_leaf_laws.proofs.Options.{both_none, unmapped}

-- none of those behind the first k
behind : (k : ℕ) (rs : List (Option Reason)) → first rs ≡ None → first (drop k rs) ≡ None
behind zero rs h = h
behind (suc k) [] h = refl
behind (suc k) (r ∷ rs) h = behind k rs (both_none r (first rs) h).1

here : (r : Option Reason) (rs : List (Option Reason)) → first (r ∷ rs) ≡ None → r ≡ None
here r rs h = (both_none r (first rs) h).0

not_given : (b : Bool) (r : Reason) → given b r ≡ None → b ≡ false
not_given true r h = cc
not_given false r h = refl

-- The reasons on which the rules of leaves rest.
pub record IsClear (w : World) (s : Site) : Type 0 where
  pub standing : attribute_not_here s ≡ None
  pub constraints : constraint_fault w s ≡ None
  pub mapping : bad_mapping w s ≡ None
  pub items : enum_values s ≡ None
  pub patterns : pattern_clash s ≡ false
  pub size : bad_size w s ≡ false
  pub endianness : bad_endianness w s ≡ false
  pub narrow : too_narrow w s ≡ None

module _ (w : World) (number : ℕ) (s : Site) where
  abbrev all : List (Option Reason)
  all = reasons_at w number s

  of_first : first all ≡ None → IsClear w s
  of_first h = record {
    standing = unmapped survey.not_here (attribute_not_here s) (here (option_map survey.not_here (attribute_not_here s)) (drop 4 all) (behind 3 all h));
    constraints = unmapped survey.constraint (constraint_fault w s) (here (option_map survey.constraint (constraint_fault w s)) (drop 5 all) (behind 4 all h));
    mapping = unmapped survey.mapping (bad_mapping w s) (here (option_map survey.mapping (bad_mapping w s)) (drop 9 all) (behind 8 all h));
    items = unmapped survey.item_numbers (enum_values s) (here (option_map survey.item_numbers (enum_values s)) (drop 10 all) (behind 9 all h));
    patterns = not_given (pattern_clash s) survey.patterns (here (given (pattern_clash s) survey.patterns) (drop 11 all) (behind 10 all h));
    size = not_given (bad_size w s) survey.size (here (given (bad_size w s) survey.size) (drop 12 all) (behind 11 all h));
    endianness = not_given (bad_endianness w s) survey.endianness (here (given (bad_endianness w s) survey.endianness) (drop 13 all) (behind 12 all h));
    narrow = unmapped survey.narrow (too_narrow w s) (here (option_map survey.narrow (too_narrow w s)) (drop 14 all) (behind 13 all h));
  }

  pub clear : reason_at w number s ≡ None → IsClear w s
  unfolding reason_at
  clear h = of_first h
