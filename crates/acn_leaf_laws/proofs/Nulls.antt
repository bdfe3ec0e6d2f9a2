-- The leaf of a NULL is fine.
use Rattle.std.proofs.Common.{◌≡◌, Bool, true, false, pos, List, [], ◌∷◌, Option, Some, None, refl}
use Rattle.acn_grammar.specs.Leaves.{num_fine}
use Rattle.acn_leaves.specs.Leaves.{null_leaf, null_coding, no_items}
use Rattle.acn_grammar.specs.declared.node.NumKind.TheVariants.{Null}
use Rattle.acn_sites.specs.Sites.{Site}
use Rattle.acn_sites.specs.declared.attributes.AttrKind.TheVariants as kind
use Rattle.acn_written.specs.Patterns.{pattern_attr, bits_given}
use Rattle.acn_leaf_laws.proofs.Patterns.{pattern_given}
use Rattle.acn_leaf_laws.proofs.Rules.{fine_by}

pub null_fine : (s : Site) → num_fine (null_leaf s) ≡ true
null_fine s = by (bits_given (pattern_attr kind.Pattern s)) refl
  where
    by : (o : Option (List Bool)) → bits_given (pattern_attr kind.Pattern s) ≡ o → num_fine (record { kind = Null; set = (pos 0, pos 0) ∷ []; coding = null_coding o; little = false; table = None; items = no_items }) ≡ true
    by None e = refl
    by (Some p) e =
        fine_by (record { kind = Null; set = (pos 0, pos 0) ∷ []; coding = null_coding (Some p); little = false; table = None; items = no_items })
        (record { kind = refl; coding = pattern_given kind.Pattern s p e; little = refl; sign = refl; set = refl; integer = refl; table = refl; values = refl; writes = refl })
