-- The leaf of a BOOLEAN without a clash of patterns is fine.
use Rattle.std.proofs.Common.{◌≡◌, true, false, refl, sym, ap, ◌∙◌}
use Rattle.acn_grammar.specs.Leaves.{num_fine}
use Rattle.acn_leaves.specs.Leaves.{boolean_leaf}
use Rattle.acn_reasons.specs.Classes.{class_of}
use Rattle.acn_reasons.specs.declared.classes.Class.TheVariants as class
use Rattle.acn_sites.specs.Sites.{Site}
use Rattle.acn_sites.specs.declared.attributes.AttrKind.TheVariants as kind
use Rattle.acn_written.specs.Patterns.{pattern_attr, flags_clash, clash_of, pattern_clash}
use Rattle.acn_leaf_laws.proofs.Patterns.{flags}
use Rattle.acn_leaf_laws.proofs.Rules.{fine_by}

no_clash : (s : Site) → class_of s ≡ class.Boolean → pattern_clash s ≡ false → flags_clash (pattern_attr kind.TrueValue s) (pattern_attr kind.FalseValue s) ≡ false
unfolding pattern_clash
no_clash s e h = sym (ap (λ c. clash_of c s) e) ∙ h

pub boolean_fine : (s : Site) → class_of s ≡ class.Boolean → pattern_clash s ≡ false → num_fine (boolean_leaf s) ≡ true
boolean_fine s e h =
    fine_by (boolean_leaf s)
    (record { kind = refl; coding = flags (pattern_attr kind.TrueValue s) (pattern_attr kind.FalseValue s) (no_clash s e h); little = refl; sign = refl; set = refl; integer = refl; table = refl; values = refl; writes = refl })
