-- The form of a site other than a SEQUENCE or a CHOICE is fine.
use Rattle.std.proofs.Common.{◌≡◌, true, false, List, [], ◌∷◌, refl, ap, ◌∙◌}
use Rattle.acn_asn_syntax.specs.Mirror.{AsnBase, boolean, null, integer, enumerated, octet_string, bit_string, ia5_string, sequence, sequence_of, sequence_size, choice, reference}
use Rattle.acn_grammar.specs.Grammar.{Grammar}
use Rattle.acn_grammar.specs.Leaves.{num_fine, sizing_fine}
use Rattle.acn_grammar.specs.Tree.{form_fine}
use Rattle.acn_grammar.specs.declared.node.Sizing.{Sizing}
use Rattle.acn_index.specs.World.{World}
use Rattle.acn_leaves.specs.Leaves.{null_leaf, leaf_of_base, leaf_at}
use Rattle.acn_made.specs.Made.{number_at, octets_at, form_at}
use Rattle.acn_made.specs.Named.{Slots}
use Rattle.acn_made.specs.Sized.{sizing_at}
use Rattle.acn_reasons.specs.Classes.{class_of_base, class_of, is_sized}
use Rattle.acn_reasons.specs.declared.classes.Class.{Class}
use Rattle.acn_reasons.specs.declared.classes.Class.TheVariants as class
use Rattle.acn_sites.specs.Sites.{Site, base_of, sites_below}
use Rattle.acn_slots.specs.Slots.{default_of}
use Rattle.acn_leaf_laws.specs.Laws.{HasItems, holds_nodes}
use Rattle.acn_leaf_laws.proofs.Booleans.{boolean_fine}
use Rattle.acn_leaf_laws.proofs.EnumerationSites.{enumerated_fine}
use Rattle.acn_leaf_laws.proofs.IntegerSites.{integer_fine}
use Rattle.acn_leaf_laws.proofs.Nulls.{null_fine}
use Rattle.acn_leaf_laws.proofs.Reasons.{IsClear}
use Rattle.acn_leaf_laws.proofs.Sizes.{sizing_good, list_good}
use Rattle.acn_leaf_laws.proofs.Texts.{text_good}

module _ (w : World) (s : Site) (clear : IsClear w s) where
  -- the leaf of a base that gives one without asking for numbers
  number_as : (b : AsnBase) → base_of s ≡ b → num_fine (default_of (leaf_of_base w s b) (null_leaf s)) ≡ true → num_fine (number_at w s) ≡ true
  unfolding leaf_at
  number_as b e h = ap (λ (z : AsnBase). num_fine (default_of (leaf_of_base w s z) (null_leaf s))) e ∙ h

  pub number_fine : (b : AsnBase) → base_of s ≡ b → HasItems b → num_fine (number_at w s) ≡ true
  number_fine boolean e h = number_as boolean e (boolean_fine s (ap class_of_base e) clear.patterns)
  number_fine null e h = number_as null e (null_fine s)
  number_fine (integer ns) e h = integer_fine w s ns e clear
  number_fine (enumerated items) e h = enumerated_fine w s items e clear h
  number_fine octet_string e h = number_as octet_string e (null_fine s)
  number_fine bit_string e h = number_as bit_string e (null_fine s)
  number_fine ia5_string e h = number_as ia5_string e (null_fine s)
  number_fine (sequence cs) e h = number_as (sequence cs) e (null_fine s)
  number_fine (sequence_of t) e h = number_as (sequence_of t) e (null_fine s)
  number_fine (sequence_size c t) e h = number_as (sequence_size c t) e (null_fine s)
  number_fine (choice more) e h = number_as (choice more) e (null_fine s)
  number_fine (reference from name) e h = number_as (reference from name) e (null_fine s)

  octets_good : (sizing : Sizing) (made : Site → Grammar) (below : List Site) → sizing_fine sizing ≡ true → form_fine (octets_at sizing made below) ≡ true
  octets_good sizing made [] h = h
  octets_good sizing made (content ∷ more) h = h

  pub form_good : (all : Slots) (made : Site → Grammar) (c : Class) → class_of s ≡ c → HasItems (base_of s) → holds_nodes c ≡ false → form_fine (form_at w all made s c) ≡ true
  form_good all made class.Boolean e h n = number_fine (base_of s) refl h
  form_good all made class.Null e h n = number_fine (base_of s) refl h
  form_good all made class.Integer e h n = number_fine (base_of s) refl h
  form_good all made class.Enumerated e h n = number_fine (base_of s) refl h
  form_good all made class.Octets e h n = octets_good (sizing_at w all s) made (sites_below w s) (sizing_good w all s (ap is_sized e) clear.size)
  form_good all made class.Bits e h n = sizing_good w all s (ap is_sized e) clear.size
  form_good all made class.Text e h n = text_good w s all e clear
  form_good all made class.Sequence e h n = cc
  form_good all made class.List e h n = list_good w all s (ap is_sized e) clear.size
  form_good all made class.Choice e h n = cc
  form_good all made class.Reference e h n = number_fine (base_of s) refl h
