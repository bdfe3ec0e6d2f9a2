-- An alignment is one of four.
use Rattle.std.proofs.Common.{◌≡◌, true, Option, Some, None, refl}
use Rattle.acn_acn_syntax.specs.declared.modules.Alignment.TheVariants as alignment
use Rattle.acn_acn_syntax.specs.declared.modules.Attr.{Attr}
use Rattle.acn_acn_syntax.specs.declared.modules.Attr.TheVariants as attr
use Rattle.acn_grammar.specs.Tree.{is_align}
use Rattle.acn_made.specs.Made.{alignment_in, alignment_by, alignment_at}
use Rattle.acn_sites.specs.Attributes.{Given, nearest}
use Rattle.acn_sites.specs.Sites.{Site}
use Rattle.acn_sites.specs.declared.attributes.AttrKind.TheVariants as kind

align_in : (a : Attr) → is_align (alignment_in a) ≡ true
align_in (attr.AlignToNext alignment.Byte) = refl
align_in (attr.AlignToNext alignment.Word) = refl
align_in (attr.AlignToNext alignment.Dword) = refl
align_in (attr.Size y) = refl
align_in (attr.Encoding e) = refl
align_in (attr.Endianness e) = refl
align_in attr.EncodeValues = refl
align_in (attr.TrueValue l) = refl
align_in (attr.FalseValue l) = refl
align_in (attr.Pattern l) = refl
align_in (attr.TerminationPattern l) = refl
align_in (attr.PresentWhen cs) = refl
align_in (attr.Determinant p) = refl
align_in (attr.MappingFunction n) = refl

align_by : (o : Option Given) → is_align (alignment_by o) ≡ true
align_by None = refl
align_by (Some g) = align_in g.attr

pub align_fine : (s : Site) → is_align (alignment_at s) ≡ true
align_fine s = align_by (nearest kind.AlignToNext s)
