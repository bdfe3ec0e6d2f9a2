-- The words of refusals. (This program's own.)
use Rattle.std.specs.Prelude.{ℕ, List, [], ◌∷◌, codes}
use Rattle.std.specs.Fmt.{decimal, signed_decimal}
use Rattle.std.specs.List.{concat}
use Rattle.acn_constraint.specs.declared.fault.ConstraintFault.{ConstraintFault}
use Rattle.acn_constraint.specs.declared.fault.ConstraintFault.TheVariants as constraint
use Rattle.acn_reasons.specs.declared.paths.PathFault.{PathFault}
use Rattle.acn_reasons.specs.declared.paths.PathFault.TheVariants as path
use Rattle.acn_sites.specs.declared.attributes.AttrKind.{AttrKind}
use Rattle.acn_sites.specs.declared.attributes.AttrKind.TheVariants as kind
use Rattle.acn_survey.specs.declared.reason.MergeReason.{MergeReason}
use Rattle.acn_survey.specs.declared.reason.MergeReason.TheVariants as reason

-- an attribute, as it is written
abbrev pub attribute_word : AttrKind → List ℕ
attribute_word kind.Size = codes "size"
attribute_word kind.Encoding = codes "encoding"
attribute_word kind.Endianness = codes "endianness"
attribute_word kind.AlignToNext = codes "align-to-next"
attribute_word kind.EncodeValues = codes "encode-values"
attribute_word kind.TrueValue = codes "true-value"
attribute_word kind.FalseValue = codes "false-value"
attribute_word kind.Pattern = codes "pattern"
attribute_word kind.TerminationPattern = codes "termination-pattern"
attribute_word kind.PresentWhen = codes "present-when"
attribute_word kind.Determinant = codes "determinant"
attribute_word kind.MappingFunction = codes "mapping-function"

-- why constraints leave no set, with what is kept of it
abbrev pub constraint_words : ConstraintFault → List ℕ
constraint_words constraint.Empty = codes "Empty"
constraint_words constraint.Unbounded = codes "Unbounded"
constraint_words (constraint.TooWide x) = concat (codes "TooWide " ∷ signed_decimal x ∷ [])
constraint_words (constraint.SizeLimit x) = concat (codes "SizeLimit " ∷ signed_decimal x ∷ [])
constraint_words constraint.NotHere = codes "NotHere"
constraint_words constraint.NoMemory = codes "NoMemory"

-- why a path leads to no determinant, with its names up to the field that may be absent
abbrev pub path_words : PathFault → List ℕ
path_words path.Unknown = codes "UnknownPath"
path_words (path.MayBeAbsent through names) = concat (codes "DeterminantMayBeAbsent " ∷ names ∷ [])

-- why a node can't be made, with what is kept of it
abbrev pub reason_words : MergeReason → List ℕ
reason_words reason.TooDeep = codes "TooDeep"
reason_words reason.TooManyNodes = codes "TooManyNodes"
reason_words (reason.RepeatedAttribute a) = concat (codes "RepeatedAttribute " ∷ attribute_word a ∷ [])
reason_words (reason.AttributeNotHere a) = concat (codes "AttributeNotHere " ∷ attribute_word a ∷ [])
reason_words (reason.Constraint f) = constraint_words f
reason_words reason.NoSuchField = codes "NoSuchField"
reason_words reason.Arguments = codes "Arguments"
reason_words (reason.Path f) = path_words f
reason_words (reason.BadMapping key) = concat (codes "BadMapping " ∷ signed_decimal key ∷ [])
reason_words (reason.EnumValues first second) = concat (codes "EnumValues " ∷ first ∷ codes " " ∷ second ∷ [])
reason_words reason.PatternClash = codes "PatternClash"
reason_words reason.BadSize = codes "BadSize"
reason_words reason.EndianSize = codes "EndianSize"
reason_words (reason.TooNarrow value) = concat (codes "TooNarrow " ∷ signed_decimal value ∷ [])
reason_words reason.BadDefault = codes "BadDefault"
