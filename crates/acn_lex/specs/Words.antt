-- Words that stand for themselves, identifiers and references (X.680, 12.2, 12.3, 12.5 and 12.38).
use Rattle.std.specs.Prelude.{ℕ, Bool, false, not, ◌&&◌, nat_le, List, [], ◌∷◌, ◌++◌, map, codes}
use Rattle.std.specs.Borrow.{Bor}
use Rattle.std.specs.List.{list_any}
use Rattle.std.specs.Str.{bytes_eq}

-- the words of ASN.1 that this profile reads
abbrev pub asn_words : List (List ℕ)
asn_words = codes "DEFINITIONS" ∷ codes "TAGS" ∷ codes "BEGIN" ∷ codes "END" ∷ codes "EXPORTS" ∷ codes "IMPORTS" ∷ codes "FROM" ∷ codes "ALL"
    ∷ codes "EXPLICIT" ∷ codes "IMPLICIT" ∷ codes "AUTOMATIC" ∷ codes "UNIVERSAL" ∷ codes "APPLICATION" ∷ codes "PRIVATE"
    ∷ codes "BOOLEAN" ∷ codes "NULL" ∷ codes "INTEGER" ∷ codes "ENUMERATED" ∷ codes "OCTET" ∷ codes "BIT" ∷ codes "STRING" ∷ codes "IA5String"
    ∷ codes "SEQUENCE" ∷ codes "OF" ∷ codes "CHOICE" ∷ codes "OPTIONAL" ∷ codes "DEFAULT" ∷ codes "TRUE" ∷ codes "FALSE"
    ∷ codes "SIZE" ∷ codes "CONTAINING" ∷ codes "EXCEPT" ∷ codes "UNION" ∷ codes "INTERSECTION" ∷ codes "MIN" ∷ codes "MAX" ∷ []

-- the words of ASN.1 that this profile leaves out
abbrev pub asn_left_out_words : List (List ℕ)
asn_left_out_words = codes "REAL" ∷ codes "SET" ∷ codes "ANY" ∷ codes "EXTERNAL" ∷ codes "EMBEDDED" ∷ codes "OBJECT" ∷ codes "RELATIVE-OID" ∷ codes "CLASS"
    ∷ codes "COMPONENT" ∷ codes "COMPONENTS" ∷ codes "WITH" ∷ codes "INSTANCE" ∷ codes "EXTENSIBILITY" ∷ codes "INCLUDES" ∷ codes "PATTERN" ∷ codes "CHARACTER"
    ∷ codes "UTF8String" ∷ codes "NumericString" ∷ codes "PrintableString" ∷ codes "VisibleString" ∷ codes "ISO646String" ∷ codes "GeneralString"
    ∷ codes "GraphicString" ∷ codes "TeletexString" ∷ codes "T61String" ∷ codes "VideotexString" ∷ codes "BMPString" ∷ codes "UniversalString"
    ∷ codes "UTCTime" ∷ codes "GeneralizedTime" ∷ codes "ObjectDescriptor" ∷ codes "PLUS-INFINITY" ∷ codes "MINUS-INFINITY" ∷ codes "NOT-A-NUMBER" ∷ []

-- the marks of ASN.1 that this profile leaves out
abbrev pub asn_left_out_marks : List (List ℕ)
asn_left_out_marks = codes "..." ∷ codes "@" ∷ codes "!" ∷ codes "&" ∷ []

-- the words of ACN that this profile leaves out
abbrev pub acn_left_out_words : List (List ℕ)
acn_left_out_words = codes "REAL" ∷ codes "CONSTANT" ∷ codes "IEEE754-1985-32" ∷ codes "IEEE754-1985-64" ∷ codes "post-encoding-function" ∷ codes "save-position"
    ∷ codes "and" ∷ codes "or" ∷ codes "not" ∷ []

-- the reserved words of all files
unfoldable pub reserved : List (List ℕ)
reserved = asn_words ++ asn_left_out_words ++ acn_left_out_words

abbrev pub is_reserved : List ℕ → Bool
is_reserved text = list_any (bytes_eq text) reserved

-- begins with a lower-case letter
unfoldable pub is_identifier : List ℕ → Bool
is_identifier [] = false
is_identifier (b ∷ bs) = nat_le 97 b && nat_le b 122

-- begins with an upper-case letter
abbrev pub is_upper : List ℕ → Bool
is_upper [] = false
is_upper (b ∷ bs) = nat_le 65 b && nat_le b 90

-- begins with an upper-case letter, and is not reserved
unfoldable pub is_reference : List ℕ → Bool
is_reference text = is_upper text && not (is_reserved text)

-- the texts of words
abbrev pub texts : List (Bor (List ℕ)) → List (List ℕ)
texts words = map (λ w. w.now) words
