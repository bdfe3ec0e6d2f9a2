-- Which number or text a value in a constraint stands for.
use Rattle.std.specs.Prelude.{ℕ, zero, suc, Bool, true, false, List, [], ◌∷◌, Option, Some, None, option_and_then, option_map, if◌then◌else◌, nat_eq, ◌&&◌, ℤ, pos, negsuc}
use Rattle.std.specs.Option.{option_or}
use Rattle.std.specs.List.{find}
use Rattle.std.specs.Str.{bytes_eq}
use Rattle.acn_asn_syntax.specs.Mirror.{AsnBase, integer}
use Rattle.acn_asn_syntax.specs.declared.types.Named.{Named}
use Rattle.acn_asn_syntax.specs.declared.values.AsnValue.{AsnValue}
use Rattle.acn_asn_syntax.specs.declared.values.AsnValue.TheVariants as value
use Rattle.acn_num.specs.Names.{Name}
use Rattle.acn_index.specs.World.{World}
use Rattle.acn_index.specs.Values.{value_of}

-- ---- numbers (X.680 clause 19)

abbrev pub signed : Bool → ℕ → ℤ
signed false n = pos n
signed true zero = pos 0
signed true (suc n) = negsuc n

abbrev pub number_is : AsnValue → Option ℤ
number_is (value.Number negative n) = Some (signed negative n)
number_is _ = None

-- the number of an INTEGER's named number
abbrev pub named_in : List Named → Name → Option ℤ
named_in ns name = option_map (λ n. signed n.negative n.number) (find (λ n. bytes_eq n.name name) ns)

-- the number to which an identifier leads in a module
unfoldable pub referred_number : World → ℕ → Name → Option ℤ
referred_number w k name = option_and_then (λ v. number_is v.is) (value_of w k name)

-- a number as it is written in a module, where these names stand for numbers before any other
abbrev pub number_in : World → List Named → ℕ → AsnValue → Option ℤ
number_in w ns k (value.Number negative n) = Some (signed negative n)
number_in w ns k (value.Ref name) = option_or (named_in ns name) (referred_number w k name)
number_in w ns k _ = None

-- the named numbers of an INTEGER
abbrev pub listed : Option (List Named) → List Named
listed None = []
listed (Some ns) = ns

abbrev pub named_of : AsnBase → List Named
named_of (integer ns) = listed ns
named_of _ = []

-- ---- texts (X.680 clause 41): the quotes of the token are taken off, and doubled quotes made one

abbrev pub is_quote : ℕ → Bool
is_quote c = nat_eq c 34

abbrev pub unquoted_rest : List ℕ → List ℕ
unquoted_rest [] = []
unquoted_rest (c ∷ []) = []
unquoted_rest (c ∷ d ∷ cs) = if is_quote c && is_quote d then c ∷ unquoted_rest cs else c ∷ unquoted_rest (d ∷ cs)

abbrev pub unquoted : List ℕ → List ℕ
unquoted [] = []
unquoted (q ∷ cs) = unquoted_rest cs

abbrev pub text_is : AsnValue → Option (List ℕ)
text_is (value.Text t) = Some (unquoted t)
text_is _ = None

unfoldable pub referred_text : World → ℕ → Name → Option (List ℕ)
referred_text w k name = option_and_then (λ v. text_is v.is) (value_of w k name)

abbrev pub text_in : World → ℕ → AsnValue → Option (List ℕ)
text_in w k (value.Text t) = Some (unquoted t)
text_in w k (value.Ref name) = referred_text w k name
text_in w k _ = None

abbrev pub only_character : List ℕ → Option ℤ
only_character (c ∷ []) = Some (pos c)
only_character _ = None

-- the one character of a text
abbrev pub character_in : World → ℕ → AsnValue → Option ℤ
character_in w k v = option_and_then only_character (text_in w k v)
