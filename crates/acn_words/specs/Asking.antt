-- What a command that names one type asks for.
use Rattle.std.specs.Prelude.{ℕ, List}
use Rattle.acn_words.specs.Names.{TypeName}
use Rattle.acn_words.specs.Requests.{Request, layout, encode, decode, extremes, explain}
use Rattle.acn_words.specs.declared.requests.OfType.{OfType}
use Rattle.acn_words.specs.declared.requests.OfType.TheVariants.{Layout, Encode, Decode, Extremes, Explain}

abbrev pub asks : OfType → TypeName → List (List ℕ) → Request
asks Layout of names = layout of names
asks Encode of names = encode of names
asks Decode of names = decode of names
asks Extremes of names = extremes of names
asks Explain of names = explain of names
