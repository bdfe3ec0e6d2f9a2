-- The lines of refusals, of bounds, and of inputs that are too long, one line a case. (This program's own.)
use Rattle.std.specs.Prelude.{ℕ, List, [], ◌∷◌, ◌++◌, codes}
use Rattle.std.specs.Fmt.{decimal, signed_decimal}
use Rattle.std.specs.List.{concat, flat_map}
use Rattle.acn_grammar.specs.Interval.{span}
use Rattle.acn_grammar.specs.View.{grammar_of}
use Rattle.acn_grammar.specs.declared.fault.Fault.{Fault}
use Rattle.acn_grammar.specs.declared.unfit.Unfit.{Unfit}
use Rattle.acn_grammar.specs.declared.unfit.UnfitReason.{UnfitReason}
use Rattle.acn_grammar.specs.declared.unfit.UnfitReason.TheVariants as unfit
use Rattle.acn_tree.specs.declared.tree.Tree.{Tree}
use Rattle.acn_report.specs.Names.{path_text}
use Rattle.acn_report.specs.Parts.{reason_text, ask_text, earlier_text}

-- a name, and what is kept, each behind a space
abbrev pub said : List ℕ → List (List ℕ) → List (List ℕ)
said name values = name ∷ flat_map (λ value. codes " " ∷ value ∷ []) values

-- where a node can't be read, why, and at which bit
abbrev pub fault_words : Tree → Fault → List (List ℕ)
fault_words tree f = path_text tree f.path ∷ codes ": " ∷ reason_text f.reason ∷ codes " at bit " ∷ decimal f.at ∷ []

abbrev pub fault_text : Tree → Fault → List ℕ
fault_text tree f = concat (fault_words tree f)

-- the packet of this number can't be read
abbrev pub packet_line : Tree → ℕ → Fault → List ℕ
packet_line tree k f = concat (codes "acn: packet " ∷ decimal k ∷ codes ": " ∷ (fault_words tree f ++ codes "\n" ∷ []))

-- the line of this number is refused at a place
abbrev pub refused_line : ℕ → (place : List ℕ) → List (List ℕ) → List ℕ
refused_line k place words = concat (codes "acn: line " ∷ decimal k ∷ codes ": " ∷ place ∷ codes ": " ∷ (words ++ codes "\n" ∷ []))

-- why a value isn't one of its node's
abbrev pub unfit_words : Tree → UnfitReason → List (List ℕ)
unfit_words tree (unfit.OutOfRange x) = said (codes "OutOfRange") (signed_decimal x ∷ [])
unfit_words tree (unfit.SizeOutOfRange n) = said (codes "SizeOutOfRange") (decimal n ∷ [])
unfit_words tree (unfit.BadCharacter i) = said (codes "BadCharacter") (decimal i ∷ [])
unfit_words tree (unfit.TerminatorInside i) = said (codes "TerminatorInside") (decimal i ∷ [])
unfit_words tree (unfit.Conflict slot earlier wanted) = said (codes "Conflict") (path_text tree slot ∷ earlier_text earlier ∷ ask_text wanted ∷ [])
unfit_words tree (unfit.ContentSize n) = said (codes "ContentSize") (decimal n ∷ [])

abbrev pub unfit_line : Tree → ℕ → Unfit → List ℕ
unfit_line tree k u = refused_line k (path_text tree u.path) (unfit_words tree u.reason)

-- a grammar is refused at a place
abbrev pub refused_at : (place : List ℕ) → List (List ℕ) → List ℕ
refused_at place words = concat (codes "acn: " ∷ place ∷ codes ": " ∷ (words ++ codes "\n" ∷ []))

abbrev pub empty_line : Tree → List ℕ
empty_line tree = refused_at tree.name (said (codes "EmptyPacket") [])

abbrev pub long_line : ℕ → List ℕ
long_line k = concat (codes "acn: line " ∷ decimal k ∷ codes ": LineTooLong\n" ∷ [])

abbrev pub long_input_line : List ℕ
long_input_line = codes "acn: input: InputTooLong\n"

-- the two bounds in bits
abbrev pub bounds_line : Tree → List ℕ
bounds_line tree = concat (tree.name ∷ codes " " ∷ decimal (span (grammar_of tree.root)).least ∷ codes " " ∷ decimal (span (grammar_of tree.root)).greatest ∷ codes "\n" ∷ [])
