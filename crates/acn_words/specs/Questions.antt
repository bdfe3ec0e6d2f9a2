-- Words that are answered before anything is read.
use Rattle.std.specs.Prelude.{ℕ, List, [], ◌∷◌, Option, Some, None, cond, codes}
use Rattle.std.specs.Str.{bytes_eq}
use Rattle.acn_words.specs.declared.questions.Question.{Question}
use Rattle.acn_words.specs.declared.questions.Question.TheVariants.{Help, Version}

-- the question that a word is
abbrev pub question_of : List ℕ → Option Question
question_of word = cond (bytes_eq word (codes "--help")) (Some Help) (cond (bytes_eq word (codes "--version")) (Some Version) None)

-- the question that words are: it stands alone
abbrev pub question_in : List (List ℕ) → Option Question
question_in (word ∷ []) = question_of word
question_in words = None
