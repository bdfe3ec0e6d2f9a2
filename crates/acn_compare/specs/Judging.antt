-- What the program keeps of two trees: their places, and what differs at one of them.
use Rattle.std.specs.Prelude.{ℕ, ℤ, nat_eq, if◌then◌else◌, List, [], ◌∷◌, Option, Some, None}
use Rattle.acn_grammar.specs.Grammar.{Grammar}
use Rattle.acn_grammar.specs.View.{grammar_of}
use Rattle.acn_compare.specs.Accepts.{Answering, Place, Agree, AllAgree, Together, Permits, Lost, Differs, FirstOf, Accepts, FirstDifference}
use Rattle.acn_compare.specs.declared.answer.Answer.{Answer}
use Rattle.acn_compare.specs.declared.answer.Answer.TheVariants.{Yes, No}
use Rattle.acn_compare.specs.declared.answer.Reason.{Reason}
use Rattle.acn_num.specs.Ranges.{Ranges}
use Rattle.acn_compare.specs.declared.judge.Difference.{Difference}
use Rattle.acn_compare.specs.declared.judge.Sets.{Sets}
use Rattle.acn_compare.specs.declared.comparing.Found.{Found}
use Rattle.acn_compare.specs.declared.places.Place as declared

abbrev pub place_of : declared.Place → Place
place_of p = record { path = p.path; old_slot = p.old_slot; new_slot = p.new_slot; old = grammar_of p.old.now; new = grammar_of p.new.now }

-- the slot that answers to one of the old grammar's: that of the last pair
abbrev pub last_of : Answering → ℕ → Option ℕ → Option ℕ
last_of [] s found = found
last_of (a ∷ as') s found = last_of as' s (if nat_eq a.0 s then Some a.1 else found)

-- the sets of a node
abbrev pub sets_seen : Sets → List Ranges
sets_seen Sets.Nothing = []
sets_seen (Sets.One s) = s.now ∷ []
sets_seen (Sets.Both s t) = s.now ∷ t.now ∷ []

-- no number is lost, or the least that is
abbrev pub AreLeastLost : List Ranges → List Ranges → Option ℤ → Type 0
AreLeastLost olds news None = Together Permits olds news
AreLeastLost olds news (Some x) = Lost olds news x

-- two nodes agree, or the least reason is named
abbrev pub IsJudged : Answering → Grammar → Grammar → Option Difference → Type 0
IsJudged by g h None = (r : Reason) → Agree by r g h
IsJudged by g h (Some d) = Differs by g h d.reason d.number

-- the nodes of all places agree, or the first at which they don't is named
abbrev pub IsFound : Answering → List Place → Option Found → Type 0
IsFound by ps None = AllAgree by ps
IsFound by ps (Some f) = FirstOf by ps f.path f.difference.reason f.difference.number

-- what an answer says
abbrev pub Says : Grammar → Grammar → Answer → Type 0
Says old new Yes = Accepts old new
Says old new (No at reason number) = FirstDifference old new at reason number
