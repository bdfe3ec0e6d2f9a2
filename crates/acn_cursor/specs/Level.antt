-- What the code keeps of the tokens before a place, for its contracts. What a level is, is said in Screens.
use Rattle.std.specs.Prelude.{ℕ, ◌+◌, ◌-◌, ◌&&◌, nat_lt, nat_le, if◌then◌else◌, List, replicate, slice_index_or, slice_set}
use Rattle.acn_lex.specs.Lexeme.{Lexeme}
use Rattle.acn_cursor.specs.declared.level.Level.{Level}
use Rattle.acn_cursor.specs.declared.level.TheConstants.{MOST_LEVEL}
use Rattle.acn_cursor.specs.Screens.{opens, closes, shuts, is_of, restarts, count_of}

abbrev pub none : Level
none = record { opened = 0; closed = 0; ofs = 0; before = replicate MOST_LEVEL 0 }

abbrev pub given_back : Level → ℕ
given_back l = if nat_lt l.closed l.opened then slice_index_or l.before (l.opened - l.closed - 1) 0 else 0

abbrev pub ofs_behind : Level → Lexeme → ℕ
ofs_behind l t = if shuts t then given_back l else (if restarts t then 0 else l.ofs + count_of (is_of t))

abbrev pub before_behind : Level → Lexeme → List ℕ
before_behind l t = if opens t && nat_le l.closed l.opened && nat_lt (l.opened - l.closed) MOST_LEVEL then slice_set l.before (l.opened - l.closed) l.ofs else l.before

abbrev pub behind : Level → Lexeme → Level
behind l t = record { opened = l.opened + count_of (opens t); closed = l.closed + count_of (closes t); ofs = ofs_behind l t; before = before_behind l t }
