-- The lexer answers the tokens of the bytes or their first fault, and each of these that holds is the one that it answers.
use Rattle.std.proofs.Common.{◌≡◌, ℕ, zero, suc, ◌+◌, ◌-◌, ◌<◌, ◌≤◌, List, [], ◌∷◌, ◌++◌, length, map, take, drop, Result, Ok, Err, IfOk, IfErr, ◌≢◌, refl, sym, ap, subst, ◌∙◌, arith, length-append, ◌⊎◌, inl, inr}
use Rattle.std.proofs.lemmas.List.{append-nil}
use Rattle.std.proofs.Math.Seq.{take-append_seam, drop-append_seam}
use Rattle.acn_lex.specs.declared.Kind.{Kind}
use Rattle.acn_lex.specs.declared.Kind.TheVariants.{Word, Number, Bits, Hex, Text, Mark}
use Rattle.acn_lex.specs.declared.scan.Step.{Step}
use Rattle.acn_lex.specs.declared.scan.Step.TheVariants as step
use Rattle.acn_lex.specs.declared.fault.LexFault.{LexFault}
use Rattle.acn_lex.specs.declared.fault.LexFault.TheVariants as fault
use Rattle.acn_lex.specs.Laws.{TokensAreDetermined, FaultsAreDetermined, FaultsHaveNoTokens}
use Rattle.acn_lex.specs.Scan.{step_at}
use Rattle.acn_lex.specs.declared.Token.{Token}
use Rattle.acn_lex.specs.declared.Tokens.{Tokens}
use Rattle.acn_lex.specs.Lexeme.{Placed, placed}
use Rattle.acn_lex.specs.Lexing.{Outcome, FailsWith, Gives, with_front, by_token, by_step, lex_from}
use Rattle.acn_lex.specs.Lexes.{IsForm, IsToken, IsGap, white, line, block, IsMark, single, assignment, range, ellipsis, equality, Front, here, gap, token, Lexes, FaultsFrom, Faults, AnswersTokens, AnswersFault}
use Rattle.acn_lex.proofs.Shapes.{Found}
use Rattle.acn_lex.proofs.Steps.{found, gap_again, wide_found_again, unclosed_again}
use Rattle.acn_lex.proofs.Longest.{token_found, token_again, bad_found, bad_again}
use Rattle.acn_lex.specs.declared.lexing.TheConstants.{MOST_TOKENS}

gap_some : (piece rest : List ℕ) → IsGap piece rest → 0 < length piece
gap_some _ rest (white e) = omega arith
gap_some _ rest (line p) = omega arith
gap_some _ rest (block p) = omega arith

mark_some : (text : List ℕ) → IsMark text → 0 < length text
mark_some _ (single e) = omega arith
mark_some _ assignment = omega arith
mark_some _ range = omega arith
mark_some _ ellipsis = omega arith
mark_some _ equality = omega arith

form_some : (k : Kind) (text : List ℕ) → IsForm k text → 0 < length text
form_some Word [] f = absurd cc
form_some Word (b ∷ bs) f = omega arith
form_some Number [] f = absurd cc
form_some Number (b ∷ bs) f = omega arith
form_some Bits text f = omega (arith, ap length f.2)
form_some Hex text f = omega (arith, ap length f.2)
form_some Text text f = omega (arith, ap length f.2)
form_some Mark text f = mark_some text f

none_at : (bytes : List ℕ) → length bytes ≤ 0 → bytes ≡ []
none_at [] h = refl
none_at (b ∷ bs) h = absurd (omega arith)

-- what an answer says of the bytes from a place on, with room for so many tokens
abbrev pub Ran : ℕ → ℕ → List ℕ → Outcome → Type 0
Ran room at bytes (Ok ts) = Lexes at bytes ts × (length ts ≤ room)
Ran room at bytes (Err e) = FaultsFrom room at bytes e

gap_more : (room at : ℕ) (piece rest : List ℕ) (o : Outcome) → IsGap piece rest → Ran room (at + length piece) rest o → Ran room at (piece ++ rest) o
gap_more room at piece rest (Ok ts) g r = ((r.0.0, gap piece rest g r.0.1), r.1)
gap_more room at piece rest (Err (fault.BadByte p)) g r = (r.0, r.1, gap piece rest g r.2, r.3, r.4)
gap_more room at piece rest (Err (fault.Unclosed p)) g r = (r.0, r.1, gap piece rest g r.2, r.3, r.4)
gap_more room at piece rest (Err (fault.TooWide p)) g r = (r.0, r.1, gap piece rest g r.2, r.3, r.4)
gap_more room at piece rest (Err (fault.TooManyTokens p)) g r = (r.0, r.1, r.2, r.3, gap piece rest g r.4, r.5, r.6)
gap_more room at piece rest (Err fault.NoMemory) g r = r

abbrev one : Kind → ℕ → List ℕ → Placed
one kind at text = record { kind = kind; at = at; text = text }

token_more : (room at : ℕ) (kind : Kind) (text rest : List ℕ) (o : Outcome) → IsToken kind text rest → Ran room (at + length text) rest o → Ran (suc room) at (text ++ rest) (with_front (one kind at text ∷ []) o)
token_more room at kind text rest (Ok ts) t r = ((r.0.0, token kind text rest t r.0.1), omega (arith, r.1))
token_more room at kind text rest (Err (fault.BadByte p)) t r = (one kind at text ∷ r.0, r.1, token kind text rest t r.2, omega (arith, r.3), r.4)
token_more room at kind text rest (Err (fault.Unclosed p)) t r = (one kind at text ∷ r.0, r.1, token kind text rest t r.2, omega (arith, r.3), r.4)
token_more room at kind text rest (Err (fault.TooWide p)) t r = (one kind at text ∷ r.0, r.1, token kind text rest t r.2, omega (arith, r.3), r.4)
token_more room at kind text rest (Err (fault.TooManyTokens p)) t r = (one kind at text ∷ r.0, r.1, r.2, r.3, token kind text rest t r.4, ap suc r.5, r.6)
token_more room at kind text rest (Err fault.NoMemory) t r = r

rest_is : (piece rest bytes : List ℕ) (k : ℕ) → piece ++ rest ≡ bytes → length piece ≡ k → rest ≡ drop k bytes
rest_is piece rest bytes k is len = sym (drop-append_seam piece rest) ∙ (let e : drop (length piece) (piece ++ rest) ≡ drop k bytes = cc in e)

front_is : (piece rest bytes : List ℕ) (k : ℕ) → piece ++ rest ≡ bytes → length piece ≡ k → piece ≡ take k bytes
front_is piece rest bytes k is len = sym (take-append_seam piece rest) ∙ (let e : take (length piece) (piece ++ rest) ≡ take k bytes = cc in e)

-- the turns that follow
abbrev later : ℕ → ℕ → List ℕ → ℕ → ℕ → Outcome
later n at bytes k left = lex_from n left (at + k) (drop k bytes)

later_is : (n room at : ℕ) (piece rest bytes : List ℕ) (k : ℕ) → piece ++ rest ≡ bytes → length piece ≡ k → lex_from n room (at + length piece) rest ≡ later n at bytes k room
later_is n room at piece rest bytes k is len = let e = rest_is piece rest bytes k is len in cc

shorter : (piece rest bytes : List ℕ) (n : ℕ) → piece ++ rest ≡ bytes → 0 < length piece → length bytes ≤ suc n → length rest ≤ n
shorter piece rest bytes n is some le = omega (arith, ap length is, length-append piece rest)

no_room : (kind : Kind) (at : ℕ) (text rest bytes : List ℕ) → text ++ rest ≡ bytes → IsToken kind text rest → FaultsFrom zero at bytes (fault.TooManyTokens at)
no_room kind at text rest bytes is t = ([], kind, text, rest, subst (λ xs. Front at xs [] at (text ++ rest)) is here, refl, t)

pub ran : (n room at : ℕ) (bytes : List ℕ) → length bytes ≤ n → Ran room at bytes (lex_from n room at bytes)
ran zero room at bytes le = subst (λ xs. Ran room at xs (Ok [])) (sym (none_at bytes le)) ((at, here), omega arith)
ran (suc n) room at bytes le = by_found (step_at bytes) refl (found bytes) (λ left place rest h. ran n left place rest h)
  where
    by_room : (room : ℕ) (kind : Kind) (k : ℕ) → (text rest : List ℕ) × (text ++ rest ≡ bytes) × (length text ≡ k) × IsToken kind text rest → ((left place : ℕ) (rest : List ℕ) → length rest ≤ n → Ran left place rest (lex_from n left place rest))
        → Ran room at bytes (by_token at room (one kind at (take k bytes)) (later n at bytes k))
    by_room zero kind k t more = no_room kind at t.0 t.1 bytes t.2 t.4
    by_room (suc room) kind k t more =
        let deep = more room (at + length t.0) t.1 (shorter t.0 t.1 bytes n t.2 (form_some kind t.0 t.4.form) le) in
        let whole = token_more room at kind t.0 t.1 (lex_from n room (at + length t.0) t.1) t.4 deep in
        let same : with_front (one kind at t.0 ∷ []) (lex_from n room (at + length t.0) t.1) ≡ with_front (one kind at (take k bytes) ∷ []) (later n at bytes k room) =
        let e = later_is n room at t.0 t.1 bytes k t.2 t.3 in let f = front_is t.0 t.1 bytes k t.2 t.3 in cc in
        subst (λ xs. Ran (suc room) at xs (with_front (one kind at (take k bytes) ∷ []) (later n at bytes k room))) t.2 (subst (λ (o : Outcome). Ran (suc room) at (t.0 ++ t.1) o) same whole)

    by_found : (s : Step) → step_at bytes ≡ s → Found bytes s → ((left place : ℕ) (rest : List ℕ) → length rest ≤ n → Ran left place rest (lex_from n left place rest))
        → Ran room at bytes (by_step room at bytes (later n at bytes) s)
    by_found step.End e f more = subst (λ xs. Ran room at xs (Ok [])) (sym f) ((at, here), omega arith)
    by_found (step.Gap k) e f more =
        let deep = more room (at + length f.0) f.1 (shorter f.0 f.1 bytes n f.2 (gap_some f.0 f.1 f.4) le) in
        let whole = gap_more room at f.0 f.1 (lex_from n room (at + length f.0) f.1) f.4 deep in
        subst (λ xs. Ran room at xs (later n at bytes k room)) f.2 (subst (λ (o : Outcome). Ran room at (f.0 ++ f.1) o) (later_is n room at f.0 f.1 bytes k f.2 f.3) whole)
    by_found (step.Token kind k) e f more = by_room room kind k (token_found bytes kind k e) more
    by_found step.BadByte e f more = ([], bytes, here, omega arith, bad_found bytes e)
    by_found step.Unclosed e f more = ([], bytes, here, omega arith, f)
    by_found step.TooWide e f more = ([], bytes, here, omega arith, f)

none_in_front : (o : Outcome) → o ≡ with_front [] o
none_in_front (Ok ts) = refl
none_in_front (Err e) = refl

join : (t : Placed) (ts : List Placed) (o : Outcome) → with_front (t ∷ []) (with_front ts o) ≡ with_front (t ∷ ts) o
join t ts (Ok us) = refl
join t ts (Err e) = refl

-- where the turns stand behind a front
abbrev Reached : ℕ → ℕ → ℕ → List ℕ → List Placed → ℕ → List ℕ → Type 0
Reached n room at bytes ts to left = (m : ℕ) × (length left ≤ m) × (lex_from n room at bytes ≡ with_front ts (lex_from m (room - length ts) to left))

gap_turn : (n room at : ℕ) (piece rest : List ℕ) → IsGap piece rest → lex_from (suc n) room at (piece ++ rest) ≡ lex_from n room (at + length piece) rest
gap_turn n room at piece rest g = rw (gap_again piece rest g, drop-append_seam piece rest) refl

token_turn : (n room at : ℕ) (kind : Kind) (text rest : List ℕ) → IsToken kind text rest → lex_from (suc n) (suc room) at (text ++ rest) ≡ with_front (one kind at text ∷ []) (lex_from n room (at + length text) rest)
token_turn n room at kind text rest t = rw (token_again kind text rest t, drop-append_seam text rest, take-append_seam text rest) refl

reach_gap : (n room at : ℕ) (piece rest : List ℕ) (ts : List Placed) (to : ℕ) (left : List ℕ) → IsGap piece rest → length (piece ++ rest) ≤ n → ((m : ℕ) → length rest ≤ m → Reached m room (at + length piece) rest ts to left)
    → Reached n room at (piece ++ rest) ts to left
reach_gap zero room at piece rest ts to left g le more = absurd (omega (arith, gap_some piece rest g, length-append piece rest))
reach_gap (suc n) room at piece rest ts to left g le more =
    let r = more n (shorter piece rest (piece ++ rest) n refl (gap_some piece rest g) le) in
    (r.0, r.1, gap_turn n room at piece rest g ∙ r.2)

reach_token : (n room at : ℕ) (kind : Kind) (text rest : List ℕ) (ts : List Placed) (to : ℕ) (left : List ℕ) → IsToken kind text rest → length (text ++ rest) ≤ n → suc (length ts) ≤ room
    → ((m less : ℕ) → length rest ≤ m → length ts ≤ less → Reached m less (at + length text) rest ts to left) → Reached n room at (text ++ rest) (one kind at text ∷ ts) to left
reach_token zero room at kind text rest ts to left t le few more = absurd (omega (arith, form_some kind text t.form, length-append text rest))
reach_token (suc n) zero at kind text rest ts to left t le few more = absurd (omega arith)
reach_token (suc n) (suc room) at kind text rest ts to left t le few more =
    let r = more n room (shorter text rest (text ++ rest) n refl (form_some kind text t.form) le) (omega arith) in
    let k : room - length ts ≡ suc room - suc (length ts) = omega arith in (
      r.0,
      r.1,
      token_turn n room at kind text rest t ∙ ap (with_front (one kind at text ∷ [])) r.2 ∙ join (one kind at text) ts (lex_from r.0 (room - length ts) to left)
          ∙ ap (λ (j : ℕ). with_front (one kind at text ∷ ts) (lex_from r.0 j to left)) k,
    )

reached : (n room at : ℕ) (bytes : List ℕ) (ts : List Placed) (to : ℕ) (left : List ℕ) → Front at bytes ts to left → length bytes ≤ n → length ts ≤ room → Reached n room at bytes ts to left
reached n room at bytes _ _ _ here le few = (n, le, none_in_front (lex_from n room at bytes) ∙ ap (λ (j : ℕ). with_front [] (lex_from n j at bytes)) (omega arith))
reached n room at _ ts to left (gap piece rest g more) le few = reach_gap n room at piece rest ts to left g le (λ m h. reached m room (at + length piece) rest ts to left more h few)
reached n room at _ _ to left (token {ts = ts} kind text rest t more) le few = reach_token n room at kind text rest ts to left t le few (λ m less h j. reached m less (at + length text) rest ts to left more h j)

at_end : (m room to : ℕ) → lex_from m room to [] ≡ Ok []
unfolding step_at
at_end zero room to = refl
at_end (suc m) room to = refl

abbrev answered : List Placed → Outcome
answered ts = Ok ts

-- tokens that hold are answered
pub lexes_again : (n room at : ℕ) (bytes : List ℕ) (ts : List Placed) → Lexes at bytes ts → length bytes ≤ n → length ts ≤ room → lex_from n room at bytes ≡ Ok ts
lexes_again n room at bytes ts l le few =
    let r = reached n room at bytes ts l.0 [] l.1 le few in
    r.2 ∙ ap (with_front ts) (at_end r.0 (room - length ts) l.0) ∙ ap answered (append-nil ts)

turn_at : (m room p : ℕ) (left : List ℕ) (s : Step) (e : LexFault) → 0 < length left → length left ≤ m → step_at left ≡ s → ((n : ℕ) → by_step room p left (later n p left) s ≡ Err e) → lex_from m room p left ≡ Err e
turn_at zero room p left s e some le is f = absurd (omega arith)
turn_at (suc m) room p left s e some le is f = rw is (f m)

stop_at : (n room at : ℕ) (bytes : List ℕ) (ts : List Placed) (p : ℕ) (left : List ℕ) (s : Step) (e : LexFault) → Front at bytes ts p left → length bytes ≤ n → length ts ≤ room → 0 < length left → step_at left ≡ s
    → ((n : ℕ) → by_step (room - length ts) p left (later n p left) s ≡ Err e) → lex_from n room at bytes ≡ Err e
stop_at n room at bytes ts p left s e f le few some is h =
    let r = reached n room at bytes ts p left f le few in
    r.2 ∙ ap (with_front ts) (turn_at r.0 (room - length ts) p left s e some r.1 is h)

some_left : (left : List ℕ) (s : Step) → step_at left ≡ s → (s ≡ step.End → ⊥) → 0 < length left
unfolding step_at
some_left [] s e f = absurd (f (sym e))
some_left (b ∷ bs) s e f = omega arith

full_turn : (room p : ℕ) (kind : Kind) (k n : ℕ) (left : List ℕ) → room ≡ 0 → by_step room p left (later n p left) (step.Token kind k) ≡ Err (fault.TooManyTokens p)
full_turn room p kind k n left e = rw e refl

-- a fault that holds is answered
pub faults_again : (n room at : ℕ) (bytes : List ℕ) (e : LexFault) → FaultsFrom room at bytes e → length bytes ≤ n → lex_from n room at bytes ≡ Err e
faults_again n room at bytes (fault.BadByte p) f le = stop_at n room at bytes f.0 p f.1 step.BadByte (fault.BadByte p) f.2 le f.3 f.4.more (bad_again f.1 f.4) (λ m. refl)
faults_again n room at bytes (fault.Unclosed p) f le =
    let e = unclosed_again f.1 f.4 in stop_at n room at bytes f.0 p f.1 step.Unclosed (fault.Unclosed p) f.2 le f.3 (some_left f.1 step.Unclosed e (λ k. cc)) e (λ m. refl)
faults_again n room at bytes (fault.TooWide p) f le =
    let e = wide_found_again f.1 f.4 in stop_at n room at bytes f.0 p f.1 step.TooWide (fault.TooWide p) f.2 le f.3 (some_left f.1 step.TooWide e (λ k. cc)) e (λ m. refl)
faults_again n room at bytes (fault.TooManyTokens p) f le =
    let left = f.2 ++ f.3 in
    let k = length f.2 in
    let e = token_again f.1 f.2 f.3 f.6 in
    stop_at n room at bytes f.0 p left (step.Token f.1 k) (fault.TooManyTokens p) f.4 le (omega (arith, f.5)) (some_left left (step.Token f.1 k) e (λ q. cc)) e (λ m. full_turn (room - length f.0) p f.1 k m left (omega (arith, f.5)))
faults_again n room at bytes fault.NoMemory f le = absurd f

-- what the turns over all bytes give
abbrev Turned : List ℕ → Result Tokens LexFault → Type 0
Turned bytes r = Gives (lex_from (length bytes) MOST_TOKENS 0 bytes) r

ran_whole : (bytes : List ℕ) → Ran MOST_TOKENS 0 bytes (lex_from (length bytes) MOST_TOKENS 0 bytes)
ran_whole bytes = ran (length bytes) MOST_TOKENS 0 bytes (omega arith)

failed : (o : Outcome) (e : LexFault) → FailsWith o e → (e ≡ fault.NoMemory → ⊥) → o ≡ Err e
failed o (fault.BadByte p) h n = h
failed o (fault.Unclosed p) h n = h
failed o (fault.TooWide p) h n = h
failed o (fault.TooManyTokens p) h n = h
failed o fault.NoMemory h n = absurd (n refl)

pub are_tokens : (bytes : List ℕ) (r : Result Tokens LexFault) → Turned bytes r → IfOk r (λ ts. Lexes 0 bytes (map placed ts.list))
are_tokens bytes (Ok us) h = (subst (λ (o : Outcome). Ran MOST_TOKENS 0 bytes o) h (ran_whole bytes)).0
are_tokens bytes (Err e) h = tt

map_same_length : (ts : List Token) → length (map placed ts) ≡ length ts
map_same_length [] = refl
map_same_length (t ∷ ts) = ap suc (map_same_length ts)

pub are_few : (bytes : List ℕ) (r : Result Tokens LexFault) → Turned bytes r → IfOk r (λ ts. length ts.list ≤ MOST_TOKENS)
are_few bytes (Ok us) h = omega (arith, (subst (λ (o : Outcome). Ran MOST_TOKENS 0 bytes o) h (ran_whole bytes)).1, map_same_length us.list)
are_few bytes (Err e) h = tt

pub is_fault : (bytes : List ℕ) (r : Result Tokens LexFault) → Turned bytes r → IfErr r (λ e. e ≢ fault.NoMemory → Faults bytes e)
is_fault bytes (Ok us) h = tt
is_fault bytes (Err e) h = λ n. subst (λ (o : Outcome). Ran MOST_TOKENS 0 bytes o) (failed (lex_from (length bytes) MOST_TOKENS 0 bytes) e h n) (ran_whole bytes)

told : (o : Outcome) (ts : List Placed) (e : LexFault) → o ≡ Ok ts → FailsWith o e → e ≡ fault.NoMemory
told o ts (fault.BadByte p) k h = absurd cc
told o ts (fault.Unclosed p) k h = absurd cc
told o ts (fault.TooWide p) k h = absurd cc
told o ts (fault.TooManyTokens p) k h = absurd cc
told o ts fault.NoMemory k h = refl

refused : (o : Outcome) (f e : LexFault) → o ≡ Err f → FailsWith o e → (e ≡ f) ⊎ (e ≡ fault.NoMemory)
refused o f (fault.BadByte p) k h = inl cc
refused o f (fault.Unclosed p) k h = inl cc
refused o f (fault.TooWide p) k h = inl cc
refused o f (fault.TooManyTokens p) k h = inl cc
refused o f fault.NoMemory k h = inr refl

pub each_told : (bytes : List ℕ) (r : Result Tokens LexFault) → Turned bytes r → (ts : List Placed) → Lexes 0 bytes ts → length ts ≤ MOST_TOKENS → AnswersTokens ts r
each_told bytes (Ok us) h ts l few = let k = lexes_again (length bytes) MOST_TOKENS 0 bytes ts l (omega arith) few in cc
each_told bytes (Err e) h ts l few = told (lex_from (length bytes) MOST_TOKENS 0 bytes) ts e (lexes_again (length bytes) MOST_TOKENS 0 bytes ts l (omega arith) few) h

pub first_told : (bytes : List ℕ) (r : Result Tokens LexFault) → Turned bytes r → (f : LexFault) → Faults bytes f → AnswersFault f r
first_told bytes (Ok us) h f l = let k = faults_again (length bytes) MOST_TOKENS 0 bytes f l (omega arith) in absurd cc
first_told bytes (Err e) h f l = refused (lex_from (length bytes) MOST_TOKENS 0 bytes) f e (faults_again (length bytes) MOST_TOKENS 0 bytes f l (omega arith)) h

one_list : (o : Outcome) (ts us : List Placed) → o ≡ Ok ts → o ≡ Ok us → ts ≡ us
one_list o ts us h k = cc

pub tokens_determined : TokensAreDetermined
tokens_determined bytes ts us l k =
    let n = length ts + length us in
    one_list (lex_from (length bytes) n 0 bytes) ts us (lexes_again (length bytes) n 0 bytes ts l (omega arith) (omega arith)) (lexes_again (length bytes) n 0 bytes us k (omega arith) (omega arith))

one_fault : (o : Outcome) (e f : LexFault) → o ≡ Err e → o ≡ Err f → e ≡ f
one_fault o e f h k = cc

pub faults_determined : FaultsAreDetermined
faults_determined bytes e f l k =
    one_fault (lex_from (length bytes) MOST_TOKENS 0 bytes) e f (faults_again (length bytes) MOST_TOKENS 0 bytes e l (omega arith)) (faults_again (length bytes) MOST_TOKENS 0 bytes f k (omega arith))

none_both : (o : Outcome) (ts : List Placed) (e : LexFault) → o ≡ Ok ts → o ≡ Err e → ⊥
none_both o ts e h k = absurd cc

pub faults_without_tokens : FaultsHaveNoTokens
faults_without_tokens bytes e ts l k few =
    none_both (lex_from (length bytes) MOST_TOKENS 0 bytes) ts e (lexes_again (length bytes) MOST_TOKENS 0 bytes ts k (omega arith) few) (faults_again (length bytes) MOST_TOKENS 0 bytes e l (omega arith))
