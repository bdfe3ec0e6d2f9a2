-- The line of a packet, and how routing ends. (This program's own.)
use Rattle.std.specs.Prelude.{◌≡◌, ℕ, ◌+◌, ◌<◌, ◌≤◌, List, [], ◌∷◌, ◌++◌, map, length, codes, Option, Some, None, Result, Ok, Err}
use Rattle.std.specs.Fmt.{decimal}
use Rattle.std.specs.List.{concat, flat_map, AllByRecursion}
use Rattle.acn_num.specs.Bits.{bits, octets as octets_for}
use Rattle.acn_grammar.specs.Fails.{Refusal}
use Rattle.acn_grammar.specs.Faults.{fault_of}
use Rattle.acn_grammar.specs.Front.{Front}
use Rattle.acn_grammar.specs.Grammar.{Data}
use Rattle.acn_grammar.specs.View.{grammar_of}
use Rattle.acn_grammar.specs.declared.fault.Fault.{Fault}
use Rattle.acn_json.specs.Lines.{line_of}
use Rattle.acn_outside.specs.Moves.{Takes, Gains, IsUsedUp}
use Rattle.acn_outside.specs.Whole.{GainsFront}
use Rattle.acn_report.specs.Texts.{fault_words}
use Rattle.acn_route.specs.Listed.{Listed, tree_for}
use Rattle.acn_route.specs.Space.{IsUnfinished, Space, Begun, apid_of}
use Rattle.acn_route.specs.declared.count.LineKind.{LineKind}
use Rattle.acn_route.specs.declared.count.LineKind.TheVariants.{Good, Long, Bad, Unrouted}
use Rattle.acn_route.specs.declared.count.RouteCount.{RouteCount}
use Rattle.acn_route.specs.declared.route_fault.RouteFault.{RouteFault}
use Rattle.acn_route.specs.declared.route_fault.RouteFault.TheVariants.{Cut, InputTooLong, InputFault, OutputFault, NoMemory}
use Rattle.acn_supply.specs.declared.window.TheConstants.{MOST_IN_HAND}
use Rattle.acn_tree.specs.declared.tree.Tree.{Tree}

-- the line of a packet of a tree, by its kind: a value that fills the packet, one with whole octets behind it, or none
pub data TreeLine (tree : Tree) (packet : List ℕ) : LineKind → List ℕ → Type 0 where
  good : (d : Data) (n : ℕ) → Front (grammar_of tree.root) (bits packet) d n → octets_for n ≡ length packet
      → TreeLine tree packet Good (concat (codes "good " ∷ decimal (apid_of packet) ∷ codes " " ∷ line_of (grammar_of tree.root) d ∷ codes "\n" ∷ []))
  long : (d : Data) (n : ℕ) → Front (grammar_of tree.root) (bits packet) d n → octets_for n < length packet
      → TreeLine tree packet Long (concat (codes "long " ∷ decimal (apid_of packet) ∷ codes " " ∷ decimal (length packet) ∷ codes " " ∷ decimal n ∷ codes "\n" ∷ []))
  bad : (fault : Fault) (reach : ℕ) → Refusal (grammar_of tree.root) (bits packet) (fault_of fault) reach
      → TreeLine tree packet Bad (concat (codes "bad " ∷ decimal (apid_of packet) ∷ codes " " ∷ (fault_words tree fault ++ codes "\n" ∷ [])))

-- the line of a packet by the tree that its identifier has
abbrev pub LineBy : Option Tree → (packet : List ℕ) → LineKind → List ℕ → Type 0
LineBy (Some tree) packet kind text = TreeLine tree packet kind text
LineBy None packet kind text = (kind ≡ Unrouted) × (text ≡ concat (codes "none " ∷ decimal (apid_of packet) ∷ codes " " ∷ decimal (length packet) ∷ codes "\n" ∷ []))

-- a packet with the kind and the text of its line
pub record Line : Type 0 where
  pub packet : List ℕ
  pub kind : LineKind
  pub text : List ℕ

-- the line is the packet's, by the routes and its octets alone
abbrev pub IsLine : List Listed → Line → Type 0
IsLine routes line = LineBy (tree_for routes (apid_of line.packet)) line.packet line.kind line.text

abbrev pub packets_of : List Line → List (List ℕ)
packets_of lines = map (λ l. l.packet) lines

abbrev pub text_of : List Line → List ℕ
text_of lines = flat_map (λ l. l.text) lines

-- one line more of a kind
abbrev pub with_line : LineKind → RouteCount → RouteCount
with_line Good c = record { good = c.good + 1; long = c.long; bad = c.bad; none = c.none }
with_line Long c = record { good = c.good; long = c.long + 1; bad = c.bad; none = c.none }
with_line Bad c = record { good = c.good; long = c.long; bad = c.bad + 1; none = c.none }
with_line Unrouted c = record { good = c.good; long = c.long; bad = c.bad; none = c.none + 1 }

-- how many lines are of each kind
abbrev pub counts_of : List Line → RouteCount
counts_of [] = record { good = 0; long = 0; bad = 0; none = 0 }
counts_of (l ∷ ls) = with_line l.kind (counts_of ls)

-- These bytes are the packets of the lines, and a rest that can be in hand. There are no more than the limit.
pub record Routed (routes : List Listed) (limit : ℕ) (given : List ℕ) (lines : List Line) (rest : List ℕ) : Type 0 where
  pub begun : Begun given (packets_of lines) rest
  pub each : AllByRecursion (IsLine routes) lines
  pub within : length given ≤ limit
  pub near : length rest ≤ MOST_IN_HAND

-- What routing did, by the way it ended: of the input i was left before it and i' is, and the output had taken o, and o' now.
module _ (routes : List Listed) (limit : ℕ) (i i' o o' : Option (List ℕ)) where
  -- the whole input are space packets, and the output gained their lines, of which there are so many of each kind
  pub record IsDone (counts : RouteCount) : Type 0 where
    pub given : List ℕ
    pub lines : List Line
    pub taken : Takes i i' given
    pub used_up : IsUsedUp i'
    pub within : length given ≤ limit
    pub space : Space given (packets_of lines)
    pub each : AllByRecursion (IsLine routes) lines
    pub counted : counts ≡ counts_of lines
    pub written : Gains o o' (text_of lines)

  -- The input ended inside the packet of this number, of which so many octets came, at least one. The output gained the lines of the packets before.
  pub record IsCut (number left : ℕ) : Type 0 where
    pub given : List ℕ
    pub lines : List Line
    pub rest : List ℕ
    pub taken : Takes i i' given
    pub used_up : IsUsedUp i'
    pub routed : Routed routes limit given lines rest
    pub unfinished : IsUnfinished rest
    pub some : 0 < length rest
    pub numbered : number ≡ length lines + 1
    pub counted : left ≡ length rest
    pub written : Gains o o' (text_of lines)

  -- The bytes up to the limit are packets, and perhaps the beginning of one, and one byte more came. The output gained the lines of the packets.
  pub record IsTooLong : Type 0 where
    pub given : List ℕ
    pub byte : ℕ
    pub lines : List Line
    pub rest : List ℕ
    pub taken : Takes i i' (given ++ byte ∷ [])
    pub full : length given ≡ limit
    pub routed : Routed routes limit given lines rest
    pub unfinished : IsUnfinished rest
    pub written : Gains o o' (text_of lines)

  -- What came are packets, and perhaps the beginning of one. The output gained the lines of the packets.
  pub record IsCutOff : Type 0 where
    pub given : List ℕ
    pub lines : List Line
    pub rest : List ℕ
    pub taken : Takes i i' given
    pub routed : Routed routes limit given lines rest
    pub unfinished : IsUnfinished rest
    pub written : Gains o o' (text_of lines)

  -- Packets came, and the output gained a front of their lines.
  pub record IsFront : Type 0 where
    pub given : List ℕ
    pub lines : List Line
    pub rest : List ℕ
    pub taken : Takes i i' given
    pub routed : Routed routes limit given lines rest
    pub written : GainsFront o o' (text_of lines)

  -- Packets came, and the output gained their lines.
  pub record IsStopped : Type 0 where
    pub given : List ℕ
    pub lines : List Line
    pub rest : List ℕ
    pub taken : Takes i i' given
    pub routed : Routed routes limit given lines rest
    pub written : Gains o o' (text_of lines)

  abbrev pub RouteEnds : Result RouteCount RouteFault → Type 0
  RouteEnds (Ok counts) = IsDone counts
  RouteEnds (Err (Cut number left)) = IsCut number left
  RouteEnds (Err InputTooLong) = IsTooLong
  RouteEnds (Err InputFault) = IsCutOff
  RouteEnds (Err OutputFault) = IsFront
  RouteEnds (Err NoMemory) = IsStopped
