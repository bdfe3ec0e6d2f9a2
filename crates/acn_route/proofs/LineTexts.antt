-- What was put is the line of the packet.
use Rattle.std.proofs.Common.{◌≡◌, ℕ, ◌+◌, ◌<◌, ◌≤◌, List, [], ◌∷◌, ◌++◌, length, codes, None, refl, ap, ◌∙◌, arith}
use Rattle.std.specs.Fmt.{decimal}
use Rattle.std.specs.List.{concat}
use Rattle.acn_num.specs.Bits.{bits, octets as octets_for}
use Rattle.acn_num.proofs.BitLists.{length-bits}
use Rattle.acn_grammar.specs.Fails.{Refusal}
use Rattle.acn_grammar.specs.Faults.{fault_of}
use Rattle.acn_grammar.specs.Front.{Front}
use Rattle.acn_grammar.specs.Grammar.{Data}
use Rattle.acn_grammar.specs.View.{grammar_of}
use Rattle.acn_grammar.specs.declared.fault.Fault.{Fault}
use Rattle.acn_json.specs.Lines.{line_of}
use Rattle.acn_report.specs.Texts.{fault_words}
use Rattle.acn_route.specs.Adding.{Adds}
use Rattle.acn_route.specs.Routing.{TreeLine, good, long, bad, LineBy}
use Rattle.acn_route.specs.Space.{apid_of}
use Rattle.acn_route.specs.declared.count.LineKind.TheVariants.{Good, Long, Bad, Unrouted}
use Rattle.acn_tree.specs.declared.tree.Tree.{Tree}

-- a value's octets are the packet's, where they aren't fewer
fills : (packet : List ℕ) (n : ℕ) → n ≤ length (bits packet) → length packet ≤ octets_for n → octets_for n ≡ length packet
fills packet n within many = omega (arith, within, many, length-bits packet)

pub good_line : (tree : Tree) (packet old new : List ℕ) (apid octets n : ℕ) (d : Data) → apid ≡ apid_of packet → octets ≡ length packet → Front (grammar_of tree.root) (bits packet) d n → octets ≤ octets_for n
    → new ≡ old ++ concat (codes "good " ∷ decimal apid ∷ codes " " ∷ line_of (grammar_of tree.root) d ∷ codes "\n" ∷ []) → Adds (TreeLine tree packet Good) old new
good_line tree packet old new apid octets n d named size front many added = (
  concat (codes "good " ∷ decimal (apid_of packet) ∷ codes " " ∷ line_of (grammar_of tree.root) d ∷ codes "\n" ∷ []),
  added ∙ ap (λ (a : ℕ). old ++ concat (codes "good " ∷ decimal a ∷ codes " " ∷ line_of (grammar_of tree.root) d ∷ codes "\n" ∷ [])) named,
  good d n front (fills packet n front.within (omega (arith, many, size))),
)

pub long_line : (tree : Tree) (packet old new : List ℕ) (apid octets n : ℕ) (d : Data) → apid ≡ apid_of packet → octets ≡ length packet → Front (grammar_of tree.root) (bits packet) d n → octets_for n < octets
    → new ≡ old ++ concat (codes "long " ∷ decimal apid ∷ codes " " ∷ decimal octets ∷ codes " " ∷ decimal n ∷ codes "\n" ∷ []) → Adds (TreeLine tree packet Long) old new
long_line tree packet old new apid octets n d named size front less added = (
  concat (codes "long " ∷ decimal (apid_of packet) ∷ codes " " ∷ decimal (length packet) ∷ codes " " ∷ decimal n ∷ codes "\n" ∷ []),
  added ∙ ap (λ (a : ℕ). old ++ concat (codes "long " ∷ decimal a ∷ codes " " ∷ decimal octets ∷ codes " " ∷ decimal n ∷ codes "\n" ∷ [])) named
      ∙ ap (λ (k : ℕ). old ++ concat (codes "long " ∷ decimal (apid_of packet) ∷ codes " " ∷ decimal k ∷ codes " " ∷ decimal n ∷ codes "\n" ∷ [])) size,
  long d n front (omega (arith, less, size)),
)

pub bad_line : (tree : Tree) (packet old new : List ℕ) (apid reach : ℕ) (fault : Fault) → apid ≡ apid_of packet → Refusal (grammar_of tree.root) (bits packet) (fault_of fault) reach
    → new ≡ old ++ concat (codes "bad " ∷ decimal apid ∷ codes " " ∷ (fault_words tree fault ++ codes "\n" ∷ [])) → Adds (TreeLine tree packet Bad) old new
bad_line tree packet old new apid reach fault named refused added = (
  concat (codes "bad " ∷ decimal (apid_of packet) ∷ codes " " ∷ (fault_words tree fault ++ codes "\n" ∷ [])),
  added ∙ ap (λ (a : ℕ). old ++ concat (codes "bad " ∷ decimal a ∷ codes " " ∷ (fault_words tree fault ++ codes "\n" ∷ []))) named,
  bad fault reach refused,
)

pub unrouted_line : (packet old new : List ℕ) (apid octets : ℕ) → apid ≡ apid_of packet → octets ≡ length packet
    → new ≡ old ++ concat (codes "none " ∷ decimal apid ∷ codes " " ∷ decimal octets ∷ codes "\n" ∷ []) → Adds (LineBy None packet Unrouted) old new
unrouted_line packet old new apid octets named size added = (
  concat (codes "none " ∷ decimal (apid_of packet) ∷ codes " " ∷ decimal (length packet) ∷ codes "\n" ∷ []),
  added ∙ ap (λ (a : ℕ). old ++ concat (codes "none " ∷ decimal a ∷ codes " " ∷ decimal octets ∷ codes "\n" ∷ [])) named
      ∙ ap (λ (k : ℕ). old ++ concat (codes "none " ∷ decimal (apid_of packet) ∷ codes " " ∷ decimal k ∷ codes "\n" ∷ [])) size,
  (refl, refl),
)
