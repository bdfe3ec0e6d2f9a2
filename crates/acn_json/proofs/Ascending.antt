-- Members in byte order of their names, each above those before it.
use Rattle.std.proofs.Common.{◌≡◌, ℕ, List, Ordering, Less, Equal, Greater, nat_cmp, refl, ap, ◌∙◌}
use Rattle.std.proofs.lemmas.Cmp.{nat_list_cmp_total}
use Rattle.std.specs.Cmp.Lexicographic.{slice_cmp}
use Rattle.std.specs.Ordering.{match_ordering, ordering_reverse}
use Rattle.serde_json.specs.Data.{Data, Members, no_members, member, put}
use Rattle.acn_grammar.specs.Grammar.{Fields, Places, no_fields, component, inserted, no_places, empty, filled}
use Rattle.acn_json.specs.Lines.{json_of, fields_json}

abbrev cmp : List ℕ → List ℕ → Ordering
cmp k l = slice_cmp nat_cmp k l

turned : (k l : List ℕ) → cmp l k ≡ ordering_reverse (cmp k l)
turned k l = nat_list_cmp_total.antisymm l k

abbrev pub AllAbove : List ℕ → Members → Type 0
AllAbove k no_members = Unit {0}
AllAbove k (member l e ms) = (slice_cmp nat_cmp k l ≡ Less) × AllAbove k ms

abbrev pub IsAscending : Members → Type 0
IsAscending no_members = Unit {0}
IsAscending (member k d ms) = AllAbove k ms × IsAscending ms

above_chain : (j k : List ℕ) (ms : Members) → cmp j k ≡ Less → AllAbove k ms → AllAbove j ms
above_chain j k no_members e h = tt
above_chain j k (member l d ms) e h = (nat_list_cmp_total.trans j k l e h.0, above_chain j k ms e h.1)

above-put_at : (o : Ordering) (j k l : List ℕ) (d e : Data) (ms : Members) → cmp j k ≡ Less → AllAbove j (member l e ms) → AllAbove j (put k d ms)
    → AllAbove j (match_ordering o (member k d (member l e ms)) (member l d ms) (member l e (put k d ms)))
above-put_at Less j k l d e ms p h r = (p, h)
above-put_at Equal j k l d e ms p h r = h
above-put_at Greater j k l d e ms p h r = (h.0, r)

above-put : (j k : List ℕ) (d : Data) (ms : Members) → cmp j k ≡ Less → AllAbove j ms → AllAbove j (put k d ms)
above-put j k d no_members p h = (p, tt)
above-put j k d (member l e ms) p h = above-put_at (cmp k l) j k l d e ms p h (above-put j k d ms p h.1)

ascending-put_at : (o : Ordering) (k l : List ℕ) (d e : Data) (ms : Members) → cmp k l ≡ o → IsAscending (member l e ms) → IsAscending (put k d ms)
    → IsAscending (match_ordering o (member k d (member l e ms)) (member l d ms) (member l e (put k d ms)))
ascending-put_at Less k l d e ms is h r = ((is, above_chain k l ms is h.0), h)
ascending-put_at Equal k l d e ms is h r = h
ascending-put_at Greater k l d e ms is h r = (above-put l k d ms (turned k l ∙ ap ordering_reverse is) h.0, r)

pub ascending-put : (k : List ℕ) (d : Data) (ms : Members) → IsAscending ms → IsAscending (put k d ms)
ascending-put k d no_members h = (tt, tt)
ascending-put k d (member l e ms) h = ascending-put_at (cmp k l) k l d e ms refl h (ascending-put k d ms h.1)

ascending_from : (found : Members) (fs : Fields) (ps : Places) → IsAscending found → IsAscending (fields_json found fs ps)
ascending_from found no_fields ps a = a
ascending_from found (component name g presence default own fs) no_places a = a
ascending_from found (component name g presence default own fs) (empty ps) a = ascending_from found fs ps a
ascending_from found (component name g presence default own fs) (filled d ps) a = ascending_from (put name (json_of g d) found) fs ps (ascending-put name (json_of g d) found a)
ascending_from found (inserted name g slot fs) ps a = ascending_from found fs ps a

pub ascending : (fs : Fields) (ps : Places) → IsAscending (fields_json no_members fs ps)
ascending fs ps = ascending_from no_members fs ps tt
