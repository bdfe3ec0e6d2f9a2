-- From what one coding says to what the leaf says.
use Rattle.std.proofs.Common.{◌≡◌, ℕ, ℤ, Bool, List, length, refl, sym, subst, inl, inr, Result, Ok, Err, IfOk}
use Rattle.std.specs.Prelude.{IfErr, OnErr, Some}
use Rattle.acn_bits.specs.Reading.{Reading, Reads, Stays}
use Rattle.acn_num.specs.Ranges.{In}
use Rattle.acn_grammar.specs.Code.{Code, Any, CodingCode, image_of}
use Rattle.acn_grammar.specs.LeafFails.{CodingFails, FixedFails, Reason, says, wrong, out_of_range, most_digits, code_cut, code_not_permitted}
use Rattle.acn_grammar.specs.Images.{images_of}
use Rattle.acn_grammar.specs.ReadFaults.{reason_of}
use Rattle.acn_grammar.specs.declared.read_fault.ReadFault.{ReadFault}
use Rattle.acn_grammar.specs.declared.node.NumLeaf.{NumLeaf}
use Rattle.acn_grammar.specs.declared.node.NumCoding.{NumCoding}
use Rattle.acn_ints.specs.declared.said.Said.{Said}
use Rattle.acn_ints.specs.Reads.{IsSaid, Refuses}
use Rattle.acn_ints.specs.FixedReads.{Taken, TooFew, FixedSaid, FixedWrong}
use Rattle.acn_bits.proofs.Readings.{reads_passed, reads_map, reads_nothing}

-- a coding of one width, whose failures are those of that width
pub record IsFixed (coding : NumCoding) (leaf : NumLeaf) (n : ℕ) : Type 0 where
  pub same : (rest : List Bool) (r : Reason) (reach : ℕ) → FixedFails coding leaf n rest r reach → CodingFails coding leaf rest r reach

fixed_is_said : (coding : NumCoding) (leaf : NumLeaf) (n : ℕ) (old new : Reading) (w i : ℤ) → IsFixed coding leaf n → FixedSaid coding leaf.little n old new w i → IsSaid coding leaf old new w i
fixed_is_said coding leaf n old new w i f s = record {
  read = reads_passed (CodingCode Any coding leaf.little i) n old new s.within s.moved s.spells;
  refused = λ none. (n, f.same old.rest (out_of_range w) n (code_not_permitted (s.within, (says w i, s.told, (none, refl)), refl)));
}

fixed_fails : (coding : NumCoding) (leaf : NumLeaf) (n : ℕ) (old new : Reading) (r : Reason) → IsFixed coding leaf n → FixedWrong coding leaf.little n old new r → Refuses coding leaf old.rest r
fixed_fails coding leaf n old new r f (inl few) = (length old.rest, f.same old.rest r (length old.rest) (code_cut (few.0.few, few.1, refl)))
fixed_fails coding leaf n old new r f (inr bad) = (n, f.same old.rest r n (code_not_permitted (bad.0, (wrong r, bad.2, refl), refl)))

fixed_stays : (coding : NumCoding) (little : Bool) (n : ℕ) (old new : Reading) (r : Reason) → FixedWrong coding little n old new r → Stays old new
fixed_stays coding little n old new r (inl few) = reads_nothing (λ _. Unit {0}) old new few.0.kept tt
fixed_stays coding little n old new r (inr bad) = bad.1

-- the three clauses of a reader by a coding of one width

pub fixed_said_at : (found coding : NumCoding) (leaf : NumLeaf) (n : ℕ) (old new : Reading) (r : Result Said ReadFault) → found ≡ coding → IsFixed coding leaf n
    → IfOk r (λ s. FixedSaid coding leaf.little n old new s.wire s.image) → IfOk r (λ s. IsSaid found leaf old new s.wire s.image)
fixed_said_at found coding leaf n old new (Ok s) e f h = subst (λ (k : NumCoding). IsSaid k leaf old new s.wire s.image) (sym e) (fixed_is_said coding leaf n old new s.wire s.image f h)
fixed_said_at found coding leaf n old new (Err x) e f h = h

pub fixed_wrong_at : (found coding : NumCoding) (leaf : NumLeaf) (n : ℕ) (old new : Reading) (r : Result Said ReadFault) → found ≡ coding → IsFixed coding leaf n
    → IfErr r (λ e. FixedWrong coding leaf.little n old new (reason_of e)) → IfErr r (λ e. Refuses found leaf old.rest (reason_of e))
fixed_wrong_at found coding leaf n old new (Ok s) e f h = h
fixed_wrong_at found coding leaf n old new (Err x) e f h = subst (λ (k : NumCoding). Refuses k leaf old.rest (reason_of x)) (sym e) (fixed_fails coding leaf n old new (reason_of x) f h)

pub fixed_stays_at : (coding : NumCoding) (little : Bool) (n : ℕ) (old new : Reading) (r : Result Said ReadFault)
    → IfErr r (λ e. FixedWrong coding little n old new (reason_of e)) → OnErr r (Stays old new)
fixed_stays_at coding little n old new (Ok s) h = h
fixed_stays_at coding little n old new (Err x) h = fixed_stays coding little n old new (reason_of x) h

-- a number that is written so, or none

pub said_number : (leaf : NumLeaf) (old new : Reading) (w i x : ℤ) → IsSaid leaf.coding leaf old new w i → In leaf.set x → image_of leaf x ≡ Some i → Reads (Code Any leaf x) old new
said_number leaf old new w i x s permitted maps =
    reads_map (CodingCode Any leaf.coding leaf.little i) (Code Any leaf x) old new (λ front spelled. record { permitted = permitted; image = i; maps = maps; spelled = spelled }) s.read

pub said_stays : (coding : NumCoding) (leaf : NumLeaf) (old new : Reading) (w i : ℤ) → IsSaid coding leaf old new w i → Stays old new
said_stays coding leaf old new w i s = reads_map (CodingCode Any coding leaf.little i) (λ _. Unit {0}) old new (λ front _. tt) s.read

pub taken_stays : (n : ℕ) (old new : Reading) (v : ℕ) → Taken n old new v → Stays old new
taken_stays n old new v t = reads_passed (λ _. Unit {0}) n old new t.within t.moved tt

pub few_stays : (n : ℕ) (old new : Reading) → TooFew n old new → Stays old new
few_stays n old new f = reads_nothing (λ _. Unit {0}) old new f.kept tt

-- from a clause for every leaf to one for this leaf

pub wrong_at : (found coding : NumCoding) (leaf : NumLeaf) (rest : List Bool) (r : Result Said ReadFault) → found ≡ coding
    → IfErr r (λ e. (leaf : NumLeaf) → Refuses coding leaf rest (reason_of e)) → IfErr r (λ e. Refuses found leaf rest (reason_of e))
wrong_at found coding leaf rest (Ok s) e h = h
wrong_at found coding leaf rest (Err x) e h = subst (λ (k : NumCoding). Refuses k leaf rest (reason_of x)) (sym e) (h leaf)

-- from a clause for every leaf with this most of digits

pub ended_wrong_at : (found coding : NumCoding) (leaf : NumLeaf) (rest : List Bool) (most : ℕ) (r : Result Said ReadFault) → found ≡ coding → most ≡ most_digits (images_of leaf)
    → IfErr r (λ e. (leaf : NumLeaf) → most_digits (images_of leaf) ≡ most → Refuses coding leaf rest (reason_of e)) → IfErr r (λ e. Refuses found leaf rest (reason_of e))
ended_wrong_at found coding leaf rest most (Ok s) e m h = h
ended_wrong_at found coding leaf rest most (Err x) e m h = subst (λ (k : NumCoding). Refuses k leaf rest (reason_of x)) (sym e) (h leaf (sym m))

pub ended_said_at : (found coding : NumCoding) (leaf : NumLeaf) (old new : Reading) (most : ℕ) (r : Result Said ReadFault) → found ≡ coding → most ≡ most_digits (images_of leaf)
    → IfOk r (λ s. (leaf : NumLeaf) → most_digits (images_of leaf) ≡ most → IsSaid coding leaf old new s.wire s.image) → IfOk r (λ s. IsSaid found leaf old new s.wire s.image)
ended_said_at found coding leaf old new most (Ok s) e m h = subst (λ (k : NumCoding). IsSaid k leaf old new s.wire s.image) (sym e) (h leaf (sym m))
ended_said_at found coding leaf old new most (Err x) e m h = h
