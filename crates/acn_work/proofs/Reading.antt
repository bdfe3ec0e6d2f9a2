-- What was written for a value is read again.
use Rattle.std.proofs.Common.{◌≡◌, ◌∙◌, ℕ, ◌-◌, ◌*◌, ◌≤◌, Bool, false, List, length, take, drop, replicate, refl, sym, ap, subst, arith, length-append, length-take, length-take-le, take-append-drop}
use Rattle.std.proofs.lemmas.List.{length-replicate}
use Rattle.acn_num.specs.Bits.{bits, octets}
use Rattle.acn_num.proofs.BitLists.{length-bits}
use Rattle.acn_grammar.specs.Front.{Front}
use Rattle.acn_grammar.specs.Grammar.{Grammar, Data}
use Rattle.acn_grammar.specs.declared.fault.Refuse.{Refuse}
use Rattle.acn_grammar.specs.declared.fault.Refuse.TheVariants.{Bad, NoMemory}
use Rattle.acn_packing.specs.Packed.{IsPacked, PackedIsReadAgain}
use Rattle.acn_reads.specs.Answers.{OnlyFault, OnlyFront}
use Rattle.acn_work.specs.Steps.{HasFront}

-- where a value is at the front nothing is refused
pub only_memory : (g : Grammar) (input : List Bool) (refuse : Refuse) → OnlyFault g input refuse → HasFront g input → refuse ≡ NoMemory
only_memory g input (Bad fault) only there = absurd (only.1 there.0 there.1 there.2)
only_memory g input NoMemory only there = refl

no_longer : (k : ℕ) (bytes : List ℕ) → length (take k bytes) ≤ length bytes
no_longer k bytes = simp length-take (omega arith)

-- what is packed lies in its buffer
pub inside : (g : Grammar) (d : Data) (n : ℕ) (before after : List ℕ) → IsPacked g d n before after → n ≤ 8 * length after
inside g d n before after p =
    let first = take (octets n) after in
    let fill = 8 * octets (length p.spelling) - length p.spelling in
    omega (arith, p.counted, no_longer (octets n) after, length-bits first, ap length p.first, length-append p.spelling (replicate fill false), length-replicate fill false)

module _ (g : Grammar) (d : Data) (n : ℕ) (before after : List ℕ) (packed : IsPacked g d n before after) (again : PackedIsReadAgain g d n after) where
  front : Front g (bits after) d n
  front =
      let within = inside g d n before after packed in
      let long : length (take n (bits after)) ≡ n = length-take-le n (bits after) (omega (arith, within, length-bits after)) in
      let whole = subst (λ (input : List Bool). Front g input d (length (take n (bits after)))) (take-append-drop n (bits after)) (again (drop n (bits after))).0 in
      subst (λ (k : ℕ). Front g (bits after) d k) long whole

  pub there : HasFront g (bits after)
  there = (d, n, front)

  -- as many bits are read
  pub all_read : (e : Data) (used : ℕ) → OnlyFront g (bits after) e used → used ≡ length packed.spelling
  all_read e used only = sym (only.0 d n front).1 ∙ packed.counted
