-- Octets that hold a node: the window is entered, the node is put, it is filled up to octets, and it is closed.
use Rattle.std.proofs.Common.{◌≡◌, ℕ, List, [], ◌∷◌, ◌++◌}
use Rattle.std.specs.Prelude.{Result, OnOk, OnErr, IsErrAnd}
use Rattle.acn_events.specs.Event.{Event, aligns, closes, enters}
use Rattle.acn_events.specs.Events.{events, form_events}
use Rattle.acn_grammar.specs.Grammar.{Grammar, Data, contained}
use Rattle.acn_grammar.specs.Length.{bit_length}
use Rattle.acn_grammar.specs.declared.node.Sizing.{Sizing}
use Rattle.acn_num.specs.Bits.{octets as octets_for}
use Rattle.acn_writer.specs.Answers.{Comes, HaltsFor}
use Rattle.acn_writer.specs.Halts.{halt_of}
use Rattle.acn_writer.specs.declared.halt.Halt.{Halt as HaltData}
use Rattle.acn_writer.specs.declared.halt.Halted.{Halted}
use Rattle.acn_writer.specs.declared.writer.Writer.{Writer}
use Rattle.acn_pack.specs.Packs.{Ran, Stopped, Packs, GoesOn}
use Rattle.acn_pack.proofs.Ways.{begin, then_one, then_some, last_one, failed_one, failed_some, close_ran, close_halted}

module _ (root n : Grammar) (p : List ℕ) (s : Sizing) (d : Data) where
  abbrev whole : List Event
  whole = form_events root (contained s n) p d

  abbrev inner : List Event
  inner = events root n (p ++ 0 ∷ []) d

  abbrev closing : List Event
  closing = closes p s (octets_for (bit_length n 0 d)) ∷ []

  module _ {N S A : ℕ} (m o : Writer N S A) where
    pub enter_fails : {R : Type 0} (why : HaltData) (e : Halted) (r : Result R Halted) → IsErrAnd r (λ y. y ≡ e) → HaltsFor (λ path. enters s.rule) m o why → Packs whole m o p why r
    enter_fails why e r is h = failed_one whole (inner ++ aligns 8 ∷ closing) (λ path. enters s.rule) p m m o why e r is (begin whole m) h

    module _ (entered : Comes (λ path. enters s.rule) m o) (q : Writer N S A) where
      inside : GoesOn whole (inner ++ aligns 8 ∷ closing) m o
      inside = then_one whole (inner ++ aligns 8 ∷ closing) (λ path. enters s.rule) p m m o (begin whole m) entered

      pub node_fails : {R : Type 0} (at : List ℕ) (why : HaltData) (e : Halted) (r : Result R Halted) → IsErrAnd r (λ y. y ≡ e) → Stopped inner o q (halt_of at why) → Packs whole m q at why r
      node_fails at why e r is h = failed_some whole inner (aligns 8 ∷ closing) at m o q why e r is inside h

      module _ (held : Ran inner o q) (x : Writer N S A) where
        behind : GoesOn whole (aligns 8 ∷ closing) m q
        behind = then_some whole inner (aligns 8 ∷ closing) m o q inside held

        pub align_fails : {R : Type 0} (at : List ℕ) (why : HaltData) (e : Halted) (r : Result R Halted) → IsErrAnd r (λ y. y ≡ e) → HaltsFor (λ path. aligns 8) q x why → Packs whole m x at why r
        align_fails at why e r is h = failed_one whole closing (λ path. aligns 8) at m q x why e r is behind h

        pub closed : {R : Type 0} (y : Writer N S A) (why : HaltData) (r : Result R Halted) → Comes (λ path. aligns 8) q x
            → OnOk r ((k : ℕ) → Comes (λ path. closes path s k) x y) → OnErr r ((k : ℕ) → HaltsFor (λ path. closes path s k) x y why) → Packs whole m y p why r
        closed y why r filled ran halted =
            (let count = octets_for (bit_length n 0 d) in
            last_one whole (λ path. closes path s count) m x y p why r (then_one whole closing (λ path. aligns 8) p m q x behind filled)
            (close_ran (λ k path. closes path s k) x y r ran count) (close_halted (λ k path. closes path s k) x y why r halted count))
