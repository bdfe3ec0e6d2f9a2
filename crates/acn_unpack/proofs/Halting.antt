-- What is told of a stop goes on.
use Rattle.std.proofs.Common.{◌≡◌, ℕ, ◌<◌, Bool, true, false, arith, inl, inr}
use Rattle.std.specs.Prelude.{Result, Ok, Err, IfOk, IfErr, OnOk}
use Rattle.acn_grammar.specs.LeafFails.{Reason}
use Rattle.acn_grammar.specs.declared.limits.TheConstants.{MOST_OPEN_SLOTS}
use Rattle.acn_reads.specs.Decoded.{IsFault, Tells}
use Rattle.acn_reads.specs.declared.stop.Stop.{Stop}
use Rattle.acn_reads.specs.declared.stop.Stop.TheVariants.{Fails as Failed, NoMemory}
use Rattle.acn_unpack.specs.Keeps.{Halts, IsFull, MayLack}

pub halts_map : (e : Stop) (L M : Type 0) (P Q : Reason → ℕ → Type 0) → (L → M) → ((r : Reason) (at : ℕ) → P r at → Q r at) → Halts L e P → Halts M e Q
halts_map (Failed reason at) L M P Q l f h = f _ at h
halts_map NoMemory L M P Q l f h = l h

pub stops_map : {A : Type 0} (r : Result A Stop) (L M : Type 0) (P Q : Reason → ℕ → Type 0) → (L → M) → ((q : Reason) (at : ℕ) → P q at → Q q at) → IfErr r (λ e. Halts L e P) → IfErr r (λ e. Halts M e Q)
stops_map (Ok x) L M P Q l f h = tt
stops_map (Err e) L M P Q l f h = halts_map e L M P Q l f h

-- what is told where memory may run out
tells_halts : (e : Stop) (L : Type 0) (P : Reason → ℕ → Type 0) → L → Tells e P → Halts L e P
tells_halts (Failed reason at) L P l h = h
tells_halts NoMemory L P l h = l

pub tells_all : {A : Type 0} (r : Result A Stop) (L : Type 0) (P : Reason → ℕ → Type 0) → L → IfErr r (λ e. Tells e P) → IfErr r (λ e. Halts L e P)
tells_all (Ok x) L P l h = tt
tells_all (Err e) L P l h = tells_halts e L P l h

-- what follows of both answers
pub ok_both : {A : Type 0} (r : Result A Stop) (P Q R : Type 0) → OnOk r P → OnOk r Q → (P → Q → R) → IfOk r (λ k. R)
ok_both (Ok x) P Q R p q f = f p q
ok_both (Err e) P Q R p q f = tt

pub err_map : {A : Type 0} (r : Result A Stop) (P Q : Stop → Type 0) → ((e : Stop) → P e → Q e) → IfErr r P → IfErr r Q
err_map (Ok x) P Q f h = tt
err_map (Err e) P Q f h = f e h

-- a stop that isn't for want of memory
pub fault_map : (e : Stop) (M : Type 0) (P Q : Reason → ℕ → Type 0) → IsFault e → ((r : Reason) (at : ℕ) → P r at → Q r at) → Tells e P → Halts M e Q
fault_map (Failed reason at) M P Q i f h = f _ at h
fault_map NoMemory M P Q i f h = absurd i

-- a stop for want of places
pub full_halts : (e : Stop) (places : ℕ) (Q : Reason → ℕ → Type 0) → IsFull places e → Halts (places < MOST_OPEN_SLOTS) e Q
full_halts (Failed reason at) places Q h = absurd h
full_halts NoMemory places Q h = h

pub full_lacks : (e : Stop) (takes : Bool) (places : ℕ) (Q : Reason → ℕ → Type 0) → IsFull places e → Halts (MayLack takes places) e Q
full_lacks e takes places Q h = halts_map e (places < MOST_OPEN_SLOTS) (MayLack takes places) Q Q (λ x. inr x) (λ r at q. q) (full_halts e places Q h)

-- where a table has a place for each slot that may be open, room is wanting for what is kept alone
pub for_memory : (takes : Bool) → MayLack takes MOST_OPEN_SLOTS → takes ≡ true
for_memory takes (inl h) = h
for_memory takes (inr h) = absurd (omega (arith, h))

pub halts_tells : (e : Stop) (L : Type 0) (P : Reason → ℕ → Type 0) → Halts L e P → Tells e P
halts_tells (Failed reason at) L P h = h
halts_tells NoMemory L P h = tt

pub no_lack : false ≡ true → ⊥
no_lack e = cc
