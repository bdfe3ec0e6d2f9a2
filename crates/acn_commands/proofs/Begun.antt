-- From the clauses of a stream to whether it was begun, and which device failed.
use Rattle.std.proofs.Common.{◌≡◌, ◌<◌, ℕ, zero, suc, refl, arith}
use Rattle.std.specs.Prelude.{Result, Ok, Err, IsErrOf}
use Rattle.acn_outside.specs.Counts.{Rose, Stays}
use Rattle.acn_stream.specs.declared.stream_fault.StreamFault.{StreamFault}
use Rattle.acn_stream.specs.declared.stream_fault.StreamFault.TheVariants as stream
use Rattle.acn_commands.specs.Steps.{WasBegun, FailedSo}

-- what isn't 0 is above it
pub above : (n : ℕ) → (n ≡ 0 → ⊥) → 0 < n
above zero h = absurd (h refl)
above (suc n) h = omega arith

pub was_begun : (r : Result ℕ StreamFault) → (IsErrOf r stream.EmptyPacket → ⊥) → WasBegun r
was_begun (Ok count) h = tt
was_begun (Err (stream.LineTooLong k)) h = tt
was_begun (Err stream.InputTooLong) h = tt
was_begun (Err stream.EmptyPacket) h = absurd (h refl)
was_begun (Err (stream.Packet k f)) h = tt
was_begun (Err (stream.BadLine k f)) h = tt
was_begun (Err (stream.Unfit k f)) h = tt
was_begun (Err stream.InputFault) h = tt
was_begun (Err stream.OutputFault) h = tt
was_begun (Err stream.NoMemory) h = tt

pub failed_so : (r : Result ℕ StreamFault) (n n' m m' : ℕ) → (IsErrOf r stream.InputFault → Rose n n') → (IsErrOf r stream.OutputFault → Rose m m')
    → ((IsErrOf r stream.InputFault → ⊥) → (IsErrOf r stream.OutputFault → ⊥) → Stays n n') → ((IsErrOf r stream.OutputFault → ⊥) → Stays m m') → FailedSo r n n' m m'
failed_so (Ok count) n n' m m' i o p q = (p (λ e. cc) (λ e. cc), q (λ e. cc))
failed_so (Err (stream.LineTooLong k)) n n' m m' i o p q = (p (λ e. cc) (λ e. cc), q (λ e. cc))
failed_so (Err stream.InputTooLong) n n' m m' i o p q = (p (λ e. cc) (λ e. cc), q (λ e. cc))
failed_so (Err stream.EmptyPacket) n n' m m' i o p q = (p (λ e. cc) (λ e. cc), q (λ e. cc))
failed_so (Err (stream.Packet k f)) n n' m m' i o p q = (p (λ e. cc) (λ e. cc), q (λ e. cc))
failed_so (Err (stream.BadLine k f)) n n' m m' i o p q = (p (λ e. cc) (λ e. cc), q (λ e. cc))
failed_so (Err (stream.Unfit k f)) n n' m m' i o p q = (p (λ e. cc) (λ e. cc), q (λ e. cc))
failed_so (Err stream.InputFault) n n' m m' i o p q = i refl
failed_so (Err stream.OutputFault) n n' m m' i o p q = o refl
failed_so (Err stream.NoMemory) n n' m m' i o p q = (p (λ e. cc) (λ e. cc), q (λ e. cc))
