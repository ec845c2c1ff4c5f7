-- Examples of the faults of gatherings, computed.
use Rattle.std.proofs.Common.{◌≡◌, ℕ, Ok, Err, refl}
use Rattle.redo_line.specs.declared.stream_fault.StreamFault.TheVariants.{TooLong}
use Rattle.redo_gather.specs.GatherFault.{IfStreamFault}
use Rattle.redo_gather.specs.declared.gather_fault.GatherFault.TheVariants as gather

of_a_stream : IfStreamFault {A = ℕ} (Err (gather.Stream 3 TooLong)) (λ number fault. (number ≡ 3) × (fault ≡ TooLong))
of_a_stream = (refl, refl)

not_of_a_stream : IfStreamFault {A = ℕ} (Err (gather.Stream 3 TooLong)) (λ number fault. ⊥) → ⊥
not_of_a_stream is = is

of_none : IfStreamFault {A = ℕ} (Ok 0) (λ number fault. ⊥) × IfStreamFault {A = ℕ} (Err gather.OutOfMemory) (λ number fault. ⊥)
of_none = (tt, tt)
