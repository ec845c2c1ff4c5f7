-- Examples of runs, computed: their results, and the texts that they write. Without targets, the result of a run is the same for
-- all streams.
use Rattle.std.proofs.Common.{◌≡◌, ℕ, true, false, List, [], ◌∷◌, Option, None, Some, Result, Ok, Err, length, refl, sym, ap, arith, unwrap_or}
use Rattle.std.specs.Prelude.{codes}
use Rattle.std.specs.Global.{Vec}
use Rattle.redo_line.specs.declared.stream_fault.StreamFault.TheVariants.{TooLong}
use Rattle.redo_name.specs.Names.{reduce_suffix, normal}
use Rattle.redo_device.specs.Feed.{Stream}
use Rattle.redo_device.specs.Sink.{Output}
use Rattle.redo_gather.specs.declared.gather_fault.GatherFault.TheVariants as gather
use Rattle.redo_run.specs.declared.run_fault.RunFault.{RunFault}
use Rattle.redo_run.specs.declared.run_fault.RunFault.TheVariants.{Unknown, Stream as OfStream, OutOfMemory, Write}
use Rattle.redo_run.specs.Run.{Request, request}
use Rattle.redo_run.specs.RunFault.{IfStreamFault, IfNoText, IfUnknown, run_fault_of_gather}
use Rattle.redo_run.specs.Outcome.{Call, IsSomeResultFault, WritesSomePrefix, WritesSomeText, WritesSomeTextUntilFailure, call}

abbrev Done : Type 0
Done = Result (Unit {0}) RunFault

abbrev done : Done
done = Ok tt

abbrev unknown : Done
unknown = Err (Unknown 2)

abbrev of_stream : Done
of_stream = Err (OfStream 3 TooLong)

abbrev no_memory : Done
no_memory = Err OutOfMemory

abbrev unwritten : Done
unwritten = Err Write

of_gather : (run_fault_of_gather (gather.Stream 3 TooLong) ≡ OfStream 3 TooLong) × (run_fault_of_gather gather.OutOfMemory ≡ OutOfMemory)
of_gather = (refl, refl)

-- A statement about one kind of fault says something about that kind and nothing about others.
if_stream : IfStreamFault of_stream (λ number fault. (number ≡ 3) × (fault ≡ TooLong))
if_stream = (refl, refl)

not_if_stream : IfStreamFault of_stream (λ number fault. ⊥) → ⊥
not_if_stream is = is

if_no_stream : IfStreamFault done (λ number fault. ⊥) × IfStreamFault unknown (λ number fault. ⊥)
    × IfStreamFault no_memory (λ number fault. ⊥) × IfStreamFault unwritten (λ number fault. ⊥)
if_no_stream = (tt, tt, tt, tt)

if_unknown : IfUnknown unknown (λ place. place ≡ 2)
if_unknown = refl

not_if_unknown : IfUnknown unknown (λ place. ⊥) → ⊥
not_if_unknown is = is

if_none_unknown : IfUnknown done (λ place. ⊥) × IfUnknown of_stream (λ place. ⊥) × IfUnknown no_memory (λ place. ⊥)
    × IfUnknown unwritten (λ place. ⊥)
if_none_unknown = (tt, tt, tt, tt)

if_rejected : IfNoText unknown (λ fault. fault ≡ Unknown 2) × IfNoText of_stream (λ fault. fault ≡ OfStream 3 TooLong)
if_rejected = (refl, refl)

not_if_unknown_rejected : IfNoText unknown (λ fault. ⊥) → ⊥
not_if_unknown_rejected is = is

not_if_stream_rejected : IfNoText of_stream (λ fault. ⊥) → ⊥
not_if_stream_rejected is = is

if_none_rejected : IfNoText done (λ fault. ⊥) × IfNoText no_memory (λ fault. ⊥) × IfNoText unwritten (λ fault. ⊥)
if_none_rejected = (tt, tt, tt)

-- A run without targets, with these arguments.
abbrev request_for : List (List ℕ) → Request
request_for arguments = record {
  targets = [];
  max_bytes = 9;
  options = record { recursive = false; unchanged = false; details = true; debug_locks = false; debug_pids = false };
  arguments = arguments;
}

-- An argument of one byte. The pointer and the allocator of another argument don't matter.
abbrev of_byte : Vec ℕ → ℕ → Vec ℕ
of_byte other byte = record {
  ptr = other.ptr;
  len = 1;
  cap = 1;
  alloc = other.alloc;
  items = byte ∷ [];
  ok = (refl, omega arith);
  small = omega arith;
}

-- The request of a run, computed from an index, a plan, options and arguments. Targets and arguments keep their order.
request_of_run : (other : Vec ℕ)
    → request (record { number = 5; target = codes "x"; must_close = true }
    ∷ record { number = 3; target = codes "w"; must_close = false } ∷ [])
    9 (request_for []).options (of_byte other 98 ∷ of_byte other 97 ∷ [])
    ≡ record {
      targets = codes "x" ∷ codes "w" ∷ [];
      max_bytes = 9;
      options = (request_for []).options;
      arguments = codes "b" ∷ codes "a" ∷ [];
    }
request_of_run other = refl

-- Each reader is paired with the must-close flag at the same index.
call_of_run : (other : Vec ℕ)
    → call (λ (known : Option Stream). known)
    (record { number = 5; target = codes "x"; must_close = true } ∷ record { number = 3; target = codes "w"; must_close = false } ∷ [])
    (Some (record { bytes = codes "s"; fails = false }) ∷ None ∷ []) 9 (request_for []).options (of_byte other 98 ∷ [])
    ≡ record {
      request = record {
        targets = codes "x" ∷ codes "w" ∷ [];
        max_bytes = 9;
        options = (request_for []).options;
        arguments = codes "b" ∷ [];
      };
      inputs = record { must_close = true; stream = Some (record { bytes = codes "s"; fails = false }) }
          ∷ record { must_close = false; stream = None } ∷ [];
    }
call_of_run other = refl

abbrev call_for : List (List ℕ) → Call
call_for arguments = record { request = request_for arguments; inputs = [] }

abbrev taken : List ℕ → ℕ → Option Output
taken bytes failures = Some (record { bytes = bytes; failures = failures })

abbrev failures : Option Output → ℕ
failures took = (unwrap_or took (record { bytes = []; failures = 0 })).failures

abbrev count : Option Output → ℕ
count took = length (unwrap_or took (record { bytes = []; failures = 0 })).bytes

abbrev fails : RunFault → Option (Result (List ℕ) RunFault)
fails fault = Some (Err fault)

is_result_fault : IsSomeResultFault (call_for (codes "x" ∷ [])) (Unknown 0)
unfolding reduce_suffix normal
is_result_fault = ([], tt, refl)

not_another_fault : IsSomeResultFault (call_for (codes "x" ∷ [])) Write → ⊥
unfolding reduce_suffix normal
not_another_fault has = let same : fails (Unknown 0) ≡ fails Write = has.2 in absurd (cc)

-- Without arguments the text is empty.
abbrev no_text : Option (Result (List ℕ) RunFault)
no_text = Some (Ok [])

empty_text : (text : List ℕ) → no_text ≡ Some (Ok text) → length text ≡ 0
empty_text text is = let same : [] ≡ text = cc in ap length (sym same)

writes_nothing : WritesSomeText (call_for []) (taken (codes "a") 2) (taken (codes "a") 2)
writes_nothing = ([], tt, ([], refl, refl))

not_written_more : WritesSomeText (call_for []) (taken [] 0) (taken (codes "x") 0) → ⊥
not_written_more has = omega (arith, empty_text has.2.0 has.2.1, ap count has.2.2)

not_written_and_failed : WritesSomeText (call_for []) (taken [] 0) (taken [] 1) → ⊥
not_written_and_failed has = omega (arith, ap failures has.2.2)

-- No write fails within an empty text.
not_failed_in_nothing : WritesSomeTextUntilFailure (call_for []) (taken [] 0) (taken [] 1) → ⊥
not_failed_in_nothing has = omega (arith, empty_text has.2.0 has.2.1, has.2.2.1)

not_failed_without_failure : WritesSomeTextUntilFailure (call_for []) (taken [] 0) (taken [] 0) → ⊥
not_failed_without_failure has = omega (arith, ap failures has.2.2.2)

writes_prefix : WritesSomePrefix (call_for []) (taken (codes "a") 2) (taken (codes "a") 2)
writes_prefix = ([], tt, ([], refl, (0, refl)))

not_prefix_and_failed : WritesSomePrefix (call_for []) (taken [] 0) (taken [] 1) → ⊥
not_prefix_and_failed has = omega (arith, ap failures has.2.2.1)
