-- Examples of runs with another text than the expansion, computed.
use Rattle.std.proofs.Common.{◌≡◌, ℕ, true, false, List, [], ◌∷◌, ◌++◌, Option, None, Some, Result, Ok, Err, flat_map, length, ap, arith, refl}
use Rattle.std.specs.Prelude.{codes}
use Rattle.std.specs.Global.{Vec}
use Rattle.std.specs.List.{AllByRecursion}
use Rattle.redo_line.specs.declared.stream_fault.StreamFault.TheVariants.{TooLong}
use Rattle.redo_line.specs.Decimal.{number}
use Rattle.redo_line.specs.Entry.{record_entry, entry_of}
use Rattle.redo_line.specs.Lines.{split_lines, ended, rest}
use Rattle.redo_line.specs.Log.{stream_of, first_fault}
use Rattle.redo_line.specs.Parts.{split_once, after_prefix}
use Rattle.redo_line.specs.Record.{fields_of, status_of}
use Rattle.redo_line.specs.Source.{StreamInput}
use Rattle.redo_device.specs.Feed.{Stream}
use Rattle.redo_name.specs.Names.{reduce_suffix, normal}
use Rattle.redo_logs.specs.Logs.{Log, targets_of}
use Rattle.redo_gather.specs.Streams.{KnownInput}
use Rattle.redo_run.specs.declared.run_fault.RunFault.{RunFault}
use Rattle.redo_run.specs.declared.run_fault.RunFault.TheVariants.{Unknown, Stream as OfStream, Write}
use Rattle.redo_run.specs.Rendered.{IsSomeRenderedFault, RenderCall, SomeRenderedText, render_call, rendered_result}

-- A text: the targets that have logs, a slash and the requested targets.
abbrev listing : List Log → List (List ℕ) → List ℕ
listing logs requested = flat_map (λ (name : List ℕ). name) (targets_of logs) ++ codes "/" ++ flat_map (λ (name : List ℕ). name) requested

abbrev RunResult : Type 0
RunResult = Result (List ℕ) RunFault

record Row : Type 0 where
  call : RenderCall
  streams : List (StreamInput Stream)
  result : RunResult

abbrev given : List ℕ → StreamInput Stream
given bytes = record { must_close = false; stream = stream_of bytes false }

-- A call with these targets, maximum number of bytes, arguments and inputs.
abbrev calls : List (List ℕ) → ℕ → List (List ℕ) → List KnownInput → RenderCall
calls targets max_bytes arguments inputs =
    record { text = listing; targets = targets; max_bytes = max_bytes; arguments = arguments; inputs = inputs }

-- A call with the streams of `a` and `b`.
abbrev asks : List ℕ → List ℕ → ℕ → List (List ℕ) → RunResult → Row
asks a b max_bytes arguments result =
    record { call = calls (codes "a" ∷ codes "b" ∷ []) max_bytes arguments []; streams = given a ∷ given b ∷ []; result = result }

abbrev rows : List Row
rows =
    asks (codes "x") (codes "y") 9 (codes "b" ∷ []) (Ok (codes "ab/b")) ∷
    asks (codes "x") (codes "y") 9 (codes "./b" ∷ codes "a" ∷ codes "b" ∷ []) (Ok (codes "ab/bab")) ∷
    asks (codes "x") (codes "y") 9 [] (Ok (codes "ab/")) ∷
    asks (codes "x") (codes "yz") 1 (codes "b" ∷ codes "c" ∷ []) (Err (Unknown 1)) ∷
    asks (codes "x") (codes "yz") 1 (codes "a" ∷ []) (Err (OfStream 1 TooLong)) ∷
    asks (codes "x") (codes "yz") 2 (codes "a" ∷ []) (Ok (codes "ab/a")) ∷
    []

these_results : AllByRecursion (λ row. rendered_result row.call row.streams ≡ Some row.result) rows
unfolding split_lines ended rest first_fault entry_of record_entry fields_of status_of split_once after_prefix number normal reduce_suffix
these_results = (refl, (refl, (refl, (refl, (refl, (refl, tt))))))

-- An argument of one byte. The pointer and the allocator of another argument don't matter.
abbrev of_byte : Vec ℕ → ℕ → Vec ℕ
of_byte other byte = record {
  ptr = other.ptr;
  len = 1;
  cap = 1;
  alloc = other.alloc;
  items = byte ∷ [];
  ok = (refl, omega arith);
  small = omega arith;
}

-- The request of a run, computed from an index, readers, a plan and arguments. All keep their order.
call_of_run : (other : Vec ℕ)
    → render_call listing (λ (known : Option Stream). known)
    (record { number = 5; target = codes "x"; must_close = true } ∷ record { number = 3; target = codes "w"; must_close = false } ∷ [])
    (Some (record { bytes = codes "s"; fails = false }) ∷ None ∷ []) 9 (of_byte other 98 ∷ of_byte other 97 ∷ [])
    ≡ record {
      text = listing;
      targets = codes "x" ∷ codes "w" ∷ [];
      max_bytes = 9;
      arguments = codes "b" ∷ codes "a" ∷ [];
      inputs = record { must_close = true; stream = Some (record { bytes = codes "s"; fails = false }) }
          ∷ record { must_close = false; stream = None } ∷ [];
    }
call_of_run other = refl

-- The text is the result of the call.
is_rendered_text : SomeRenderedText (calls [] 9 [] []) (λ text. text ≡ codes "/")
is_rendered_text = ([], tt, (codes "/", refl, refl))

abbrev slash_text : Option RunResult
slash_text = Some (Ok (codes "/"))

not_another_text : SomeRenderedText (calls [] 9 [] []) (λ text. text ≡ []) → ⊥
not_another_text has =
    let is : slash_text ≡ Some (Ok has.2.0) = has.2.1 in
    let same : codes "/" ≡ has.2.0 = cc in
    omega (arith, ap length same, ap length has.2.2)

-- The fault is the result of the call, for streams that the readers give.
is_rendered_fault :
    IsSomeRenderedFault (calls (codes "a" ∷ []) 1 (codes "a" ∷ [])
    (record { must_close = false; stream = Some (record { bytes = codes "xy"; fails = false }) } ∷ [])) (OfStream 0 TooLong)
unfolding split_lines ended rest first_fault entry_of reduce_suffix normal after_prefix
is_rendered_fault = (given (codes "xy") ∷ [], ((refl, refl), tt), refl)

abbrev fails : RunFault → Option RunResult
fails fault = Some (Err fault)

not_another_fault : IsSomeRenderedFault (calls [] 9 (codes "x" ∷ []) []) Write → ⊥
unfolding reduce_suffix normal
not_another_fault has = let same : fails (Unknown 0) ≡ fails Write = has.2 in absurd (cc)
