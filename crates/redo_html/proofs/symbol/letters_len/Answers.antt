use Rattle.std.proofs.Common.{◌≡◌, ◌<◌, ◌+◌, ◌/◌, ◌%◌, ◌^◌, ℕ, List, length, slice_index, refl, sym, ◌∙◌, ap, arith}
use Rattle.std.specs.Prelude.{slice_index_or}
use Rattle.redo_html.specs.declared.symbol.TheConstants.{STEPS}
use Rattle.redo_html.specs.Private.Writing.{IsVerbatim}
use Rattle.redo_html.proofs.LetterSteps.{State, number, next, Pending, entry_is, step, starts}
use Rattle.redo_html.proofs.LetterSteps.State.{Start}
use Rattle.redo_html.proofs.VerbatimLemmas.{no_code_points}
use Rattle.redo_html.proofs.symbol.letters_len.Goals as goal

pub loop-at-init : goal.loop-at-init
loop-at-init c = record {
  few = (omega arith, omega arith);
  verbatim = no_code_points c.args.bytes.now;
  state = (Start, refl, no_code_points c.args.bytes.now);
}

module _ (bytes : List ℕ) (at state : ℕ) (inside : at < length bytes) (fits : slice_index bytes at < 256)
    (known : (s : State) × (state ≡ number s) × Pending bytes at s) (result : ℕ)
    (is : result ≡ (slice_index_or STEPS (slice_index bytes at) 0 / 2 ^ state) % 64) where
  abbrev after : State
  after = next known.0 (slice_index bytes at)

  state_is : result ≡ number after
  state_is = is ∙ ap (λ (n : ℕ). (slice_index_or STEPS (slice_index bytes at) 0 / 2 ^ n) % 64) known.1
      ∙ entry_is known.0 (slice_index bytes at) fits

  pending : Pending bytes (at + 1) after
  pending = step bytes at inside known.0 known.2

  state_after : (s : State) × (result ≡ number s) × Pending bytes (at + 1) s
  state_after = (after, state_is, pending)

  ended : result ≡ 0 → IsVerbatim bytes (at + 1)
  ended start = starts after bytes (at + 1) (sym state_is ∙ start) pending

pub loop-at-preserved-then-state-eq-START : goal.loop-at-preserved-then-state-eq-START
loop-at-preserved-then-state-eq-START c =
    let bytes = c.args.bytes.now in
    let at = c.loop-at.at in
    let inside : at < length bytes = omega arith in
    let fits = c.type_inv.bytes at in
    record {
      few = (omega arith, omega arith);
      verbatim = ended bytes at _ inside (omega (arith, fits)) c.loop-at.invariant.state _ c.next_state-state.ensures
          c.if-state-eq-START.true;
      state = state_after bytes at _ inside (omega (arith, fits)) c.loop-at.invariant.state _ c.next_state-state.ensures;
    }

pub loop-at-preserved : goal.loop-at-preserved
loop-at-preserved c =
    let bytes = c.args.bytes.now in
    let at = c.loop-at.at in
    let inside : at < length bytes = omega arith in
    let fits = c.type_inv.bytes at in
    let few = c.loop-at.invariant.few in
    record {
      few = (omega arith, omega arith);
      verbatim = c.loop-at.invariant.verbatim;
      state = state_after bytes at _ inside (omega (arith, fits)) c.loop-at.invariant.state _ c.next_state-state.ensures;
    }
