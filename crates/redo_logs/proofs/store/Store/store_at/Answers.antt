use Rattle.std.proofs.Common.{[], ◌∷◌, drop, map, arith, sym, ap, ◌∙◌, subst}
use Rattle.std.proofs.lemmas.List.{length-drop}
use Rattle.redo_line.specs.Entries.{IsWithin, entries_at_place}
use Rattle.redo_line.specs.Lines.{AreCompleteLines, ended}
use Rattle.redo_line.specs.declared.entry.Entry.TheVariants as entry
use Rattle.redo_logs.specs.Private.Store.{block_of}
use Rattle.redo_logs.proofs.Keeping.{grows_none}
use Rattle.redo_logs.proofs.Shifting.{note_then, range_shifted}
use Rattle.redo_logs.proofs.store.Store.store_at.Goals as goal

pub overflow_add-result : goal.overflow_add-result
overflow_add-result c =
    let block = block_of c.args.self.now c.args.block in
    let within = subst (IsWithin (drop c.args.shift block) c.args.names.now) c.in-Texts.is c.requires.within in
    omega (arith, within.0, within.1, length-drop c.args.shift block, c.requires.offset, c.requires.no_overflow)

pub overflow_add-result-in-Texts : goal.overflow_add-result-in-Texts
overflow_add-result-in-Texts c =
    let block = block_of c.args.self.now c.args.block in
    let within = subst (IsWithin (drop c.args.shift block) c.args.names.now) c.in-Texts.is c.requires.within in
    omega (arith, within.1, length-drop c.args.shift block, c.requires.offset, c.requires.no_overflow)

pub overflow_add-shift : goal.overflow_add-shift
overflow_add-shift c =
    let block = block_of c.args.self.now c.args.block in
    let within = subst (IsWithin (drop c.args.shift block) c.args.names.now) c.in-Note.is c.requires.within in
    omega (arith, within.0, within.1, within.2, length-drop c.args.shift block, c.requires.offset, c.requires.no_overflow)

pub overflow_add-shift-in-Note : goal.overflow_add-shift-in-Note
overflow_add-shift-in-Note c =
    let block = block_of c.args.self.now c.args.block in
    let within = subst (IsWithin (drop c.args.shift block) c.args.names.now) c.in-Note.is c.requires.within in
    omega (arith, within.1, within.2, length-drop c.args.shift block, c.requires.offset, c.requires.no_overflow)

pub overflow_add-shift-in-Note-2 : goal.overflow_add-shift-in-Note-2
overflow_add-shift-in-Note-2 c =
    let block = block_of c.args.self.now c.args.block in
    let within = subst (IsWithin (drop c.args.shift block) c.args.names.now) c.in-Note.is c.requires.within in
    omega (arith, within.2, length-drop c.args.shift block, c.requires.offset, c.requires.no_overflow)

pub note_at-requires : goal.note_at-requires
note_at-requires c =
    let block = block_of c.args.self.now c.args.block in
    let within = subst (IsWithin (drop c.args.shift block) c.args.names.now) c.in-Note.is c.requires.within in (
      omega (arith, within.0),
      omega (arith, within.1),
      omega (arith, within.2, length-drop c.args.shift block, c.requires.offset),
      c.requires.block,
    )

pub returns-in-Texts-clause-extends : goal.returns-in-Texts-clause-extends
returns-in-Texts-clause-extends c = grows_none _

pub returns-in-Closing-clause-extends : goal.returns-in-Closing-clause-extends
returns-in-Closing-clause-extends c = grows_none _

pub returns-in-Texts-clause-within : goal.returns-in-Texts-clause-within
returns-in-Texts-clause-within c =
    let block = block_of c.args.self.now c.args.block in
    let within = subst (IsWithin (drop c.args.shift block) c.args.names.now) c.in-Texts.is c.requires.within in (
      omega (arith, within.0),
      omega (arith, within.1, length-drop c.args.shift block, c.requires.offset),
      c.requires.block,
      subst (λ bytes. AreCompleteLines bytes c.in-Texts.lines)
          (sym (range_shifted c.args.shift block c.in-Texts.start c.in-Texts.end)) within.2,
    )

pub returns-in-Texts-clause-denotes : goal.returns-in-Texts-clause-denotes
returns-in-Texts-clause-denotes c =
    let block = block_of c.args.self.now c.args.block in
    ap (λ bytes. map entry.Text (ended bytes)) (range_shifted c.args.shift block c.in-Texts.start c.in-Texts.end)
    ∙ ap (entries_at_place (drop c.args.shift block) c.args.names.now) (sym c.in-Texts.is)

pub returns-in-Note-clause-denotes : goal.returns-in-Note-clause-denotes
returns-in-Note-clause-denotes c =
    let block = block_of c.args.self.now c.args.block in
    let kind = range_shifted c.args.shift block c.in-Note.start c.in-Note.middle in
    let text = range_shifted c.args.shift block c.in-Note.middle c.in-Note.end in
    note_then c.note_at.result _ _ _ c.note_at.ensures.denotes
    ((λ i. entry.Note c.in-Note.pid (kind i) (text i) ∷ [])
    ∙ ap (entries_at_place (drop c.args.shift block) c.args.names.now) (sym c.in-Note.is))
