use Rattle.std.proofs.Common.{◌≡◌, take}
use Rattle.redo_device.specs.Sink.{append_output}
use Rattle.redo_new.specs.Private.Sections.{section_text}
use Rattle.redo_new.proofs.news.write_section.Given as goal

-- The lines about the targets so far were written.
abbrev pub invariant-loop-news : goal.invariant-loop-news
invariant-loop-news g l = g.W.Sink.written l.out
    ≡ append_output (g.W.Sink.written l.initial.out) (section_text l.table l.section (take l.news-index l.targets)) 0
