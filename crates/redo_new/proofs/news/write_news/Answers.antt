use Rattle.std.proofs.Common.{◌≡◌, ◌∙◌, ◌++◌, List, Err, refl, subst}
use Rattle.std.proofs.lemmas.Result.{err_from_is_err_and}
use Rattle.redo_device.specs.Sink.{append_output}
use Rattle.redo_view.specs.Form.{FormWrites}
use Rattle.redo_new.specs.declared.section.Section.TheVariants.{NewlyFailing, New, Fixed}
use Rattle.redo_new.specs.declared.target.TargetNews.{TargetNews}
use Rattle.redo_new.specs.News.{news_text}
use Rattle.redo_new.specs.Private.Sections.{section_text}
use Rattle.redo_new.proofs.FormLemmas.{begin, form_rest, no_memory, part_failed, wrote_more}
use Rattle.redo_new.proofs.SectionLemmas.{sections_are}
use Rattle.redo_new.proofs.news.write_news.Goals as goal

pub returns-in_err-news : goal.returns-in_err-news
returns-in_err-news g c = no_memory _ _ _ _ _ c.from_residual-in_err-news.ensures.1 (begin _ _ _ refl)

pub returns-in_err-write_section : goal.returns-in_err-write_section
returns-in_err-write_section g c =
    let table = c.args.table.now in
    let targets = c.in_ok-news.news.items in
    let before = g.W.Sink.written c.args.out.now in
    let text = news_text c.args.unchanged c.args.earlier.now table c.args.requested.now in
    let fails = section_text table NewlyFailing targets in
    let new = section_text table New targets in
    let fixed = section_text table Fixed targets in
    let is : fails ++ (new ++ fixed) ≡ text =
    sections_are c.args.unchanged c.args.earlier.now table c.args.requested.now _ _ _ targets c.options_of-options.ensures
    c.in_ok-baseline.ensures (c.nodes.ensures ∙ c.in_ok-outline.ensures) c.in_ok-news.ensures in
    let given = err_from_is_err_and c.from_residual-in_err-write_section.result c.from_residual-in_err-write_section.ensures.1 in
    rw (given.1, given.2) (part_failed before before _ text fails (new ++ fixed) _
    (begin before text (fails ++ (new ++ fixed)) is)
    (subst (λ (ts : List TargetNews). FormWrites before (g.W.Sink.written c.write_section.new.out) (section_text table NewlyFailing ts)
    (Err c.in_err-write_section.field-0.0)) c.deref.ensures.value c.in_err-write_section.ensures))

pub returns-in_err-write_section-2 : goal.returns-in_err-write_section-2
returns-in_err-write_section-2 g c =
    let table = c.args.table.now in
    let targets = c.in_ok-news.news.items in
    let before = g.W.Sink.written c.args.out.now in
    let text = news_text c.args.unchanged c.args.earlier.now table c.args.requested.now in
    let fails = section_text table NewlyFailing targets in
    let new = section_text table New targets in
    let fixed = section_text table Fixed targets in
    let is : fails ++ (new ++ fixed) ≡ text =
    sections_are c.args.unchanged c.args.earlier.now table c.args.requested.now _ _ _ targets c.options_of-options.ensures
    c.in_ok-baseline.ensures (c.nodes.ensures ∙ c.in_ok-outline.ensures) c.in_ok-news.ensures in
    let first = g.W.Sink.written c.write_section.new.out in
    let wrote_first = subst (λ (ts : List TargetNews). first ≡ append_output before (section_text table NewlyFailing ts) 0)
    c.deref.ensures.value c.in_ok-write_section.ensures in
    let after_first = wrote_more before before first text fails (new ++ fixed) (begin before text (fails ++ (new ++ fixed)) is)
    wrote_first in
    let given = err_from_is_err_and c.from_residual-in_err-write_section-2.result c.from_residual-in_err-write_section-2.ensures.1 in
    rw (given.1, given.2) (part_failed before first _ text new fixed _ after_first
    (subst (λ (ts : List TargetNews). FormWrites first (g.W.Sink.written c.write_section-2.new.out) (section_text table New ts)
    (Err c.in_err-write_section-2.field-0.0)) c.deref-2.ensures.value c.in_err-write_section-2.ensures))

pub returns : goal.returns
returns g c =
    let table = c.args.table.now in
    let targets = c.in_ok-news.news.items in
    let before = g.W.Sink.written c.args.out.now in
    let text = news_text c.args.unchanged c.args.earlier.now table c.args.requested.now in
    let fails = section_text table NewlyFailing targets in
    let new = section_text table New targets in
    let fixed = section_text table Fixed targets in
    let is : fails ++ (new ++ fixed) ≡ text =
    sections_are c.args.unchanged c.args.earlier.now table c.args.requested.now _ _ _ targets c.options_of-options.ensures
    c.in_ok-baseline.ensures (c.nodes.ensures ∙ c.in_ok-outline.ensures) c.in_ok-news.ensures in
    let first = g.W.Sink.written c.write_section.new.out in
    let wrote_first = subst (λ (ts : List TargetNews). first ≡ append_output before (section_text table NewlyFailing ts) 0)
    c.deref.ensures.value c.in_ok-write_section.ensures in
    let after_first = wrote_more before before first text fails (new ++ fixed) (begin before text (fails ++ (new ++ fixed)) is)
    wrote_first in
    let second = g.W.Sink.written c.write_section-2.new.out in
    let wrote_second = subst (λ (ts : List TargetNews). second ≡ append_output first (section_text table New ts) 0)
    c.deref-2.ensures.value c.in_ok-write_section-2.ensures in
    form_rest before second _ text fixed _ (wrote_more before first second text new fixed after_first wrote_second)
    (subst (λ (ts : List TargetNews). FormWrites second (g.W.Sink.written c.write_section-3.new.out) (section_text table Fixed ts)
    c.write_section-3.result) c.deref-3.ensures.value c.write_section-3.ensures)
