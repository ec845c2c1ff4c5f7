use Rattle.redo_page.specs.Failed.{failed_parts}
use Rattle.redo_page.specs.NewSection.{news_parts}
use Rattle.redo_page.specs.Page.{top_parts}
use Rattle.redo_page.specs.Summary.{summary_parts}
use Rattle.redo_page.proofs.WriterLemmas.{wrote_then}
use Rattle.redo_page.proofs.page.write_top_parts.Goals as goal

pub returns : goal.returns
unfolding top_parts failed_parts news_parts summary_parts
returns g c =
    wrote_then c.write.ensures
    (wrote_then c.write-2.ensures (wrote_then c.write-3.ensures (wrote_then c.write-4.ensures c.write-5.ensures)))
