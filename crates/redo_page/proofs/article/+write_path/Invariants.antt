use Rattle.redo_page.proofs.article.+write_path.Given as goal

abbrev pub decreases-write_path : goal.decreases-write_path
decreases-write_path g l = l.levels
