use Rattle.redo_html.proofs.Reading.{title_tags}
use Rattle.redo_html.proofs.laws.titles_have_no_tags.Goals as goal

pub returns : goal.returns
returns c = title_tags
