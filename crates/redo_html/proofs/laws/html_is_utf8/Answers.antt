use Rattle.redo_html.proofs.Utf8Lemmas.{shown_utf8, passage_utf8, parts_utf8}
use Rattle.redo_html.proofs.laws.html_is_utf8.Goals as goal

pub returns : goal.returns
returns c = record { shown = shown_utf8; passages = passage_utf8; parts = parts_utf8 }
