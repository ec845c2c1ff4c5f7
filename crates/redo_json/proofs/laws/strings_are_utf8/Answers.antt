use Rattle.redo_json.proofs.TextLemmas.{base64_utf8, string_utf8}
use Rattle.redo_json.proofs.laws.strings_are_utf8.Goals as goal

pub returns-clause-text : goal.returns-clause-text
returns-clause-text c = string_utf8

pub returns-clause-base64 : goal.returns-clause-base64
returns-clause-base64 c = base64_utf8
