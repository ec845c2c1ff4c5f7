-- The model of a `BuildRef`.
use Rattle.redo_page.specs.declared.build.BuildRef.{BuildRef}
use Rattle.redo_page.specs.Tree.{Build}

abbrev pub build_value : BuildRef → Build
build_value build = record { logs = build.table.now; options = build.options.now; nodes = build.outline.now; articles = build.articles.now }
