-- The view that a scope is modelled as.
use Rattle.redo_page.specs.declared.scope.Scope.{Scope}
use Rattle.redo_page.specs.Scope.{View}

abbrev pub view_of : Scope → View
view_of scope = record {
  title = scope.request.now.title.now;
  dir = scope.request.now.dir.now;
  verdict = scope.texts.now.verdict;
  heading = scope.texts.now.heading.items;
  tab = scope.texts.now.title.items;
  command = scope.texts.now.command.items;
  logs = scope.table.now;
  nodes = scope.nodes.now;
  recipes = scope.request.now.recipes.now;
  facts = scope.facts.now;
  usage = scope.usage.now;
  roots = scope.roots.now;
  dependents = scope.dependents.now;
  unclosed = scope.unclosed.now;
  news = scope.news.now;
  rank = scope.rank;
  largest = scope.largest;
  node = scope.node;
}
