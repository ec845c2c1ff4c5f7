-- What is new since an earlier build, the baseline.
use Rattle.std.specs.Prelude.{ℕ, ◌==◌, ◌&&◌, Bool, not, List, length}
use Rattle.redo_summary.specs.declared.rank.Rank.{Rank}

-- Whether there is a baseline. The lines with new warnings and errors, each with the position of its target, and its position among the
-- lines of the target's log as value; how many are gone; and the positions of the targets that newly fail, and of the fixed ones.
pub record NewsValue : Type 0 where
  pub is_compared : Bool
  pub lines : List Rank
  pub gone : ℕ
  pub failing : List ℕ
  pub fixed : List ℕ

-- Whether a warning or an error is new, or a target newly fails.
abbrev pub has_news : NewsValue → Bool
has_news news = not (length news.lines == 0 && length news.failing == 0)
