-- The bars of lanes.
use Rattle.std.proofs.Common.{◌≡◌, ℕ, suc, ◌+◌, ◌<◌, ◌≤◌, List, [], ◌∷◌, ◌++◌, length, map, get_or, drop, refl, sym, ap, ◌∙◌, arith, drop-cons, append_assoc}
use Rattle.std.proofs.lemmas.List.{append-nil, drop_all}
use Rattle.redo_timeline.specs.declared.bar.Bar.{Bar}
use Rattle.redo_timeline.specs.declared.span.Span.{Span}
use Rattle.redo_timeline.specs.declared.span.Window.{Window}
use Rattle.redo_timeline.specs.Bars.{bar_of, bars_in}
use Rattle.redo_timeline.specs.Timeline.{drawn_bars}

module _ {A : Type 0} (spans_in : A → List Span) (window : Window) (lanes : List A) where
  abbrev drawn_from : ℕ → List Bar
  drawn_from lane = drawn_bars window lane (map (bars_in window) (map spans_in (drop lane lanes)))

  -- The bars so far, of the lanes before this one.
  pub record Drawn (lane : ℕ) (bars : List Bar) : Type 0 where
    pub bars_are : bars ++ drawn_from lane ≡ drawn_from 0

  pub drawn_none : Drawn 0 []
  drawn_none = record { bars_are = refl }

  pub drawn_next : (lane : ℕ) (bars new_bars : List Bar) (here : A) → lane < length lanes → here ≡ get_or lanes lane here
      → new_bars ≡ bars ++ map (bar_of window lane) (bars_in window (spans_in here)) → Drawn lane bars → Drawn (lane + 1) new_bars
  drawn_next lane bars new_bars here below is more drawn =
      let next : suc lane ≡ lane + 1 = omega arith in
      let left : drop lane lanes ≡ here ∷ drop (lane + 1) lanes =
      drop-cons lanes lane here below ∙ ap (λ (first : A). first ∷ drop (suc lane) lanes) (sym is)
      ∙ ap (λ (n : ℕ). here ∷ drop n lanes) next in
      let added = map (bar_of window lane) (bars_in window (spans_in here)) in
      record {
        bars_are =
            ap (λ (bars : List Bar). bars ++ drawn_from (lane + 1)) more ∙ append_assoc bars added (drawn_from (lane + 1))
            ∙ ap (λ (lanes : List A). bars ++ drawn_bars window lane (map (bars_in window) (map spans_in lanes))) (sym left)
            ∙ drawn.bars_are;
      }

  pub drawn_all : (lane : ℕ) (bars : List Bar) → length lanes ≤ lane → Drawn lane bars
      → bars ≡ drawn_bars window 0 (map (bars_in window) (map spans_in lanes))
  drawn_all lane bars done drawn =
      sym (append-nil bars) ∙ sym (ap (λ (lanes : List A). bars ++ drawn_bars window lane (map (bars_in window) (map spans_in lanes)))
      (drop_all lane lanes done)) ∙ drawn.bars_are
