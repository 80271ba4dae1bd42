use Rattle.std.proofs.Common.{◌≡◌, map, fold, rules, sym, ap, ◌∙◌, subst}
use Rattle.std.proofs.lemmas.List.Folds.{fold-map}
use Rattle.measure.specs.Measures.{Joins, figure}
use Rattle.measure.proofs.Joining.{figure_joins, figure_gathered, in_any_order}
use Rattle.measure.proofs.measure.Measure.of.Given as given
use Rattle.measure.proofs.measure.Measure.of.Goals as goal
use Rattle.measure.proofs.measure.Measure.of.Goals.{After-fold}

-- the run of the fold goes over the hits
over : (g : given.Over) (c : After-fold g) → map (λ hit. hit.now) c.fold.ensures.runs.0.items ≡ c.args.hits.now
over g c =
    let run = c.fold.ensures.runs in
    (c.iter.ensures.runs run.0 run.0.seen).4 run.2 ∙ ap (λ s. s.rest.now) run.1 ∙ c.iter.ensures.rest

-- and joins each to the figure of those before it
gathered : (g : given.Over) (c : After-fold g) → c.fold.result ≡ figure (g.Self.Measure.figures c.args.self.now) c.args.hits.now
gathered g c =
    let m = g.Self.Measure.figures c.args.self.now in
    let run = c.fold.ensures.runs in
    run.3 (λ f hit. m.join f (m.one hit.now)) (λ f hit joined after called. search rules)
    ∙ sym (fold-map (λ f cell. m.join f (m.one cell)) (λ hit. hit.now) c.none.result run.0.items)
    ∙ (λ i. fold (λ f cell. m.join f (m.one cell)) (c.none.ensures i) (over g c i))
    ∙ figure_gathered m (g.met.Self.Measure.sound c.args.self.now) c.args.hits.now

pub returns : goal.returns
returns g c =
    let m = g.Self.Measure.figures c.args.self.now in
    let laws = g.met.Self.Measure.sound c.args.self.now in
    let hits = c.args.hits.now in
    let value = gathered g c in
    record {
      tells = subst (g.Self.Measure.tells c.args.self.now hits) (sym value) (g.met.Self.Measure.told c.args.self.now hits);
      value = value;
      joined = subst (Joins m hits) (sym value) (figure_joins m hits);
      law = in_any_order m laws hits _ value;
    }
