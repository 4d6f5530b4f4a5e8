-- Nothing was given out.
use Rattle.std.proofs.Common.{[], ◌∷◌, refl}
use Rattle.section_sequence.proofs.page_counter.PageCounterOutlet.show.Goals as goal

pub returns-then-self-clause-cut : goal.returns-then-self-clause-cut
returns-then-self-clause-cut g c =
    let o = c.args.self.now.out.now in
    record { over = refl; written = g.met.O.Outlet.longer o o [] (c.args.paper.now ∷ []) [] [] (g.met.O.Outlet.whole o o [] [] (g.met.O.Outlet.nothing o)) }
