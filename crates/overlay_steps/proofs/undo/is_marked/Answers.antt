use Rattle.std.proofs.Common.{sym, ◌∙◌}
use Rattle.overlay_steps.proofs.Undoing.{mark_found, mark_passed}
use Rattle.overlay_steps.proofs.undo.is_marked.Goals as goal

pub returns-then-eq : goal.returns-then-eq
returns-then-eq c = sym (mark_found c.args.name c.args.saves.now c.loop-depth.depth c.at.result.now c.loop-depth.invariant c.at.ensures (sym c.eq.ensures ∙ c.if-eq.true))

pub loop-depth-preserved : goal.loop-depth-preserved
loop-depth-preserved c = mark_passed c.args.name c.args.saves.now c.loop-depth.depth c.at.result.now c.loop-depth.invariant c.at.ensures (sym c.eq.ensures ∙ c.if-eq.false)
