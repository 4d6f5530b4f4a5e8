use Rattle.std.proofs.Common.{◌≡◌, drop}
use Rattle.overlay_steps.specs.Steps.{is_marked}
use Rattle.overlay_steps.proofs.undo.is_marked.Given as goal

-- what is left has the save where the whole does
abbrev pub invariant-loop-depth : goal.invariant-loop-depth
invariant-loop-depth l = is_marked l.name l.saves ≡ is_marked l.name (drop l.depth l.saves)
