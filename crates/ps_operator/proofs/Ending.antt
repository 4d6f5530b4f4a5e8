-- Ends that change other registers than the operands, and ends of steps.
use Rattle.std.proofs.Common.{◌≡◌, ℕ, ◌+◌, List, [], ◌∷◌, ◌++◌, arith}
use Rattle.std.specs.List.{AllByRecursion}
use Rattle.ps_objects.specs.declared.cell.Cell.{Cell}
use Rattle.ps_objects.specs.declared.object.Object.{Object}
use Rattle.ps_kinds.specs.declared.act.Act.{Act}
use Rattle.ps_kinds.specs.declared.frame.Frame.{Frame}
use Rattle.ps_kinds.specs.declared.regs.Regs.{Regs}
use Rattle.ps_kinds.specs.declared.state.State.{State}
use Rattle.ps_memory.specs.Tree.{done}
use Rattle.ps_meaning.specs.Answer.{newest}
use Rattle.ps_meaning.specs.Fits.{IsDict}
use Rattle.ps_meaning.specs.Sound.{World}
use Rattle.ps_meaning.specs.Ready.{FitFrames, FitsAct, Fits}
use Rattle.ps_meaning.specs.Registers.{HasBottom, SoundRegisters}
use Rattle.ps_operator.specs.Registers.{with_ops, with_dicts, quiet}
use Rattle.ps_operator.specs.Lawful.{Keeps}
use Rattle.ps_operator.proofs.Fitting.{Fit}
use Rattle.ps_operator.proofs.Lawful.{frames_append, newest_fits}

-- ends with registers that fit
pub registers_keeps : {text : List ℕ} {most : ℕ} {s : State} {W : World} → Fits text W s → (R : Regs) → SoundRegisters W R → Keeps text most s.frames (done [] (quiet (record s { regs = R }))) s W
registers_keeps {text = text} {most = most} {s = s} {W = W} f R h = record {
  lawful = record {
    registers = h;
    frames = f.state.frames;
    act = tt;
    budget = record { turns = f.state.budget.turns; units = f.state.budget.units; shows = f.state.budget.shows; said = f.state.budget.said };
    within = f.within;
    names = omega arith;
  };
}

-- ends with these operands and dictionaries
pub dicts_keeps : {text : List ℕ} {most : ℕ} {s : State} {W : World} → Fits text W s → (xs : List Object) (ds : List Cell) → Fit W.shapes xs → AllByRecursion (IsDict W.shapes) ds → HasBottom ds
    → Keeps text most s.frames (done [] (quiet (with_dicts s xs ds))) s W
dicts_keeps {s = s} f xs ds h d b =
    registers_keeps f (record s.regs { operands = xs; dicts = ds })
    (record { operands = h; dicts = d; bottom = b; state = f.state.registers.state; states = f.state.registers.states; marks = f.state.registers.marks; size = f.state.registers.size })

-- a step ends over the frames below: with these operands, the rest of its frame, if there is one, and an act
pub step_keeps : {text : List ℕ} {most : ℕ} {s : State} {W : World} (below : List Frame) → Fits text W s → FitFrames W.shapes below → (xs : List Object) (fs : List Frame) (a : Act)
    → Fit W.shapes xs → FitFrames W.shapes fs → FitsAct W.shapes a → Keeps text most below (done [] (record { state = with_ops s xs; frames = fs; act = a })) s W
step_keeps {text = text} {most = most} {s = s} {W = W} below f b xs fs a h g k = record {
  lawful = record {
    registers = record { operands = h; dicts = f.state.registers.dicts; bottom = f.state.registers.bottom; state = f.state.registers.state; states = f.state.registers.states; marks = f.state.registers.marks; size = f.state.registers.size };
    frames = frames_append W.shapes (newest fs) below (newest_fits W.shapes fs g) b;
    act = k;
    budget = record { turns = f.state.budget.turns; units = f.state.budget.units; shows = f.state.budget.shows; said = f.state.budget.said };
    within = f.within;
    names = omega arith;
  };
}
