-- From what an operator keeps to what the table owes for its entry.
use Rattle.std.proofs.Common.{◌≡◌, ℕ, ◌+◌, ◌≤◌, List, [], ◌∷◌, ◌++◌, ◌∙◌, arith}
use Rattle.ps_kinds.specs.declared.act.Act.{Act}
use Rattle.ps_kinds.specs.declared.act.Act.TheVariants as act
use Rattle.ps_kinds.specs.declared.frame.Frame.{Frame}
use Rattle.ps_kinds.specs.declared.state.State.{State}
use Rattle.ps_memory.specs.Memory.{standing_shape}
use Rattle.ps_memory.specs.Tree.{done, restores, fail, look, ask}
use Rattle.ps_meaning.specs.Answer.{names_taken, newest, act_done, fixed, Effect}
use Rattle.ps_meaning.specs.Fits.{Shapes}
use Rattle.ps_meaning.specs.Ready.{FitFrames, FitsAct, IsAhead, Fits}
use Rattle.ps_meaning.specs.Sound.{World, StartStands, restored_to, Lawful}
use Rattle.ps_operator.specs.Tree.{Ask}
use Rattle.ps_operator.specs.Lawful.{Leaves, Lawfully, Keeps}
use Rattle.ps_operator.proofs.LawfulRuns.{changes_lawful, restored_ahead, restored_start}
use Rattle.ps_execution.specs.Execution.{Came, applies, on}
use Rattle.ps_execution.specs.Frames.{costs}
use Rattle.ps_execution.specs.Lawful.{names_in_turn, FitsCame}
use Rattle.ps_execution.proofs.Lawful.{lawful_map}
use Rattle.ps_table.specs.Table.{KeptTableLaw}

-- ---- what an effect leaves

front : (K : Shapes) (fs gs : List Frame) → FitFrames K (fs ++ gs) → FitFrames K fs
front K [] gs h = tt
front K (f ∷ fs) gs h = (h.0, front K fs gs h.1)

behind : (K : Shapes) (fs gs : List Frame) → FitFrames K (fs ++ gs) → FitFrames K gs
behind K [] gs h = h
behind K (f ∷ fs) gs h = behind K fs gs h.1

act_fits : (K : Shapes) (a : Act) → FitsAct K a → FitsAct K (act_done a)
act_fits K act.Done h = tt
act_fits K (act.Body f) h = h
act_fits K (act.Fail e) h = tt
act_fits K act.Exit h = tt
act_fits K act.Stop h = tt
act_fits K act.Quit h = tt
act_fits K (act.Say t) h = tt
act_fits K (act.Show w) h = tt
act_fits K (act.Outer q) h = tt

came_fits : (text : List ℕ) (most : ℕ) (below : List Frame) (s : State) (n : ℕ) (e : Effect) (W V : World) → Fits text W s → V.section ≡ W.section → StartStands V.shapes → IsAhead V (s.count + n) → Leaves text most below s n e V
    → FitsCame text s most V (record { act = act_done e.act; frames = newest e.frames; state = fixed n below s e.state })
came_fits text most below s n e W V f p st a l = record {
  state = record {
    registers = l.registers;
    frames = behind V.shapes (newest e.frames) below l.frames;
    ahead = a;
    budget = record { turns = l.budget.turns; units = l.budget.units; shows = l.budget.shows; said = l.budget.said };
    section = p ∙ f.state.section;
  };
  start = st;
  frames = front V.shapes (newest e.frames) below l.frames;
  act = act_fits V.shapes e.act l.act;
  within = l.within;
  paid = let b : n + s.units ≤ most + e.state.units = l.names in omega (arith, b);
}

failed : (text : List ℕ) (most : ℕ) (s : State) (W : World) (a : Act) → FitsAct W.shapes a → Fits text W s → FitsCame text s most W (record { act = a; frames = []; state = s })
failed text most s W a h f = record { state = f.state; start = f.start; frames = tt; act = h; within = f.within; paid = omega arith }

-- ---- an entry

entry : (text : List ℕ) (most : ℕ) (below : List Frame) (a : Ask) (s : State) (W : World) → Fits text W s → Lawfully text most below a s W → Lawful (applies below a s) W (FitsCame text s most)
entry text most below (done ws e) s W f h =
    changes_lawful ws (record { act = act_done e.act; frames = newest e.frames; state = fixed (names_taken ws) below s e.state }) W s.count (Leaves text most below s (names_taken ws) e) (FitsCame text s most) f.state.ahead f.start h
    (λ V p st a l. came_fits text most below s (names_taken ws) e W V f p st a l)
entry text most below (restores r ws e) s W f h = (
  h.0,
  changes_lawful ws (record { act = act_done e.act; frames = newest e.frames; state = fixed (names_taken ws) below s e.state }) (restored_to r W) s.count (Leaves text most below s (names_taken ws) e) (FitsCame text s most)
      (restored_ahead r W s.count f.state.ahead) (restored_start r W s.count f.state.ahead h.0 f.start) h.1 (λ V p st a l. came_fits text most below s (names_taken ws) e W V f p st a l),
)
entry text most below (fail e) s W f h = failed text most s W (act.Fail e) tt f
entry text most below (look l k) s W f h = (h.0, λ v q. entry text most below (k v) s W f (h.1 v q))
entry text most below (ask c k) s W f h = (h.0, entry text most below (k (standing_shape (W.shapes c))) s W f h.1)

pub entry_keeps : (text : List ℕ) (most : ℕ) (below : List Frame) (a : Ask) (s : State) (W : World) → Fits text W s → Keeps text most below a s W → Lawful (applies below a s) W (FitsCame text s most)
entry_keeps text most below a s W f h = entry text most below a s W f h.lawful

-- a step counts from the state below its frame
step_came : (text : List ℕ) (f : Frame) (n : ℕ) (s : State) (V : World) (c : Came) → FitsCame text (on (f ∷ s.frames) s) n V c → FitsCame text s n V c
step_came text f n s V c h = record { state = h.state; start = h.start; frames = h.frames; act = h.act; within = h.within; paid = h.paid }

pub kept_table : KeptTableLaw
kept_table T k = record {
  steady = k.steady;
  run = λ n text s W f. entry_keeps text 4 s.frames (T.run n text s) s W f (k.run n text s W f);
  step = λ f text s W b h.
      let m = names_in_turn (costs f) in
      let u = on (f ∷ s.frames) s in
      lawful_map (applies s.frames (T.step f text u) u) W (FitsCame text u m) (FitsCame text s m) (step_came text f m s) (entry_keeps text m s.frames (T.step f text u) u W h (k.step f b text s W h));
  leave = k.leave;
}
