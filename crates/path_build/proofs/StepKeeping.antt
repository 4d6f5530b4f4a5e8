-- Each step keeps a state that fits; one that costs no turn ends its frame and begins nothing.
use Rattle.std.proofs.Common.{◌≡◌, ℕ, zero, suc, ◌+◌, Bool, true, false, cond, nat_lt, List, [], ◌∷◌, length, Option, Some, None, slice_get, refl, arith}
use Rattle.ps_shapes.specs.declared.path.Segment.{Segment}
use Rattle.ps_shapes.specs.declared.path.Segment.TheVariants.{Move, Line, Curve, Close}
use Rattle.ps_objects.specs.declared.object.Object.{Object}
use Rattle.ps_kinds.specs.declared.act.Act.TheVariants as act
use Rattle.ps_kinds.specs.declared.frame.Frame.{Frame}
use Rattle.ps_kinds.specs.declared.frame.Frame.TheVariants as frame
use Rattle.ps_kinds.specs.declared.frame.PathWalk.{PathWalk}
use Rattle.ps_kinds.specs.declared.state.State.{State}
use Rattle.ps_meaning.specs.Answer.{Effect, act_done, newest}
use Rattle.ps_meaning.specs.Fits.{Shapes, FitsObject}
use Rattle.ps_meaning.specs.Ready.{FitsFrame, FitsAct, Fits}
use Rattle.ps_meaning.specs.Sound.{World}
use Rattle.ps_operator.specs.Lawful.{Keeps}
use Rattle.ps_operator.specs.Registers.{ops}
use Rattle.ps_operator.proofs.Ending.{step_keeps}
use Rattle.ps_operator.proofs.Fitting.{Fit}
use Rattle.ps_operator.proofs.Lawful.{read_keeps}
use Rattle.ps_execution.specs.Execution.{on}
use Rattle.ps_execution.specs.Frames.{costs}
use Rattle.ps_execution.specs.Lawful.{names_in_turn}
use Rattle.ps_execution.specs.Machine.{Effects, LeavesCalm}
use Rattle.path_build.specs.declared.walking.Told.{Told}
use Rattle.path_build.specs.declared.walking.Told.TheVariants.{Nothing, One, Three}
use Rattle.path_build.specs.Calls.{is_empty, call_of}
use Rattle.path_build.specs.Operators.{StepsLaw, SteadyLaw}
use Rattle.path_build.specs.Walks.{with_told, body_for, ready, past, walk_step, step}

-- ---- steps keep what fits

call_fits : (K : Shapes) (x : Object) → FitsObject K x → FitsAct K (call_of x)
call_fits K x h = go (is_empty x.kind)
  where
    go : (b : Bool) → FitsAct K (cond b act.Done (act.Body (frame.Proc x 0)))
    go true = tt
    go false = h

told_fits : (K : Shapes) (t : Told) (xs : List Object) → Fit K xs → Fit K (with_told t xs)
told_fits K Nothing xs h = h
told_fits K (One a) xs h = (tt, (tt, h))
told_fits K (Three a b c) xs h = (tt, (tt, (tt, (tt, (tt, (tt, h))))))

body_fits : (K : Shapes) (w : PathWalk) (x : Segment) → FitsFrame K (frame.Walk w) → FitsObject K (body_for w x)
body_fits K w (Move p) h = h.0
body_fits K w (Line p) h = h.1
body_fits K w (Curve p q r) h = h.2
body_fits K w Close h = h.3

module _ (text : List ℕ) (most : ℕ) (s : State) (W : World) (w : PathWalk) (h : Fits text W (on (frame.Walk w ∷ s.frames) s)) where
  abbrev here : State
  here = on (frame.Walk w ∷ s.frames) s

  operands : Fit W.shapes (ops s)
  operands = h.state.registers.operands

  walk_keeps : (o : Option Segment) → Keeps text most s.frames (walk_step w here o) here W
  walk_keeps None = step_keeps s.frames h h.state.frames.1 (ops s) [] act.Done operands tt tt
  walk_keeps (Some x) =
      read_keeps (ready x (body_for w x) here) (λ t _.
      step_keeps s.frames h h.state.frames.1 (with_told t (ops s)) (frame.Walk (past w) ∷ []) (call_of (body_for w x)) (told_fits W.shapes t (ops s) operands) (h.state.frames.0, tt)
      (call_fits W.shapes (body_for w x) (body_fits W.shapes w x h.state.frames.0)))

step_kept : (text : List ℕ) (most : ℕ) (s : State) (W : World) (f : Frame) → Fits text W (on (f ∷ s.frames) s) → Keeps text most s.frames (step f (on (f ∷ s.frames) s)) (on (f ∷ s.frames) s) W
step_kept text most s W (frame.Walk w) h = walk_keeps text most s W w h (slice_get w.path w.at)
step_kept text most s W (frame.For body next increment limit whole) h = record { lawful = tt }
step_kept text most s W (frame.Repeat body n) h = record { lawful = tt }
step_kept text most s W (frame.Loop body) h = record { lawful = tt }
step_kept text most s W (frame.Items array at body) h = record { lawful = tt }
step_kept text most s W (frame.Bytes string at body) h = record { lawful = tt }
step_kept text most s W (frame.Pairs pairs at body) h = record { lawful = tt }
step_kept text most s W frame.Stopped h = record { lawful = tt }
step_kept text most s W (frame.Proc body at) h = record { lawful = tt }
step_kept text most s W (frame.Text string bytes place) h = record { lawful = tt }
step_kept text most s W (frame.Show run) h = record { lawful = tt }
step_kept text most s W (frame.Image run) h = record { lawful = tt }

pub steps_keep : StepsLaw
steps_keep f text s W h = step_kept text (names_in_turn (costs f)) s W f h

-- ---- steps that cost no turn

abbrev Calm : Frame → Effect → Type 0
Calm f e = (act_done e.act ≡ act.Done) × LeavesCalm f (newest e.frames)

none_left : {A : Type 0} (xs : List A) (i : ℕ) → nat_lt i (length xs) ≡ false → slice_get xs i ≡ None
none_left [] i e = refl
none_left (y ∷ ys) zero e = absurd (more_than_none (length ys) e)
  where
    more_than_none : (n : ℕ) → nat_lt 0 (suc n) ≡ false → ⊥
    more_than_none n e = grind arith
none_left (y ∷ ys) (suc i) e = none_left ys i (fewer i (length ys) e)
  where
    fewer : (i n : ℕ) → nat_lt (suc i) (suc n) ≡ false → nat_lt i n ≡ false
    fewer i n e = grind arith

walk_calm : (w : PathWalk) (s : State) (o : Option Segment) → o ≡ None → Effects (Calm (frame.Walk w)) (walk_step w s o)
walk_calm w s None e = (refl, tt)
walk_calm w s (Some x) e = cc

pub steps_calm : SteadyLaw
steps_calm (frame.Walk w) s e = walk_calm w s (slice_get w.path w.at) (none_left w.path w.at e)
steps_calm (frame.For body next increment limit whole) s e = tt
steps_calm (frame.Repeat body n) s e = tt
steps_calm (frame.Loop body) s e = tt
steps_calm (frame.Items array at body) s e = tt
steps_calm (frame.Bytes string at body) s e = tt
steps_calm (frame.Pairs pairs at body) s e = tt
steps_calm frame.Stopped s e = tt
steps_calm (frame.Proc body at) s e = tt
steps_calm (frame.Text string bytes place) s e = tt
steps_calm (frame.Show run) s e = tt
steps_calm (frame.Image run) s e = tt
