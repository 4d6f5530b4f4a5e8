-- A piece of an arc that is refused refuses the arc.
use Rattle.std.proofs.Common.{◌≡◌, ℕ, ◌+◌, ◌*◌, List, [], ◌++◌, Result, Ok, Err, ap, sym, subst}
use Rattle.ps_names.specs.declared.error_name.ErrorName.{ErrorName}
use Rattle.ps_shapes.specs.declared.path.DevicePoint.{DevicePoint}
use Rattle.ps_shapes.specs.declared.path.Segment.{Segment}
use Rattle.ps_objects.specs.declared.refusal.Refusal.{Refusal}
use Rattle.ps_objects.specs.declared.refusal.Refusal.TheVariants as refusal
use Rattle.ps_kinds.specs.declared.act.Act.TheVariants as act
use Rattle.ps_kinds.specs.declared.state.State.{State}
use Rattle.ps_meaning.specs.Answer.{Log, answer}
use Rattle.ps_operator.specs.Owes.{MeetsDone, DoesAlone}
use Rattle.ps_operator.specs.Tree.{read}
use Rattle.path_build.specs.declared.arcs.Sweep.{Sweep}
use Rattle.path_build.specs.Paths.{point_room, with_segment}
use Rattle.path_build.specs.Building.{path_of, ctm, draws}
use Rattle.ps_operator.specs.Registers.{ops}
use Rattle.path_build.specs.declared.arcs.Turn.{Turn}
use Rattle.path_build.specs.Arcs.{pieces_from, leading, arc_start, draws_arc, arc_at, arc_by, IsRefused}

pub curves_refused : (s : State) (c : Sweep) (p : DevicePoint) (e : Refusal) → arc_start (ctm s) c ≡ Ok p → IsRefused (pieces_from (ctm s) c 0 c.pieces []) e → DoesAlone (λ s. draws_arc s c) s (Err e) s
curves_refused s c p refusal.NoMemory h k = λ log. tt
curves_refused s c p (refusal.Error x) h k = λ log. go log (arc_start (ctm s) c) (pieces_from (ctm s) c 0 c.pieces []) h k
  where
    go : (log : Log) (r : Result DevicePoint ErrorName) (q : Result (List Segment) ErrorName) → r ≡ Ok p → q ≡ Err x
        → MeetsDone (answer (read r (λ p. read q (λ curves. read (point_room (1 + 3 * c.pieces) (path_of s)) (λ _. draws s 5 (with_segment (path_of s) (leading (path_of s) p) ++ curves))))) s log) (Err (refusal.Error x)) s log
    go log (Ok y) (Err z) h k = let e : z ≡ x = cc in ap (λ w. record { act = act.Fail w; state = s; log = log }) e
    go log (Ok y) (Ok z) h k = cc
    go log (Err y) q h k = cc

-- the arc that the operands tell is drawn
pub arc_told : (turn : Turn) (s : State) (c : Sweep) (r : Result (Unit {0}) Refusal) (u : State) → arc_at turn (ops s) ≡ Ok c → DoesAlone (λ s. draws_arc s c) s r u → DoesAlone (arc_by turn) s r u
arc_told turn s c r u h d = λ log. subst (λ (o : Result Sweep ErrorName). MeetsDone (answer (read o (λ arc. draws_arc s arc)) s log) r u log) (sym h) (d log)
