-- Each step keeps a state that fits; one that costs no turn ends its frame and begins nothing.
use Rattle.std.proofs.Common.{◌≡◌, ℕ, ℤ, zero, suc, ◌+◌, Bool, true, false, not, ◌&&◌, cond, nat_lt, int_div, List, [], ◌∷◌, Option, Some, None, slice_get, Result, Ok, Err, pos, refl, sym, ap, ◌∙◌, true≢false}
use Rattle.std.specs.List.{AllByRecursion}
use Rattle.ps_names.specs.declared.error_name.ErrorName.{ErrorName}
use Rattle.ps_shapes.specs.declared.numbers.Real.{Real}
use Rattle.ps_objects.specs.Key.{told_key}
use Rattle.ps_objects.specs.Operands.{room_for}
use Rattle.ps_objects.specs.declared.object.Kind.{Kind}
use Rattle.ps_objects.specs.declared.object.Kind.TheVariants as kind
use Rattle.ps_objects.specs.declared.object.Object.{Object}
use Rattle.ps_objects.specs.declared.objects.Interval.{Interval}
use Rattle.ps_kinds.specs.declared.act.Act.TheVariants as act
use Rattle.ps_kinds.specs.declared.frame.Frame.{Frame}
use Rattle.ps_kinds.specs.declared.frame.Frame.TheVariants as frame
use Rattle.ps_kinds.specs.declared.frame.Pair.{Pair}
use Rattle.ps_kinds.specs.declared.state.State.{State}
use Rattle.ps_meaning.specs.Answer.{Effect, act_done, newest}
use Rattle.ps_meaning.specs.Fits.{FitsObject}
use Rattle.ps_meaning.specs.Ready.{FitsPair, FitsFrame, Fits}
use Rattle.ps_meaning.specs.Sound.{World}
use Rattle.ps_operator.specs.Lawful.{Keeps}
use Rattle.ps_operator.specs.Registers.{ops, literal, leaves}
use Rattle.ps_operator.specs.Tree.{Ask, read}
use Rattle.ps_operator.proofs.Ending.{step_keeps}
use Rattle.ps_operator.proofs.Fitting.{Fit}
use Rattle.ps_operator.proofs.Lawful.{read_keeps, item_keeps}
use Rattle.ps_execution.specs.Execution.{on}
use Rattle.ps_execution.specs.Frames.{costs, is_past, length_of}
use Rattle.ps_execution.specs.Lawful.{names_in_turn}
use Rattle.ps_execution.specs.Machine.{Effects, LeavesCalm}
use Rattle.control_ops.specs.Calls.{call_room, call_of}
use Rattle.control_ops.specs.Operators.{StepsLaw, SteadyLaw}
use Rattle.control_ops.specs.Rounds.{over, fits_i32, round_room, round, variable, next_value, items_in, bytes_in, place_left, item_round, byte_round, pair_round, step}
use Rattle.control_ops.proofs.Fitted.{call_fits, byte_keeps, among, more_than_none, none_left, told_fits, items_left, bytes_left}

-- ---- steps keep what fits

module _ (text : List ℕ) (most : ℕ) (s : State) (W : World) (f : Frame) (h : Fits text W (on (f ∷ s.frames) s)) where
  abbrev here : State
  here = on (f ∷ s.frames) s

  abbrev Kept : Ask → Type 0
  Kept t = Keeps text most s.frames t here W

  operands : Fit W.shapes (ops s)
  operands = h.state.registers.operands

  over_keeps : Kept (over here)
  over_keeps = step_keeps s.frames h h.state.frames.1 (ops s) [] act.Done operands tt tt

  round_keeps : (xs : List Object) (rest : Frame) (body : Object) → Fit W.shapes xs → FitsFrame W.shapes rest → FitsObject W.shapes body → Kept (round here xs rest body)
  round_keeps xs rest body g r b = step_keeps s.frames h h.state.frames.1 xs (rest ∷ []) (call_of body) g (r, tt) (call_fits W.shapes body b)

  for_keeps : (body : Object) (v increment limit : Real) (whole : Bool) → FitsObject W.shapes body → (past : Bool)
      → Kept (cond past (over here) (read (round_room 1 body here) (λ _. round here (literal (variable whole v) ∷ ops s) (frame.For body (next_value v increment) increment limit whole) body)))
  for_keeps body v increment limit whole b true = over_keeps
  for_keeps body v increment limit whole b false =
      read_keeps (round_room 1 body here) (λ _ _.
      round_keeps (literal (variable whole v) ∷ ops s) (frame.For body (next_value v increment) increment limit whole) body (number_fits whole v, operands) b b)
    where
      number_kind : (b : Bool) (n : ℤ) (v : Real) → FitsObject W.shapes (literal (cond b (kind.Integer n) (kind.Real v)))
      number_kind true n v = tt
      number_kind false n v = tt

      number_fits : (whole : Bool) (v : Real) → FitsObject W.shapes (literal (variable whole v))
      number_fits whole v = number_kind (whole && fits_i32 (int_div v.count (pos 16777216))) (int_div v.count (pos 16777216)) v

  item_keeps_on : (array : Object) (at : ℕ) (body : Object) → FitsObject W.shapes array → FitsObject W.shapes body → (o : Option Interval) → place_left (items_in array.kind) at ≡ o → Kept (item_round array at body here o)
  item_keeps_on array at body a b None e = over_keeps
  item_keeps_on array at body a b (Some part) e =
      let p = items_left W.shapes at array array.kind part a e in
      read_keeps (round_room 1 body here) (λ _ _.
      item_keeps at p.0 p.1 (λ x g.
      round_keeps (x ∷ ops s) (frame.Items array (at + 1) body) body (g, operands) (a, b) b))

  byte_keeps_on : (string : Object) (at : ℕ) (body : Object) → FitsObject W.shapes string → FitsObject W.shapes body → (o : Option Interval) → place_left (bytes_in string.kind) at ≡ o → Kept (byte_round string at body here o)
  byte_keeps_on string at body a b None e = over_keeps
  byte_keeps_on string at body a b (Some part) e =
      let p = bytes_left W.shapes at string string.kind part a e in
      read_keeps (round_room 1 body here) (λ _ _.
      byte_keeps at p.0 p.1 (λ n.
      round_keeps (literal (kind.Integer (pos n)) ∷ ops s) (frame.Bytes string (at + 1) body) body (tt, operands) (a, b) b))

  pair_keeps_on : (pairs : List Pair) (at : ℕ) (body : Object) → AllByRecursion (FitsPair W.shapes) pairs → FitsObject W.shapes body → (o : Option Pair) → slice_get pairs at ≡ o → Kept (pair_round pairs at body here o)
  pair_keeps_on pairs at body a b None e = over_keeps
  pair_keeps_on pairs at body a b (Some p) e =
      let g = among (FitsPair W.shapes) pairs at p a e in
      read_keeps (round_room 2 body here) (λ _ _.
      round_keeps (p.value ∷ told_key p.key ∷ ops s) (frame.Pairs pairs (at + 1) body) body (g.1, (told_fits W.shapes p.key g.0, operands)) (a, b) b)

  stopped_keeps_on : Kept (step frame.Stopped here)
  stopped_keeps_on = read_keeps (room_for 1 (ops s)) (λ _ _. step_keeps s.frames h h.state.frames.1 (literal (kind.Boolean false) ∷ ops s) [] act.Done (tt, operands) tt tt)

  repeat_keeps_on : (body : Object) (n : ℕ) → FitsObject W.shapes body → Kept (step (frame.Repeat body n) here)
  repeat_keeps_on body zero b = over_keeps
  repeat_keeps_on body (suc n) b = read_keeps (call_room body here.frames) (λ _ _. round_keeps (ops s) (frame.Repeat body n) body operands b b)

  for_keeps_on : (body : Object) (next : Option Real) (increment limit : Real) (whole : Bool) → FitsObject W.shapes body → Kept (step (frame.For body next increment limit whole) here)
  for_keeps_on body None increment limit whole b = over_keeps
  for_keeps_on body (Some v) increment limit whole b = for_keeps body v increment limit whole b (is_past (Some v) increment limit)

step_kept : (text : List ℕ) (most : ℕ) (s : State) (W : World) (f : Frame) → Fits text W (on (f ∷ s.frames) s) → Keeps text most s.frames (step f (on (f ∷ s.frames) s)) (on (f ∷ s.frames) s) W
step_kept text most s W (frame.For body next increment limit whole) h = for_keeps_on text most s W (frame.For body next increment limit whole) h body next increment limit whole h.state.frames.0
step_kept text most s W (frame.Repeat body n) h = repeat_keeps_on text most s W (frame.Repeat body n) h body n h.state.frames.0
step_kept text most s W (frame.Loop body) h = read_keeps (call_room body (frame.Loop body ∷ s.frames)) (λ _ _. round_keeps text most s W (frame.Loop body) h (ops s) (frame.Loop body) body h.state.registers.operands h.state.frames.0 h.state.frames.0)
step_kept text most s W (frame.Items array at body) h = item_keeps_on text most s W (frame.Items array at body) h array at body h.state.frames.0.0 h.state.frames.0.1 (place_left (items_in array.kind) at) refl
step_kept text most s W (frame.Bytes string at body) h = byte_keeps_on text most s W (frame.Bytes string at body) h string at body h.state.frames.0.0 h.state.frames.0.1 (place_left (bytes_in string.kind) at) refl
step_kept text most s W (frame.Pairs pairs at body) h = pair_keeps_on text most s W (frame.Pairs pairs at body) h pairs at body h.state.frames.0.0 h.state.frames.0.1 (slice_get pairs at) refl
step_kept text most s W frame.Stopped h = stopped_keeps_on text most s W frame.Stopped h
step_kept text most s W (frame.Proc body at) h = record { lawful = tt }
step_kept text most s W (frame.Text string bytes place) h = record { lawful = tt }
step_kept text most s W (frame.Show run) h = record { lawful = tt }
step_kept text most s W (frame.Image run) h = record { lawful = tt }
step_kept text most s W (frame.Walk walk) h = record { lawful = tt }

pub steps_keep : StepsLaw
steps_keep f text s W h = step_kept text (names_in_turn (costs f)) s W f h

-- ---- steps that cost no turn

abbrev Calm : Frame → Effect → Type 0
Calm f e = (act_done e.act ≡ act.Done) × LeavesCalm f (newest e.frames)

-- where what is read is no error
read_effects : {A : Type 0} (Q : Effect → Type 0) (r : Result A ErrorName) (k : A → Ask) → ((x : A) → Effects Q (k x)) → Effects Q (read r k)
read_effects Q (Ok x) k h = h x
read_effects Q (Err e) k h = tt

past : (b : Bool) → not b ≡ false → b ≡ true
past true e = refl
past false e = absurd (true≢false e)

for_calm : (f : Frame) (s : State) (t : Ask) (b : Bool) → b ≡ true → Effects (Calm f) (cond b (over s) t)
for_calm f s t true e = (refl, tt)
for_calm f s t false e = absurd (true≢false (sym e))

none_at : (part : Interval) (at : ℕ) (b : Bool) → nat_lt at part.len ≡ b → b ≡ false → place_left (Some part) at ≡ None
none_at part at b p e = ap (λ t. cond t (Some part) None) (p ∙ e)

no_items : (k : Kind) (at : ℕ) → nat_lt at (length_of k) ≡ false → place_left (items_in k) at ≡ None
no_items (kind.Array part packed) at e = none_at part at (nat_lt at part.len) refl e
no_items (kind.Str part) at e = refl
no_items (kind.Integer n) at e = refl
no_items (kind.Real n) at e = refl
no_items (kind.Boolean b) at e = refl
no_items kind.Null at e = refl
no_items kind.Mark at e = refl
no_items (kind.Name n) at e = refl
no_items (kind.Operator n) at e = refl
no_items (kind.Dict c) at e = refl
no_items (kind.File n) at e = refl
no_items (kind.Filter n m) at e = refl
no_items (kind.Save q) at e = refl
no_items (kind.FontId c) at e = refl

no_bytes : (k : Kind) (at : ℕ) → nat_lt at (length_of k) ≡ false → place_left (bytes_in k) at ≡ None
no_bytes (kind.Str part) at e = none_at part at (nat_lt at part.len) refl e
no_bytes (kind.Array part packed) at e = refl
no_bytes (kind.Integer n) at e = refl
no_bytes (kind.Real n) at e = refl
no_bytes (kind.Boolean b) at e = refl
no_bytes kind.Null at e = refl
no_bytes kind.Mark at e = refl
no_bytes (kind.Name n) at e = refl
no_bytes (kind.Operator n) at e = refl
no_bytes (kind.Dict c) at e = refl
no_bytes (kind.File n) at e = refl
no_bytes (kind.Filter n m) at e = refl
no_bytes (kind.Save q) at e = refl
no_bytes (kind.FontId c) at e = refl

item_calm : (f : Frame) (array : Object) (at : ℕ) (body : Object) (s : State) (o : Option Interval) → o ≡ None → Effects (Calm f) (item_round array at body s o)
item_calm f array at body s None e = (refl, tt)
item_calm f array at body s (Some part) e = cc

byte_calm : (f : Frame) (string : Object) (at : ℕ) (body : Object) (s : State) (o : Option Interval) → o ≡ None → Effects (Calm f) (byte_round string at body s o)
byte_calm f string at body s None e = (refl, tt)
byte_calm f string at body s (Some part) e = cc

pair_calm : (f : Frame) (pairs : List Pair) (at : ℕ) (body : Object) (s : State) (o : Option Pair) → o ≡ None → Effects (Calm f) (pair_round pairs at body s o)
pair_calm f pairs at body s None e = (refl, tt)
pair_calm f pairs at body s (Some p) e = cc

pub steps_calm : SteadyLaw
steps_calm (frame.For body None increment limit whole) s e = (refl, tt)
steps_calm (frame.For body (Some v) increment limit whole) s e =
    let f = frame.For body (Some v) increment limit whole in
    for_calm f s (read (round_room 1 body s) (λ _. round s (literal (variable whole v) ∷ ops s) (frame.For body (next_value v increment) increment limit whole) body)) (is_past (Some v) increment limit) (past (is_past (Some v) increment limit) e)
steps_calm (frame.Repeat body zero) s e = (refl, tt)
steps_calm (frame.Repeat body (suc n)) s e = absurd (more_than_none n e)
steps_calm (frame.Loop body) s e = absurd (true≢false e)
steps_calm (frame.Items array at body) s e = item_calm (frame.Items array at body) array at body s (place_left (items_in array.kind) at) (no_items array.kind at e)
steps_calm (frame.Bytes string at body) s e = byte_calm (frame.Bytes string at body) string at body s (place_left (bytes_in string.kind) at) (no_bytes string.kind at e)
steps_calm (frame.Pairs pairs at body) s e = pair_calm (frame.Pairs pairs at body) pairs at body s (slice_get pairs at) (none_left pairs at e)
steps_calm frame.Stopped s e = read_effects (Calm frame.Stopped) (room_for 1 (ops s)) (λ _. leaves s (literal (kind.Boolean false) ∷ ops s)) (λ _. (refl, tt))
steps_calm (frame.Proc body at) s e = tt
steps_calm (frame.Text string bytes place) s e = tt
steps_calm (frame.Show run) s e = tt
steps_calm (frame.Image run) s e = tt
steps_calm (frame.Walk walk) s e = tt
