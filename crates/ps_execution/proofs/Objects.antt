-- What executing an object does is lawful, where what the table does is.
use Rattle.std.proofs.Common.{◌≡◌, ℕ, zero, suc, ◌≤◌, ◌+◌, ◌==◌, Bool, true, false, not, cond, ◌&&◌, List, [], ◌∷◌, nat_lt, Some, Result, Ok, Err, sym, subst, arith, true≢false}
use Rattle.std.specs.List.{AllByRecursion}
use Rattle.ps_objects.specs.Object.{cell_named}
use Rattle.ps_objects.specs.declared.objects.Interval.{Interval}
use Rattle.ps_objects.specs.Access.{run_right}
use Rattle.ps_names.specs.Op.{default_entry}
use Rattle.ps_objects.specs.Operands.{room_for}
use Rattle.ps_objects.specs.declared.cell.Cell.{Cell}
use Rattle.ps_names.specs.declared.error_name.ErrorName.{ErrorName}
use Rattle.ps_names.specs.declared.error_name.ErrorName.TheVariants.{Undefined}
use Rattle.ps_objects.specs.declared.key.Key.{Key}
use Rattle.ps_objects.specs.declared.key.Key.TheVariants as key
use Rattle.ps_objects.specs.declared.object.Object.{Object}
use Rattle.ps_objects.specs.declared.object.Kind.{Kind}
use Rattle.ps_objects.specs.declared.object.Kind.TheVariants as kind
use Rattle.ps_objects.specs.declared.place.Loc.TheVariants as loc
use Rattle.ps_objects.specs.declared.place.Shape.{Shape}
use Rattle.ps_objects.specs.declared.place.Shape.TheVariants as shape
use Rattle.ps_objects.specs.declared.place.Value.{Value}
use Rattle.ps_objects.specs.declared.place.Value.TheVariants as value
use Rattle.ps_kinds.specs.declared.frame.TheConstants.{FRAME_LIMIT}
use Rattle.ps_kinds.specs.Frames.{frames_room}
use Rattle.ps_kinds.specs.declared.act.Act.{Act}
use Rattle.ps_kinds.specs.declared.act.Act.TheVariants as act
use Rattle.ps_kinds.specs.declared.frame.Frame.{Frame}
use Rattle.ps_kinds.specs.declared.frame.Frame.TheVariants as frame
use Rattle.ps_kinds.specs.declared.state.State.{State}
use Rattle.ps_memory.specs.Tree.{Application, done, fail}
use Rattle.ps_meaning.specs.Answer.{read, Effect, fixed}
use Rattle.ps_meaning.specs.Fits.{Shapes, lies_within, takes, FitsCell, FitsObject, IsDict}
use Rattle.ps_meaning.specs.Sound.{World, IsAnswer, Lawful}
use Rattle.ps_meaning.specs.Start.{operator}
use Rattle.ps_execution.specs.Execution.{Came, applies}
use Rattle.ps_execution.specs.Lawful.{FitsCame, LawfulTable}
use Rattle.ps_execution.specs.Objects.{with_operands, pushed, goes_on, pushes, begins, byte_in, looks_at_bytes, runs_procedure, runs_string, runs_kind, value_kind, runs_value, found_in, searches, met_kind, executes, is_body_kind, entry_in, item_in}
use Rattle.ps_meaning.specs.Ready.{FitsFrame, FitsAct, IsAhead, Fits}
use Rattle.ps_execution.specs.Table.{Program}
use Rattle.ps_execution.proofs.Lawful.{whole_operands}

is_within : (start len n : ℕ) → lies_within start len n ≡ true → start + len ≤ n
is_within start len n h = grind arith

-- the bytes, or the items, that an object names stand
pub string_stands : (K : Shapes) (part : Interval) (f : FitsCell K (Some part.cell) (takes (kind.Str part))) → (n : ℕ) × (K part.cell ≡ Some (shape.Str n)) × (part.start + part.len ≤ n)
string_stands K part f = go f.0 f.1 f.2
  where
    go : (sh : Shape) → K part.cell ≡ Some sh → takes (kind.Str part) sh ≡ true → (n : ℕ) × (K part.cell ≡ Some (shape.Str n)) × (part.start + part.len ≤ n)
    go (shape.Str n) e t = (n, e, is_within part.start part.len n t)
    go (shape.Array n) e t = absurd (true≢false (sym t))
    go (shape.Dict n) e t = absurd (true≢false (sym t))

pub array_stands : (K : Shapes) (part : Interval) (packed : Bool) (f : FitsCell K (Some part.cell) (takes (kind.Array part packed))) → (n : ℕ) × (K part.cell ≡ Some (shape.Array n)) × (part.start + part.len ≤ n)
array_stands K part packed f = go f.0 f.1 f.2
  where
    go : (sh : Shape) → K part.cell ≡ Some sh → takes (kind.Array part packed) sh ≡ true → (n : ℕ) × (K part.cell ≡ Some (shape.Array n)) × (part.start + part.len ≤ n)
    go (shape.Array n) e t = (n, e, is_within part.start part.len n t)
    go (shape.Str n) e t = absurd (true≢false (sym t))
    go (shape.Dict n) e t = absurd (true≢false (sym t))

module _ (text : List ℕ) (W : World) (s : State) (f : Fits text W s) where
  abbrev Q : World → Came → Type 0
  Q = FitsCame text s 4

  -- as a failure leaves it
  pub failed_fits : (e : ErrorName) → Q W (record { act = act.Fail e; frames = []; state = s })
  failed_fits e = record { state = f.state; start = f.start; frames = tt; act = tt; within = f.within; paid = omega arith }

  -- and an act that changes the operands alone
  pub went_fits : (a : Act) (xs : List Object) → AllByRecursion (FitsObject W.shapes) xs → FitsAct W.shapes a → Q W (record { act = a; frames = []; state = fixed 0 s.frames s (with_operands xs s) })
  went_fits a xs h b =
      let g = whole_operands text W s xs f h in
      let e : s.count ≡ s.count + 0 = omega arith in
      record {
        state = record {
          registers = g.state.registers;
          frames = g.state.frames;
          ahead = subst (IsAhead W) e g.state.ahead;
          budget = record { turns = g.state.budget.turns; units = g.state.budget.units; shows = g.state.budget.shows; said = g.state.budget.said };
          section = g.state.section;
        };
        start = f.start;
        frames = tt;
        act = b;
        within = f.within;
        paid = omega arith;
      }

  goes_on_lawful : Lawful (applies s.frames (goes_on s) s) W Q
  goes_on_lawful = went_fits act.Done s.regs.operands f.state.registers.operands tt

  pushes_lawful : (x : Object) → FitsObject W.shapes x → Lawful (applies s.frames (pushes x s) s) W Q
  pushes_lawful x h = go (room_for 1 s.regs.operands)
    where
      go : (r : Result (Unit {0}) ErrorName) → Lawful (applies s.frames (read r (λ _. goes_on (pushed x s))) s) W Q
      go (Ok u) = went_fits act.Done (x ∷ s.regs.operands) (h, f.state.registers.operands) tt
      go (Err e) = failed_fits e

  begins_lawful : (g : Frame) → FitsFrame W.shapes g → Lawful (applies s.frames (begins g s) s) W Q
  begins_lawful g h = go (frames_room 1 s.frames)
    where
      go : (r : Result (Unit {0}) ErrorName) → Lawful (applies s.frames (read r (λ _. done [] (record { state = s; frames = []; act = act.Body g }))) s) W Q
      go (Ok u) = went_fits (act.Body g) s.regs.operands f.state.registers.operands h
      go (Err e) = failed_fits e

  procedure_lawful : (x : Object) (len : ℕ) → FitsObject W.shapes x → Lawful (applies s.frames (runs_procedure x len s) s) W Q
  procedure_lawful x len h = go (run_right x.access)
    where
      empty : (b : Bool) → Lawful (applies s.frames (cond b (goes_on s) (begins (frame.Proc x 0) s)) s) W Q
      empty true = goes_on_lawful
      empty false = begins_lawful (frame.Proc x 0) h

      go : (r : Result (Unit {0}) ErrorName) → Lawful (applies s.frames (read r (λ _. cond (len == 0) (goes_on s) (begins (frame.Proc x 0) s))) s) W Q
      go (Ok u) = empty (len == 0)
      go (Err e) = failed_fits e

  bytes_lawful : (c : Cell) (size : ℕ) → W.shapes c ≡ Some (shape.Str size) → (i n : ℕ) (k : List ℕ → Application Effect) → i + n ≤ size → ((bs : List ℕ) → Lawful (applies s.frames (k bs) s) W Q)
      → Lawful (applies s.frames (looks_at_bytes c i n k) s) W Q
  bytes_lawful c size e i zero k h l = l []
  bytes_lawful c size e i (suc n) k h l = ((size, e, omega (arith, h)), λ v _. bytes_lawful c size e (suc i) n (λ bs. k (byte_in v ∷ bs)) (omega (arith, h)) (λ bs. l (byte_in v ∷ bs)))

  string_lawful : (x : Object) (part : Interval) → FitsObject W.shapes x → FitsCell W.shapes (Some part.cell) (takes (kind.Str part)) → Lawful (applies s.frames (runs_string x part s) s) W Q
  string_lawful x part h k = go (run_right x.access)
    where
      begun : List ℕ → Application Effect
      begun bs = done [] (record { state = s; frames = []; act = act.Body (frame.Text x bs 0) })

      room : (r : Result (Unit {0}) ErrorName) → Lawful (applies s.frames (read r (λ _. looks_at_bytes part.cell part.start part.len (λ bs. done [] (record { state = s; frames = []; act = act.Body (frame.Text x bs 0) })))) s) W Q
      room (Ok u) =
          let (size, e, b) = string_stands W.shapes part k in
          bytes_lawful part.cell size e part.start part.len (λ bs. done [] (record { state = s; frames = []; act = act.Body (frame.Text x bs 0) })) b
          (λ bs. went_fits (act.Body (frame.Text x bs 0)) s.regs.operands f.state.registers.operands (h, omega arith))
      room (Err e) = failed_fits e

      go : (r : Result (Unit {0}) ErrorName)
          → Lawful (applies s.frames (read r (λ _. read (frames_room 1 s.frames) (λ _. looks_at_bytes part.cell part.start part.len (λ bs. done [] (record { state = s; frames = []; act = act.Body (frame.Text x bs 0) }))))) s) W Q
      go (Ok u) = room (frames_room 1 s.frames)
      go (Err e) = failed_fits e

  searches_lawful : (ds : List Cell) (k : Key) (found : Object → Application Effect) (missing : Application Effect) → AllByRecursion (IsDict W.shapes) ds
      → ((x : Object) → FitsObject W.shapes x → Lawful (applies s.frames (found x) s) W Q) → Lawful (applies s.frames missing s) W Q → Lawful (applies s.frames (searches ds k found missing) s) W Q
  searches_lawful [] k found missing h l m = m
  searches_lawful (d ∷ ds) k found missing h l m = (h.0, λ v a. go v a (searches_lawful ds k found missing h.1 l m))
    where
      go : (v : Value) → IsAnswer W (loc.Entry d k) v → Lawful (applies s.frames (searches ds k found missing) s) W Q → Lawful (applies s.frames (found_in v found (searches ds k found missing)) s) W Q
      go value.Absent a r = r
      go (value.Object x) a r = l x a.1
      go (value.Byte n) a r = r
      go (value.Access x) a r = r
      go (value.Keys ks) a r = r
      go (value.Rand n) a r = r
      go (value.Paper p) a r = r

module _ (P : Program) (T : LawfulTable P.table) (W : World) (s : State) (f : Fits P.text W s) where
  abbrev R : World → Came → Type 0
  R = FitsCame P.text s 4

  kind_lawful : (x : Object) (k : Kind) → FitsObject W.shapes x → FitsCell W.shapes (cell_named k) (takes k) → Lawful (applies s.frames (runs_kind P x k s) s) W R
  kind_lawful x (kind.Array part packed) h g = procedure_lawful P.text W s f x part.len h
  kind_lawful x (kind.Str part) h g = string_lawful P.text W s f x part h g
  kind_lawful x kind.Null h g = goes_on_lawful P.text W s f
  kind_lawful x _ h g = pushes_lawful P.text W s f x h

  either : (b : Bool) (x : Object) (k : Kind) → FitsObject W.shapes x → FitsCell W.shapes (cell_named k) (takes k) → Lawful (applies s.frames (cond b (runs_kind P x k s) (pushes x s)) s) W R
  either true x k h g = kind_lawful x k h g
  either false x k h g = pushes_lawful P.text W s f x h

  value_lawful : (x : Object) (k : Kind) → FitsObject W.shapes x → FitsCell W.shapes (cell_named k) (takes k) → Lawful (applies s.frames (value_kind P x k s) s) W R
  value_lawful x (kind.Operator n) h g = T.run n P.text s W f
  value_lawful x (kind.Integer z) h g = either x.exec x (kind.Integer z) h g
  value_lawful x (kind.Real z) h g = either x.exec x (kind.Real z) h g
  value_lawful x (kind.Boolean b) h g = either x.exec x (kind.Boolean b) h g
  value_lawful x kind.Null h g = either x.exec x kind.Null h g
  value_lawful x kind.Mark h g = either x.exec x kind.Mark h g
  value_lawful x (kind.Name n) h g = either x.exec x (kind.Name n) h g
  value_lawful x (kind.Str part) h g = either x.exec x (kind.Str part) h g
  value_lawful x (kind.Array part packed) h g = either x.exec x (kind.Array part packed) h g
  value_lawful x (kind.Dict c) h g = either x.exec x (kind.Dict c) h g
  value_lawful x (kind.File n) h g = either x.exec x (kind.File n) h g
  value_lawful x (kind.Filter n m) h g = either x.exec x (kind.Filter n m) h g
  value_lawful x (kind.Save n) h g = either x.exec x (kind.Save n) h g
  value_lawful x (kind.FontId c) h g = either x.exec x (kind.FontId c) h g

  pub runs_lawful : (x : Object) → FitsObject W.shapes x → Lawful (applies s.frames (runs_value P x s) s) W R
  runs_lawful x h = value_lawful x x.kind h h

  met_lawful : (x : Object) (k : Kind) → FitsObject W.shapes x → FitsCell W.shapes (cell_named k) (takes k) → Lawful (applies s.frames (met_kind P x k s) s) W R
  met_lawful x (kind.Name n) h g = searches_lawful P.text W s f s.regs.dicts (key.Name n) (λ y. runs_value P y s) (fail Undefined) f.state.registers.dicts runs_lawful (failed_fits P.text W s f Undefined)
  met_lawful x (kind.Operator n) h g = T.run n P.text s W f
  met_lawful x (kind.Str part) h g = string_lawful P.text W s f x part h g
  met_lawful x kind.Null h g = goes_on_lawful P.text W s f
  met_lawful x _ h g = pushes_lawful P.text W s f x h

  pub executes_lawful : (x : Object) → FitsObject W.shapes x → Lawful (applies s.frames (executes P x s) s) W R
  executes_lawful x h = go x.exec
    where
      go : (b : Bool) → Lawful (applies s.frames (cond b (met_kind P x x.kind s) (pushes x s)) s) W R
      go true = met_lawful x x.kind h h
      go false = pushes_lawful P.text W s f x h

-- the entry of an error fits
pub entry_fits : (W : World) (e : ErrorName) (n : ℕ) (d : Cell) (k : Key) (v : Value) → IsAnswer W (loc.Entry d k) v → FitsObject W.shapes (entry_in e n v)
entry_fits W e n d k (value.Object x) a = go (x.exec && is_body_kind x.kind && not (nat_lt n FRAME_LIMIT))
  where
    go : (b : Bool) → FitsObject W.shapes (cond b (operator (default_entry e)) x)
    go true = tt
    go false = a.1
entry_fits W e n d k _ a = tt

pub item_fits : (W : World) (c : Cell) (i : ℕ) (v : Value) → IsAnswer W (loc.Item c i) v → FitsObject W.shapes (item_in v)
item_fits W c i (value.Object x) a = a
item_fits W c i _ a = tt
