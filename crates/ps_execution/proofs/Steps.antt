-- A step of the machine is lawful, where the table is.
use Rattle.std.proofs.Common.{◌≡◌, ℕ, zero, suc, ◌≤◌, ◌+◌, ◌-◌, ◌*◌, Bool, true, false, cond, List, [], ◌∷◌, ◌++◌, drop, length, nat_lt, ◌≢◌, Option, Some, None, refl, sym, ap, ◌∙◌, subst, arith}
use Rattle.std.specs.List.{AllByRecursion}
use Rattle.ps_objects.specs.Object.{cell_named}
use Rattle.ps_objects.specs.declared.cell.Cell.{Cell}
use Rattle.ps_names.specs.declared.error_name.ErrorName.{ErrorName}
use Rattle.ps_objects.specs.declared.object.Object.{Object}
use Rattle.ps_objects.specs.declared.object.Kind.{Kind}
use Rattle.ps_objects.specs.declared.object.Kind.TheVariants as kind
use Rattle.ps_objects.specs.declared.place.Loc.TheVariants as loc
use Rattle.ps_objects.specs.declared.place.Shape.{Shape}
use Rattle.ps_objects.specs.declared.place.Shape.TheVariants as shape
use Rattle.ps_objects.specs.declared.place.Value.{Value}
use Rattle.ps_objects.specs.declared.place.Value.TheVariants as value
use Rattle.ps_objects.specs.declared.key.Key.TheVariants as key
use Rattle.ps_names.specs.ErrorName.{bytes_of}
use Rattle.ps_kinds.specs.declared.act.Act.{Act}
use Rattle.ps_kinds.specs.declared.act.Act.TheVariants as act
use Rattle.ps_kinds.specs.declared.frame.Frame.{Frame}
use Rattle.ps_kinds.specs.declared.frame.Frame.TheVariants as frame
use Rattle.ps_kinds.specs.declared.regs.Regs.{Regs}
use Rattle.ps_kinds.specs.declared.show.ShowRun.{ShowRun}
use Rattle.ps_kinds.specs.declared.state.State.{State}
use Rattle.ps_memory.specs.Memory.{blank, picture, store, tell}
use Rattle.ps_memory.specs.Tree.{Application, ends, looks, acts, ◌>>=◌}
use Rattle.ps_meaning.specs.Answer.{Effect}
use Rattle.ps_meaning.specs.Fits.{Shapes, takes, FitsCell, FitsObject}
use Rattle.ps_meaning.proofs.Fits.{apart}
use Rattle.ps_meaning.specs.Registers.{SoundRegisters}
use Rattle.ps_meaning.specs.Sound.{Size, size_of, World, IsAnswer, Lawful, StartStands}
use Rattle.ps_meaning.specs.Start.{literal, error_dict}
use Rattle.ps_execution.specs.Budgets.{left, counted, taking}
use Rattle.ps_execution.specs.Frames.{costs, begun_by, way, is_loop}
use Rattle.ps_execution.specs.Gather.{Spelt, object, bad, nothing, gather}
use Rattle.ps_execution.specs.Objects.{pushed, executes, runs_value, with_failed, error_entry, entry_in, item_in}
use Rattle.ps_execution.specs.Table.{Leaving, Program}
use Rattle.ps_execution.specs.Execution.{Outcome, Next, Exit, Stop, Quit, Spent, Ending, ends_so, stands, on, under, Came, applies, Read, reads, wiped, leaves_show, stops, leave, sheet_in, shows, failed, file_object, applies_step}
use Rattle.ps_execution.specs.Lawful.{takes_steps, names_in_turn, FitsCame, LawfulTable, FitsSpelt, unpaid, FitsRead, ReadLaw, IsPaid, FitsMove}
use Rattle.ps_execution.specs.Machine.{Move, goes, raised, ended, unwound, moves_by, moves, move_turn, move_entry, move_raise, move_spelt, move_section, move_text, move_item, move_procedure, moves_step, settle_move, move_walk, move_frame, move_on, step}
use Rattle.ps_meaning.specs.Ready.{FitsFrame, FitFrames, FitsAct, Fits}
use Rattle.ps_execution.proofs.Lawful.{lawful_bind, lawful_keeps, FailsAt, Keeps, all_both, whole_on, whole_pushed, whole_operands, whole_counted}
use Rattle.ps_execution.proofs.Objects.{array_stands, executes_lawful, runs_lawful, entry_fits, item_fits}

module _ (text : List ℕ) where
  abbrev page_size : Regs → Size
  page_size R = record { width = R.state.wide; height = R.state.high }

  -- the same registers on paper of their size
  sized : (V : World) (z : Size) (s : State) → z ≡ page_size s.regs → Fits text V s → Fits text (record V { size = z }) s
  sized V z s e f =
      let r = f.state.registers in
      record {
        state = record {
          registers = record { operands = r.operands; dicts = r.dicts; bottom = r.bottom; state = r.state; states = r.states; marks = r.marks; size = e };
          frames = f.state.frames;
          ahead = record { here = f.state.ahead.here; later = f.state.ahead.later; saves = f.state.ahead.saves; fall = f.state.ahead.fall; begun = f.state.ahead.begun; section = f.state.ahead.section };
          budget = f.state.budget;
          section = f.state.section;
        };
        start = f.start;
        within = f.within;
      }

  -- other registers, which fit paper of another size
  with_regs : (V : World) (z : Size) (s : State) (fs gs : List Frame) (R : Regs) → Fits text V (on gs s) → SoundRegisters (record V { size = z }) R → FitFrames V.shapes fs
      → Fits text (record V { size = z }) (record s { regs = R; frames = fs })
  with_regs V z s fs gs R f r h = record {
    state = record {
      registers = r;
      frames = h;
      ahead = record { here = f.state.ahead.here; later = f.state.ahead.later; saves = f.state.ahead.saves; fall = f.state.ahead.fall; begun = f.state.ahead.begun; section = f.state.ahead.section };
      budget = record { turns = f.state.budget.turns; units = f.state.budget.units; shows = f.state.budget.shows; said = f.state.budget.said };
      section = f.state.section;
    };
    start = f.start;
    within = f.within;
  }

  drop_fits : (K : Shapes) (n : ℕ) (xs : List Object) → AllByRecursion (FitsObject K) xs → AllByRecursion (FitsObject K) (drop n xs)
  drop_fits K zero xs h = h
  drop_fits K (suc n) [] h = tt
  drop_fits K (suc n) (x ∷ xs) h = drop_fits K n xs h.1

  pub failed_fits : (V : World) (s : State) (x : Object) → Fits text V s → FitsObject V.shapes x → Fits text V (failed x s)
  failed_fits V s x f h = whole_operands text V s (with_failed x s.regs.operands) f (go (nat_lt 5000 (length s.regs.operands)))
    where
      go : (b : Bool) → AllByRecursion (FitsObject V.shapes) (cond b (x ∷ drop 1 s.regs.operands) (x ∷ s.regs.operands))
      go true = (h, drop_fits V.shapes 1 s.regs.operands f.state.registers.operands)
      go false = (h, f.state.registers.operands)

  pub error_dict_stands : (V : World) → StartStands V.shapes → (n : ℕ) × (V.shapes error_dict ≡ Some (shape.Dict n))
  error_dict_stands V s = (0, s.1.1.1.0)

begun_fits : (K : Shapes) (f : Frame) → FitsObject K (begun_by f)
begun_fits K (frame.Proc body i) = tt
begun_fits K (frame.Text x bytes place) = tt
begun_fits K (frame.For body next increment limit whole) = tt
begun_fits K (frame.Repeat body n) = tt
begun_fits K (frame.Loop body) = tt
begun_fits K (frame.Items array i body) = tt
begun_fits K (frame.Bytes string i body) = tt
begun_fits K (frame.Pairs pairs i body) = tt
begun_fits K frame.Stopped = tt
begun_fits K (frame.Show r) = tt
begun_fits K (frame.Image r) = tt
begun_fits K (frame.Walk w) = tt

module _ (P : Program) (T : LawfulTable P.table) where
  abbrev M : World → Move → Type 0
  M = FitsMove P.text

  -- ---- outcomes

  -- what a frame leaves on those below it
  abbrev Left : List Frame → World → Ending → Type 0
  Left fs V e = Fits P.text V (on fs e.state) × IsPaid 0 e.state

  show_lawful : (fs : List Frame) (r : ShowRun) (s : State) (V : World) → Fits P.text V (on (frame.Show r ∷ fs) s) → IsPaid 0 s → Lawful (leaves_show (P.table.leave r (on fs s)) (on fs s)) V (Left fs)
  show_lawful fs r s V f p = go (P.table.leave r (on fs s)).wipes refl
    where
      l : Leaving
      l = P.table.leave r (on fs s)

      z : Size
      z = page_size P.text l.regs

      u : State
      u = record s { regs = l.regs; frames = fs }

      law : SoundRegisters (record V { size = z }) l.regs × (l.wipes ≡ false → V.size ≡ z)
      law = T.leave r P.text (on fs s) V f

      after : Fits P.text (record V { size = z }) u
      after = with_regs P.text V z s fs (frame.Show r ∷ fs) l.regs f law.0 f.state.frames.1

      same : V.size ≡ z → Fits P.text V u
      same e = subst (λ y. Fits P.text (record V { size = y }) u) (sym e) after

      go : (b : Bool) → l.wipes ≡ b → Lawful (wiped b u (ends_so Stop u)) V (Left fs)
      go true e = (tt, refl, tt, tt, (after, p))
      go false e = (same (law.1 e), p)

  pushes_true : (fs : List Frame) (s : State) (V : World) → Fits P.text V (on fs s) → Fits P.text V (on fs (pushed (literal (kind.Boolean true)) (on fs s)))
  pushes_true fs s V f = whole_pushed P.text V (on fs s) (literal (kind.Boolean true)) f tt

  popped : (f : Frame) (fs : List Frame) (s : State) (V : World) → Fits P.text V (on (f ∷ fs) s) → Fits P.text V (on fs s)
  popped f fs s V h = record {
    state = record {
      registers = h.state.registers;
      frames = h.state.frames.1;
      ahead = h.state.ahead;
      budget = record { turns = h.state.budget.turns; units = h.state.budget.units; shows = h.state.budget.shows; said = h.state.budget.said };
      section = h.state.section;
    };
    start = h.start;
    within = h.within;
  }

  stops_lawful : (f : Frame) (fs : List Frame) (s : State) (V : World) → Fits P.text V (on (f ∷ fs) s) → IsPaid 0 s → Lawful (stops P f (on fs s)) V (Left fs)
  stops_lawful f fs s V h p = go f h
    where
      go : (g : Frame) → Fits P.text V (on (g ∷ fs) s) → Lawful (stops P g (on fs s)) V (Left fs)
      go frame.Stopped h = (pushes_true fs s V (popped frame.Stopped fs s V h), p)
      go (frame.Show r) h = show_lawful fs r s V h p
      go (frame.Proc body i) h = (popped (frame.Proc body i) fs s V h, p)
      go (frame.Text x bytes place) h = (popped (frame.Text x bytes place) fs s V h, p)
      go (frame.For body next increment limit whole) h = (popped (frame.For body next increment limit whole) fs s V h, p)
      go (frame.Repeat body n) h = (popped (frame.Repeat body n) fs s V h, p)
      go (frame.Loop body) h = (popped (frame.Loop body) fs s V h, p)
      go (frame.Items array i body) h = (popped (frame.Items array i body) fs s V h, p)
      go (frame.Bytes string i body) h = (popped (frame.Bytes string i body) fs s V h, p)
      go (frame.Pairs pairs i body) h = (popped (frame.Pairs pairs i body) fs s V h, p)
      go (frame.Image r) h = (popped (frame.Image r) fs s V h, p)
      go (frame.Walk w) h = (popped (frame.Walk w) fs s V h, p)

  leave_lawful : (f : Frame) (fs : List Frame) (o : Outcome) (s : State) (V : World) → Fits P.text V (on (f ∷ fs) s) → IsPaid 0 s → Lawful (leave P f o (on fs s)) V (Left fs)
  leave_lawful f fs Next s V h p = (popped f fs s V h, p)
  leave_lawful f fs Exit s V h p = go (is_loop (way f))
    where
      go : (b : Bool) → Lawful (cond b (ends_so Next (on fs s)) (ends_so Exit (on fs s))) V (Left fs)
      go true = (popped f fs s V h, p)
      go false = (popped f fs s V h, p)
  leave_lawful f fs Stop s V h p = stops_lawful f fs s V h p
  leave_lawful f fs Quit s V h p = (popped f fs s V h, p)
  leave_lawful f fs Spent s V h p = (popped f fs s V h, p)

  none : (fs : List Frame) (s : State) (V : World) → Fits P.text V (on fs s) → Fits P.text V (on [] s)
  none fs s V h = whole_on P.text V (on fs s) [] h tt

  unwound_lawful : (fs : List Frame) (o : Outcome) (s : State) (V : World) → Fits P.text V (on fs s) → IsPaid 0 s → Lawful (unwound P fs o s) V M
  unwound_lawful [] Next s V h p = (h, p)
  unwound_lawful [] Exit s V h p = h
  unwound_lawful [] Stop s V h p = h
  unwound_lawful [] Quit s V h p = h
  unwound_lawful [] Spent s V h p = h
  unwound_lawful (f ∷ fs) Next s V h p = (h, p)
  unwound_lawful (f ∷ fs) Exit s V h p =
      lawful_bind (leave P f Exit (on fs s)) (λ e. unwound P fs e.outcome e.state) V (Left fs) M (leave_lawful f fs Exit s V h p) (λ U e q. unwound_lawful fs e.outcome e.state U q.0 q.1)
  unwound_lawful (f ∷ fs) Stop s V h p =
      lawful_bind (leave P f Stop (on fs s)) (λ e. unwound P fs e.outcome e.state) V (Left fs) M (leave_lawful f fs Stop s V h p) (λ U e q. unwound_lawful fs e.outcome e.state U q.0 q.1)
  unwound_lawful (f ∷ fs) Quit s V h p =
      lawful_bind (leave P f Quit (on fs s)) (λ e. unwound P fs e.outcome e.state) V (Left fs) M (leave_lawful f fs Quit s V h p) (λ U e q. unwound_lawful fs e.outcome e.state U q.0 q.1)
  unwound_lawful (f ∷ fs) Spent s V h p =
      lawful_bind (leave P f Spent (on fs s)) (λ e. unwound P fs e.outcome e.state) V (Left fs) M (leave_lawful f fs Spent s V h p) (λ U e q. unwound_lawful fs e.outcome e.state U q.0 q.1)

  -- ---- acts

  shown_lawful : (wipe : Bool) (s : State) (m : State) (V : World) → m.regs ≡ s.regs → V.size ≡ page_size P.text s.regs → Fits P.text V m → IsPaid 0 m → Lawful (shows wipe s (ends (goes m))) V M
  shown_lawful wipe s m V r z f p = (tt, λ v a. go v a wipe)
    where
      fitting : (y : Size) → y ≡ page_size P.text s.regs → Fits P.text (record V { size = y }) m
      fitting y e = sized P.text V y m (e ∙ ap (page_size P.text) (sym r)) f

      go : (v : Value) → IsAnswer V loc.Paper v → (wipe : Bool) → Lawful (acts (store loc.Paper v) (acts (tell (picture (sheet_in v))) (cond wipe (acts (store loc.Paper (value.Paper (blank s.regs.state.wide s.regs.state.high))) (ends (goes m))) (ends (goes m))))) V M
      go (value.Paper q) a true = (tt, refl, tt, tt, (tt, refl, tt, tt, (fitting (page_size P.text s.regs) refl, p)))
      go (value.Paper q) a false = (tt, refl, tt, tt, (fitting (size_of q) (a ∙ z), p))
      go value.Absent a w = absurd a
      go (value.Object x) a w = absurd a
      go (value.Byte n) a w = absurd a
      go (value.Access x) a w = absurd a
      go (value.Keys ks) a w = absurd a
      go (value.Rand n) a w = absurd a

  both : (V : World) (fs : List Frame) (s : State) → Fits P.text V s → FitFrames V.shapes fs → Fits P.text V (on (fs ++ s.frames) s)
  both V fs s h k = whole_on P.text V s (fs ++ s.frames) h (all_both (FitsFrame V.shapes) fs s.frames k h.state.frames)

  moves_lawful : (x : Object) (a : Act) (fs : List Frame) (s : State) (V : World) → Fits P.text V s → FitFrames V.shapes fs → FitsAct V.shapes a → IsPaid 0 s → ((e : ErrorName) → a ≡ act.Fail e → FitsObject V.shapes x)
      → Lawful (moves_by P x a fs s) V M
  moves_lawful x act.Done fs s V h k b p g = (both V fs s h k, p)
  moves_lawful x (act.Body f) fs s V h k b p g = (both V (f ∷ fs) s h (b, k), p)
  moves_lawful x (act.Fail e) fs s V h k b p g = (h, g e refl, omega (arith, p))
  moves_lawful x act.Exit fs s V h k b p g = unwound_lawful (fs ++ s.frames) Exit s V (both V fs s h k) p
  moves_lawful x act.Stop fs s V h k b p g = unwound_lawful (fs ++ s.frames) Stop s V (both V fs s h k) p
  moves_lawful x act.Quit fs s V h k b p g = whole_on P.text V s [] h tt
  moves_lawful x (act.Say t) fs s V h k b p g = (both V fs s h k, p)
  moves_lawful x (act.Show w) fs s V h k b p g = shown_lawful w s (on (fs ++ s.frames) s) V refl h.state.registers.size (both V fs s h k) p
  moves_lawful x (act.Outer q) fs s V h k b p g = (both V fs s h k, p)

  -- what comes of an application that may take n names, in a state that has so many to give
  came_lawful : (x : Object) (n : ℕ) (t : State) (W V : World) (c : Came) → FitsObject W.shapes x → t.count + n ≤ 5 * t.turns + t.units → FitsCame P.text t n V c × Keeps t W V c → Lawful (moves P x c) V M
  came_lawful x n t W V c h p q =
      let f = q.0 in
      let k = q.1 in
      let turns : c.state.turns ≡ t.turns = k.0 in
      let paid : c.state.count + t.units ≤ t.count + n + c.state.units = f.paid in
      moves_lawful x c.act c.frames c.state V (record { state = f.state; start = f.start; within = f.within }) f.frames f.act (omega (arith, turns, paid, p)) (unfailed c.act k.2)
    where
      unfailed : (a : Act) → FailsAt W V a → (e : ErrorName) → a ≡ act.Fail e → FitsObject V.shapes x
      unfailed a g e i = subst (λ (U : World). FitsObject U.shapes x) (sym (fails a g e i)) h
        where
          fails : (a : Act) → FailsAt W V a → (e : ErrorName) → a ≡ act.Fail e → V ≡ W
          fails (act.Fail d) g e i = g
          fails act.Done g e i = absurd cc
          fails (act.Body f) g e i = absurd cc
          fails act.Exit g e i = absurd cc
          fails act.Stop g e i = absurd cc
          fails act.Quit g e i = absurd cc
          fails (act.Say t) g e i = absurd cc
          fails (act.Show w) g e i = absurd cc
          fails (act.Outer q) g e i = absurd cc

  applied_lawful : (x : Object) (a : Application Effect) (t : State) (W : World) → FitsObject W.shapes x → t.count + 4 ≤ 5 * t.turns + t.units → Lawful (applies t.frames a t) W (FitsCame P.text t 4) → Lawful (applies t.frames a t >>= moves P x) W M
  applied_lawful x a t W h p l =
      lawful_bind (applies t.frames a t) (moves P x) W (λ V c. FitsCame P.text t 4 V c × Keeps t W V c) M (lawful_keeps t.frames a t W (FitsCame P.text t 4) l) (λ V c q. came_lawful x 4 t W V c h p q)

  -- ---- turns

  turn_lawful : (x : Object) (a : State → Application Effect) (s : State) (W : World) → Fits P.text W s → FitsObject W.shapes x → IsPaid 1 s
      → ((t : State) → Fits P.text W t → Lawful (applies t.frames (a t) t) W (FitsCame P.text t 4)) → Lawful (move_turn P x a s) W M
  turn_lawful x a s W f h p l = go (left s) refl
    where
      go : (n : ℕ) → left s ≡ n → Lawful (taking n (ends (ended Spent (on [] s))) (λ t. applies t.frames (a t) t >>= moves P x) s) W M
      go zero e = whole_on P.text W s [] f tt
      go (suc n) e = applied_lawful x (a (counted s)) (counted s) W h (omega (arith, p)) (l (counted s) (whole_counted P.text W s n e f))

  execute_lawful : (x : Object) (s : State) (W : World) → Fits P.text W s → FitsObject W.shapes x → IsPaid 1 s → Lawful (move_turn P x (executes P x) s) W M
  execute_lawful x s W f h p = turn_lawful x (executes P x) s W f h p (λ t g. executes_lawful P T W t g x h)

  raise_lawful : (e : ErrorName) (x : Object) (s : State) (W : World) → Fits P.text W s → FitsObject W.shapes x → IsPaid 1 s → Lawful (move_raise P e x s) W M
  raise_lawful e x s W f h p = go (left s) refl
    where
      u : State
      u = failed x s

      g : Fits P.text W u
      g = failed_fits P.text W s x f h

      go : (n : ℕ) → left s ≡ n → Lawful (taking n (ends (ended Spent (on [] u))) (λ t. looks (error_entry e) (move_entry P e t)) u) W M
      go zero i = whole_on P.text W u [] g tt
      go (suc n) i = (
        error_dict_stands P.text W f.start,
        λ v a.
            let y : Object = entry_in e (length s.frames) v in
            let b = entry_fits W e (length s.frames) error_dict (key.Name (bytes_of e)) v a in
            applied_lawful y (runs_value P y (counted u)) (counted u) W b (omega (arith, p)) (runs_lawful P T W (counted u) (whole_counted P.text W u n i g) y b),
      )

  -- ---- procedures

  item_lawful : (body : Object) (c : Cell) (start i n size : ℕ) (s : State) (W : World) → Fits P.text W s → FitsObject W.shapes body → IsPaid 0 s → W.shapes c ≡ Some (shape.Array size) → start + i + n ≤ size
      → Lawful (move_item P body c start i n s) W M
  item_lawful body c start i zero size s W f h p e b = (f, p)
  item_lawful body c start i (suc zero) size s W f h p e b = ((size, e, omega (arith, b)), λ v a. execute_lawful (item_in v) s W f (item_fits W c (start + i) v a) (omega (arith, p)))
  item_lawful body c start i (suc (suc n)) size s W f h p e b =
      ((size, e, omega (arith, b)), λ v a. execute_lawful (item_in v) (under (stands (frame.Proc body (suc i))) s) W (whole_on P.text W s (frame.Proc body (suc i) ∷ s.frames) f (h, f.state.frames)) (item_fits W c (start + i) v a) (omega (arith, p)))

  procedure_lawful : (body : Object) (k : Kind) (i : ℕ) (s : State) (W : World) → Fits P.text W s → FitsObject W.shapes body → FitsCell W.shapes (cell_named k) (takes k) → IsPaid 0 s → Lawful (move_procedure P body k i s) W M
  procedure_lawful body (kind.Array part packed) i s W f h k p =
      let (size, e, b) = array_stands W.shapes part packed k in
      within (part.len - i) refl size e b
    where
      within : (n : ℕ) → part.len - i ≡ n → (size : ℕ) → W.shapes part.cell ≡ Some (shape.Array size) → part.start + part.len ≤ size → Lawful (move_item P body part.cell part.start i n s) W M
      within zero e size j b = (f, p)
      within (suc n) e size j b = item_lawful body part.cell part.start i (suc n) size s W f h p j (omega (arith, e, b))
  procedure_lawful body _ i s W f h k p = execute_lawful body s W f h (omega (arith, p))

  -- ---- steps

  -- a step of a frame, in a state that may have counted a turn
  steps_lawful : (f : Frame) (s t : State) (n : ℕ) (a : Act) (fs : List Frame) (r : State) (W V : World) → Fits P.text W (under (stands f) s) → IsPaid 1 s → t.count + n ≤ 5 * t.turns + t.units
      → FitsCame P.text t n V (record { act = a; frames = fs; state = r }) × Keeps (under (stands f) t) W V (record { act = a; frames = fs; state = r }) → Lawful (moves_step P f s a (record { act = a; frames = fs; state = r })) V M
  steps_lawful f s t n (act.Fail e) fs r W V h p b q =
      (subst (λ U. Fits P.text U (under (stands f) s)) (sym q.1.2) h, begun_fits V.shapes f, p)
  steps_lawful f s t n act.Done fs r W V h p b q = came_lawful (begun_by f) n t W V (record { act = act.Done; frames = fs; state = r }) (begun_fits W.shapes f) b (q.0, (q.1.0, q.1.1, tt))
  steps_lawful f s t n (act.Body g) fs r W V h p b q = came_lawful (begun_by f) n t W V (record { act = act.Body g; frames = fs; state = r }) (begun_fits W.shapes f) b (q.0, (q.1.0, q.1.1, tt))
  steps_lawful f s t n act.Exit fs r W V h p b q = came_lawful (begun_by f) n t W V (record { act = act.Exit; frames = fs; state = r }) (begun_fits W.shapes f) b (q.0, (q.1.0, q.1.1, tt))
  steps_lawful f s t n act.Stop fs r W V h p b q = came_lawful (begun_by f) n t W V (record { act = act.Stop; frames = fs; state = r }) (begun_fits W.shapes f) b (q.0, (q.1.0, q.1.1, tt))
  steps_lawful f s t n act.Quit fs r W V h p b q = came_lawful (begun_by f) n t W V (record { act = act.Quit; frames = fs; state = r }) (begun_fits W.shapes f) b (q.0, (q.1.0, q.1.1, tt))
  steps_lawful f s t n (act.Say w) fs r W V h p b q = came_lawful (begun_by f) n t W V (record { act = act.Say w; frames = fs; state = r }) (begun_fits W.shapes f) b (q.0, (q.1.0, q.1.1, tt))
  steps_lawful f s t n (act.Show w) fs r W V h p b q = came_lawful (begun_by f) n t W V (record { act = act.Show w; frames = fs; state = r }) (begun_fits W.shapes f) b (q.0, (q.1.0, q.1.1, tt))
  steps_lawful f s t n (act.Outer w) fs r W V h p b q = came_lawful (begun_by f) n t W V (record { act = act.Outer w; frames = fs; state = r }) (begun_fits W.shapes f) b (q.0, (q.1.0, q.1.1, tt))

  took_lawful : (f : Frame) (s t : State) (n : ℕ) (W : World) → Fits P.text W (under (stands f) s) → IsPaid 1 s → t.count + n ≤ 5 * t.turns + t.units
      → Lawful (applies_step P f t) W (FitsCame P.text t n) → Lawful (applies_step P f t >>= settle_move P f s) W M
  took_lawful f s t n W h p b l =
      let u : State = under (stands f) t in
      lawful_bind (applies_step P f t) (settle_move P f s) W (λ V c. FitsCame P.text t n V c × Keeps u W V c) M (lawful_keeps t.frames (P.table.step f P.text u) u W (FitsCame P.text t n) l)
      (λ V c q. steps_lawful f s t n c.act c.frames c.state W V h p b q)

  walk_lawful : (f : Frame) (s : State) (W : World) → takes_steps f ≡ true → Fits P.text W (under (stands f) s) → IsPaid 0 s → Lawful (move_walk P f s) W M
  walk_lawful f s W k h p = go (costs f) refl
    where
      paid : IsPaid 1 s
      paid = omega (arith, p)

      law : (t : State) → Fits P.text W (under (stands f) t) → (b : Bool) → costs f ≡ b → Lawful (applies_step P f t) W (FitsCame P.text t (names_in_turn b))
      law t g b e = subst (λ c. Lawful (applies_step P f t) W (FitsCame P.text t (names_in_turn c))) e (T.step f P.text t W k g)

      turn : (n : ℕ) → left s ≡ n → costs f ≡ true → Lawful (taking n (ends (ended Spent (on [] s))) (λ t. applies_step P f t >>= settle_move P f s) s) W M
      turn zero e c = none (f ∷ s.frames) s W h
      turn (suc n) e c = took_lawful f s (counted s) 4 W h paid (omega (arith, p)) (law (counted s) (whole_counted P.text W (under (stands f) s) n e h) true c)

      go : (b : Bool) → costs f ≡ b → Lawful (cond b (taking (left s) (ends (ended Spent (on [] s))) (λ t. applies_step P f t >>= settle_move P f s) s) (applies_step P f s >>= settle_move P f s)) W M
      go true e = turn (left s) refl e
      go false e = took_lawful f s s 0 W h paid (omega (arith, p)) (law s h false e)

  -- ---- texts

  spelt_lawful : (file : Object) (w : Spelt) (m : Move) (s : State) (W : World) → Fits P.text W s → FitsObject W.shapes file → FitsSpelt W w → IsPaid (unpaid w) s → (IsPaid 0 s → M W m) → Lawful (move_spelt P file w m s) W M
  spelt_lawful file nothing m s W f h k p g = g p
  spelt_lawful file (bad e) m s W f h k p g = (f, h, p)
  spelt_lawful file (object x) m s W f h k p g = execute_lawful x s W f k p

  none_of : (f : Frame) (s : State) (W : World) → Fits P.text W (under (stands f) s) → Fits P.text W s
  none_of f s W h = popped f s.frames s W h

  module _ (reading : ReadLaw) where
    cell_grows : (W V : World) → ((c : Cell) → W.shapes c ≢ None → V.shapes c ≡ W.shapes c) → (o : Option Cell) (t : Shape → Bool) → FitsCell W.shapes o t → FitsCell V.shapes o t
    cell_grows W V g None t h = tt
    cell_grows W V g (Some c) t h = (h.0, g c (λ e. apart h.0 (sym h.1 ∙ e)) ∙ h.1, h.2)

    paid_read : (s : State) (n : ℕ) (W V : World) (d : Read) → FitsRead P.text s n W V d → IsPaid 0 s → IsPaid (unpaid d.spelt) d.state
    paid_read s n W V d r p =
        let a : d.state.count + s.units ≤ s.count + unpaid d.spelt + d.state.units = r.paid in
        let b : d.state.turns ≡ s.turns = r.turns in
        omega (arith, a, b, p)

    text_lawful : (x : Object) (bytes : List ℕ) (place : ℕ) (s : State) (W : World) → Fits P.text W s → FitsObject W.shapes x → place ≤ length bytes → IsPaid 0 s → Lawful (reads (gather bytes place s) s >>= move_text P x bytes) W M
    text_lawful x bytes place s W f h b p =
        lawful_bind (reads (gather bytes place s) s) (move_text P x bytes) W (FitsRead P.text s (length bytes) W) M (reading P.text bytes place s W f b)
        (λ V d r.
        let k = cell_grows W V r.grows (cell_named x.kind) (takes x.kind) h in
        let q = paid_read s (length bytes) W V d r p in
        spelt_lawful x d.spelt (goes d.state) (under (stands (frame.Text x bytes d.place)) d.state) V
        (whole_on P.text V d.state (frame.Text x bytes d.place ∷ d.state.frames) r.state ((k, r.place), r.state.state.frames)) k r.spelt q (λ z. (r.state, z)))

    section_lawful : (s : State) (W : World) → Fits P.text W s → IsPaid 0 s → Lawful (reads (gather P.text s.place s) s >>= move_section P) W M
    section_lawful s W f p =
        lawful_bind (reads (gather P.text s.place s) s) (move_section P) W (FitsRead P.text s (length P.text) W) M (reading P.text P.text s.place s W f f.within)
        (λ V d r.
        let t : State = record d.state { place = d.place } in
        let g : Fits P.text V t = placed V d.state d.place r.state r.place in
        spelt_lawful (file_object d.state) d.spelt (ended Next (on [] t)) t V g tt r.spelt (paid_read s (length P.text) W V d r p) (λ z. whole_on P.text V t [] g tt))
      where
        placed : (V : World) (u : State) (n : ℕ) → Fits P.text V u → n ≤ length P.text → Fits P.text V (record u { place = n })
        placed V u n f b = record {
          state = record {
            registers = f.state.registers;
            frames = f.state.frames;
            ahead = f.state.ahead;
            budget = record { turns = f.state.budget.turns; units = f.state.budget.units; shows = f.state.budget.shows; said = f.state.budget.said };
            section = f.state.section;
          };
          start = f.start;
          within = b;
        }

    frame_lawful : (f : Frame) (s : State) (W : World) → Fits P.text W (under (stands f) s) → IsPaid 0 s → Lawful (move_frame P f s) W M
    frame_lawful (frame.Proc body i) s W h p = procedure_lawful body body.kind i s W (none_of (frame.Proc body i) s W h) h.state.frames.0 h.state.frames.0 p
    frame_lawful (frame.Text x bytes place) s W h p = text_lawful x bytes place s W (none_of (frame.Text x bytes place) s W h) h.state.frames.0.0 h.state.frames.0.1 p
    frame_lawful (frame.For body next increment limit whole) s W h p = walk_lawful (frame.For body next increment limit whole) s W refl h p
    frame_lawful (frame.Repeat body n) s W h p = walk_lawful (frame.Repeat body n) s W refl h p
    frame_lawful (frame.Loop body) s W h p = walk_lawful (frame.Loop body) s W refl h p
    frame_lawful (frame.Items array i body) s W h p = walk_lawful (frame.Items array i body) s W refl h p
    frame_lawful (frame.Bytes string i body) s W h p = walk_lawful (frame.Bytes string i body) s W refl h p
    frame_lawful (frame.Pairs pairs i body) s W h p = walk_lawful (frame.Pairs pairs i body) s W refl h p
    frame_lawful frame.Stopped s W h p = walk_lawful frame.Stopped s W refl h p
    frame_lawful (frame.Show q) s W h p = walk_lawful (frame.Show q) s W refl h p
    frame_lawful (frame.Image q) s W h p = walk_lawful (frame.Image q) s W refl h p
    frame_lawful (frame.Walk w) s W h p = walk_lawful (frame.Walk w) s W refl h p

    on_lawful : (fs : List Frame) (s : State) (W : World) → s.frames ≡ fs → Fits P.text W s → IsPaid 0 s → Lawful (move_on P fs s) W M
    on_lawful [] s W e f p = section_lawful s W f p
    on_lawful (f ∷ fs) s W e h p = frame_lawful f (on fs s) W (subst (λ u. Fits P.text W u) (ap (λ gs. on gs s) e) h) p

    pub step_lawful : (m : Move) (W : World) → FitsMove P.text W m → Lawful (step P m) W (FitsMove P.text)
    step_lawful (goes s) W h = on_lawful s.frames s W refl h.0 h.1
    step_lawful (raised e x s) W h = raise_lawful e x s W h.0 h.1 h.2
    step_lawful (ended o s) W h = h
