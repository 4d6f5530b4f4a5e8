-- One item of a procedure.
use Rattle.std.proofs.Common.{◌≡◌, ℕ, suc, ◌<◌, ◌+◌, ◌-◌, true, List, ◌∷◌, Some, None, refl, sym, ap, ◌∙◌, subst, arith}
use Rattle.ps_objects.specs.declared.cell.Cell.{Cell}
use Rattle.ps_objects.specs.declared.object.Object.{Object}
use Rattle.ps_objects.specs.declared.object.Kind.{Kind}
use Rattle.ps_objects.specs.declared.object.Kind.TheVariants as kind
use Rattle.ps_objects.specs.declared.objects.Interval.{Interval}
use Rattle.ps_objects.specs.declared.place.Loc.TheVariants as loc
use Rattle.ps_objects.specs.declared.place.Shape.TheVariants as shape
use Rattle.ps_kinds.specs.declared.frame.Frame.TheVariants as frame
use Rattle.ps_kinds.specs.declared.state.State.{State}
use Rattle.ps_memory.specs.Memory.{Memory, Output, value_at}
use Rattle.ps_meaning.specs.Answer.{Log, looked_in}
use Rattle.ps_objects.specs.Object.{cell_named}
use Rattle.ps_meaning.specs.Fits.{FitsCell, takes}
use Rattle.ps_meaning.specs.Registers.{world_of}
use Rattle.ps_meaning.specs.Sound.{World}
use Rattle.ps_meaning.proofs.Ground.{answered as look_answered}
use Rattle.ps_execution.specs.Execution.{on}
use Rattle.ps_execution.specs.Machine.{goes, move_item, move_procedure, move_turn}
use Rattle.ps_execution.specs.Objects.{executes, item_in}
use Rattle.ps_execution.specs.Reached.{reached, came}
use Rattle.ps_execution.specs.Table.{Program}
use Rattle.ps_execution.proofs.Lawful.{whole_on}
use Rattle.ps_execution.proofs.Objects.{array_stands, item_fits}
use Rattle.ps_steps.specs.Operators.{FitsHere}
use Rattle.ps_reader.specs.Reading.{IsReady}
use Rattle.ps_steps.specs.Procedures.{interval_of}
use Rattle.ps_steps.proofs.Moves.{more_ready}
use Rattle.ps_operator.specs.Standing.{is_array, is_named}
use Rattle.ps_operator.proofs.Standing.{named}
use Rattle.ps_steps.proofs.Turns.{ready_in}
use Rattle.ps_steps.proofs.Raises.{looked_ready}

-- which of the two it is
array_moves_so : (P : Program) (body : Object) (k : Kind) (i : ℕ) (s : State) (a : Interval) → interval_of k ≡ Some a → move_procedure P body k i s ≡ move_item P body a.cell a.start i (a.len - i) s
array_moves_so P body (kind.Array part packed) i s a e = ap (λ (v : Interval). move_item P body v.cell v.start i (v.len - i) s) (some_same e)
  where
    some_same : {X : Type 0} {x y : X} → Some x ≡ Some y → x ≡ y
    some_same e = cc
array_moves_so P body _ i s a e = absurd cc

pub array_moves : (P : Program) (body : Object) (i : ℕ) (s : State) (a : Interval) (log : Log) (out : List Output) → interval_of body.kind ≡ Some a → reached (move_procedure P body body.kind i s) log out ≡ reached (move_item P body a.cell a.start i (a.len - i) s) log out
array_moves P body i s a log out e = ap (λ t. reached t log out) (array_moves_so P body body.kind i s a e)

alone_moves_so : (P : Program) (body : Object) (k : Kind) (i : ℕ) (s : State) → interval_of k ≡ None → move_procedure P body k i s ≡ move_turn P body (executes P body) s
alone_moves_so P body (kind.Array part packed) i s e = absurd cc
alone_moves_so P body _ i s e = refl

pub alone_moves : (P : Program) (body : Object) (i : ℕ) (s : State) (log : Log) (out : List Output) → interval_of body.kind ≡ None → reached (move_procedure P body body.kind i s) log out ≡ reached (move_turn P body (executes P body) s) log out
alone_moves P body i s log out e = ap (λ t. reached t log out) (alone_moves_so P body body.kind i s e)

pub below_ready : (text : List ℕ) (body : Object) (i : ℕ) (s : State) (M : Memory) → IsReady 0 text (on (frame.Proc body i ∷ s.frames) s) M → IsReady 1 text s M
below_ready text body i s M r = record { fits = whole_on text (world_of s.section M) (on (frame.Proc body i ∷ s.frames) s) s.frames r.fits r.fits.state.frames.1; memory = r.memory; paid = (more_ready text (on (frame.Proc body i ∷ s.frames) s) M r).paid }

pub body_fits : (text : List ℕ) (body : Object) (i : ℕ) (s : State) (M : Memory) → IsReady 0 text (on (frame.Proc body i ∷ s.frames) s) M → FitsHere M body
body_fits text body i s M r = r.fits.state.frames.0

-- the array stands
pub array_here : (text : List ℕ) (body : Object) (a : Interval) (i : ℕ) (s : State) (M : Memory) → IsReady 0 text (on (frame.Proc body i ∷ s.frames) s) M → interval_of body.kind ≡ Some a → is_array M a ≡ true
array_here text body a i s M r e = go body.kind (named s M (ready_in text s M (below_ready text body i s M r)).ready body.kind r.fits.state.frames.0) e
  where
    go : (k : Kind) → is_named M k ≡ true → interval_of k ≡ Some a → is_array M a ≡ true
    go (kind.Array part packed) h e = let p : part ≡ a = cc in subst (λ b. is_array M b ≡ true) p h
    go _ h e = absurd cc

-- the item stands
item_in_range : (W : World) (k : Kind) (a : Interval) (i : ℕ) → FitsCell W.shapes (cell_named k) (takes k) → interval_of k ≡ Some a → i < a.len → (n : ℕ) × (W.shapes a.cell ≡ Some (shape.Array n)) × (a.start + i < n)
item_in_range W (kind.Array part packed) a i f e h =
    let (n, g, b) = array_stands W.shapes part packed f in
    let p : part ≡ a = cc in
    let x : part.cell ≡ a.cell = ap (λ (v : Interval). v.cell) p in
    let y : part.start ≡ a.start = ap (λ (v : Interval). v.start) p in
    let z : part.len ≡ a.len = ap (λ (v : Interval). v.len) p in
    (n, ap W.shapes (sym x) ∙ g, omega (arith, b, y, z, h))
item_in_range W _ a i f e h = absurd cc

module _ (text : List ℕ) (body : Object) (a : Interval) (i : ℕ) (s : State) (log : Log) (r : IsReady 0 text (on (frame.Proc body i ∷ s.frames) s) log.view) (e : interval_of body.kind ≡ Some a) (h : i < a.len) where
  abbrev W : World
  W = world_of s.section log.view

  range : (n : ℕ) × (W.shapes a.cell ≡ Some (shape.Array n)) × (a.start + i < n)
  range = item_in_range W body.kind a i r.fits.state.frames.0 e h

  pub item_fits_here : (there : Log) (x : Object) → there ≡ looked_in log (loc.Item a.cell (a.start + i)) → x ≡ item_in (value_at log.view (loc.Item a.cell (a.start + i))) → FitsHere there.view x
  item_fits_here there x l v =
      let f = item_fits W a.cell (a.start + i) (value_at log.view (loc.Item a.cell (a.start + i))) (look_answered W log.view r.memory (loc.Item a.cell (a.start + i)) range) in
      subst (λ (k : Log). FitsHere k.view x) (sym l) (subst (FitsHere log.view) (sym v) f)

  pub last_ready : (there : Log) → there ≡ looked_in log (loc.Item a.cell (a.start + i)) → IsReady 1 text s there.view
  last_ready there l = looked_ready 1 text s log there (loc.Item a.cell (a.start + i)) l (below_ready text body i s log.view r)

  pub rest_ready : (there : Log) → there ≡ looked_in log (loc.Item a.cell (a.start + i)) → IsReady 1 text (on (frame.Proc body (i + 1) ∷ s.frames) s) there.view
  rest_ready there l =
      subst (λ (k : Log). IsReady 1 text (on (frame.Proc body (i + 1) ∷ s.frames) s) k.view) (sym l)
      (record { fits = whole_on text W s (frame.Proc body (i + 1) ∷ s.frames) (below_ready text body i s log.view r).fits (r.fits.state.frames.0, r.fits.state.frames.1); memory = r.memory; paid = (below_ready text body i s log.view r).paid })

module _ (P : Program) (body : Object) (c : Cell) (start i : ℕ) (s : State) (log : Log) (out : List Output) where
  pub no_item : (n : ℕ) → n ≡ 0 → reached (move_item P body c start i n s) log out ≡ came (goes s) log out
  no_item n e = ap (λ m. reached (move_item P body c start i m s) log out) e

  pub last_item : (n : ℕ) (there : Log) (x : Object) → n ≡ 1 → there ≡ looked_in log (loc.Item c (start + i)) → x ≡ item_in (value_at log.view (loc.Item c (start + i)))
      → reached (move_item P body c start i n s) log out ≡ reached (move_turn P x (executes P x) s) there out
  last_item n there x e l v =
      ap (λ m. reached (move_item P body c start i m s) log out) e
      ∙ sym (ap (λ y. reached (move_turn P y (executes P y) s) (looked_in log (loc.Item c (start + i))) out) v)
      ∙ ap (λ k. reached (move_turn P x (executes P x) s) k out) (sym l)

  pub next_item : (n m : ℕ) (there : Log) (x : Object) → n ≡ suc (suc m) → there ≡ looked_in log (loc.Item c (start + i)) → x ≡ item_in (value_at log.view (loc.Item c (start + i)))
      → reached (move_item P body c start i n s) log out ≡ reached (move_turn P x (executes P x) (on (frame.Proc body (i + 1) ∷ s.frames) s)) there out
  next_item n m there x e l v =
      let j : suc i ≡ i + 1 = omega arith in
      ap (λ m. reached (move_item P body c start i m s) log out) e
      ∙ sym (ap (λ y. reached (move_turn P y (executes P y) (on (frame.Proc body (suc i) ∷ s.frames) s)) (looked_in log (loc.Item c (start + i))) out) v)
      ∙ ap (λ k. reached (move_turn P x (executes P x) (on (frame.Proc body (suc i) ∷ s.frames) s)) k out) (sym l)
      ∙ ap (λ q. reached (move_turn P x (executes P x) (on (frame.Proc body q ∷ s.frames) s)) there out) j
