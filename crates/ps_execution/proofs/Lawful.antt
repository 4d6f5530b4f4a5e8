-- Lawful trees, and states that fit.
use Rattle.std.proofs.Common.{◌≡◌, ℕ, suc, ◌≤◌, List, [], ◌∷◌, ◌++◌, refl, arith}
use Rattle.std.specs.Bool.{⊤}
use Rattle.std.specs.List.{AllByRecursion}
use Rattle.ps_objects.specs.declared.object.Object.{Object}
use Rattle.ps_kinds.specs.declared.act.Act.{Act}
use Rattle.ps_kinds.specs.declared.act.Act.TheVariants as act
use Rattle.ps_kinds.specs.declared.frame.Frame.{Frame}
use Rattle.ps_kinds.specs.declared.regs.Regs.{Regs}
use Rattle.ps_kinds.specs.declared.state.State.{State}
use Rattle.ps_memory.specs.Memory.{store, fresh, save, restore, tell}
use Rattle.ps_memory.specs.Tree.{Change, Application, done, restores, fail, look, ask, Tree, ends, looks, acts, asks, ◌>>=◌, changes}
use Rattle.ps_meaning.specs.Answer.{names_taken, Effect, act_done}
use Rattle.ps_meaning.specs.Fits.{FitsObject}
use Rattle.ps_meaning.specs.Registers.{SoundRegisters}
use Rattle.ps_meaning.specs.Sound.{World, Lawful, made, resized, saved_at, restored_to}
use Rattle.ps_execution.specs.Budgets.{left, counted}
use Rattle.ps_execution.specs.Execution.{on, Came, ends_effect, applies}
use Rattle.ps_execution.specs.Objects.{with_operands, pushed}
use Rattle.ps_meaning.specs.Budgets.{turn_budget, IsInBudget}
use Rattle.ps_meaning.specs.Ready.{FitFrames, FitsWorld, Fits}
use Rattle.ps_execution.proofs.Bind.{Leaves, leaves_changes}

-- ---- lawful trees

pub lawful_bind : {A B : Type 0} (t : Tree A) (k : A → Tree B) (W : World) (Q : World → A → Type 0) (R : World → B → Type 0)
    → Lawful t W Q → ((V : World) (a : A) → Q V a → Lawful (k a) V R) → Lawful (t >>= k) W R
lawful_bind (ends a) k W Q R l f = f W a l
lawful_bind (looks p g) k W Q R l f = (l.0, λ v h. lawful_bind (g v) k W Q R (l.1 v h) f)
lawful_bind (acts (store p v) t) k W Q R l f = (l.0, l.1, l.2, l.3, lawful_bind t k (resized p v W) Q R l.4 f)
lawful_bind (acts (fresh c sh) t) k W Q R l f = (l.0, lawful_bind t k (made c sh W) Q R l.1 f)
lawful_bind (acts (save s) t) k W Q R l f = (l.0, lawful_bind t k (saved_at s W) Q R l.1 f)
lawful_bind (acts (restore s) t) k W Q R l f = (l.0, lawful_bind t k (restored_to s W) Q R l.1 f)
lawful_bind (acts (tell o) t) k W Q R l f = lawful_bind t k W Q R l f
lawful_bind (asks c g) k W Q R l f = (l.0, lawful_bind (g _) k W Q R l.1 f)

-- with what holds of every leaf
pub lawful_leaves : {A : Type 0} (t : Tree A) (W : World) (Q : World → A → Type 0) (P : A → Type 0) → Lawful t W Q → Leaves P t → Lawful t W (λ V a. Q V a × P a)
lawful_leaves (ends a) W Q P l p = (l, p)
lawful_leaves (looks q g) W Q P l p = (l.0, λ v h. lawful_leaves (g v) W Q P (l.1 v h) (p v))
lawful_leaves (acts (store q v) t) W Q P l p = (l.0, l.1, l.2, l.3, lawful_leaves t (resized q v W) Q P l.4 p)
lawful_leaves (acts (fresh c sh) t) W Q P l p = (l.0, lawful_leaves t (made c sh W) Q P l.1 p)
lawful_leaves (acts (save s) t) W Q P l p = (l.0, lawful_leaves t (saved_at s W) Q P l.1 p)
lawful_leaves (acts (restore s) t) W Q P l p = (l.0, lawful_leaves t (restored_to s W) Q P l.1 p)
lawful_leaves (acts (tell o) t) W Q P l p = lawful_leaves t W Q P l p
lawful_leaves (asks c g) W Q P l p = (l.0, lawful_leaves (g _) W Q P l.1 (p _))

-- ---- states

pub all_both : {X : Type 0} (P : X → Type 0) (xs ys : List X) → AllByRecursion P xs → AllByRecursion P ys → AllByRecursion P (xs ++ ys)
all_both P [] ys h k = k
all_both P (x ∷ xs) ys h k = (h.0, all_both P xs ys h.1 k)

module _ (W : World) where
  pub in_budget_on : (s : State) (fs : List Frame) → IsInBudget s → IsInBudget (on fs s)
  in_budget_on s fs b = record { turns = b.turns; units = b.units; shows = b.shows; said = b.said }

  pub fits_on : (s : State) (fs : List Frame) → FitsWorld W s → FitFrames W.shapes fs → FitsWorld W (on fs s)
  fits_on s fs f h = record { registers = f.registers; frames = h; ahead = f.ahead; budget = in_budget_on s fs f.budget; section = f.section }

  pub registers_with : (R : Regs) (xs : List Object) → SoundRegisters W R → AllByRecursion (FitsObject W.shapes) xs → SoundRegisters W (record R { operands = xs })
  registers_with R xs r h = record { operands = h; dicts = r.dicts; bottom = r.bottom; state = r.state; states = r.states; marks = r.marks; size = r.size }

  pub fits_operands : (s : State) (xs : List Object) → FitsWorld W s → AllByRecursion (FitsObject W.shapes) xs → FitsWorld W (with_operands xs s)
  fits_operands s xs f h = record {
    registers = registers_with s.regs xs f.registers h;
    frames = f.frames;
    ahead = f.ahead;
    budget = record { turns = f.budget.turns; units = f.budget.units; shows = f.budget.shows; said = f.budget.said };
    section = f.section;
  }

  pub fits_pushed : (s : State) (x : Object) → FitsWorld W s → FitsObject W.shapes x → FitsWorld W (pushed x s)
  fits_pushed s x f h = fits_operands s (x ∷ s.regs.operands) f (h, f.registers.operands)

  pub fits_counted : (s : State) (n : ℕ) → left s ≡ suc n → FitsWorld W s → FitsWorld W (counted s)
  fits_counted s n e f =
      let b : s.turns ≤ turn_budget s.kind = f.budget.turns in
      record {
        registers = f.registers;
        frames = f.frames;
        ahead = f.ahead;
        budget = record { turns = omega (arith, e, b); units = f.budget.units; shows = f.budget.shows; said = f.budget.said };
        section = f.section;
      }

module _ (text : List ℕ) (W : World) where
  pub whole_on : (s : State) (fs : List Frame) → Fits text W s → FitFrames W.shapes fs → Fits text W (on fs s)
  whole_on s fs f h = record { state = fits_on W s fs f.state h; start = f.start; within = f.within }

  pub whole_pushed : (s : State) (x : Object) → Fits text W s → FitsObject W.shapes x → Fits text W (pushed x s)
  whole_pushed s x f h = record { state = fits_pushed W s x f.state h; start = f.start; within = f.within }

  pub whole_operands : (s : State) (xs : List Object) → Fits text W s → AllByRecursion (FitsObject W.shapes) xs → Fits text W (with_operands xs s)
  whole_operands s xs f h = record { state = fits_operands W s xs f.state h; start = f.start; within = f.within }

  pub whole_counted : (s : State) (n : ℕ) → left s ≡ suc n → Fits text W s → Fits text W (counted s)
  whole_counted s n e f = record { state = fits_counted W s n e f.state; start = f.start; within = f.within }

pub lawful_map : {A : Type 0} (t : Tree A) (W : World) (Q R : World → A → Type 0) → ((V : World) (a : A) → Q V a → R V a) → Lawful t W Q → Lawful t W R
lawful_map (ends a) W Q R f l = f W a l
lawful_map (looks q g) W Q R f l = (l.0, λ v h. lawful_map (g v) W Q R f (l.1 v h))
lawful_map (acts (store q v) t) W Q R f l = (l.0, l.1, l.2, l.3, lawful_map t (resized q v W) Q R f l.4)
lawful_map (acts (fresh c sh) t) W Q R f l = (l.0, lawful_map t (made c sh W) Q R f l.1)
lawful_map (acts (save s) t) W Q R f l = (l.0, lawful_map t (saved_at s W) Q R f l.1)
lawful_map (acts (restore s) t) W Q R f l = (l.0, lawful_map t (restored_to s W) Q R f l.1)
lawful_map (acts (tell o) t) W Q R f l = lawful_map t W Q R f l
lawful_map (asks c g) W Q R f l = (l.0, lawful_map (g _) W Q R f l.1)

-- a failure has done nothing
abbrev pub FailsAt : World → World → Act → Type 0
FailsAt W V (act.Fail e) = V ≡ W
FailsAt W V _ = ⊤

fails_not : (a : Act) (W V : World) → FailsAt W V (act_done a)
fails_not act.Done W V = tt
fails_not (act.Body f) W V = tt
fails_not (act.Fail e) W V = tt
fails_not act.Exit W V = tt
fails_not act.Stop W V = tt
fails_not act.Quit W V = tt
fails_not (act.Say t) W V = tt
fails_not (act.Show w) W V = tt
fails_not (act.Outer q) W V = tt

-- what an application keeps by itself
abbrev pub Keeps : State → World → World → Came → Type 0
Keeps s W V c = (c.state.turns ≡ s.turns) × (c.state.kind ≡ s.kind) × FailsAt W V c.act

abbrev KeepsAnywhere : State → World → Came → Type 0
KeepsAnywhere s W c = (V : World) → Keeps s W V c

kept_changes : (ws : List Change) (below : List Frame) (s : State) (e : Effect) (n : ℕ) (U W : World) (Q : World → Came → Type 0)
    → Lawful (changes ws (ends_effect n below s e)) U Q → Lawful (changes ws (ends_effect n below s e)) U (λ V c. Q V c × Keeps s W V c)
kept_changes ws below s e n U W Q l =
    let t = changes ws (ends_effect n below s e) in
    lawful_map t U (λ V c. Q V c × KeepsAnywhere s W c) (λ V c. Q V c × Keeps s W V c) (λ V c q. (q.0, q.1 V))
    (lawful_leaves t U Q (KeepsAnywhere s W) l (leaves_changes (KeepsAnywhere s W) ws (ends_effect n below s e) (λ V. (refl, refl, fails_not e.act W V))))

pub lawful_keeps : (below : List Frame) (a : Application Effect) (s : State) (W : World) (Q : World → Came → Type 0) → Lawful (applies below a s) W Q → Lawful (applies below a s) W (λ V c. Q V c × Keeps s W V c)
lawful_keeps below (done ws e) s W Q l = kept_changes ws below s e (names_taken ws) W W Q l
lawful_keeps below (restores r ws e) s W Q l = (l.0, kept_changes ws below s e (names_taken ws) (restored_to r W) W Q l.1)
lawful_keeps below (fail e) s W Q l = (l, (refl, refl, refl))
lawful_keeps below (look p g) s W Q l = (l.0, λ v h. lawful_keeps below (g v) s W Q (l.1 v h))
lawful_keeps below (ask c g) s W Q l = (l.0, lawful_keeps below (g _) s W Q l.1)
