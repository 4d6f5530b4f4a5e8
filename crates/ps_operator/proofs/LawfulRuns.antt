-- A lawful operator on a sound state is lawful as a run, and leaves a state that fits.
use Rattle.std.proofs.Common.{◌≡◌, ℕ, suc, ◌+◌, ◌<◌, ◌≤◌, Bool, true, false, cond, not, List, [], ◌∷◌, Option, Some, None, Ok, refl, sym, ap, ◌∙◌, subst, inl, inr, ◌⊎◌, true≢false, arith}
use Rattle.std.specs.List.{AllByRecursion}
use Rattle.std.specs.Cmp.{second_so}
use Rattle.std.specs.Ordering.{nat_cmp, is_gt, ordering_then}
use Rattle.ps_objects.specs.declared.place.Loc.{Loc}
use Rattle.ps_objects.specs.declared.place.Value.{Value}
use Rattle.ps_objects.specs.declared.cell.Cell.{Cell}
use Rattle.ps_objects.specs.declared.cell.SaveName.{SaveName}
use Rattle.ps_objects.specs.declared.place.Shape.{Shape}
use Rattle.ps_kinds.specs.declared.frame.Frame.{Frame}
use Rattle.ps_kinds.specs.declared.state.State.{State}
use Rattle.ps_memory.specs.Memory.{is_global, newer, same_save, standing_shape}
use Rattle.ps_memory.specs.Ownership.{same_cell}
use Rattle.ps_memory.specs.Frame.{later}
use Rattle.ps_memory.specs.Tree.{Change, puts, makes, opens, done, restores, fail, look, ask, ends, changes, applied}
use Rattle.ps_memory.proofs.Frame.{save_is}
use Rattle.ps_memory.proofs.Order.{cell_is}
use Rattle.ps_meaning.specs.Answer.{names_taken, state_done, Effect}
use Rattle.ps_meaning.specs.Fits.{Shapes}
use Rattle.ps_meaning.specs.Sound.{World, StartCell, named_at_start, start_cells, StartStands, without_newer, with_cell, has_name, made, resized, saved_at, names_before, restored_to, IsNew, IsNewSave, Lawful}
use Rattle.ps_operator.specs.Tree.{Ask}
use Rattle.ps_meaning.specs.Ready.{IsMadeBefore, Fall, IsAhead, Fits}
use Rattle.ps_operator.specs.Lawful.{Leaves, Changes, Lawfully, Ends, LawfulRunLaw}
use Rattle.ps_operator.proofs.Naming.{newer_made_before, above_means, above}

-- ---- the next name is new, and one further on is next

module _ (W : World) (n : ℕ) (h : IsAhead W n) where
  all_newer : (c : Cell) → is_global c ≡ false → c.section ≡ W.section → c.count ≡ n → (rs : List SaveName) → AllByRecursion (IsMadeBefore W.section n) rs → AllByRecursion (λ r. newer c r ≡ true) rs
  all_newer c g p q [] k = tt
  all_newer c g p q (r ∷ rs) k = (newer_made_before c n r g (subst (λ m. n ≤ m) (sym q) (omega arith)) (subst (λ m. IsMadeBefore m n r) (sym p) k.0), all_newer c g p q rs k.1)

  pub next_new : (c : Cell) → c.section ≡ W.section → c.count ≡ n → IsNew c W
  next_new c p q = (p, λ d e f. h.here d (e ∙ p) (subst (λ m. n ≤ m) (sym (f ∙ q)) (omega arith)), λ g. all_newer c g p q W.saves h.saves)

  before_more : (r : SaveName) → IsMadeBefore W.section n r → IsMadeBefore W.section (n + 1) r
  before_more r (inl l) = inl l
  before_more r (inr e) = inr (e.0, omega (arith, e.1))

  all_more : (rs : List SaveName) → AllByRecursion (IsMadeBefore W.section n) rs → AllByRecursion (IsMadeBefore W.section (n + 1)) rs
  all_more [] k = tt
  all_more (r ∷ rs) k = (before_more r k.0, all_more rs k.1)

  pub made_ahead : (c : Cell) (sh : Shape) → c.section ≡ W.section → c.count ≡ n → IsAhead (made c sh W) (n + 1)
  made_ahead c sh p q = record {
    here = λ d e l. go d (same_cell d c) refl (h.here d e (omega (arith, l))) (other d e l);
    later = λ d l. go d (same_cell d c) refl (h.later d l) (later_other d l);
    saves = all_more W.saves h.saves;
    fall = h.fall;
    begun = h.begun;
    section = h.section;
  }
    where
      go : (d : Cell) (b : Bool) → same_cell d c ≡ b → W.shapes d ≡ None → (d ≡ c → ⊥) → cond b (Some sh) (W.shapes d) ≡ None
      go d true e z k = absurd (k (cell_is d c e))
      go d false e z k = z

      other : (d : Cell) → d.section ≡ W.section → n + 1 ≤ d.count → d ≡ c → ⊥
      other d e l k = let m : d.count ≡ n = ap (λ (x : Cell). x.count) k ∙ q in omega (arith, l, m)

      later_other : (d : Cell) → W.section < d.section → d ≡ c → ⊥
      later_other d l k = let m : d.section ≡ W.section = ap (λ (x : Cell). x.section) k ∙ p in omega (arith, l, m)

  all_later : (s : SaveName) → s.section ≡ W.section → s.count ≡ n → (rs : List SaveName) → AllByRecursion (IsMadeBefore W.section n) rs → AllByRecursion (λ r. later s r ≡ true) rs
  all_later s p q [] k = tt
  all_later s p q (r ∷ rs) k = (above s.section s.count n r (subst (λ m. n ≤ m) (sym q) (omega arith)) (subst (λ m. IsMadeBefore m n r) (sym p) k.0), all_later s p q rs k.1)

  pub next_save : (s : SaveName) → s.section ≡ W.section → s.count ≡ n → IsNewSave s W
  next_save s p q = (p, λ c e. go c (above_means c.section c.count s.section s.count (second_so (not (is_global c)) (is_gt (ordering_then (nat_cmp c.section s.section) (nat_cmp c.count s.count))) e)), all_later s p q W.saves h.saves, subst (λ m. 1 ≤ m) (sym p) h.section)
    where
      go : (c : Cell) → ((s.section < c.section) ⊎ ((c.section ≡ s.section) × (s.count < c.count))) → W.shapes c ≡ None
      go c (inl l) = h.later c (subst (λ m. m < c.section) p l)
      go c (inr e) = h.here c (e.0 ∙ p) (subst (λ m. m ≤ c.count) q (omega (arith, e.1)))

  pub saved_ahead : (s : SaveName) → s.section ≡ W.section → s.count ≡ n → IsAhead (saved_at s W) (n + 1)
  saved_ahead s p q = record {
    here = λ d e l. h.here d e (omega (arith, l));
    later = h.later;
    saves = (inr (p, made_so s.count q), all_more W.saves h.saves);
    fall = (all_later s p q W.saves h.saves, h.fall);
    begun = (subst (λ m. 1 ≤ m) (sym p) h.section, h.begun);
    section = h.section;
  }
    where
      made_so : (m : ℕ) → m ≡ n → m < n + 1
      made_so m e = omega arith

  stored_ahead : (l : Loc) (v : Value) → IsAhead (resized l v W) n
  stored_ahead l v = record { here = h.here; later = h.later; saves = h.saves; fall = h.fall; begun = h.begun; section = h.section }

-- ---- the start cells stand

not_new : (W : World) (n : ℕ) → IsAhead W n → (c : Cell) (e : StartCell) → W.shapes c ≡ None → W.shapes (named_at_start e) ≡ Some e.shape → same_cell (named_at_start e) c ≡ false
not_new W n h c e u k = go (same_cell (named_at_start e) c) refl
  where
    apart : (sh : Shape) → Some sh ≡ None → ⊥
    apart sh e = cc

    go : (b : Bool) → same_cell (named_at_start e) c ≡ b → b ≡ false
    go true i = absurd (apart e.shape (sym k ∙ ap W.shapes (cell_is (named_at_start e) c i) ∙ u))
    go false i = refl

all_start : (K J : Shapes) → ((e : StartCell) → K (named_at_start e) ≡ Some e.shape → J (named_at_start e) ≡ Some e.shape) → (es : List StartCell)
    → AllByRecursion (λ e. K (named_at_start e) ≡ Some e.shape) es → AllByRecursion (λ e. J (named_at_start e) ≡ Some e.shape) es
all_start K J f [] h = tt
all_start K J f (e ∷ es) h = (f e h.0, all_start K J f es h.1)

start_made : (W : World) (n : ℕ) (c : Cell) (sh : Shape) → IsAhead W n → W.shapes c ≡ None → StartStands W.shapes → StartStands (with_cell c sh W.shapes)
start_made W n c sh h u k = all_start W.shapes (with_cell c sh W.shapes) (λ e i. ap (λ b. cond b (Some sh) (W.shapes (named_at_start e))) (not_new W n h c e u i) ∙ i) start_cells k

not_newer : (q : SaveName) (e : StartCell) → 1 ≤ q.section → newer (named_at_start e) q ≡ false
not_newer q e l = go (newer (named_at_start e) q) refl
  where
    none : ((q.section < 0) ⊎ ((0 ≡ q.section) × (q.count < e.count))) → ⊥
    none (inl k) = omega (arith, k)
    none (inr k) = let z : 0 ≡ q.section = k.0 in omega (arith, z, l)

    go : (b : Bool) → newer (named_at_start e) q ≡ b → b ≡ false
    go true i = absurd (none (above_means 0 e.count q.section q.count (second_so (not (is_global (named_at_start e))) (is_gt (ordering_then (nat_cmp 0 q.section) (nat_cmp e.count q.count))) i)))
    go false i = refl

start_restored : (q : SaveName) (K : Shapes) → 1 ≤ q.section → StartStands K → StartStands (without_newer q K)
start_restored q K l k = all_start K (without_newer q K) (λ e i. ap (λ b. cond b None (K (named_at_start e))) (not_newer q e l) ∙ i) start_cells k

-- a save that is open was not made in section 0
begun_here : (q : SaveName) (rs : List SaveName) → has_name q rs ≡ true → AllByRecursion (λ r. 1 ≤ r.section) rs → 1 ≤ q.section
begun_here q [] e h = absurd (true≢false (sym e))
begun_here q (r ∷ rs) e h = go (same_save q r) refl e (λ k. begun_here q rs k h.1)
  where
    go : (b : Bool) → same_save q r ≡ b → cond b true (has_name q rs) ≡ true → (has_name q rs ≡ true → 1 ≤ q.section) → 1 ≤ q.section
    go true i k f = subst (λ (x : SaveName). 1 ≤ x.section) (sym (save_is q r i)) h.0
    go false i k f = f k

pub restored_start : (q : SaveName) (W : World) (n : ℕ) → IsAhead W n → has_name q W.saves ≡ true → StartStands W.shapes → StartStands (without_newer q W.shapes)
restored_start q W n h e k = start_restored q W.shapes (begun_here q W.saves e h.begun) k

-- ---- the changes at an end

pub changes_lawful : {A : Type 0} (ws : List Change) (x : A) (W : World) (n : ℕ) (P : World → Type 0) (Q : World → A → Type 0) → IsAhead W n → StartStands W.shapes → Changes ws W n P
    → ((V : World) → V.section ≡ W.section → StartStands V.shapes → IsAhead V (n + names_taken ws) → P V → Q V x) → Lawful (changes ws (ends x)) W Q
changes_lawful [] x W n P Q h st c q = q W refl st (subst (IsAhead W) (none n) h) c
  where
    none : (n : ℕ) → n ≡ n + 0
    none n = omega arith
changes_lawful (puts l v ∷ ws) x W n P Q h st c q = (c.0, c.1, c.2, c.3, changes_lawful ws x (resized l v W) n P Q (stored_ahead W n h l v) st c.4 q)
changes_lawful (makes d sh ∷ ws) x W n P Q h st c q = (
  next_new W n h d c.0 c.1,
  changes_lawful ws x (made d sh W) (n + 1) P Q (made_ahead W n h d sh c.0 c.1) (start_made W n d sh h (h.here d c.0 (subst (λ m. n ≤ m) (sym c.1) (omega arith))) st) c.2
      (λ V e st a p. q V e st (subst (IsAhead V) (later_on n (names_taken ws)) a) p),
)
  where
    later_on : (n k : ℕ) → n + 1 + k ≡ n + suc k
    later_on n k = omega arith
changes_lawful (opens s ∷ ws) x W n P Q h st c q = (
  next_save W n h s c.0 c.1,
  changes_lawful ws x (saved_at s W) (n + 1) P Q (saved_ahead W n h s c.0 c.1) st c.2 (λ V e st a p. q V e st (subst (IsAhead V) (later_on n (names_taken ws)) a) p),
)
  where
    later_on : (n k : ℕ) → n + 1 + k ≡ n + suc k
    later_on n k = omega arith

-- ---- a restore

all_before : (q : SaveName) (P : SaveName → Type 0) (rs : List SaveName) → AllByRecursion P rs → AllByRecursion P (names_before q rs)
all_before q P [] h = tt
all_before q P (r ∷ rs) h = go (same_save q r) h.1 (all_before q P rs h.1)
  where
    go : (b : Bool) → AllByRecursion P rs → AllByRecursion P (names_before q rs) → AllByRecursion P (cond b rs (names_before q rs))
    go true a k = a
    go false a k = k

fall_before : (q : SaveName) (rs : List SaveName) → Fall rs → Fall (names_before q rs)
fall_before q [] h = tt
fall_before q (r ∷ rs) h = go (same_save q r) h.1 (fall_before q rs h.1)
  where
    go : (b : Bool) → Fall rs → Fall (names_before q rs) → Fall (cond b rs (names_before q rs))
    go true a k = a
    go false a k = k

pub restored_ahead : (q : SaveName) (W : World) (n : ℕ) → IsAhead W n → IsAhead (restored_to q W) n
restored_ahead q W n h = record { here = λ d e l. go (newer d q) (W.shapes d) (h.here d e l); later = λ d l. go (newer d q) (W.shapes d) (h.later d l); saves = all_before q (IsMadeBefore W.section n) W.saves h.saves; fall = fall_before q W.saves h.fall; begun = all_before q (λ r. 1 ≤ r.section) W.saves h.begun; section = h.section }
  where
    go : (b : Bool) (o : Option Shape) → o ≡ None → cond b None o ≡ None
    go true o e = refl
    go false o e = e

-- ---- applications

left_fits : (text : List ℕ) (most : ℕ) (below : List Frame) (s : State) (e : Effect) (W V : World) (n : ℕ) → Fits text W s → V.section ≡ W.section → StartStands V.shapes → IsAhead V (s.count + n) → Leaves text most below s n e V → Fits text V (state_done n below s e)
left_fits text most below s e W V n f p st a l = record {
  state = record { registers = l.registers; frames = l.frames; ahead = a; budget = l.budget; section = p ∙ f.state.section };
  start = st;
  within = l.within;
}

pub lawful_run : (text : List ℕ) (most : ℕ) (below : List Frame) (a : Ask) (s : State) (W : World) → Fits text W s → Lawfully text most below a s W → Lawful (applied a) W (Ends text most below s W)
lawful_run text most below (done ws e) s W f h =
    changes_lawful ws (Ok e) W s.count (Leaves text most below s (names_taken ws) e) (Ends text most below s W) f.state.ahead f.start h
    (λ V p st a l. (names_taken ws, left_fits text most below s e W V (names_taken ws) f p st a l, l.act, l.names))
lawful_run text most below (restores r ws e) s W f h = (
  h.0,
  changes_lawful ws (Ok e) (restored_to r W) s.count (Leaves text most below s (names_taken ws) e) (Ends text most below s W) (restored_ahead r W s.count f.state.ahead) (restored_start r W s.count f.state.ahead h.0 f.start) h.1
      (λ V p st a l. (names_taken ws, left_fits text most below s e W V (names_taken ws) f p st a l, l.act, l.names)),
)
lawful_run text most below (fail e) s W f h = refl
lawful_run text most below (look l k) s W f h = (h.0, λ v q. lawful_run text most below (k v) s W f (h.1 v q))
lawful_run text most below (ask c k) s W f h = (h.0, lawful_run text most below (k (standing_shape (W.shapes c))) s W f h.1)

pub lawful_run_law : LawfulRunLaw
lawful_run_law text most below a s W f h = lawful_run text most below a s W f h.lawful
