-- New cells: their names, and the changes that make them.
use Rattle.std.proofs.Common.{◌≡◌, ◌≢◌, ℕ, zero, suc, ◌+◌, ◌<◌, ◌≤◌, ◌%◌, Bool, true, false, List, [], ◌∷◌, ◌++◌, drop, length, get_or, Some, slice_get, refl, sym, ap, ◌∙◌, subst, arith}
use Rattle.ps_objects.specs.Object.{whole_of}
use Rattle.ps_objects.specs.declared.cell.Cell.{Cell}
use Rattle.ps_objects.specs.declared.cell.Space.{Space}
use Rattle.ps_objects.specs.declared.object.Object.{Object}
use Rattle.ps_objects.specs.declared.place.Loc.TheVariants as loc
use Rattle.ps_objects.specs.declared.place.Shape.TheVariants as shape
use Rattle.ps_objects.specs.declared.place.Value.TheVariants as value
use Rattle.ps_kinds.specs.declared.state.State.{State}
use Rattle.ps_memory.specs.Memory.{Memory, fresh}
use Rattle.ps_memory.specs.Tree.{Change, puts, makes, opens, action_of}
use Rattle.ps_meaning.specs.Answer.{Log, acted_in, changed_in, names_taken}
use Rattle.ps_meaning.specs.Ready.{Ready}
use Rattle.vm_mem.specs.Conditions.{MayMake}
use Rattle.ps_operator.specs.Making.{space_of, cell_after}
use Rattle.ps_operator.specs.Standing.{Stays, StaysBeside}
use Rattle.ps_operator.specs.Storing.{byte_stores, item_stores}
use Rattle.ps_operator.proofs.LookSteps.{drop_at_get}
use Rattle.ps_operator.proofs.Naming.{after_free}
use Rattle.ps_execution.specs.Gather.{mode_space, stores_items, stores_bytes}
use Rattle.ps_gather.specs.Cells.{cell_at, IsSmall, AreSmall, made_of, changes_of}
use Rattle.ps_gather.specs.declared.cells.Content.{Content}
use Rattle.ps_gather.specs.declared.cells.Content.TheVariants.{Bytes, Items}

-- ---- names

same_space : (g : Bool) → space_of g ≡ mode_space g
same_space true = refl
same_space false = refl

abbrev in_space : State → ℕ → Space → Cell
in_space s n x = record { section = s.section; count = s.count + n; space = x }

pub same_cell : (s : State) (n : ℕ) → cell_after s n ≡ cell_at s n
same_cell s n = ap (in_space s n) (same_space s.regs.global)

pub free_first : (s : State) (M : Memory) (n : ℕ) → Ready s M → MayMake M (cell_at s n)
free_first s M n r = subst (MayMake M) (same_cell s n) (after_free s M r n)

pub free_on : (s : State) (M N : Memory) (i n : ℕ) → StaysBeside (cell_at s i) M N → i + 1 ≤ n → MayMake M (cell_at s n) → MayMake N (cell_at s n)
free_on s M N i n h l m = h.free (cell_at s n) apart m
  where
    apart : s.count + n ≢ s.count + i
    apart e = omega (arith, e, l)

-- ---- what is made stands beside what stood

pub stays_then : (c : Cell) (L M N : Memory) → StaysBeside c L M → Stays M N → StaysBeside c L N
stays_then c L M N p q = record {
  dicts = λ d h. q.dicts d (p.dicts d h);
  arrays = λ a h. q.arrays a (p.arrays a h);
  strings = λ a h. q.strings a (p.strings a h);
  page = λ h. q.page (p.page h);
  free = λ d n h. q.free d (p.free d n h);
}

-- ---- the stores of a new cell

nothing_more : (i : ℕ) → 0 + i ≡ i
nothing_more i = omega arith

one_more : (i : ℕ) → i + 1 ≡ suc i
one_more i = omega arith

items_same : (c : Cell) (n i : ℕ) (xs : List Object) → item_stores (whole_of c n) i xs ≡ stores_items c i xs
unfolding item_stores
items_same c n i [] = refl
items_same c n i (x ∷ xs) =
    ap (λ j. puts (loc.Item c j) (value.Object x) ∷ item_stores (whole_of c n) (i + 1) xs) (nothing_more i)
    ∙ ap (λ j. puts (loc.Item c i) (value.Object x) ∷ item_stores (whole_of c n) j xs) (one_more i)
    ∙ ap (λ ws. puts (loc.Item c i) (value.Object x) ∷ ws) (items_same c n (suc i) xs)

small_byte : (b : ℕ) → b < 256 → b ≡ b % 256
small_byte b h = grind (arith, h)

abbrev pub AreBytes : List ℕ → Type 0
AreBytes bs = (k : ℕ) → get_or bs k 0 < 256

bytes_same : (c : Cell) (n i : ℕ) (bs : List ℕ) → AreBytes bs → byte_stores (whole_of c n) i bs ≡ stores_bytes c i bs
unfolding byte_stores
bytes_same c n i [] h = refl
bytes_same c n i (b ∷ bs) h =
    ap (λ j. puts (loc.Byte c j) (value.Byte b) ∷ byte_stores (whole_of c n) (i + 1) bs) (nothing_more i)
    ∙ ap (λ j. puts (loc.Byte c i) (value.Byte b) ∷ byte_stores (whole_of c n) j bs) (one_more i)
    ∙ ap (λ a. puts (loc.Byte c i) (value.Byte a) ∷ byte_stores (whole_of c n) (suc i) bs) (small_byte b (h 0))
    ∙ ap (λ ws. puts (loc.Byte c i) (value.Byte (b % 256)) ∷ ws) (bytes_same c n (suc i) bs (λ k. h (suc k)))

pub array_made : (old between new : Log) (c : Cell) (n : ℕ) (xs : List Object) → n ≡ length xs → between ≡ acted_in old (fresh c (shape.Array n))
    → new ≡ changed_in between (item_stores (whole_of c n) 0 xs) → new ≡ changed_in old (made_of c (Items xs))
array_made old between new c n xs e f g =
    g ∙ ap (changed_in between) (items_same c n 0 xs)
    ∙ ap (λ l. changed_in l (stores_items c 0 xs)) (f ∙ ap (λ m. acted_in old (fresh c (shape.Array m))) e)

pub string_made : (old between new : Log) (c : Cell) (n : ℕ) (bs : List ℕ) → AreBytes bs → n ≡ length bs → between ≡ acted_in old (fresh c (shape.Str n))
    → new ≡ changed_in between (byte_stores (whole_of c n) 0 bs) → new ≡ changed_in old (made_of c (Bytes bs))
string_made old between new c n bs h e f g =
    g ∙ ap (changed_in between) (bytes_same c n 0 bs h)
    ∙ ap (λ l. changed_in l (stores_bytes c 0 bs)) (f ∙ ap (λ m. acted_in old (fresh c (shape.Str m))) e)

-- ---- cells one by one

changed_both : (log : Log) (ws vs : List Change) → changed_in log (ws ++ vs) ≡ changed_in (changed_in log ws) vs
changed_both log [] vs = refl
changed_both log (w ∷ ws) vs = changed_both (acted_in log (action_of w)) ws vs

pub made_step : (s : State) (i : ℕ) (xs : List Content) (x : Content) (log new : Log) → slice_get xs i ≡ Some x → new ≡ changed_in log (made_of (cell_at s i) x)
    → changed_in log (changes_of s i (drop i xs)) ≡ changed_in new (changes_of s (i + 1) (drop (i + 1) xs))
made_step s i xs x log new e g =
    ap (λ ys. changed_in log (changes_of s i ys)) (drop_at_get xs i x e)
    ∙ changed_both log (made_of (cell_at s i) x) (changes_of s (suc i) (drop (i + 1) xs))
    ∙ ap (λ l. changed_in l (changes_of s (suc i) (drop (i + 1) xs))) (sym g)
    ∙ ap (λ j. changed_in new (changes_of s j (drop (i + 1) xs))) (sym (one_more i))

all_dropped : {A : Type 0} (xs : List A) (i : ℕ) → i ≡ length xs → drop i xs ≡ []
all_dropped [] zero e = refl
all_dropped [] (suc i) e = refl
all_dropped (x ∷ xs) zero e = absurd (omega arith)
all_dropped (x ∷ xs) (suc i) e = all_dropped xs i (omega (arith, e))

pub made_end : (s : State) (i : ℕ) (xs : List Content) (log : Log) → i ≡ length xs → changed_in log (changes_of s i (drop i xs)) ≡ log
made_end s i xs log e = ap (λ ys. changed_in log (changes_of s i ys)) (all_dropped xs i e)

pub small_at : (xs : List Content) (i : ℕ) (x : Content) → AreSmall xs → slice_get xs i ≡ Some x → IsSmall x
small_at [] i x h e = cc
small_at (y ∷ ys) zero x h e = let p : y ≡ x = cc in subst IsSmall p h.0
small_at (y ∷ ys) (suc i) x h e = small_at ys i x h.1 e

-- ---- the names that cells take

pub items_unnamed : (c : Cell) (i : ℕ) (xs : List Object) → names_taken (stores_items c i xs) ≡ 0
items_unnamed c i [] = refl
items_unnamed c i (x ∷ xs) = items_unnamed c (suc i) xs

pub bytes_unnamed : (c : Cell) (i : ℕ) (bs : List ℕ) → names_taken (stores_bytes c i bs) ≡ 0
bytes_unnamed c i [] = refl
bytes_unnamed c i (b ∷ bs) = bytes_unnamed c (suc i) bs

names_both : (xs ys : List Change) → names_taken (xs ++ ys) ≡ names_taken xs + names_taken ys
names_both [] ys = omega arith
names_both (puts l v ∷ xs) ys = names_both xs ys
names_both (makes c sh ∷ xs) ys = let e = names_both xs ys in omega (arith, e)
names_both (opens s ∷ xs) ys = let e = names_both xs ys in omega (arith, e)

made_named : (c : Cell) (x : Content) → names_taken (made_of c x) ≡ 1
made_named c (Bytes bs) = ap suc (bytes_unnamed c 0 bs)
made_named c (Items xs) = ap suc (items_unnamed c 0 xs)

-- each cell takes one
pub cells_named : (s : State) (n : ℕ) (xs : List Content) → names_taken (changes_of s n xs) ≡ length xs
cells_named s n [] = refl
cells_named s n (x ∷ xs) =
    let a = names_both (made_of (cell_at s n) x) (changes_of s (suc n) xs) in
    let b = made_named (cell_at s n) x in
    let d = cells_named s (suc n) xs in
    omega (arith, a, b, d)

-- one more cell at the end
pub cells_more : (s : State) (n : ℕ) (xs : List Content) (x : Content) → changes_of s n (xs ++ x ∷ []) ≡ changes_of s n xs ++ made_of (cell_at s (n + length xs)) x
cells_more s n [] x = append_nil (made_of (cell_at s n) x) ∙ ap (λ m. made_of (cell_at s m) x) (plus_none n)
  where
    append_nil : (ws : List Change) → ws ++ [] ≡ ws
    append_nil [] = refl
    append_nil (w ∷ ws) = ap (λ vs. w ∷ vs) (append_nil ws)

    plus_none : (n : ℕ) → n ≡ n + 0
    plus_none n = omega arith
cells_more s n (y ∷ ys) x =
    ap (λ ws. made_of (cell_at s n) y ++ ws) (cells_more s (suc n) ys x)
    ∙ ap (λ m. made_of (cell_at s n) y ++ (changes_of s (suc n) ys ++ made_of (cell_at s m) x)) (moved n (length ys))
    ∙ assoc (made_of (cell_at s n) y) (changes_of s (suc n) ys) (made_of (cell_at s (n + suc (length ys))) x)
  where
    moved : (n m : ℕ) → suc n + m ≡ n + suc m
    moved n m = omega arith

    assoc : (us vs ws : List Change) → us ++ (vs ++ ws) ≡ (us ++ vs) ++ ws
    assoc [] vs ws = refl
    assoc (u ∷ us) vs ws = ap (λ xs. u ∷ xs) (assoc us vs ws)
